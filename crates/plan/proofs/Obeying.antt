-- What a plan answers to a call, by what the journal says of it.
use Rattle.std.proofs.Common.{◌≡◌, ℕ, List, IsErrAnd, Some, None, Ok, Err, Option, Result, sym, ap, ◌∙◌, subst, arith}
use Rattle.reserved.specs.Held.{held}
use mathlib.Core.Logic.{∥∥₁_map}
use Rattle.flow.specs.Flows.{FlowSpec}
use Rattle.flow.specs.Outcomes.{unless, given}
use Rattle.flow.proofs.Checks.{checked}
use Rattle.table.specs.declared.fault.PlanFault.{PlanFault}
use Rattle.plan.specs.declared.channels.ChannelMap.{ChannelMap}
use Rattle.plan.specs.declared.phase.Phase.{Ghosts}
use Rattle.plan.specs.declared.plan.Plan.{Plan}
use Rattle.plan.specs.declared.reversal.Reversal.{Reversal}
use Rattle.calls.specs.Calls.{Call}
use Rattle.plan.specs.Journal.{Change, Journal, noted, called, answer, left, after}
use Rattle.plan.specs.Follows.{Follows, Sound}
use Rattle.plan.specs.Plans.{After, Obeys}
use Rattle.plan.proofs.Following.{more, full_fault, room-passed, room_refused}

-- a value that was let through is the one given
pub value_same : {A E : Type 0} (o : Option E) (x y : A) → Ok y ≡ unless o (Ok x) → y ≡ x
value_same None x y h = cc
value_same (Some g) x y h = absurd (grind arith)

module _ {P : Type 0} {phase : Ghosts P} (before : Plan P phase) where
  -- r is the answer of the journal that the plan follows, and these follow the journal after the call
  abbrev pub Outcome : Call → Result (Unit {0}) PlanFault → List FlowSpec → ChannelMap → List Reversal → Type 0
  Outcome call r flows map changes =
      (j : Journal) → After j before → (r ≡ answer call j) × Follows (after call j) flows map changes

  -- whatever journal j the plan follows, these follow `step j`
  abbrev pub Moves : (Journal → Journal) → List FlowSpec → ChannelMap → List Reversal → Type 0
  Moves step flows map changes = (j : Journal) → After j before → Follows (step j) flows map changes

  module _ {flows : List FlowSpec} {map : ChannelMap} {changes : List Reversal} (step : Journal → Journal) where
    -- these follow some journal, since the plan does
    pub sounds : Moves step flows map changes → Sound flows map changes
    sounds moves = ∥∥₁_map before.sound (λ x. (step x.0, moves x.0 x.1))

    -- a call that the journal grants is answered so
    pub granted : (call : Call) → ((j : Journal) → After j before → called call j ≡ Ok (step j)) →
        Moves step flows map changes → Outcome call (Ok tt) flows map changes
    granted call grants moves j f =
        let is = grants j f in
        (sym (ap (given (λ _. tt)) is), subst (λ r. Follows (left r j) flows map changes) (sym is) (moves j f))

  module _ (call : Call) where
    -- a call that the journal refuses with e is refused with e, and the plan stays
    pub refused : (r : Result (Unit {0}) PlanFault) (e : PlanFault) → IsErrAnd r (λ y. y ≡ e) →
        ((j : Journal) → After j before → called call j ≡ Err e) → Obeys call before before r
    refused (Ok u) e by denies j f = absurd by
    refused (Err y) e by denies j f =
        let is = denies j f in
        (ap Err by ∙ sym (ap (given (λ _. tt)) is), subst (λ r. After (left r j) before) (sym is) f)

    module _ (flow : Option ℕ) (c : Change) (calls : (j : Journal) → After j before → called call j ≡ noted flow c j) where
      -- a change that the list has no place for is refused
      pub list-refused : (r : Result (Unit {0}) PlanFault) (e : PlanFault) → IsErrAnd r (λ y. y ≡ e) →
          Err e ≡ checked (full_fault flow (held before.changes)) → Obeys call before before r
      list-refused r e by full = refused r e by (λ j f. calls j f ∙ room_refused f flow c e full)

      -- a change that it has a place for is granted
      pub list-granted : {flows : List FlowSpec} {map : ChannelMap} {changes : List Reversal} (u : Unit {0}) →
          Ok u ≡ checked (full_fault flow (held before.changes)) → Moves (more c) flows map changes →
          Outcome call (Ok tt) flows map changes
      list-granted u room moves = granted (more c) call (λ j f. calls j f ∙ room-passed f flow c u room) moves
