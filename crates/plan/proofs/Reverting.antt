-- Undo: the newest change taken back.
use Rattle.std.proofs.Common.{◌≡◌, ℕ, ◌+◌, ◌-◌, ◌<◌, Bool, true, false, eqb, List, [], ◌∷◌, ◌++◌, length, take, slice_get, Some, None, Ok, Err, Option, sym, refl, ap, ◌∙◌, subst, arith, length-append}
use Rattle.std.proofs.lemmas.Bool.{ne_eqb}
use Rattle.std.proofs.lemmas.List.{take_more}
use Rattle.std.proofs.lemmas.Option.{slice_get_within, get_or_from_slice_get, slice_get-get_or}
use Rattle.std.proofs.Math.Seq.{take-length}
use Rattle.std.specs.Option.{ok_or}
use Rattle.reserved.specs.Held.{held}
use Rattle.flow.specs.declared.traffic.Flow.{Flow}
use Rattle.flow.specs.Flows.{FlowSpec, flow_spec}
use Rattle.flow.specs.Outcomes.{unless}
use Rattle.table.specs.declared.fault.PlanRule.TheVariants.{Nothing}
use Rattle.table.specs.Force.{in_force, enter, leave}
use Rattle.table.specs.Vetting.{at_no_flow, when}
use Rattle.table.proofs.Order.{length-enter}
use Rattle.plan.specs.declared.channels.ChannelMap.{ChannelMap}
use Rattle.plan.specs.declared.phase.Phase.{Ghosts}
use Rattle.plan.specs.declared.plan.Plan.{Plan}
use Rattle.plan.specs.declared.reversal.Reversal.{Reversal}
use Rattle.plan.specs.declared.reversal.Reversal.TheVariants.{Remove, Insert, Restore}
use Rattle.calls.specs.Calls.{undo}
use Rattle.plan.specs.Journal.{Journal, play_all, fresh, standing, but_newest, called}
use Rattle.plan.specs.Follows.{Fits, Undoes, Follows}
use Rattle.plan.proofs.Following.{list_same}
use Rattle.plan.proofs.Obeying.{Outcome, Moves, granted}
use Rattle.plan.proofs.Undoing.{Struck, undoes_pop}

-- the journal without its newest change
abbrev pub fewer : Journal → Journal
fewer j = record { settled = j.settled; listed = but_newest j.listed }

module _ {j : Journal} {flows : List FlowSpec} {map : ChannelMap} {changes : List Reversal} (f : Follows j flows map changes) where
  -- the journal's answer goes by the plan's own list
  undo_decides : (b : Bool) → b ≡ eqb (length changes) 0 → called undo j ≡ unless (when b (at_no_flow Nothing)) (Ok (fewer j))
  undo_decides b e =
      ap (λ x. unless (when x (at_no_flow Nothing)) (Ok (fewer j))) (ap (λ n. eqb n 0) (sym (list_same f)) ∙ sym e)

  -- where nothing is listed the journal refuses
  pub undo_refused : changes ≡ [] → called undo j ≡ Err (at_no_flow Nothing)
  undo_refused is = undo_decides true (ap (λ l. eqb (length l) 0) (sym is))

  -- where something is it strikes the newest
  undo-passed : (rest : List Reversal) (r : Reversal) → changes ≡ rest ++ r ∷ [] → called undo j ≡ Ok (fewer j)
  undo-passed rest r is =
      undo_decides false (sym (ne_eqb (length changes) 0 (λ none. omega (arith, ap length is, length-append rest (r ∷ [])))))

  module _ (rest : List Reversal) where
    -- the newest reversal takes the newest change back
    struck : (r : Reversal) → changes ≡ rest ++ r ∷ [] → Struck (play_all j.settled fresh) j.listed rest r
    struck r is =
        let s = play_all j.settled fresh in
        undoes_pop s j.listed rest r (subst (Undoes s j.listed) is f.listed)

    -- an admitted flow can be taken out
    pub can-remove : (n : ℕ) → changes ≡ rest ++ Remove n ∷ [] → in_force n flows ≡ true
    can-remove n is = ap (in_force n) f.inforce ∙ (struck (Remove n) is).reverses.0

    -- without it the plan follows the journal before
    pub follows-remove : (n : ℕ) {flows' : List FlowSpec} → changes ≡ rest ++ Remove n ∷ [] → flows' ≡ leave n flows →
        Follows (fewer j) flows' map rest
    follows-remove n is gone =
        let t = struck (Remove n) is in
        record {
          inforce = gone ∙ ap (leave n) f.inforce ∙ t.reverses.1;
          allowed = f.allowed ∙ t.reverses.2;
          listed = t.others;
        }

    module _ (x : Flow) (is : changes ≡ rest ++ Insert x ∷ []) where
      -- with a retired flow the flows are those before
      again : enter (flow_spec x) flows ≡ (standing (fewer j)).flows
      again = ap (enter (flow_spec x)) f.inforce ∙ (struck (Insert x) is).reverses.1

      -- a retired flow can be put back
      pub can-insert : in_force x.number flows ≡ false
      can-insert = ap (in_force x.number) f.inforce ∙ (struck (Insert x) is).reverses.0

      -- with it the flows fit
      pub insert-fits : Fits (enter (flow_spec x) flows)
      insert-fits = subst Fits (sym again) (struck (Insert x) is).fits

      -- there is a place for it
      pub insert-room : length flows < 32
      insert-room = omega (arith, length-enter (flow_spec x) flows, insert-fits.few)

      -- with it the plan follows the journal before
      pub follows-insert : {flows' : List FlowSpec} → flows' ≡ enter (flow_spec x) flows → Follows (fewer j) flows' map rest
      follows-insert back =
          let t = struck (Insert x) is in
          record { inforce = back ∙ again; allowed = f.allowed ∙ t.reverses.2; listed = t.others }

    -- with the map before the plan follows the journal before
    pub follows-restore : (m : ChannelMap) → changes ≡ rest ++ Restore m ∷ [] → Follows (fewer j) flows m rest
    follows-restore m is =
        let t = struck (Restore m) is in
        record { inforce = f.inforce ∙ t.reverses.0; allowed = t.reverses.1; listed = t.others }

-- where a change is listed, undo is granted to what follows the journal before
pub undone : {P : Type 0} {phase : Ghosts P} (before : Plan P phase) {flows : List FlowSpec} {map : ChannelMap} {changes : List Reversal}
    (rest : List Reversal) (r : Reversal) → held before.changes ≡ rest ++ r ∷ [] →
    Moves before fewer flows map changes → Outcome before undo (Ok tt) flows map changes
undone before rest r is = granted before fewer undo (λ j f. undo-passed f rest r is)

-- a list ends with its newest entry
pub newest_ends : {A : Type 0} (xs : List A) (x : A) → slice_get xs (length xs - 1) ≡ Some x → xs ≡ take (length xs - 1) xs ++ x ∷ []
newest_ends xs x e =
    let n = length xs - 1 in
    let here : n < length xs = slice_get_within xs n x e in
    let all : length xs ≡ n + 1 = omega arith in
    sym (take-length xs) ∙ ap (λ k. take k xs) all ∙ take_more xs n x here
    ∙ ap (λ y. take n xs ++ y ∷ []) (get_or_from_slice_get xs n x x e)

-- a list without a newest entry is empty
pub newest_none : {A : Type 0} (xs : List A) → slice_get xs (length xs - 1) ≡ None → xs ≡ []
newest_none [] e = refl
newest_none (x ∷ xs) e = let some = slice_get-get_or (x ∷ xs) (length (x ∷ xs) - 1) x (omega arith) in absurd (cc)

-- a refusal in place of a value that is not there is the one that was given for it
pub refuses_none : {A E : Type 0} (o : Option A) (e d : E) → Err e ≡ ok_or o d → (o ≡ None) × (e ≡ d)
refuses_none None e d h = (refl, cc)
refuses_none (Some x) e d h = absurd (grind arith)
