use mathlib.Core.Bool.{Bool-set}
use mathlib.Core.Logic.{∥∥₁_elim}
use Rattle.std.proofs.Common.{◌≡◌, [], ◌∷◌, ◌++◌, Some, Err, sym, ap, ◌∙◌}
use Rattle.reserved.specs.Held.{held}
use native.Mathlib.Bridge.{le_prop}
use Rattle.table.specs.Tables.{flows_in}
use Rattle.table.specs.Vetting.{at_no_flow}
use Rattle.calls.specs.Calls.{undo}
use Rattle.plan.proofs.Obeying.{Moves, sounds, refused}
use Rattle.plan.proofs.Reverting.{
  fewer,
  newest_ends,
  newest_none,
  refuses_none,
  undo_refused,
  undone,
  can-remove,
  follows-remove,
  can-insert,
  insert-fits,
  insert-room,
  follows-insert,
  follows-restore,
}
use Rattle.plan.specs.declared.reversal.Reversal.{Reversal}
use Rattle.plan.proofs.edit.OpenPlan.undo.Goals as goal
use Rattle.plan.proofs.edit.OpenPlan.undo.Goals.{After-pop, After-remove, After-insert, In-Restore}

pub returns-in_err-newest-clause-law : goal.returns-in_err-newest-clause-law
returns-in_err-newest-clause-law c =
    let due = refuses_none _ _ _ c.in_err-newest.ensures.value in
    let none = newest_none (held c.args.self.now.changes) (sym c.last.ensures ∙ due.0) in
    refused c.args.self.now undo _ _ c.from_residual.ensures.1
    (λ j f. undo_refused f none ∙ ap (λ rule. Err (at_no_flow rule)) (sym due.1))

-- the newest reversal stood last
was_last : (c : After-pop) (r : Reversal) → c.in_ok-newest.newest ≡ r →
    held c.args.self.now.changes ≡ held c.pop.new.self ++ r ∷ []
was_last c r is =
    let changes = held c.args.self.now.changes in
    newest_ends changes r (sym c.last.ensures ∙ c.in_ok-newest.ensures.ok_part ∙ ap Some is)
    ∙ ap (λ rest. rest ++ r ∷ []) (sym c.pop.ensures.left)

pub remove-requires : goal.remove-requires
remove-requires c =
    let r = c.in-Remove in
    ∥∥₁_elim c.args.self.now.sound (Bool-set _ _)
    (λ x. can-remove x.1 _ r.added (was_last (goal.at.remove-requires c).After-pop _ r.is))

pub insert-requires : goal.insert-requires
insert-requires c =
    let sound = c.args.self.now.sound in
    let r = c.in-Insert in
    let is = was_last (goal.at.insert-requires c).After-pop _ r.is in
    record {
      new = ∥∥₁_elim sound (Bool-set _ _) (λ x. can-insert x.1 _ r.flow is);
      room = ∥∥₁_elim sound le_prop (λ x. insert-room x.1 _ r.flow is);
      short = ∥∥₁_elim sound le_prop (λ x. (insert-fits x.1 _ r.flow is).short);
      light = ∥∥₁_elim sound le_prop (λ x. (insert-fits x.1 _ r.flow is).light);
    }

-- without the admitted flow the plan follows the journal before
removed : (c : After-remove) →
    let p = c.args.self.now in Moves p fewer (flows_in c.remove.new.self) p.map (held c.pop.new.self)
removed c j f =
    follows-remove f _ c.in-Remove.added (was_last (goal.at.After-remove c).After-pop _ c.in-Remove.is) c.remove.ensures.after

-- with the retired flow it does
inserted : (c : After-insert) →
    let p = c.args.self.now in Moves p fewer (flows_in c.insert.new.self) p.map (held c.pop.new.self)
inserted c j f =
    follows-insert f _ c.in-Insert.flow (was_last (goal.at.After-insert c).After-pop _ c.in-Insert.is) c.insert.ensures

-- and with the map before
restored : (c : In-Restore) →
    let p = c.args.self.now in Moves p fewer (flows_in p.table) c.in-Restore.map (held c.pop.new.self)
restored c j f = follows-restore f _ c.in-Restore.map (was_last (goal.at.In-Restore c).After-pop _ c.in-Restore.is)

pub invariant_of-self-clause-sound : goal.invariant_of-self-clause-sound
invariant_of-self-clause-sound c =
    let d = goal.at.invariant_of-self-clause-sound c in
    sounds c.args.self.now fewer (removed d.After-remove)

pub returns-in-Remove-clause-law : goal.returns-in-Remove-clause-law
returns-in-Remove-clause-law c =
    let d = goal.at.returns-in-Remove-clause-law c in
    undone c.args.self.now _ _ (was_last d.After-pop _ c.in-Remove.is) (removed d.After-remove)

pub invariant_of-self-in-Insert-clause-sound : goal.invariant_of-self-in-Insert-clause-sound
invariant_of-self-in-Insert-clause-sound c =
    let d = goal.at.invariant_of-self-in-Insert-clause-sound c in
    sounds c.args.self.now fewer (inserted d.After-insert)

pub returns-in-Insert-clause-law : goal.returns-in-Insert-clause-law
returns-in-Insert-clause-law c =
    let d = goal.at.returns-in-Insert-clause-law c in
    undone c.args.self.now _ _ (was_last d.After-pop _ c.in-Insert.is) (inserted d.After-insert)

pub invariant_of-self-in-Restore-clause-sound : goal.invariant_of-self-in-Restore-clause-sound
invariant_of-self-in-Restore-clause-sound c =
    let d = goal.at.invariant_of-self-in-Restore-clause-sound c in
    sounds c.args.self.now fewer (restored d.In-Restore)

pub returns-in-Restore-clause-law : goal.returns-in-Restore-clause-law
returns-in-Restore-clause-law c =
    let d = goal.at.returns-in-Restore-clause-law c in
    undone c.args.self.now _ _ (was_last d.After-pop _ c.in-Restore.is) (restored d.In-Restore)
