use Rattle.std.proofs.Common.{◌≡◌, ℕ, ◌<◌, List, length, get_or, pos, sym, ap, ◌∙◌, arith}
use Rattle.std.proofs.lemmas.List.{length-map, get_or-map}
use Rattle.frame.specs.Legs.{hop_total}
use Rattle.walk.specs.declared.ranked.Ranked.{Ranked}
use Rattle.walk.specs.Filling.{legs_of}
use Rattle.walk.specs.Walks.{Stand, stand, with_set}
use Rattle.walk.proofs.Slots.{taken_full, few_taken, length_so_far, next_left, joined_more}
use Rattle.walk.proofs.walking.Walk.fill.Goals as goal

-- the leg that the code reads
leg_read : (order : List Ranked) (j : ℕ) → j < length order →
    (get_or order j (record { key = pos 0; leg = 0 })).leg ≡ get_or (legs_of order) j 0
leg_read order j h = sym (get_or-map (λ e. e.leg) order j (record { key = pos 0; leg = 0 }) 0 h)

pub returns-then-len-mark : goal.returns-then-len-mark
returns-then-len-mark c =
    let w : Stand = stand c.args.self.now in
    let legs : List ℕ = legs_of c.args.order.now in
    let long = length_so_far c.args.slot legs c.loop-entry.entry-index w _ c.loop-entry.invariant in
    c.loop-entry.invariant ∙ ap (λ set. with_set c.args.slot set w)
    (taken_full w.frame w.progress legs c.loop-entry.entry-index (omega arith))

pub join-requires-clause-left : goal.join-requires-clause-left
join-requires-clause-left c =
    let w : Stand = stand c.args.self.now in
    let legs : List ℕ = legs_of c.args.order.now in
    let n = length-map c.args.order.now (λ e. e.leg) in
    next_left c.args.slot legs c.loop-entry.entry-index w _ c.requires.ready (omega arith) (omega arith) c.loop-entry.invariant
    _ (leg_read c.args.order.now c.loop-entry.entry-index c.loop-entry-test.true)

pub join-requires-clause-room : goal.join-requires-clause-room
join-requires-clause-room c =
    let w : Stand = stand c.args.self.now in
    let legs : List ℕ = legs_of c.args.order.now in
    let long = length_so_far c.args.slot legs c.loop-entry.entry-index w _ c.loop-entry.invariant in
    let few = few_taken w.frame w.progress legs c.loop-entry.entry-index in
    let same = ap (λ (v : Stand). hop_total v.frame.legs) c.loop-entry.invariant in
    omega arith

pub loop-entry-preserved : goal.loop-entry-preserved
loop-entry-preserved c =
    let w : Stand = stand c.args.self.now in
    let legs : List ℕ = legs_of c.args.order.now in
    let n = length-map c.args.order.now (λ e. e.leg) in
    joined_more c.args.slot legs c.loop-entry.entry-index w _ c.requires.ready (omega arith) (omega arith) c.loop-entry.invariant
    _ _ _ c.len-mark.ensures (leg_read c.args.order.now c.loop-entry.entry-index c.loop-entry-test.true) c.join.ensures
