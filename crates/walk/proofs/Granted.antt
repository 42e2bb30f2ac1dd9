-- What a granted call of quick gives.
use Rattle.std.proofs.Common.{◌≡◌, ℕ, List, ◌++◌, length, drop, Some, None, Ok, Option, sym, refl, ap, ◌∙◌, subst, arith}
use Rattle.std.proofs.lemmas.List.{take_at}
use Rattle.frame.specs.declared.placement.Placement.{Placement}
use Rattle.frame.specs.Frames.{FrameSpec}
use Rattle.frame.specs.Sets.{by_key}
use Rattle.frame.specs.Quick.{Ended, filled, missed, quick_walk_of, untouched, placed_all}
use Rattle.frame.specs.Grids.{ShowsLawfulGrid}
use Rattle.theory.proofs.Lawful.{quick_lawful}
use Rattle.theory.proofs.Ranked.{ranked_orders}
use Rattle.walk.specs.declared.short.Short.{Short}
use Rattle.walk.specs.declared.answer.QuickAnswer.{QuickAnswer}
use Rattle.walk.specs.declared.answer.QuickAnswer.TheVariants.{Grid}
use Rattle.walk.specs.Walking.{Shows}
use Rattle.walk.specs.Memory.{unless_short}
use Rattle.walk.specs.Runs.{Lent, short_in, Runs}
use Rattle.walk.specs.Outcomes.{Keys, order_by, Outcome, grid, miss, outcome_of, quick_outcome, answered, written, grid_after, HandsOver}

-- where a grid is answered, the placements shown are written
pub grid-written : (o : Outcome) (n : ℕ) (trail room room' : List Placement) → Grid n ≡ answered o → Shows o trail →
    room' ≡ trail ++ drop (length trail) room → room' ≡ written o room
grid-written (grid ps) n trail room room' e shown h = h ∙ ap (λ t. t ++ drop (length t) room) shown
grid-written (miss s) n trail room room' e shown h = absurd (let z : ◌≡◌ {A = ℕ} 0 1 = cc in omega arith)

-- a check that passed found no memory too short
none-short : {A : Type 0} (short : Option Short) (a b : A) → Ok a ≡ unless_short short b → short ≡ None
none-short None a b e = refl
none-short (Some s) a b e = absurd (let z : ◌≡◌ {A = ℕ} 0 1 = cc in omega arith)

-- the answer of a granted call
granted : (short : Option Short) (o : Outcome) (r : QuickAnswer) → short ≡ None → r ≡ answered o →
    Ok r ≡ unless_short short (answered o)
granted short o r e h = ap Ok h ∙ ap (λ s. unless_short s (answered o)) (sym e)

-- the grid's memory after it
granted-grid : (short : Option Short) (o : Outcome) (room room' : List Placement) → short ≡ None → room' ≡ written o room →
    room' ≡ grid_after short o room
granted-grid short o room room' e h = h ∙ ap (λ s. grid_after s o room) (sym e)

-- a grid that is answered is lawful
lawful-answer : (f : FrameSpec) (key : Keys) (room : List Placement) →
    HandsOver f (Ok (answered (quick_outcome f key))) (written (quick_outcome f key) room)
unfolding quick_outcome
lawful-answer f key room = go (quick_walk_of f (order_by f key)) refl
  where
    go : (e : Ended) → quick_walk_of f (order_by f key) ≡ e → HandsOver f (Ok (answered (outcome_of f e))) (written (outcome_of f e) room)
    go (filled sets) h =
        subst (ShowsLawfulGrid f)
        (sym (take_at (placed_all f 1 (untouched f) sets) (drop (length (placed_all f 1 (untouched f) sets)) room) _ refl))
        (quick_lawful f (order_by f key) (ranked_orders f (λ s p. by_key (key f s p))) sets h)
    go (missed s) h = tt

-- as the code answers and writes it
granted-lawful : (f : FrameSpec) (key : Keys) (r : QuickAnswer) (room room' : List Placement) →
    r ≡ answered (quick_outcome f key) → room' ≡ written (quick_outcome f key) room → HandsOver f (Ok r) room'
granted-lawful f key r room room' e h =
    subst (λ a. HandsOver f (Ok a) room') (sym e)
    (subst (λ x. HandsOver f (Ok (answered (quick_outcome f key))) x) (sym h) (lawful-answer f key room))

-- a call that was granted, by its answer and what it wrote
pub granted_runs : (f : FrameSpec) (key : Keys) (before after : Lent) (u v : Unit {0}) (r : QuickAnswer) →
    Ok u ≡ unless_short (short_in f before) v → r ≡ answered (quick_outcome f key) →
    after.grid ≡ written (quick_outcome f key) before.grid → Runs f key before after (Ok r)
granted_runs f key before after u v r checked e h =
    let long = none-short (short_in f before) u v checked in
    record {
      gives = granted (short_in f before) (quick_outcome f key) r long e;
      wrote = granted-grid (short_in f before) (quick_outcome f key) before.grid after.grid long h;
      spared = (tt, tt, tt);
      lawful = granted-lawful f key r before.grid after.grid e h;
    }
