-- The quick walk, state by state.
use Rattle.std.proofs.Common.{◌≡◌, ℕ, suc, ◌+◌, ◌-◌, ◌≤◌, Bool, true, false, cond, List, [], ◌∷◌, ◌++◌, length, sum, sym, refl, ap, ap₂, ◌∙◌, subst, append_assoc, append-nil, arith}
use Rattle.std.proofs.lemmas.List.{length-append}
use Rattle.frame.specs.declared.moment.Moment.{Moment}
use Rattle.frame.specs.declared.placement.Placement.{Placement}
use Rattle.frame.specs.Legs.{all_due_by, hop_total}
use Rattle.frame.specs.Frames.{FrameSpec, frame_spec}
use Rattle.frame.specs.States.{fits, complete, overdue}
use Rattle.frame.specs.Sets.{by_key, sent}
use Rattle.frame.specs.Quick.{Order, Ended, filled, missed, behind, first_set, quick_from, quick_walk_of, placed_from, untouched}
use Rattle.theory.specs.Orders.{Orders}
use Rattle.theory.proofs.Chosen.{first-distinct, first-released, released_below}
use Rattle.theory.proofs.Lifetimes.{not-past}
use Rattle.theory.proofs.Listing.{length-placed}
use Rattle.theory.proofs.Progress.{fits_sum, fits-length, fits-sent, fits-untouched, sum-sent, sum-untouched}
use Rattle.theory.proofs.Ranked.{ranked_orders}
use Rattle.walk.specs.Outcomes.{Keys, order_by, Outcome, grid, miss, outcome_of, quick_outcome}
use Rattle.walk.specs.Walking.{outcome_from, after}
use Rattle.walk.specs.Walks.{Stand, start, entered, IsMomentOf}

-- placements in front of placements
after-after : (a b : List Placement) (o : Outcome) → after a (after b o) ≡ after (a ++ b) o
after-after a b (grid ps) = ap grid (sym (append_assoc a b ps))
after-after a b (miss s) = refl

-- one more set in front
outcome_behind : (f : FrameSpec) (s : ℕ) (p set : List ℕ) (e : Ended) →
    outcome_from f s p (behind set e) ≡ after (placed_from f s p 0 set) (outcome_from f (s + 1) (sent set p) e)
outcome_behind f s p set (filled sets) = refl
outcome_behind f s p set (missed t) = refl

module _ (f : FrameSpec) (order : Order) (n s : ℕ) (p : List ℕ) where
  -- all hops are done
  quick_complete : complete f p ≡ true → quick_from f order (suc n) s p ≡ filled []
  quick_complete e =
      ap (λ b. cond b (filled []) (cond (overdue f s p) (missed s)
      (behind (first_set f order s p) (quick_from f order n (s + 1) (sent (first_set f order s p) p))))) e

  -- else the first set is sent
  quick_more : complete f p ≡ false → overdue f s p ≡ false →
      quick_from f order (suc n) s p ≡ behind (first_set f order s p) (quick_from f order n (s + 1) (sent (first_set f order s p) p))
  quick_more e d =
      ap (λ b. cond b (filled []) (cond (overdue f s p) (missed s)
      (behind (first_set f order s p) (quick_from f order n (s + 1) (sent (first_set f order s p) p))))) e
      ∙ ap (λ b. cond b (missed s) (behind (first_set f order s p) (quick_from f order n (s + 1) (sent (first_set f order s p) p)))) d

-- the whole walk, with nothing in front
whole : (f : FrameSpec) (e : Ended) → outcome_of f e ≡ after [] (outcome_from f 1 (untouched f) e)
whole f (filled sets) = refl
whole f (missed s) = refl

-- n slots are filled: the placements so far, and what a walk from here on gives, are what quick gives
pub record On (f : FrameSpec) (key : Keys) (n : ℕ) (trail : List Placement) (p : List ℕ) : Type 0 where
  pub early : n ≤ f.slots
  pub fit : fits f.legs p ≡ true
  pub counted : length trail ≡ sum p
  pub rest : quick_outcome f key ≡ after trail (outcome_from f (n + 1) p (quick_from f (order_by f key) (f.slots + 1 - n) (n + 1) p))

module _ (f : FrameSpec) (key : Keys) where
  -- before the first slot
  on_none : On f key 0 [] (untouched f)
  unfolding quick_outcome
  on_none = record {
    early = omega arith;
    fit = fits-untouched f;
    counted = sym (sum-untouched f);
    rest =
        whole f (quick_walk_of f (order_by f key))
        ∙ ap (λ k. after [] (outcome_from f 1 (untouched f) (quick_from f (order_by f key) k 1 (untouched f)))) (omega arith);
  }

  module _ (n : ℕ) (trail : List Placement) (p : List ℕ) (on : On f key n trail p) where
    -- a state is left
    left : f.slots + 1 - n ≡ suc (f.slots - n)
    left = let h = on.early in omega arith

    -- all hops are done
    on-complete : complete f p ≡ true → quick_outcome f key ≡ grid trail
    on-complete e =
        on.rest
        ∙ ap (λ k. after trail (outcome_from f (n + 1) p (quick_from f (order_by f key) k (n + 1) p))) left
        ∙ ap (λ q. after trail (outcome_from f (n + 1) p q)) (quick_complete f (order_by f key) (f.slots - n) (n + 1) p e)
        ∙ ap grid (append-nil trail)

    -- else the slot is one of the frame
    on-early : complete f p ≡ false → overdue f (n + 1) p ≡ false → all_due_by f.slots f.legs ≡ true → n + 1 ≤ f.slots
    on-early e d due = not-past f (n + 1) p e d due

    -- and the first set is sent
    on-more : complete f p ≡ false → overdue f (n + 1) p ≡ false → all_due_by f.slots f.legs ≡ true →
        On f key (n + 1) (trail ++ placed_from f (n + 1) p 0 (first_set f (order_by f key) (n + 1) p))
        (sent (first_set f (order_by f key) (n + 1) p) p)
    on-more e d due = record {
      early = on-early e d due;
      fit = fits-sent f p on.fit (n + 1) set (first-distinct f order orders (n + 1) p) (first-released f order orders (n + 1) p);
      counted =
          let a = length-append trail (placed_from f (n + 1) p 0 set) in
          let b = length-placed f set (n + 1) p 0 in
          let m = fits-length f.legs p on.fit in
          let h = sum-sent set p (λ i has. let k = released_below f (n + 1) p i (first-released f order orders (n + 1) p i has) in
          omega arith) in
          let was = on.counted in
          omega arith;
      rest =
          on.rest
          ∙ ap (λ k. after trail (outcome_from f (n + 1) p (quick_from f order k (n + 1) p))) left
          ∙ ap (λ q. after trail (outcome_from f (n + 1) p q)) (quick_more f order (f.slots - n) (n + 1) p e d)
          ∙ ap (after trail) (outcome_behind f (n + 1) p set (quick_from f order (f.slots - n) (n + 1 + 1) (sent set p)))
          ∙ after-after trail (placed_from f (n + 1) p 0 set)
          (outcome_from f (n + 1 + 1) (sent set p) (quick_from f order (f.slots - n) (n + 1 + 1) (sent set p)))
          ∙ ap (λ k. after (trail ++ placed_from f (n + 1) p 0 set)
          (outcome_from f (n + 1 + 1) (sent set p) (quick_from f order k (n + 1 + 1) (sent set p))))
          (let h = on.early in omega arith);
    }
      where
        order : Order
        order = order_by f key

        orders : Orders f order
        orders = ranked_orders f (λ s q. by_key (key f s q))

        set : List ℕ
        set = first_set f order (n + 1) p

-- a walk before a slot
pub record Before (key : Keys) (slot : ℕ) (w : Stand) : Type 0 where
  pub here : slot ≡ length w.marks + 1
  pub on : On w.frame key (length w.marks) w.trail w.progress

-- before the first
pub before_first : (key : Keys) (w : Stand) → w ≡ start w.frame → Before key 1 w
before_first key w e = subst (Before key 1) (sym e) (record { here = refl; on = on_none w.frame key })

-- no more hops are done than there are
pub few_done : (key : Keys) (slot : ℕ) (w : Stand) → Before key slot w → length w.trail ≤ hop_total w.frame.legs
few_done key slot w before = omega (arith, fits_sum w.frame.legs w.progress before.on.fit, before.on.counted)

module _ (key : Keys) (slot : ℕ) (w : Stand) (before : Before key slot w) (m : Moment)
    (seen : IsMomentOf w slot m) where
  completes : (b : Bool) → b ≡ complete (frame_spec m.frame.now) m.progress.now → complete w.frame w.progress ≡ b
  completes b e = ap₂ complete (sym seen.frame) (sym seen.progress) ∙ sym e

  late : (b : Bool) → b ≡ overdue (frame_spec m.frame.now) m.slot m.progress.now → overdue w.frame (length w.marks + 1) w.progress ≡ b
  late b e =
      ap₂ (λ g q. overdue g (length w.marks + 1) q) (sym seen.frame) (sym seen.progress)
      ∙ ap (λ k. overdue (frame_spec m.frame.now) k m.progress.now) (sym (seen.slot ∙ before.here)) ∙ sym e

  -- all are done
  pub all_done : true ≡ complete (frame_spec m.frame.now) m.progress.now → quick_outcome w.frame key ≡ grid w.trail
  all_done e = on-complete w.frame key (length w.marks) w.trail w.progress before.on (completes true e)

  module _ (todo : false ≡ complete (frame_spec m.frame.now) m.progress.now) where
    module _ (none : false ≡ overdue (frame_spec m.frame.now) m.slot m.progress.now)
        (due : all_due_by w.frame.slots w.frame.legs ≡ true) where
      -- the slot is one of the frame
      pub in_frame : slot ≤ w.frame.slots
      in_frame =
          let h = on-early w.frame key (length w.marks) w.trail w.progress before.on (completes false todo) (late false none) due in
          let e = before.here in omega arith

      -- once its first set is sent, the walk stands before the next
      pub before_next : (u : Stand) → u ≡ entered key slot w → Before key (slot + 1) u
      before_next u e =
          let more = length-append w.marks (length w.trail ∷ []) in
          let was = before.here in
          let long : length w.marks + 1 ≡ length (w.marks ++ length w.trail ∷ []) = omega arith in
          subst (Before key (slot + 1)) (sym e) (record {
            here = omega arith;
            on =
                subst (λ n. On w.frame key n (entered key slot w).trail (entered key slot w).progress) long
                (subst (λ k. On w.frame key (length w.marks + 1) (entered key k w).trail (entered key k w).progress) (sym was)
                (on-more w.frame key (length w.marks) w.trail w.progress before.on (completes false todo) (late false none) due));
          })
