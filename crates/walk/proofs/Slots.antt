-- One slot filled leg by leg.
use Rattle.std.proofs.Common.{◌≡◌, ℕ, zero, suc, ◌+◌, ◌-◌, ◌<◌, ◌≤◌, Bool, true, false, cond, not, ◌&&◌, List, [], ◌∷◌, ◌++◌, length, get_or, take, drop, set, sym, refl, ap, ap₂, ◌∙◌, subst, ⊎_elim, append_assoc, append-nil, arith}
use Rattle.std.specs.List.{ContainsAt as Has}
use Rattle.std.proofs.lemmas.List.{length-append, length-take, take_more, drop_at, take-append-drop, get_or_default}
use Rattle.std.proofs.lemmas.Bool.{lt-ltb}
use Rattle.frame.specs.declared.placement.Placement.{Placement}
use Rattle.frame.specs.Frames.{FrameSpec, size_of}
use Rattle.frame.specs.States.{done_of}
use Rattle.frame.specs.Sets.{clear, clash, next_hop, sent}
use Rattle.frame.specs.Quick.{placed, placed_from}
use Rattle.frame.specs.Grids.{Distinct}
use Rattle.theory.specs.Greedy.{joins, greedy}
use Rattle.theory.proofs.Members.{has_cases}
use Rattle.theory.proofs.Listing.{length-placed}
use Rattle.theory.proofs.Progress.{done_sent_other}
use Rattle.theory.proofs.Chosen.{greedy_full, has_from-greedy}
use Rattle.walk.specs.Filling.{apart, placed_at, next_cell, can_join, Ready}
use Rattle.walk.specs.Walks.{Stand, joined, with_set}

module _ (f : FrameSpec) (p : List ℕ) where
  -- greedy over two lists, one after the other
  pub greedy-append : (xs ys chosen : List ℕ) →
      greedy f p chosen (xs ++ ys) ≡ greedy f p chosen xs ++ greedy f p (chosen ++ greedy f p chosen xs) ys
  greedy-append [] ys chosen = ap (λ c. greedy f p c ys) (sym (append-nil chosen))
  greedy-append (x ∷ xs) ys chosen =
      go (joins f p chosen x) (greedy-append xs ys (chosen ++ x ∷ [])) (greedy-append xs ys chosen)
    where
      go : (b : Bool) →
          greedy f p (chosen ++ x ∷ []) (xs ++ ys)
          ≡ greedy f p (chosen ++ x ∷ []) xs ++ greedy f p ((chosen ++ x ∷ []) ++ greedy f p (chosen ++ x ∷ []) xs) ys →
          greedy f p chosen (xs ++ ys) ≡ greedy f p chosen xs ++ greedy f p (chosen ++ greedy f p chosen xs) ys →
          cond b (x ∷ greedy f p (chosen ++ x ∷ []) (xs ++ ys)) (greedy f p chosen (xs ++ ys))
          ≡ cond b (x ∷ greedy f p (chosen ++ x ∷ []) xs) (greedy f p chosen xs)
          ++ greedy f p (chosen ++ cond b (x ∷ greedy f p (chosen ++ x ∷ []) xs) (greedy f p chosen xs)) ys
      go true h k =
          ap (λ l. x ∷ l) h
          ∙ ap (λ c. x ∷ greedy f p (chosen ++ x ∷ []) xs ++ greedy f p c ys)
          (append_assoc chosen (x ∷ []) (greedy f p (chosen ++ x ∷ []) xs))
      go false h k = k

  -- no more legs are taken than there are
  pub length-greedy : (xs chosen : List ℕ) → length (greedy f p chosen xs) ≤ length xs
  length-greedy [] chosen = omega arith
  length-greedy (x ∷ xs) chosen = go (joins f p chosen x) (length-greedy xs (chosen ++ x ∷ [])) (length-greedy xs chosen)
    where
      go : (b : Bool) → length (greedy f p (chosen ++ x ∷ []) xs) ≤ length xs → length (greedy f p chosen xs) ≤ length xs →
          length (cond b (x ∷ greedy f p (chosen ++ x ∷ []) xs) (greedy f p chosen xs)) ≤ suc (length xs)
      go true h k = omega arith
      go false h k = omega arith

  -- one more placement
  pub placed_push : (s offset : ℕ) (xs : List ℕ) (x : ℕ) →
      placed_from f s p offset (xs ++ x ∷ []) ≡ placed_from f s p offset xs ++ placed f s p (offset + length xs) x ∷ []
  placed_push s offset [] x = ap (λ o. placed f s p o x ∷ []) (omega arith)
  placed_push s offset (y ∷ xs) x =
      ap (λ l. placed f s p offset y ∷ l)
      (placed_push s (offset + 1) xs x ∙ ap (λ o. placed_from f s p (offset + 1) xs ++ placed f s p o x ∷ []) (omega arith))

  -- a placement is apart from those of a set as its leg is clear of the set
  pub apart-clear : (s offset from : ℕ) (x : ℕ) (xs : List ℕ) →
      apart (placed f s p offset x) (placed_from f s p from xs) ≡ clear f p x xs
  apart-clear s offset from x [] = refl
  apart-clear s offset from x (y ∷ ys) =
      ap (λ b. not (clash (next_hop f p x) (next_hop f p y)) && b) (apart-clear s offset (from + 1) x ys)

-- one more leg is sent
pub sent_push : (xs p : List ℕ) (x : ℕ) → sent (xs ++ x ∷ []) p ≡ set (sent xs p) x (done_of (sent xs p) x + 1)
sent_push [] p x = refl
sent_push (y ∷ ys) p x = sent_push ys (set p y (done_of p y + 1)) x

-- of distinct legs, none stands before itself
pub distinct-fresh : (xs : List ℕ) (j : ℕ) → Distinct xs → j < length xs → Has (take j xs) (get_or xs j 0) → ⊥
distinct-fresh [] j d h = λ _. omega arith
distinct-fresh (x ∷ xs) zero d h = λ (k, l, e). omega arith
distinct-fresh (x ∷ xs) (suc j) (out, d) h = λ has.
    ⊎_elim (λ e. out (j, omega arith, λ z. get_or_default xs j z 0 (omega arith) ∙ sym e)) (distinct-fresh xs j d (omega arith))
    (has_cases x (take j xs) (get_or xs j 0) has)

-- what stands in the trail when the legs are placed after `base`
abbrev pub laid : FrameSpec → ℕ → List ℕ → List Placement → List ℕ → List Placement
laid f s p base legs = base ++ placed_from f s p 0 legs

-- the legs taken of the first j
abbrev pub taken : FrameSpec → List ℕ → List ℕ → ℕ → List ℕ
taken f p legs j = greedy f p [] (take j legs)

module _ (f : FrameSpec) (s : ℕ) (p : List ℕ) (base : List Placement) (legs : List ℕ) (ready : Ready f p legs)
    (j : ℕ) (below : j < length legs) (free : length (taken f p legs j) < f.channels) where
  -- the leg is none of those taken
  fresh : Has (taken f p legs j) (get_or legs j 0) → ⊥
  fresh h = distinct-fresh legs j ready.distinct below (has_from-greedy f p (take j legs) [] (get_or legs j 0) h)

  -- none of its hops has been counted
  same_done : done_of (sent (taken f p legs j) p) (get_or legs j 0) ≡ done_of p (get_or legs j 0)
  same_done = done_sent_other (taken f p legs j) p (get_or legs j 0) fresh

  -- it has a next hop
  pub next-left : done_of (sent (taken f p legs j) p) (get_or legs j 0) < size_of f (get_or legs j 0)
  next-left = let e = same_done in
      let h = ready.left (get_or legs j 0) (j, below, λ d. get_or_default legs j d 0 below) in omega arith

  -- its cell
  next-cell : next_cell f s (sent (taken f p legs j) p) (get_or legs j 0) (length base) (laid f s p base (taken f p legs j))
      ≡ placed f s p (0 + length (taken f p legs j)) (get_or legs j 0)
  next-cell =
      let n = length-append base (placed_from f s p 0 (taken f p legs j)) in
      let m = length-placed f (taken f p legs j) s p 0 in
      let e : length (laid f s p base (taken f p legs j)) - length base ≡ 0 + length (taken f p legs j) = omega arith in
      ap (λ o. placed_at f s o (get_or legs j 0) (done_of (sent (taken f p legs j) p) (get_or legs j 0))) e
      ∙ ap (λ k. placed_at f s (0 + length (taken f p legs j)) (get_or legs j 0) k) same_done

  -- it joins as the code tests
  next-joins : can_join f s (sent (taken f p legs j) p) (get_or legs j 0) (length base) (laid f s p base (taken f p legs j))
      ≡ joins f p (taken f p legs j) (get_or legs j 0)
  next-joins =
      ap (λ a. apart a (drop (length base) (laid f s p base (taken f p legs j)))) next-cell
      ∙ ap (apart (placed f s p (0 + length (taken f p legs j)) (get_or legs j 0)))
      (drop_at base (placed_from f s p 0 (taken f p legs j)) (length base) refl)
      ∙ apart-clear f p s (0 + length (taken f p legs j)) 0 (get_or legs j 0) (taken f p legs j)
      ∙ ap (λ b. b && clear f p (get_or legs j 0) (taken f p legs j)) (sym (lt-ltb (length (taken f p legs j)) f.channels free))

  -- the legs taken of one more
  taken_more : taken f p legs (j + 1)
      ≡ taken f p legs j ++ cond (joins f p (taken f p legs j) (get_or legs j 0)) (get_or legs j 0 ∷ []) []
  taken_more = ap (greedy f p []) (take_more legs j 0 below) ∙ greedy-append f p (take j legs) (get_or legs j 0 ∷ []) []

  -- the trail and the progress after one more leg
  pub record More : Type 0 where
    pub trail : (b : Bool) → b ≡ can_join f s (sent (taken f p legs j) p) (get_or legs j 0) (length base)
        (laid f s p base (taken f p legs j)) →
        cond b (laid f s p base (taken f p legs j)
        ++ next_cell f s (sent (taken f p legs j) p) (get_or legs j 0) (length base) (laid f s p base (taken f p legs j)) ∷ [])
        (laid f s p base (taken f p legs j))
        ≡ laid f s p base (taken f p legs (j + 1))
    pub progress : (b : Bool) → b ≡ can_join f s (sent (taken f p legs j) p) (get_or legs j 0) (length base)
        (laid f s p base (taken f p legs j)) →
        cond b (set (sent (taken f p legs j) p) (get_or legs j 0) (done_of (sent (taken f p legs j) p) (get_or legs j 0) + 1))
        (sent (taken f p legs j) p)
        ≡ sent (taken f p legs (j + 1)) p

  pub more : More
  more = record {
    trail = λ b e. laid_by b (e ∙ next-joins);
    progress = λ b e. sent-by b (e ∙ next-joins);
  }
    where
      by : (b : Bool) → b ≡ joins f p (taken f p legs j) (get_or legs j 0) → taken f p legs (j + 1) ≡ taken f p legs j ++ cond b
          (get_or legs j 0 ∷ []) []
      by b e = taken_more ∙ ap (λ c. taken f p legs j ++ cond c (get_or legs j 0 ∷ []) []) (sym e)

      laid_by : (b : Bool) → b ≡ joins f p (taken f p legs j) (get_or legs j 0) →
          cond b (laid f s p base (taken f p legs j)
          ++ next_cell f s (sent (taken f p legs j) p) (get_or legs j 0) (length base) (laid f s p base (taken f p legs j)) ∷ [])
          (laid f s p base (taken f p legs j))
          ≡ laid f s p base (taken f p legs (j + 1))
      laid_by true e =
          ap (λ a. laid f s p base (taken f p legs j) ++ a ∷ []) next-cell
          ∙ append_assoc base (placed_from f s p 0 (taken f p legs j)) (placed f s p (0 + length (taken f p legs j)) (get_or legs j 0) ∷ [])
          ∙ ap (λ l. base ++ l) (sym (placed_push f p s 0 (taken f p legs j) (get_or legs j 0)))
          ∙ ap (laid f s p base) (sym (by true e))
      laid_by false e = ap (laid f s p base) (sym (by false e ∙ append-nil (taken f p legs j)))

      sent-by : (b : Bool) → b ≡ joins f p (taken f p legs j) (get_or legs j 0) →
          cond b (set (sent (taken f p legs j) p) (get_or legs j 0) (done_of (sent (taken f p legs j) p) (get_or legs j 0) + 1))
          (sent (taken f p legs j) p)
          ≡ sent (taken f p legs (j + 1)) p
      sent-by true e = sym (sent_push (taken f p legs j) p (get_or legs j 0)) ∙ ap (λ l. sent l p) (sym (by true e))
      sent-by false e = ap (λ l. sent l p) (sym (by false e ∙ append-nil (taken f p legs j)))

-- all legs are taken that can be, where the set is full
pub taken_full : (f : FrameSpec) (p legs : List ℕ) (j : ℕ) → f.channels ≤ length (taken f p legs j) → taken f p legs j ≡ greedy f p
    [] legs
taken_full f p legs j h =
    sym (ap (greedy f p []) (sym (take-append-drop j legs))
    ∙ greedy-append f p (take j legs) (drop j legs) []
    ∙ ap (λ l. taken f p legs j ++ l) (greedy_full f p (drop j legs) (taken f p legs j) h)
    ∙ append-nil (taken f p legs j))

-- the trail's length
pub length-laid : (f : FrameSpec) (s : ℕ) (p : List ℕ) (base : List Placement) (legs : List ℕ) →
    length (laid f s p base legs) ≡ length base + length legs
length-laid f s p base legs = length-append base (placed_from f s p 0 legs) ∙ ap (λ n. length base + n) (length-placed f legs s p 0)

-- a walk once the legs taken of the first j are sent
abbrev pub so_far : ℕ → List ℕ → ℕ → Stand → Stand
so_far s legs j w = with_set s (taken w.frame w.progress legs j) w

-- its number of placements
pub length_so_far : (s : ℕ) (legs : List ℕ) (j : ℕ) (w v : Stand) → v ≡ so_far s legs j w →
    length v.trail ≡ length w.trail + length (taken w.frame w.progress legs j)
length_so_far s legs j w v e =
    ap (λ u. length u.trail) e ∙ length-laid w.frame s w.progress w.trail (taken w.frame w.progress legs j)

-- no more legs are taken than were tried
pub few_taken : (f : FrameSpec) (p legs : List ℕ) (j : ℕ) → length (taken f p legs j) ≤ j
few_taken f p legs j = let few = length-greedy f p (take j legs) [] in let front = length-take j legs in omega arith

module _ (s : ℕ) (legs : List ℕ) (j : ℕ) (w v : Stand) (ready : Ready w.frame w.progress legs) (below : j < length legs)
    (free : length v.trail - length w.trail < w.frame.channels) (e : v ≡ so_far s legs j w) where
  fewer : length (taken w.frame w.progress legs j) < w.frame.channels
  fewer = let long = length_so_far s legs j w v e in omega arith

  -- the next leg has a next hop
  pub next_left : (x : ℕ) → x ≡ get_or legs j 0 → done_of v.progress x < size_of v.frame x
  next_left x isLeg =
      subst (λ i. done_of v.progress i < size_of v.frame i) (sym isLeg)
      (subst (λ u. done_of u.progress (get_or legs j 0) < size_of u.frame (get_or legs j 0)) (sym e)
      (next-left w.frame s w.progress w.trail legs ready j below fewer))

  -- and after it was tried one more leg is
  pub joined_more : (u : Stand) (mark x : ℕ) → mark ≡ length w.trail → x ≡ get_or legs j 0 → u ≡ joined s mark x v →
      u ≡ so_far s legs (j + 1) w
  joined_more u mark x isMark isLeg now =
      now ∙ ap (joined s mark x) e ∙ ap (λ m. joined s m x (so_far s legs j w)) isMark
      ∙ ap (λ i. joined s (length w.trail) i (so_far s legs j w)) isLeg
      ∙ ap₂ made (step.trail _ refl) (step.progress _ refl)
    where
      made : List Placement → List ℕ → Stand
      made t p = record { frame = w.frame; trail = t; marks = w.marks; progress = p }

      step : More w.frame s w.progress w.trail legs ready j below fewer
      step = more w.frame s w.progress w.trail legs ready j below fewer
