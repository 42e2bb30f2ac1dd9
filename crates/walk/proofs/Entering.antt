-- The released legs of a state, ready to be placed.
use Rattle.std.proofs.Common.{◌≡◌, ℕ, ◌+◌, ◌≤◌, true, List, [], ◌∷◌, ◌++◌, map, length, ℤ, sum, sym, refl, ap, ap₂, ◌∙◌, subst, arith}
use Rattle.std.proofs.lemmas.List.{length-map}
use Rattle.frame.specs.declared.moment.Moment.{Moment}
use Rattle.frame.specs.Legs.{hop_total}
use Rattle.frame.specs.Frames.{FrameSpec, frame_spec}
use Rattle.frame.specs.States.{fits}
use Rattle.frame.specs.Sets.{by_key, sent}
use Rattle.frame.specs.Quick.{first_set}
use Rattle.theory.specs.Greedy.{greedy}
use Rattle.theory.proofs.Chosen.{released-left}
use Rattle.theory.proofs.First.{first-set-greedy}
use Rattle.theory.proofs.Progress.{fits-length, fits-sent, fits_sum, sum-sent}
use Rattle.theory.proofs.Ranked.{ranked-distinct, ranked-released, ranked_below}
use Rattle.walk.specs.declared.ranked.Ranked.{Ranked}
use Rattle.walk.specs.Orders.{entry_of, entries_by}
use Rattle.walk.specs.Filling.{legs_of, Ready}
use Rattle.walk.specs.Outcomes.{Keys, order_by}
use Rattle.walk.specs.Walks.{Stand, with_set, entered, IsMomentOf}

-- the legs of the entries made from legs
legs_of_entries : (key : ℕ → ℤ) (is : List ℕ) → legs_of (map (entry_of key) is) ≡ is
legs_of_entries key [] = refl
legs_of_entries key (i ∷ is) = ap (λ l. i ∷ l) (legs_of_entries key is)

module _ (f : FrameSpec) (key : Keys) (s : ℕ) (p : List ℕ) (ok : fits f.legs p ≡ true) where
  -- the released legs are ready
  order_ready : Ready f p (order_by f key s p)
  order_ready = record {
    distinct = ranked-distinct f (by_key (key f s p)) s p;
    left = λ i h. released-left f s p i (ranked-released f (by_key (key f s p)) s p i h);
    counted = fits-length f.legs p ok;
  }

  -- there is room for them all
  order_room : sum p + length (order_by f key s p) ≤ hop_total f.legs
  order_room =
      let n = fits-length f.legs p ok in
      let e = sum-sent (order_by f key s p) p (λ i h. let b = ranked_below f (by_key (key f s p)) s p i h in omega arith) in
      let h = fits_sum f.legs (sent (order_by f key s p) p)
      (fits-sent f p ok s (order_by f key s p) (ranked-distinct f (by_key (key f s p)) s p) (ranked-released f (by_key (key f s p)) s p)) in
      omega arith

-- at a moment of a walk
pub entries_at : (key : Keys) (slot : ℕ) (w : Stand) (m : Moment) (es : List Ranked) → IsMomentOf w slot m →
    es ≡ entries_by (frame_spec m.frame.now) key m.slot m.progress.now → es ≡ entries_by w.frame key slot w.progress
entries_at key slot w m es seen e =
    e ∙ ap₂ (λ f p. entries_by f key m.slot p) seen.frame seen.progress ∙ ap (λ s. entries_by w.frame key s w.progress) seen.slot

-- of the entries that were listed
module _ (f : FrameSpec) (key : Keys) (s : ℕ) (p : List ℕ) (es : List Ranked) (e : es ≡ entries_by f key s p) where
  entered_legs : legs_of es ≡ order_by f key s p
  entered_legs = ap legs_of e ∙ legs_of_entries (key f s p) (order_by f key s p)

  -- the legs are ready
  pub entries_ready : fits f.legs p ≡ true → Ready f p (legs_of es)
  entries_ready ok = subst (Ready f p) (sym entered_legs) (order_ready f key s p ok)

  -- there is room for them all
  pub entries_room : fits f.legs p ≡ true → sum p + length es ≤ hop_total f.legs
  entries_room ok =
      omega (arith, order_room f key s p ok, ap length e, length-map (order_by f key s p) (entry_of (key f s p)))

  -- the legs taken of them are the first set
  pub entries_first : greedy f p [] (legs_of es) ≡ first_set f (order_by f key) s p
  entries_first = ap (greedy f p []) entered_legs ∙ sym (first-set-greedy f (order_by f key) s p)

-- a slot that begins in the trail, filled with the entries of its state
pub sends_first : (key : Keys) (s : ℕ) (w u : Stand) (es : List Ranked) (marks : List ℕ) → es ≡ entries_by w.frame key s w.progress →
    marks ≡ w.marks ++ length w.trail ∷ [] →
    u ≡ with_set s (greedy w.frame w.progress [] (legs_of es)) (record w { marks = marks }) → u ≡ entered key s w
sends_first key s w u es marks e isMarked now =
    now ∙ ap (λ l. with_set s l (record w { marks = marks })) (entries_first w.frame key s w.progress es e)
    ∙ ap (λ m. with_set s (first_set w.frame (order_by w.frame key) s w.progress) (record w { marks = m })) isMarked
