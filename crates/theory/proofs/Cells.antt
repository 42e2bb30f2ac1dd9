-- The cells of a run: where each hop is sent.
use Rattle.std.proofs.Common.{◌≡◌, ℕ, ◌+◌, ◌<◌, ◌≤◌, Bool, true, false, cond, ◌&&◌, eqb, ltb, leb, ◌≢◌, ◌⊎◌, List, [], ◌∷◌, length, sym, ap, ◌∙◌, subst, inl, inr, ⊎_elim, arith}
use Rattle.std.specs.List.{ContainsAt as Has}
use Rattle.std.proofs.ByRecursion.{has_append_left, has_append_right}
use Rattle.std.proofs.lemmas.Bool.{cond-true, cond-false, and_from, and_left, and_right, lt-ltb, le-ltb, leb-true, eq-eqb, ne_eqb, cases_eq}
use Rattle.frame.specs.declared.placement.Placement.{Placement}
use Rattle.frame.specs.Frames.{FrameSpec, leg_count, leg_at, size_of, hop_at}
use Rattle.frame.specs.States.{fits, undone, complete, done_of}
use Rattle.frame.specs.Sets.{clash, sent}
use Rattle.frame.specs.Quick.{placed_from, placed_all}
use Rattle.frame.specs.Grids.{Cell}
use Rattle.theory.proofs.Members.{has_or_not}
use Rattle.frame.proofs.Scans.{all_decides}
use Rattle.theory.proofs.Chosen.{released-opens, sized_below, sendable-short, sendable_free}
use Rattle.theory.proofs.Progress.{done_sent, done_sent_other, released-within, fits-sent}
use Rattle.theory.proofs.Lifetimes.{undone-from, undone-low, undone_high, in_time}
use Rattle.theory.proofs.Runs.{Sends, Run}
use Rattle.theory.proofs.Places.{place_in, place_below, place-past, places_apart, conflict_free_apart, has_placed}

-- a cell by its slot and offset
abbrev pub cell : ℕ → ℕ → Cell
cell s o = record { slot = s; offset = o }

-- the set sends hop k of leg i
abbrev pub sends : List ℕ → List ℕ → ℕ → ℕ → Bool
sends p set i k = ltb (place_in set i) (length set) && eqb (done_of p i) k

-- the cell of hop k of leg i: the slot whose set sends it, and its leg's place in that set
abbrev pub cell_of : ℕ → List ℕ → List (List ℕ) → ℕ → ℕ → Cell
cell_of s p [] i k = cell 0 0
cell_of s p (set ∷ sets) i k = cond (sends p set i k) (cell s (place_in set i)) (cell_of (s + 1) (sent set p) sets i k)

-- hop k of leg i is sent with the first set
pub record Now (p set : List ℕ) (i k : ℕ) : Type 0 where
  pub member : Has set i
  pub next : done_of p i ≡ k

-- or it is still undone after that set
pub record Later (f : FrameSpec) (p set : List ℕ) (i k : ℕ) : Type 0 where
  pub left : undone f (sent set p) i k ≡ true
  pub skipped : sends p set i k ≡ false

module _ (f : FrameSpec) (s : ℕ) (p set : List ℕ) (ok : fits f.legs p ≡ true) (now : Sends f s p set) where
  -- progress after the set fits
  pub fits_next : fits f.legs (sent set p) ≡ true
  fits_next = fits-sent f p ok s set now.distinct now.holds

  -- an undone hop is sent with the set, or later
  pub now_or_later : (i k : ℕ) → undone f p i k ≡ true → Now p set i k ⊎ Later f p set i k
  now_or_later i k u = ⊎_elim inside outside (has_or_not set i)
    where
      inside : Has set i → Now p set i k ⊎ Later f p set i k
      inside h =
          let more = done_sent set p i now.distinct h (released-within f p ok s i (now.holds i h)) in
          ⊎_elim (λ e. inl (record { member = h; next = e }))
          (λ ne. inr (record {
            left = undone-from f (sent set p) i k (omega (arith, undone-low f p i k u)) (undone_high f p i k u);
            skipped = and_right (ltb (place_in set i) (length set)) (eqb (done_of p i) k) (ne_eqb (done_of p i) k ne);
          })) (cases_eq (done_of p i) k)

      outside : (Has set i → ⊥) → Now p set i k ⊎ Later f p set i k
      outside out =
          let same = done_sent_other set p i out in
          let none = le-ltb (place_in set i) (length set) (place-past set i out) in
          inr (record {
            left = undone-from f (sent set p) i k (omega (arith, undone-low f p i k u)) (undone_high f p i k u);
            skipped = and_left (ltb (place_in set i) (length set)) (eqb (done_of p i) k) none;
          })

-- the cell of a hop that is sent with the first set
pub cell_now : (s : ℕ) (p set : List ℕ) (sets : List (List ℕ)) (i k : ℕ) → Now p set i k →
    cell_of s p (set ∷ sets) i k ≡ cell s (place_in set i)
cell_now s p set sets i k now =
    cond-true (sends p set i k) (cell s (place_in set i)) (cell_of (s + 1) (sent set p) sets i k)
    (and_from (ltb (place_in set i) (length set)) (eqb (done_of p i) k)
    (lt-ltb (place_in set i) (length set) (place_below set i now.member)) (eq-eqb (done_of p i) k now.next))

-- and of one that is sent later
pub cell_later : (s : ℕ) (p set : List ℕ) (sets : List (List ℕ)) (i k : ℕ) → sends p set i k ≡ false →
    cell_of s p (set ∷ sets) i k ≡ cell_of (s + 1) (sent set p) sets i k
cell_later s p set sets i k e = cond-false (sends p set i k) (cell s (place_in set i)) (cell_of (s + 1) (sent set p) sets i k) e

-- where all hops are done, none is undone
pub none_left : (f : FrameSpec) (p : List ℕ) (i k : ℕ) → complete f p ≡ true → undone f p i k ≡ true → ⊥
none_left f p i k e u =
    omega (
      arith,
      undone-low f p i k u,
      undone_high f p i k u,
      leb-true (size_of f i) (done_of p i)
          ((all_decides (leg_count f) (λ i. leb (size_of f i) (done_of p i))).0 e i (sized_below f i k (undone_high f p i k u))),
    )

-- the placement of hop k of leg i in a cell
abbrev pub placement_at : FrameSpec → ℕ → ℕ → Cell → Placement
placement_at f i k c = record {
  slot = c.slot;
  offset = c.offset;
  sender = (hop_at f i k).sender;
  receiver = (hop_at f i k).receiver;
  flow = (leg_at f i).flow;
  route = (leg_at f i).route;
  hop = k + 1;
}

-- a cell in time for hop k of leg i, and its placement is among those given
pub record Suits (f : FrameSpec) (s : ℕ) (ps : List Placement) (i k : ℕ) (c : Cell) : Type 0 where
  pub starts : s ≤ c.slot
  pub opens : (leg_at f i).release ≤ c.slot
  pub ends : c.slot ≤ (leg_at f i).due
  pub within : c.offset < f.channels
  pub listed : Has ps (placement_at f i k c)

module _ (f : FrameSpec) where
  -- each undone hop has a cell in time
  pub cell-suits : (sets : List (List ℕ)) (s : ℕ) (p : List ℕ) → fits f.legs p ≡ true → Run f s p sets → (i k : ℕ) →
      undone f p i k ≡ true → Suits f s (placed_all f s p sets) i k (cell_of s p sets i k)
  cell-suits [] s p ok run i k u = absurd (none_left f p i k run u)
  cell-suits (set ∷ sets) s p ok (intime, now, run) i k u =
      ⊎_elim
      (λ n. subst (Suits f s (placed_all f s p (set ∷ sets)) i k) (sym (cell_now s p set sets i k n)) (here n))
      (λ l. subst (Suits f s (placed_all f s p (set ∷ sets)) i k) (sym (cell_later s p set sets i k l.skipped))
      (there (cell_of (s + 1) (sent set p) sets i k)
      (cell-suits sets (s + 1) (sent set p) (fits_next f s p set ok now) run i k l.left)))
      (now_or_later f s p set ok now i k u)
    where
      here : Now p set i k → Suits f s (placed_all f s p (set ∷ sets)) i k (cell s (place_in set i))
      here n =
          record {
            starts = omega arith;
            opens = released-opens f s p i (now.holds i n.member);
            ends = omega (arith, in_time f s p intime i k u);
            within = omega (arith, place_below set i n.member, sendable-short f p set now.together);
            listed =
                has_append_left (placed_from f s p 0 set) (placed_all f (s + 1) (sent set p) sets)
                (placement_at f i k (cell s (place_in set i)))
                (subst (λ h. Has (placed_from f s p 0 set) (placement_at f i h (cell s (place_in set i)))) n.next
                (has_placed f p set s 0 i (place_in set i) n.member (omega arith)));
          }

      there : (c : Cell) → Suits f (s + 1) (placed_all f (s + 1) (sent set p) sets) i k c →
          Suits f s (placed_all f s p (set ∷ sets)) i k c
      there c l =
          record {
            starts = omega (arith, l.starts);
            opens = l.opens;
            ends = l.ends;
            within = l.within;
            listed = has_append_right (placed_from f s p 0 set) (placed_all f (s + 1) (sent set p) sets) (placement_at f i k c) l.listed;
          }

  -- a hop that is sent later has a later slot
  pub later_slot : (sets : List (List ℕ)) (s : ℕ) (p set : List ℕ) → fits f.legs p ≡ true → Run f s p (set ∷ sets) → (i k : ℕ) →
      Later f p set i k → s < (cell_of s p (set ∷ sets) i k).slot
  later_slot sets s p set ok (intime, now, run) i k l =
      subst (λ c. s < c.slot) (sym (cell_later s p set sets i k l.skipped))
      (omega (arith, (cell-suits sets (s + 1) (sent set p) (fits_next f s p set ok now) run i k l.left).starts))

  -- along a leg the slots rise
  pub cells_rise : (sets : List (List ℕ)) (s : ℕ) (p : List ℕ) → fits f.legs p ≡ true → Run f s p sets → (i k : ℕ) →
      undone f p i k ≡ true → undone f p i (k + 1) ≡ true → (cell_of s p sets i k).slot < (cell_of s p sets i (k + 1)).slot
  cells_rise [] s p ok run i k u v = absurd (none_left f p i k run u)
  cells_rise (set ∷ sets) s p ok (intime, now, run) i k u v =
      ⊎_elim
      (λ n. ⊎_elim (λ m. absurd (omega (arith, n.next, m.next)))
      (λ m. omega (arith, ap (λ c. c.slot) (cell_now s p set sets i k n), later_slot sets s p set ok (intime, now, run) i (k + 1) m))
      (now_or_later f s p set ok now i (k + 1) v))
      (λ n. ⊎_elim (λ m. absurd (omega (arith, m.next, undone-low f p i k u)))
      (λ m. omega (
        arith,
        ap (λ c. c.slot) (cell_later s p set sets i k n.skipped),
        ap (λ c. c.slot) (cell_later s p set sets i (k + 1) m.skipped),
        cells_rise sets (s + 1) (sent set p) (fits_next f s p set ok now) run i k n.left m.left,
      ))
      (now_or_later f s p set ok now i (k + 1) v))
      (now_or_later f s p set ok now i k u)

  -- two hops of one slot share neither a device nor the offset
  pub cells_apart : (sets : List (List ℕ)) (s : ℕ) (p : List ℕ) → fits f.legs p ≡ true → Run f s p sets → (i k j l : ℕ) →
      undone f p i k ≡ true → undone f p j l ≡ true → i ≢ j → (cell_of s p sets i k).slot ≡ (cell_of s p sets j l).slot →
      (clash (hop_at f i k) (hop_at f j l) ≡ false) × ((cell_of s p sets i k).offset ≢ (cell_of s p sets j l).offset)
  cells_apart [] s p ok run i k j l u v apart same = absurd (none_left f p i k run u)
  cells_apart (set ∷ sets) s p ok (intime, now, run) i k j l u v apart same =
      ⊎_elim
      (λ n. ⊎_elim (λ m. both n m)
      (λ m. absurd (omega (
        arith,
        same,
        ap (λ c. c.slot) (cell_now s p set sets i k n),
        later_slot sets s p set ok (intime, now, run) j l m,
      )))
      (now_or_later f s p set ok now j l v))
      (λ n. ⊎_elim
      (λ m. absurd (omega (
        arith,
        same,
        ap (λ c. c.slot) (cell_now s p set sets j l m),
        later_slot sets s p set ok (intime, now, run) i k n,
      )))
      (λ m. let a = cell_later s p set sets i k n.skipped in
      let b = cell_later s p set sets j l m.skipped in
      let rest = cells_apart sets (s + 1) (sent set p) (fits_next f s p set ok now) run i k j l n.left m.left apart
      (sym (ap (λ c. c.slot) a) ∙ same ∙ ap (λ c. c.slot) b) in
      (rest.0, λ e. rest.1 (sym (ap (λ c. c.offset) a) ∙ e ∙ ap (λ c. c.offset) b)))
      (now_or_later f s p set ok now j l v))
      (now_or_later f s p set ok now i k u)
    where
      both : Now p set i k → Now p set j l →
          (clash (hop_at f i k) (hop_at f j l) ≡ false)
          × ((cell_of s p (set ∷ sets) i k).offset ≢ (cell_of s p (set ∷ sets) j l).offset)
      both n m = (
        subst (λ h. clash (hop_at f i h) (hop_at f j l) ≡ false) n.next
            (subst (λ h. clash (hop_at f i (done_of p i)) (hop_at f j h) ≡ false) m.next
            (conflict_free_apart f p set i j (sendable_free f p set now.together) n.member m.member apart)),
        λ e. places_apart set i j n.member m.member apart
            (sym (ap (λ c. c.offset) (cell_now s p set sets i k n)) ∙ e ∙ ap (λ c. c.offset) (cell_now s p set sets j l m)),
      )
