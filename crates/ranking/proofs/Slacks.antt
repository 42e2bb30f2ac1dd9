-- The pass over the visits of a sender finds the conflict-aware laxity.
use Rattle.std.proofs.Common.{◌≡◌, ℕ, zero, suc, ◌+◌, ◌<◌, ◌≤◌, Bool, true, false, cond, ◌&&◌, eqb, ltb, leb, ◌⊎◌, List, [], ◌∷◌, map, length, get_or, ℤ, pos, negsuc, ◌+ℤ◌, ◌-ℤ◌, ◌≤ℤ◌, Some, None, count_by, filter, sym, refl, ap, ◌∙◌, subst, inl, inr, arith}
use lib.Signed.{le_z, lt_z, ≤ℤ_refl}
use Rattle.std.specs.Bool.{then_some}
use Rattle.std.proofs.lemmas.Int.{ints}
use Rattle.std.proofs.lemmas.List.Sums.{count_by-le-length}
use Rattle.std.proofs.lemmas.Bool.{and_parts, and_from, or_cases, or_left, cond-true, cond-false, true≢false, le-leb, leb-true, lt-ltb, eq-eqb}
use Rattle.frame.specs.declared.visit.Visit.{Visit}
use Rattle.frame.specs.Below.{some_below}
use Rattle.frame.specs.Frames.{FrameSpec, no_leg, leg_at, leg_count, size_of}
use Rattle.frame.specs.Legs.{LegSpec, all_due_by, hop_total}
use Rattle.frame.specs.States.{HopId, hop_id, is_state_at, fits, done_of, undone, released, first, last, post, late, overdue}
use Rattle.frame.specs.Sets.{next_hop}
use Rattle.frame.specs.Visits.{end_of, visits_from, visits_at}
use Rattle.frame.proofs.Scans.{some-hit}
use Rattle.ranking.specs.declared.hops.NextHop.{NextHop}
use Rattle.ranking.specs.Next.{hop_of, is_ready_leg, released_hop_of}
use Rattle.ranking.specs.declared.sweep.Sweep.{Sweep}
use Rattle.ranking.specs.Bounds.{LaxityBounds}
use Rattle.ranking.specs.Laxity.{undone_at, first_of, last_of, ends_at, slack, plain_laxity, conflict_laxity, conflict_aware}
use Rattle.ranking.specs.Sweep.{visit_undone, visit_first, passed, met, started, least_slack_of}
use Rattle.ranking.proofs.Next.{next-leg, next-undone, next_open}
use Rattle.ranking.proofs.Members.{In, in_map, map_in, in_kept, kept_in, count-some}
use Rattle.ranking.proofs.Least.{least_is}
use Rattle.ranking.proofs.Passes.{slack_over, Counts, Low, Reached, pass_low, pass_reached, le_from_int, le_to_int}
use Rattle.frame.proofs.Shares.{visits-fit}
use Rattle.ranking.proofs.Sorting.{rising_sort}
use Rattle.ranking.proofs.Visits.{seen_as, hop_visit, visit_hop, slack-visits, undone_in, in_undone}

-- nothing is not a value
no_some : {A P : Type 0} {x : A} → Some x ≡ None → P
no_some e = absurd (let n : ◌≡◌ {A = ℕ} 0 1 = cc in omega arith)

module _ (f : FrameSpec) (s : ℕ) (p : List ℕ) (i : ℕ) (free : released f s p i ≡ true) where
  -- the sender, d of its next hop, and the visits there
  abbrev from : ℕ
  from = (next_hop f p i).sender

  abbrev end : ℤ
  end = last f i (done_of p i)

  abbrev visits : List Visit
  visits = visits_at f.legs from

  -- r of a visit is in time
  abbrev timely : Visit → Bool
  timely v = le_z (pos (visit_first s p v)) end

  -- what the pass finds
  abbrev found : ℤ
  found = least_slack_of s end p visits

  low : Low (visit_undone p) timely end_of s (started (plain_laxity f s p i)) visits found
  low = pass_low (visit_undone p) timely end_of s visits (started (plain_laxity f s p i))
      (rising_sort (visits_from from 0 f.legs)) (λ b none. no_some (sym none))

  reached : Reached (visit_undone p) timely end_of s (started (plain_laxity f s p i)) visits found
  reached = pass_reached (visit_undone p) timely end_of s visits (started (plain_laxity f s p i))
      (rising_sort (visits_from from 0 f.legs)) (λ b none. no_some (sym none))

  -- the hops whose ends count
  abbrev counts : HopId → Bool
  counts h = leb s (first_of f s p h) && le_z (pos (first_of f s p h)) end

  -- each slack is that of an undone hop at the sender whose r is in time
  slack_of : (x : ℤ) → In x (map (slack f s p from) (ends_at f s p from end)) →
      (h : HopId) × In h (undone_at f p from) × (counts h ≡ true) × (x ≡ slack f s p from (last_of f h))
  slack_of x h =
      let e = in_map (slack f s p from) (ends_at f s p from end) x h in
      let k = in_map (last_of f) (filter counts (undone_at f p from)) e.0 e.1 in
      let parts = in_kept counts (undone_at f p from) k.0 k.1 in
      (k.0, parts.0, parts.1, e.2 ∙ ap (slack f s p from) k.2)

  of_slack : (h : HopId) → In h (undone_at f p from) → counts h ≡ true →
      In (slack f s p from (last_of f h)) (map (slack f s p from) (ends_at f s p from end))
  of_slack h h-in c =
      map_in (slack f s p from) (ends_at f s p from end) (last_of f h)
      (map_in (last_of f) (filter counts (undone_at f p from)) h (kept_in counts (undone_at f p from) h h-in c))

  -- the hop itself is one of them, where its lifetime has not ended
  own : In (hop_id i (done_of p i)) (undone_at f p from)
  own =
      undone_in f p from i (done_of p i) (next-leg f s p i free) (omega arith) (next-undone f s p i free)
      (or_left (eqb from from) (eqb (next_hop f p i).receiver from) (eq-eqb from from refl))

  own-counts : pos s ≤ℤ end → counts (hop_id i (done_of p i)) ≡ true
  own-counts h =
      let r : first f s p i (done_of p i) ≡ s = omega (arith, next_open f s p i free) in
      and_from (leb s (first f s p i (done_of p i))) (le_z (pos (first f s p i (done_of p i))) end)
      (le-leb s (first f s p i (done_of p i)) (omega arith))
      (rw r (le_to_int (pos s) end h))

  own-slack : slack f s p from end ≤ℤ plain_laxity f s p i
  own-slack = below end (count_by (λ h. leb s (first_of f s p h) && le_z (last_of f h) end) (undone_at f p from))
      (count-some (λ h. leb s (first_of f s p h) && le_z (last_of f h) end) (undone_at f p from) (hop_id i (done_of p i)) own
      (and_from (leb s (first f s p i (done_of p i))) (le_z end end) (le-leb s (first f s p i (done_of p i)) (omega arith))
      (le_to_int end end (≤ℤ_refl end))))
    where
      below : (b : ℤ) (n : ℕ) → 0 < n → (((b -ℤ pos s) +ℤ pos 1) -ℤ pos n) ≤ℤ (b -ℤ pos s)
      below b n h = omega (arith, ints)

  -- the conflict-aware laxity
  pub conflict_is : conflict_laxity f s p i ≡ found
  conflict_is = least_is (plain_laxity f s p i) found (map (slack f s p from) (ends_at f s p from end)) under one some
    where
      under : (x : ℤ) → In x (map (slack f s p from) (ends_at f s p from end)) → found ≤ℤ x
      under x h =
          let of = slack_of x h in
          let v = hop_visit f p from of.0 of.1 in
          let c = and_parts (leb s (first_of f s p of.0)) (le_z (pos (first_of f s p of.0)) end) of.2 in
          subst (λ (z : ℤ). found ≤ℤ z) (sym (of.3 ∙ slack-visits f p from s (last_of f of.0)))
          (low.1 (seen_as f p from of.0) v.0
          (v.1, or_left (timely (seen_as f p from of.0)) false c.1))

      at : (y : Visit) → In y visits → Counts (visit_undone p) timely end_of s (started (plain_laxity f s p i)) y →
          In (((end_of y -ℤ pos s) +ℤ pos 1) -ℤ pos (0 + count_by (λ v. visit_undone p v && le_z (end_of v) (end_of y)) visits))
          (map (slack f s p from) (ends_at f s p from end))
      at y y-in c =
          let of = visit_hop f p from y y-in c.0 in
          let yes : timely y ≡ true = elim (or_cases (timely y) false c.1)
          [ inl e ↦ e | inr e ↦ absurd (true≢false (sym e)) ] in
          let same : timely (seen_as f p from of.0) ≡ true = ap timely (sym of.2) ∙ yes in
          subst (λ (z : ℤ). In z (map (slack f s p from) (ends_at f s p from end)))
          (slack-visits f p from s (last_of f of.0)
          ∙ ap (λ v. slack_over (visit_undone p) timely end_of s 0 visits (end_of v)) (sym of.2))
          (of_slack of.0 of.1 (and_from (leb s (first_of f s p of.0)) (le_z (pos (first_of f s p of.0)) end)
          (le-leb s (first_of f s p of.0) (omega arith)) same))

      one : (found ≡ plain_laxity f s p i) ⊎ In found (map (slack f s p from) (ends_at f s p from end))
      one = elim reached [
        | inl e ↦ inl e
        | inr (y, y-in, c, e) ↦ inr (subst (λ (z : ℤ). In z (map (slack f s p from) (ends_at f s p from end))) (sym e) (at y y-in c))
      ]

      some : (x : ℤ) → In x (map (slack f s p from) (ends_at f s p from end)) →
          (y : ℤ) × In y (map (slack f s p from) (ends_at f s p from end)) × (y ≤ℤ plain_laxity f s p i)
      some x h =
          let of = slack_of x h in
          let c = and_parts (leb s (first_of f s p of.0)) (le_z (pos (first_of f s p of.0)) end) of.2 in
          let start = leb-true s (first_of f s p of.0) c.0 in
          let stop = le_from_int (pos (first_of f s p of.0)) end c.1 in
          let lives : pos s ≤ℤ end = within (first_of f s p of.0) end start stop in
          (slack f s p from end, of_slack (hop_id i (done_of p i)) own (own-counts lives), own-slack)
        where
          within : (r : ℕ) (b : ℤ) → s ≤ r → pos r ≤ℤ b → pos s ≤ℤ b
          within r b h k = omega (arith, ints)

-- it is what the pass finds for the hop that is read
pub laxity_of_hop : (f : FrameSpec) (s : ℕ) (p : List ℕ) (i : ℕ) (h : NextHop) (r : ℤ) → Some h ≡ released_hop_of f s p i →
    r ≡ least_slack_of s h.end p (visits_at f.legs h.sender) → r ≡ conflict_aware f s p i
laxity_of_hop f s p i h r e found = go (is_ready_leg f s p i) refl e
  where
    go : (b : Bool) → is_ready_leg f s p i ≡ b → Some h ≡ then_some b (hop_of f p i) → r ≡ cond b (conflict_laxity f s p i) (pos 0)
    go true ready same =
        let is : h ≡ hop_of f p i = cc in
        found ∙ ap (λ k. least_slack_of s k.end p (visits_at f.legs k.sender)) is
        ∙ sym (conflict_is f s p i (and_parts (is_state_at f s p) (released f s p i) ready).1)
    go false ready same = no_some same

-- one hop more is met
pub met_count : (s : ℕ) (d : ℤ) (p : List ℕ) (w : Sweep) (v : Visit) → (met s d p w v).count ≤ w.count + 1
met_count s d p w v = go (visit_undone p v)
  where
    go : (b : Bool) → (cond b (passed s (le_z (pos (visit_first s p v)) d) (end_of v) w) w).count ≤ w.count + 1
    go true = omega arith
    go false = omega arith

-- the last slots of lifetimes in a frame of t slots
due_by : (ls : List LegSpec) (t i : ℕ) → all_due_by t ls ≡ true → i < length ls → (get_or ls i no_leg).due ≤ t
due_by [] t i e h = absurd (omega arith)
due_by (l ∷ ls) t zero e h = leb-true l.due t (and_parts (leb l.due t) (all_due_by t ls) e).0
due_by (l ∷ ls) t (suc i) e h = due_by ls t i (and_parts (leb l.due t) (all_due_by t ls) e).1 (omega arith)

-- where no hop is late, each undone one ends no sooner than the slot
in_time : (f : FrameSpec) (s : ℕ) (p : List ℕ) → overdue f s p ≡ false → (i k : ℕ) → i < leg_count f → done_of p i ≤ k → k < size_of f i →
    pos s ≤ℤ last f i k
in_time f s p calm i k leg low high = go (late f s p i k) refl
  where
    go : (b : Bool) → late f s p i k ≡ b → pos s ≤ℤ last f i k
    go true is =
        absurd (true≢false (sym (some-hit (leg_count f) (λ j. some_below (size_of f j) (λ l. undone f p j l && late f s p j l)) i leg
        (some-hit (size_of f i) (λ l. undone f p i l && late f s p i l) k high
        (and_from (undone f p i k) (late f s p i k)
        (and_from (leb (done_of p i) k) (ltb k (size_of f i)) (le-leb (done_of p i) k low) (lt-ltb k (size_of f i) high)) is))) ∙ calm))
    go false is = from (first f s p i k) (last f i k) (omega arith) is
      where
        from : (r : ℕ) (b : ℤ) → s ≤ r → lt_z b (pos r) ≡ false → pos s ≤ℤ b
        from r b h e = grind (arith, ints)

-- the conflict-aware laxity in a frame of at most 1,024 slots and 2,048 hops
pub laxity_bounds : (f : FrameSpec) (s : ℕ) (p : List ℕ) (i : ℕ) → f.slots ≤ 1024 → all_due_by f.slots f.legs ≡ true →
    hop_total f.legs ≤ 2048 → LaxityBounds f s p (conflict_aware f s p i)
laxity_bounds f s p i short timely light calm = go (is_state_at f s p && released f s p i) refl
  where
    low_end : (b : ℤ) (n : ℕ) → pos s ≤ℤ b → n ≤ 2048 → negsuc 2046 ≤ℤ (((b -ℤ pos s) +ℤ pos 1) -ℤ pos (0 + n))
    low_end b n h k = omega (arith, ints)

    plain-low : (b : ℤ) → pos s ≤ℤ b → negsuc 2046 ≤ℤ (b -ℤ pos s)
    plain-low b h = omega (arith, ints)

    plain-high : (due after : ℕ) (r : ℤ) → 1 ≤ s → due ≤ 1024 → r ≤ℤ ((pos due -ℤ pos after) -ℤ pos s) → r ≤ℤ pos 1023
    plain-high due after r h k e = omega (arith, ints)

    at : is_state_at f s p ≡ true → (free : released f s p i ≡ true) →
        (negsuc 2046 ≤ℤ conflict_laxity f s p i) × (conflict_laxity f s p i ≤ℤ pos 1023)
    at state free =
        let slot = (and_parts (leb 1 s && leb s (f.slots + 1)) (fits f.legs p) state).0 in
        let begun = leb-true 1 s (and_parts (leb 1 s) (leb s (f.slots + 1)) slot).0 in
        let leg = next-leg f s p i free in
        let due = due_by f.legs f.slots i timely leg in
        let own = in_time f s p calm i (done_of p i) leg (omega arith) (next-undone f s p i free) in
        let is = conflict_is f s p i free in
        let bottom : negsuc 2046 ≤ℤ found f s p i free = elim (reached f s p i free) [
          | inl e ↦ subst (λ (z : ℤ). negsuc 2046 ≤ℤ z) (sym e) (plain-low (end f s p i free) own)
          | inr (y, y-in, c, e) ↦
              let of = visit_hop f p (from f s p i free) y y-in c.0 in
              let hop = in_undone f p (from f s p i free) of.0 of.1 in
              let ends = in_time f s p calm of.0.leg of.0.place hop.0 hop.1 hop.2 in
              let few = count_by-le-length (λ v. visit_undone p v && le_z (end_of v) (end_of y)) (visits f s p i free) in
              subst (λ (z : ℤ). negsuc 2046 ≤ℤ z) (sym e)
              (low_end (end_of y) (count_by (λ v. visit_undone p v && le_z (end_of v) (end_of y)) (visits f s p i free))
              (subst (λ (z : ℤ). pos s ≤ℤ z) (ap end_of (sym of.2)) ends)
              (omega (arith, few, visits-fit f.legs (from f s p i free))))
        ] in
        let top : found f s p i free ≤ℤ pos 1023 =
        plain-high (leg_at f i).due (post f i (done_of p i)) (found f s p i free) begun (omega arith) (low f s p i free).0 in
        subst (λ (z : ℤ). (negsuc 2046 ≤ℤ z) × (z ≤ℤ pos 1023)) (sym is) (bottom, top)

    go : (b : Bool) → (is_state_at f s p && released f s p i) ≡ b → (negsuc 2046 ≤ℤ conflict_aware f s p i) × (conflict_aware f s p i ≤ℤ pos 1023)
    go true is =
        let parts = and_parts (is_state_at f s p) (released f s p i) is in
        subst (λ (z : ℤ). (negsuc 2046 ≤ℤ z) × (z ≤ℤ pos 1023))
        (sym (cond-true (is_state_at f s p && released f s p i) (conflict_laxity f s p i) (pos 0) is)) (at parts.0 parts.1)
    go false is =
        subst (λ (z : ℤ). (negsuc 2046 ≤ℤ z) × (z ≤ℤ pos 1023))
        (sym (cond-false (is_state_at f s p && released f s p i) (conflict_laxity f s p i) (pos 0) is))
        (omega (arith, ints), omega (arith, ints))
