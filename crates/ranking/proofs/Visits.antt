-- The undone hops at a device are the visits there that are undone.
use Rattle.std.proofs.Common.{◌≡◌, ℕ, suc, ◌+◌, ◌-◌, ◌<◌, ◌≤◌, Bool, true, ◌&&◌, leb, List, [], ◌∷◌, ◌++◌, map, length, get_or, ℤ, pos, ◌+ℤ◌, ◌-ℤ◌, count_by, filter, sym, refl, ap, ◌∙◌, subst, arith}
use lib.Signed.{le_z}
use Rattle.std.specs.List.{range_with_len, flat_map}
use Rattle.std.proofs.lemmas.List.Elements.{filter-append}
use Rattle.std.proofs.lemmas.List.{map-append}
use Rattle.std.proofs.lemmas.Simd.{map-map}
use Rattle.std.proofs.lemmas.Bool.{le-leb}
use Rattle.frame.specs.declared.visit.Visit.{Visit}
use Rattle.frame.specs.Frames.{FrameSpec, no_hop, no_leg, leg_at, leg_count, size_of, hop_at}
use Rattle.frame.specs.Legs.{LegSpec}
use Rattle.frame.specs.States.{HopId, hop_id, done_of, undone_of, undone_hops}
use Rattle.frame.specs.Visits.{end_of, is_at, visit_of, leg_visits, visits_from, visits_at}
use Rattle.ranking.specs.Laxity.{undone_at, first_of, last_of, slack}
use Rattle.ranking.specs.Sweep.{visit_undone}
use Rattle.ranking.proofs.Members.{In, map_in, in_map, in_kept, kept_in, in_joined, joined_in, in_counting, counting_in}
use Rattle.ranking.proofs.Members.{count_map, count_same, count_kept, kept_map, kept_swap, kept_from}
use Rattle.ranking.proofs.Sorting.{in_sort, sort_in, count_sort}

module _ (f : FrameSpec) (p : List ℕ) (u : ℕ) where
  -- a hop as a visit
  abbrev pub seen_as : HopId → Visit
  seen_as h = visit_of h.leg (leg_at f h.leg) h.place

  -- a hop is at u
  abbrev pub stands_at : HopId → Bool
  stands_at h = is_at u (hop_at f h.leg h.place)

  -- the undone hops of one leg
  leg-visits : (i : ℕ) → filter (visit_undone p) (leg_visits u i (leg_at f i)) ≡ map seen_as (filter stands_at (undone_of f p i))
  leg-visits i =
      let l = leg_at f i in
      let n = length l.hops in
      let d = done_of p i in
      let at : ℕ → Bool = λ k. is_at u (get_or l.hops k no_hop) in
      let size : (0 + n) - d ≡ n - d = omega arith in
      kept_map (visit_undone p) (visit_of i l) (filter at (range_with_len 0 n))
      ∙ ap (map (visit_of i l)) (kept_swap (leb d) at (range_with_len 0 n))
      ∙ ap (λ ks. map (visit_of i l) (filter at ks)) (kept_from n 0 d (omega arith) ∙ ap (range_with_len d) size)
      ∙ sym (map-map seen_as (hop_id i) (filter at (range_with_len d (n - d))))
      ∙ ap (map seen_as) (sym (kept_map stands_at (hop_id i) (range_with_len d (n - d))))

  -- the undone hops of the legs from i on
  from-visits : (ls : List LegSpec) (i : ℕ) → ((j : ℕ) → leg_at f (i + j) ≡ get_or ls j no_leg) →
      filter (visit_undone p) (visits_from u i ls) ≡ map seen_as (filter stands_at (flat_map (undone_of f p) (range_with_len i (length ls))))
  from-visits [] i are = refl
  from-visits (l ∷ ls) i are =
      let here : i + 0 ≡ i = omega arith in
      let leg : l ≡ leg_at f i = sym (are 0) ∙ ap (leg_at f) here in
      let rest = flat_map (undone_of f p) (range_with_len (i + 1) (length ls)) in
      filter-append (visit_undone p) (leg_visits u i l) (visits_from u (i + 1) ls)
      ∙ ap (λ ws. filter (visit_undone p) (leg_visits u i l) ++ ws)
      (from-visits ls (i + 1) (λ j. let on : (i + 1) + j ≡ i + suc j = omega arith in ap (leg_at f) on ∙ are (suc j)))
      ∙ ap (λ k. filter (visit_undone p) (leg_visits u i k) ++ map seen_as (filter stands_at rest)) leg
      ∙ ap (λ ws. ws ++ map seen_as (filter stands_at rest)) (leg-visits i)
      ∙ sym (map-append seen_as (filter stands_at (undone_of f p i)) (filter stands_at rest))
      ∙ ap (map seen_as) (sym (filter-append stands_at (undone_of f p i) rest))

  -- all undone hops at u
  pub undone-visits : filter (visit_undone p) (visits_from u 0 f.legs) ≡ map seen_as (undone_at f p u)
  undone-visits = from-visits f.legs 0 (λ j. let same : 0 + j ≡ j = omega arith in ap (leg_at f) same)

  -- an undone hop at u is among the visits, and undone there
  pub hop_visit : (h : HopId) → In h (undone_at f p u) → In (seen_as h) (visits_at f.legs u) × (visit_undone p (seen_as h) ≡ true)
  hop_visit h i =
      let kept = subst (λ (l : List Visit). In (seen_as h) l) (sym undone-visits) (map_in seen_as (undone_at f p u) h i) in
      let parts = in_kept (visit_undone p) (visits_from u 0 f.legs) (seen_as h) kept in
      (sort_in (visits_from u 0 f.legs) (seen_as h) parts.0, parts.1)

  -- an undone visit is an undone hop at u
  pub visit_hop : (v : Visit) → In v (visits_at f.legs u) → visit_undone p v ≡ true → (h : HopId) × In h (undone_at f p u) × (v ≡ seen_as h)
  visit_hop v i e =
      in_map seen_as (undone_at f p u) v
      (subst (λ (l : List Visit). In v l) undone-visits
      (kept_in (visit_undone p) (visits_from u 0 f.legs) v (in_sort (visits_from u 0 f.legs) v i) e))

  -- as many undone hops as visits pass a test
  pub count-visits : (q : Visit → Bool) →
      count_by (λ h. q (seen_as h)) (undone_at f p u) ≡ count_by (λ v. visit_undone p v && q v) (visits_at f.legs u)
  count-visits q =
      sym (count_map q seen_as (undone_at f p u))
      ∙ ap (count_by q) (sym undone-visits)
      ∙ count_kept q (visit_undone p) (visits_from u 0 f.legs)
      ∙ sym (count_sort (λ v. visit_undone p v && q v) (visits_from u 0 f.legs))

  -- no r is before the slot, so that the slack counts all that end by b
  pub slack-visits : (s : ℕ) (b : ℤ) → slack f s p u b ≡
      ((b -ℤ pos s) +ℤ pos 1) -ℤ pos (0 + count_by (λ v. visit_undone p v && le_z (end_of v) b) (visits_at f.legs u))
  slack-visits s b =
      let counts =
      count_same (λ h. leb s (first_of f s p h) && le_z (last_of f h) b) (λ h. le_z (last_of f h) b)
      (λ h. ap (λ t. t && le_z (last_of f h) b) (le-leb s (first_of f s p h) (omega arith))) (undone_at f p u)
      ∙ count-visits (λ v. le_z (end_of v) b) in
      let from : count_by (λ v. visit_undone p v && le_z (end_of v) b) (visits_at f.legs u)
      ≡ 0 + count_by (λ v. visit_undone p v && le_z (end_of v) b) (visits_at f.legs u) = omega arith in
      ap (λ n. ((b -ℤ pos s) +ℤ pos 1) -ℤ pos n) (counts ∙ from)

  -- an undone hop at u, by its leg and place
  pub undone_in : (i k : ℕ) → i < leg_count f → done_of p i ≤ k → k < size_of f i → is_at u (hop_at f i k) ≡ true →
      In (hop_id i k) (undone_at f p u)
  undone_in i k leg low high at =
      kept_in stands_at (undone_hops f p) (hop_id i k)
      (in_joined (undone_of f p) (range_with_len 0 (leg_count f)) i (hop_id i k)
      (in_counting (leg_count f) 0 i (omega arith) (omega arith))
      (map_in (hop_id i) (range_with_len (done_of p i) (size_of f i - done_of p i)) k
      (in_counting (size_of f i - done_of p i) (done_of p i) k low (omega arith)))) at

  -- and what such a hop is
  pub in_undone : (h : HopId) → In h (undone_at f p u) →
      (h.leg < leg_count f) × (done_of p h.leg ≤ h.place) × (h.place < size_of f h.leg)
  in_undone h i =
      let among = (in_kept stands_at (undone_hops f p) h i).0 in
      let leg = joined_in (undone_of f p) (range_with_len 0 (leg_count f)) h among in
      let j = leg.0 in
      let place = in_map (hop_id j) (range_with_len (done_of p j) (size_of f j - done_of p j)) h leg.2 in
      let low = counting_in (leg_count f) 0 j leg.1 in
      let high = counting_in (size_of f j - done_of p j) (done_of p j) place.0 place.1 in
      subst (λ (k : HopId). (k.leg < leg_count f) × (done_of p k.leg ≤ k.place) × (k.place < size_of f k.leg)) (sym place.2)
      (omega arith, high.0, omega arith)
