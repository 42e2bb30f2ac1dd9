-- The loop over the routes in the bytes.
use Rattle.std.proofs.Common.{◌≡◌, ℕ, zero, suc, ◌+◌, ◌-◌, ◌<◌, Bool, true, false, cond, ◌&&◌, eqb, ltb, leb, List, [], ◌∷◌, ◌++◌, length, take, drop, Some, None, Ok, Err, sym, refl, ap, ◌∙◌, arith, length-drop, length-take}
use Rattle.std.proofs.lemmas.List.{take_rest}
use Rattle.std.proofs.lemmas.List.Recursion.{and_push}
use Rattle.std.proofs.lemmas.Bool.{cond-true, cond-false, and_parts, and_from, ltb-true}
use Rattle.flow.specs.declared.fault.RouteFault.{RouteFault}
use Rattle.flow.specs.declared.fault.RouteFault.TheVariants.{Shape, Ends}
use Rattle.flow.specs.Outcomes.{unless, and_then}
use Rattle.flow.proofs.Checks.{then_ok, unless-ok}
use Rattle.flow.specs.Rules.{same_ends_of, ends_agree, all_agree, first_of, last_of}
use Rattle.flow.specs.declared.route.Route.{Route}
use Rattle.flow.specs.declared.routes.Routes.{Routes}
use Rattle.flow.specs.Views.{devices_in}
use Rattle.flow.specs.Flows.{routes_in}
use Rattle.flow.specs.Reading.{count, shaped, front, behind, route_fault, ends_fault, ends_after, read_route_of, read_next, read_more, read_routes_of}

-- a route that was read stands whole at the front
route-within : (k : ℕ) (bytes ds : List ℕ) → read_route_of k bytes ≡ Ok ds →
    (length ds < length bytes) × (behind bytes ≡ drop (length ds + 1) bytes)
route-within k bytes ds e = go (shaped bytes) refl e
  where
    go : (b : Bool) → shaped bytes ≡ b → cond b (unless (route_fault k (front bytes)) (Ok (front bytes))) (Err (Shape k)) ≡ Ok ds →
        (length ds < length bytes) × (behind bytes ≡ drop (length ds + 1) bytes)
    go true s h =
        let kept = (unless-ok (route_fault k (front bytes)) (Ok (front bytes)) ds h).1 in
        let same : front bytes ≡ ds = cc in
        let parts = (and_parts (leb 2 (count bytes)) (leb (count bytes) 9 && ltb (count bytes) (length bytes)) s).1 in
        let whole = ltb-true (count bytes) (length bytes) (and_parts (leb (count bytes) 9) (ltb (count bytes) (length bytes)) parts).1 in
        let long : length ds ≡ count bytes = sym (ap length same) ∙ simp (length-take, length-drop) (omega arith) in
        (omega arith, ap (λ n. drop (n + 1) bytes) (sym long))
    go false s h = absurd (grind arith)

-- a next route was read by itself, and its ends are no fault
pub next-ok : (sofar : List (List ℕ)) (bytes ds : List ℕ) → read_next sofar bytes ≡ Ok ds →
    (read_route_of (length sofar + 1) bytes ≡ Ok ds) × (ends_after (length sofar + 1) sofar ds ≡ None)
next-ok sofar bytes ds e =
    let k = length sofar + 1 in
    let t = then_ok (read_route_of k bytes) (λ xs. unless (ends_after k sofar xs) (Ok xs)) ds e in
    let u = unless-ok (ends_after k sofar t.0) (Ok t.0) ds t.2 in
    let kept = u.1 in
    let same : t.0 ≡ ds = cc in
    (t.1 ∙ u.1, ap (ends_after k sofar) (sym same) ∙ u.0)

-- so it stands whole at the front
pub next-within : (sofar : List (List ℕ)) (bytes ds : List ℕ) → read_next sofar bytes ≡ Ok ds →
    (length ds < length bytes) × (behind bytes ≡ drop (length ds + 1) bytes) × (ends_after (length sofar + 1) sofar ds ≡ None)
next-within sofar bytes ds e =
    let n = next-ok sofar bytes ds e in
    let w = route-within (length sofar + 1) bytes ds n.0 in
    (w.0, w.1, n.1)

-- no fault at the ends: they are the same
ends_same : (k : ℕ) (one ds : List ℕ) → ends_fault k one ds ≡ None → same_ends_of one ds ≡ true
ends_same k one ds e = go (eqb (first_of one) (first_of ds)) (eqb (last_of one) (last_of ds)) e
  where
    go : (a b : Bool) → cond a (cond b None (Some (Ends k (length ds)))) (Some (Ends k 1)) ≡ None → (a && b) ≡ true
    go true true h = refl
    go true false h = absurd (grind arith)
    go false b h = absurd (grind arith)

-- the routes still agree with one more whose ends are no fault
pub agree_more : (k : ℕ) (sofar : List (List ℕ)) (ds : List ℕ) → all_agree sofar ≡ true → ends_after k sofar ds ≡ None →
    all_agree (sofar ++ ds ∷ []) ≡ true
agree_more k [] ds a e = refl
agree_more k (one ∷ more) ds a e =
    and_push (ends_agree one) (same_ends_of one) refl (λ x xs. refl) more ds
    ∙ and_from (ends_agree one more) (same_ends_of one ds) a (ends_same k one ds e)

-- at the end of the bytes, the routes so far are all
pub more-end : (left : ℕ) (sofar : List (List ℕ)) (bytes : List ℕ) → eqb (length bytes) 0 ≡ true → read_more left sofar bytes ≡ Ok sofar
more-end zero sofar bytes e = cond-true (eqb (length bytes) 0) _ _ e
more-end (suc left) sofar bytes e = cond-true (eqb (length bytes) 0) _ _ e

module _ (sofar : List (List ℕ)) (bytes : List ℕ) (some : eqb (length bytes) 0 ≡ false) where
  -- one more route is read, and the others behind it
  pub more_step : (left m : ℕ) (ds : List ℕ) → left ≡ suc m → read_next sofar bytes ≡ Ok ds →
      read_more left sofar bytes ≡ read_more m (sofar ++ ds ∷ []) (behind bytes)
  more_step left m ds is next =
      ap (λ n. read_more n sofar bytes) is ∙ cond-false (eqb (length bytes) 0) _ _ some
      ∙ ap (λ r. and_then r (λ xs. read_more m (sofar ++ xs ∷ []) (behind bytes))) next

  -- a route that is refused refuses the whole
  pub more_refused : (left m : ℕ) (f : RouteFault) → left ≡ suc m → read_next sofar bytes ≡ Err f → read_more left sofar bytes ≡ Err f
  more_refused left m f is next =
      ap (λ n. read_more n sofar bytes) is ∙ cond-false (eqb (length bytes) 0) _ _ some
      ∙ ap (λ r. and_then r (λ xs. read_more m (sofar ++ xs ∷ []) (behind bytes))) next

-- the bytes behind as many places, as the code cuts them
abbrev pub after : List ℕ → List ℕ → List ℕ
after ds bytes = take (length bytes - (length ds + 1)) (drop (length ds + 1) bytes)

-- so cut, they are what the rules call the bytes behind a route
behind_is : (ds bytes : List ℕ) → behind bytes ≡ drop (length ds + 1) bytes → after ds bytes ≡ behind bytes
behind_is ds bytes e = take_rest bytes (length ds + 1) ∙ sym e

-- behind the first route the loop has the whole still to come
pub begins : (bytes cut : List ℕ) (first : Route) (rs : Routes) → cut ≡ devices_in first →
    Ok (devices_in first) ≡ read_route_of 1 bytes → rs.count ≡ 1 → routes_in rs ≡ devices_in first ∷ [] →
    read_more (3 - rs.count) (routes_in rs) (after cut bytes) ≡ read_routes_of bytes
begins bytes cut first rs cuts reads counts is =
    let w = route-within 1 bytes (devices_in first) (sym reads) in
    ap (λ n. read_more (3 - n) (routes_in rs) (after cut bytes)) counts
    ∙ ap (λ l. read_more 2 l (after cut bytes)) is
    ∙ ap (λ l. read_more 2 (devices_in first ∷ []) (after l bytes)) cuts
    ∙ ap (read_more 2 (devices_in first ∷ [])) (behind_is (devices_in first) bytes w.1)
    ∙ ap (λ r. and_then (and_then r (λ ds. unless (ends_after 1 [] ds) (Ok ds))) (λ ds. read_more 2 (ds ∷ []) (behind bytes))) reads

-- and so it has behind each further one
pub goes_on : (rest cut : List ℕ) (next : Route) (rs rs' : Routes) → cut ≡ devices_in next →
    eqb (length rest) 0 ≡ false → rs.count < 3 → Ok (devices_in next) ≡ read_next (routes_in rs) rest →
    rs'.count ≡ rs.count + 1 → routes_in rs' ≡ routes_in rs ++ devices_in next ∷ [] →
    read_more (3 - rs'.count) (routes_in rs') (after cut rest) ≡ read_more (3 - rs.count) (routes_in rs) rest
goes_on rest cut next rs rs' cuts some room reads counts is =
    let w = next-within (routes_in rs) rest (devices_in next) (sym reads) in
    ap (λ n. read_more (3 - n) (routes_in rs') (after cut rest)) counts
    ∙ ap (λ l. read_more (3 - (rs.count + 1)) l (after cut rest)) is
    ∙ ap (λ l. read_more (3 - (rs.count + 1)) (routes_in rs ++ devices_in next ∷ []) (after l rest)) cuts
    ∙ ap (read_more (3 - (rs.count + 1)) (routes_in rs ++ devices_in next ∷ [])) (behind_is (devices_in next) rest w.1)
    ∙ sym (more_step (routes_in rs) rest some (3 - rs.count) (3 - (rs.count + 1)) (devices_in next) (omega arith) (sym reads))
