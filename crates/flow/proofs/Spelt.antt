-- Reading gives the routes that the bytes spell, and refuses only bytes that spell none.
use Rattle.std.proofs.Common.{◌≡◌, ℕ, zero, suc, ◌+◌, ◌<◌, ◌≤◌, Bool, true, false, cond, not, ◌&&◌, eqb, ltb, leb, List, [], ◌∷◌, ◌++◌, length, take, drop, is_some, Some, None, Ok, Err, Option, Result, sym, refl, ap, ◌∙◌, subst, add-one, arith, length-append, take-append-drop}
use Rattle.std.specs.Option.{option_map}
use Rattle.std.specs.List.{AllByRecursion as All}
use Rattle.std.proofs.lemmas.List.{append_assoc, append-nil, length-take-le, take_at, drop_at, nil_from_length}
use Rattle.std.proofs.lemmas.Bool.{cond-true, and_parts, and_from, leb-true, le-leb, ltb-true, lt-ltb, eqb-true, ne_eqb}
use Rattle.flow.specs.declared.fault.RouteFault.{RouteFault}
use Rattle.flow.specs.declared.fault.RouteFault.TheVariants.{Shape, Device, Repeat, Gateway}
use Rattle.flow.specs.Outcomes.{or_else, unless, and_then}
use Rattle.flow.specs.Rules.{first_unknown_of, first_repeat_of, has_gateway_in, lawful, first_of, last_of, same_ends_of, ends_agree, all_agree}
use Rattle.flow.specs.Reading.{shaped, behind, route_fault, ends_fault, ends_after, read_route_of, read_next, read_more, read_routes_of}
use Rattle.flow.specs.Spelling.{spelled, IsRoute, AreRoutes, Meant}
use Rattle.flow.proofs.Checks.{then_ok, unless-ok}
use Rattle.flow.proofs.Many.{agree_more, more-end, more_step, next-ok}

-- devices break no rule exactly where they are lawful
fault-none : (k : ℕ) (ds : List ℕ) → lawful ds ≡ true → route_fault k ds ≡ None
fault-none k ds = go (first_unknown_of ds) (first_repeat_of ds) (has_gateway_in ds)
  where
    go : (a b : Option ℕ) (c : Bool) → (not (is_some a) && (not (is_some b) && c)) ≡ true →
        or_else (option_map (λ i. Device k (i + 1)) a) (or_else (option_map (λ i. Repeat k (i + 1)) b) (cond c None (Some (Gateway k)))) ≡ None
    go None None true e = refl
    go None None false e = absurd (grind arith)
    go None (Some i) c e = absurd (grind arith)
    go (Some i) b c e = absurd (grind arith)

none-lawful : (k : ℕ) (ds : List ℕ) → route_fault k ds ≡ None → lawful ds ≡ true
none-lawful k ds = go (first_unknown_of ds) (first_repeat_of ds) (has_gateway_in ds)
  where
    go : (a b : Option ℕ) (c : Bool) →
        or_else (option_map (λ i. Device k (i + 1)) a) (or_else (option_map (λ i. Repeat k (i + 1)) b) (cond c None (Some (Gateway k)))) ≡ None →
        (not (is_some a) && (not (is_some b) && c)) ≡ true
    go None None true e = refl
    go None None false e = absurd (grind arith)
    go None (Some i) c e = absurd (grind arith)
    go (Some i) b c e = absurd (grind arith)

-- the same ends are no fault
same_none : (k : ℕ) (one ds : List ℕ) → same_ends_of one ds ≡ true → ends_fault k one ds ≡ None
same_none k one ds e =
    let p = and_parts (eqb (first_of one) (first_of ds)) (eqb (last_of one) (last_of ds)) e in
    cond-true (eqb (first_of one) (first_of ds)) _ _ p.0 ∙ cond-true (eqb (last_of one) (last_of ds)) _ _ p.1

-- a route that was read is one, and with the bytes behind it spells the bytes
route-spelt : (k : ℕ) (bytes ds : List ℕ) → read_route_of k bytes ≡ Ok ds → IsRoute ds × (length ds ∷ (ds ++ behind bytes) ≡ bytes)
route-spelt k [] ds e = absurd (grind arith)
route-spelt k (b ∷ bs) ds e = go (shaped (b ∷ bs)) refl e
  where
    go : (t : Bool) → shaped (b ∷ bs) ≡ t → cond t (unless (route_fault k (take b bs)) (Ok (take b bs))) (Err (Shape k)) ≡ Ok ds →
        IsRoute ds × (length ds ∷ (ds ++ behind (b ∷ bs)) ≡ b ∷ bs)
    go true s h =
        let u = unless-ok (route_fault k (take b bs)) (Ok (take b bs)) ds h in
        let kept = u.1 in
        let same : take b bs ≡ ds = cc in
        let p = and_parts (leb 2 b) (leb b 9 && ltb b (suc (length bs))) s in
        let q = and_parts (leb b 9) (ltb b (suc (length bs))) p.1 in
        let long : length ds ≡ b = sym (ap length same) ∙ length-take-le b bs (omega (arith, ltb-true b (suc (length bs)) q.1)) in (
          record {
            least = omega (arith, leb-true 2 b p.0);
            most = omega (arith, leb-true b 9 q.0);
            ok = ap lawful (sym same) ∙ none-lawful k (take b bs) u.0;
          },
          ap (λ n. n ∷ (ds ++ behind (b ∷ bs))) long
              ∙ ap (λ n. b ∷ (ds ++ drop n (b ∷ bs))) (add-one b)
              ∙ ap (λ l. b ∷ (l ++ drop b bs)) (sym same)
              ∙ ap (λ l. b ∷ l) (take-append-drop b bs),
        )
    go false s h = absurd (grind arith)

-- a route that is spelled is read
route_read : (k : ℕ) (ds rest : List ℕ) → IsRoute ds → read_route_of k (length ds ∷ (ds ++ rest)) ≡ Ok ds
route_read k ds rest is =
    let bytes = length ds ∷ (ds ++ rest) in
    let whole : length ds < suc (length (ds ++ rest)) = omega (arith, length-append ds rest) in
    let good = and_from (leb 2 (length ds)) _ (le-leb 2 (length ds) is.least)
    (and_from (leb (length ds) 9) _ (le-leb (length ds) 9 is.most) (lt-ltb (length ds) (suc (length (ds ++ rest))) whole)) in
    cond-true (shaped bytes) _ _ good
    ∙ ap (λ l. unless (route_fault k l) (Ok l)) (take_at ds rest (length ds) refl)
    ∙ ap (λ o. unless o (Ok ds)) (fault-none k ds is.ok)

-- behind it stands the rest
behind-spelt : (ds rest : List ℕ) → behind (length ds ∷ (ds ++ rest)) ≡ rest
behind-spelt ds rest = ap (λ n. drop n (length ds ∷ (ds ++ rest))) (add-one (length ds)) ∙ drop_at ds rest (length ds) refl

-- what came behind the routes so far
record Came (left : ℕ) (sofar routes : List (List ℕ)) (bytes : List ℕ) : Type 0 where
  more : List (List ℕ)
  all : routes ≡ sofar ++ more
  spells : spelled more ≡ bytes
  few : length more ≤ left
  each : All IsRoute more
  ends : all_agree sofar ≡ true → all_agree routes ≡ true

-- nothing came
none_came : (left : ℕ) (sofar routes : List (List ℕ)) (bytes : List ℕ) → eqb (length bytes) 0 ≡ true → sofar ≡ routes →
    Came left sofar routes bytes
none_came left sofar routes bytes empty same = record {
  more = [];
  all = sym same ∙ sym (append-nil sofar);
  spells = sym (nil_from_length bytes (eqb-true (length bytes) 0 empty));
  few = omega arith;
  each = tt;
  ends = λ a. ap all_agree (sym same) ∙ a;
}

-- one came, and others behind it
one-came : (left : ℕ) (sofar routes : List (List ℕ)) (bytes ds : List ℕ) → read_next sofar bytes ≡ Ok ds →
    Came left (sofar ++ ds ∷ []) routes (behind bytes) → Came (suc left) sofar routes bytes
one-came left sofar routes bytes ds next c =
    let n = next-ok sofar bytes ds next in
    let r = route-spelt (length sofar + 1) bytes ds n.0 in
    record {
      more = ds ∷ c.more;
      all = c.all ∙ append_assoc sofar (ds ∷ []) c.more;
      spells = ap (λ l. length ds ∷ (ds ++ l)) c.spells ∙ r.1;
      few = omega (arith, c.few);
      each = (r.0, c.each);
      ends = λ a. c.ends (agree_more (length sofar + 1) sofar ds a n.1);
    }

-- what was read behind the routes so far
came : (left : ℕ) (sofar : List (List ℕ)) (bytes : List ℕ) (routes : List (List ℕ)) → read_more left sofar bytes ≡ Ok routes →
    Came left sofar routes bytes
came zero sofar bytes routes e = go (eqb (length bytes) 0) refl e
  where
    go : (b : Bool) → eqb (length bytes) 0 ≡ b → cond b (Ok sofar) (Err (Shape (length sofar + 1))) ≡ Ok routes →
        Came zero sofar routes bytes
    go true empty h = none_came zero sofar routes bytes empty (cc)
    go false some h = absurd (grind arith)
came (suc left) sofar bytes routes e =
    go (eqb (length bytes) 0) refl e (λ ds. came left (sofar ++ ds ∷ []) (behind bytes) routes)
  where
    go : (b : Bool) → eqb (length bytes) 0 ≡ b →
        cond b (Ok sofar) (and_then (read_next sofar bytes) (λ ds. read_more left (sofar ++ ds ∷ []) (behind bytes))) ≡ Ok routes →
        ((ds : List ℕ) → read_more left (sofar ++ ds ∷ []) (behind bytes) ≡ Ok routes → Came left (sofar ++ ds ∷ []) routes (behind bytes)) →
        Came (suc left) sofar routes bytes
    go true empty h ih = none_came (suc left) sofar routes bytes empty (cc)
    go false some h ih =
        let t = then_ok (read_next sofar bytes) (λ ds. read_more left (sofar ++ ds ∷ []) (behind bytes)) routes h in
        one-came left sofar routes bytes t.0 t.1 (ih t.0 t.2)

-- a route among others has the ends of the first
agree_at : (one : List ℕ) (xs ys : List (List ℕ)) (ds : List ℕ) → ends_agree one (xs ++ ds ∷ ys) ≡ true → same_ends_of one ds ≡ true
agree_at one [] ys ds e = (and_parts (same_ends_of one ds) (ends_agree one ys) e).0
agree_at one (x ∷ xs) ys ds e = agree_at one xs ys ds (and_parts (same_ends_of one x) (ends_agree one (xs ++ ds ∷ ys)) e).1

ends-none : (k : ℕ) (sofar more : List (List ℕ)) (ds : List ℕ) → all_agree (sofar ++ ds ∷ more) ≡ true → ends_after k sofar ds ≡ None
ends-none k [] more ds a = refl
ends-none k (one ∷ sofar) more ds a = same_none k one ds (agree_at one sofar more ds a)

-- routes that are spelled behind those so far are read
reads_more : (left : ℕ) (sofar more : List (List ℕ)) → length more ≤ left → All IsRoute more → all_agree (sofar ++ more) ≡ true →
    read_more left sofar (spelled more) ≡ Ok (sofar ++ more)
reads_more left sofar [] few each ends = more-end left sofar [] refl ∙ ap Ok (sym (append-nil sofar))
reads_more zero sofar (ds ∷ more) few each ends = absurd (omega arith)
reads_more (suc left) sofar (ds ∷ more) few each ends =
    more_step sofar (spelled (ds ∷ more)) (ne_eqb (length (spelled (ds ∷ more))) 0 (λ e. omega arith)) (suc left) left ds refl next
    ∙ ap (read_more left (sofar ++ ds ∷ [])) (behind-spelt ds (spelled more))
    ∙ reads_more left (sofar ++ ds ∷ []) more (omega arith) each.1 (ap all_agree (append_assoc sofar (ds ∷ []) more) ∙ ends)
    ∙ ap Ok (append_assoc sofar (ds ∷ []) more)
  where
    next : read_next sofar (spelled (ds ∷ more)) ≡ Ok ds
    next =
        ap (λ r. and_then r (λ xs. unless (ends_after (length sofar + 1) sofar xs) (Ok xs)))
        (route_read (length sofar + 1) ds (spelled more) each.0)
        ∙ ap (λ o. unless o (Ok ds)) (ends-none (length sofar + 1) sofar more ds ends)

-- routes of a flow are read from the bytes that spell them
reads : (routes : List (List ℕ)) → AreRoutes routes → read_routes_of (spelled routes) ≡ Ok routes
reads [] are = absurd (omega (arith, are.some))
reads (ds ∷ more) are =
    ap (λ r. and_then (and_then r (λ xs. unless None (Ok xs))) (λ xs. read_more 2 (xs ∷ []) (behind (spelled (ds ∷ more)))))
    (route_read 1 ds (spelled more) are.each.0)
    ∙ ap (read_more 2 (ds ∷ [])) (behind-spelt ds (spelled more))
    ∙ reads_more 2 (ds ∷ []) more (omega (arith, are.few)) are.each.1 are.ends

-- what is read is meant
pub read_meant : (bytes : List ℕ) (r : Result (List (List ℕ)) RouteFault) → read_routes_of bytes ≡ r → Meant bytes r
read_meant bytes (Ok routes) e =
    let t = then_ok (read_next [] bytes) (λ ds. read_more 2 (ds ∷ []) (behind bytes)) routes e in
    let behind-it = came 2 (t.0 ∷ []) (behind bytes) routes t.2 in
    let c = one-came 2 [] routes bytes t.0 t.1 behind-it in
    let long : length routes ≡ suc (length behind-it.more) = ap length behind-it.all in (
      record {
        some = omega (arith, long);
        few = omega (arith, long, behind-it.few);
        each = subst (All IsRoute) (sym c.all) c.each;
        ends = c.ends refl;
      },
      ap spelled c.all ∙ c.spells,
    )
read_meant bytes (Err f) e = λ routes are is.
    let back : Ok routes ≡ Err f = sym (reads routes are) ∙ ap read_routes_of is ∙ e in
    absurd (grind arith)
