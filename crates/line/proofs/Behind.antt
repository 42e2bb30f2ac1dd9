-- What is read piece by piece stands behind what was read before.
use Rattle.std.proofs.Common.{◌≡◌, ℕ, suc, List, [], ◌∷◌, ◌++◌, length, Some, None, Option, sym, refl, ap, ◌∙◌, append_assoc, append-nil}
use Rattle.std.specs.Option.{option_map}
use Rattle.std.proofs.lemmas.List.{length_push}
use Rattle.line.specs.Grammar.{◌then◌, split_at, number, devices, route, routes}
use Rattle.line.specs.Held.{behind}
use Rattle.line.proofs.Splits.{sizes}

-- two lists, one behind the other
behind-both : (a b : List ℕ) (o : Option (List ℕ)) → behind a (behind b o) ≡ behind (a ++ b) o
behind-both a b None = refl
behind-both a b (Some c) = ap Some (sym (append_assoc a b c))

-- one device on
pub devices-more : (before piece : List ℕ) (pieces : List (List ℕ)) (d : ℕ) → Some d ≡ number 255 piece →
    behind before (devices (piece ∷ pieces)) ≡ behind (before ++ d ∷ []) (devices pieces)
devices-more before piece pieces d h =
    ap (λ o. behind before (o then (λ e. option_map (λ ds. e ∷ ds) (devices pieces)))) (sym h)
    ∙ behind-both before (d ∷ []) (devices pieces)

-- a number in front of a list makes it one longer
length_then : (o : Option ℕ) (rest : Option (List ℕ)) (n : ℕ) →
    ((es : List ℕ) → rest ≡ Some es → length es ≡ n) →
    (ds : List ℕ) → (o then (λ d. option_map (λ es. d ∷ es) rest)) ≡ Some ds → length ds ≡ suc n
length_then None rest n shorter ds h = cc
length_then (Some d) None n shorter ds h = cc
length_then (Some d) (Some es) n shorter ds h =
    let e : d ∷ es ≡ ds = cc in
    sym (ap length e) ∙ ap suc (shorter es refl)

-- each piece gives one device
length-devices : (pieces : List (List ℕ)) (ds : List ℕ) → devices pieces ≡ Some ds → length ds ≡ length pieces
length-devices [] ds h = let e : [] ≡ ds = cc in sym (ap length e)
length-devices (piece ∷ pieces) ds h =
    length_then (number 255 piece) (devices pieces) (length pieces) (length-devices pieces) ds h

-- when all pieces are read, the devices stand there
pub devices-end : (before : List ℕ) (pieces : List (List ℕ)) → pieces ≡ [] →
    Some before ≡ behind before (devices pieces)
devices-end before pieces h = ap Some (sym (append-nil before)) ∙ ap (λ ps. behind before (devices ps)) (sym h)

-- the number of devices, then the devices, behind what was read before
pub route-behind : (before field : List ℕ) →
    behind (before ++ length (split_at 45 field) ∷ []) (devices (split_at 45 field)) ≡ behind before (route field)
route-behind before field = go (devices (split_at 45 field)) (length-devices (split_at 45 field))
  where
    n : ℕ
    n = length (split_at 45 field)

    go : (o : Option (List ℕ)) → ((ds : List ℕ) → o ≡ Some ds → length ds ≡ n) →
        behind (before ++ n ∷ []) o ≡ behind before (option_map (λ ds. length ds ∷ ds) o)
    go None count = refl
    go (Some ds) count =
        ap Some (append_assoc before (n ∷ []) ds ∙ ap (λ k. before ++ k ∷ ds) (sym (count ds refl)))

-- one list on
behind_then : (before after : List ℕ) (o rest : Option (List ℕ)) → Some after ≡ behind before o →
    behind before (o then (λ bytes. behind bytes rest)) ≡ behind after rest
behind_then before after None rest h = cc
behind_then before after (Some bytes) rest h =
    let e : before ++ bytes ≡ after = cc in
    behind-both before bytes rest ∙ ap (λ bs. behind bs rest) e

-- one route on
pub routes-more : (before after field : List ℕ) (fields : List (List ℕ)) →
    Some after ≡ behind before (route field) → behind before (routes (field ∷ fields)) ≡ behind after (routes fields)
routes-more before after field fields h = behind_then before after (route field) (routes fields) h

-- a loop over the devices of a route
pub ruleset device_steps = (devices-more, devices-end, route-behind, length_push, sizes)

-- a loop over the routes
pub ruleset route_steps = (routes-more, sizes)
