-- Where the first separator stands, the first piece ends.
use Rattle.std.proofs.Common.{◌≡◌, ℕ, ◌+◌, ◌-◌, ◌<◌, ◌≤◌, Bool, false, not, eqb, List, [], ◌∷◌, length, take, drop, Option, Some, None, refl, sym, ap, ◌∙◌, ⊎_elim, arith}
use Rattle.std.specs.List.{position, position_or_len, onto_first, count_by}
use Rattle.std.specs.Option.{is_some, option_map_or}
use Rattle.std.specs.Borrow.{Bor}
use Rattle.std.proofs.lemmas.List.{take_rest}
use Rattle.std.proofs.lemmas.List.Elements.{All-from_get_or}
use Rattle.std.proofs.lemmas.List.Sums.{fails_before_first, sum_by-cons}
use Rattle.std.proofs.lemmas.List.Splits.{slice_split_first, slice_split_none, length-slice_split}
use Rattle.std.proofs.lemmas.Bool.{cases_lt, cond-true, cond-false, cond_both, lt-ltb, le-ltb}
use Rattle.line.specs.Grammar.{split_at, is_empty}
use Rattle.line.specs.declared.pieces.Pieces.{Pieces}
use Rattle.line.specs.Left.{left, size}

-- the first separator ends the first piece
pub split_found : (s : ℕ) (xs : List ℕ) (i : ℕ) → position (λ x. eqb x s) xs ≡ Some i →
    split_at s xs ≡ take i xs ∷ split_at s (drop (i + 1) xs)
split_found s xs i found =
    let p : ℕ → Bool = λ x. eqb x s in
    let n = position_or_len p xs in
    ⊎_elim
    (λ (h : n < length xs).
    let here : Some n ≡ Some i = sym (cond-true _ (Some n) None (lt-ltb n (length xs) h)) ∙ found in
    let same : n ≡ i = cc in
    slice_split_first p xs 0 h ∙ ap (λ k. take k xs ∷ split_at s (drop (k + 1) xs)) same)
    (λ (h : length xs ≤ n).
    let none : None ≡ Some i = sym (cond-false _ (Some n) None (le-ltb n (length xs) h)) ∙ found in
    cc)
    (cases_lt n (length xs))

-- without a separator the text is one piece
pub split_none : (s : ℕ) (xs : List ℕ) → position (λ x. eqb x s) xs ≡ None → split_at s xs ≡ xs ∷ []
split_none s xs none =
    let p : ℕ → Bool = λ x. eqb x s in
    let n = position_or_len p xs in
    ⊎_elim
    (λ (h : n < length xs).
    let found : Some n ≡ None = sym (cond-true _ (Some n) None (lt-ltb n (length xs) h)) ∙ none in
    cc)
    (λ (h : length xs ≤ n).
    let clear = All-from_get_or (λ x. p x ≡ false) xs 0 (λ k below. fails_before_first p xs k 0 (omega arith)) in
    slice_split_none p xs clear)
    (cases_lt n (length xs))

-- the pieces of a text that may be read already
abbrev pub left_at : ℕ → Option (Bor (List ℕ)) → List (List ℕ)
left_at s rest = option_map_or (λ r. split_at s r.now) rest []

-- of what is left, the first separator ends the first piece
pub left_found : (p : Pieces) (rest : Bor (List ℕ)) (i : ℕ) → p.rest ≡ Some rest →
    position (λ x. eqb x p.separator) rest.now ≡ Some i →
    left p ≡ take i rest.now ∷ split_at p.separator (take (length rest.now - (i + 1)) (drop (i + 1) rest.now))
left_found p rest i here found =
    ap (left_at p.separator) here ∙ split_found p.separator rest.now i found ∙ simp take_rest

-- without a separator it is one piece
pub left_none : (p : Pieces) (rest : Bor (List ℕ)) → p.rest ≡ Some rest →
    position (λ x. eqb x p.separator) rest.now ≡ None → left p ≡ rest.now ∷ []
left_none p rest here none = ap (left_at p.separator) here ∙ split_none p.separator rest.now none

-- what a step of the iterator leaves
pub ruleset steps = (left_found, left_none)

-- a text has at least one piece
some_piece : (s : ℕ) (xs : List ℕ) → 0 < length (split_at s xs)
some_piece s xs = omega (arith, length-slice_split (λ x. eqb x s) xs)

-- a list that has an element is not empty
not-empty : (pieces : List (List ℕ)) → 0 < length pieces → false ≡ is_empty pieces
not-empty [] h = absurd (omega arith)
not-empty (p ∷ ps) h = refl

-- no piece is left where no text is
pub empty_left : (p : Pieces) → is_empty (left p) ≡ not (is_some p.rest)
empty_left p = go p.rest
  where
    go : (rest : Option (Bor (List ℕ))) → is_empty (left_at p.separator rest) ≡ not (is_some rest)
    go None = refl
    go (Some r) = sym (not-empty (split_at p.separator r.now) (some_piece p.separator r.now))

-- one piece more
size-cons : (piece : List ℕ) (pieces : List (List ℕ)) → size (piece ∷ pieces) ≡ length piece + 1 + size pieces
size-cons piece pieces = sum_by-cons (λ p. length p + 1) piece pieces

-- what is left when a piece is taken
pub size_next : {before after : List (List ℕ)} {piece : List ℕ} → before ≡ piece ∷ after →
    size before ≡ length piece + 1 + size after
size_next {after = after} {piece = piece} cut = ap size cut ∙ size-cons piece after

-- a byte in front of the first piece
size-onto_first : (x : ℕ) (pieces : List (List ℕ)) → 0 < length pieces →
    size (onto_first x pieces) ≡ size pieces + 1
size-onto_first x [] h = absurd (omega arith)
size-onto_first x (p ∷ ps) h = omega (arith, size-cons (x ∷ p) ps, size-cons p ps)

-- the pieces of a text have its bytes, and one separator fewer than pieces
pub size-split_at : (s : ℕ) (xs : List ℕ) → size (split_at s xs) ≡ length xs + 1
size-split_at s [] = refl
size-split_at s (x ∷ xs) =
    let P : List (List ℕ) → Type 0 = λ ps. size ps ≡ length (x ∷ xs) + 1 in
    let rest = size-split_at s xs in
    let front = size-onto_first x (split_at s xs) (some_piece s xs) in
    cond_both
    (eqb x s)
    ([] ∷ split_at s xs)
    (onto_first x (split_at s xs))
    P
    (λ _. omega (arith, size-cons [] (split_at s xs)))
    (λ _. omega arith)

-- how many bytes are left
pub ruleset sizes = (size_next, size-split_at)

-- each piece counts one at least
length-size : (pieces : List (List ℕ)) → length pieces ≤ size pieces
length-size [] = omega arith
length-size (p ∷ ps) = omega (arith, length-size ps, size-cons p ps)

-- a text has at most one piece more than bytes
pub most_pieces : (s : ℕ) (xs : List ℕ) → length (split_at s xs) ≤ length xs + 1
most_pieces s xs = omega (arith, length-size (split_at s xs), size-split_at s xs)

-- each separator makes one piece more
pub pieces_by_separators : (s : ℕ) (xs : List ℕ) → length (split_at s xs) ≡ 1 + count_by (λ x. eqb x s) xs
pieces_by_separators s xs = omega (arith, length-slice_split (λ x. eqb x s) xs)

-- a text has at most as many separators as bytes
pub few_separators : (s : ℕ) (xs : List ℕ) → count_by (λ x. eqb x s) xs ≤ length xs
few_separators s xs = omega (arith, most_pieces s xs, pieces_by_separators s xs)
