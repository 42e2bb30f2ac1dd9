-- The first 161 bytes of a line are enough.
use Rattle.std.proofs.Common.{◌≡◌, ℕ, ◌<◌, ◌≤◌, leb, List, [], ◌∷◌, ◌++◌, length, take, None, sym, ap, ◌∙◌, ⊎_elim, arith}
use Rattle.std.proofs.lemmas.List.{length_push, length-take, length-take-le, take_all, take-append-le, take_at}
use Rattle.std.proofs.lemmas.Bool.{cases_lt, cond-false, lt-leb}
use Rattle.line.specs.Grammar.{split_at, call_of_fields, read_line_of}

-- a byte that has room stands behind the others
pub push_room : (bytes : List ℕ) (byte : ℕ) → length bytes ≤ 160 →
    take 161 (bytes ++ byte ∷ []) ≡ bytes ++ byte ∷ []
push_room bytes byte room = take_all 161 (bytes ++ byte ∷ []) (omega (arith, length_push bytes byte))

-- a byte behind 161 others is let go
pub push_full : (bytes : List ℕ) (byte : ℕ) → length bytes ≡ 161 → take 161 (bytes ++ byte ∷ []) ≡ bytes
push_full bytes byte full = take_at bytes (byte ∷ []) 161 full

-- what a push into the first 161 bytes does
pub ruleset pushes = (push_room, push_full, length-take)

-- a line of more than 160 bytes is unreadable
too_long : (line : List ℕ) → 160 < length line → read_line_of line ≡ None
too_long line h =
    cond-false (leb (length line) 160) (call_of_fields (split_at 32 line)) None (lt-leb (length line) 160 h)

-- the first 161 bytes read as the whole line
pub read_front : (front line : List ℕ) → front ≡ take 161 line → read_line_of front ≡ read_line_of line
read_front front line h =
    ⊎_elim
    (λ (long : 160 < length line).
    too_long front (omega (arith, ap length h, length-take 161 line)) ∙ sym (too_long line long))
    (λ (short : length line ≤ 160). ap read_line_of (h ∙ take_all 161 line (omega arith)))
    (cases_lt 160 (length line))

-- the first 161 bytes of a line and one byte more are the first 161 of the longer line
pub front_push : (front line : List ℕ) (byte : ℕ) → front ≡ take 161 line →
    take 161 (front ++ byte ∷ []) ≡ take 161 (line ++ byte ∷ [])
front_push front line byte h =
    ⊎_elim
    (λ (long : 160 < length line).
    let full : length front ≡ 161 = ap length h ∙ length-take-le 161 line (omega arith) in
    take_at front (byte ∷ []) 161 full ∙ h ∙ sym (take-append-le 161 line (byte ∷ []) (omega arith)))
    (λ (short : length line ≤ 160). ap (λ bs. take 161 (bs ++ byte ∷ [])) (h ∙ take_all 161 line (omega arith)))
    (cases_lt 160 (length line))
