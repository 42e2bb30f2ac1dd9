-- Laws of `put`.
use Rattle.std.proofs.Common.{◌≡◌, ℕ, ◌+◌, ◌≤◌, leb, List, ◌++◌, length, drop, Some, sym, ap, refl, arith, ◌∙◌, zero-add}
use borrow.Rule.Slice.PartMut.{put_mid}
use lib.Seq.{paste}
use Rattle.std.proofs.lemmas.List.Edits.{paste_all, paste-paste, length-paste}
use Rattle.std.proofs.lemmas.List.{length-append}
use Rattle.std.proofs.lemmas.Slice.{put_mid-paste}
use Rattle.std.proofs.lemmas.Bool.{le-leb, cond-true}
use Rattle.answer.specs.Put.{put, fit_length, fitted}

-- `put` as the library says it
put_paste : (d : List ℕ) (at n : ℕ) (s : List ℕ) → n ≡ length s → paste d at s n ≡ put d at s
unfolding put
put_paste d at n s e = rw (← e) (paste_all d at s n e)

-- a part of the memory overwritten is the bytes put there
pub put_part : (d : List ℕ) (at n : ℕ) (now s : List ℕ) → now ≡ s → length s ≡ n → put_mid at n d now ≡ put d at s
put_part d at n now s e h = put_mid-paste at n d now s n e refl (sym h) ∙ put_paste d at n s (sym h)

-- bytes put where they fit leave the length of the memory
pub length-put : (d : List ℕ) (at : ℕ) (s : List ℕ) → at + length s ≤ length d → length (put d at s) ≡ length d
length-put d at s fits =
    ap length (sym (put_paste d at (length s) s refl)) ∙ length-paste d at s (length s) fits (omega arith)

-- bytes put at the front
pub put_front : (d bytes : List ℕ) → put d 0 bytes ≡ bytes ++ drop (length bytes) d
unfolding put
put_front d bytes = rw zero-add

-- bytes put right behind others
pub put-put :
    (d out : List ℕ) (at end : ℕ) (s t : List ℕ) → out ≡ put d at s → end ≡ at + length s → at ≤ length d
    → put out end t ≡ put d at (s ++ t)
put-put d out at end s t o e h =
    rw (o, e, ← put_paste d at (length s) s refl, ← put_paste (paste d at s (length s)) (at + length s) (length t) t refl)
    (paste-paste d at s t (length s) (length t) refl refl h
    ∙ put_paste d at (length s + length t) (s ++ t) (sym (length-append s t)))

-- bytes that fit are written, and their length is given
pub fits :
    (bytes room : List ℕ) → length bytes ≤ length room
    → (fit_length bytes room ≡ Some (length bytes)) × (fitted bytes room ≡ put room 0 bytes)
fits bytes room h =
    let test = leb (length bytes) (length room) in
    let yes' = le-leb (length bytes) (length room) h in
    (cond-true test _ _ yes', cond-true test _ _ yes' ∙ sym (put_front room bytes))
