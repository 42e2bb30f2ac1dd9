use Rattle.std.proofs.Common.{rules, ◌<◌, ◌^◌, length, refl, ap, ◌∙◌, arith}
use Rattle.std.specs.Char.{is_ascii_digit}
use Rattle.std.proofs.lemmas.Fn.{serves_by}
use Rattle.std.proofs.lemmas.List.{length_push}
use Rattle.line.proofs.Digits.{below_more, room_for_digit, left_after, spells, spelt}
use Rattle.line.proofs.number.value_of.Goals as goal

pub try_fold-requires-clause-callable : goal.try_fold-requires-clause-callable
try_fold-requires-clause-callable c =
    serves_by _ (λ xs q. q.1 < 10 ^ length xs)
    (λ xs q x v j r.
    let more = below_more (is_ascii_digit x.now) q.1 v.1 x.now (length xs) j refl (search rules) in
    rw (length_push xs x) more)
    _ _ _ _ (omega arith)
    (λ xs t q x u y e j.
    let left = left_after xs _ t y in
    room_for_digit q.1 (length xs) j (omega (arith, ap length e, left, ap length c.iter.ensures.rest)))

pub returns : goal.returns
returns c =
    let r = c.try_fold.ensures.ran in
    spells _ _ _ c.try_fold.result (λ p x q t. search rules) (λ x e. search rules) r.0 r.1 _ _ _ r.4 r.5 r.6
    ∙ ap (spelt 0) c.iter.ensures.rest
