-- A number in decimal and its last digit.
use Rattle.std.proofs.Common.{◌≡◌, ℕ, ◌+◌, ◌/◌, ◌%◌, ◌^◌, ◌<◌, ◌≤◌, [], ◌∷◌, ◌++◌, decimal, sym, ap, ◌∙◌, arith}
use Rattle.std.proofs.lemmas.Fmt.{decimal_digit, decimal_step}

-- the last digit of a number below ten is the whole of it
pub one_digit : (n b : ℕ) → n < 10 → b ≡ 48 + n % 10 → b ∷ [] ≡ decimal n
one_digit n b h e = let whole : b ≡ 48 + n = omega arith in ap (λ x. x ∷ []) whole ∙ sym (decimal_digit n h)

-- the last digit of a longer number makes its front whole
pub last_digit : (n b : ℕ) → 10 ≤ n → n < 2 ^ 64 → b ≡ 48 + n % 10 → decimal (n / 10) ++ (b ∷ []) ≡ decimal n
last_digit n b low high e = ap (λ x. decimal (n / 10) ++ (x ∷ [])) e ∙ sym (decimal_step n low high)
