-- Texts on a page, one after another.
use Rattle.std.proofs.Common.{◌≡◌, ℕ, ◌+◌, ◌^◌, ◌<◌, ◌≤◌, List, ◌++◌, length, decimal, subst, ◌∙◌, lit<, arith, length-append}
use Rattle.std.proofs.lemmas.Fmt.{length-decimal-le}
use Rattle.answer.specs.declared.page.Page.{Page}
use Rattle.answer.specs.declared.refusal.Refusal.{Refusal}
use Rattle.answer.specs.Bytes.{spaced, refusal_bytes}
use Rattle.answer.specs.Page.{Grows}
use Rattle.answer.proofs.Put.{put-put}

-- two texts, one after the other, are one text
pub grows-grows : {a b c : Page} {s t : List ℕ} → Grows a b s → Grows b c t → Grows a c (s ++ t)
grows-grows {a = a} {s = s} {t = t} f g =
    let long : length (s ++ t) ≡ length s + length t = length-append s t in
    let counted = f.counted in
    let size = f.size in
    record {
      same = g.same ∙ f.same;
      counted = let more = g.counted in omega arith;
      size = g.size ∙ f.size;
      written = λ fits. g.written (omega arith)
          ∙ put-put a.memory.now _ a.end _ s t (f.written (omega arith)) f.counted (omega arith);
    }

-- a text spelt otherwise
pub grows_as : {a b : Page} {s t : List ℕ} → s ≡ t → Grows a b s → Grows a b t
grows_as {a = a} {b = b} e g = subst (Grows a b) e g

-- a number of 32 bits has ten digits at most
pub grows_little : {a b : Page} (n : ℕ) → n < 2 ^ 32 → Grows a b (decimal n) → b.end ≤ a.end + 10
grows_little n small g =
    let counted = g.counted in
    let few = length-decimal-le 10 n (lit< tt) (omega arith) (omega arith) in
    omega arith

-- what a refusal says takes 18 bytes at most
pub refusal_little : {a b : Page} (r : Refusal) → r.number < 2 ^ 8 → r.flow < 2 ^ 16 → r.route < 2 ^ 8 → r.position < 2 ^ 8 →
    Grows a b (refusal_bytes r) → b.end ≤ a.end + 18
refusal_little r n f o p g =
    let counted = g.counted in
    let number = length-decimal-le 3 r.number (lit< tt) (omega arith) (omega arith) in
    let flow = length-decimal-le 5 r.flow (lit< tt) (omega arith) (omega arith) in
    let route = length-decimal-le 3 r.route (lit< tt) (omega arith) (omega arith) in
    let position = length-decimal-le 3 r.position (lit< tt) (omega arith) (omega arith) in
    let last = length-append (spaced r.route) (spaced r.position) in
    let rest = length-append (spaced r.flow) (spaced r.route ++ spaced r.position) in
    let all = length-append (spaced r.number) (spaced r.flow ++ (spaced r.route ++ spaced r.position)) in
    omega arith
