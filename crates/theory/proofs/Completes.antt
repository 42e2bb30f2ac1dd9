-- A run completes the state where it begins.
use Rattle.std.proofs.Common.{◌≡◌, ℕ, ◌+◌, ◌≤◌, true, List, [], ◌∷◌, length, sym, ap, ◌∙◌, ⊎_elim, arith}
use Rattle.std.specs.List.{ContainsAt as Has, AllByRecursion}
use Rattle.std.proofs.ByRecursion.{All-weaker, all-has}
use Rattle.std.proofs.lemmas.Bool.{cases_eq}
use Rattle.frame.specs.Frames.{FrameSpec}
use Rattle.frame.specs.States.{fits, undone}
use Rattle.frame.specs.Sets.{sent}
use Rattle.frame.specs.Quick.{Order, filled, quick_walk_of, untouched}
use Rattle.frame.specs.Grids.{Distinct, Completion}
use Rattle.theory.specs.Orders.{Orders}
use Rattle.theory.proofs.Members.{distinct-short}
use Rattle.theory.proofs.Chosen.{sendable-short}
use Rattle.theory.proofs.Progress.{fits-untouched}
use Rattle.theory.proofs.Runs.{Sends, Run, quick_run}
use Rattle.theory.proofs.Cells.{cell_of, fits_next, now_or_later, cell_now, cell_later, none_left, later_slot}
use Rattle.theory.proofs.Cells.{cell-suits, cells_rise, cells_apart}

-- a completion says only when undone hops are sent
pub completion_same : (f : FrameSpec) (s : ℕ) (p : List ℕ) (at to : ℕ → ℕ → ℕ) →
    ((i k : ℕ) → undone f p i k ≡ true → to i k ≡ at i k) → Completion f s p at → Completion f s p to
completion_same f s p at to same c =
    record {
      starts = λ i k u. omega (arith, same i k u, c.starts i k u);
      opens = λ i k u. omega (arith, same i k u, c.opens i k u);
      ends = λ i k u. omega (arith, same i k u, c.ends i k u);
      rises = λ i k u v. omega (arith, same i k u, same i (k + 1) v, c.rises i k u v);
      apart = λ i k j l u v other e. c.apart i k j l u v other (sym (same i k u) ∙ e ∙ same j l v);
      room = λ t is d h. c.room t is d (All-weaker (λ i. (k : ℕ) × (undone f p i k ≡ true) × (to i k ≡ t))
          (λ i. (k : ℕ) × (undone f p i k ≡ true) × (at i k ≡ t)) (λ i (k, u, e). (k, u, sym (same i k u) ∙ e)) is h);
    }

-- leg i has an undone hop in slot t
abbrev pub SentIn : FrameSpec → ℕ → List ℕ → List (List ℕ) → ℕ → ℕ → Type 0
SentIn f s p sets t i = (k : ℕ) × (undone f p i k ≡ true) × ((cell_of s p sets i k).slot ≡ t)

module _ (f : FrameSpec) where
  -- a leg that is sent in the slot of the first set is in it
  sent_now : (sets : List (List ℕ)) (s : ℕ) (p set : List ℕ) → fits f.legs p ≡ true → Run f s p (set ∷ sets) → (i : ℕ) →
      SentIn f s p (set ∷ sets) s i → Has set i
  sent_now sets s p set ok run i (k, u, e) =
      ⊎_elim (λ n. n.member) (λ l. absurd (omega (arith, e, later_slot f sets s p set ok run i k l)))
      (now_or_later f s p set ok run.1 i k u)

  -- one that is sent in another slot is sent with the later sets
  sent_later : (sets : List (List ℕ)) (s : ℕ) (p set : List ℕ) → fits f.legs p ≡ true → Sends f s p set → (t : ℕ) →
      (t ≡ s → ⊥) → (i : ℕ) → SentIn f s p (set ∷ sets) t i → SentIn f (s + 1) (sent set p) sets t i
  sent_later sets s p set ok now t other i (k, u, e) =
      ⊎_elim (λ n. absurd (other (sym e ∙ ap (λ c. c.slot) (cell_now s p set sets i k n))))
      (λ l. (k, l.left, sym (ap (λ c. c.slot) (cell_later s p set sets i k l.skipped)) ∙ e))
      (now_or_later f s p set ok now i k u)

  -- at most as many legs are sent in a slot as there are channels
  slot-room : (sets : List (List ℕ)) (s : ℕ) (p : List ℕ) → fits f.legs p ≡ true → Run f s p sets → (t : ℕ) (is : List ℕ) →
      Distinct is → AllByRecursion (SentIn f s p sets t) is → length is ≤ f.channels
  slot-room [] s p ok run t [] d h = omega arith
  slot-room [] s p ok run t (i ∷ is) d h = absurd (none_left f p i h.0.0 run h.0.1)
  slot-room (set ∷ sets) s p ok (intime, now, run) t is d h =
      ⊎_elim
      (λ e. omega (
        arith,
        sendable-short f p set now.together,
        distinct-short is set d
            (λ i m. sent_now sets s p set ok (intime, now, run) i
            (let (k, u, at) = all-has (SentIn f s p (set ∷ sets) t) is i h m in (k, u, at ∙ e))),
      ))
      (λ ne. slot-room sets (s + 1) (sent set p) (fits_next f s p set ok now) run t is d
      (All-weaker (SentIn f s p (set ∷ sets) t) (SentIn f (s + 1) (sent set p) sets t) (sent_later sets s p set ok now t ne) is h))
      (cases_eq t s)

  -- the slots of a run are a lawful completion of the state where it begins
  pub run_completes : (sets : List (List ℕ)) (s : ℕ) (p : List ℕ) → fits f.legs p ≡ true → Run f s p sets →
      Completion f s p (λ i k. (cell_of s p sets i k).slot)
  run_completes sets s p ok run =
      record {
        starts = λ i k u. (cell-suits f sets s p ok run i k u).starts;
        opens = λ i k u. (cell-suits f sets s p ok run i k u).opens;
        ends = λ i k u. (cell-suits f sets s p ok run i k u).ends;
        rises = λ i k u v. cells_rise f sets s p ok run i k u v;
        apart = λ i k j l u v apart same. (cells_apart f sets s p ok run i k j l u v apart same).0;
        room = slot-room sets s p ok run;
      }

-- a quick walk that fills the frame gives a lawful completion of its first state
pub quick_completes : (f : FrameSpec) (order : Order) → Orders f order → (sets : List (List ℕ)) → quick_walk_of f order ≡ filled sets →
    Completion f 1 (untouched f) (λ i k. (cell_of 1 (untouched f) sets i k).slot)
quick_completes f order orders sets e =
    run_completes f sets 1 (untouched f) (fits-untouched f) (quick_run f order orders sets e)
