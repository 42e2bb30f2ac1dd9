-- Sets that are sent one after the other until all hops are done.
use Rattle.std.proofs.Common.{◌≡◌, ℕ, zero, suc, ◌+◌, true, false, cond, List, [], ◌∷◌, refl, subst, arith}
use Rattle.std.specs.List.{ContainsAt as Has}
use Rattle.std.proofs.lemmas.Bool.{cond_both}
use Rattle.frame.specs.Frames.{FrameSpec}
use Rattle.frame.specs.States.{released, overdue, complete}
use Rattle.frame.specs.Sets.{sendable, sent}
use Rattle.frame.specs.Quick.{Order, first_set, Ended, filled, missed, behind, quick_from, quick_walk_of, untouched}
use Rattle.frame.specs.Grids.{Distinct}
use Rattle.theory.specs.Orders.{Orders}
use Rattle.theory.proofs.Chosen.{first-distinct, first-released, first-sendable}

-- a set that may be sent in slot s with progress p
pub record Sends (f : FrameSpec) (s : ℕ) (p set : List ℕ) : Type 0 where
  pub distinct : Distinct set
  pub holds : (i : ℕ) → Has set i → released f s p i ≡ true
  pub together : sendable f p set ≡ true

-- from slot s and progress p on, the sets are sent in states with no overdue hop, and then all hops are done
abbrev pub Run : FrameSpec → ℕ → List ℕ → List (List ℕ) → Type 0
Run f s p [] = complete f p ≡ true
Run f s p (set ∷ sets) = (overdue f s p ≡ false) × Sends f s p set × Run f (s + 1) (sent set p) sets

module _ (f : FrameSpec) (order : Order) (orders : Orders f order) where
  -- a first set may be sent
  pub first-sends : (s : ℕ) (p : List ℕ) → Sends f s p (first_set f order s p)
  first-sends s p =
      record {
        distinct = first-distinct f order orders s p;
        holds = first-released f order orders s p;
        together = first-sendable f order orders s p;
      }

  -- the sets of a quick walk are such a run
  pub quick_run_from : (n s : ℕ) (p : List ℕ) (sets : List (List ℕ)) → quick_from f order n s p ≡ filled sets → Run f s p sets
  quick_run_from zero s p sets = λ e. absurd (let z : ◌≡◌ {A = ℕ} 0 1 = cc in omega arith)
  quick_run_from (suc n) s p sets =
      cond_both (complete f p) (filled [])
      (cond (overdue f s p) (missed s) (behind (first_set f order s p) (quick_from f order n (s + 1) (sent (first_set f order s p) p))))
      (λ w. w ≡ filled sets → Run f s p sets)
      (λ done e. let none : [] ≡ sets = cc in subst (Run f s p) none done)
      (λ _. cond_both (overdue f s p) (missed s)
      (behind (first_set f order s p) (quick_from f order n (s + 1) (sent (first_set f order s p) p))) (λ w. w ≡ filled sets → Run f s p sets)
      (λ _ e. absurd (let z : ◌≡◌ {A = ℕ} 0 1 = cc in omega arith))
      (λ intime. go intime (quick_from f order n (s + 1) (sent (first_set f order s p) p))
      (quick_run_from n (s + 1) (sent (first_set f order s p) p))))
    where
      go : overdue f s p ≡ false → (w : Ended) →
          ((rest : List (List ℕ)) → w ≡ filled rest → Run f (s + 1) (sent (first_set f order s p) p) rest) →
          behind (first_set f order s p) w ≡ filled sets → Run f s p sets
      go intime (filled rest) run e =
          let more : first_set f order s p ∷ rest ≡ sets = cc in subst (Run f s p) more (intime, first-sends s p, run rest refl)
      go intime (missed t) run e = absurd (let z : ◌≡◌ {A = ℕ} 0 1 = cc in omega arith)

  -- the same from the first slot on
  pub quick_run : (sets : List (List ℕ)) → quick_walk_of f order ≡ filled sets → Run f 1 (untouched f) sets
  quick_run sets e = quick_run_from (f.slots + 1) 1 (untouched f) sets e
