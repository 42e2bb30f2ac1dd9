-- Changes that are listed and struck again.
use Rattle.std.proofs.Common.{◌≡◌, suc, List, [], ◌∷◌, ◌++◌, length, refl, ap}
use Rattle.plan.specs.declared.reversal.Reversal.{Reversal}
use Rattle.plan.specs.Journal.{Change, Standing, play, play_all, but_newest}
use Rattle.plan.specs.Follows.{Fits, Reverses, Undoes}

-- changes in two parts are played one part after the other
pub play_all-append : (cs ds : List Change) (s : Standing) → play_all (cs ++ ds) s ≡ play_all ds (play_all cs s)
play_all-append [] ds s = refl
play_all-append (c ∷ cs) ds s = play_all-append cs ds (play c s)

-- there are as many reversals as changes
pub undoes_length : (s : Standing) (cs : List Change) (rs : List Reversal) → Undoes s cs rs → length rs ≡ length cs
undoes_length s [] [] u = refl
undoes_length s [] (r ∷ rs) u = absurd u
undoes_length s (c ∷ cs) [] u = absurd u
undoes_length s (c ∷ cs) (r ∷ rs) u = ap suc (undoes_length (play c s) cs rs u.2)

-- with one more change and its reversal the reversals take the changes back
pub undoes_push : (s : Standing) (cs : List Change) (rs : List Reversal) (c : Change) (r : Reversal) → Undoes s cs rs →
    Fits (play_all cs s).flows → Reverses r (play c (play_all cs s)) (play_all cs s) → Undoes s (cs ++ c ∷ []) (rs ++ r ∷ [])
undoes_push s [] [] c r u f b = (f, b, tt)
undoes_push s [] (x ∷ rs) c r u f b = absurd u
undoes_push s (d ∷ cs) [] c r u f b = absurd u
undoes_push s (d ∷ cs) (x ∷ rs) c r u f b = (u.0, u.1, undoes_push (play d s) cs rs c r u.2 f b)

-- what holds of the newest change: its reversal gives what was before it
pub record Struck (s : Standing) (cs : List Change) (rs : List Reversal) (r : Reversal) : Type 0 where
  pub fits : Fits (play_all (but_newest cs) s).flows
  pub reverses : Reverses r (play_all cs s) (play_all (but_newest cs) s)
  pub others : Undoes s (but_newest cs) rs

-- the newest reversal takes the newest change back, and the others the others
pub undoes_pop : (s : Standing) (cs : List Change) (rs : List Reversal) (r : Reversal) → Undoes s cs (rs ++ r ∷ []) → Struck s cs rs r
undoes_pop s [] [] r u = absurd u
undoes_pop s [] (x ∷ rs) r u = absurd u
undoes_pop s (c ∷ []) [] r u = record { fits = u.0; reverses = u.1; others = tt }
undoes_pop s (c ∷ d ∷ cs) [] r u = absurd u.2
undoes_pop s (c ∷ []) (x ∷ []) r u = absurd u.2
undoes_pop s (c ∷ []) (x ∷ y ∷ rs) r u = absurd u.2
undoes_pop s (c ∷ d ∷ cs) (x ∷ rs) r u =
    let t = undoes_pop (play c s) (d ∷ cs) rs r u.2 in
    record { fits = t.fits; reverses = t.reverses; others = (u.0, u.1, t.others) }
