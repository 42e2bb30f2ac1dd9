-- What is read of one hop.
use Rattle.std.specs.Prelude.{ℕ, ◌+◌, ◌-◌, max, Bool, cond, ◌&&◌, List, length, pos, ◌-ℤ◌, Some, None, Option, int_lt, nat_le, nat_lt}
use Rattle.frame.specs.declared.lifetime.Lifetime.{Lifetime}
use Rattle.frame.specs.Below.{some_below}
use Rattle.frame.specs.Legs.{LegSpec}
use Rattle.frame.specs.Frames.{FrameSpec}
use Rattle.frame.specs.States.{is_state_at, undone, pre, post, first, last}

-- the lifetime of hop k of leg i, where it is an undone hop of a state
abbrev pub lifetime_of : FrameSpec → ℕ → List ℕ → ℕ → ℕ → Option Lifetime
lifetime_of f s p i k =
    cond (is_state_at f s p && undone f p i k)
    (Some (record { before = pre p i k; after = post f i k; first = first f s p i k; last = last f i k })) None

-- the lifetime of hop k of a leg of which n hops are done
abbrev pub leg_lifetime : LegSpec → ℕ → ℕ → ℕ → Lifetime
leg_lifetime l s n k =
    let after = length l.hops - (k + 1) in
    record { before = k - n; after = after; first = max l.release s + (k - n); last = pos l.due -ℤ pos after }

-- of a leg of which so many hops are done: all are
abbrev pub leg_complete : LegSpec → ℕ → Bool
leg_complete l n = nat_le (length l.hops) n

-- its next hop is released
abbrev pub leg_released : LegSpec → ℕ → ℕ → Bool
leg_released l s n = nat_lt n (length l.hops) && nat_le l.release s

-- some undone hop has r > d
abbrev pub leg_late : LegSpec → ℕ → ℕ → Bool
leg_late l s n =
    some_below (length l.hops) (λ k. (nat_le n k && nat_lt k (length l.hops))
    && int_lt (pos l.due -ℤ pos (length l.hops - (k + 1))) (pos (max l.release s + (k - n))))
