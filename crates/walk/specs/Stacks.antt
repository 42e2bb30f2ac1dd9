-- Stacks in lent memory.
use Rattle.std.specs.Prelude.{ℕ, List, length, take}
use Rattle.walk.specs.declared.stack.Stack.{Stack}

-- the entries of a stack, the newest last
abbrev pub entries : {A : Type 0} → Stack A → List A
entries s = take s.len s.room.now

-- how many entries it can hold
abbrev pub room_of : {A : Type 0} → Stack A → ℕ
room_of s = length s.room.now
