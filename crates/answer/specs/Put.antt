-- Bytes put into memory that holds some already.
use Rattle.std.specs.Prelude.{ℕ, ◌+◌, if◌then◌else◌, List, ◌++◌, length, take, drop, Some, None, Option, nat_le}

-- the memory with the bytes written over it from the place `at` on
unfoldable pub put : List ℕ → ℕ → List ℕ → List ℕ
put room at bytes = take at room ++ (bytes ++ drop (at + length bytes) room)

-- the length of the bytes, where they fit into the memory
abbrev pub fit_length : List ℕ → List ℕ → Option ℕ
fit_length bytes room = if nat_le (length bytes) (length room) then Some (length bytes) else None

-- the memory with the bytes at its front, where they fit; else as it was
abbrev pub fitted : List ℕ → List ℕ → List ℕ
fitted bytes room = if nat_le (length bytes) (length room) then bytes ++ drop (length bytes) room else room
