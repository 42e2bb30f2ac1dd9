use Rattle.std.proofs.Common.{◌≡◌, ◌+◌, ◌*◌, ◌≤◌, length}
use Rattle.byte_list.specs.Bytes.{bytes_in}
use Rattle.line.specs.Grammar.{split_at, devices}
use Rattle.line.specs.Held.{behind}
use Rattle.line.specs.Left.{left, size}
use Rattle.line.proofs.routes.read_route.Given as goal

-- the devices that are left, behind those that are held, give the route; and each takes two bytes of the field at least
abbrev pub invariant-loop-piece : goal.invariant-loop-piece
invariant-loop-piece l =
    (behind (bytes_in l.routes) (devices (left l.piece-iterator))
    ≡ behind (bytes_in l.initial.routes) (devices (split_at 45 l.field)))
    × (2 * length (bytes_in l.routes) + size (left l.piece-iterator)
    ≤ 2 * length (bytes_in l.initial.routes) + length l.field + 1)
