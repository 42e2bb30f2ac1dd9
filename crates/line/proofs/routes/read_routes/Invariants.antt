use Rattle.std.proofs.Common.{◌≡◌, ◌+◌, ◌≤◌, length}
use Rattle.byte_list.specs.Bytes.{bytes_in}
use Rattle.line.specs.Grammar.{routes}
use Rattle.line.specs.Held.{behind}
use Rattle.line.specs.Left.{left, size}
use Rattle.line.proofs.routes.read_routes.Given as goal

-- the routes that are left, behind those that are held, give all; and the bytes that are held and left fit
abbrev pub invariant-loop-field : goal.invariant-loop-field
invariant-loop-field l =
    (behind (bytes_in l.bytes) (routes (left l.field-iterator)) ≡ routes (left l.fn.fields))
    × (length (bytes_in l.bytes) + size (left l.field-iterator) ≤ 160)
