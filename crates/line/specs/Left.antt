-- What is left of a text that is read piece by piece.
use Rattle.std.specs.Prelude.{ℕ, ◌+◌, List, [], length, sum_by}
use Rattle.std.specs.Option.{option_map_or}
use Rattle.line.specs.declared.pieces.Pieces.{Pieces}
use Rattle.line.specs.Grammar.{split_at}

-- the pieces that are left
abbrev pub left : Pieces → List (List ℕ)
left p = option_map_or (λ rest. split_at p.separator rest.now) p.rest []

-- the bytes of pieces, counting one separator for each
abbrev pub size : List (List ℕ) → ℕ
size pieces = sum_by (λ piece. length piece + 1) pieces
