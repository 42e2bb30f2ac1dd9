-- What the types of the code hold, in the words of the grammar.
use Rattle.std.specs.Prelude.{ℕ, List, ◌++◌, Option}
use Rattle.std.specs.Option.{option_map}
use Rattle.byte_list.specs.Bytes.{bytes_in}
use Rattle.calls.specs.Calls.{Call, admit, retire, set_map, undo, settle}
use Rattle.line.specs.declared.call.Call.{Call as Read}
use Rattle.line.specs.declared.call.Call.TheVariants.{Admit, Retire, Map, Undo, Settle}
use Rattle.line.specs.declared.line_buffer.LineBuffer.{LineBuffer}

-- a list that was read, behind another
abbrev pub behind : List ℕ → Option (List ℕ) → Option (List ℕ)
behind before o = option_map (λ more. before ++ more) o

-- the call, with its routes as a list
abbrev pub call_of : Read → Call
call_of (Admit flow period deadline routes) = admit flow period deadline (bytes_in routes)
call_of (Retire flow) = retire flow
call_of (Map channels) = set_map channels
call_of Undo = undo
call_of Settle = settle

-- the bytes of a line that are held
abbrev pub held : LineBuffer → List ℕ
held b = bytes_in b.bytes
