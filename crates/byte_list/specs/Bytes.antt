-- What a list of bytes holds.
use Rattle.std.specs.Prelude.{ℕ, List, take}
use Rattle.byte_list.specs.declared.list.ByteList.{ByteList}

-- its bytes, in order
abbrev pub bytes_in : {n : ℕ} → ByteList n → List ℕ
bytes_in l = take l.len l.places
