-- What a list with reserved memory holds.
use Rattle.std.specs.Prelude.{ℕ, List, vec_items, vec_capacity}
use Rattle.reserved.specs.declared.list.Reserved.{Reserved}

-- its entries, in order
abbrev pub held : {A : Type 0} {n : ℕ} → Reserved A n → List A
held r = vec_items r.entries

-- how many entries its memory is for: none of its calls alters it, so none allocates
abbrev pub memory_of : {A : Type 0} {n : ℕ} → Reserved A n → ℕ
memory_of r = vec_capacity r.entries
