-- What the console does with the bytes that it receives.
use Rattle.std.specs.Prelude.{ℕ, ◌+◌, min, if◌then◌else◌, List, [], ◌∷◌, ◌++◌, length, Some, None, Ok, Err, Option, Result, ◌==◌}
use Rattle.std.specs.Option.{ok_or}
use Rattle.flow.specs.Outcomes.{and_then}
use Rattle.table.specs.declared.fault.PlanFault.{PlanFault}
use Rattle.calls.specs.Calls.{Call}
use Rattle.plan.specs.Journal.{Journal, blank, answer, after}
use Rattle.line.specs.Grammar.{read_line_of}
use Rattle.console.specs.declared.fault.ConsoleRule.{ConsoleRule}
use Rattle.console.specs.declared.fault.ConsoleRule.TheVariants.{Unreadable, Plan}
use Rattle.console.specs.declared.fault.ConsoleFault.{ConsoleFault}
use Rattle.console.specs.declared.fault.Granted.{Granted}

-- the fault, at line n
abbrev pub fault : ℕ → ConsoleRule → ConsoleFault
fault n rule = record { line = n; rule = rule }

-- what a line spells, or that line n is unreadable
abbrev pub legible_at : {A : Type 0} → ℕ → Option A → Result A ConsoleFault
legible_at n o = ok_or o (fault n Unreadable)

-- the plan's answer, at line n
abbrev pub result_at_line : ℕ → Result (Unit {0}) PlanFault → Result Granted ConsoleFault
result_at_line n (Ok u) = Ok (record { line = n })
result_at_line n (Err e) = Err (fault n (Plan e))

-- the reply to line n, which spells a call or none
abbrev pub reply_to : ℕ → Option Call → Journal → Result Granted ConsoleFault
reply_to n o j = and_then (legible_at n o) (λ call. result_at_line n (answer call j))

-- the journal after the line
abbrev pub after_line : Option Call → Journal → Journal
after_line None j = j
after_line (Some call) j = after call j

-- the console's book: the journal, the number of lines answered, and the bytes of the line that is being received
pub record Book : Type 0 where
  pub journal : Journal
  pub lines : ℕ
  pub line : List ℕ

-- the book of a new console
abbrev pub opened : Book
opened = record { journal = blank; lines = 0; line = [] }

-- one line more; the count stops at the largest number of 32 bits
abbrev pub counted : ℕ → ℕ
counted n = min (n + 1) 4294967295

-- the line that was received, answered
abbrev pub line_reply : Book → Result Granted ConsoleFault
line_reply k = reply_to (counted k.lines) (read_line_of k.line) k.journal

-- the book after that line
abbrev pub line_entered : Book → Book
line_entered k = record { journal = after_line (read_line_of k.line) k.journal; lines = counted k.lines; line = [] }

-- one byte more: byte 10 ends the line
abbrev pub received : ℕ → Book → Book
received b k =
    if b == 10 then line_entered k else record { journal = k.journal; lines = k.lines; line = k.line ++ b ∷ [] }

-- one byte more, unless it ends the line
abbrev pub held_within : ℕ → Book → Book
held_within b k = if b == 10 then k else received b k

-- the reply that it brings
abbrev pub reply : ℕ → Book → Option (Result Granted ConsoleFault)
reply b k = if b == 10 then Some (line_reply k) else None

-- the end of the input: a last line without byte 10 is a line, unless it is empty
abbrev pub last_reply : Book → Option (Result Granted ConsoleFault)
last_reply k = if length k.line == 0 then None else Some (line_reply k)

-- the journal after it
abbrev pub last_journal : Book → Journal
last_journal k = if length k.line == 0 then k.journal else (line_entered k).journal
