-- How a console stands after the bytes that it received.
use Rattle.std.specs.Prelude.{◌≡◌, take}
use Rattle.plan.specs.Plans.{After}
use Rattle.line.specs.Held.{held}
use Rattle.console.specs.declared.state.Console.{Console}
use Rattle.console.specs.Book.{Book}

-- the plan stands after the book's journal, and of the line that is being received the first bytes are held
pub record Keeps (k : Book) (c : Console) : Type 0 where
  pub plan : After k.journal c.plan
  pub lines : c.lines ≡ k.lines
  pub line : held c.received ≡ take 161 k.line
