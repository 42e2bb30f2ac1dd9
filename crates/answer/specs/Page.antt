-- What a page of lent memory holds after a text.
use Rattle.std.specs.Prelude.{◌≡◌, ℕ, ◌+◌, ◌≤◌, List, length}
use Rattle.answer.specs.declared.page.Page.{Page}
use Rattle.answer.specs.Put.{put}

-- the page holds these bytes more: they are counted, and written into the same memory where they fit
pub record Grows (before after : Page) (bytes : List ℕ) : Type 0 where
  pub same : after.memory.ghost_name ≡ before.memory.ghost_name
  pub counted : after.end ≡ before.end + length bytes
  pub size : length after.memory.now ≡ length before.memory.now
  pub written :
      before.end + length bytes ≤ length before.memory.now → after.memory.now ≡ put before.memory.now before.end bytes
