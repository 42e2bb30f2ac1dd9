-- Lawful completions, lawful grids and their count.
use Rattle.std.specs.Prelude.{◌≡◌, ℕ, zero, suc, ◌+◌, ◌<◌, ◌≤◌, Bool, true, false, not, ◌&&◌, ◌||◌, ◌≢◌, ◌⊎◌, List, [], ◌∷◌, map, length, filter, ◌==◌, nat_le, nat_lt, slice_index_or}
use Rattle.std.specs.List.{range_with_len, ContainsAt as Has, flat_map, AllByRecursion}
use Rattle.frame.specs.declared.placement.Placement.{Placement}
use Rattle.frame.specs.Below.{all_below}
use Rattle.frame.specs.Legs.{LegSpec, hop_total}
use Rattle.frame.specs.Frames.{FrameSpec, leg_count, leg_at, size_of, hop_at}
use Rattle.frame.specs.States.{undone}
use Rattle.frame.specs.Sets.{clash}
use Rattle.frame.specs.Quick.{untouched}

-- no number stands twice
abbrev pub Distinct : List ℕ → Type 0
Distinct [] = Unit {0}
Distinct (x ∷ xs) = (Has xs x → ⊥) × Distinct xs

-- a lawful completion of slot s with progress p: `at i k` is the slot of hop k of leg i
pub record Completion (f : FrameSpec) (s : ℕ) (p : List ℕ) (at : ℕ → ℕ → ℕ) : Type 0 where
  -- each undone hop has a slot from s on, not before its leg's release and not after its due slot
  pub starts : (i k : ℕ) → undone f p i k ≡ true → s ≤ at i k
  pub opens : (i k : ℕ) → undone f p i k ≡ true → (leg_at f i).release ≤ at i k
  pub ends : (i k : ℕ) → undone f p i k ≡ true → at i k ≤ (leg_at f i).due
  -- along a leg the slots rise
  pub rises : (i k : ℕ) → undone f p i k ≡ true → undone f p i (k + 1) ≡ true → at i k < at i (k + 1)
  -- hops of one slot share no device
  pub apart : (i k j l : ℕ) → undone f p i k ≡ true → undone f p j l ≡ true → i ≢ j → at i k ≡ at j l →
      clash (hop_at f i k) (hop_at f j l) ≡ false
  -- at most as many hops stand in one slot as there are channels
  pub room : (t : ℕ) (is : List ℕ) → Distinct is → AllByRecursion (λ i. (k : ℕ) × (undone f p i k ≡ true) × (at i k ≡ t)) is →
      length is ≤ f.channels

-- where a hop is sent
pub record Cell : Type 0 where
  pub slot : ℕ
  pub offset : ℕ

-- for each leg the cells of its hops
abbrev pub Grid : Type 0
Grid = List (List Cell)

-- the cell of hop k of leg i
abbrev pub cell_at : Grid → ℕ → ℕ → Cell
cell_at g i k = slice_index_or (slice_index_or g i []) k (record { slot = 0; offset = 0 })

-- the frame has a hop k of leg i
abbrev pub is_hop : FrameSpec → ℕ → ℕ → Bool
is_hop f i k = nat_lt k (size_of f i)

-- a lawful grid completes slot 1 with nothing done, and gives each hop of a slot an offset of its own
pub record LawfulGrid (f : FrameSpec) (g : Grid) : Type 0 where
  -- one cell for each hop
  pub shape : map length g ≡ map (λ l. length l.hops) f.legs
  -- in order, in time, and without a conflict
  pub completes : Completion f 1 (untouched f) (λ i k. (cell_at g i k).slot)
  -- an offset for each channel, and each once in a slot
  pub within : (i k : ℕ) → is_hop f i k ≡ true → (cell_at g i k).offset < f.channels
  pub once : (i k j l : ℕ) → is_hop f i k ≡ true → is_hop f j l ≡ true → i ≢ j → (cell_at g i k).slot ≡ (cell_at g j l).slot →
      (cell_at g i k).offset ≢ (cell_at g j l).offset

-- the placement of hop k of leg i in a grid
abbrev pub placement_of : FrameSpec → Grid → ℕ → ℕ → Placement
placement_of f g i k = record {
  slot = (cell_at g i k).slot;
  offset = (cell_at g i k).offset;
  sender = (hop_at f i k).sender;
  receiver = (hop_at f i k).receiver;
  flow = (leg_at f i).flow;
  route = (leg_at f i).route;
  hop = k + 1;
}

-- one placement comes before another: by slot, then by offset
abbrev pub Before : Placement → Placement → Type 0
Before a b = (a.slot < b.slot) ⊎ ((a.slot ≡ b.slot) × (a.offset < b.offset))

-- each placement comes before the next
abbrev pub InOrder : List Placement → Type 0
InOrder [] = Unit {0}
InOrder (a ∷ []) = Unit {0}
InOrder (a ∷ b ∷ bs) = Before a b × InOrder (b ∷ bs)

-- the placements are those of the grid, one for each hop, in order of slot, then offset
pub record Lists (f : FrameSpec) (g : Grid) (ps : List Placement) : Type 0 where
  pub each : (i k : ℕ) → is_hop f i k ≡ true → Has ps (placement_of f g i k)
  pub total : length ps ≡ hop_total f.legs
  pub sorted : InOrder ps

-- the placements are those of some lawful grid
abbrev pub ShowsLawfulGrid : FrameSpec → List Placement → Type 0
ShowsLawfulGrid f ps = (g : Grid) × LawfulGrid f g × Lists f g ps

-- the cells of a frame
abbrev pub cells_of : FrameSpec → List Cell
cells_of f =
    flat_map (λ s. map (λ o. let c : Cell = record { slot = s; offset = o } in c) (range_with_len 0 f.channels)) (range_with_len 1 f.slots)

-- all lists that take one of xs at each of n places
abbrev pub lists_of : {A : Type 0} → ℕ → List A → List (List A)
lists_of zero xs = [] ∷ []
lists_of (suc n) xs = flat_map (λ x. map (λ ys. x ∷ ys) (lists_of n xs)) xs

-- all ways to give every hop of the legs one of the cells
abbrev pub grids_over : List Cell → List LegSpec → List Grid
grids_over cells [] = [] ∷ []
grids_over cells (l ∷ ls) =
    flat_map (λ row. map (λ rows. row ∷ rows) (grids_over cells ls)) (lists_of (length l.hops) cells)

-- hop k of leg i is in time, and after the hop before it
abbrev pub timely : FrameSpec → Grid → ℕ → ℕ → Bool
timely f g i zero = nat_le (leg_at f i).release (cell_at g i 0).slot && nat_le (cell_at g i 0).slot (leg_at f i).due
timely f g i (suc k) = nat_lt (cell_at g i k).slot (cell_at g i (suc k)).slot && nat_le (cell_at g i (suc k)).slot (leg_at f i).due

-- hop k of leg i and hop l of leg j stand in different slots, or share neither a device nor the offset
abbrev pub compatible : FrameSpec → Grid → ℕ → ℕ → ℕ → ℕ → Bool
compatible f g i k j l =
    not ((cell_at g i k).slot == (cell_at g j l).slot)
    || (not (clash (hop_at f i k) (hop_at f j l)) && not ((cell_at g i k).offset == (cell_at g j l).offset))

-- the grid, one cell for each hop, is lawful
abbrev pub is_lawful : FrameSpec → Grid → Bool
is_lawful f g =
    all_below (leg_count f) (λ i. all_below (size_of f i) (λ k. timely f g i k
    && all_below i (λ j. all_below (size_of f j) (λ l. compatible f g i k j l))))

-- the number of lawful grids: two are different where a hop's slot or offset differs
abbrev pub grid_count : FrameSpec → ℕ
grid_count f = length (filter (is_lawful f) (grids_over (cells_of f) f.legs))
