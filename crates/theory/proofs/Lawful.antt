-- A run from the first slot on, and so a quick walk that fills the frame, gives a lawful grid.
use Rattle.std.proofs.Common.{◌≡◌, ℕ, ◌<◌, true, ◌≢◌, List, [], map, length, get_or, sym, ap, ◌∙◌, subst, arith}
use Rattle.std.specs.List.{range_with_len}
use Rattle.std.proofs.lemmas.List.FromFn.{length-map-range_with_len, get_or-map-range_with_len}
use Rattle.std.proofs.lemmas.List.{length-map, get_or-map, ext_get_or}
use Rattle.std.proofs.lemmas.Bool.{ltb-true}
use Rattle.frame.specs.Frames.{FrameSpec, leg_count, size_of, no_leg}
use Rattle.frame.specs.States.{undone}
use Rattle.frame.specs.Quick.{Order, filled, quick_walk_of, untouched, placed_all}
use Rattle.frame.specs.Grids.{Cell, Grid, cell_at, is_hop, LawfulGrid, Lists, ShowsLawfulGrid}
use Rattle.theory.specs.Orders.{Orders}
use Rattle.theory.proofs.Chosen.{sized_below}
use Rattle.theory.proofs.Progress.{fits-untouched, sum-untouched, done_untouched}
use Rattle.theory.proofs.Lifetimes.{undone-from, undone_high}
use Rattle.theory.proofs.Runs.{Run, quick_run}
use Rattle.theory.proofs.Cells.{cell, cell_of, Suits, cell-suits, cells_apart}
use Rattle.theory.proofs.Completes.{completion_same, run_completes}
use Rattle.theory.proofs.Listing.{in_order, placed_total}

-- the grid that gives each hop its cell
abbrev pub grid_of : FrameSpec → (ℕ → ℕ → Cell) → Grid
grid_of f at = map (λ i. map (at i) (range_with_len 0 (size_of f i))) (range_with_len 0 (leg_count f))

module _ (f : FrameSpec) (at : ℕ → ℕ → Cell) where
  -- its cells are those
  pub grid-cell : (i k : ℕ) → k < size_of f i → cell_at (grid_of f at) i k ≡ at i k
  grid-cell i k h =
      ap (λ row. get_or row k (cell 0 0))
      (get_or-map-range_with_len (λ i. map (at i) (range_with_len 0 (size_of f i))) 0 (leg_count f) i i [] (sized_below f i k h) (omega arith))
      ∙ get_or-map-range_with_len (at i) 0 (size_of f i) k k (cell 0 0) h (omega arith)

  -- it has a cell for each hop
  pub grid-shape : map length (grid_of f at) ≡ map (λ l. length l.hops) f.legs
  grid-shape =
      ext_get_or 0 (map length (grid_of f at)) (map (λ l. length l.hops) f.legs)
      (length-map (grid_of f at) length ∙ rows ∙ sym (length-map f.legs (λ l. length l.hops)))
      (λ i h. let b : i < leg_count f = omega (arith, h, length-map (grid_of f at) length, rows) in
      get_or-map length (grid_of f at) i [] 0 (omega (arith, b, rows))
      ∙ ap length (get_or-map-range_with_len (λ i. map (at i) (range_with_len 0 (size_of f i))) 0 (leg_count f) i i [] b (omega arith))
      ∙ length-map-range_with_len (at i) 0 (size_of f i)
      ∙ sym (get_or-map (λ l. length l.hops) f.legs i no_leg 0 b))
    where
      rows : length (grid_of f at) ≡ leg_count f
      rows = length-map-range_with_len (λ i. map (at i) (range_with_len 0 (size_of f i))) 0 (leg_count f)

module _ (f : FrameSpec) (sets : List (List ℕ)) (run : Run f 1 (untouched f) sets) where
  -- the cells of the run
  abbrev run_cell : ℕ → ℕ → Cell
  run_cell i k = cell_of 1 (untouched f) sets i k

  -- a hop within its leg
  hop_below : (i k : ℕ) → is_hop f i k ≡ true → k < size_of f i
  hop_below i k h = ltb-true k (size_of f i) h

  -- at first each hop is undone
  hop_undone : (i k : ℕ) → k < size_of f i → undone f (untouched f) i k ≡ true
  hop_undone i k h = undone-from f (untouched f) i k (omega (arith, done_untouched f i)) h

  -- each hop has a cell in time, whose placement is listed
  suits : (i k : ℕ) → is_hop f i k ≡ true → Suits f 1 (placed_all f 1 (untouched f) sets) i k (cell_at (grid_of f run_cell) i k)
  suits i k h =
      subst (Suits f 1 (placed_all f 1 (untouched f) sets) i k) (sym (grid-cell f run_cell i k (hop_below i k h)))
      (cell-suits f sets 1 (untouched f) (fits-untouched f) run i k (hop_undone i k (hop_below i k h)))

  -- two hops of one slot have different offsets
  own-offset : (i k j l : ℕ) → is_hop f i k ≡ true → is_hop f j l ≡ true → i ≢ j →
      (cell_at (grid_of f run_cell) i k).slot ≡ (cell_at (grid_of f run_cell) j l).slot →
      (cell_at (grid_of f run_cell) i k).offset ≢ (cell_at (grid_of f run_cell) j l).offset
  own-offset i k j l h m apart same =
      let a = grid-cell f run_cell i k (hop_below i k h) in
      let b = grid-cell f run_cell j l (hop_below j l m) in
      let r = cells_apart f sets 1 (untouched f) (fits-untouched f) run i k j l (hop_undone i k (hop_below i k h))
      (hop_undone j l (hop_below j l m)) apart (sym (ap (λ c. c.slot) a) ∙ same ∙ ap (λ c. c.slot) b) in
      (λ e. r.1 (sym (ap (λ c. c.offset) a) ∙ e ∙ ap (λ c. c.offset) b))

  -- the grid of the run is lawful
  pub run_lawful : LawfulGrid f (grid_of f run_cell)
  run_lawful =
      record {
        shape = grid-shape f run_cell;
        completes = completion_same f 1 (untouched f) (λ i k. (run_cell i k).slot) (λ i k. (cell_at (grid_of f run_cell) i k).slot)
            (λ i k u. ap (λ c. c.slot) (grid-cell f run_cell i k (undone_high f (untouched f) i k u)))
            (run_completes f sets 1 (untouched f) (fits-untouched f) run);
        within = λ i k h. (suits i k h).within;
        once = own-offset;
      }

  -- and its placements are those of the sets
  pub run_lists : Lists f (grid_of f run_cell) (placed_all f 1 (untouched f) sets)
  run_lists =
      record {
        each = λ i k h. (suits i k h).listed;
        total = omega (arith, sum-untouched f, placed_total f sets 1 (untouched f) (fits-untouched f) run);
        sorted = in_order f sets 1 (untouched f);
      }

  -- so they show a lawful grid
  pub run_shows : ShowsLawfulGrid f (placed_all f 1 (untouched f) sets)
  run_shows = (grid_of f run_cell, run_lawful, run_lists)

-- a quick walk that fills the frame shows a lawful grid
pub quick_lawful : (f : FrameSpec) (order : Order) → Orders f order → (sets : List (List ℕ)) → quick_walk_of f order ≡ filled sets →
    ShowsLawfulGrid f (placed_all f 1 (untouched f) sets)
quick_lawful f order orders sets e = run_shows f sets (quick_run f order orders sets e)
