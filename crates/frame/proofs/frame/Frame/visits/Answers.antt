use Rattle.std.proofs.Common.{◌≤◌, ◌+◌, ◌-◌, length, take, drop, ap, ◌∙◌, arith}
use Rattle.frame.specs.Frames.{frame_spec}
use Rattle.frame.proofs.Shares.{table_front, table_part, below_rises, below_fits, visits-fit}
use Rattle.frame.proofs.frame.Frame.visits.Goals as goal
use Rattle.frame.proofs.frame.Frame.visits.Goals.{After-start-end}

-- the device's part begins at or before its end
rises : (c : After-start-end) → c.start-first.result ≤ c.start-end.result
rises c =
    let legs = (frame_spec c.args.self.now).legs in
    omega (arith, c.start-first.ensures, c.start-end.ensures, below_rises legs c.args.device (c.args.device + 1) (omega arith))

pub slice_bounds-result-count : goal.slice_bounds-result-count
slice_bounds-result-count c = rises (goal.at.slice_bounds-result-count c).After-start-end

pub slice_bounds-result-start : goal.slice_bounds-result-start
slice_bounds-result-start c = rises (goal.at.slice_bounds-result-start c).After-start-end

pub slice_bounds-result-end : goal.slice_bounds-result-end
slice_bounds-result-end c =
    let f = c.args.self.now in
    omega (
      arith,
      c.start-end.ensures,
      table_front (frame_spec f).legs (c.args.device + 1) (omega (arith, c.ranges.device)),
      ap length (c.as_slice.ensures.value ∙ f.filed),
    )

pub returns : goal.returns
returns c =
    let f = c.args.self.now in
    let legs = (frame_spec f).legs in
    let part =
    ap (λ l. take (c.start-end.result - c.start-first.result) (drop c.start-first.result l))
    (c.as_slice.ensures.value ∙ f.filed)
    ∙ table_part legs c.args.device c.start-first.result c.start-end.result (omega (arith, c.ranges.device))
    c.start-first.ensures c.start-end.ensures in
    record { value = part; few = omega (arith, ap length part, visits-fit legs c.args.device, f.light) }

pub offset_bounds-as_slice-first : goal.offset_bounds-as_slice-first
offset_bounds-as_slice-first c =
    let f = c.args.self.now in
    omega (arith, c.start-first.ensures, below_fits (frame_spec f).legs c.args.device, f.light)
