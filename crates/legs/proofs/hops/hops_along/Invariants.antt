use Rattle.std.proofs.Common.{◌≡◌, ◌+◌, ◌++◌, ◌≤◌, length, take}
use Rattle.std.specs.Slice.ArrayWindows.{array_windows_parts}
use Rattle.std.specs.Slice.Iter.{windows_rest, windows_size}
use Rattle.flow.specs.Views.{devices_in}
use Rattle.legs.specs.Expand.{hops_along_route}
use Rattle.legs.proofs.hops.hops_along.Given as goal

-- with the hops along the devices that are left, those that are written become all
abbrev pub invariant-loop-i : goal.invariant-loop-i
invariant-loop-i l =
    let n = l.i-iterator.count in
    let left = windows_rest (array_windows_parts l.i-iterator.iter) in
    let devices = devices_in l.route in
    record {
      written : take n l.hops ++ hops_along_route left ≡ hops_along_route devices;
      places : length l.hops ≡ 8;
      pairs : windows_size (array_windows_parts l.i-iterator.iter) ≡ 2;
      some : 1 ≤ length left;
      parts : n + length left ≡ length devices;
    }
