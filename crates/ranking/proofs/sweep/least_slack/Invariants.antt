use Rattle.std.proofs.Common.{◌≡◌, ◌≤◌, drop, fold}
use Rattle.ranking.specs.Sweep.{least_slack_of, met}
use Rattle.ranking.proofs.sweep.least_slack.Given as goal

-- the visits that are left take the pass to what it finds over all
abbrev pub invariant-loop-visit : goal.invariant-loop-visit
invariant-loop-visit l =
    let s = l.moment.slot in
    let d = l.hop.end in
    let p = l.moment.progress.now in
    record {
      ends : (fold (met s d p) l.sweep (drop l.visit-index l.visit-items)).best ≡ least_slack_of s d p l.visit-items;
      few : l.sweep.count ≤ l.visit-index;
    }
