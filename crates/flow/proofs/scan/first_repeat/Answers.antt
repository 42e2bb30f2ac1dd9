use Rattle.std.proofs.Common.{eqb, length, get_or, is_some, sym, ap, ◌∙◌, rules, below_more}
use Rattle.flow.specs.Rules.{repeats}
use Rattle.flow.proofs.First.{first-hit, first-none}
use Rattle.flow.proofs.scan.first_repeat.Goals as goal

pub search-preserved : goal.search-preserved
search-preserved c =
    let ds = c.args.devices.now in
    let i = c.search.later in
    let none = first-none (λ j. eqb (get_or ds j 0) (get_or ds i 0)) i (search rules) in
    (c.loop-earlier.invariant.0, below_more _ _ c.search.invariant.1 (ap is_some none))

pub returns-after-search : goal.returns-after-search
returns-after-search c =
    let ds = c.args.devices.now in
    let none = c.search.invariant.0 ∙ sym (first-none (repeats ds) (length ds) (search rules)) in
    record { below = rw c.search.invariant.0 tt; value = none }

pub returns-then-devices-earlier : goal.returns-then-devices-earlier
returns-then-devices-earlier c =
    let ds = c.args.devices.now in
    let i = c.search.later in
    let l = c.loop-earlier in
    let hit = first-hit (λ j. eqb (get_or ds j 0) (get_or ds i 0)) i l.earlier (search rules) l.invariant.1 (search rules) in
    record {
      below = search rules;
      value = sym (first-hit (repeats ds) (length ds) i (search rules) c.search.invariant.1 (ap is_some hit));
    }
