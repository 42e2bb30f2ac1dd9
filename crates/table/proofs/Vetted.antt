-- What holds of a flow that was let in.
use Rattle.std.proofs.Common.{◌≡◌, ℕ, ◌<◌, ◌≤◌, Bool, true, false, ◌&&◌, ltb, leb, List, length, Some, None, Ok, Err, Option, Result, sym, refl, ap, ◌∙◌, arith}
use Rattle.std.proofs.lemmas.Bool.{not-false, and_parts, leb-true, leb-false, ltb-false, le-ltb, lt-ltb}
use Rattle.flow.specs.declared.fault.RouteFault.{RouteFault}
use Rattle.flow.specs.Outcomes.{or_else, unless, and_then}
use Rattle.flow.specs.Reading.{read_routes_of}
use Rattle.flow.specs.Flows.{FlowSpec}
use Rattle.flow.proofs.Checks.{checked, then_ok, unless-ok}
use Rattle.table.specs.declared.fault.PlanFault.{PlanFault}
use Rattle.table.specs.declared.fault.PlanRule.TheVariants.{Number, InForce, Full, Frame, Transmissions}
use Rattle.table.specs.Force.{in_force, enter}
use Rattle.table.specs.Frame.{frame, transmissions}
use Rattle.table.specs.Vetting.{at, when, outside, result_at_flow, place_fault, time_fault, frame_fault, vetted}

-- of two checks neither found a fault
none_both : {E : Type 0} (o p : Option E) → or_else o p ≡ None → (o ≡ None) × (p ≡ None)
none_both None p e = (refl, e)
none_both (Some f) p e = absurd (grind arith)

-- a rule that is not broken
when-none : {E : Type 0} (b : Bool) (e : E) → when b e ≡ None → b ≡ false
when-none true e h = absurd (grind arith)
when-none false e h = refl

-- a number that is not outside its range
inside : (low high n : ℕ) → outside low high n ≡ false → (low ≤ n) × (n ≤ high)
inside low high n e =
    let p = and_parts (leb low n) (leb n high) (not-false (leb low n && leb n high) e) in
    (leb-true low n p.0, leb-true n high p.1)

-- the number is one, it is new, and there is a place
pub record Placed (n : ℕ) (fs : List FlowSpec) : Type 0 where
  pub least : 1 ≤ n
  pub most : n ≤ 999
  pub new : in_force n fs ≡ false
  pub room : length fs < 32

-- a number without a fault has a place
pub place_ok : (n : ℕ) (fs : List FlowSpec) → place_fault n fs ≡ None → Placed n fs
place_ok n fs e =
    let twice = when (in_force n fs) (at n InForce) in
    let full = when (leb 32 (length fs)) (at n Full) in
    let a = none_both (when (outside 1 999 n) (at n Number)) (or_else twice full) e in
    let b = none_both twice full a.1 in
    let r = inside 1 999 n (when-none (outside 1 999 n) (at n Number) a.0) in
    record {
      least = r.0;
      most = r.1;
      new = when-none (in_force n fs) (at n InForce) b.0;
      room = leb-false 32 (length fs) (when-none (leb 32 (length fs)) (at n Full) b.1);
    }

-- the flows fit one frame
pub record Framed (fs : List FlowSpec) : Type 0 where
  pub short : frame fs ≤ 1024
  pub light : transmissions fs ≤ 2048

-- flows without a fault fit one frame
pub frame-ok : (n : ℕ) (fs : List FlowSpec) → frame_fault n fs ≡ None → Framed fs
frame-ok n fs e =
    let a = none_both (when (ltb 1024 (frame fs)) (at n Frame)) (when (ltb 2048 (transmissions fs)) (at n Transmissions)) e in
    record {
      short = ltb-false 1024 (frame fs) (when-none (ltb 1024 (frame fs)) (at n Frame) a.0);
      light = ltb-false 2048 (transmissions fs) (when-none (ltb 2048 (transmissions fs)) (at n Transmissions) a.1);
    }

-- in a frame that is short enough the transmissions decide
frame_decides : (n : ℕ) (fs : List FlowSpec) (b : Bool) → frame fs ≤ 1024 → ltb 2048 (transmissions fs) ≡ b →
    checked (frame_fault n fs) ≡ checked (when b (at n Transmissions))
frame_decides n fs b short light =
    let heavy = when (ltb 2048 (transmissions fs)) (at n Transmissions) in
    ap (λ x. checked (or_else (when x (at n Frame)) heavy)) (le-ltb 1024 (frame fs) short)
    ∙ ap (λ x. checked (when x (at n Transmissions))) light

-- flows that fit pass
pub frame-passed : (n : ℕ) (fs : List FlowSpec) → frame fs ≤ 1024 → transmissions fs ≤ 2048 → checked (frame_fault n fs) ≡ Ok tt
frame-passed n fs short light = frame_decides n fs false short (le-ltb 2048 (transmissions fs) light)

-- flows that have too many transmissions are refused
pub frame_refused : (n : ℕ) (fs : List FlowSpec) → frame fs ≤ 1024 → 2048 < transmissions fs →
    checked (frame_fault n fs) ≡ Err (at n Transmissions)
frame_refused n fs short heavy = frame_decides n fs true short (lt-ltb 2048 (transmissions fs) heavy)

-- a flow may enter: its number has a place, and with it the flows fit one frame
pub record Admitted (n : ℕ) (f : FlowSpec) (fs : List FlowSpec) : Type 0 where
  pub named : f.number ≡ n
  pub placed : Placed n fs
  pub framed : Framed (enter f fs)

-- the flow that the vetting gives may enter
pub vetted-ok : (n p d : ℕ) (bytes : List ℕ) (fs : List FlowSpec) (f : FlowSpec) → vetted n p d bytes fs ≡ Ok f → Admitted n f fs
vetted-ok n p d bytes fs f e =
    let a = unless-ok (place_fault n fs) (unless (time_fault n p d) (framed (read_routes_of bytes))) f e in
    let b = unless-ok (time_fault n p d) (framed (read_routes_of bytes)) f a.1 in
    let c = then_ok (result_at_flow n (read_routes_of bytes)) (λ routes. fitting (flow routes)) f b.1 in
    let u = unless-ok (frame_fault n (enter (flow c.0) fs)) (Ok (flow c.0)) f c.2 in
    let kept = u.1 in
    let same : flow c.0 ≡ f = cc in
    record {
      named = sym (ap (λ g. g.number) same);
      placed = place_ok n fs a.0;
      framed = frame-ok n (enter f fs) (ap (λ g. frame_fault n (enter g fs)) (sym same) ∙ u.0);
    }
  where
    flow : List (List ℕ) → FlowSpec
    flow routes = record { number = n; period = p; deadline = d; routes = routes }

    fitting : FlowSpec → Result FlowSpec PlanFault
    fitting g = unless (frame_fault n (enter g fs)) (Ok g)

    framed : Result (List (List ℕ)) RouteFault → Result FlowSpec PlanFault
    framed r = and_then (result_at_flow n r) (λ routes. fitting (flow routes))
