use Rattle.std.proofs.Common.{◌≡◌, ℕ, suc, ◌+◌, ◌-◌, ◌*◌, ◌/◌, ◌<◌, ◌≤◌, length, arith}
use Rattle.ps_bucket_log.proofs.Halving.{gap-halves, looks-within, found-low, found-high}
use Rattle.ps_bucket_log.proofs.searches.place_past.Goals as goal

pub halves-preserved-then-look_id-id : goal.halves-preserved-then-look_id-id
halves-preserved-then-look_id-id g c =
    let gap : ℕ = c.halves.high - c.halves.low in
    let used : ℕ = c.halves.steps - c.args.steps.now in
    let middle : ℕ = c.halves.low + (c.halves.high - c.halves.low) / 2 in
    let inside : c.halves.low + (c.halves.high - c.halves.low) / 2 < length c.args.all.now = omega arith in
    let next : c.look_id.new.steps - c.args.steps.now ≡ suc (c.halves.steps - c.args.steps.now) = omega arith in
    let half : 2 * (c.halves.high - (c.halves.low + (c.halves.high - c.halves.low) / 2 + 1)) ≤ c.halves.high - c.halves.low = omega arith in
    let some : 0 < c.halves.high - c.halves.low = omega arith in
    let seen : g.T.Placed.id c.index-all-middle.result ≤ c.args.id.0 = omega (arith, c.look_id.ensures.id, c.if-look_id-id.true) in
    record {
      within = omega arith;
      ordered = omega arith;
      front = λ k d is. found-low g.T.Placed.id c.args.all.now middle k c.index-all-middle.result d c.args.id.0 inside c.index-all-middle.is seen is;
      back = c.halves.invariant.back;
      counted = omega arith;
      halved = gap-halves used (c.look_id.new.steps - c.args.steps.now) gap (c.halves.high - (c.halves.low + (c.halves.high - c.halves.low) / 2 + 1)) (length c.args.all.now) next half c.halves.invariant.halved;
      cost = looks-within used (c.look_id.new.steps - c.args.steps.now) gap (length c.args.all.now) next some c.halves.invariant.halved;
    }

pub halves-preserved : goal.halves-preserved
halves-preserved g c =
    let gap : ℕ = c.halves.high - c.halves.low in
    let used : ℕ = c.halves.steps - c.args.steps.now in
    let middle : ℕ = c.halves.low + (c.halves.high - c.halves.low) / 2 in
    let inside : c.halves.low + (c.halves.high - c.halves.low) / 2 < length c.args.all.now = omega arith in
    let next : c.look_id.new.steps - c.args.steps.now ≡ suc (c.halves.steps - c.args.steps.now) = omega arith in
    let half : 2 * (c.halves.low + (c.halves.high - c.halves.low) / 2 - c.halves.low) ≤ c.halves.high - c.halves.low = omega arith in
    let some : 0 < c.halves.high - c.halves.low = omega arith in
    let seen : c.args.id.0 < g.T.Placed.id c.index-all-middle.result = omega (arith, c.look_id.ensures.id, c.if-look_id-id.false) in
    record {
      within = omega arith;
      ordered = omega arith;
      front = c.halves.invariant.front;
      back = λ d more. found-high g.T.Placed.id c.args.all.now middle c.index-all-middle.result d c.args.id.0 inside c.index-all-middle.is seen;
      counted = omega arith;
      halved = gap-halves used (c.look_id.new.steps - c.args.steps.now) gap (c.halves.low + (c.halves.high - c.halves.low) / 2 - c.halves.low) (length c.args.all.now) next half c.halves.invariant.halved;
      cost = looks-within used (c.look_id.new.steps - c.args.steps.now) gap (length c.args.all.now) next some c.halves.invariant.halved;
    }
