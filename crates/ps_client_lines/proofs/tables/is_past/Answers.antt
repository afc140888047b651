use Rattle.std.proofs.Common.{w64, rules, arith, sym}
use mir.Val.{SFits}
use Rattle.std.proofs.lemmas.Int.{ints, to_z-of_z}
use Rattle.ps_client_lines.proofs.Listing.{below_next}
use Rattle.ps_client_lines.proofs.tables.is_past.Goals as goal

pub returns-in-Some-clause-past : goal.returns-in-Some-clause-past
returns-in-Some-clause-past c past =
    let fits : SFits w64 c.in-Some.line.now.seq = search rules in
    below_next c.args.lines.now c.in-Some.line.now c.args.seq c.requires c.in-Some.ensures.item.3.1 (grind (arith, ints))

pub returns-in-Some-clause-none : goal.returns-in-Some-clause-none
returns-in-Some-clause-none c not =
    let fits : SFits w64 c.in-Some.line.now.seq = search rules in
    let plain = rw (to_z-of_z w64 c.in-Some.line.now.seq fits, to_z-of_z w64 c.args.seq c.ranges.seq) at not in
    (c.in-Some.line.now, sym c.in-Some.ensures.value, grind (arith, ints))
