use Rattle.std.proofs.Common.{w64, rules, arith}
use mir.Val.{SFits}
use Rattle.std.proofs.lemmas.Int.{ints}
use Rattle.ps_client_lines.proofs.Listing.{below_next}
use Rattle.ps_client_sqlite.proofs.numbering.next_number.Goals as goal

pub returns-clause-past : goal.returns-clause-past
returns-clause-past c =
    let last = c.in-Some.line.now in
    let fits : SFits w64 last.seq = search rules in
    below_next c.args.lines.now last _ c.requires c.in-Some.ensures.item.3.1 (first_of (grind (arith, ints), omega (arith, ints), search rules))
