use Rattle.std.proofs.Common.{◌≡◌, ◌+◌, ◌-◌, subst, arith}
use Rattle.std.specs.Str.{IsCharBoundary}
use Rattle.std.proofs.lemmas.Str.{IsCharBoundary-after_ascii}
use Rattle.ps_sql.proofs.scans.cut.Goals as goal

pub split_at-requires : goal.split_at-requires
split_at-requires c =
    let text = c.args.text.now in let place = c.args.place in
    let same : (place - 1) + 1 ≡ place = omega arith in
    subst (λ n. IsCharBoundary text n) same (IsCharBoundary-after_ascii text (place - 1) c.utf8.text (omega arith) c.requires.ascii)
