use Rattle.std.proofs.Common.{refl, sym, subst}
use Rattle.ps_audit.specs.Places.{case_of, position_behind}
use Rattle.ps_audit.specs.Positions.{IsLeast, NoneFits}
use Rattle.ps_audit.proofs.Placing.{least_at, none_fits}
use Rattle.ps_audit.proofs.cursors.Cursor.seek.Goals as goal

pub returns-then-branch-clause-found : goal.returns-then-branch-clause-found
returns-then-branch-clause-found c =
    let case = case_of c.args.subject.now in
    let k = c.args.self.now.place in
    let n = c.go_on.new.self.place in
    let after = c.in_ok-go_on.ensures in
    let least : IsLeast case c.args.op.0 c.args.rows.now (position_behind case k) (position_behind case n) =
    least_at case c.args.op.0 c.args.rows.now c.requires.counted.rises k n after.on after.stands.within (after.found c.if-branch.true) after.before in (
      subst (λ p. IsLeast case c.args.op.0 c.args.rows.now p c.go_on.new.self.position.0) (sym c.requires.stands.position)
          (subst (λ p. IsLeast case c.args.op.0 c.args.rows.now (position_behind case k) p) (sym after.stands.position) least),
      refl,
    )

pub returns-else-branch-clause-found : goal.returns-else-branch-clause-found
returns-else-branch-clause-found c =
    let case = case_of c.args.subject.now in
    let after = c.in_ok-go_on.ensures in
    subst (λ p. NoneFits case c.args.op.0 c.args.rows.now p) (sym c.requires.stands.position)
    (none_fits case c.args.op.0 c.args.rows.now c.requires.counted.rises c.args.self.now.place c.requires.stands.within (after.none c.if-branch.false))
