use Rattle.std.proofs.Common.{sym, ap, ◌∙◌}
use Rattle.std.specs.BTreeMap.{insert_entry}
use Rattle.ps_rows.specs.Source.{Key, key_cmp}
use Rattle.ps_granted.specs.declared.copies.Granted.{Granted}
use Rattle.ps_grant.proofs.KeptLaws.{kept_put, kept_as_is}
use Rattle.ps_grant.proofs.latest.keep.Goals as goal

pub returns-then-has_later : goal.returns-then-has_later
returns-then-has_later c =
    kept_as_is c.args.rows.now.entries (c.in_ok-copy.field-0, c.in_ok-copy-2.field-0) c.args.copy.now (λ i. (c.in_ok-copy.ensures i, c.in_ok-copy-2.ensures i)) (sym c.has_later.ensures ∙ c.if-has_later.true)

pub returns : goal.returns
returns c =
    let object : Key = (c.in_ok-copy.field-0, c.in_ok-copy-2.field-0) in
    kept_put c.args.rows.now.entries c.insert.new.self.entries object c.args.copy.now (λ i. (c.in_ok-copy.ensures i, c.in_ok-copy-2.ensures i))
    (c.in_ok-insert.ensures.entries ∙ ap (λ (v : Granted). insert_entry key_cmp c.args.rows.now.entries object v) c.in_ok-copy-3.ensures)
    (sym c.has_later.ensures ∙ c.if-has_later.false)
