use Rattle.ps_rules.proofs.Drafted.{drafted}
use Rattle.ps_rules.proofs.reading.rules_in_document.Goals as goal

pub check_all-requires : goal.check_all-requires
check_all-requires c = drafted c.args.node c.in_ok-drafts.drafts c.in_ok-drafts.ensures
