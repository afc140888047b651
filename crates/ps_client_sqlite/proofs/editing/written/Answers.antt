use Rattle.ps_client_sqlite.proofs.Lines.{texts_if_pushed, numbers_if_pushed}
use Rattle.ps_client_sqlite.proofs.editing.written.Goals as goal

pub returns-clause-texts : goal.returns-clause-texts
returns-clause-texts c =
    texts_if_pushed c.args.queue c.in_ok-text.text c.args.change.now c.in_ok-copy.copy c.pushed.result c.requires.texts c.in_ok-text.ensures c.in_ok-copy.ensures c.pushed.ensures.pushes

pub returns-clause-numbers : goal.returns-clause-numbers
returns-clause-numbers c =
    numbers_if_pushed c.args.queue c.in_ok-text.text c.in_ok-copy.copy c.pushed.result c.pushed.ensures.pushes c.pushed.ensures.next c.pushed.ensures.anew
