use Rattle.std.proofs.Common.{All, sym, ap, subst, ◌∙◌}
use Rattle.ps_client_lines.specs.Holding.{AreRising, IsTextOf}
use Rattle.ps_client_sqlite.specs.Numbering.{changes_of, numbers_of}
use Rattle.ps_client_sqlite.proofs.Lines.{rising_popped, texts_popped, changes_popped, numbers_popped}
use Rattle.ps_client_sqlite.proofs.editing.without_oldest.Goals as goal

pub returns-clause-rising : goal.returns-clause-rising
returns-clause-rising c = subst AreRising (sym c.popped.ensures) (rising_popped c.args.queue c.requires.rising)

pub returns-clause-texts : goal.returns-clause-texts
returns-clause-texts c = subst (All IsTextOf) (sym c.popped.ensures) (texts_popped c.args.queue c.requires.texts)

pub returns-clause-changes : goal.returns-clause-changes
returns-clause-changes c = ap changes_of c.popped.ensures ∙ changes_popped c.args.queue

pub returns-clause-numbers : goal.returns-clause-numbers
returns-clause-numbers c = ap numbers_of c.popped.ensures ∙ numbers_popped c.args.queue
