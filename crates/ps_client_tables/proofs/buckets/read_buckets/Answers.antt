use Rattle.std.proofs.Common.{[], ◌∷◌}
use Rattle.std.proofs.lemmas.Result.{IfOk-weaker}
use Rattle.sqlite.specs.Held.{state}
use Rattle.ps_client_tables.specs.Statements.{read_buckets_text}
use Rattle.ps_client_tables.proofs.Texts.{read_buckets_is}
use Rattle.ps_client_tables.proofs.Reading.{refuses, shows_each, reads_only, answers_open, commits_nothing}
use Rattle.ps_client_tables.proofs.InOrder.{shows_sorted}
use Rattle.ps_client_tables.proofs.buckets.read_buckets.Goals as goal

pub returns-clause-read : goal.returns-clause-read
returns-clause-read g c clean client =
    IfOk-weaker c.query_all.result _ _ (λ rows h. shows_each read_buckets_text 0 (1 ∷ 2 ∷ 3 ∷ []) (1 ∷ []) _ read_buckets_is _ _ rows.items client.schema h) (c.query_all.ensures.ok clean)

pub returns-clause-same : goal.returns-clause-same
returns-clause-same g c clean client =
    IfOk-weaker c.query_all.result _ _ (λ rows h. reads_only read_buckets_text _ _ rows.items client.schema read_buckets_is.plain h) (c.query_all.ensures.ok clean)

pub returns-clause-survives : goal.returns-clause-survives
returns-clause-survives g c client =
    commits_nothing read_buckets_text (state g.S.Store c.args.conn.now) (state g.S.Store c.query_all.new.self) client.schema read_buckets_is.plain c.query_all.ensures.survives

pub returns-clause-opened : goal.returns-clause-opened
returns-clause-opened g c clean = IfOk-weaker c.query_all.result _ _ (λ rows h. answers_open read_buckets_text [] _ _ rows.items h) (c.query_all.ensures.ok clean)

pub returns-clause-refused : goal.returns-clause-refused
returns-clause-refused g c clean = refuses _ _ (state g.S.Store c.args.conn.now) (state g.S.Store c.query_all.new.self) c.query_all.result (c.query_all.ensures.err clean)

pub returns-clause-sorted : goal.returns-clause-sorted
returns-clause-sorted g c clean client =
    IfOk-weaker c.query_all.result _ _ (λ rows h. shows_sorted read_buckets_text 0 1 (2 ∷ 3 ∷ []) [] _ read_buckets_is _ _ rows.items client.schema h) (c.query_all.ensures.ok clean)
