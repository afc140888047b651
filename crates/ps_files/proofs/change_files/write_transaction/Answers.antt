use Rattle.std.proofs.Common.{◌++◌, ◌∷◌, []}
use Rattle.std.proofs.lemmas.Result.{err_from_is_err_and}
use Rattle.ps_store.specs.Ledgers.{timed_of}
use Rattle.ps_store.specs.Originals.{timed}
use Rattle.ps_files.specs.ChangeFiles.{first_passed}
use Rattle.ps_files.proofs.Reaching.{not_written, taken, none_passes}
use Rattle.ps_files.proofs.change_files.write_transaction.Goals as goal

pub write_fed-requires : goal.write_fed-requires
write_fed-requires c =
    let k = c.requires.committed in (
      k.0,
      k.1 ++ c.args.transaction ∷ [],
      first_passed k.0.definitions (timed k.1) (timed_of c.args.transaction),
      rw c.len-changes.ensures (c.in_ok-feed.ensures k.0 k.1 k.2 k.3),
    )

pub returns-in_err-write_fed : goal.returns-in_err-write_fed
returns-in_err-write_fed c =
    let p = err_from_is_err_and c.from_residual-in_err-write_fed.result c.from_residual-in_err-write_fed.ensures.1 in
    rw (p.1, p.2) (λ rules done h later.
    let t = c.args.transaction in
    not_written rules done t (done ++ t ∷ []) c.in_err-write_fed.field-0.0 c.write_fed.new.store c.write_fed.new.store
    (c.in_err-write_fed.ensures rules (done ++ t ∷ []) (first_passed rules.definitions (timed done) (timed_of t)) (rw c.len-changes.ensures (c.in_ok-feed.ensures rules done h later))))

pub returns : goal.returns
returns c = λ rules done h later.
    let t = c.args.transaction in
    let passed = first_passed rules.definitions (timed done) (timed_of t) in
    let all = c.in_ok-write_fed.ensures rules (done ++ t ∷ []) passed (rw c.len-changes.ensures (c.in_ok-feed.ensures rules done h later)) in
    taken rules done t c.commit.new.store
    (none_passes c.ledgers_tell_histories.ensures c.ledgers_tell_ops.ensures.one rules (done ++ t ∷ []) passed c.write_fed.new.store all) (c.commit.ensures rules (done ++ t ∷ []) passed all)
