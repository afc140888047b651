-- What a run enters.
use Rattle.std.proofs.Common.{◌≡◌, List, [], ◌∷◌, ◌++◌, sym, ◌∙◌, fold, append_assoc, append-nil}
use Rattle.ps_store.specs.Originals.{Timed}
use Rattle.ps_store.specs.Ledgers.{Ledger, next_ops, write_next}
use Rattle.ps_store.specs.Runs.{ops_from}

pub next_entered : (ts : List Timed) (l : Ledger) → (fold write_next l ts).entered ≡ l.entered ++ ops_from l ts
next_entered [] l = sym (append-nil l.entered)
next_entered (t ∷ ts) l = next_entered ts (write_next l t) ∙ append_assoc l.entered (next_ops l t) (ops_from (write_next l t) ts)
