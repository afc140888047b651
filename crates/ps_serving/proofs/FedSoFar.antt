-- How far the transactions of a file are fed.
use Rattle.std.proofs.Common.{◌≡◌, ◌∙◌, List, [], ◌∷◌, ◌++◌, ap, sym, append_assoc}
use Rattle.ps_rows.specs.declared.changes.Transaction.{Transaction}
use Rattle.ps_store.specs.declared.events.Event.{Event}
use Rattle.ps_store.specs.declared.events.Event.TheVariants.{Feed}
use Rattle.ps_serving.specs.Openings.{feeds_of}

-- one transaction more
pub fed_more : (seen after all : List Event) (t : Transaction) (left rest : List Transaction) → seen ++ feeds_of left ≡ all → left ≡ t ∷ rest
    → after ≡ seen ++ Feed t ∷ [] → after ++ feeds_of rest ≡ all
fed_more seen after all t left rest so_far split more =
    ap (λ s. s ++ feeds_of rest) more ∙ (append_assoc seen (Feed t ∷ []) (feeds_of rest) ∙ (ap (λ ts. seen ++ feeds_of ts) (sym split) ∙ so_far))
