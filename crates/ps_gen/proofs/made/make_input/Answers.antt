use Rattle.std.proofs.Common.{◌≡◌, ℕ, ◌<◌, ◌+◌, ◌-◌, suc, List, [], ◌∷◌, ◌++◌, ap, ◌∙◌, arith, append_assoc}
use Rattle.ps_rows.specs.declared.changes.Transaction.{Transaction}
use Rattle.ps_gen.specs.Made.{made_from, made_input, made_transaction}
use Rattle.ps_gen.proofs.made.make_input.Goals as goal

-- one more is made, and one less is left
one_more : (made more : List Transaction) (next : Transaction) (done count : ℕ) → done < count → more ≡ made ++ next ∷ [] → next ≡ made_transaction (done + 1)
    → made ++ made_from (done + 1) (count - done) ≡ made_input count → more ++ made_from (done + 1 + 1) (count - (done + 1)) ≡ made_input count
one_more made more next done count left is next_is so_far =
    let rest : List Transaction = made_from (done + 1 + 1) (count - (done + 1)) in
    let size : suc (count - (done + 1)) ≡ count - done = omega arith in
    ap (λ (xs : List Transaction). xs ++ rest) is ∙ append_assoc made (next ∷ []) rest ∙ ap (λ (t : Transaction). made ++ t ∷ rest) next_is
    ∙ ap (λ n. made ++ made_from (done + 1) n) size ∙ so_far

pub positions-preserved : goal.positions-preserved
positions-preserved c = (omega arith, one_more c.positions.transactions c.push.new.self c.in_ok-transaction_at.field-0 c.positions.done c.args.count (omega arith) c.in_ok-push.ensures.ok c.in_ok-transaction_at.ensures c.positions.invariant.1)
