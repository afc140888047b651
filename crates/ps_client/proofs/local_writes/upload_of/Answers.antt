use Rattle.std.proofs.Common.{◌≡◌, ℕ, ◌≤◌, List, [], ◌∷◌, ◌++◌, Ok, length, sym, subst, ap, ◌∙◌}
use Rattle.ps_changes.specs.Lines.{longest, lone_change_of}
use Rattle.ps_changes.specs.Writing.{change_text}
use Rattle.ps_client.specs.LocalWrites.{IsReadAgain}
use Rattle.ps_client.proofs.Uploading.{opening, closing, upload_pieces, upload_back}
use Rattle.ps_client.proofs.local_writes.upload_of.Goals as goal

pub returns-clause-value : goal.returns-clause-value
returns-clause-value c =
    let first : c.extend_from_slice.new.self.items ≡ opening =
    c.in_ok-extend_from_slice.ensures.items ∙ ap (λ (front : List ℕ). front ++ opening) c.new-body.ensures.items in
    let second : c.extend_from_slice-2.new.self.items ≡ opening ++ change_text c.args.change.now =
    c.in_ok-extend_from_slice-2.ensures.items ∙ (λ i. first i ++ (c.as_slice.ensures.value ∙ c.in_ok-text.ensures.value) i) in
    c.in_ok-extend_from_slice-3.ensures.items ∙ ap (λ (front : List ℕ). front ++ closing) second ∙ upload_pieces c.args.change.now

pub returns-clause-read_again : goal.returns-clause-read_again
returns-clause-read_again c =
    let change = c.args.change.now in
    let text : c.in_ok-text.text.items ≡ change_text change = c.in_ok-text.ensures.value in
    subst (IsReadAgain (change ∷ [])) (sym (returns-clause-value c))
    (upload_back change c.has_64_bits.ensures (subst (λ (bytes : List ℕ). length bytes ≤ longest → lone_change_of bytes ≡ Ok change) text c.in_ok-text.ensures.read_again))
