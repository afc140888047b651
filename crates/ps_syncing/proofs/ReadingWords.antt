-- The words that `clap` takes, and what they name.
use Rattle.std.proofs.Common.{◌≡◌, ◌≢◌, ℕ, true, List, [], ◌∷◌, Option, None, Result, Ok, Err, codes, refl, sym, ap, ◌∙◌, ◌⊎◌, inl, inr}
use Rattle.std.specs.Prelude.{IfOk}
use Rattle.clap.specs.Words.{Kinds, IsAmong, fault_of, first_of, first_value, is_simple, is_simple_and_free, matches_of, rows_of}
use Rattle.clap.specs.declared.error.kind.ErrorKind.{ErrorKind}
use Rattle.clap.specs.declared.error.kind.ErrorKind.TheVariants as kind
use Rattle.clap.specs.declared.parser.matches.Found.{Found}
use Rattle.clap.proofs.OnLiterals.{clap_on_literals}
use Rattle.clap.proofs.WalkLemmas.{first_value-rows}
use Rattle.ps_data.specs.declared.shortage.Memory as shortage
use Rattle.ps_syncing.specs.declared.words.Named.{Named}
use Rattle.ps_syncing.specs.Words.{named_in, named_of, sync_app, sync_of, unless_wrong, value_in, values_in}

pub simple : is_simple sync_app ≡ true
unfolding sync_app clap_on_literals
simple = refl

pub free : is_simple_and_free sync_app ≡ true
unfolding sync_app clap_on_literals
free = refl

value_is : (found : Found) (words : List (List ℕ)) (name : List ℕ) → rows_of found ≡ matches_of sync_app words → first_value found name ≡ value_in words name
unfolding value_in
value_is found words name rows = first_value-rows found name ∙ ap (first_of name) rows

-- words that are taken name what their matches name
pub sync_of-taken : (found : Found) (words : List (List ℕ)) → rows_of found ≡ matches_of sync_app words → fault_of sync_app words ≡ [] → named_in found ≡ sync_of words
sync_of-taken found words rows right =
    let a = value_is found words (codes "connect") rows in
    let b = value_is found words (codes "token-file") rows in
    let d = value_is found words (codes "client-id") rows in
    let e = value_is found words (codes "upload") rows in
    let f = value_is found words (codes "store") rows in
    ap (λ v. named_of v (first_value found (codes "token-file")) (first_value found (codes "client-id")) (first_value found (codes "upload")) (first_value found (codes "store"))) a
    ∙ ap (λ v. named_of (value_in words (codes "connect")) v (first_value found (codes "client-id")) (first_value found (codes "upload")) (first_value found (codes "store"))) b
    ∙ ap (λ v. named_of (value_in words (codes "connect")) (value_in words (codes "token-file")) v (first_value found (codes "upload")) (first_value found (codes "store"))) d
    ∙ ap (λ v. named_of (value_in words (codes "connect")) (value_in words (codes "token-file")) (value_in words (codes "client-id")) v (first_value found (codes "store"))) e
    ∙ ap (λ v. named_of (value_in words (codes "connect")) (value_in words (codes "token-file")) (value_in words (codes "client-id")) (value_in words (codes "upload")) v) f
    ∙ ap (λ kinds. unless_wrong kinds (values_in words)) (sym right)

wrong_is_none : (kinds : Kinds) (named : Option Named) (why : ErrorKind) → IsAmong why kinds → unless_wrong kinds named ≡ None
wrong_is_none [] named why among = absurd among
wrong_is_none (first ∷ kinds) named why among = refl

-- words that are refused name nothing
pub sync_of-refused : (words : List (List ℕ)) (why : ErrorKind) (result : Result (Option Named) shortage.Memory)
    → (why ≡ kind.OutOfMemory) ⊎ IsAmong why (fault_of sync_app words)
    → IfOk result (λ named. named ≡ None) → IfOk result (λ _. why ≢ kind.OutOfMemory) → IfOk result (λ named. named ≡ sync_of words)
sync_of-refused words why (Ok named) (inl memory) none other = absurd (other memory)
sync_of-refused words why (Ok named) (inr among) none other = none ∙ sym (wrong_is_none (fault_of sync_app words) (values_in words) why among)
sync_of-refused words why (Err fault) has none other = tt
