-- The command is one of which clap tells all, and what is said of words that it takes or refuses.
use Rattle.std.proofs.Common.{◌≡◌, ℕ, true, List, refl, subst}
use Rattle.std.specs.Prelude.{[], ◌≢◌, Err}
use Rattle.clap.proofs.OnLiterals.{clap_on_literals}
use Rattle.clap.specs.Faults.{fault_of, is_simple_and_free}
use Rattle.clap.specs.Kinds.{Kinds}
use Rattle.clap.specs.Simple.{is_simple}
use Rattle.ps_serve_words.specs.Commands.{serve_app}
use Rattle.ps_serve_words.specs.Words.{BlamesWords, ReadsWords}
use Rattle.ps_serve_words.specs.declared.faults.WordsFault.{WordsFault}
use Rattle.ps_serve_words.specs.declared.faults.WordsFault.TheVariants.{Refused, Memory}

pub serve_is_free : is_simple_and_free serve_app ≡ true
unfolding serve_app clap_on_literals
serve_is_free = refl

pub serve_is_simple : is_simple serve_app ≡ true
unfolding serve_app clap_on_literals
serve_is_simple = refl

-- words are blamed where clap does
pub blamed : (kinds : Kinds) (words : List (List ℕ)) (fault : WordsFault) → kinds ≡ fault_of serve_app words → BlamesWords kinds fault → ReadsWords words (Err fault)
blamed kinds words Refused same h = subst (λ (k : Kinds). k ≢ []) same h
blamed kinds words Memory same h = tt
