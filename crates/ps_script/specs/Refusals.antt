-- Lines that are refused before any memory is asked for.
use Rattle.std.specs.Prelude.{◌≡◌, ℕ, Bool, false, ◌&&◌, nat_le, if◌then◌else◌, List, length, codes, bytes_eq, Option, Some, None, is_some, Result, Err}
use Rattle.std.specs.Str.{is_utf8}
use Rattle.ps_changes.specs.Lines.{longest}
use Rattle.ps_script.specs.declared.faults.ScriptFault.{ScriptFault}
use Rattle.ps_script.specs.declared.faults.ScriptFault.TheVariants.{BadEvent}
use Rattle.ps_script.specs.Events.{alone}
use Rattle.ps_script.specs.Verbs.{verb_of}
use Rattle.ps_file_lines.specs.Cuts.{cut}
use Rattle.ps_script.specs.Words.{is_name}

-- what fails a test is no event, and no answer of out of memory stands in place of that
abbrev pub RefusesUnless : {X : Type 0} → Bool → Result X ScriptFault → Type 0
RefusesUnless test result = test ≡ false → result ≡ Err BadEvent

-- a client's name, and claims after a space
abbrev pub has_claims : List ℕ → Option (List ℕ) → Bool
has_claims name None = false
has_claims name (Some claims) = is_name name

-- a client's name, and a change after a space that is not too long
abbrev pub has_change : List ℕ → Option (List ℕ) → Bool
has_change name None = false
has_change name (Some text) = is_name name && nat_le (length text) longest

-- an event's word, and what may stand behind it
abbrev pub may_follow : List ℕ → List ℕ → Bool
may_follow word rest =
    if bytes_eq word (codes "feed") then is_utf8 rest else
    if bytes_eq word (codes "write") then is_utf8 rest else
    if bytes_eq word (codes "build") then is_utf8 rest else
    if bytes_eq word (codes "compact") then is_utf8 rest else
    if bytes_eq word (codes "client") then has_claims (cut 32 rest).0 (cut 32 rest).1 else
    if bytes_eq word (codes "local") then has_change (cut 32 rest).0 (cut 32 rest).1 else
    is_some (verb_of word) && is_name rest

abbrev pub has_words : List ℕ → Option (List ℕ) → Bool
has_words word None = is_some (alone word)
has_words word (Some rest) = may_follow word rest

-- a line that has not the words of an event
abbrev pub RefusesOtherWords : {X : Type 0} → List ℕ → Result X ScriptFault → Type 0
RefusesOtherWords line result = RefusesUnless (has_words (cut 32 line).0 (cut 32 line).1) result
