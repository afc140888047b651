-- What a source has handed out, as a reader of it says.
use Rattle.std.specs.Prelude.{◌≡◌, ℕ, ◌+◌, true, List, length, take, Option, IfSome, Result, Ok, Err}
use Rattle.ps_io.specs.Sources.{Input}
use Rattle.ps_answers.specs.declared.reads.ReadFault.{ReadFault}

-- these are all the bytes that a source has handed out, where it tells them
abbrev pub HasGiven : Option Input → List ℕ → Type 0
HasGiven input bytes = IfSome input (λ one. one.given ≡ bytes)

-- it has answered the end of input, where it tells that
abbrev pub HasEnded : Option Input → Type 0
HasEnded input = IfSome input (λ one. one.ended ≡ true)

-- how many bytes are read at once
abbrev pub read_size : ℕ
read_size = 65536

-- so many bytes more stand behind those that were there, or a fault left these alone
abbrev pub Grows : List ℕ → List ℕ → Result ℕ ReadFault → Type 0
Grows old new (Ok count) = (take (length old) new ≡ old) × (length new ≡ length old + count)
Grows old new (Err fault) = new ≡ old
