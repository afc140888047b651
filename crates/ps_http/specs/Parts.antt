-- Bytes that are read as texts.
use Rattle.std.specs.Prelude.{◌≡◌, List, ℕ, Option, Some, None, Result, Ok, Err, IsUtf8}
use Rattle.std.specs.Borrow.{Bor}
use Rattle.std.specs.Option.{option_copied}
use Rattle.ps_http.specs.declared.heads.HeadFault.{HeadFault}
use Rattle.ps_http.specs.declared.heads.HeadFault.TheVariants.{BadHead, HeadTooLong, CutShort, ReadFault, Memory}

-- the text has these bytes, or they are no text
abbrev pub IsTextIn : List ℕ → Result (Bor (List ℕ)) HeadFault → Type 0
IsTextIn bytes (Ok text) = (text.now ≡ bytes) × IsUtf8 bytes
IsTextIn bytes (Err BadHead) = ¬ IsUtf8 bytes
IsTextIn bytes (Err HeadTooLong) = ⊥
IsTextIn bytes (Err CutShort) = ⊥
IsTextIn bytes (Err ReadFault) = ⊥
IsTextIn bytes (Err Memory) = ⊥

-- the bytes, if there are some, are a text
abbrev pub HasText : Option (List ℕ) → Type 0
HasText None = Unit {0}
HasText (Some bytes) = IsUtf8 bytes

-- the same of bytes that may be missing
abbrev pub AreTextIn : Option (List ℕ) → Result (Option (Bor (List ℕ))) HeadFault → Type 0
AreTextIn bytes (Ok text) = (option_copied text ≡ bytes) × HasText bytes
AreTextIn bytes (Err BadHead) = ¬ HasText bytes
AreTextIn bytes (Err HeadTooLong) = ⊥
AreTextIn bytes (Err CutShort) = ⊥
AreTextIn bytes (Err ReadFault) = ⊥
AreTextIn bytes (Err Memory) = ⊥
