-- The body of a request: exactly the bytes of the stated length.
use Rattle.std.specs.Prelude.{◌≡◌, ◌⊎◌, ℕ, ◌<◌, ◌≤◌, true, false, List, length, Option, Some, None, Result, Ok, Err, Vec}
use Rattle.std.specs.declared.alloc.Global.{Global}
use Rattle.ps_io.specs.Counts.{Rose}
use Rattle.ps_io.specs.Sources.{Input, Gives, GivesAll}
use Rattle.ps_http.specs.declared.heads.Head.{Head}
use Rattle.ps_http.specs.declared.bodies.BodyFault.{BodyFault}
use Rattle.ps_http.specs.declared.bodies.BodyFault.TheVariants.{LengthRequired, BodyTooLong, CutShort, ReadFault, Memory}

-- the bytes that a body may have
abbrev pub body_limit : ℕ
body_limit = 1048576

-- the head states this length, and that the body is not chunked
pub record States (head : Head) (number : ℕ) : Type 0 where
  pub length : head.length ≡ Some number
  pub plain : head.chunked ≡ false

-- the head states this length, and it is within the limit
pub record Wants (head : Head) (number : ℕ) : Type 0 where
  pub states : States head number
  pub within : number ≤ body_limit

-- what each answer says of the bytes that the source has handed out
abbrev pub ReadsBody : Head → Option Input → Option Input → ℕ → ℕ → Result (Vec ℕ Global) BodyFault → Type 0
ReadsBody head old new before now (Ok body) = Wants head (length body.items) × Gives old new body.items
ReadsBody head old new before now (Err LengthRequired) =
    ((head.length ≡ None) ⊎ (head.chunked ≡ true)) × (new ≡ old)
ReadsBody head old new before now (Err (BodyTooLong number)) =
    States head number × (body_limit < number) × (new ≡ old)
ReadsBody head old new before now (Err CutShort) =
    (number : ℕ) × (bytes : List ℕ) × Wants head number × GivesAll old new bytes × (length bytes < number)
ReadsBody head old new before now (Err ReadFault) =
    (number : ℕ) × (bytes : List ℕ) × Wants head number × Gives old new bytes × (length bytes < number) × Rose before now
ReadsBody head old new before now (Err Memory) = ((number : ℕ) × Wants head number) × (new ≡ old)

-- what filling a buffer says of the bytes that the source has handed out
abbrev pub Fills : Option Input → Option Input → ℕ → ℕ → List ℕ → Result (Unit {0}) BodyFault → Type 0
Fills old new before now filled (Ok done) = Gives old new filled
Fills old new before now filled (Err LengthRequired) = ⊥
Fills old new before now filled (Err (BodyTooLong number)) = ⊥
Fills old new before now filled (Err CutShort) =
    (bytes : List ℕ) × GivesAll old new bytes × (length bytes < length filled)
Fills old new before now filled (Err ReadFault) =
    (bytes : List ℕ) × Gives old new bytes × (length bytes < length filled) × Rose before now
Fills old new before now filled (Err Memory) = ⊥
