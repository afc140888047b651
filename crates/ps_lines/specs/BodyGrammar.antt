-- What a request's body is, member by member: docs/FORMATS.md, "Stream requests". Members of other names may stand beside these.
use Rattle.std.specs.Prelude.{◌≡◌, ◌⊎◌, ℕ, List, [], Bool, true, Option, Some, None, codes}
use Rattle.serde_json.specs.Data.{Data as Json, object, Members}
use Rattle.serde_json.specs.Find.{get}
use Rattle.serde_json.specs.Written.{compact_text}
use Rattle.ps_data.specs.Documents.{json_of}
use Rattle.ps_data.specs.Conversions.{plain_of}
use Rattle.ps_lines.specs.declared.bodies.Known.{Known}
use Rattle.ps_lines.specs.declared.bodies.StreamBody.{StreamBody}
use Rattle.ps_lines.specs.Bodies.{last_ones}
use Rattle.ps_lines.specs.Grammar.{HasText, HasTruth, HasDecimal, HasList, IsAbsent}

-- an entry: how far a bucket is held
pub record IsKnown (d : Json) (known : Known) : Type 0 where
  pub after : HasDecimal (codes "after") d known.after.0
  pub name : HasText (codes "name") d known.bucket

-- of a bucket named twice the last entry counts
abbrev pub HasPositions : Json → List Known → Type 0
HasPositions d positions = (IsAbsent (codes "buckets") d × (positions ≡ []))
    ⊎ ((entries : List Known) × HasList IsKnown (codes "buckets") d entries × (positions ≡ last_ones entries))

abbrev pub HasClient : Json → Option (List ℕ) → Type 0
HasClient d None = IsAbsent (codes "client_id") d
HasClient d (Some client) = HasText (codes "client_id") d client

-- the compact text of an object that is made plain, or of the empty one
abbrev pub HasParameters : Json → List ℕ → Type 0
HasParameters d text = (IsAbsent (codes "parameters") d × (text ≡ codes "{}"))
    ⊎ ((ms : Members) × (get (codes "parameters") d ≡ Some (object ms)) × (text ≡ compact_text (plain_of (object ms))))

pub record HasBody (d : Json) (body : StreamBody) : Type 0 where
  pub positions : HasPositions d body.positions
  pub client : HasClient d body.client
  pub parameters : HasParameters d body.parameters
  pub raw_data : IsAbsent (codes "raw_data") d ⊎ HasTruth (codes "raw_data") d true
  pub include_checksum : IsAbsent (codes "include_checksum") d ⊎ ((truth : Bool) × HasTruth (codes "include_checksum") d truth)

-- the bytes of a body: they are the JSON of an object with these members
abbrev pub IsBodyOf : List ℕ → StreamBody → Type 0
IsBodyOf bytes body = (ms : Members) × (json_of bytes ≡ Some (object ms)) × HasBody (object ms) body
