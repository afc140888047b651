-- The header that is written is read again.
use Rattle.std.proofs.Common.{◌≡◌, ℕ, ◌≤◌, Bool, false, cond, List, Some, None, sym, ap, ◌∙◌, arith, subst}
use Rattle.std.specs.Str.{IsUtf8}
use Rattle.std.proofs.lemmas.Str.{is_utf8-from_IsUtf8}
use Rattle.serde_json.specs.Data.{Data as Json, depth}
use Rattle.serde_json.specs.Read.{read, max_depth}
use Rattle.serde_json.specs.Written.{has_float, compact_text}
use Rattle.ps_data.specs.Documents.{json_of}
use Rattle.ps_token.specs.Tokens.{header_json, header_text}

pub header_written : (kid : List ℕ) (d : Json) (bytes : List ℕ) → d ≡ header_json kid → (has_float d ≡ false → bytes ≡ compact_text d) → bytes ≡ header_text kid
unfolding header_text
header_written kid d bytes e h = h (ap has_float e) ∙ ap compact_text e

shallow : (kid : List ℕ) → depth (header_json kid) ≤ max_depth
shallow kid = omega arith

pub header_back : (kid : List ℕ) (d : Json) (bytes : List ℕ) → d ≡ header_json kid → IsUtf8 bytes → (depth d ≤ max_depth → read bytes ≡ Some d) → json_of bytes ≡ Some (header_json kid)
header_back kid d bytes e utf8 h =
    ap (λ (b : Bool). cond b (read bytes) None) (is_utf8-from_IsUtf8 bytes utf8) ∙ h (subst (λ (x : Json). depth x ≤ max_depth) (sym e) (shallow kid)) ∙ ap (λ (x : Json). Some x) e
