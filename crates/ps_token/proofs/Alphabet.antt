-- base64url: strict, and without dots.
use Rattle.std.proofs.Common.{◌≡◌, ◌↔◌, ℕ, zero, suc, ◌+◌, ◌*◌, ◌/◌, ◌%◌, Fits, w8, true, List, [], ◌∷◌, ◌++◌, get_or, Some, Result, Ok, Err, refl, ap, ◌∙◌, arith}
use Rattle.std.specs.Result.{result_ok}
use Rattle.base64.specs.declared.decode.DecodeError.{DecodeError}
use Rattle.base64.specs.Engines.{url_safe_no_pad}
use Rattle.base64.specs.GeneralPurpose.{IsBytes, engine_symbols, decode_of, decoded_of}
use Rattle.base64.specs.Rfc4648.{encode_symbols}
use Rattle.base64.proofs.EngineFacts.{decode_of-encode_of, decode_of_strict}
use Rattle.ps_token.specs.Parts.{part_of, bytes_of}
use Rattle.ps_token.proofs.Cuts.{no_dots, no_dots-append, no_dot_at}

there : (r : Result (List ℕ) DecodeError) (x : List ℕ) → result_ok r ≡ Some x → r ≡ Ok x
there (Ok y) x h = cc
there (Err e) x h = absurd (cc)

-- a text that spells bytes is their encoding
pub part_is : (text bytes : List ℕ) → IsBytes text → bytes_of text ≡ Some bytes → text ≡ part_of bytes
unfolding bytes_of part_of decoded_of
part_is text bytes small h = decode_of_strict url_safe_no_pad text bytes (refl, refl) small (there (decode_of url_safe_no_pad text) bytes h)

-- an encoding spells its bytes
pub part_back : (bytes : List ℕ) → IsBytes bytes → bytes_of (part_of bytes) ≡ Some bytes
unfolding bytes_of part_of decoded_of
part_back bytes small = ap result_ok (decode_of-encode_of url_safe_no_pad bytes refl small)

pub part_exactly : (text bytes : List ℕ) → IsBytes text → IsBytes bytes → (bytes_of text ≡ Some bytes) ↔ (text ≡ part_of bytes)
part_exactly text bytes small fit = (part_is text bytes small, λ e. ap bytes_of e ∙ part_back bytes fit)

-- ---- dots

symbols : (table : List ℕ) → no_dots table ≡ true → (m : List ℕ) → no_dots (encode_symbols table m) ≡ true
unfolding encode_symbols
symbols table h [] = refl
symbols table h (a ∷ []) = rw (no_dot_at table h (a / 4), no_dot_at table h (a % 4 * 16)) refl
symbols table h (a ∷ b ∷ []) = rw (no_dot_at table h (a / 4), no_dot_at table h (a % 4 * 16 + b / 16), no_dot_at table h (b % 16 * 4)) refl
symbols table h (a ∷ b ∷ c ∷ rest) =
    rw (no_dot_at table h (a / 4), no_dot_at table h (a % 4 * 16 + b / 16), no_dot_at table h (b % 16 * 4 + c / 64), no_dot_at table h (c % 64)) (symbols table h rest)

pub no_dots-part : (bytes : List ℕ) → no_dots (part_of bytes) ≡ true
unfolding part_of
no_dots-part bytes = no_dots-append (encode_symbols (engine_symbols url_safe_no_pad) bytes) [] (symbols (engine_symbols url_safe_no_pad) refl bytes) refl

-- what spells bytes has no dot
pub no_dots-spelled : (text bytes : List ℕ) → IsBytes text → bytes_of text ≡ Some bytes → no_dots text ≡ true
no_dots-spelled text bytes small h = ap no_dots (part_is text bytes small h) ∙ no_dots-part bytes

-- the numbers of both lists are bytes where those of both together are
pub bytes_front : (front back : List ℕ) → IsBytes (front ++ back) → IsBytes front
bytes_front [] back h i = omega arith
bytes_front (x ∷ front) back h zero = h zero
bytes_front (x ∷ front) back h (suc i) = bytes_front front back (λ j. h (suc j)) i

pub bytes_back : (front back : List ℕ) → IsBytes (front ++ back) → IsBytes back
bytes_back [] back h = h
bytes_back (x ∷ front) back h = bytes_back front back (λ j. h (suc j))

-- what a program reads are bytes
pub are_bytes : (bytes : List ℕ) → ((i : ℕ) → Fits w8 (get_or bytes i 0)) → IsBytes bytes
are_bytes bytes h = λ i. omega (arith, h i)
