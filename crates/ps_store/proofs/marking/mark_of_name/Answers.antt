use Rattle.std.proofs.Common.{◌≡◌, ℕ, ◌+◌, ◌<◌, List, Some, get_or, take, length, sym, ap, ◌∙◌, subst, inl, inr, arith}
use Rattle.std.specs.Str.{IsUtf8}
use Rattle.std.specs.Prelude.{Err}
use Rattle.ps_data.specs.declared.texts.TextFault.TheVariants.{NotUtf8}
use Rattle.ps_data.specs.Texts.{IsTextOf}
use Rattle.ps_store.specs.StoreGenerations.{digits_in, mark_in}
use Rattle.ps_store.proofs.MarksIn.{mark_open, mark_closed, mark_utf8, digits_low}
use Rattle.ps_store.proofs.marking.mark_of_name.Goals as goal

pub returns-then-digits-bytes : goal.returns-then-digits-bytes
returns-then-digits-bytes c =
    let text : List ℕ = c.bytes-bytes.result.now in
    mark_open text (omega (arith, c.leading_digits-digits.ensures)) (inl (omega (arith, c.leading_digits-digits.ensures))) ∙ ap mark_in c.bytes-bytes.ensures.value

pub bounds-bytes-digits : goal.bounds-bytes-digits
bounds-bytes-digits c = omega (arith, c.leading_digits-digits.ensures, digits_low c.bytes-bytes.result.now)

pub returns-then-bytes-digits-ne35 : goal.returns-then-bytes-digits-ne35
returns-then-bytes-digits-ne35 c =
    let text : List ℕ = c.bytes-bytes.result.now in
    mark_open text (omega (arith, c.leading_digits-digits.ensures))
    (inr (subst (λ (n : ℕ). get_or text n 0 ≡ 35 → ⊥) c.leading_digits-digits.ensures (λ e. omega (arith, e))))
    ∙ ap mark_in c.bytes-bytes.ensures.value

pub unreachable-requires : goal.unreachable-requires
unreachable-requires c =
    let text : List ℕ = c.bytes-bytes.result.now in
    let digits : c.leading_digits-digits.result ≡ digits_in text = c.leading_digits-digits.ensures in
    let closed : get_or text (digits_in text) 0 ≡ 35 = subst (λ (n : ℕ). get_or text n 0 ≡ 35) digits (omega arith) in
    let within : digits_in text < length text = omega (arith, digits, digits_low text) in
    let fault : c.from_bytes.result ≡ Err NotUtf8 = c.in-Err-NotUtf8.is ∙ ap Err c.in-Err-NotUtf8.field-0-is in
    let front : take (c.leading_digits-digits.result + 1) text ≡ take (digits_in text + 1) text = ap (λ (n : ℕ). take (n + 1) text) digits in
    (subst (λ r. IsTextOf (take (c.leading_digits-digits.result + 1) text) r) fault c.from_bytes.ensures) (subst (λ bytes. IsUtf8 bytes) (sym front) (mark_utf8 text within closed))

pub returns-in-Ok : goal.returns-in-Ok
returns-in-Ok c =
    let text : List ℕ = c.bytes-bytes.result.now in
    let digits : c.leading_digits-digits.result ≡ digits_in text = c.leading_digits-digits.ensures in
    let closed : get_or text (digits_in text) 0 ≡ 35 = subst (λ (n : ℕ). get_or text n 0 ≡ 35) digits (omega arith) in
    let within : digits_in text < length text = omega (arith, digits, digits_low text) in
    ap Some (c.in-Ok.ensures.0 ∙ ap (λ (n : ℕ). take (n + 1) text) digits)
    ∙ mark_closed text (omega (arith, digits)) within closed ∙ ap mark_in c.bytes-bytes.ensures.value
