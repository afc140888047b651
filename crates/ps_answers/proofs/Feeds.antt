-- The first line feed of bytes.
use Rattle.std.proofs.Common.{◌≡◌, ◌≢◌, ℕ, suc, ◌+◌, ◌-◌, ◌<◌, ◌≤◌, List, [], ◌∷◌, ◌++◌, Some, None, length, take, drop, get_or, slice_index, sym, ap, subst, ◌∙◌, arith, inl, inr, append_assoc, length-append, Result, Ok, Err}
use Rattle.std.proofs.lemmas.Bool.{cases_lt, eq-eqb, eqb-true}
use Rattle.std.proofs.lemmas.List.{get_or-take, get_or-drop, length-take-le, length-drop, take-append-drop, take_rest}
use Rattle.std.proofs.Math.Seq.{drop-cons, get_or-append_seam}
use Rattle.memchr.specs.Find.{Nowhere, Passes, is_byte, IsFirstByte}
use Rattle.ps_answers.specs.Lines.{FitsLine, HasNoFeed, with_feed}
use Rattle.ps_answers.specs.Readers.{FeedsIn, BeginsTooLong, IsFound, LeavesFew}
use Rattle.ps_answers.specs.declared.readers.Part.{Part}
use Rattle.ps_answers.specs.declared.readers.Part.TheVariants.{Whole, Cut}
use Rattle.ps_answers.specs.declared.readers.LineFault.{LineFault}
use Rattle.ps_answers.specs.declared.readers.LineFault.TheVariants.{TooLong, Failed, Memory}

-- none stands in the first bytes, and none in so many behind them
pub none_on : (bytes : List ℕ) (looked n : ℕ) → looked ≤ length bytes → HasNoFeed (take looked bytes)
    → Nowhere (Passes (is_byte 10) (drop looked bytes)) 0 n → (k : ℕ) → k < looked + n → slice_index bytes k ≢ 10
none_on bytes looked n within clean nowhere k below is =
    elim (cases_lt k looked) [
      | inl lt ↦ clean k (omega (arith, lt, length-take-le looked bytes within)) (get_or-take looked bytes k 0 lt ∙ is)
      | inr ge ↦
          let place : looked + (k - looked) ≡ k = omega (arith, ge) in
          nowhere (k - looked) (omega arith) (omega (arith, below, ge))
          (eq-eqb (slice_index (drop looked bytes) (k - looked)) 10 (get_or-drop looked bytes (k - looked) 0 ∙ ap (λ i. get_or bytes i 0) place ∙ is))
    ]

-- what is behind them, as a slice has it
abbrev behind : ℕ → List ℕ → List ℕ
behind looked bytes = take (length bytes - looked) (drop looked bytes)

-- the answer behind the first bytes is one of all
pub feeds_on : (bytes : List ℕ) (looked : ℕ) (place : ℕ) → looked ≤ length bytes → HasNoFeed (take looked bytes)
    → IsFirstByte (is_byte 10) (behind looked bytes) (Some place) → FeedsIn bytes (Some (looked + place))
feeds_on bytes looked place within clean found =
    let first : IsFirstByte (is_byte 10) (drop looked bytes) (Some place) =
    subst (λ v. IsFirstByte (is_byte 10) v (Some place)) (take_rest bytes looked) found in
    let is : slice_index (drop looked bytes) place ≡ 10 = eqb-true (slice_index (drop looked bytes) place) 10 first.1 in (
      omega (arith, first.0.high, length-drop looked bytes),
      sym (get_or-drop looked bytes place 0) ∙ is,
      none_on bytes looked place within clean first.0.before,
    )

pub feeds_nowhere : (bytes : List ℕ) (looked : ℕ) → looked ≤ length bytes → HasNoFeed (take looked bytes)
    → IsFirstByte (is_byte 10) (behind looked bytes) None → HasNoFeed bytes
feeds_nowhere bytes looked within clean found k below =
    let none : IsFirstByte (is_byte 10) (drop looked bytes) None =
    subst (λ v. IsFirstByte (is_byte 10) v None) (take_rest bytes looked) found in
    none_on bytes looked (length (drop looked bytes)) within clean none k (omega (arith, below, length-drop looked bytes, within))

-- a line, its feed and what is behind it
pub line_split : (bytes : List ℕ) (place : ℕ) → place < length bytes → slice_index bytes place ≡ 10
    → bytes ≡ with_feed (take place bytes) ++ drop (place + 1) bytes
line_split bytes place below is =
    let next : suc place ≡ place + 1 = omega arith in
    sym (take-append-drop place bytes)
    ∙ ap (λ x. take place bytes ++ x) (drop-cons bytes place 0 below ∙ ap (λ b. b ∷ drop (suc place) bytes) is ∙ ap (λ n. 10 ∷ drop n bytes) next)
    ∙ sym (append_assoc (take place bytes) (10 ∷ []) (drop (place + 1) bytes))

-- the line has no feed
pub no_feed_before : (bytes : List ℕ) (place : ℕ) → FeedsIn bytes (Some place) → HasNoFeed (take place bytes)
no_feed_before bytes place found k below is =
    let lt : k < place = omega (arith, below, found.0, length-take-le place bytes (omega (arith, found.0))) in
    found.2 k lt (sym (get_or-take place bytes k 0 lt) ∙ is)

-- the line that was found
pub found_line : (all part left : List ℕ) (place : ℕ) → FeedsIn all (Some place) → part ≡ take place all → left ≡ drop (place + 1) all
    → place ≤ 268435456 → (all ≡ with_feed part ++ left) × FitsLine part
found_line all part left place found is_part is_left small =
    let within : place ≤ length all = omega (arith, found.0) in
    let base : (all ≡ with_feed (take place all) ++ drop (place + 1) all) × FitsLine (take place all) =
    (line_split all place found.0 found.1, (no_feed_before all place found, omega (arith, length-take-le place all within, small))) in
    subst (λ x. (all ≡ with_feed x ++ left) × FitsLine x) (sym is_part)
    (subst (λ y. (all ≡ with_feed (take place all) ++ y) × FitsLine (take place all)) (sym is_left) base)

-- a line that is too long
pub too_long : (all : List ℕ) (place : ℕ) → FeedsIn all (Some place) → 268435456 < place → BeginsTooLong all place
too_long all place found more = record {
  line = take place all;
  rest = drop place all;
  bytes_are = sym (take-append-drop place all);
  no_feed = no_feed_before all place found;
  seen_is = sym (length-take-le place all (omega (arith, found.0)));
  more = more;
}

-- the line reaches past the first bytes, which have no feed
reaches : (all part left : List ℕ) (looked : ℕ) → all ≡ with_feed part ++ left → HasNoFeed (take looked all) → looked ≤ length all → looked ≤ length part
reaches all part left looked split clean within =
    elim (cases_lt (length part) looked) [
      | inl lt ↦
          let here : slice_index all (length part) ≡ 10 =
          ap (λ v. slice_index v (length part)) (split ∙ append_assoc part (10 ∷ []) left) ∙ get_or-append_seam part 10 left 0 in
          absurd (clean (length part) (omega (arith, lt, length-take-le looked all within)) (get_or-take looked all (length part) 0 lt ∙ here))
      | inr ge ↦ ge
    ]

-- few bytes are left behind it, where few came behind the first
pub LeavesFew-found : (all part left : List ℕ) (looked : ℕ) (result : Result Part LineFault) → looked ≤ length all → HasNoFeed (take looked all)
    → length all ≤ looked + 268435456 → IsFound all part left result → LeavesFew left result
LeavesFew-found all part left looked (Ok Whole) within clean few found =
    omega (
      arith,
      few,
      reaches all part left looked found.0 clean within,
      ap length found.0,
      length-append (with_feed part) left,
      length-append part (10 ∷ []),
    )
LeavesFew-found all part left looked (Ok Cut) within clean few found = absurd found
LeavesFew-found all part left looked (Err (TooLong seen)) within clean few found = tt
LeavesFew-found all part left looked (Err Failed) within clean few found = absurd found
LeavesFew-found all part left looked (Err Memory) within clean few found = absurd found
