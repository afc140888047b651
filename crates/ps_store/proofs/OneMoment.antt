-- Copies neither of which is later have one moment and one number.
use Rattle.std.proofs.Common.{◌≡◌, ℕ, ◌<◌, ◌≤◌, ◌==◌, Bool, true, false, ◌&&◌, ◌||◌, refl, sym, inl, inr, arith}
use Rattle.std.specs.Prelude.{◌⊎◌, nat_lt}
use Rattle.std.proofs.lemmas.Bool.{eqb-true}
use Rattle.ps_granted.specs.declared.copies.Granted.{Granted}
use Rattle.ps_granted.specs.Latest.{is_later}

-- a copy is at most as late as another
abbrev AtMost : Granted → Granted → Type 0
AtMost a b = (a.position.0 < b.position.0) ⊎ ((a.position.0 ≡ b.position.0) × ((a.index < b.index) ⊎ ((a.index ≡ b.index) × (a.number ≤ b.number))))

-- three places compared one after another
abbrev past_by : ℕ → ℕ → Bool → Bool
past_by m n rest = nat_lt m n || (m == n && rest)

not_past : (m n : ℕ) (rest : Bool) → past_by n m rest ≡ false → (m < n) ⊎ ((m ≡ n) × (rest ≡ false))
not_past m n rest h = elim (nat_lt n m) as (λ b. nat_lt n m ≡ b → (b || (n == m && rest)) ≡ false → (m < n) ⊎ ((m ≡ n) × (rest ≡ false))) [
  | true ↦ λ e g. absurd (cc)
  | false ↦ λ e g. elim (n == m) as (λ b. (n == m) ≡ b → (b && rest) ≡ false → (m < n) ⊎ ((m ≡ n) × (rest ≡ false))) [
    | true ↦ λ d r. inr (sym (eqb-true n m d), r)
    | false ↦ λ d r. inl (grind (arith, e, d))
  ] refl g
] refl h

at_most_of : (a b : Granted) → is_later a b ≡ false → AtMost a b
at_most_of a b h = elim (not_past a.position.0 b.position.0 (past_by b.index a.index (nat_lt b.number a.number)) h) [
  | inl p ↦ inl p
  | inr p ↦ inr (
    p.0,
    elim (not_past a.index b.index (nat_lt b.number a.number) p.1) [
      | inl q ↦ inl q
      | inr q ↦ inr (q.0, grind (arith, q.1))
    ],
  )
]

-- neither of two copies is later: they have one moment and one number
pub record HaveOneMoment (a b : Granted) : Type 0 where
  pub position : a.position.0 ≡ b.position.0
  pub index : a.index ≡ b.index
  pub number : a.number ≡ b.number

pub neither_later : (a b : Granted) → is_later a b ≡ false → is_later b a ≡ false → HaveOneMoment a b
neither_later a b h k = elim (at_most_of a b h) [
  | inl p ↦ elim (at_most_of b a k) [ inl q ↦ absurd (omega (arith, p, q)) | inr q ↦ absurd (omega (arith, p, q.0)) ]
  | inr p ↦ elim (at_most_of b a k) [
    | inl q ↦ absurd (omega (arith, p.0, q))
    | inr q ↦ by_index p.0 p.1 q.1
  ]
] where
  by_index : a.position.0 ≡ b.position.0 → (a.index < b.index) ⊎ ((a.index ≡ b.index) × (a.number ≤ b.number)) → (b.index < a.index) ⊎ ((b.index ≡ a.index) × (b.number ≤ a.number)) → HaveOneMoment a b
  by_index e p q = elim p [
    | inl x ↦ elim q [ inl y ↦ absurd (omega (arith, x, y)) | inr y ↦ absurd (omega (arith, x, y.0)) ]
    | inr x ↦ elim q [
      | inl y ↦ absurd (omega (arith, x.0, y))
      | inr y ↦ record { position = e; index = x.0; number = omega (arith, x.1, y.1) }
    ]
  ]
