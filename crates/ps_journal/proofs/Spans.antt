-- What a write and a sync leave possible.
use Rattle.std.proofs.Common.{◌≡◌, ◌⊎◌, inl, inr, ℕ, zero, suc, ◌+◌, ◌-◌, ◌<◌, ◌≤◌, max, List, [], ◌∷◌, ◌++◌, length, get_or, take, drop, refl, sym, ◌∙◌, ap, subst, arith, length-append, length-drop}
use Rattle.std.proofs.lemmas.List.{length-take-le, get_or-take, get_or-drop, get_or_append_left, get_or-append_right, ext_get_or, take_more, take_all}
use Rattle.ps_journal.specs.declared.moments.Span.{Span}
use Rattle.ps_journal.specs.declared.moments.Moment.{Moment}
use Rattle.ps_journal.specs.Moments.{IsApart, furthest, MayLeave}
use Rattle.ps_journal.specs.Disks.{overwritten, touched, settled}

pub apart_push : (place : ℕ) (spans : List Span) (span : Span) → IsApart place (spans ++ span ∷ []) → IsApart place spans × ((place < span.at) ⊎ (span.at + span.count ≤ place))
apart_push place [] span apart = (tt, apart.0)
apart_push place (s ∷ spans) span apart = let rest = apart_push place spans span apart.1 in ((apart.0, rest.0), rest.1)

pub furthest_push : (end : ℕ) (spans : List Span) (span : Span) → furthest end (spans ++ span ∷ []) ≡ max (span.at + span.count) (furthest end spans)
furthest_push end [] span = refl
furthest_push end (s ∷ spans) span = omega (arith, furthest_push end spans span)

module _ (at : ℕ) (bytes content : List ℕ) (within : at ≤ length content) where
  front : length (take at content) ≡ at
  front = length-take-le at content within

  pub length-overwritten : length (overwritten at bytes content) ≡ max (length content) (at + length bytes)
  length-overwritten =
      omega (
        arith,
        front,
        length-append (take at content) (bytes ++ drop (at + length bytes) content),
        length-append bytes (drop (at + length bytes) content),
        length-drop (at + length bytes) content,
      )

  -- a write keeps what lies outside of it
  pub overwritten_apart : (place : ℕ) → (place < at) ⊎ (at + length bytes ≤ place) → get_or (overwritten at bytes content) place 0 ≡ get_or content place 0
  overwritten_apart place (inl before) =
      get_or_append_left (take at content) (bytes ++ drop (at + length bytes) content) 0 place (omega (arith, front, before)) ∙ get_or-take at content place 0 before
  overwritten_apart place (inr behind) =
      get_or-append_right (take at content) (bytes ++ drop (at + length bytes) content) at place 0 front (omega (arith, behind))
      ∙ get_or-append_right bytes (drop (at + length bytes) content) (length bytes) (place - at) 0 refl (omega (arith, behind))
      ∙ get_or-drop (at + length bytes) content (place - at - length bytes) 0
      ∙ ap (λ (k : ℕ). get_or content k 0) (omega (arith, behind))

pub may_leave_touched : (moment : Moment) (at count : ℕ) (content : List ℕ) → MayLeave moment content → MayLeave (touched at count moment) content
may_leave_touched moment at count content may = record {
  no_shorter = may.no_shorter;
  no_longer = omega (arith, may.no_longer, furthest_push (length moment.sure) moment.spans (record { at = at; count = count }));
  elsewhere = λ place within apart. may.elsewhere place within (apart_push place moment.spans (record { at = at; count = count }) apart).0;
}

pub may_leave_written : (moment : Moment) (at : ℕ) (bytes content : List ℕ) → at ≤ length content → MayLeave moment content
    → MayLeave (touched at (length bytes) moment) (overwritten at bytes content)
may_leave_written moment at bytes content within may =
    let long = length-overwritten at bytes content within in record {
      no_shorter = omega (arith, may.no_shorter, long);
      no_longer = omega (arith, may.no_longer, long, furthest_push (length moment.sure) moment.spans (record { at = at; count = length bytes }));
      elsewhere = λ place sure apart.
          let parts = apart_push place moment.spans (record { at = at; count = length bytes }) apart in
          overwritten_apart at bytes content within place parts.1 ∙ may.elsewhere place sure parts.0;
    }

pub may_leave_settled : (content : List ℕ) → MayLeave (settled content) content
may_leave_settled content = record { no_shorter = omega arith; no_longer = omega arith; elsewhere = λ place within apart. refl }

-- after a sync a crash leaves what a read gives
pub settled_only : (content left : List ℕ) → MayLeave (settled content) left → left ≡ content
settled_only content left may =
    ext_get_or 0 left content (omega (arith, may.no_shorter, may.no_longer)) (λ i within. may.elsewhere i (omega (arith, within, may.no_longer)) tt)

-- one span more of those that a moment lists
abbrev pub no_span : Span
no_span = record { at = 0; count = 0 }

-- ---- place by place

apart_and : (place : ℕ) (spans : List Span) (span : Span) → IsApart place spans → ((place < span.at) ⊎ (span.at + span.count ≤ place)) → IsApart place (spans ++ span ∷ [])
apart_and place [] span apart here = (here, tt)
apart_and place (s ∷ spans) span apart here = (apart.0, apart_and place spans span apart.1 here)

pub apart_more : (place : ℕ) (spans : List Span) (i : ℕ) → i < length spans → IsApart place (take i spans)
    → ((place < (get_or spans i no_span).at) ⊎ ((get_or spans i no_span).at + (get_or spans i no_span).count ≤ place)) → IsApart place (take (i + 1) spans)
apart_more place spans i within apart here =
    subst (IsApart place) (sym (take_more spans i no_span within)) (apart_and place (take i spans) (get_or spans i no_span) apart here)

pub apart_at : (place : ℕ) (spans : List Span) (i : ℕ) → i < length spans → IsApart place spans
    → (place < (get_or spans i no_span).at) ⊎ ((get_or spans i no_span).at + (get_or spans i no_span).count ≤ place)
apart_at place [] i within apart = absurd (omega arith)
apart_at place (s ∷ spans) zero within apart = apart.0
apart_at place (s ∷ spans) (suc i) within apart = apart_at place spans i (omega (arith, within)) apart.1

pub furthest_at : (end : ℕ) (spans : List Span) (i : ℕ) → i < length spans
    → furthest end (take (i + 1) spans) ≡ max ((get_or spans i no_span).at + (get_or spans i no_span).count) (furthest end (take i spans))
furthest_at end spans i within =
    ap (λ (l : List Span). furthest end l) (take_more spans i no_span within) ∙ furthest_push end (take i spans) (get_or spans i no_span)

pub not_apart : (place : ℕ) (spans : List Span) (i : ℕ) → i < length spans
    → ((get_or spans i no_span).at ≤ place) × (place < (get_or spans i no_span).at + (get_or spans i no_span).count) → IsApart place spans → ⊥
not_apart place spans i within inside apart = elim (apart_at place spans i within apart) [
  | inl before ↦ omega (arith, before, inside.0)
  | inr behind ↦ omega (arith, behind, inside.1)
]

pub apart_all : (place : ℕ) (spans : List Span) (i : ℕ) → length spans ≤ i → IsApart place (take i spans) → IsApart place spans
apart_all place spans i all apart = subst (IsApart place) (take_all i spans all) apart
