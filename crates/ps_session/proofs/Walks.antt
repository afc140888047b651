-- One walk over two lists whose names rise.
use Rattle.std.proofs.Common.{◌≡◌, ℕ, suc, ◌+◌, ◌<◌, true, false, List, [], ◌∷◌, ◌++◌, length, get_or, drop, map, Option, None, refl, sym, ap, ◌∙◌, subst, arith, inl, inr, add-one, drop-cons, append_assoc}
use Rattle.std.specs.Prelude.{bytes_eq}
use Rattle.std.proofs.lemmas.Bool.{cases_Bool}
use Rattle.std.proofs.lemmas.List.{drop-drop}
use Rattle.std.proofs.Math.Nat.{add-zero}
use Rattle.ps_bucket_log.specs.declared.takes.TakenBucket.{TakenBucket}
use Rattle.ps_session.specs.Matches.{match_from, match_at, below_front, is_below}
use Rattle.ps_session.proofs.Names.{Rise, AllAbove, rise_behind, not_below_itself, not_below_back, apart_below, below_of, same_name}

-- ---- what is found behind the front

pub match_skip : (at : ℕ) (q name : List ℕ) (bs : List TakenBucket) → is_below q name ≡ false
    → match_from at q bs ≡ match_from (at + below_front name bs) q (drop (below_front name bs) bs)
match_skip at q name [] over = refl
match_skip at q name (x ∷ xs) over = elim (cases_Bool (is_below x.name name)) [
  | inl below ↦
      let apart : bytes_eq q x.name ≡ false = apart_below q x.name name below over in
      let step : suc at + below_front name xs ≡ at + suc (below_front name xs) = omega arith in
      rw (below, apart) (match_skip (suc at) q name xs over ∙ ap (λ (n : ℕ). match_from n q (drop (below_front name xs) xs)) step)
  | inr not_below ↦ rw not_below (ap (λ (n : ℕ). match_from n q (x ∷ xs)) (sym (add-zero at)))
]

-- the first is not below the name
abbrev NotBelow : List ℕ → List TakenBucket → Type 0
NotBelow name [] = Unit {0}
NotBelow name (x ∷ xs) = is_below x.name name ≡ false

not_below_front : (name : List ℕ) (bs : List TakenBucket) → NotBelow name (drop (below_front name bs) bs)
not_below_front name [] = tt
not_below_front name (x ∷ xs) = elim (cases_Bool (is_below x.name name)) [
  | inl below ↦ rw below (not_below_front name xs)
  | inr over ↦ rw over over
]

match_none : (at : ℕ) (name low : List ℕ) (bs : List TakenBucket) → AllAbove low bs → is_below low name ≡ false → match_from at name bs ≡ None
match_none at name low [] above over = refl
match_none at name low (y ∷ ys) above over = elim (cases_Bool (bytes_eq name y.name)) [
  | inl same ↦
      let less : is_below low name ≡ true = subst (λ (n : List ℕ). is_below low n ≡ true) (sym (same_name name y.name same)) (below_of low y.name above.0) in
      absurd (let wrong : true ≡ false = sym less ∙ over in cc)
  | inr other ↦ rw other (match_none (suc at) name low ys above.1 over)
]

match_here : (at : ℕ) (name : List ℕ) (bs : List TakenBucket) → Rise bs → NotBelow name bs → match_from at name bs ≡ match_at at name bs
match_here at name [] rise over = refl
match_here at name (x ∷ xs) rise over = elim (cases_Bool (bytes_eq name x.name)) [
  | inl same ↦ rw same refl
  | inr other ↦ rw other (match_none (suc at) name x.name xs rise.0 over)
]

-- ---- the walk

-- what is found from a place on
abbrev pub match_behind : ℕ → List TakenBucket → TakenBucket → Option ℕ
match_behind at others b = match_from at b.name (drop at others)

found_here : (others : List TakenBucket) (at n : ℕ) (b : TakenBucket) → Rise others → n ≡ at + below_front b.name (drop at others)
    → match_at n b.name (drop n others) ≡ match_behind at others b
found_here others at n b rise is =
    let front = below_front b.name (drop at others) in
    let skipped = match_skip at b.name b.name (drop at others) (not_below_itself b.name) in
    let rest : drop front (drop at others) ≡ drop n others = drop-drop front at others ∙ ap (λ (k : ℕ). drop k others) (sym is) in
    let over = subst (λ (bs : List TakenBucket). NotBelow b.name bs) rest (not_below_front b.name (drop at others)) in
    let here = match_here n b.name (drop n others) (rise_behind n others rise) over in
    sym (skipped ∙ ap (λ (k : ℕ). match_from k b.name (drop front (drop at others))) (sym is) ∙ ap (λ (bs : List TakenBucket). match_from n b.name bs) rest ∙ here)

found_later : (others : List TakenBucket) (at n : ℕ) (name : List ℕ) (bs : List TakenBucket) → AllAbove name bs → n ≡ at + below_front name (drop at others)
    → map (match_behind n others) bs ≡ map (match_behind at others) bs
found_later others at n name [] above is = refl
found_later others at n name (c ∷ cs) above is =
    let front = below_front name (drop at others) in
    let skipped = match_skip at c.name name (drop at others) (not_below_back name c.name above.0) in
    let rest : drop front (drop at others) ≡ drop n others = drop-drop front at others ∙ ap (λ (k : ℕ). drop k others) (sym is) in
    let here : match_behind n others c ≡ match_behind at others c =
    sym (skipped ∙ ap (λ (k : ℕ). match_from k c.name (drop front (drop at others))) (sym is) ∙ ap (λ (bs : List TakenBucket). match_from n c.name bs) rest) in
    let later = found_later others at n name cs above.1 is in
    ap (λ (m : Option ℕ). m ∷ map (match_behind n others) cs) here ∙ ap (λ (ms : List (Option ℕ)). match_behind at others c ∷ ms) later

found_more : (others buckets : List TakenBucket) (found whole : List (Option ℕ)) (at n i : ℕ) (d : TakenBucket) → Rise others → Rise buckets → i < length buckets
    → n ≡ at + below_front (get_or buckets i d).name (drop at others)
    → found ++ map (match_behind at others) (drop i buckets) ≡ whole
    → (found ++ match_at n (get_or buckets i d).name (drop n others) ∷ []) ++ map (match_behind n others) (drop (i + 1) buckets) ≡ whole
found_more others buckets found whole at n i d rise rises within is so_far =
    let b = get_or buckets i d in
    let split : drop i buckets ≡ b ∷ drop (suc i) buckets = drop-cons buckets i d within in
    let behind : Rise (b ∷ drop (suc i) buckets) = subst (λ (bs : List TakenBucket). Rise bs) split (rise_behind i buckets rises) in
    let here = found_here others at n b rise is in
    let later = found_later others at n b.name (drop (suc i) buckets) behind.0 is in
    let before : found ++ (match_behind at others b ∷ map (match_behind at others) (drop (suc i) buckets)) ≡ whole =
    ap (λ (bs : List TakenBucket). found ++ map (match_behind at others) bs) (sym split) ∙ so_far in
    rw (add-one, append_assoc) (ap (λ (m : Option ℕ). found ++ (m ∷ map (match_behind n others) (drop (suc i) buckets))) here
    ∙ ap (λ (ms : List (Option ℕ)). found ++ (match_behind at others b ∷ ms)) later ∙ before)

pub found_next : (others buckets : List TakenBucket) (found pushed whole : List (Option ℕ)) (at n i : ℕ) (b : TakenBucket) (m : Option ℕ) → Rise others → Rise buckets → i < length buckets
    → b ≡ get_or buckets i b → n ≡ at + below_front b.name (drop at others) → m ≡ match_at n b.name (drop n others) → pushed ≡ found ++ m ∷ []
    → found ++ map (match_behind at others) (drop i buckets) ≡ whole
    → pushed ++ map (match_behind n others) (drop (i + 1) buckets) ≡ whole
found_next others buckets found pushed whole at n i b m rise rises within item is match push so_far =
    let place : n ≡ at + below_front (get_or buckets i b).name (drop at others) = is ∙ ap (λ (x : TakenBucket). at + below_front x.name (drop at others)) item in
    let made : m ≡ match_at n (get_or buckets i b).name (drop n others) = match ∙ ap (λ (x : TakenBucket). match_at n x.name (drop n others)) item in
    ap (λ (ms : List (Option ℕ)). ms ++ map (match_behind n others) (drop (i + 1) buckets)) (push ∙ ap (λ (x : Option ℕ). found ++ x ∷ []) made)
    ∙ found_more others buckets found whole at n i b rise rises within place so_far
