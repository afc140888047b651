-- Where a head ends: behind an empty line, and only where a byte stands that is no part of a line end.
use Rattle.std.proofs.Common.{◌≡◌, ℕ, ◌-◌, Bool, true, false, List, [], ◌∷◌, ◌++◌, length, take, All, refl, sym, ap, subst, ◌∙◌, arith, append_assoc, length-append, inl, inr, ◌⊎◌}
use Rattle.std.specs.Prelude.{◌||◌, nat_eq}
use Rattle.std.specs.List.{ends_with, flat_map}
use Rattle.std.specs.Cmp.Lexicographic.{pointwise}
use Rattle.std.proofs.lemmas.Bool.{true≢false}
use Rattle.std.proofs.lemmas.List.{append-nil, take_at, drop_at, get_or_at}
use Rattle.httparse.specs.Grammar.{LineEnd, crlf, lf, print_end, print_blank, print_version, print_section, print_field, print_request, Field, RequestHead, ReadsRequest, HasNoRequest}
use Rattle.httparse.specs.Pieces.{Stops}
use Rattle.httparse.proofs.GrammarLemmas.{print_request-append}
use Rattle.httparse.proofs.PieceLemmas.{Stops_token}
use Rattle.ps_http.specs.Takings.{is_newline, ends_empty}

ends_with-append : (front needle : List ℕ) → pointwise nat_eq needle needle ≡ true → ends_with nat_eq (front ++ needle) needle ≡ true
ends_with-append front needle same =
    ap (pointwise nat_eq needle) (drop_at front needle (length (front ++ needle) - length needle) (omega (arith, length-append front needle))) ∙ same

or_true : (b : Bool) → (b || true) ≡ true
or_true true = refl
or_true false = refl

first_or : (x y : Bool) → x ≡ true → (x || y) ≡ true
first_or x y e = ap (λ b. b || y) e

second_or : (x y : Bool) → y ≡ true → (x || y) ≡ true
second_or x y e = ap (λ b. x || b) e ∙ or_true x

two_feeds : (front : List ℕ) → ends_empty (front ++ (10 ∷ 10 ∷ [])) ≡ true
two_feeds front = first_or _ _ (ends_with-append front (10 ∷ 10 ∷ []) refl)

feed_and_end : (front : List ℕ) → ends_empty (front ++ (10 ∷ 13 ∷ 10 ∷ [])) ≡ true
feed_and_end front = second_or _ _ (ends_with-append front (10 ∷ 13 ∷ 10 ∷ []) refl)

-- two line ends, one behind the other, end in an empty line
two_ends : (front : List ℕ) (a b : LineEnd) → ends_empty (front ++ (print_end a ++ print_end b)) ≡ true
two_ends front lf lf = two_feeds front
two_ends front lf crlf = feed_and_end front
two_ends front crlf lf = ap ends_empty (sym (append_assoc front (13 ∷ []) (10 ∷ 10 ∷ []))) ∙ two_feeds (front ++ (13 ∷ []))
two_ends front crlf crlf = ap ends_empty (sym (append_assoc front (13 ∷ []) (10 ∷ 13 ∷ 10 ∷ []))) ∙ feed_and_end (front ++ (13 ∷ []))

regroup_field : (e n p f t q : List ℕ) → p ++ f ≡ t ++ q → e ++ ((n ++ p) ++ f) ≡ ((e ++ n) ++ t) ++ q
regroup_field e n p f t q same =
    ap (λ x. e ++ x) (append_assoc n p f ∙ ap (λ x. n ++ x) same)
    ∙ sym (append_assoc (e ++ n) t q ∙ append_assoc e n (t ++ q))

-- a line end and field lines end in a line end
last_end : (e : LineEnd) (fields : List Field) → (front : List ℕ) × (end : LineEnd) × (print_end e ++ flat_map print_field fields ≡ front ++ print_end end)
last_end e [] = ([], e, append-nil (print_end e))
last_end e (f ∷ fields) =
    let rest : (front : List ℕ) × (end : LineEnd) × (print_end f.end ++ flat_map print_field fields ≡ front ++ print_end end) = last_end f.end fields in (
      (print_end e ++ (f.name ++ 58 ∷ f.raw)) ++ rest.0,
      rest.1,
      regroup_field (print_end e) (f.name ++ 58 ∷ f.raw) (print_end f.end) (flat_map print_field fields) rest.0 (print_end rest.1) rest.2,
    )

regroup_head : (a b c d x : List ℕ) → a ++ (b ++ 32 ∷ (c ++ 32 ∷ (d ++ x))) ≡ (a ++ (b ++ 32 ∷ (c ++ 32 ∷ d))) ++ x
regroup_head a b c d x =
    sym (append_assoc a (b ++ 32 ∷ (c ++ 32 ∷ d)) x
    ∙ ap (λ y. a ++ y) (append_assoc b (32 ∷ (c ++ 32 ∷ d)) x ∙ ap (λ y. b ++ 32 ∷ y) (append_assoc c (32 ∷ d) x)))

regroup_last : (g e f l t q : List ℕ) → e ++ f ≡ t ++ q → g ++ (e ++ ((f ++ l) ++ [])) ≡ (g ++ t) ++ (q ++ l)
regroup_last g e f l t q same =
    ap (λ x. g ++ (e ++ x)) (append-nil (f ++ l))
    ∙ ap (λ x. g ++ x) (sym (append_assoc e f l) ∙ ap (λ x. x ++ l) same ∙ append_assoc t q l)
    ∙ sym (append_assoc g t (q ++ l))

-- a head ends in an empty line
pub ends_empty-print : (h : RequestHead) → ends_empty (print_request h) ≡ true
ends_empty-print h =
    let tail = last_end h.line_end h.fields in
    let front = print_blank h.blank ++ (h.method ++ 32 ∷ (h.target ++ 32 ∷ print_version h.minor)) in
    let whole : print_request h ≡ (front ++ tail.0) ++ (print_end tail.1 ++ print_end h.last) =
    sym (append-nil (print_request h)) ∙ print_request-append h []
    ∙ regroup_head (print_blank h.blank) h.method h.target (print_version h.minor) (print_end h.line_end ++ (print_section h.fields h.last ++ []))
    ∙ regroup_last front (print_end h.line_end) (flat_map print_field h.fields) (print_end h.last) tail.0 (print_end tail.1) tail.2 in
    ap ends_empty whole ∙ two_ends (front ++ tail.0) tail.1 h.last

-- bytes that are all of line ends have no byte that is none
stops_not : (front tail : List ℕ) → All (λ byte. is_newline byte ≡ true) (front ++ tail) → Stops is_newline tail → ⊥
stops_not front [] all stops = stops
stops_not front (b ∷ tail) all stops =
    let here = all (length front) b (omega (arith, length-append front (b ∷ tail))) in
    let is = get_or_at front b tail b (length front) refl in
    true≢false (sym here ∙ ap is_newline is ∙ stops)

-- no head stands in line ends alone
pub HasNoRequest-blank : (bytes : List ℕ) → All (λ byte. is_newline byte ≡ true) bytes → HasNoRequest bytes
HasNoRequest-blank bytes all h rest reads =
    let text = reads.1 ∙ print_request-append h rest in
    stops_not (print_blank h.blank) _ (subst (λ b. All (λ byte. is_newline byte ≡ true) b) text all) (Stops_token h.method _ reads.0.method.0 reads.0.method.1)

abbrev Last : List ℕ → Type 0
Last xs = (xs ≡ []) ⊎ ((front : List ℕ) × (last : ℕ) × (xs ≡ front ++ last ∷ []))

cons_last : (x : ℕ) (xs : List ℕ) → Last xs → Last (x ∷ xs)
cons_last x xs (inl e) = inr ([], x, ap (λ l. x ∷ l) e)
cons_last x xs (inr t) = inr (x ∷ t.0, t.1, ap (λ l. x ∷ l) t.2)

last_of : (xs : List ℕ) → Last xs
last_of [] = inl refl
last_of (x ∷ xs) = cons_last x xs (last_of xs)

front_of : (xs : List ℕ) (a : ℕ) → take (length (xs ++ a ∷ []) - 1) (xs ++ a ∷ []) ≡ xs
front_of xs a = take_at xs (a ∷ []) (length (xs ++ a ∷ []) - 1) (omega (arith, length-append xs (a ∷ [])))

same_front : (xs ys : List ℕ) (a b : ℕ) → xs ++ a ∷ [] ≡ ys ++ b ∷ [] → xs ≡ ys
same_front xs ys a b e = sym (front_of xs a) ∙ ap (λ l. take (length l - 1) l) e ∙ front_of ys b

shorter : (bytes : List ℕ) (byte : ℕ) (h : RequestHead) (rest : List ℕ) → HasNoRequest bytes → ReadsRequest (bytes ++ byte ∷ []) h rest → Last rest → rest ≡ []
shorter bytes byte h rest none reads (inl e) = e
shorter bytes byte h rest none reads (inr t) =
    absurd (none h t.0 (
      reads.0,
      same_front bytes (print_request h ++ t.0) byte t.1 (reads.1 ∙ ap (λ r. print_request h ++ r) t.2 ∙ sym (append_assoc (print_request h) t.0 (t.1 ∷ []))),
    ))

-- a head that a byte has ended is all of the bytes
pub rest_is_none : (bytes : List ℕ) (byte : ℕ) (h : RequestHead) (rest : List ℕ) → HasNoRequest bytes → ReadsRequest (bytes ++ byte ∷ []) h rest → rest ≡ []
rest_is_none bytes byte h rest none reads = shorter bytes byte h rest none reads (last_of rest)

-- a byte that ends no empty line ends no head
pub HasNoRequest-more : (bytes : List ℕ) (byte : ℕ) → HasNoRequest bytes → ends_empty (bytes ++ byte ∷ []) ≡ false → HasNoRequest (bytes ++ byte ∷ [])
HasNoRequest-more bytes byte none open' h rest reads =
    let empty = rest_is_none bytes byte h rest none reads in
    let is : bytes ++ byte ∷ [] ≡ print_request h = reads.1 ∙ ap (λ r. print_request h ++ r) empty ∙ append-nil (print_request h) in
    true≢false (sym (ends_empty-print h) ∙ ap ends_empty (sym is) ∙ open')
