-- Steps of adding entries.
use Rattle.std.proofs.Common.{◌≡◌, ℕ, suc, ◌+◌, ◌-◌, ◌<◌, ◌≤◌, Bool, true, false, List, [], ◌∷◌, ◌++◌, length, get_or, map, take, Option, Some, None, Err, refl, sym, ap, ◌∙◌, subst, arith, append-nil, length-append}
use Rattle.std.specs.Prelude.{flat_map, bytes_eq, if◌then◌else◌}
use Rattle.ps_definitions.specs.declared.queries.Planned.{Planned}
use Rattle.ps_definitions.specs.declared.definitions.Definition.{Definition}
use Rattle.ps_bucket_eval.specs.Types.{Placed, PlaceFault, TooWide, Memory}
use Rattle.ps_queries.specs.Objects.{object_id, content_of}
use Rattle.ps_bucket_eval.specs.Shown.{alone}
use Rattle.ps_queries.specs.Vectors.{SourceRow}
use Rattle.ps_bucket_eval.specs.Entries.{subkey_of, placed_in, placed_all, buckets_of, query_entries, IsPlaced}
use Rattle.ps_bucket_eval.specs.Solving.{AddsEntries, made_in}
use Rattle.ps_bucket_eval.proofs.Steps.{added_more, added_past}

pub query_other : (d : Definition) (source : SourceRow) (q : Planned) → bytes_eq q.query.table source.table ≡ false → query_entries d source q ≡ []
unfolding query_entries
query_other d source q e = ap (λ b. if b then placed_all d source q (object_id (alone source.id source.row) q.query) else []) e

none_placed : (d : Definition) (source : SourceRow) (q : Planned) (b : Bool) (o : Option (List ℕ)) → o ≡ None → (if b then placed_all d source q o else []) ≡ []
none_placed d source q true o e = ap (placed_all d source q) e
none_placed d source q false o e = refl

pub query_none : (d : Definition) (source : SourceRow) (q : Planned) → None ≡ object_id (alone source.id source.row) q.query → query_entries d source q ≡ []
unfolding query_entries
query_none d source q e = none_placed d source q (bytes_eq q.query.table source.table) (object_id (alone source.id source.row) q.query) (sym e)

pub query_is : (d : Definition) (source : SourceRow) (q : Planned) (object : List ℕ) → bytes_eq q.query.table source.table ≡ true → Some object ≡ object_id (alone source.id source.row) q.query
    → query_entries d source q ≡ map (placed_in q source object) (buckets_of d source q)
unfolding query_entries
query_is d source q object e is =
    ap (λ b. if b then placed_all d source q (object_id (alone source.id source.row) q.query) else []) e ∙ ap (placed_all d source q) (sym is)

length_map : {X Y : Type 0} (f : X → Y) (xs : List X) → length (map f xs) ≡ length xs
length_map f [] = refl
length_map f (x ∷ xs) = ap suc (length_map f xs)

pub adds_none : (top : ℕ) (old new entries : List Placed) → entries ≡ [] → new ≡ old → length old ≤ top → (new ≡ old ++ entries) × (length new ≤ top)
adds_none top old new entries e same h = (same ∙ sym (append-nil old) ∙ ap (λ (l : List Placed). old ++ l) (sym e), subst (λ (l : List Placed). length l ≤ top) (sym same) h)

pub adds_wide : (top room count : ℕ) (old entries : List Placed) (f : List ℕ → Placed) (buckets : List (List ℕ)) → entries ≡ map f buckets → room ≡ top - length old → length old ≤ top → room < length buckets → count ≡ top + 1
    → (top < length (old ++ entries)) × (count ≡ top + 1)
adds_wide top room count old entries f buckets e is h wide c =
    (omega (arith, is, h, wide, length-append old entries, ap length e, length_map f buckets), c)

pub adds_all : (top room : ℕ) (old new entries : List Placed) (f : List ℕ → Placed) (keys buckets : List (List ℕ)) → entries ≡ map f buckets → keys ≡ buckets → room ≡ top - length old → length old ≤ top → length buckets ≤ room
    → new ≡ old ++ map f keys → (new ≡ old ++ entries) × (length new ≤ top)
adds_all top room old new entries f keys buckets e same is h fits made =
    let all : new ≡ old ++ entries = made ∙ ap (λ (ks : List (List ℕ)). old ++ map f ks) same ∙ ap (λ (l : List Placed). old ++ l) (sym e) in
    (all, omega (arith, is, h, fits, ap length all, length-append old entries, ap length e, length_map f buckets))

module _ {X : Type 0} (f : X → List Placed) (top : ℕ) (old now new : List Placed) (xs : List X) (i : ℕ) (x : X) where
  pub adds_more : i < length xs → x ≡ get_or xs i x → now ≡ old ++ flat_map f (take i xs) → (new ≡ now ++ f x) × (length new ≤ top) → (new ≡ old ++ flat_map f (take (i + 1) xs)) × (length new ≤ top)
  adds_more lt is e h = (h.0 ∙ added_more f old now xs i x lt is e, h.1)

  pub adds_past : (fault : PlaceFault) → i < length xs → x ≡ get_or xs i x → now ≡ old ++ flat_map f (take i xs) → AddsEntries top now new (f x) (Err fault) → AddsEntries top old new (flat_map f xs) (Err fault)
  adds_past (TooWide count) lt is e h = (added_past f old now xs i x top lt is e h.0, h.1)
  adds_past Memory lt is e h = tt

-- from nothing on
pub placed_from : (top : ℕ) (new entries : List Placed) (fault : PlaceFault) → AddsEntries top [] new entries (Err fault) → IsPlaced entries top (Err fault)
placed_from top new entries (TooWide count) h = h
placed_from top new entries Memory h = tt

-- an entry by its parts
pub made_placed : (q : Planned) (source : SourceRow) (object subkey content : List ℕ) → subkey ≡ subkey_of q.number source → content ≡ content_of (alone source.id source.row) q.query object
    → made_in q object subkey content ≡ placed_in q source object
made_placed q source object subkey content s t = λ i bucket. record { bucket = bucket; key = record { kind = q.query.kind; id = object; subkey = s i }; content = t i; number = q.number }
