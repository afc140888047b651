-- Where notes are found: one place more, one note more.
use Rattle.std.proofs.Common.{◌≡◌, ℕ, zero, suc, ◌<◌, ◌+◌, Bool, true, false, cond, List, [], ◌∷◌, ◌++◌, length, map, take, Some, None, refl, sym, ap, ◌∙◌, subst, arith}
use Rattle.std.specs.Prelude.{◌&&◌, nat_eq, if◌then◌else◌, bytes_eq, slice_get, get_or}
use Rattle.std.specs.Ordering.{nat_cmp, ordering_then, is_eq}
use Rattle.std.specs.Cmp.{nat_cmp_is}
use Rattle.std.specs.Cmp.Lexicographic.{slice_cmp}
use Rattle.std.specs.declared.cmp.Ordering.{Ordering}
use Rattle.std.specs.declared.cmp.Ordering.TheVariants.{Less, Equal, Greater}
use Rattle.std.specs.BTreeMap.{BTreeMap, get, is_at}
use Rattle.std.proofs.lemmas.Map.Lookups.{exact_unsigned, exact_bytes, exact_pairs}
use Rattle.std.proofs.lemmas.Bool.{eqb-true, eq-eqb}
use Rattle.std.proofs.lemmas.Map.Text.{is_eq-slice_cmp}
use Rattle.ps_params.specs.declared.paths.Path.{Path}
use Rattle.ps_params.specs.Notes.{Note}
use Rattle.ps_params.specs.Places.{Spot, spot_cmp, is_spot, places_or_none, places_at, places_from, lies_by, lies_at, text_on, is_text}

equal_order : (o : Ordering) → is_eq o ≡ true → o ≡ Equal
equal_order Less e = absurd (let n : false ≡ true = e in cc)
equal_order Equal e = refl
equal_order Greater e = absurd (let n : false ≡ true = e in cc)

same_spot : (a b : Spot) → is_spot a b ≡ true → a ≡ b
same_spot a b e = exact_pairs nat_cmp (slice_cmp nat_cmp) exact_unsigned exact_bytes a b (equal_order (spot_cmp a b) e)

module _ {K : Type 0} (cmp : K → K → Ordering) (same : (a b : K) → is_eq (cmp a b) ≡ true → a ≡ b) (found new : BTreeMap K (List ℕ)) (key : K) (place : ℕ) (before after : List ℕ) where
  pub put_behind : after ≡ before ++ place ∷ [] → places_or_none (get cmp found key) ≡ before → ((q : K) → get cmp new q ≡ cond (is_at (cmp key) q) (Some after) (get cmp found q))
      → (other : K) → places_or_none (get cmp new other) ≡ (if is_eq (cmp key other) then places_or_none (get cmp found other) ++ place ∷ [] else places_or_none (get cmp found other))
  put_behind grown was gets other = ap places_or_none (gets other) ∙ go (is_eq (cmp key other)) refl
    where
      go : (b : Bool) → is_eq (cmp key other) ≡ b
          → places_or_none (cond b (Some after) (get cmp found other)) ≡ (if b then places_or_none (get cmp found other) ++ place ∷ [] else places_or_none (get cmp found other))
      go true e = grown ∙ ap (λ (ps : List ℕ). ps ++ place ∷ []) (sym was ∙ ap (λ (k : K). places_or_none (get cmp found k)) (same key other e))
      go false e = refl

module _ (found new : BTreeMap Spot (List ℕ)) (spot : Spot) (place : ℕ) (before after : List ℕ) where
  pub place_put : after ≡ before ++ place ∷ [] → places_at found spot ≡ before → ((q : Spot) → get spot_cmp new q ≡ cond (is_at (spot_cmp spot) q) (Some after) (get spot_cmp found q))
      → (other : Spot) → places_at new other ≡ (if is_spot spot other then places_at found other ++ place ∷ [] else places_at found other)
  place_put grown was gets other = put_behind spot_cmp same_spot found new spot place before after grown was gets other

-- ---- lists by places

pub got_at : {X : Type 0} (xs : List X) (k : ℕ) (x : X) → k < length xs → x ≡ get_or xs k x → slice_get xs k ≡ Some x
got_at [] k x h e = absurd (omega arith)
got_at (y ∷ xs) zero x h e = ap Some (sym e)
got_at (y ∷ xs) (suc k) x h e = got_at xs k x (omega arith) e

pub got_mapped : {X Y : Type 0} (f : X → Y) (xs : List X) (k : ℕ) (x : X) → slice_get xs k ≡ Some x → slice_get (map f xs) k ≡ Some (f x)
got_mapped f [] k x e = absurd (let n : None ≡ Some x = e in cc)
got_mapped f (y ∷ xs) zero x e = let s : y ≡ x = cc in ap (λ z. Some (f z)) s
got_mapped f (y ∷ xs) (suc k) x e = got_mapped f xs k x e

-- ---- the spots of one note

module _ (paths : List Path) (note : Note) (number : ℕ) (m : ℕ) (u : List ℕ) (place : ℕ) (old : ℕ → List ℕ → List ℕ) where
  -- a path that has the note under a text
  pub lies_once : (text : List ℕ) (path : Path) (new : ℕ → List ℕ → List ℕ) → slice_get paths number ≡ Some path → text_on path note ≡ Some text
      → new m u ≡ (if is_spot (number, text) (m, u) then old m u ++ place ∷ [] else old m u)
      → new m u ≡ (if nat_eq number m && lies_at paths m u note then old m u ++ place ∷ [] else old m u)
  lies_once text path new is some put = put ∙ ap (λ b. if b then old m u ++ place ∷ [] else old m u) (go (nat_eq number m) refl)
    where
      here : lies_at paths number u note ≡ bytes_eq text u
      here = ap (lies_by u note) is ∙ ap (is_text u) some

      spot_here : is_spot (number, text) (number, u) ≡ bytes_eq text u
      spot_here = ap (λ o. is_eq (ordering_then o (slice_cmp nat_cmp text u))) (sym (nat_cmp_is number number Equal refl)) ∙ is_eq-slice_cmp text u

      spot_other : (b : Bool) → is_spot (number, text) (m, u) ≡ b → nat_eq number m ≡ false → b ≡ false
      spot_other false s e = refl
      spot_other true s e = absurd (let n : true ≡ false = sym (eq-eqb number m (ap (λ (s : Spot). s.0) (same_spot (number, text) (m, u) s))) ∙ e in cc)

      go : (b : Bool) → nat_eq number m ≡ b → is_spot (number, text) (m, u) ≡ (b && lies_at paths m u note)
      go false e = spot_other (is_spot (number, text) (m, u)) refl e
      go true e = subst (λ j. is_spot (number, text) (j, u) ≡ lies_at paths j u note) (eqb-true number m e) (spot_here ∙ sym here)

-- ---- the places of one note more

pub places_more : (test : Note → Bool) (ns : List Note) (k first : ℕ) (n : Note) → slice_get ns k ≡ Some n
    → places_from test first (take (suc k) ns) ≡ (if test n then places_from test first (take k ns) ++ (first + k) ∷ [] else places_from test first (take k ns))
places_more test [] k first n e = absurd (let x : None ≡ Some n = e in cc)
places_more test (x ∷ ns) zero first n e =
    let s : x ≡ n = cc in
    let z : first ≡ first + 0 = omega arith in
    subst (λ y. (if test x then first ∷ [] else []) ≡ (if test y then (first + 0) ∷ [] else [])) s (ap (λ f. if test x then f ∷ [] else []) z)
places_more test (x ∷ ns) (suc k) first n e =
    let same : suc first + k ≡ first + suc k = omega arith in
    ap (λ (ps : List ℕ). if test x then first ∷ ps else ps)
    (places_more test ns k (suc first) n e ∙ ap (λ j. if test n then places_from test (suc first) (take k ns) ++ j ∷ [] else places_from test (suc first) (take k ns)) same)
    ∙ go (test x) (test n)
  where
    go : (b c : Bool) → (if b then first ∷ (if c then places_from test (suc first) (take k ns) ++ (first + suc k) ∷ [] else places_from test (suc first) (take k ns))
        else (if c then places_from test (suc first) (take k ns) ++ (first + suc k) ∷ [] else places_from test (suc first) (take k ns)))
        ≡ (if c then (if b then first ∷ places_from test (suc first) (take k ns) else places_from test (suc first) (take k ns)) ++ (first + suc k) ∷ [] else (if b then first ∷ places_from test (suc first) (take k ns) else places_from test (suc first) (take k ns)))
    go true true = refl
    go true false = refl
    go false true = refl
    go false false = refl
