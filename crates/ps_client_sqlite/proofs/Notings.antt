-- Changes are noted until they make the new rows of the old ones.
use Rattle.std.proofs.Common.{◌≡◌, ◌≢◌, Bool, true, false, true≢false, not, cond, Decides, List, [], ◌∷◌, ◌++◌, Option, Some, None, IfSome, is_some, All, ◌⊎◌, inl, inr, refl, sym, ap, subst, ◌∙◌}
use Rattle.std.specs.Option.{option_or}
use Rattle.std.specs.List.{AllByRecursion, IsDistinct}
use Rattle.std.specs.Map.{lookup, keys_of, update}
use Rattle.std.proofs.lemmas.List.Sums.{fold_push}
use Rattle.std.proofs.lemmas.List.Elements.{All-push, All-nil}
use Rattle.std.proofs.lemmas.Map.Keys.{IsDistinct-head, IsDistinct-tail}
use Rattle.ps_client_sqlite.specs.Differing.{changed, AreChanges}

module _ {K : Type 0} (eq : K → K → Bool) (same : (a b : K) → Decides (eq a b) (a ≡ b)) where
  itself : (k : K) → eq k k ≡ true
  itself k = (same k k).1 refl

  other_way : (a b : K) → eq a b ≡ false → eq b a ≡ false
  other_way a b apart = by (eq b a) refl
    where
      by : (x : Bool) → eq b a ≡ x → eq b a ≡ false
      by false is = is
      by true is = absurd (true≢false (sym ((same a b).1 (sym ((same b a).0 is))) ∙ apart))

  -- the key is the one that is noted, or what is seen of it is as before
  by_key : (P : K → Type 0) (k : K) → P k → ((at : K) → eq at k ≡ false → eq k at ≡ false → P at) → (at : K) → P at
  by_key P k here there at = by (eq at k) refl
    where
      by : (b : Bool) → eq at k ≡ b → P at
      by true is = subst P (sym ((same at k).0 is)) here
      by false is = there at is (other_way at k is)

module _ {K V : Type 0} (eq : K → K → Bool) where
  -- the rest of the new rows is to be noted, and what is left of the old ones
  pub record Noting (f g : K → Option V) (rest : List (K × V)) (left : K → Option V) (changes : List (K × Option V)) : Type 0 where
    pub ends : (at : K) → option_or (lookup (eq at) rest) (cond (is_some (left at)) None (changed eq f changes at)) ≡ g at
    pub still : (at : K) → IfSome (left at) (λ v. (f at ≡ Some v) × (changed eq f changes at ≡ Some v))
    pub coming : (at : K) → IfSome (lookup (eq at) rest) (λ v. left at ≡ f at)
    pub distinct : IsDistinct eq (keys_of rest)
    pub differ : All (λ c. f c.0 ≢ c.1) changes
    pub new : All (λ c. g c.0 ≡ c.1) changes

  -- what is left is to go
  pub record Dropping (f g : K → Option V) (rest : List (K × V)) (changes : List (K × Option V)) : Type 0 where
    pub ends : (at : K) → cond (is_some (lookup (eq at) rest)) None (changed eq f changes at) ≡ g at
    pub coming : (at : K) → IfSome (lookup (eq at) rest) (λ v. f at ≡ Some v)
    pub distinct : IsDistinct eq (keys_of rest)
    pub differ : All (λ c. f c.0 ≢ c.1) changes
    pub new : All (λ c. g c.0 ≡ c.1) changes

  none_ahead : (k : K) (rest : List (K × V)) → AllByRecursion (λ y. eq k y ≡ false) (keys_of rest) → lookup (eq k) rest ≡ None
  none_ahead k [] apart = refl
  none_ahead k (e ∷ rest) apart = ap (λ b. cond b (Some e.1) (lookup (eq k) rest)) apart.0 ∙ none_ahead k rest apart.1

  changed_push : (f : K → Option V) (changes : List (K × Option V)) (k : K) (w : Option V) (at : K)
      → changed eq f (changes ++ (k, w) ∷ []) at ≡ cond (eq k at) w (changed eq f changes at)
  changed_push f changes k w at = ap (λ (h : K → Option V). h at) (fold_push (λ (seen : K → Option V) (c : K × Option V). update eq seen c.0 c.1) f changes (k, w))

  -- what is noted of a key: nothing where it has the value, and else that it comes to have it
  abbrev pub Made : (K → Option V) → K → V → List (K × Option V) → List (K × Option V) → Type 0
  Made left k v changes next = ((left k ≡ Some v) × (next ≡ changes)) ⊎ ((left k ≢ Some v) × (next ≡ changes ++ (k, Some v) ∷ []))

  taken_or : (seen : Option V) (v : V) → seen ≡ Some v → (later : Option V) → option_or seen later ≡ Some v
  taken_or seen v is later = ap (λ o. option_or o later) is

  kept_or : (o : Option V) → cond (is_some o) None o ≡ None
  kept_or None = refl
  kept_or (Some v) = refl

  started : (found : Option V) (was now : Option V) → found ≡ now → option_or found (cond (is_some was) None was) ≡ now
  started None was now is = kept_or was ∙ is
  started (Some v) was now is = is

  held_so : (was : Option V) → IfSome was (λ v. (was ≡ Some v) × (was ≡ Some v))
  held_so None = tt
  held_so (Some v) = (refl, refl)

  if_any : (found : Option V) (P : Type 0) → P → IfSome found (λ v. P)
  if_any None P p = tt
  if_any (Some v) P p = p

  pub Noting-start : (f g : K → Option V) (rest : List (K × V)) (left : K → Option V) → ((at : K) → left at ≡ f at) → ((at : K) → lookup (eq at) rest ≡ g at)
      → IsDistinct eq (keys_of rest) → Noting f g rest left []
  Noting-start f g rest left old new distinct = record {
    ends = λ at. ap (λ o. option_or (lookup (eq at) rest) (cond (is_some o) None (f at))) (old at) ∙ started (lookup (eq at) rest) (f at) (g at) (new at);
    still = λ at. subst (λ o. IfSome o (λ v. (f at ≡ Some v) × (f at ≡ Some v))) (sym (old at)) (held_so (f at));
    coming = λ at. if_any (lookup (eq at) rest) (left at ≡ f at) (old at);
    distinct = distinct;
    differ = All-nil (λ (c : K × Option V). f c.0 ≢ c.1);
    new = All-nil (λ (c : K × Option V). g c.0 ≡ c.1);
  }

  pub Dropping-start : (f g : K → Option V) (left : K → Option V) (rest : List (K × V)) (changes : List (K × Option V)) → Noting f g [] left changes
      → ((at : K) → lookup (eq at) rest ≡ left at) → IsDistinct eq (keys_of rest) → Dropping f g rest changes
  Dropping-start f g left rest changes noted is distinct = record {
    ends = λ at. ap (λ o. cond (is_some o) None (changed eq f changes at)) (is at) ∙ noted.ends at;
    coming = λ at. subst (λ o. IfSome o (λ v. f at ≡ Some v)) (sym (is at)) (first (left at) (f at) _ (noted.still at));
    distinct = distinct;
    differ = noted.differ;
    new = noted.new;
  }
    where
      first : (o was now : Option V) → IfSome o (λ v. (was ≡ Some v) × (now ≡ Some v)) → IfSome o (λ v. was ≡ Some v)
      first None was now h = tt
      first (Some v) was now h = h.0

  pub Dropping-end : (f g : K → Option V) (changes : List (K × Option V)) → Dropping f g [] changes → AreChanges eq f g changes
  Dropping-end f g changes done = record { reached = done.ends; differ = done.differ; written = done.new }

  module _ (same : (a b : K) → Decides (eq a b) (a ≡ b)) where
    is_there : (k : K) (v : V) (rest : List (K × V)) → lookup (eq k) ((k, v) ∷ rest) ≡ Some v
    is_there k v rest = ap (λ b. cond b (Some v) (lookup (eq k) rest)) (itself eq same k)

    is_further : (at k : K) (v : V) (rest : List (K × V)) → eq at k ≡ false → lookup (eq at) ((k, v) ∷ rest) ≡ lookup (eq at) rest
    is_further at k v rest apart = ap (λ b. cond b (Some v) (lookup (eq at) rest)) apart

    pub Noting-step : (f g : K → Option V) (k : K) (v : V) (rest : List (K × V)) (left later : K → Option V) (changes next : List (K × Option V))
        → Noting f g ((k, v) ∷ rest) left changes → ((at : K) → later at ≡ cond (eq k at) None (left at))
        → Made left k v changes next
        → Noting f g rest later next
    Noting-step f g k v rest left later changes next was gone made =
        let ahead : lookup (eq k) rest ≡ None = none_ahead k rest (IsDistinct-head eq k (keys_of rest) was.distinct) in
        let now : g k ≡ Some v = sym (was.ends k) ∙ ap (λ o. option_or o (cond (is_some (left k)) None (changed eq f changes k))) (is_there k v rest) in
        let none : later k ≡ None = gone k ∙ ap (λ b. cond b None (left k)) (itself eq same k) in
        let has : changed eq f next k ≡ Some v = at_key made in
        record {
          ends = by_key eq same (λ at. option_or (lookup (eq at) rest) (cond (is_some (later at)) None (changed eq f next at)) ≡ g at) k
              (ap (λ o. option_or o (cond (is_some (later k)) None (changed eq f next k))) ahead ∙ ap (λ o. cond (is_some o) None (changed eq f next k)) none ∙ has ∙ sym now)
              (λ at to from. ap (λ o. option_or o (cond (is_some (later at)) None (changed eq f next at))) (sym (is_further at k v rest to))
              ∙ ap (λ o. option_or (lookup (eq at) ((k, v) ∷ rest)) (cond (is_some o) None (changed eq f next at))) (elsewhere at from)
              ∙ ap (λ o. option_or (lookup (eq at) ((k, v) ∷ rest)) (cond (is_some (left at)) None o)) (unmoved at from made) ∙ was.ends at);
          still = by_key eq same (λ at. IfSome (later at) (λ w. (f at ≡ Some w) × (changed eq f next at ≡ Some w))) k
              (subst (λ o. IfSome o (λ w. (f k ≡ Some w) × (changed eq f next k ≡ Some w))) (sym none) tt)
              (λ at to from. subst (λ o. IfSome o (λ w. (f at ≡ Some w) × (changed eq f next at ≡ Some w))) (sym (elsewhere at from))
              (subst (λ c. IfSome (left at) (λ w. (f at ≡ Some w) × (c ≡ Some w))) (sym (unmoved at from made)) (was.still at)));
          coming = by_key eq same (λ at. IfSome (lookup (eq at) rest) (λ w. later at ≡ f at)) k
              (subst (λ o. IfSome o (λ w. later k ≡ f k)) (sym ahead) tt)
              (λ at to from. subst (λ l. IfSome (lookup (eq at) rest) (λ w. l ≡ f at)) (sym (elsewhere at from))
              (subst (λ o. IfSome o (λ w. left at ≡ f at)) (is_further at k v rest to) (was.coming at)));
          distinct = IsDistinct-tail eq k (keys_of rest) was.distinct;
          differ = all_differ made;
          new = all_new now made;
        }
      where
        elsewhere : (at : K) → eq k at ≡ false → later at ≡ left at
        elsewhere at from = gone at ∙ ap (λ b. cond b None (left at)) from

        unmoved : (at : K) → eq k at ≡ false → Made left k v changes next → changed eq f next at ≡ changed eq f changes at
        unmoved at from (inl m) = ap (λ cs. changed eq f cs at) m.1
        unmoved at from (inr m) = ap (λ cs. changed eq f cs at) m.1 ∙ changed_push f changes k (Some v) at ∙ ap (λ b. cond b (Some v) (changed eq f changes at)) from

        at_key : Made left k v changes next → changed eq f next k ≡ Some v
        at_key (inl m) = ap (λ cs. changed eq f cs k) m.1 ∙ (subst (λ o. IfSome o (λ w. (f k ≡ Some w) × (changed eq f changes k ≡ Some w))) m.0 (was.still k)).1
        at_key (inr m) = ap (λ cs. changed eq f cs k) m.1 ∙ changed_push f changes k (Some v) k ∙ ap (λ b. cond b (Some v) (changed eq f changes k)) (itself eq same k)

        as_was : left k ≡ f k
        as_was = subst (λ o. IfSome o (λ w. left k ≡ f k)) (is_there k v rest) (was.coming k)

        all_differ : Made left k v changes next → All (λ (c : K × Option V). f c.0 ≢ c.1) next
        all_differ (inl m) = subst (All (λ (c : K × Option V). f c.0 ≢ c.1)) (sym m.1) was.differ
        all_differ (inr m) = subst (All (λ (c : K × Option V). f c.0 ≢ c.1)) (sym m.1) (All-push (λ (c : K × Option V). f c.0 ≢ c.1) changes (k, Some v) was.differ (λ is. m.0 (as_was ∙ is)))

        all_new : g k ≡ Some v → Made left k v changes next → All (λ (c : K × Option V). g c.0 ≡ c.1) next
        all_new now (inl m) = subst (All (λ (c : K × Option V). g c.0 ≡ c.1)) (sym m.1) was.new
        all_new now (inr m) = subst (All (λ (c : K × Option V). g c.0 ≡ c.1)) (sym m.1) (All-push (λ (c : K × Option V). g c.0 ≡ c.1) changes (k, Some v) was.new now)

    pub Dropping-step : (f g : K → Option V) (k : K) (v : V) (rest : List (K × V)) (changes : List (K × Option V))
        → Dropping f g ((k, v) ∷ rest) changes → Dropping f g rest (changes ++ (k, None) ∷ [])
    Dropping-step f g k v rest changes was =
        let ahead : lookup (eq k) rest ≡ None = none_ahead k rest (IsDistinct-head eq k (keys_of rest) was.distinct) in
        let now : g k ≡ None = sym (was.ends k) ∙ ap (λ o. cond (is_some o) None (changed eq f changes k)) (is_there k v rest) in
        let had : f k ≡ Some v = subst (λ o. IfSome o (λ w. f k ≡ Some w)) (is_there k v rest) (was.coming k) in
        let gone : changed eq f (changes ++ (k, None) ∷ []) k ≡ None = changed_push f changes k None k ∙ ap (λ b. cond b None (changed eq f changes k)) (itself eq same k) in
        record {
          ends = by_key eq same (λ at. cond (is_some (lookup (eq at) rest)) None (changed eq f (changes ++ (k, None) ∷ []) at) ≡ g at) k
              (ap (λ o. cond (is_some o) None (changed eq f (changes ++ (k, None) ∷ []) k)) ahead ∙ gone ∙ sym now)
              (λ at to from. ap (λ o. cond (is_some o) None (changed eq f (changes ++ (k, None) ∷ []) at)) (sym (is_further at k v rest to))
              ∙ ap (λ o. cond (is_some (lookup (eq at) ((k, v) ∷ rest))) None o) (changed_push f changes k None at ∙ ap (λ b. cond b None (changed eq f changes at)) from) ∙ was.ends at);
          coming = by_key eq same (λ at. IfSome (lookup (eq at) rest) (λ w. f at ≡ Some w)) k
              (subst (λ o. IfSome o (λ w. f k ≡ Some w)) (sym ahead) tt)
              (λ at to from. subst (λ o. IfSome o (λ w. f at ≡ Some w)) (is_further at k v rest to) (was.coming at));
          distinct = IsDistinct-tail eq k (keys_of rest) was.distinct;
          differ = All-push (λ (c : K × Option V). f c.0 ≢ c.1) changes (k, None) was.differ (λ is. some_none v (sym had ∙ is));
          new = All-push (λ (c : K × Option V). g c.0 ≡ c.1) changes (k, None) was.new now;
        }
      where
        some_none : (v : V) → Some v ≢ None
        some_none v is = absurd (cc)

pub told_false : (b : Bool) → not b ≡ true → b ≡ false
told_false false is = refl
told_false true is = sym is

pub told_true : (b : Bool) → not b ≡ false → b ≡ true
told_true false is = sym is
told_true true is = refl
