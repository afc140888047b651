-- The connections that are to come, as they come.
use Rattle.std.proofs.Common.{◌≡◌, ℕ, ◌+◌, List, [], ◌∷◌, ◌++◌, Option, Some, None, Ok, sym, ap, ◌∙◌, arith, append_assoc, length-append, Err, IfSome, refl}
use Rattle.ps_io.specs.declared.outputs.Failed.{Failed}
use Rattle.ps_io.specs.declared.sources.Source as Source
use Rattle.ps_doors.specs.Doors.{Comes}
use Rattle.ps_connections.specs.Taken.{HaveCome}

module _ {S K : Type 0} (g : Source.Ghosts S) where
  -- one more
  pub one_came : (before now then : Option (List (List ℕ))) (count : ℕ) (ends : S × K) → HaveCome before now count → Comes g now then (Ok (Some ends))
      → HaveCome before then (count + 1)
  one_came None None then count ends have comes = comes
  one_came None (Some now) then count ends have comes = cc
  one_came (Some all) None then count ends have comes = cc (have.4)
  one_came (Some all) (Some []) then count ends have comes = absurd comes
  one_came (Some all) (Some (bytes ∷ rest)) then count ends have comes =
      let left : have.1 ≡ bytes ∷ rest = cc (have.4) in (
        have.0 ++ bytes ∷ [],
        rest,
        have.2 ∙ ap (λ w. have.0 ++ w) left ∙ sym (append_assoc have.0 (bytes ∷ []) rest),
        omega (arith, length-append have.0 (bytes ∷ []), have.3),
        comes.0,
      )

-- none is to come
pub no_more : {S : Type 0} (K : Type 0) (g : Source.Ghosts S) (before now then : Option (List (List ℕ))) (count : ℕ) → HaveCome before now count → Comes {S = S} {K = K} g now then (Ok None)
    → HaveCome before then count × IfSome then (λ left. left ≡ [])
no_more K g None None None count have comes = (refl, tt)
no_more K g None None (Some then) count have comes = cc
no_more K g None (Some now) then count have comes = cc
no_more K g (Some all) None then count have comes = cc (have.4)
no_more K g (Some all) (Some []) None count have comes = cc
no_more K g (Some all) (Some []) (Some then) count have comes =
    let left : have.1 ≡ [] = cc (have.4) in
    let none : then ≡ [] = cc in
    ((have.0, then, have.2 ∙ ap (λ w. have.0 ++ w) (left ∙ sym none), have.3, refl), none)
no_more K g (Some all) (Some (bytes ∷ rest)) then count have comes = absurd comes

-- the doors failed
pub no_change : {S : Type 0} (K : Type 0) (g : Source.Ghosts S) (before now then : Option (List (List ℕ))) (count : ℕ) (fault : Failed) → HaveCome before now count
    → Comes {S = S} {K = K} g now then (Err fault) → HaveCome before then count
no_change K g None None then count fault have comes = comes
no_change K g None (Some now) then count fault have comes = cc
no_change K g (Some all) None then count fault have comes = cc (have.4)
no_change K g (Some all) (Some now) then count fault have comes = (have.0, have.1, have.2, have.3, comes ∙ have.4)
