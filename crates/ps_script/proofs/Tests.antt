-- Tests and what follows from them.
use Rattle.std.proofs.Common.{◌≡◌, Bool, true, false, cond, Option, Some, None, refl}
use Rattle.std.specs.Prelude.{◌&&◌}

pub both : (a b : Bool) → a && b ≡ true → (a ≡ true) × (b ≡ true)
both true b h = (refl, h)
both false b h = absurd (cc)

-- what is there only where a test holds
pub held : {X : Type 0} (b : Bool) (o : Option X) (x : X) → cond b o None ≡ Some x → (b ≡ true) × (o ≡ Some x)
held true o x h = (refl, h)
held false o x h = absurd (cc)

-- one of two, by a test
pub choose : {X P : Type 0} (b : Bool) (o other : Option X) (x : X) → cond b o other ≡ Some x → (b ≡ true → o ≡ Some x → P) → (other ≡ Some x → P) → P
choose true o other x h here there = here refl h
choose false o other x h here there = there h
