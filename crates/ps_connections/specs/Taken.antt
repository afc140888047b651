-- The connections that doors handed out, and why no further one was taken.
use Rattle.std.specs.Prelude.{◌≡◌, ℕ, ◌+◌, ◌≤◌, List, [], ◌++◌, length, Option, Some, None, IfSome}
use Rattle.ps_io.specs.Counts.{Rose}
use Rattle.ps_connections.specs.declared.ended.Stop.{Stop}
use Rattle.ps_connections.specs.declared.ended.Stop.TheVariants.{NoneToCome, Most, NoRoom, Failed}

-- of the connections that are to come, each told by the bytes that its source has, the first so many came
abbrev pub HaveCome : Option (List (List ℕ)) → Option (List (List ℕ)) → ℕ → Type 0
HaveCome None after count = after ≡ None
HaveCome (Some coming) after count =
    (first : List (List ℕ)) × (left : List (List ℕ)) × (coming ≡ first ++ left) × (length first ≡ count) × (after ≡ Some left)

-- why no more than `count` connections were taken: none is to come any more; as many were taken as were wanted; there was no room for a worker; or the doors
-- failed, whose count of faults rises then, and only then
abbrev pub StopsFor : ℕ → ℕ → Option (List (List ℕ)) → ℕ → ℕ → Stop → Type 0
StopsFor most count coming before now NoneToCome = IfSome coming (λ left. left ≡ []) × (now ≡ before)
StopsFor most count coming before now Most = (count ≡ most) × (now ≡ before)
StopsFor most count coming before now NoRoom = now ≡ before
StopsFor most count coming before now Failed = Rose before now

-- so many connections were handed out, at most as many as were wanted, and this is why there were no more
pub record HasTaken (most opened opened' : ℕ) (coming coming' : Option (List (List ℕ))) (before now : ℕ) (stop : Stop) (count : ℕ) : Type 0 where
  pub opened_is : opened' ≡ opened + count
  pub within : count ≤ most
  pub coming_is : HaveCome coming coming' count
  pub stop_is : StopsFor most count coming' before now stop
