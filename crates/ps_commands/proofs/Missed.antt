-- Which names could not be read.
use Rattle.std.proofs.Common.{◌≡◌, List, ℕ, Option, Result, Ok, Err, subst}
use Rattle.ps_files.specs.declared.faults.Fault.{Fault}
use Rattle.ps_files.specs.declared.faults.Fault.TheVariants.{Usage, Rules, Change, PastLimit, TooManyBuckets, Claims, Keys, TooLong, CannotRead, CannotWrite, Script, Memory}
use Rattle.ps_files.specs.Loading.{MissesNamed}
use Rattle.ps_commands.specs.Replaying.{Game, PlaysOut}
use Rattle.ps_commands.specs.Replays.{Output}

-- what was missed later was missed since, where nothing was before
pub misses_later : {X : Type 0} (old mid new : Option (List (List ℕ))) (result : Result X Fault) → mid ≡ old → MissesNamed mid new result → MissesNamed old new result
misses_later old mid new result same h = subst (λ (names : Option (List (List ℕ))). MissesNamed names new result) same h

-- playing a script reads no file
pub plays_unread : (game : Game) (out : Output) (old new : Option (List (List ℕ))) (result : Result (Unit {0}) Fault) → new ≡ old → PlaysOut game out result → MissesNamed old new result
plays_unread game out old new (Ok done) same p = same
plays_unread game out old new (Err Usage) same p = absurd p
plays_unread game out old new (Err (Rules which line column why)) same p = absurd p
plays_unread game out old new (Err (Change line why)) same p = absurd p
plays_unread game out old new (Err (PastLimit limit)) same p = absurd p
plays_unread game out old new (Err (TooManyBuckets count)) same p = absurd p
plays_unread game out old new (Err Claims) same p = absurd p
plays_unread game out old new (Err Keys) same p = absurd p
plays_unread game out old new (Err (TooLong seen)) same p = absurd p
plays_unread game out old new (Err (CannotRead name)) same p = absurd p
plays_unread game out old new (Err CannotWrite) same p = same
plays_unread game out old new (Err (Script line why)) same p = same
plays_unread game out old new (Err Memory) same p = same
