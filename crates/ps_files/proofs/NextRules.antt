-- Loading the next rules.
use Rattle.std.proofs.Common.{ℕ, List, Option, Err, ap}
use Rattle.ps_io.specs.Contents.{Contents}
use Rattle.ps_definitions.specs.RuleSets.{RuleSet}
use Rattle.ps_files.specs.declared.faults.Fault.{Fault}
use Rattle.ps_files.specs.declared.faults.Fault.TheVariants.{Usage, Rules, Change, PastLimit, TooManyBuckets, Claims, Keys, TooLong, CannotRead, CannotWrite, Script, Memory}
use Rattle.ps_files.specs.Loading.{Loads, MissesNamed, FindsRules, IsRulesFault, IsNextFault}
use Rattle.ps_files.specs.RulesFaults.{as_next, of_next}

-- why rules are not loaded, as a fault of the next rules
pub next_stops : (held : Option Contents) (name : List ℕ) (limit before now : ℕ) (fault : Fault) → Loads {X = RuleSet} held name limit before now FindsRules IsRulesFault (Err fault)
    → Loads {X = RuleSet} held name limit before now FindsRules IsNextFault (Err (of_next fault))
next_stops held name limit before now Usage h = h
next_stops held name limit before now (Rules which line column why) h = (h.0, h.1, ap as_next h.2)
next_stops held name limit before now (Change line why) h = absurd h.2
next_stops held name limit before now (PastLimit passed) h = absurd h.2
next_stops held name limit before now (TooManyBuckets count) h = absurd h.2
next_stops held name limit before now Claims h = absurd h.2
next_stops held name limit before now Keys h = absurd h.2
next_stops held name limit before now (TooLong seen) h = h
next_stops held name limit before now (CannotRead file) h = h
next_stops held name limit before now CannotWrite h = h
next_stops held name limit before now (Script place cause) h = h
next_stops held name limit before now Memory h = h

-- and which name could not be read
pub next_misses : (old new : Option (List (List ℕ))) (fault : Fault) → MissesNamed {X = RuleSet} old new (Err fault) → MissesNamed {X = RuleSet} old new (Err (of_next fault))
next_misses old new Usage h = h
next_misses old new (Rules which line column why) h = h
next_misses old new (Change line why) h = h
next_misses old new (PastLimit passed) h = h
next_misses old new (TooManyBuckets count) h = h
next_misses old new Claims h = h
next_misses old new Keys h = h
next_misses old new (TooLong seen) h = h
next_misses old new (CannotRead file) h = h
next_misses old new CannotWrite h = h
next_misses old new (Script place cause) h = h
next_misses old new Memory h = h
