use Rattle.std.proofs.Common.{◌≡◌, ℕ, List, drop}
use Rattle.std.specs.Option.{option_or, option_map}
use Rattle.std.specs.BTreeMap.{get}
use Rattle.std.specs.Cmp.Lexicographic.{slice_cmp}
use Rattle.std.specs.Ordering.{nat_cmp}
use Rattle.ps_session.specs.Sessions.{known_in}
use Rattle.ps_session.proofs.Seats.{number_of}
use Rattle.ps_session.proofs.places.known_by_name.Given as goal

-- what is noted so far, and what is still to come
abbrev pub invariant-known : goal.invariant-known
invariant-known l = (name : List ℕ) → option_or (known_in (drop l.one-index l.known) name) (option_map number_of (get (slice_cmp nat_cmp) l.map name)) ≡ known_in l.known name
