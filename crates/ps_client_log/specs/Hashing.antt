-- How the maps of a client hash.
use Rattle.std.specs.Hash.DefaultHasher as sip
use Rattle.std.specs.RandomState.{initial_hasher}
use Rattle.std.specs.declared.hash.DefaultHasher.{DefaultHasher}
use Rattle.ps_client_log.specs.declared.hashing.Hashing.{Hashing}
use Rattle.ps_client_log.specs.declared.hashing.Hashing.TheVariants.{Fixed, Seeded}

-- the hasher that each key begins with: by the seed that everyone knows, or by the one that was drawn
abbrev pub first_hasher : Hashing → DefaultHasher
first_hasher Fixed = sip.initial
first_hasher (Seeded keys) = initial_hasher keys
