use Rattle.std.proofs.Common.{◌≡◌, ◌++◌, map}
use Rattle.ps_bucket_eval.specs.Solving.{made_in}
use Rattle.ps_bucket_eval.proofs.placing.push_copies.Given as goal

-- the entries so far, and the buckets that are left
abbrev pub invariant-buckets : goal.invariant-buckets
invariant-buckets l = l.fn.placed ++ map (made_in l.planned l.object l.subkey l.content) l.fn.buckets.keys ≡ l.placed ++ map (made_in l.planned l.object l.subkey l.content) l.bucket-iterator
