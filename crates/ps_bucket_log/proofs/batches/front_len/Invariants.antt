use Rattle.std.proofs.Common.{◌≡◌, ◌++◌, take, drop}
use Rattle.ps_bucket_log.specs.Batches.{front_of}
use Rattle.ps_bucket_log.proofs.batches.front_len.Given as goal

-- the operations so far, and what is taken of those behind them, are what is taken of all
abbrev pub invariant-asked : goal.invariant-asked
invariant-asked g l = record {
  begun : l.count ≡ 0 → l.bytes ≡ 0;
  taken : take l.count l.asked ++ front_of l.count l.bytes (drop l.count l.asked) ≡ front_of 0 0 l.asked;
}
