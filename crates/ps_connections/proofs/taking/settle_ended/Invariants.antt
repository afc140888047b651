use Rattle.std.proofs.Common.{◌≡◌, length, vec_len}
use Rattle.ps_connections.specs.Workers.{AreSettled}
use Rattle.ps_connections.proofs.taking.settle_ended.Given as goal

abbrev pub invariant-places : goal.invariant-places
invariant-places g l = record {
  length : length l.workers.items ≡ length l.fn.workers.items;
  count : vec_len l.workers ≡ vec_len l.fn.workers;
  settled : AreSettled g.S.Source g.K.Sink g.C.Clock l.fn.workers.items l.workers.items;
}
