use Rattle.ps_bucket_log.proofs.Fronts.{batch_rises, reads_longest_front, batches_are_the_log}
use Rattle.ps_bucket_log.proofs.Entries.{reads_on, target_within_level}
use Rattle.ps_bucket_log.proofs.laws.batches_are_the_log.Goals as goal

pub returns-clause-longest : goal.returns-clause-longest
returns-clause-longest c = reads_longest_front

pub returns-clause-together : goal.returns-clause-together
returns-clause-together c = batches_are_the_log

pub returns-clause-on : goal.returns-clause-on
returns-clause-on c = reads_on

pub returns-clause-rising : goal.returns-clause-rising
returns-clause-rising c = batch_rises

pub returns-clause-target : goal.returns-clause-target
returns-clause-target c = target_within_level
