use Rattle.ps_syncing.proofs.LongLines.{five_for_a_long_line}
use Rattle.ps_syncing.proofs.Settling.{five_for_a_length, four_for_no_token, one_for_other_words, three_for_a_line, zero_for_no_cause}
use Rattle.ps_syncing.proofs.laws.statuses_come_exactly_there.Goals as goal

pub returns : goal.returns
returns c = record {
  words = one_for_other_words;
  line = three_for_a_line;
  token = four_for_no_token;
  length = five_for_a_length;
  stream = five_for_a_long_line;
  done = zero_for_no_cause;
}
