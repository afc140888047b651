use Rattle.ps_syncing.proofs.Causing.{altered_at_thirteen, done_at_zero, limit_at_five, line_at_three, lost_at_ten, no_words_at_one, status_at_twelve, token_at_four, unanswered_at_eleven, unread_at_six, unwritten_at_seven}
use Rattle.ps_syncing.proofs.laws.statuses_have_their_causes.Goals as goal

pub returns : goal.returns
returns c = record {
  done = done_at_zero;
  words = no_words_at_one;
  line = line_at_three;
  token = token_at_four;
  limit = limit_at_five;
  unread = unread_at_six;
  unwritten = unwritten_at_seven;
  lost = lost_at_ten;
  unanswered = unanswered_at_eleven;
  status = status_at_twelve;
  altered = altered_at_thirteen;
}
