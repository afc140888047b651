use Rattle.ps_store.proofs.CourseReadings.{uploads_covered, numbers_low, uploads_fed}
use Rattle.ps_store.proofs.laws.uploads_are_covered.Goals as goal

pub returns : goal.returns
returns c = record {
  covered = λ rules history asker n upload legal is.
      uploads_covered c.standing_logs_stay_standing.ensures.grown c.standing_logs_stay_standing.ensures.later c.standing_logs_stay_standing.ensures.untouched c.compacted_logs_stand.ensures
      rules history asker n legal c.covered_is_the_greatest.ensures c.covers_all_before.ensures upload is;
  low = λ rules history asker n legal.
      numbers_low c.standing_logs_stay_standing.ensures.grown c.standing_logs_stay_standing.ensures.later c.standing_logs_stay_standing.ensures.untouched c.compacted_logs_stand.ensures
      rules history asker n legal c.covered_is_the_greatest.ensures;
  fed = λ rules front back asker client t own legal is.
      uploads_fed c.standing_logs_stay_standing.ensures.grown c.standing_logs_stay_standing.ensures.later c.standing_logs_stay_standing.ensures.untouched c.compacted_logs_stand.ensures
      rules front back asker client t own legal is;
}
