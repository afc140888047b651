-- Names that rise one after another are in order.
use Rattle.std.proofs.Common.{Bool, true, false, List, [], ◌∷◌}
use Rattle.std.specs.Bool.{OnTrue}
use Rattle.std.specs.List.Sorted.{IsStrictlySortedBy}
use Rattle.ps_bucket_log.specs.declared.takes.TakenBucket.{TakenBucket}
use Rattle.ps_session.specs.Takes.{NamesRise}
use Rattle.part_cases.specs.Rising.{RiseOn}

rise : (bs : List TakenBucket) → RiseOn bs → NamesRise bs
unfolding IsStrictlySortedBy
rise [] on = tt
rise (b ∷ bs) on = (on.0, rise bs on.1)

pub rise_where : (r : Bool) (bs : List TakenBucket) → OnTrue r (RiseOn bs) → OnTrue r (NamesRise bs)
rise_where true bs on = rise bs on
rise_where false bs on = tt
