-- The definitions at work on small logs, by computing.
use Rattle.std.proofs.Common.{◌≡◌, ℕ, Some, None, List, [], ◌∷◌, refl, codes}
use Rattle.ps_data.specs.declared.ids.OpId.{OpId}
use Rattle.ps_checksum.specs.declared.sums.Sum.{Sum}
use Rattle.ps_bucket_log.specs.declared.ops.Key.{Key}
use Rattle.ps_bucket_log.specs.declared.ops.Op.{Op}
use Rattle.ps_bucket_log.specs.declared.ops.Op.TheVariants.{Put, Remove, Move, Clear}
use Rattle.ps_compact.specs.declared.reports.Report.{Report}
use Rattle.ps_compact.specs.Compaction.{compacted, report_of}

abbrev key_of : List ℕ → Key
key_of id = record { kind = codes "t"; id = id; subkey = id }

abbrev id : ℕ → OpId
id n = record { 0 = n }

abbrev sum : ℕ → Sum
sum n = record { 0 = n }

abbrev put : ℕ → List ℕ → ℕ → Op
put n row s = Put (id n) (key_of row) (codes "{}") (sum s)

abbrev remove : ℕ → List ℕ → ℕ → Op
remove n row s = Remove (id n) (key_of row) (sum s)

abbrev numbers : ℕ → ℕ → ℕ → ℕ → Report
numbers m c b a = record { moved = m; cleared = c; before = b; after = a }

-- put x, put y, put x again, delete y
abbrev written : List Op
written = put 1 (codes "x") 10 ∷ put 2 (codes "y") 4294967290 ∷ put 3 (codes "x") 30 ∷ remove 4 (codes "y") 40 ∷ []

abbrev once : List Op
once = Clear (id 2) (sum 4) (Some (id 4)) ∷ put 3 (codes "x") 30 ∷ remove 4 (codes "y") 40 ∷ []

clear_keeps_its_target : compacted 4 written ≡ once
clear_keeps_its_target = refl

its_numbers : report_of 4 written ≡ numbers 2 2 4 3
its_numbers = refl

again_changes_nothing : report_of 4 once ≡ numbers 0 0 3 3
again_changes_nothing = refl

-- and delete x: all of it becomes one CLEAR, which needs no target
abbrev with_delete : List Op
with_delete = Clear (id 2) (sum 4) (Some (id 4)) ∷ put 3 (codes "x") 30 ∷ remove 4 (codes "y") 40 ∷ remove 5 (codes "x") 50 ∷ []

clear_has_no_target : compacted 5 with_delete ≡ Clear (id 5) (sum 124) None ∷ []
clear_has_no_target = refl

the_clear_is_replaced : report_of 5 with_delete ≡ numbers 1 4 4 1
the_clear_is_replaced = refl

-- put x, put y, put x again: a front of one MOVE stays
a_front_of_one_stays : compacted 3 (put 1 (codes "x") 10 ∷ put 2 (codes "y") 20 ∷ put 3 (codes "x") 30 ∷ [])
    ≡ Move (id 1) (sum 10) (id 3) ∷ put 2 (codes "y") 20 ∷ put 3 (codes "x") 30 ∷ []
a_front_of_one_stays = refl

-- put x, put y, delete x, delete y, put z
abbrev five : List Op
five = put 1 (codes "x") 10 ∷ put 2 (codes "y") 20 ∷ remove 3 (codes "x") 30 ∷ remove 4 (codes "y") 40 ∷ put 5 (codes "z") 50 ∷ []

all_before_the_put_is_cleared : compacted 5 five ≡ Clear (id 4) (sum 100) None ∷ put 5 (codes "z") 50 ∷ []
all_before_the_put_is_cleared = refl

-- what is past the level moves nothing and stays
past_the_level : compacted 2 five ≡ five
past_the_level = refl

at_a_level_between : compacted 3 five
    ≡ Move (id 1) (sum 10) (id 3) ∷ put 2 (codes "y") 20 ∷ remove 3 (codes "x") 30 ∷ remove 4 (codes "y") 40 ∷ put 5 (codes "z") 50 ∷ []
at_a_level_between = refl
