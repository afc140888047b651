-- The definitions at work on small logs, by computing.
use Rattle.std.proofs.Common.{◌≡◌, Option, ℕ, true, false, ◌&&◌, ◌||◌, inl, Some, None, List, [], ◌∷◌, refl, sym, ◌∙◌, codes, arith}
use Rattle.std.proofs.lemmas.Bool.{or_parts}
use Rattle.std.proofs.Math.Bool.{and-true}
use Rattle.ps_data.specs.declared.ids.OpId.{OpId}
use Rattle.ps_checksum.specs.declared.sums.Sum.{Sum}
use Rattle.ps_bucket_log.specs.declared.ops.Key.{Key}
use Rattle.ps_bucket_log.specs.declared.ops.Op.{Op}
use Rattle.ps_bucket_log.specs.declared.ops.Op.TheVariants.{Put, Remove, Clear}
use Rattle.ps_bucket_log.specs.Ops.{same_key, upto, sum_of}
use Rattle.ps_bucket_log.specs.Buckets.{Bucket, bucket_of}
use Rattle.ps_bucket_log.specs.Batches.{batch_of}
use Rattle.ps_bucket_log.specs.Standing.{StandsFor, IsHonest, IsHonestUpTo}

abbrev key_of : List ℕ → Key
key_of id = record { kind = codes "t"; id = id; subkey = id }

abbrev id : ℕ → OpId
id n = record { 0 = n }

abbrev sum : ℕ → Sum
sum n = record { 0 = n }

abbrev put : ℕ → List ℕ → ℕ → Op
put n row s = Put (id n) (key_of row) (codes "{}") (sum s)

abbrev remove : ℕ → List ℕ → ℕ → Op
remove n row s = Remove (id n) (key_of row) (sum s)

-- put x, put y, put x again, delete y
abbrev written : List Op
written = put 1 (codes "x") 10 ∷ put 2 (codes "y") 4294967290 ∷ put 3 (codes "x") 30 ∷ remove 4 (codes "y") 40 ∷ []

-- the same, compacted: the first two became a CLEAR, which 4 puts right
abbrev cleared_log : List Op
cleared_log = Clear (id 2) (sum 4) (Some (id 4)) ∷ put 3 (codes "x") 30 ∷ remove 4 (codes "y") 40 ∷ []

the_sum_wraps : sum_of (upto 2 written) ≡ 4
the_sum_wraps = refl

x_is_held_at_its_last_put : (bucket_of written).held (key_of (codes "x")) ≡ Some (put 3 (codes "x") 30)
x_is_held_at_its_last_put = refl

y_is_removed : (bucket_of written).held (key_of (codes "y")) ≡ None
y_is_removed = refl

y_is_held_before : (bucket_of (upto 3 written)).held (key_of (codes "y")) ≡ Some (put 2 (codes "y") 4294967290)
y_is_held_before = refl

a_clear_begins_anew : (bucket_of (upto 2 cleared_log)).held (key_of (codes "y")) ≡ None
a_clear_begins_anew = refl

totals_agree : (bucket_of cleared_log).total ≡ (bucket_of written).total
totals_agree = refl

-- a reader that asks up to 1 learns of the CLEAR at 2, and of nothing else
the_clear_is_passed : batch_of 0 1 cleared_log ≡ record { ops = []; has_more = false; target = None; passed = Some (id 2) }
the_clear_is_passed = refl

-- a reader that asks up to 3 is told that only 4 puts right what it reads
the_target_is_past_what_was_asked : (batch_of 0 3 cleared_log).target ≡ Some (id 4)
the_target_is_past_what_was_asked = refl

a_read_begins_past_its_first_id : (batch_of 2 4 cleared_log).ops ≡ put 3 (codes "x") 30 ∷ remove 4 (codes "y") 40 ∷ []
a_read_begins_past_its_first_id = refl

-- the compacted log stands for what was written, at level 4
the_cleared_log_stands : StandsFor cleared_log written 4
the_cleared_log_stands = record {
  one_clear = refl;
  front = record {
    within = omega arith;
    known = refl;
    reach = omega arith;
    sum = refl;
    gone = λ key none.
        let x = same_key key (key_of (codes "x")) in
        let y = same_key key (key_of (codes "y")) in
        let parts = or_parts (x && true) ((y && true) || false) none in
        let not_x : x ≡ false = sym (and-true x) ∙ parts.0 in
        let not_y : y ≡ false = sym (and-true y) ∙ (or_parts (y && true) false parts.1).0 in
        rw (not_y, not_x) refl;
  };
  pairs = (inl refl, (inl refl, tt));
}

-- who took the CLEAR alone is honest up to 4, since both keys have operations behind it
abbrev begun : Bucket
begun = bucket_of (upto 2 cleared_log)

begun_is_honest_up_to_4 : IsHonest begun written 4
begun_is_honest_up_to_4 = record {
  reached = omega arith;
  total = refl;
  keys = λ key none. sym (the_cleared_log_stands.front.gone key none);
}

-- and not up to 3, since it lacks y, which 4 alone puts right
begun_is_not_honest_up_to_3 : IsHonestUpTo begun written 4 3 → ⊥
begun_is_not_honest_up_to_3 honest =
    let nothing : Option Op = None in
    let lacks : nothing ≡ Some (put 2 (codes "y") 4294967290) = honest.keys (key_of (codes "y")) refl in
    cc
