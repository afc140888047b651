-- The names that are found from branches, in order, are the buckets.
use Rattle.std.proofs.Common.{[], map, inl, inr}
use Rattle.std.specs.Prelude.{flat_map, ◌⊎◌}
use Rattle.std.specs.Ordering.{nat_cmp}
use Rattle.std.specs.Cmp.Lexicographic.{slice_cmp, nat_list_cmp_total}
use Rattle.std.proofs.lemmas.Map.Lookups.{exact_bytes}
use Rattle.ps_definitions.specs.Buckets.{bucket_name_of, in_order}
use Rattle.ps_bucket_eval.specs.Shown.{alone}
use Rattle.ps_bucket_eval.specs.Vectors.{holding}
use Rattle.ps_bucket_eval.specs.Entries.{buckets_of}
use Rattle.ps_bucket_eval.specs.Solving.{inserted, branch_names, SolvesBuckets, HasPlainSides}
use Rattle.ps_data.proofs.Rising.{same_risen}
use Rattle.ps_definitions.proofs.NamesInOrder.{in_order_rises, has_in_order, from_in_order}
use Rattle.ps_bucket_eval.proofs.Sets.{inserted_rises, has_inserted, from_inserted}
use Rattle.ps_bucket_eval.proofs.Solutions.{BranchLaws, solvable, no_sides, found_holding, holding_found}

pub solves : BranchLaws → SolvesBuckets
unfolding buckets_of
solves laws definition source planned differ sound =
    let found = flat_map (branch_names (alone source.id source.row) definition.name definition.names) planned.branches in
    let held = map (bucket_name_of definition.name) (holding source.id source.row definition.names planned) in
    let ok = solvable laws definition.names planned differ sound in
    same_risen (slice_cmp nat_cmp) nat_list_cmp_total exact_bytes (inserted [] found) (in_order held) (inserted_rises [] found tt) (in_order_rises held)
    (λ q h. has_in_order held q (from_left (from_inserted [] found q h)
    (found_holding laws source.id source.row definition.names planned ok sound.branches definition.name q)))
    (λ q h. has_inserted [] found q (inr (holding_found laws source.id source.row definition.names planned ok sound.branches definition.name q (from_in_order held q h))))
  where
    from_left : {A B : Type 0} → ◌⊎◌ ⊥ A → (A → B) → B
    from_left (inl n) f = absurd n
    from_left (inr a) f = f a

pub plain_sides : BranchLaws → HasPlainSides
plain_sides laws names planned differ sound = no_sides names planned.branches (solvable laws names planned differ sound)
