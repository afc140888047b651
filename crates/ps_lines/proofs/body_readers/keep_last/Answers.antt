use Rattle.std.proofs.Common.{◌≡◌, [], ◌∷◌, ◌++◌, true, false, ap, ◌∙◌, nat_cmp}
use Rattle.std.specs.BTreeSet.{contains}
use Rattle.std.specs.Cmp.Lexicographic.{slice_cmp}
use Rattle.std.specs.Option.{option_to_list}
use Rattle.ps_lines.proofs.Kept.{overridden, stays, held_by, not_held}
use Rattle.ps_lines.proofs.body_readers.keep_last.Goals as goal

pub entries-preserved-then-not-branch : goal.entries-preserved-then-not-branch
entries-preserved-then-not-branch c =
    let left = c.pop.new.self.items in
    let more : c.entries.entries.items ≡ left ++ c.in-Some.known ∷ [] = c.pop.ensures.items ∙ ap (λ o. left ++ option_to_list o) c.in-Some.is in
    let is : contains (slice_cmp nat_cmp) c.entries.named c.in_ok-copy.field-0 ≡ true = held_by _ _ c.in_ok-insert.ensures.added c.if-not-branch.true in
    overridden c.args.entries c.entries.entries.items left c.entries.kept.items c.in-Some.known c.in_ok-copy.field-0 c.entries.named c.insert.new.self c.entries.invariant more c.in_ok-copy.ensures c.in_ok-insert.ensures.updates is

pub entries-preserved : goal.entries-preserved
entries-preserved c =
    let left = c.pop.new.self.items in
    let more : c.entries.entries.items ≡ left ++ c.in-Some.known ∷ [] = c.pop.ensures.items ∙ ap (λ o. left ++ option_to_list o) c.in-Some.is in
    let is : contains (slice_cmp nat_cmp) c.entries.named c.in_ok-copy.field-0 ≡ false = not_held _ _ c.in_ok-insert.ensures.added c.if-not-branch.false in
    stays c.args.entries c.entries.entries.items left c.entries.kept.items c.push.new.self.items c.in-Some.known c.in_ok-copy.field-0 c.entries.named c.insert.new.self c.entries.invariant more c.in_ok-copy.ensures c.in_ok-insert.ensures.updates is c.in_ok-push.ensures.items
