use Rattle.std.proofs.Common.{◌≡◌, ◌∷◌, ◌++◌, List, map, subst, rules}
use Rattle.ps_client_log.specs.declared.states.Held.{Held}
use Rattle.ps_client_lines.specs.Images.{held_of}
use Rattle.ps_client_lines.proofs.Listed.{put_next}
use Rattle.ps_client_lines.proofs.images.Image.from_state.Goals as goal

pub entries-preserved-in_ok-insert : goal.entries-preserved-in_ok-insert
entries-preserved-in_ok-insert c =
    let one = c.in-Some.one in
    let rest = c.next.new.self.rest.items in
    let old = c.entries.held.entries in
    let is : c.entries.one-iterator.rest.items ≡ one ∷ rest = search rules in
    put_next c.args.entries old c.insert.new.self.entries one.key (record { id = one.id; content = one.content; sum = one.sum }) rest c.requires
    (subst (λ (left : List Held). map held_of old ++ left ≡ c.args.entries) is c.entries.invariant) c.in_ok-insert.ensures.entries

pub entries-preserved : goal.entries-preserved
entries-preserved c =
    let one = c.in-Some.one in
    let rest = c.next.new.self.rest.items in
    let old = c.entries.held.entries in
    let is : c.entries.one-iterator.rest.items ≡ one ∷ rest = search rules in
    put_next c.args.entries old c.insert.new.self.entries one.key (record { id = one.id; content = one.content; sum = one.sum }) rest c.requires
    (subst (λ (left : List Held). map held_of old ++ left ≡ c.args.entries) is c.entries.invariant) c.in_ok-insert.ensures.entries
