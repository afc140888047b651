use Rattle.std.proofs.Common.{◌≡◌, ℕ, ◌+◌, ◌<◌, ◌≤◌, true, false, [], ◌∷◌, ◌++◌, length, ap, sym, ◌∙◌, arith, length-append}
use Rattle.ps_bucket_log.specs.declared.ops.Op.{Op}
use Rattle.ps_bucket_log.specs.Ops.{id_of, size_of}
use Rattle.ps_bucket_log.specs.Batches.{takes_next}
use Rattle.ps_segments.specs.declared.walks.Reading.{Reading}
use Rattle.ps_segments.specs.declared.entries.Entry.{Entry}
use Rattle.ps_segments.proofs.Walking.{past_on, full_on, taken_on, run_over}
use Rattle.ps_segments.proofs.walks.Reading.take.Goals as goal

pub returns-then-upto-id-clause-value : goal.returns-then-upto-id-clause-value
returns-then-upto-id-clause-value g c = λ left rising.
    let inside : c.run.noted-index < length c.args.run.now = omega arith in
    let same : id_of c.noted-item.result.op ≡ c.id.result.0 = ap (λ (e : Entry). id_of e.op) (sym c.look.ensures.entry) ∙ sym c.id.ensures in
    let past : c.args.upto.0 < id_of c.noted-item.result.op = omega (arith, same, c.if-upto-id.true) in
    c.run.invariant.value left rising
    ∙ past_on c.run.self c.args.upto.0 c.run.noted-index c.args.run.now c.noted-item.result left inside c.noted-item.is past rising

pub returns-then-not-has_room-clause-value : goal.returns-then-not-has_room-clause-value
returns-then-not-has_room-clause-value g c = λ left rising.
    let inside : c.run.noted-index < length c.args.run.now = omega arith in
    let same : id_of c.noted-item.result.op ≡ c.id.result.0 = ap (λ (e : Entry). id_of e.op) (sym c.look.ensures.entry) ∙ sym c.id.ensures in
    let low : id_of c.noted-item.result.op ≤ c.args.upto.0 = omega (arith, same, c.if-upto-id.false) in
    let size : c.size-size.result ≡ size_of c.noted-item.result.op = c.size-size.ensures ∙ ap (λ (e : Entry). size_of e.op) c.look.ensures.entry in
    let full : takes_next (length c.run.self.ops) c.run.self.bytes (size_of c.noted-item.result.op) ≡ false =
    ap (λ (n : ℕ). takes_next n c.run.self.bytes (size_of c.noted-item.result.op)) (sym c.len.ensures)
    ∙ ap (λ (n : ℕ). takes_next c.len.result c.run.self.bytes n) (sym size) ∙ sym c.has_room.ensures ∙ c.if-not-has_room.true in
    c.run.invariant.value left rising
    ∙ full_on c.run.self c.args.upto.0 c.run.noted-index c.args.run.now c.noted-item.result left inside c.noted-item.is low full

pub run-preserved : goal.run-preserved
run-preserved g c =
    let inside : c.run.noted-index < length c.args.run.now = omega arith in
    let same : id_of c.noted-item.result.op ≡ c.id.result.0 = ap (λ (e : Entry). id_of e.op) (sym c.look.ensures.entry) ∙ sym c.id.ensures in
    let low : id_of c.noted-item.result.op ≤ c.args.upto.0 = omega (arith, same, c.if-upto-id.false) in
    let size : c.size-size.result ≡ size_of c.noted-item.result.op = c.size-size.ensures ∙ ap (λ (e : Entry). size_of e.op) c.look.ensures.entry in
    let room : takes_next (length c.run.self.ops) c.run.self.bytes (size_of c.noted-item.result.op) ≡ true =
    ap (λ (n : ℕ). takes_next n c.run.self.bytes (size_of c.noted-item.result.op)) (sym c.len.ensures)
    ∙ ap (λ (n : ℕ). takes_next c.len.result c.run.self.bytes n) (sym size) ∙ sym c.has_room.ensures ∙ c.if-not-has_room.false in
    let ops : c.push.new.self ≡ c.run.self.ops ++ c.noted-item.result.op ∷ [] =
    c.in_ok-push.ensures.ok ∙ ap (λ (op : Op). c.run.self.ops ++ op ∷ []) (c.in_ok-copy.ensures ∙ ap (λ (e : Entry). e.op) c.look.ensures.entry) in
    let more : length c.push.new.self ≡ length c.run.self.ops + 1 = ap length ops ∙ length-append c.run.self.ops (c.noted-item.result.op ∷ []) in
    let next : Reading = record { ops = c.push.new.self; bytes = c.run.self.bytes + c.size-size.result } in
    record {
      begun = λ none. absurd (omega (arith, more, none));
      value = λ left rising. c.run.invariant.value left rising
          ∙ taken_on c.run.self next c.args.upto.0 c.run.noted-index c.args.run.now c.noted-item.result left inside c.noted-item.is low room ops
          (ap (λ (n : ℕ). c.run.self.bytes + n) size);
      cost = omega (arith, more, c.look.ensures.counted, c.run.invariant.cost);
    }

pub returns-clause-value : goal.returns-clause-value
returns-clause-value g c = λ left rising.
    c.run.invariant.value left rising ∙ run_over c.run.self c.args.upto.0 c.run.noted-index c.args.run.now left (omega arith)
