-- The head that the parser found is the one that is read.
use Rattle.std.proofs.Common.{◌≤◌, ◌∙◌, sym, ap, arith, length, drop, take}
use Rattle.std.proofs.lemmas.List.{length-map, length-take}
use Rattle.httparse.specs.Spans.{header_bytes, name_and_value}
use Rattle.ps_http.proofs.takings.judge.Goals as goal

pub returns-in_ok-read_parts-in-Ok-Complete : goal.returns-in_ok-read_parts-in-Ok-Complete
returns-in_ok-read_parts-in-Ok-Complete c =
    let at = rw c.in-Ok-Complete.field-0-is at c.in-Ok-Complete.ensures.complete in
    let within = rw c.in-Ok-Complete.field-0-is at c.in-Ok-Complete.ensures.within in
    let few : length at.0.fields ≤ 64 = omega (arith, ap length at.1.fields, length-map at.0.fields name_and_value, length-map (take c.in-Ok-Complete.spans.headers c.parse_request.new.headers) (header_bytes c.args.bytes.now), length-take c.in-Ok-Complete.spans.headers c.parse_request.new.headers, within.section.count_fits, c.parse_request.auto.headers) in (
      at.0,
      drop c.in-Ok-Complete.spans.len c.args.bytes.now,
      at.1.reads,
      (
        few,
        c.in_ok-read_parts-in-Ok-Complete.ensures at.0 (sym at.1.method ∙ sym c.of-method.ensures) (sym at.1.path ∙ sym c.of-target.ensures) (sym at.1.fields),
      ),
    )
