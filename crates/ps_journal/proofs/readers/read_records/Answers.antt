use Rattle.std.proofs.Common.{◌<◌, ◌^◌, [], ◌∷◌, ◌++◌, length, sym, ◌∙◌, arith}
use Rattle.std.proofs.lemmas.List.Elements.{All-nil, All-push}
use Rattle.ps_journal.specs.Records.{IsRecord}
use Rattle.ps_journal.proofs.Shapes.{length-front, length-front_push}
use Rattle.ps_journal.proofs.Reading.{are_push}
use Rattle.ps_journal.proofs.Loading.{begins, ends, damaged, goes_on, none_from_frame, none_from_record, left_length}
use Rattle.ps_journal.proofs.readers.read_records.Goals as goal

pub gates-init : goal.gates-init
gates-init c = record {
  some = omega (arith, c.split_at.ensures.back_len, c.requires.long);
  small = omega (arith, c.split_at.ensures.back_len);
  valid = rw c.new-records.ensures.items (All-nil IsRecord);
  read = (
    [],
    begins c.args.content.now c.split_at.result.0.now c.split_at.result.1.now c.split_at.ensures.front c.split_at.ensures.back (c.is_header.ensures.0 c.if-not-is_header.false),
    rw c.new-records.ensures.items tt,
    omega (arith, length-front []),
  );
}

pub returns-then-rest-ne1-clause-reads : goal.returns-then-rest-ne1-clause-reads
returns-then-rest-ne1-clause-reads c =
    let i = c.gates.invariant in (i.read.0, ends c.args.content.now c.gates.rest.now i.read.0 i.some c.if-rest-ne1.true i.read.1, i.read.2, i.read.3)

pub returns-in_default-clause-reads : goal.returns-in_default-clause-reads
returns-in_default-clause-reads c =
    let i = c.gates.invariant in (
      c.requires.small,
      c.requires.long,
      damaged c.args.content.now c.gates.rest.now c.gates.at i.read.0 c.gates.records.items i.some c.if-rest-ne1.false i.read.1 i.read.2 i.read.3 (none_from_frame _ c.in_default.ensures),
    )

pub returns-in_default-2-clause-reads : goal.returns-in_default-2-clause-reads
returns-in_default-2-clause-reads c =
    let i = c.gates.invariant in
    let long = left_length c.gates.rest.now c.in-Some.body.now c.in-Some.next.now i.some c.if-rest-ne1.false c.in-Some.ensures.0 in
    let small : length c.in-Some.body.now < 2 ^ 32 = omega (arith, long, i.small, c.requires.small) in (
      c.requires.small,
      c.requires.long,
      damaged c.args.content.now c.gates.rest.now c.gates.at i.read.0 c.gates.records.items i.some c.if-rest-ne1.false i.read.1 i.read.2 i.read.3
          (none_from_record _ c.in-Some.body.now c.in-Some.next.now small c.in-Some.ensures.0 (sym c.in_ok-record.ensures.value ∙ c.in_default-2.is)),
    )

pub gates-preserved : goal.gates-preserved
gates-preserved c =
    let i = c.gates.invariant in
    let long = left_length c.gates.rest.now c.in-Some.body.now c.in-Some.next.now i.some c.if-rest-ne1.false c.in-Some.ensures.0 in record {
      some = c.in-Some.ensures.1;
      small = omega (arith, long, i.small);
      valid = rw c.in_ok-push.ensures.items (All-push IsRecord c.gates.records.items c.in-Some-2.record i.valid (rw c.in-Some-2.is at c.in_ok-record.ensures.valid));
      read = (
        i.read.0 ++ c.in-Some.body.now ∷ [],
        goes_on c.args.content.now c.gates.rest.now c.in-Some.body.now c.in-Some.next.now i.read.0 i.some c.if-rest-ne1.false i.read.1 c.in-Some.ensures.0,
        rw c.in_ok-push.ensures.items (are_push i.read.0 c.gates.records.items c.in-Some.body.now c.in-Some-2.record i.read.2 (sym c.in_ok-record.ensures.value ∙ c.in-Some-2.is)),
        omega (arith, i.read.3, length-front_push i.read.0 c.in-Some.body.now),
      );
    }
