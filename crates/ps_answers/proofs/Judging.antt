-- The head that the parser found.
use Rattle.std.proofs.Common.{◌≡◌, ℕ, ◌≤◌, List, Option, Some, length, map, take, drop, sym, ap, ◌∙◌, arith, take_all}
use Rattle.std.proofs.lemmas.List.{length-map, length-take, length-take-le, take-append-le, append-nil}
use Rattle.httparse.specs.Grammar.{print_response}
use Rattle.httparse.specs.Spans.{header_bytes, name_and_value, IsResponseWithin, IsResponseOf}
use Rattle.httparse.specs.declared.spans.HeaderSpan.{HeaderSpan}
use Rattle.httparse.specs.declared.spans.ResponseSpans.{ResponseSpans}
use Rattle.ps_http.specs.Fields.{stated_length}
use Rattle.ps_answers.specs.Heads.{IsAnswerHead}

module _ (bytes : List ℕ) (headers : List HeaderSpan) (spans : ResponseSpans)
    (at : IsResponseOf bytes headers spans) (within : IsResponseWithin bytes headers spans) where
  -- what stands in the first bytes is the head
  head_bytes : take spans.len bytes ≡ print_response at.0
  head_bytes =
      ap (take spans.len) at.1.reads.1
      ∙ take-append-le spans.len (print_response at.0) (drop spans.len bytes) (omega (arith, at.1.len))
      ∙ take_all spans.len (print_response at.0) (omega (arith, at.1.len))

  -- it has no more fields than there is room for
  few_fields : length headers ≤ 64 → length at.0.fields ≤ 64
  few_fields room = omega (
    arith,
    room,
    ap length at.1.fields,
    length-map at.0.fields name_and_value,
    length-map (take spans.headers headers) (header_bytes bytes),
    length-take spans.headers headers,
    within.section.count_fits,
  )

  -- it is read so
  pub judged : (stated : Option ℕ) → length headers ≤ 64 → length bytes ≤ 16384
      → stated_length (map (header_bytes bytes) (take spans.headers headers)) ≡ Some stated
      → (spans.len ≤ length bytes) × IsAnswerHead (take spans.len bytes) (record { status = spans.code; length = stated })
  judged stated room small is = (
    within.section.len_fits,
    record {
      response = at.0;
      reads = (at.1.reads.0, head_bytes ∙ sym (append-nil (print_response at.0)));
      few = few_fields room;
      within = omega (arith, length-take-le spans.len bytes within.section.len_fits, within.section.len_fits, small);
      status = at.1.code;
      length_is = ap stated_length (sym at.1.fields) ∙ is;
    },
  )
