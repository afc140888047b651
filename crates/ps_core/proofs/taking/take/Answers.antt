use Rattle.std.proofs.Common.{rules, ◌≡◌, ◌∷◌, [], refl, ap, ◌∙◌}
use Rattle.ps_lines.specs.Reading.{line_of}
use Rattle.ps_core.proofs.Answered.{no_line_so, read, took_last, took_on}
use Rattle.ps_core.proofs.StreamSteps.{stream_of, streaming}
use Rattle.ps_core.proofs.taking.take.Goals as goal

pub returns-in-None-pop_front : goal.returns-in-None-pop_front
returns-in-None-pop_front c = λ fixed play name store it.
    let none : c.in-Some.stream.waiting.items ≡ [] = search rules in
    let still : c.pop_front.new.self.items ≡ [] = search rules in
    no_line_so fixed play name store c.args.reader.now c.in-Some.stream it c.in-Some.is _ (record { session = c.in-Some.stream.session; waiting = c.pop_front.new.self }) none still refl refl refl refl

pub returns-then-over : goal.returns-then-over
returns-then-over c = λ fixed play name store it.
    let lines : c.in-Some.stream.waiting.items ≡ c.in-Some-pop_front.sent ∷ c.pop_front.new.self.items = c.in-Some-pop_front.ensures.items in
    took_last fixed play name store c.args.reader.now c.in-Some.stream it c.in-Some.is c.in-Some-pop_front.sent c.pop_front.new.self.items lines _ c.in-Ok.field-0
    (c.in-Ok.ensures _ (ap line_of c.as_slice.ensures.value ∙ read fixed play name store c.args.reader.now c.in-Some.stream it c.in-Some.is c.in-Some-pop_front.sent c.pop_front.new.self.items lines))
    (cc) refl refl

pub returns-in-Ok : goal.returns-in-Ok
returns-in-Ok c = λ fixed play name store it.
    let lines : c.in-Some.stream.waiting.items ≡ c.in-Some-pop_front.sent ∷ c.pop_front.new.self.items = c.in-Some-pop_front.ensures.items in
    took_on fixed play name store c.args.reader.now c.in-Some.stream it c.in-Some.is c.in-Some-pop_front.sent c.pop_front.new.self.items lines _
    (record { session = c.in-Some.stream.session; waiting = c.pop_front.new.self }) c.in-Ok.field-0
    (c.in-Ok.ensures _ (ap line_of c.as_slice.ensures.value ∙ read fixed play name store c.args.reader.now c.in-Some.stream it c.in-Some.is c.in-Some-pop_front.sent c.pop_front.new.self.items lines))
    (cc) refl refl refl refl

pub returns : goal.returns
returns c = λ fixed play name store it.
    let link = stream_of fixed play name store c.args.reader.now c.in-Some.stream it c.in-Some.is in
    streaming play name it.reader link.at link.session link.waiting it.named link.link_is
