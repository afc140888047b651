-- The line is what stands before the feed.
use Rattle.std.proofs.Common.{arith}
use Rattle.ps_answers.specs.Readers.{left_of, part_of}
use Rattle.ps_answers.proofs.Feeds.{found_line, too_long}
use Rattle.ps_answers.proofs.buffers.Reader.take_found.Goals as goal

pub returns-then-place-gt-LINE_LIMIT : goal.returns-then-place-gt-LINE_LIMIT
returns-then-place-gt-LINE_LIMIT c = too_long (left_of c.args.self.now) c.args.place c.requires (omega (arith, c.if-place-gt-LINE_LIMIT.true))

pub returns : goal.returns
returns c =
    found_line (left_of c.args.self.now) (part_of c.cut.new.self) (left_of c.cut.new.self) c.args.place c.requires
    c.cut.ensures.part c.cut.ensures.left (omega (arith, c.if-place-gt-LINE_LIMIT.false))
