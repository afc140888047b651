use Rattle.std.specs.Str.Parse.{ParsesUnsigned, ExplainsUnsignedError, HasUnsignedDigitsIfOk}
use Rattle.clap.specs.Matches.{found_of}
use Rattle.ps_serve_words.proofs.Rows.{number_in}
use Rattle.ps_serve_words.proofs.matches.count_under.Goals as goal

pub returns-in-Some-clause-number : goal.returns-in-Some-clause-number
returns-in-Some-clause-number c = number_in (λ bs r. ParsesUnsigned 64 10 bs r × ExplainsUnsignedError 10 bs r × HasUnsignedDigitsIfOk bs r) 64
    (found_of c.args.matches.now) c.args.name.now _ (λ t x g. g.0) c.in-Some.ensures.none c.in-Some.ensures.value
