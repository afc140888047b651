use Rattle.std.specs.Str.Parse.{ParsesUnsigned, ExplainsUnsignedError, HasUnsignedDigitsIfOk}
use Rattle.clap.specs.Matches.{found_of}
use Rattle.ps_serve_words.proofs.Rows.{none_in, number_in}
use Rattle.ps_serve_words.proofs.matches.number_under.Goals as goal

pub returns-in-None-clause-number : goal.returns-in-None-clause-number
returns-in-None-clause-number c = none_in (found_of c.args.matches.now) c.args.name.now c.in-None.ensures

pub returns-in-Some-clause-number : goal.returns-in-Some-clause-number
returns-in-Some-clause-number c = number_in (λ bs r. ParsesUnsigned 32 10 bs r × ExplainsUnsignedError 10 bs r × HasUnsignedDigitsIfOk bs r) 32
    (found_of c.args.matches.now) c.args.name.now _ (λ t x g. g.0) c.in-Some.ensures.none c.in-Some.ensures.value
