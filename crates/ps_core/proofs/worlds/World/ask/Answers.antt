use Rattle.std.proofs.Common.{refl, ap, sym, subst}
use Rattle.std.specs.Option.{IsSome}
use Rattle.ps_core.specs.Parts.{event_of}
use Rattle.ps_core.specs.Readers.{Readers}
use Rattle.ps_core.proofs.WorldSteps.{acted, is_at_name, is_put, nobody}
use Rattle.ps_core.proofs.worlds.World.ask.Goals as goal

pub act-requires-clause-stands : goal.act-requires-clause-stands
act-requires-clause-stands c =
    let r = c.requires.stands in
    (r.0, r.1, is_at_name r.0 c.args.self.now r.1 c.args.name.now c.in-Some.reader.now r.2 (sym c.in-Some.ensures.value))

pub returns-in-None : goal.returns-in-None
returns-in-None c = λ fixed play it.
    nobody fixed c.args.self.now _ play c.args.name.now c.args.asked c.requires.table it (sym c.in-None.ensures.value)
    (ap (λ (m : Readers). record c.args.self.now { readers = m }) c.get_mut.follows.holds-at-none)

pub returns-in-Some : goal.returns-in-Some
returns-in-Some c = λ fixed play it.
    acted c.places_are_fronts.ensures.stay fixed c.args.self.now _ play (event_of c.args.name.now c.args.asked) c.args.name.now c.act.new.reader c.act.result it refl refl refl
    (is_put c.args.self.now.readers (c.get_mut.follows.lender c.act.new.reader) c.args.name.now c.act.new.reader
    ((c.get_mut.follows.holds c.act.new.reader).3 (subst IsSome c.in-Some.ensures.value refl)).0)
    (c.act.ensures fixed play (is_at_name fixed c.args.self.now play c.args.name.now c.in-Some.reader.now it (sym c.in-Some.ensures.value)))
