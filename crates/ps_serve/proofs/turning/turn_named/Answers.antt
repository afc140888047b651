use Rattle.std.proofs.Common.{◌≡◌, List, Option, Some, refl, sym, subst, ◌++◌}
use Rattle.std.specs.Option.{IsSome}
use Rattle.ps_store.specs.declared.events.Event.{Event}
use Rattle.ps_session.specs.Kept.{state_of}
use Rattle.ps_streams.specs.Turning.{TurnsSo}
use Rattle.ps_workers.specs.Sharing.{fixed_of}
use Rattle.ps_serve.specs.declared.readers.Reader.{Reader}
use Rattle.ps_serve.specs.Readers.{seen}
use Rattle.ps_serve.proofs.Looking.{goes_on, seen_on, stands_here}
use Rattle.ps_serve.proofs.turning.turn_named.Goals as goal

pub take_turn-turned-requires : goal.take_turn-turned-requires
take_turn-turned-requires g c =
    let lock = c.args.desk.now.lock.now in (
      fixed_of lock,
      seen c.args.reader,
      c.requires.way.0,
      stands_here g.N.Named.lock g.N.Named.entries lock c.args.reader c.requires.lock c.requires.entries c.requires.at_end,
      c.requires.way.1,
    )

pub unwrap-requires : goal.unwrap-requires
unwrap-requires g c =
    let lock = c.args.desk.now.lock.now in
    let start = stands_here g.N.Named.lock g.N.Named.entries lock c.args.reader c.requires.lock c.requires.entries c.requires.at_end in
    let turned = c.take_turn-turned.ensures.turns (fixed_of lock) (seen c.args.reader) c.requires.way.0 start c.requires.way.1 in
    subst (λ (o : Option Reader). IsSome o) (sym turned.there.held_is) refl

pub returns-clause-turns : goal.returns-clause-turns
returns-clause-turns g c =
    let lock = c.args.desk.now.lock.now in
    let held = c.take_turn-turned.new.readings.reader in
    let start = stands_here g.N.Named.lock g.N.Named.entries lock c.args.reader c.requires.lock c.requires.entries c.requires.at_end in
    let unwrapped = c.unwrap.ensures in
    let is : held ≡ Some c.unwrap.result = cc in
    let turned = c.take_turn-turned.ensures.turns (fixed_of lock) (seen c.args.reader) c.requires.way.0 start c.requires.way.1 in
    record {
      goes_on = goes_on g.N.Named.lock g.N.Named.entries lock c.take_turn-turned.new.readings.desk.now.lock.now held c.args.reader c.unwrap.result turned.more c.requires.lock c.requires.entries is turned.there;
      turns = λ at way.
          let here = c.take_turn-turned.ensures.turns (fixed_of lock) (seen c.args.reader) at start way in
          subst (λ (xs : List Event). TurnsSo (fixed_of lock) xs c.args.session.now.asker at (state_of c.args.session.now) (state_of c.take_turn-turned.new.session) c.take_turn-turned.result)
          (sym (seen_on g.N.Named.lock g.N.Named.entries lock c.take_turn-turned.new.readings.desk.now.lock.now held c.args.reader c.unwrap.result here.more c.requires.lock c.requires.entries is here.there)) here.turns;
    }
