use Rattle.std.proofs.Common.{refl, sym}
use Rattle.ps_store.proofs.generations.Generations.abandon.Goals as goal

pub returns : goal.returns
returns c = (
  c.in_ok-building.building,
  record {
    was = sym c.in_ok-building.ensures.value;
    number = refl;
    mark = refl;
    by = refl;
    building = c.in_ok-building.ensures.after;
    begun = refl;
    endings = c.note_ending.ensures;
  },
  refl,
)
