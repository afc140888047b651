use Rattle.std.proofs.Common.{Some, refl, sym, ap}
use Rattle.ps_store.proofs.generations.Generations.switch.Goals as goal

pub returns : goal.returns
returns c = (
  c.in_ok-building.building,
  record {
    was = sym c.in_ok-building.ensures.value;
    number = ap (λ parts. parts.0) c.into_parts-number.ensures;
    mark = ap (λ parts. parts.1) c.into_parts-number.ensures;
    by = ap (λ parts. Some parts.2) c.into_parts-number.ensures;
    building = c.in_ok-building.ensures.after;
    begun = refl;
    endings = c.note_ending.ensures;
  },
  ap (λ parts. parts.3) c.into_parts-number.ensures,
)
