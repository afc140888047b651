use Rattle.ps_store.proofs.CourseReadings.{places_stay, ends_are_whole}
use Rattle.ps_store.proofs.laws.places_are_fronts.Goals as goal

pub returns : goal.returns
returns c = record { stay = places_stay; whole = ends_are_whole }
