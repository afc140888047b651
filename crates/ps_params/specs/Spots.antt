-- The spots at which rows are looked for.
use Rattle.std.specs.Prelude.{ℕ, List, take, filter, flat_map, Option, option_map}
use Rattle.std.specs.List.{filter_map}
use Rattle.ps_data.specs.declared.values.Value.{Value}
use Rattle.ps_queries.specs.Meaning.{text_of}
use Rattle.ps_params.specs.declared.paths.Path.{Path}
use Rattle.ps_params.specs.Notes.{Note}
use Rattle.ps_params.specs.Places.{Spot, lies_at}

abbrev pub spot_for : ℕ → Value → Option Spot
spot_for number value = option_map (λ (text : List ℕ). (number, text)) (text_of value)

-- under a path's number the texts of values; Null has none
abbrev pub spots_for : ℕ → List Value → List Spot
spots_for number values = filter_map (spot_for number) values

-- the notes among the first ones that lie at a spot
abbrev pub lying : List Path → List Note → ℕ → Spot → List Note
lying paths notes count spot = filter (lies_at paths spot.0 spot.1) (take count notes)

-- those that lie at some spots
abbrev pub lying_at : List Path → List Note → ℕ → List Spot → List Note
lying_at paths notes count spots = flat_map (lying paths notes count) spots
