use Rattle.std.proofs.Common.{refl}
use Rattle.ps_data.specs.declared.values.Value.TheVariants.{Null, Int, Text}
use Rattle.ps_grant.proofs.vectors.values_are_in_order.Goals as goal

pub returns : goal.returns
returns c Null Null = refl
returns c Null (Int n) = refl
returns c Null (Text t) = refl
returns c (Int m) Null = refl
returns c (Int m) (Int n) = refl
returns c (Int m) (Text t) = refl
returns c (Text s) Null = refl
returns c (Text s) (Int n) = refl
returns c (Text s) (Text t) = refl
