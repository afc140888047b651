-- Two facts of one result.
use Rattle.std.proofs.Common.{Result, Ok, Err}
use Rattle.std.specs.Prelude.{IfOk}

pub if_two : {K E : Type 0} {P Q U : K → Type 0} (r : Result K E) → ((k : K) → P k → Q k → U k) → IfOk r P → IfOk r Q → IfOk r U
if_two (Ok k) f p q = f k p q
if_two (Err e) f p q = tt
