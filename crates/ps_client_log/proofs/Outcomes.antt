-- What holds of a result that is known to be good.
use Rattle.std.proofs.Common.{true≢false, sym}
use Rattle.std.specs.Prelude.{Result, Ok, Err, OnOk, IsOk}

pub on_ok : {X F P : Type 0} (r : Result X F) → OnOk r P → IsOk r → P
on_ok (Ok x) holds ok = holds
on_ok (Err e) holds ok = absurd (true≢false (sym ok))
