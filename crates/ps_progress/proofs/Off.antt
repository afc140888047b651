-- A meter that is off.
use Rattle.std.proofs.Common.{◌≡◌, Bool, true, false, List, ℕ, refl, ◌∙◌, ap}
use Rattle.ps_progress.specs.Meters.{EndsIf, HeedsIf, OffTellsNothing, Seen, nothing, line, end}

heeds_off : (on : Bool) (old new : Seen) (bytes : List ℕ) → on ≡ false → HeedsIf on old new bytes → new ≡ old
heeds_off true old new bytes off heeds = absurd (cc)
heeds_off false old new bytes off heeds = heeds

ends_off : (on is_open : Bool) (old new : Seen) → on ≡ false → EndsIf on is_open old new → new ≡ old
ends_off true is_open old new off ends = absurd (cc)
ends_off false is_open old new off ends = ends

pub off_stays : OffTellsNothing
off_stays old _ off nothing = refl
off_stays old _ off (line before new bytes first heeds) =
    let same = off_stays old before off first in
    heeds_off before.on before new bytes (ap (λ (seen : Seen). seen.on) same ∙ off) heeds ∙ same
off_stays old _ off (end before new first ends) =
    let same = off_stays old before off first in
    ends_off before.on before.is_open before new (ap (λ (seen : Seen). seen.on) same ∙ off) ends ∙ same
