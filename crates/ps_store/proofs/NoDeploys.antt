-- No new rules in a history, and none in an event behind it.
use Rattle.std.proofs.Common.{◌≡◌, false, List, [], ◌∷◌, ◌++◌}
use Rattle.ps_store.specs.declared.events.Event.{Event}
use Rattle.ps_store.specs.declared.events.Event.TheVariants.{Feed, Close, Write, Commit, Compact, WriteCheckpoint, Deploy, Build, Switch, Abandon}
use Rattle.ps_store.specs.Histories.{has_deploy}

pub plain_push : (history : List Event) (event : Event) → has_deploy history ≡ false → has_deploy (event ∷ []) ≡ false → has_deploy (history ++ event ∷ []) ≡ false
plain_push [] event h plain = plain
plain_push (Feed t ∷ history) event h plain = plain_push history event h plain
plain_push (Close ∷ history) event h plain = plain_push history event h plain
plain_push (Write n ∷ history) event h plain = plain_push history event h plain
plain_push (Commit ∷ history) event h plain = plain_push history event h plain
plain_push (Compact bucket ∷ history) event h plain = plain_push history event h plain
plain_push (WriteCheckpoint user client ∷ history) event h plain = plain_push history event h plain
plain_push (Deploy rules ∷ history) event h plain = absurd (cc)
plain_push (Build n ∷ history) event h plain = plain_push history event h plain
plain_push (Switch ∷ history) event h plain = plain_push history event h plain
plain_push (Abandon ∷ history) event h plain = plain_push history event h plain
