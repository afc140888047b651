use Rattle.std.proofs.Common.{◌≡◌, map, take}
use Rattle.ps_syncing.proofs.words.texts.Given as goal

abbrev pub invariant-words : goal.invariant-words
invariant-words l = map (λ text. text.now) l.texts.items ≡ take l.word-index l.words
