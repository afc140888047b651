use Rattle.std.proofs.Common.{◌≡◌, map, take}
use Rattle.ps_serve_words.proofs.reading.slices_of.Given as goal

abbrev pub invariant-words : goal.invariant-words
invariant-words l = map (λ slice. slice.now) l.slices.items ≡ take l.word-index l.words
