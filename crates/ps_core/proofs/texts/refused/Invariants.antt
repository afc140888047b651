use Rattle.std.proofs.Common.{◌≡◌, ◌++◌, drop, flat_map}
use Rattle.ps_core.specs.declared.effects.Effect.TheVariants.{Refused}
use Rattle.ps_core.specs.Texts.{after_words, differing_words, effect_text}
use Rattle.ps_core.proofs.texts.refused.Given as goal

-- what is printed so far, and then the buckets that are left, is the whole line
abbrev pub invariant-buckets : goal.invariant-buckets
invariant-buckets l = l.out.items ++ after_words (flat_map differing_words (drop l.differing-index l.buckets)) ≡ effect_text (Refused l.buckets)
