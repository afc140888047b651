use Rattle.std.proofs.Common.{arith}
use Rattle.std.proofs.lemmas.Grind.{common_steps}
use Rattle.ps_yaml.proofs.Utf8.{take_less}
use Rattle.ps_yaml.proofs.scalars.trimmed.Goals as goal

pub spaces-preserved : goal.spaces-preserved
spaces-preserved c = record {
  value = grind (arith, common_steps);
  utf8 = λ h. take_less c.args.text.now c.spaces.end c.spaces-test.true c.spaces.invariant.within c.if-text-end-eq32.true (c.spaces.invariant.utf8 h);
  within = omega arith;
}
