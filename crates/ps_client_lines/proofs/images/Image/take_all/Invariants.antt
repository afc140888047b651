use Rattle.std.proofs.Common.{◌≡◌, take}
use Rattle.std.specs.Prelude.{fold}
use Rattle.ps_bucket_log.specs.Buckets.{after}
use Rattle.ps_client_lines.specs.Images.{image_kept}
use Rattle.ps_client_lines.proofs.images.Image.take_all.Given as goal

abbrev pub invariant-ops : goal.invariant-ops
invariant-ops l = image_kept l.self ≡ fold after (image_kept l.initial.self) (take l.op-index l.ops)
