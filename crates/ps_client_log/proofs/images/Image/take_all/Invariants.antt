use Rattle.std.proofs.Common.{◌≡◌, ◌+◌, ◌≤◌, length}
use Rattle.std.specs.Prelude.{fold}
use Rattle.indexmap.specs.IndexMap.{spare}
use Rattle.ps_bucket_log.specs.Buckets.{after}
use Rattle.ps_client_log.specs.Images.{image_of}
use Rattle.ps_client_log.proofs.images.Image.take_all.Given as goal

-- the operations that are left bring the image to where all of them do, and there is room for them
abbrev pub invariant-ops : goal.invariant-ops
invariant-ops l =
    (fold after (image_of l.self) l.op-iterator.rest.items ≡ fold after (image_of l.initial.self) l.fn.ops.items)
    × (length l.op-iterator.rest.items ≤ spare l.self.held)
    × (spare l.initial.self.held + length l.op-iterator.rest.items ≤ spare l.self.held + length l.fn.ops.items)
