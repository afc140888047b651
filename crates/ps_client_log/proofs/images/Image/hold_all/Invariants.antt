use Rattle.std.proofs.Common.{◌≡◌}
use Rattle.std.specs.Prelude.{fold}
use Rattle.ps_client_log.specs.Images.{image_of}
use Rattle.ps_client_log.specs.Kept.{with_held}
use Rattle.ps_client_log.proofs.images.Image.hold_all.Given as goal

-- with the entries that are left the image holds what it does with all
abbrev pub invariant-entries : goal.invariant-entries
invariant-entries l = fold with_held (image_of l.self) l.entry-iterator.rest.items ≡ fold with_held (image_of l.initial.self) l.fn.entries.items
