use Rattle.std.proofs.Common.{sym, subst}
use Rattle.std.proofs.lemmas.Str.{IsUtf8-append}
use Rattle.std.specs.Str.{IsUtf8}
use Rattle.ps_values.proofs.writing.text_written.Goals as goal

pub from_utf8_unchecked-requires : goal.from_utf8_unchecked-requires
from_utf8_unchecked-requires c = subst IsUtf8 (sym c.into_inner-bytes.ensures.items) (IsUtf8-append _ _ c.requires c.into_inner-bytes.ensures.utf8)
