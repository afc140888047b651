use Rattle.std.proofs.Common.{sym, ap}
use Rattle.std.specs.Result.{result_ok}
use Rattle.base64.specs.GeneralPurpose.{decoded_of}
use Rattle.ps_token.specs.Parts.{bytes_of}
use Rattle.ps_token.proofs.parts.decoded.Goals as goal

pub returns-in-Ok : goal.returns-in-Ok
unfolding bytes_of decoded_of
returns-in-Ok c = sym (ap result_ok c.in-Ok.ensures.ok)

pub returns-in-Err-DecodeError : goal.returns-in-Err-DecodeError
unfolding bytes_of decoded_of
returns-in-Err-DecodeError c = let refused = rw c.in-Err-DecodeError.field-0-is at c.in-Err-DecodeError.ensures.err in sym (ap result_ok refused)
