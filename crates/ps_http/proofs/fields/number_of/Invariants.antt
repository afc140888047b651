use Rattle.std.proofs.Common.{◌≡◌, ◌<◌, ◌^◌, drop}
use Rattle.ps_http.specs.Numbers.{number_after}
use Rattle.ps_http.proofs.fields.number_of.Given as goal

-- the digits that are left give the same number behind what was read
abbrev pub invariant-digits : goal.invariant-digits
invariant-digits l = record {
  same : number_after 0 l.digits ≡ number_after l.number (drop l.digit-index l.digits);
  fits : l.number < 2 ^ 64;
}
