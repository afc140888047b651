use Rattle.std.proofs.Common.{◌≡◌, ◌+◌, drop}
use Rattle.ps_store.specs.StoreGenerations.{digits_in}
use Rattle.ps_store.proofs.marking.leading_digits.Given as goal

abbrev pub invariant-bytes : goal.invariant-bytes
invariant-bytes l = record {
  count : l.digits ≡ l.byte-index;
  all : digits_in l.text ≡ l.digits + digits_in (drop l.digits l.text);
}
