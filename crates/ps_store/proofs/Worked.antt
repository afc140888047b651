-- New rules while streams run, computed.
use Rattle.std.proofs.Common.{◌≡◌, false, true, refl}
use Rattle.std.specs.Fmt.{digits}
use Rattle.ps_data.specs.Documents.{document_of, quoted_of}
use Rattle.ps_queries.specs.declared.askers.Asker.{Asker}
use Rattle.ps_queries.specs.Objects.{object_id, shown_columns, content_of}
use Rattle.ps_definitions.specs.Buckets.{bucket_name_of}
use Rattle.ps_definitions.specs.RuleSets.{RuleSet}
use Rattle.ps_bucket_eval.specs.Entries.{subkey_of, buckets_of, query_entries}
use Rattle.ps_bucket_eval.specs.Vectors.{holding}
use Rattle.ps_store.specs.Worked.{TakesOver, WaitsItsTurn, GenerationsTakeOver}

takes_over : (asker : Asker) → TakesOver asker
unfolding query_entries buckets_of subkey_of holding bucket_name_of object_id shown_columns content_of document_of quoted_of digits
takes_over asker = record {
  begins = (refl, refl);
  builds = (refl, refl);
  commits = (refl, refl, refl);
  ends = (refl, refl);
  switches = (refl, refl);
  before = (refl, refl);
  behind = (refl, refl);
  reads = refl;
  names = refl;
  counts = (refl, refl);
  passes = refl;
  ended = (refl, refl);
  rows = refl;
}

waits_its_turn : (rules : RuleSet) → WaitsItsTurn rules
unfolding query_entries buckets_of subkey_of holding bucket_name_of object_id shown_columns content_of document_of quoted_of digits
waits_its_turn rules = record {
  none_to_switch = λ can. let wrong : false ≡ true = can.0 in cc;
  none_to_drop = λ can. let wrong : false ≡ true = can in cc;
  not_twice = λ can. cc;
  not_early = λ can. cc;
}

pub generations_take_over : GenerationsTakeOver
generations_take_over asker rules = (takes_over asker, waits_its_turn rules)
