-- What the compaction of each bucket reports.
use Rattle.std.specs.Prelude.{◌≡◌, ℕ, List, [], ◌∷◌, ◌++◌, map, flat_map, codes, decimal, Result, Ok, Err, Vec}
use Rattle.std.specs.declared.alloc.Global.{Global}
use Rattle.ps_data.specs.declared.shortage.Memory.{Memory}
use Rattle.ps_rows.specs.declared.changes.Transaction.{Transaction}
use Rattle.ps_compact.specs.declared.reports.Report.{Report}
use Rattle.ps_compact.specs.Compaction.{report_of}
use Rattle.ps_definitions.specs.RuleSets.{RuleSet}
use Rattle.ps_store.specs.declared.events.Event.{Event}
use Rattle.ps_store.specs.declared.events.Event.TheVariants.{Compact}
use Rattle.ps_store.specs.declared.fixed.Fixed.{Fixed}
use Rattle.ps_store.specs.declared.stores.Store.{Store}
use Rattle.ps_store.specs.Ledgers.{Ledger, ledger_of}
use Rattle.ps_store.specs.Stores.{StoreStandsFor}
use Rattle.ps_store.specs.Totals.{bucket_names_of}
use Rattle.ps_files.specs.declared.compacting.Compacted.{Compacted}
use Rattle.ps_files.specs.declared.faults.Fault.{Fault}
use Rattle.ps_files.specs.declared.faults.Fault.TheVariants as faults
use Rattle.ps_files.specs.ChangeFiles.{transactions_of}
use Rattle.ps_files.specs.Committing.{committed_ledger}

-- the report of a bucket's log, compacted at the checkpoint's op
abbrev pub compacted_at : Ledger → List ℕ → Compacted
compacted_at l bucket = record { bucket = bucket; report = report_of l.op (l.log bucket) }

-- of each bucket that ever had an operation, by name
abbrev pub reports_of : Ledger → List Compacted
reports_of l = map (compacted_at l) (bucket_names_of l)

-- `BUCKET moved M cleared C before B after A` and a line feed
unfoldable pub report_line : Compacted → List ℕ
report_line c =
    c.bucket
    ++ (codes " moved " ++ (decimal c.report.moved
    ++ (codes " cleared " ++ (decimal c.report.cleared
    ++ (codes " before " ++ (decimal c.report.before
    ++ (codes " after " ++ (decimal c.report.after ++ codes "\n"))))))))

abbrev pub reports_text : List Compacted → List ℕ
reports_text reports = flat_map report_line reports

-- the reports after transactions, each of which was fed, written and committed
unfoldable pub compact_text : RuleSet → List Transaction → List ℕ
compact_text rules transactions = reports_text (reports_of (committed_ledger rules transactions))

-- ---- calls

-- a bucket's log was compacted; where it is out of memory nothing is said
abbrev pub CompactsOne : Fixed → List Event → List ℕ → Store → Result Report Memory → Type 0
CompactsOne fixed history bucket new (Ok report) =
    (report ≡ report_of (ledger_of fixed.rules history).op ((ledger_of fixed.rules history).log bucket))
    × StoreStandsFor fixed new (history ++ Compact bucket ∷ [])
CompactsOne fixed history bucket new (Err memory) = Unit {0}

-- the printed reports of a change file
pub record FindsReports (rules : RuleSet) (text : Vec ℕ Global) (bytes : List ℕ) : Type 0 where
  pub transactions : List Transaction
  pub read : transactions_of rules bytes ≡ Ok transactions
  pub is : text.items ≡ compact_text rules transactions

abbrev pub RefusesReports : RuleSet → Fault → List ℕ → Type 0
RefusesReports rules (faults.Change line why) bytes = transactions_of rules bytes ≡ Err (faults.Change line why)
RefusesReports rules (faults.PastLimit limit) bytes = transactions_of rules bytes ≡ Err (faults.PastLimit limit)
RefusesReports rules (faults.TooManyBuckets count) bytes = ⊥
RefusesReports rules faults.Usage bytes = ⊥
RefusesReports rules (faults.Rules which line column why) bytes = ⊥
RefusesReports rules faults.Claims bytes = ⊥
RefusesReports rules faults.Keys bytes = ⊥
RefusesReports rules (faults.TooLong seen) bytes = ⊥
RefusesReports rules (faults.CannotRead name) bytes = ⊥
RefusesReports rules faults.CannotWrite bytes = ⊥
RefusesReports rules (faults.Script place cause) bytes = ⊥
RefusesReports rules faults.Memory bytes = ⊥

-- the same, of bytes that were read
abbrev pub Reports : RuleSet → List ℕ → Result (Vec ℕ Global) Fault → Type 0
Reports rules bytes (Ok text) = FindsReports rules text bytes
Reports rules bytes (Err faults.Memory) = Unit {0}
Reports rules bytes (Err (faults.Change line why)) = RefusesReports rules (faults.Change line why) bytes
Reports rules bytes (Err (faults.PastLimit limit)) = RefusesReports rules (faults.PastLimit limit) bytes
Reports rules bytes (Err (faults.TooManyBuckets count)) = ⊥
Reports rules bytes (Err faults.Usage) = ⊥
Reports rules bytes (Err (faults.Rules which line column why)) = ⊥
Reports rules bytes (Err faults.Claims) = ⊥
Reports rules bytes (Err faults.Keys) = ⊥
Reports rules bytes (Err (faults.TooLong seen)) = ⊥
Reports rules bytes (Err (faults.CannotRead name)) = ⊥
Reports rules bytes (Err faults.CannotWrite) = ⊥
Reports rules bytes (Err (faults.Script place cause)) = ⊥
