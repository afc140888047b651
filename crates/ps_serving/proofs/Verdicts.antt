-- What the ends of the threads make of a store that was fed and served.
use Rattle.std.proofs.Common.{◌≡◌, ◌∙◌, ◌+◌, ℕ, Bool, true, false, ◌||◌, List, [], Option, Some, None, Result, Ok, Err, option_map, inl, inr, ap, refl, length}
use Rattle.std.specs.Prelude.{if◌then◌else◌}
use Rattle.ps_connections.specs.declared.ended.Ended.{Ended}
use Rattle.ps_connections.specs.declared.ended.Stop.{Stop}
use Rattle.ps_connections.specs.declared.ended.Stop.TheVariants.{NoneToCome, Most, NoRoom, Failed}
use Rattle.ps_connections.specs.Taken.{HasTaken}
use Rattle.ps_rows.specs.declared.changes.Transaction.{Transaction}
use Rattle.ps_serve.specs.declared.sites.Site.{Site}
use Rattle.ps_store.specs.declared.events.Event.{Event}
use Rattle.ps_store.specs.Ledgers.{ledger_of}
use Rattle.ps_store.specs.Totals.{totals_of}
use Rattle.ps_files.specs.declared.faults.Fault.{Fault}
use Rattle.ps_files.specs.declared.faults.Fault.TheVariants.{Usage, Rules, Change, PastLimit, TooManyBuckets, Claims, Keys, TooLong, CannotRead, CannotWrite, Script, Memory}
use Rattle.ps_serve_inputs.specs.declared.faults.ServeFault.TheVariants.{Plain}
use Rattle.ps_workers.specs.declared.ends.WorkEnd.{WorkEnd}
use Rattle.ps_workers.specs.declared.ends.WorkEnd.TheVariants as work
use Rattle.ps_workers.specs.declared.shared.Terms.{Terms}
use Rattle.ps_workers.specs.declared.stages.NextRules.{NextRules}
use Rattle.ps_workers.specs.Work.{EndsWriting, IsStoreDrained, NoneIsDue}
use Rattle.ps_serving.specs.Ends.{writer_fault, compactor_fault, doors_fault, output_fault, room_fault, is_no_room, first_of, unless_fault}
use Rattle.ps_serving.specs.Printing.{PrintsLine, totals_line}
use Rattle.ps_serving.specs.Running.{HaveAnswers}
use Rattle.ps_serving.specs.Serving.{DoorsAt, SinkAt, HasRun, HaveAllCome, ServesFed}

no_first : (a b : Bool) → (a || b) ≡ false → a ≡ false
no_first true b h = cc
no_first false b h = refl

no_short : (a b : Bool) → (a || b) ≡ false → b ≡ false
no_short true b h = cc
no_short false b h = h

module _ (terms : Terms) (next : Option NextRules) (site : Site) (may_give : ℕ → Type 0) (start : List Event) (most : ℕ) (doors doors' : DoorsAt) (out out' : SinkAt)
    (run : HasRun terms start doors doors') (stop : Stop) (count : ℕ) (short : Bool) (came : is_no_room stop ≡ false → HaveAllCome most doors doors')
    (taken : HasTaken most doors.opened doors'.opened doors.coming doors'.coming doors.faults doors'.faults stop count)
    (answers : HaveAnswers terms.fixed site may_give (length start) run.history doors.opened doors.closed doors'.closed (record { stop = stop; connections = count; out_of_memory = short })) where
  abbrev ended : Ended
  ended = record { stop = stop; connections = count; out_of_memory = short }

  abbrev Goes : Option Fault → Type 0
  Goes fault = ServesFed terms next site may_give start most doors doors' out out' (unless_fault (option_map Plain fault))

  abbrev Prints : Result (Unit {0}) Fault → Type 0
  Prints printed = PrintsLine (totals_line (totals_of (ledger_of terms.fixed.rules run.history))) out.taken out'.taken out.faults out'.faults printed

  module _ (drained : IsStoreDrained (ledger_of terms.fixed.rules run.seen)) (due : NoneIsDue terms.fixed next run.seen) where
    by_room : doors'.faults ≡ doors.faults → Prints (Ok tt) → (b : Bool) → (is_no_room stop || short) ≡ b → Goes (if b then Some Memory else None)
    by_room quiet printed true is = tt
    by_room quiet printed false is = record {
      run = run;
      drained = drained;
      due = due;
      ended = ended;
      taken = taken;
      all = came (no_first (is_no_room stop) short is);
      quiet = quiet;
      room = no_short (is_no_room stop) short is;
      answers = answers;
      printed = printed;
    }

    by_output : doors'.faults ≡ doors.faults → (printed : Result (Unit {0}) Fault) → Prints printed
        → ServesFed terms next site may_give start most doors doors' out out' (unless_fault (first_of (option_map Plain (output_fault printed)) (option_map Plain (room_fault ended))))
    by_output quiet (Ok done) p = by_room quiet p (is_no_room stop || short) refl
    by_output quiet (Err Usage) p = absurd p
    by_output quiet (Err (Rules which line column why)) p = absurd p
    by_output quiet (Err (Change line why)) p = absurd p
    by_output quiet (Err (PastLimit limit)) p = absurd p
    by_output quiet (Err (TooManyBuckets n)) p = absurd p
    by_output quiet (Err Claims) p = absurd p
    by_output quiet (Err Keys) p = absurd p
    by_output quiet (Err (TooLong seen)) p = absurd p
    by_output quiet (Err (CannotRead name)) p = absurd p
    by_output quiet (Err CannotWrite) p = (p.1, record { run = run; drained = drained })
    by_output quiet (Err (Script line why)) p = absurd p
    by_output quiet (Err Memory) p = tt

module _ (terms : Terms) (next : Option NextRules) (site : Site) (may_give : ℕ → Type 0) (start : List Event) (most : ℕ) (doors doors' : DoorsAt) (out out' : SinkAt)
    (run : HasRun terms start doors doors') (printed : Result (Unit {0}) Fault)
    (prints : PrintsLine (totals_line (totals_of (ledger_of terms.fixed.rules run.history))) out.taken out'.taken out.faults out'.faults printed) where
  abbrev After : Ended → Type 0
  After ended =
      HasTaken most doors.opened doors'.opened doors.coming doors'.coming doors.faults doors'.faults ended.stop ended.connections
      × HaveAnswers terms.fixed site may_give (length start) run.history doors.opened doors.closed doors'.closed ended

  by_doors : IsStoreDrained (ledger_of terms.fixed.rules run.seen) → NoneIsDue terms.fixed next run.seen → (stop : Stop) (count : ℕ) (short : Bool) → After (record { stop = stop; connections = count; out_of_memory = short })
      → ServesFed terms next site may_give start most doors doors' out out' (unless_fault (first_of (doors_fault stop) (first_of (option_map Plain (output_fault printed))
      (option_map Plain (room_fault (record { stop = stop; connections = count; out_of_memory = short }))))))
  by_doors drained due NoneToCome count short (taken, answers) =
      by_output terms next site may_give start most doors doors' out out' run NoneToCome count short (λ e. inl taken.stop_is.0) taken answers drained due taken.stop_is.1 printed prints
  by_doors drained due Most count short (taken, answers) =
      by_output terms next site may_give start most doors doors' out out' run Most count short (λ e. inr (taken.opened_is ∙ ap (λ n. doors.opened + n) taken.stop_is.0)) taken answers drained due taken.stop_is.1 printed prints
  by_doors drained due NoRoom count short (taken, answers) =
      by_output terms next site may_give start most doors doors' out out' run NoRoom count short (λ e. absurd (cc)) taken answers drained due taken.stop_is printed prints
  by_doors drained due Failed count short (taken, answers) = (taken.stop_is, record { run = run; drained = drained })

  module _ (ended : Ended) (after : After ended) where
    by_compactor : IsStoreDrained (ledger_of terms.fixed.rules run.seen) → NoneIsDue terms.fixed next run.seen → (compactor : WorkEnd)
        → ServesFed terms next site may_give start most doors doors' out out' (unless_fault (first_of (option_map Plain (compactor_fault compactor))
        (first_of (doors_fault ended.stop) (first_of (option_map Plain (output_fault printed)) (option_map Plain (room_fault ended))))))
    by_compactor drained due work.Drained = by_doors drained due ended.stop ended.connections ended.out_of_memory after
    by_compactor drained due work.Stopped = by_doors drained due ended.stop ended.connections ended.out_of_memory after
    by_compactor drained due (work.TooWide count) = tt
    by_compactor drained due (work.OpsFull last) = tt
    by_compactor drained due work.Memory = tt

    -- the writer's end decides, then the compactor's, then that of the connections
    pub judged : (fed : List Transaction) (compactor writer : WorkEnd) → EndsWriting terms.fixed next run.seen [] fed writer
        → ServesFed terms next site may_give start most doors doors' out out' (unless_fault (first_of (option_map Plain (writer_fault writer)) (first_of (option_map Plain (compactor_fault compactor))
        (first_of (doors_fault ended.stop) (first_of (option_map Plain (output_fault printed)) (option_map Plain (room_fault ended)))))))
    judged fed compactor work.Drained ends = by_compactor ends.1 ends.2 compactor
    judged fed compactor work.Stopped ends = tt
    judged fed compactor (work.TooWide count) ends = record { run = run; past = ends.1 }
    judged fed compactor (work.OpsFull last) ends = record { run = run; past = (last, refl, ends.1) }
    judged fed compactor work.Memory ends = tt
