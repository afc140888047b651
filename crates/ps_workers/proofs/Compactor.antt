-- How the turns of a compactor make its work.
use Rattle.std.proofs.Common.{◌≡◌, ℕ, zero, suc, ◌+◌, ◌<◌, ◌≤◌, arith, Bool, true, false, ◌||◌, List, [], ◌∷◌, ◌++◌, length, take, get_or, bytes_eq, Result, Ok, Err, refl, ap, sym, ◌∙◌, subst, append_assoc, None}
use Rattle.std.specs.List.{AllByRecursion}
use Rattle.std.specs.Prelude.{OnOk}
use mathlib.Core.List.{IsPrefix}
use Rattle.std.proofs.lemmas.List.{take_more, append-nil}
use Rattle.ps_compact.specs.declared.reports.Report.{Report}
use Rattle.ps_data.specs.declared.shortage.Memory.{Memory}
use Rattle.ps_kept.specs.declared.values.Kept.{Ghosts}
use Rattle.ps_lock.specs.declared.tables.Seat.{Seat}
use Rattle.ps_lock.specs.Words.{seen_by}
use Rattle.ps_store.specs.declared.events.Event.{Event}
use Rattle.ps_store.specs.declared.events.Event.TheVariants.{Feed, Close, Write, Commit, Compact, WriteCheckpoint, Deploy, Build, Switch, Abandon}
use Rattle.ps_store.specs.declared.faults.CompactFault.{CompactFault}
use Rattle.ps_store.specs.declared.faults.CompactFault.TheVariants as compacting
use Rattle.ps_store.specs.Histories.{compacts, has_deploy}
use Rattle.ps_store.specs.Ledgers.{ledger_of}
use Rattle.ps_store.specs.Totals.{bucket_names_of}
use Rattle.ps_store.specs.TotalsLaws.{BucketNamesTell}
use Rattle.ps_store.specs.declared.fixed.Fixed.{Fixed}
use Rattle.ps_workers.specs.declared.ends.WorkEnd.{WorkEnd}
use Rattle.ps_workers.specs.declared.ends.WorkEnd.TheVariants.{Drained}
use Rattle.ps_workers.specs.declared.ends.WorkEnd.TheVariants as ends
use Rattle.ps_workers.specs.declared.looks.Look.{Look}
use Rattle.ps_workers.specs.declared.shared.SharedStore.{SharedStore}
use Rattle.ps_workers.specs.declared.shared.Terms.{Terms}
use Rattle.ps_workers.specs.Compacting.{IsOver, IsOverWith, HasCompacted, CompactsOn}
use Rattle.ps_workers.specs.Compactions.{CompactsIn}
use Rattle.ps_workers.specs.Looks.{LooksIn, NamesIn}
use Rattle.ps_workers.specs.Terms.{IsStoodFor}
use Rattle.ps_workers.specs.Work.{HasWorked, IsOfCompactor, IsCompacted, EndsCompacting, CompactsAll}
use Rattle.ps_workers.proofs.Drained.{same_name, true_behind, drained_by, stays_drained, plain_before, has_operation}
use Rattle.ps_workers.proofs.Working.{prefix_then, all_both, all_along, worked_looking, worked_adding, worked_then}

-- ---- Compacts in a history

either_more : (a b c : Bool) → (b ≡ true → c ≡ true) → (a || b) ≡ true → (a || c) ≡ true
either_more true b c more h = refl
either_more false b c more h = more h

compacts_more : (bucket : List ℕ) (xs ys : List Event) → compacts bucket xs ≡ true → compacts bucket (xs ++ ys) ≡ true
compacts_more bucket [] ys h = absurd (cc h)
compacts_more bucket (Feed t ∷ xs) ys h = compacts_more bucket xs ys h
compacts_more bucket (Close ∷ xs) ys h = compacts_more bucket xs ys h
compacts_more bucket (Write n ∷ xs) ys h = compacts_more bucket xs ys h
compacts_more bucket (Commit ∷ xs) ys h = compacts_more bucket xs ys h
compacts_more bucket (Compact other ∷ xs) ys h = either_more (bytes_eq bucket other) (compacts bucket xs) (compacts bucket (xs ++ ys)) (λ later. compacts_more bucket xs ys later) h
compacts_more bucket (WriteCheckpoint user client ∷ xs) ys h = compacts_more bucket xs ys h
compacts_more bucket (Deploy rules ∷ xs) ys h = compacts_more bucket xs ys h
compacts_more bucket (Build n ∷ xs) ys h = compacts_more bucket xs ys h
compacts_more bucket (Switch ∷ xs) ys h = compacts_more bucket xs ys h
compacts_more bucket (Abandon ∷ xs) ys h = compacts_more bucket xs ys h

compacts_last : (bucket : List ℕ) (xs : List Event) → compacts bucket (xs ++ Compact bucket ∷ []) ≡ true
compacts_last bucket [] = ap (λ (b : Bool). b || false) (same_name bucket)
compacts_last bucket (Feed t ∷ xs) = compacts_last bucket xs
compacts_last bucket (Close ∷ xs) = compacts_last bucket xs
compacts_last bucket (Write n ∷ xs) = compacts_last bucket xs
compacts_last bucket (Commit ∷ xs) = compacts_last bucket xs
compacts_last bucket (Compact other ∷ xs) = true_behind (bytes_eq bucket other) (compacts bucket (xs ++ Compact bucket ∷ [])) (compacts_last bucket xs)
compacts_last bucket (WriteCheckpoint user client ∷ xs) = compacts_last bucket xs
compacts_last bucket (Deploy rules ∷ xs) = compacts_last bucket xs
compacts_last bucket (Build n ∷ xs) = compacts_last bucket xs
compacts_last bucket (Switch ∷ xs) = compacts_last bucket xs
compacts_last bucket (Abandon ∷ xs) = compacts_last bucket xs

-- ---- buckets of a drained store

-- each has a Compact past the last Commit
is_compacted : (terms : Terms) (start later : List Event) (names : List (List ℕ)) → IsOverWith terms names start → HasCompacted terms start later names → has_deploy later ≡ false
    → IsCompacted terms.fixed.rules later
is_compacted terms start later names over it plain =
    let stays = stays_drained terms start it.came later it.whole over.over it.stood plain in
    record {
      front = start;
      back = it.came;
      whole = sym it.whole;
      no_commit = stays.no_commit;
      each = subst (λ (ns : List (List ℕ)). AllByRecursion (λ (n : List ℕ). compacts n it.came ≡ true) ns) (over.names_are ∙ sym stays.names) it.each;
    }

-- they are compacted later too
compacted_still : (terms : Terms) (start between later : List Event) (names : List (List ℕ)) → IsPrefix between later → IsStoodFor terms later → HasCompacted terms start between names
    → HasCompacted terms start later names
compacted_still terms start between later names more stood one = record {
  stood = stood;
  came = one.came ++ more.0;
  whole = sym (append_assoc start one.came more.0) ∙ (ap (λ (xs : List Event). xs ++ more.0) one.whole ∙ more.1);
  each = all_along (λ (n : List ℕ). compacts n one.came ≡ true) (λ (n : List ℕ). compacts n (one.came ++ more.0) ≡ true) (λ n h. compacts_more n one.came more.0 h) names one.each;
}

-- all of some names
pub take_whole : (k : ℕ) (xs : List (List ℕ)) → length xs ≤ k → take k xs ≡ xs
take_whole zero [] le = refl
take_whole zero (x ∷ xs) le = absurd (omega (arith, le))
take_whole (suc k) [] le = refl
take_whole (suc k) (x ∷ xs) le = ap (λ (ys : List (List ℕ)). x ∷ ys) (take_whole k xs (omega (arith, le)))

-- what holds where a result is Ok
pub where_ok : {X E : Type 0} (P : Type 0) (result : Result X E) (value : X) → result ≡ Ok value → OnOk result P → P
where_ok {X} {E} P result value same it = subst (λ (r : Result X E). OnOk r P) same it

-- none of the names is compacted yet
pub compacted_none : (terms : Terms) (names : List (List ℕ)) (history : List Event) → IsOverWith terms names history → HasCompacted terms history history []
compacted_none terms names history over = record { stood = over.over.stood; came = []; whole = append-nil history; each = tt }

module _ {d : Ghosts SharedStore Event Terms} (terms : Terms) where
  -- a turn of a compactor adds a Compact or nothing
  pub worked_by : (history : List Event) (bucket : List ℕ) (before after : Seat SharedStore Event Terms d) (result : Result Report CompactFault)
      → CompactsIn terms history bucket before after result → HasWorked IsOfCompactor before after
  worked_by history bucket before after (Ok report) it = worked_adding IsOfCompactor history (Compact bucket) before after tt it.0
  worked_by history bucket before after (Err compacting.NoBucket) it = worked_looking IsOfCompactor history before after it.0
  worked_by history bucket before after (Err compacting.Memory) it = worked_looking IsOfCompactor history before after it

  -- one more bucket is compacted
  compacted_more : (start turn : List Event) (names : List (List ℕ)) (name : List ℕ) (before after : Seat SharedStore Event Terms d) (report : Report)
      → HasCompacted terms start (seen_by before) names → CompactsIn terms turn name before after (Ok report) → HasCompacted terms start (seen_by after) (names ++ name ∷ [])
  compacted_more start turn names name before after report one it =
      let more = it.0.knew.0 in
      let last : List Event = Compact name ∷ [] in
      let came : List Event = one.came ++ (more ++ last) in
      let here : compacts name came ≡ true = subst (λ (xs : List Event). compacts name xs ≡ true) (append_assoc one.came more last) (compacts_last name (one.came ++ more)) in
      record {
        stood = subst (λ (xs : List Event). IsStoodFor terms xs) (sym it.0.seen) it.1;
        came = came;
        whole =
            sym (append_assoc start one.came (more ++ last))
            ∙ (ap (λ (xs : List Event). xs ++ (more ++ last)) one.whole
            ∙ (sym (append_assoc (seen_by before) more last) ∙ (ap (λ (xs : List Event). xs ++ last) it.0.knew.1 ∙ sym it.0.seen)));
        each = all_both (λ (n : List ℕ). compacts n came ≡ true) names (name ∷ [])
            (all_along (λ (n : List ℕ). compacts n one.came ≡ true) (λ (n : List ℕ). compacts n came ≡ true) (λ n h. compacts_more n one.came (more ++ last) h) names one.each) (here, tt);
      }

  -- what is drained loses no bucket where no new rules come
  none_missing : (tell : BucketNamesTell) (start turn : List Event) (names done : List (List ℕ)) (k : ℕ) (e : List ℕ) (before after : Seat SharedStore Event Terms d) → k < length names
      → IsOverWith terms names start → HasCompacted terms start (seen_by before) done → CompactsIn terms turn (get_or names k e) before after (Err compacting.NoBucket)
      → has_deploy turn ≡ false → ⊥
  none_missing tell start turn names done k e before after less over so_far it plain =
      let later = prefix_then start (seen_by before) turn (so_far.came, so_far.whole) it.0.knew in
      let stays = stays_drained terms start later.0 turn later.1 over.over it.1 plain in
      has_operation terms.fixed tell turn names k e less (over.names_are ∙ sym stays.names) it.2

  plain_by : (before after : Seat SharedStore Event Terms d) → IsPrefix (seen_by before) (seen_by after) → has_deploy (seen_by after) ≡ false → has_deploy (seen_by before) ≡ false
  plain_by before after more plain = plain_before (seen_by before) more.0 (subst (λ (xs : List Event). has_deploy xs ≡ false) (sym more.1) plain)

  -- where no new rules came, one more of some names is compacted
  pub compacted_next : (tell : BucketNamesTell) (start turn : List Event) (names : List (List ℕ)) (k : ℕ) (name : List ℕ) (before after : Seat SharedStore Event Terms d)
      (result : Result Report CompactFault) (report : Report) → k < length names → name ≡ get_or names k name → result ≡ Ok report
      → (has_deploy (seen_by before) ≡ false → HasCompacted terms start (seen_by before) (take k names)) → CompactsIn terms turn name before after result
      → has_deploy (seen_by after) ≡ false → HasCompacted terms start (seen_by after) (take (k + 1) names)
  compacted_next tell start turn names k name before after result report less name_is same one it plain =
      let compacted : CompactsIn terms turn name before after (Ok report) = subst (λ (r : Result Report CompactFault). CompactsIn terms turn name before after r) same it in
      let more : take (k + 1) names ≡ take k names ++ name ∷ [] = take_more names k name less ∙ ap (λ (n : List ℕ). take k names ++ n ∷ []) (sym name_is) in
      let so_far = one (plain_by before after (worked_by turn name before after (Ok report) compacted).saw plain) in
      subst (λ (ns : List (List ℕ)). HasCompacted terms start (seen_by after) ns) (sym more) (compacted_more start turn (take k names) name before after report so_far compacted)

  -- or new rules came
  pub missing_next : (tell : BucketNamesTell) (start turn : List Event) (names : List (List ℕ)) (k : ℕ) (name : List ℕ) (before after : Seat SharedStore Event Terms d)
      (result : Result Report CompactFault) → k < length names → name ≡ get_or names k name → result ≡ Err compacting.NoBucket → IsOverWith terms names start
      → (has_deploy (seen_by before) ≡ false → HasCompacted terms start (seen_by before) (take k names)) → CompactsIn terms turn name before after result
      → has_deploy (seen_by after) ≡ false → HasCompacted terms start (seen_by after) (take (k + 1) names)
  missing_next tell start turn names k name before after result less name_is same over one it plain =
      let missing : CompactsIn terms turn name before after (Err compacting.NoBucket) = subst (λ (r : Result Report CompactFault). CompactsIn terms turn name before after r) same it in
      let so_far = one (plain_by before after (worked_by turn name before after (Err compacting.NoBucket) missing).saw plain) in
      let at_turn : has_deploy turn ≡ false = subst (λ (xs : List Event). has_deploy xs ≡ false) missing.0.seen plain in
      absurd (none_missing tell start turn names (take k names) k name before after less over so_far (subst (λ (n : List ℕ). CompactsIn terms turn n before after (Err compacting.NoBucket)) name_is missing) at_turn)

  -- a look shows that the store is drained
  pub over_by : (history : List Event) (before after : Seat SharedStore Event Terms d) (look : Look) → LooksIn terms history before after look
      → (look.closed ≡ true) × (look.checkpoint.position.0 ≡ look.head.0) × (look.building ≡ None) → IsOver terms (seen_by after)
  over_by history before after look it shows =
      let here : IsOver terms history = record { stood = it.stood; drained = drained_by terms history it.stood look it.found shows } in
      subst (λ (xs : List Event). IsOver terms xs) (sym it.looks.seen) here

  -- and the names of its buckets were read
  pub over_with : (history : List Event) (before after : Seat SharedStore Event Terms d) (look : Look) (result : Result (List (List ℕ)) Memory) (names : List (List ℕ)) → result ≡ Ok names
      → NamesIn terms history before after look result → (look.closed ≡ true) × (look.checkpoint.position.0 ≡ look.head.0) × (look.building ≡ None)
      → IsOverWith terms names (seen_by after)
  over_with history before after look result names same it shows =
      let read : NamesIn terms history before after look (Ok names) = subst (λ (r : Result (List (List ℕ)) Memory). NamesIn terms history before after look r) same it in
      record {
        over = over_by history before after look it.looks shows;
        names_are = subst (λ (xs : List Event). names ≡ bucket_names_of (ledger_of terms.fixed.rules xs)) (sym it.looks.looks.seen) read.names;
      }

  -- all of them are compacted, and a later look shows that it is drained still
  pub ends_drained : (history start : List Event) (before after : Seat SharedStore Event Terms d) (look : Look) (names : List (List ℕ)) → IsOverWith terms names start
      → (has_deploy (seen_by before) ≡ false → HasCompacted terms start (seen_by before) names) → LooksIn terms history before after look
      → (look.closed ≡ true) × (look.checkpoint.position.0 ≡ look.head.0) × (look.building ≡ None) → EndsCompacting ⊥ terms.fixed (seen_by after) Drained
  ends_drained history start before after look names over one it shows =
      let more = (worked_looking IsOfCompactor history before after it.looks).saw in
      let here = over_by history before after look it shows in (
        here.drained,
        λ plain.
            is_compacted terms start (seen_by after) names over
            (compacted_still terms start (seen_by before) (seen_by after) names more here.stood (one (plain_by before after more plain))) plain,
      )

ends_at : (WasClosed : Type 0) (fixed : Fixed) (history : List Event) (end : WorkEnd) → EndsCompacting ⊥ fixed history end → EndsCompacting WasClosed fixed history end
ends_at WasClosed fixed history ends.Drained it = it
ends_at WasClosed fixed history ends.Stopped it = absurd it.0
ends_at WasClosed fixed history (ends.TooWide count) it = absurd it
ends_at WasClosed fixed history (ends.OpsFull last) it = absurd it
ends_at WasClosed fixed history ends.Memory it = tt

module _ {d : Ghosts SharedStore Event Terms} (WasClosed : Type 0) (fixed : Fixed) (before after : Seat SharedStore Event Terms d) where
  ends_for : (end : WorkEnd) → CompactsAll fixed ⊥ before after end → CompactsAll fixed WasClosed before after end
  ends_for end it = record { worked = it.worked; ends = ends_at WasClosed fixed (seen_by after) end it.ends }

  -- how a compactor goes on behind a turn, whose bell was not asked for
  pub goes_for : (between : Seat SharedStore Event Terms d) (result : Result (Unit {0}) WorkEnd) → HasWorked IsOfCompactor before between → CompactsOn fixed ⊥ between after result
      → CompactsOn fixed WasClosed before after result
  goes_for between (Ok done) one it = worked_then IsOfCompactor before between after one it
  goes_for between (Err end) one it = ends_for end (record { worked = worked_then IsOfCompactor before between after one it.worked; ends = it.ends })
