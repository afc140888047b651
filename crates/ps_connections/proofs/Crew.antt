-- Lists of workers.
use Rattle.std.proofs.Common.{◌≡◌, ℕ, ◌+◌, Bool, ◌||◌, List, [], ◌∷◌, ◌++◌, length, Option, Some, None, IfSome, ◌∙◌, subst, arith, zero, suc, true, get_or, is_some, MatchOption, refl, sym}
use Rattle.std.proofs.Math.ListN.{set}
use mathlib.Core.List.{IsPrefix}
use Rattle.ps_io.specs.declared.clocks.Clock as Clock
use Rattle.ps_io.specs.declared.outputs.Sink as Sink
use Rattle.ps_io.specs.declared.sources.Source as Source
use Rattle.ps_doors.specs.Connections.{Connection, connection_of, with_closed, Lacks, IsFresh}
use Rattle.ps_lock.specs.Words.{IsSeatOf, seen_by, own_entries_of}
use Rattle.ps_lock.proofs.Prefixes.{prefix_trans}
use Rattle.ps_store.specs.declared.events.Event.{Event}
use Rattle.ps_store.specs.declared.fixed.Fixed.{Fixed}
use Rattle.ps_workers.specs.Sharing.{fixed_of}
use Rattle.ps_serve.specs.declared.ends.End.{End}
use Rattle.ps_serve.specs.declared.sites.Site.{Site}
use Rattle.ps_serve.specs.Readers.{Lock}
use Rattle.ps_connections.specs.declared.works.Done.{Done}
use Rattle.ps_connections.specs.declared.works.Worker.{Worker}
use Rattle.ps_connections.specs.Answers.{Upshot, HaveServed, StaysAnswered, is_out_of_memory}
use Rattle.ps_connections.specs.Tasks.{HasAnswered}
use Rattle.ps_connections.specs.Workers.{HasDone, IsGiven, IsAtWork, IsWorkerOf, AreWorkersOf, is_there}
use Rattle.ps_connections.proofs.Answering.{answered_of, told_number}
use Rattle.ps_connections.proofs.Closed.{one_closed}

-- ---- the ends of a worker that has ended

module _ {S K : Type 0} (g : Source.Ghosts S) (h : Sink.Ghosts K) (fixed : Fixed) (site : Site) (may_give : ℕ → Type 0) (before : List Event) where
  -- they are of that number, and what they tell is answered
  pub record HasEnded (closed : Option (List Connection)) (number : ℕ) (after : List Event) (came : Upshot) (from : S) (to : K) : Type 0 where
    pub saw : IsPrefix before after
    pub source_number : g.number from ≡ number
    pub sink_number : h.number to ≡ number
    pub lacks : IfSome closed (Lacks number)
    pub told : IfSome closed (λ all. (one : Connection) → connection_of g h from to ≡ Some one → StaysAnswered fixed site may_give (length before) after one came)

  told_of : (closed : Option (List Connection)) (number : ℕ) (after : List Event) (own : List (Event × ℕ)) (end : End) (from : S) (to : K) (from' : S) (to' : K)
      → IsFresh g h closed number from to → (answered : HasAnswered g h fixed site may_give before after [] own from to from' to' end)
      → IfSome closed (λ all. (one : Connection) → connection_of g h from' to' ≡ Some one
      → StaysAnswered fixed site may_give (length before) after one (record { end = end; own = own }))
  told_of None number after own end from to from' to' new answered = tt
  told_of (Some all) number after own end from to from' to' new answered = λ one is.
      let it = answered_of fixed site may_give (length before) after own answered.outcome number (g.number from) (g.number from') (g.faults from) (g.faults from')
      (h.faults to) (h.faults to') (g.input from) (g.input from') (h.taken to) (h.taken to') one new.1 answered.answers is in
      subst (λ (w : End). StaysAnswered fixed site may_give (length before) after one (record { end = w; own = own })) answered.end_is it

  lacks_of : (closed : Option (List Connection)) (number : ℕ) (from : S) (to : K) → IsFresh g h closed number from to → IfSome closed (Lacks number)
  lacks_of None number from to new = tt
  lacks_of (Some all) number from to new = new.0

-- ---- lists of them

module _ {S K C : Type 0} (g : Source.Ghosts S) (h : Sink.Ghosts K) (t : Clock.Ghosts C) (lock : Lock) (site : Site) (clock : C) (before : List Event) where
  pub workers_more : (closed : Option (List Connection)) (n m : ℕ) (ws : List (Worker S K C)) (w : Worker S K C)
      → AreWorkersOf g h t lock site clock before closed n ws → m ≡ n + length ws → IsWorkerOf g h t lock site clock before closed m w
      → AreWorkersOf g h t lock site clock before closed n (ws ++ w ∷ [])
  workers_more closed n m [] w are is one =
      let here : m ≡ n = omega arith in
      let P : ℕ → Type 0 = λ k. IsWorkerOf g h t lock site clock before closed k w in (subst P here one, tt)
  workers_more closed n m (v ∷ ws) w are is one = (are.0, workers_more closed (n + 1) m ws w are.1 (omega arith) one)

  -- what the worker with these ends has come to
  has_ended : (closed : Option (List Connection)) (number : ℕ) (worker : Worker S K C) (done : Done S K)
      → (one : IsWorkerOf g h t lock site clock before closed number worker) → HasDone g h t lock site clock before one.from one.to done
      → HasEnded g h (fixed_of lock) site (t.may_give clock) before closed number (seen_by done.seat) (record { end = done.end; own = own_entries_of done.seat }) done.from done.to
  has_ended closed number worker done one it =
      let answered = it.answered in record {
        saw = answered.saw;
        source_number = answered.source_number ∙ one.ends.source_number;
        sink_number = answered.sink_number ∙ one.ends.sink_number;
        lacks = lacks_of g h (fixed_of lock) site (t.may_give clock) before closed number one.from one.to one.is_fresh;
        told = told_of g h (fixed_of lock) site (t.may_give clock) before closed number (seen_by done.seat) (own_entries_of done.seat) done.end one.from one.to done.from done.to one.is_fresh answered;
      }

  -- what the first of the workers has come to, and who is left
  pub next_ended : (closed : Option (List Connection)) (number : ℕ) (ws rest : List (Worker S K C)) (w : Worker S K C) (done : Done S K)
      → AreWorkersOf g h t lock site clock before closed number ws → ws ≡ w ∷ rest
      → ((lock' : Lock) (site' : Site) (clock' : C) (before' : List Event) (from' : S) (to' : K) → IsAtWork g h t lock' site' clock' before' from' to' w
      → HasDone g h t lock' site' clock' before' from' to' done)
      → IsSeatOf lock done.seat
      × HasEnded g h (fixed_of lock) site (t.may_give clock) before closed number (seen_by done.seat) (record { end = done.end; own = own_entries_of done.seat }) done.from done.to
      × AreWorkersOf g h t lock site clock before closed (number + 1) rest
  next_ended closed number ws rest w done are is finishes =
      let Q : List (Worker S K C) → Type 0 = λ v. AreWorkersOf g h t lock site clock before closed number v in
      let these : AreWorkersOf g h t lock site clock before closed number (w ∷ rest) = subst Q is are in
      let one = these.0 in
      let it = finishes lock site clock before one.from one.to one.at_work in
      (it.seat, has_ended closed number w done one it, these.1)

-- ---- workers that end

there_is : {A B : Type 0} (child : Option A) (done : Option B) (P : A → Type 0) (Q : B → Type 0) → MatchOption child (MatchOption done ⊥ Q) P → (is_some child || is_some done) ≡ true
there_is (Some child) last P Q it = refl
there_is None (Some last) P Q it = refl
there_is None None P Q it = absurd it

-- a worker that is in its thread was given what that was
pub given_as : {A B : Type 0} (child : Option A) (done : Option B) (a : A) (P : A → Type 0) (Q : B → Type 0) → child ≡ Some a → MatchOption child (MatchOption done ⊥ Q) P → P a
given_as {A = A} child done a P Q was it = let V : Option A → Type 0 = λ w. MatchOption w (MatchOption done ⊥ Q) P in subst V was it

-- a thread has ended
pub ended_as : {A B : Type 0} (child child' : Option A) (done : Option B) (a : A) (b : B) (P : A → Type 0) (Q : B → Type 0)
    → child ≡ Some a → child' ≡ None → (P a → Q b) → MatchOption child (MatchOption done ⊥ Q) P → MatchOption child' (MatchOption (Some b) ⊥ Q) P
ended_as {A = A} child child' done a b P Q was now gives it =
    let W : Option A → Type 0 = λ w. MatchOption w (Q b) P in
    let V : Option A → Type 0 = λ w. MatchOption w (MatchOption done ⊥ Q) P in
    subst W (sym now) (gives (subst V was it))

module _ {S K C : Type 0} (g : Source.Ghosts S) (h : Sink.Ghosts K) (t : Clock.Ghosts C) (lock : Lock) (site : Site) (clock : C) (before : List Event) where
  -- the first of the workers is there
  pub next_there : (closed : Option (List Connection)) (number : ℕ) (ws rest : List (Worker S K C)) (w : Worker S K C)
      → AreWorkersOf g h t lock site clock before closed number ws → ws ≡ w ∷ rest → is_there w ≡ true
  next_there closed number ws rest w are is =
      let Q : List (Worker S K C) → Type 0 = λ v. AreWorkersOf g h t lock site clock before closed number v in
      let these : AreWorkersOf g h t lock site clock before closed number (w ∷ rest) = subst Q is are in
      let one = these.0 in
      there_is w.child w.done (λ child. IsGiven g h t lock site clock before one.from one.to child.promise) (λ done. HasDone g h t lock site clock before one.from one.to done) one.at_work

  -- one of them has ended
  pub set_settled : (closed : Option (List Connection)) (number : ℕ) (ws : List (Worker S K C)) (i : ℕ) (w x : Worker S K C)
      → get_or ws i w ≡ w → ((from : S) (to : K) → IsAtWork g h t lock site clock before from to w → IsAtWork g h t lock site clock before from to x)
      → AreWorkersOf g h t lock site clock before closed number ws → AreWorkersOf g h t lock site clock before closed number (set ws i x)
  set_settled closed number [] i w x is change are = tt
  set_settled closed number (v ∷ ws) zero w x is change are =
      let one = are.0 in
      let Q : Worker S K C → Type 0 = λ u. IsAtWork g h t lock site clock before one.from one.to u in
      (record { from = one.from; to = one.to; at_work = change one.from one.to (subst Q is one.at_work); ends = one.ends; is_fresh = one.is_fresh }, are.1)
  set_settled closed number (v ∷ ws) (suc i) w x is change are = (are.0, set_settled closed (number + 1) ws i w x is change are.1)

-- ---- closing them

module _ {S K : Type 0} (g : Source.Ghosts S) (h : Sink.Ghosts K) (fixed : Fixed) (site : Site) (may_give : ℕ → Type 0) (before : List Event) where
  told_so : (closed : Option (List Connection)) (number : ℕ) (seen after : List Event) (came : Upshot) (from : S) (to : K)
      → IfSome closed (λ all. (one : Connection) → connection_of g h from to ≡ Some one → StaysAnswered fixed site may_give (length before) seen one came)
      → g.number from ≡ number → IsPrefix seen after
      → IfSome closed (λ all. (one : Connection) → connection_of g h from to ≡ Some one → (one.number ≡ number) × StaysAnswered fixed site may_give (length before) after one came)
  told_so None number seen after came from to told source goes_on = tt
  told_so (Some all) number seen after came from to told source goes_on = λ one is. (
    told_number (g.number from) (g.faults from) (h.faults to) (g.input from) (h.taken to) one is ∙ source,
    λ history p valid. told one is history (prefix_trans seen after history goes_on p) valid,
  )

  -- the connection of a worker that has ended was closed; what was answered before stays
  pub next_closed : (mid seen after : List Event) (first done : ℕ) (closed now : Option (List Connection)) (short : Bool) (own own' : List (Event × ℕ)) (came : Upshot) (from : S) (to : K)
      → HaveServed (StaysAnswered fixed site may_give (length before) mid) first closed now done short own own'
      → HasEnded g h fixed site may_give before closed (first + done) seen came from to → IsPrefix mid after → IsPrefix seen after
      → HaveServed (StaysAnswered fixed site may_give (length before) after) first closed (with_closed now (connection_of g h from to)) (done + 1)
      (short || is_out_of_memory came.end) own (own' ++ came.own)
  next_closed mid seen after first done closed now short own own' came from to served ended went goes_on =
      one_closed (StaysAnswered fixed site may_give (length before) mid) (StaysAnswered fixed site may_give (length before) after)
      (λ one upshot stays history p valid. stays history (prefix_trans mid after history went p) valid)
      first done closed now short own own' (connection_of g h from to) came served
      (told_so closed (first + done) seen after came from to ended.told ended.source_number goes_on)
