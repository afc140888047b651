-- Where no connection is taken, what was served is nothing.
use Rattle.std.proofs.Common.{ℕ, false, List, [], length, Option, Some, None, refl, sym, append-nil}
use Rattle.ps_connections.specs.Answers.{HaveServed, IsAnswered}
use Rattle.ps_doors.specs.Connections.{Connection}
use Rattle.ps_serve.specs.declared.sites.Site.{Site}
use Rattle.ps_store.specs.declared.events.Event.{Event}
use Rattle.ps_store.specs.declared.fixed.Fixed.{Fixed}
use Rattle.ps_serving.specs.Running.{ServesUpTo, none_taken}

served_none : (fixed : Fixed) (site : Site) (may_give : ℕ → Type 0) (low : ℕ) (history : List Event) (first : ℕ) (closed : Option (List Connection))
    → HaveServed (IsAnswered fixed site may_give low history) first closed closed 0 false [] []
served_none fixed site may_give low history first None = tt
served_none fixed site may_give low history first (Some closed) =
    record { more = []; upshots = []; closed = sym (append-nil closed); count_is = refl; served = tt; memory_is = refl; own_is = refl }

pub serves_none : (fixed : Fixed) (site : Site) (may_give : ℕ → Type 0) (start seen : List Event) (first : ℕ) (closed : Option (List Connection))
    → ServesUpTo fixed site may_give start seen first closed closed none_taken
serves_none fixed site may_give start seen first closed = λ history later valid. record {
  own = [];
  own_then = [];
  served = served_none fixed site may_give (length start) history first closed;
}
