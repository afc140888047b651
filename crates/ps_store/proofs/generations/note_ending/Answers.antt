use Rattle.std.proofs.Common.{Some, refl, ap, subst}
use Rattle.std.specs.Option.{IsSome}
use Rattle.std.specs.Prelude.{bytes_eq, is_some, unwrap_or, None}
use Rattle.std.specs.Cmp.Lexicographic.{slice_cmp}
use Rattle.std.specs.Ordering.{nat_cmp}
use Rattle.ps_store.proofs.Maps.{Puts, tied, equal, read_after, read_kept}
use Rattle.ps_store.proofs.generations.note_ending.Goals as goal

pub returns-in-Some : goal.returns-in-Some
returns-in-Some c =
    let puts : Puts (slice_cmp nat_cmp) c.args.endings.now (c.get_mut.follows.lender (Some c.args.ending)) c.args.mark.now (Some c.args.ending) =
    ((c.get_mut.follows.holds (Some c.args.ending)).3 (subst IsSome c.in-Some.ensures.value refl)).0 in
    record {
      endings = read_after (slice_cmp nat_cmp) bytes_eq tied equal (λ o. unwrap_or o None) c.args.endings.now (c.get_mut.follows.lender (Some c.args.ending)) c.args.mark.now (Some (Some c.args.ending)) puts;
      places = read_kept (slice_cmp nat_cmp) bytes_eq tied equal (λ o. is_some o) c.args.endings.now (c.get_mut.follows.lender (Some c.args.ending)) c.args.mark.now (Some (Some c.args.ending)) puts
          (ap is_some c.in-Some.ensures.value);
    }
