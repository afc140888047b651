use Rattle.std.proofs.Common.{◌≡◌, ◌∙◌, length, ap, arith, rules}
use Rattle.std.proofs.lemmas.Grind.{common_steps}
use Rattle.std.proofs.lemmas.Result.{err_from_is_err_and}
use Rattle.ps_lock.specs.Words.{seen_by}
use Rattle.ps_serve.specs.declared.sites.Site.{Site}
use Rattle.ps_store.specs.LedgerLaws.{fed_in}
use Rattle.ps_workers.specs.Renewing.{AreNext}
use Rattle.ps_workers.specs.Sharing.{terms_of}
use Rattle.ps_serving.specs.Openings.{opening}
use Rattle.ps_serving.specs.Serving.{FilesAt, DoorsAt, SinkAt, ServesFed, terms_by, next_by, site_by, opening_by, most_of}
use Rattle.ps_serving.proofs.Closing.{fed_opening}
use Rattle.ps_serving.proofs.Whole.{are_next, serves_so, listen_failed, same_doors, moved}
use Rattle.ps_serving.proofs.serving.serve.Goals as goal

pub returns-in_err-listen-clause-serves : goal.returns-in_err-listen-clause-serves
returns-in_err-listen-clause-serves g c =
    let said = c.args.words.now in
    let may_give = g.C.Clock.may_give c.args.tools.now.clock.now in
    let files : FilesAt = record { held = g.F.Files.held c.args.files.now; faults = g.F.Files.faults c.args.files.now } in
    let files' : FilesAt = record { held = g.F.Files.held c.load_inputs.new.files; faults = g.F.Files.faults c.load_inputs.new.files } in
    let doors : DoorsAt = record {
      opened = g.D.Doors.opened c.args.doors.now;
      coming = g.D.Doors.coming c.args.doors.now;
      closed = g.D.Doors.closed c.args.doors.now;
      faults = g.D.Doors.faults c.args.doors.now;
    } in
    let doors' : DoorsAt = record {
      opened = g.D.Doors.opened c.listen.new.doors;
      coming = g.D.Doors.coming c.listen.new.doors;
      closed = g.D.Doors.closed c.listen.new.doors;
      faults = g.D.Doors.faults c.listen.new.doors;
    } in
    let out : SinkAt = record { taken = g.O.Sink.taken c.args.out.now; faults = g.O.Sink.faults c.args.out.now } in
    let out' : SinkAt = record { taken = g.O.Sink.taken c.listen.new.out; faults = g.O.Sink.faults c.listen.new.out } in
    let p = err_from_is_err_and c.from_residual-in_err-listen.result c.from_residual-in_err-listen.ensures.1 in
    rw (p.1, p.2) (listen_failed may_give said files files' doors doors' out out' c.in_err-listen.field-0.0 c.in_err-listen.ensures.listens c.in_err-listen.ensures.opened)

pub returns-clause-serves : goal.returns-clause-serves
returns-clause-serves g c =
    let inputs = c.in_ok-rules.field-0 in
    let said = c.args.words.now in
    let may_give = g.C.Clock.may_give c.args.tools.now.clock.now in
    let files : FilesAt = record { held = g.F.Files.held c.args.files.now; faults = g.F.Files.faults c.args.files.now } in
    let files' : FilesAt = record { held = g.F.Files.held c.load_inputs.new.files; faults = g.F.Files.faults c.load_inputs.new.files } in
    let doors : DoorsAt = record {
      opened = g.D.Doors.opened c.args.doors.now;
      coming = g.D.Doors.coming c.args.doors.now;
      closed = g.D.Doors.closed c.args.doors.now;
      faults = g.D.Doors.faults c.args.doors.now;
    } in
    let mid : DoorsAt = record {
      opened = g.D.Doors.opened c.listen.new.doors;
      coming = g.D.Doors.coming c.listen.new.doors;
      closed = g.D.Doors.closed c.listen.new.doors;
      faults = g.D.Doors.faults c.listen.new.doors;
    } in
    let doors' : DoorsAt = record {
      opened = g.D.Doors.opened c.serve_fed.new.doors;
      coming = g.D.Doors.coming c.serve_fed.new.doors;
      closed = g.D.Doors.closed c.serve_fed.new.doors;
      faults = g.D.Doors.faults c.serve_fed.new.doors;
    } in
    let out : SinkAt = record { taken = g.O.Sink.taken c.args.out.now; faults = g.O.Sink.faults c.args.out.now } in
    let out1 : SinkAt = record { taken = g.O.Sink.taken c.listen.new.out; faults = g.O.Sink.faults c.listen.new.out } in
    let out' : SinkAt = record { taken = g.O.Sink.taken c.serve_fed.new.out; faults = g.O.Sink.faults c.serve_fed.new.out } in
    let site : Site = record { keys = c.in_ok-rules.keys; until_drained = said.until_drained } in
    let start = seen_by c.in_ok-lock.seat in
    let terms_is : terms_of c.in_ok-lock.lock ≡ terms_by inputs = c.in_ok-lock.ensures.terms in
    let next = c.next_after-next.result in
    let next_is : next ≡ next_by said inputs = c.next_after-next.ensures in
    let site_is : site ≡ site_by said inputs = cc in
    let start_is : start ≡ opening_by said inputs = c.in_ok-lock.ensures.seen in
    let given : ServesFed (terms_of c.in_ok-lock.lock) next site may_give start c.pace_of.result.most mid doors' out1 out' c.serve_fed.result = search rules in
    let doors_are : mid ≡ doors =
    same_doors mid.opened doors.opened mid.coming doors.coming mid.closed doors.closed mid.faults doors.faults c.in_ok-listen.ensures.opened c.in_ok-listen.ensures.coming
    c.in_ok-listen.ensures.closed c.in_ok-listen.ensures.listens.1 in
    let fed = moved may_give (terms_of c.in_ok-lock.lock) (terms_by inputs) next (next_by said inputs) site (site_by said inputs) start (opening_by said inputs) c.pace_of.result.most (most_of said) mid doors doors' out1 out'
    c.serve_fed.result terms_is next_is site_is start_is c.pace_of.ensures.most doors_are given in
    serves_so c.ledgers_tell_histories.ensures c.ledgers_tell_ops.ensures.one c.ledgers_tell_events.ensures.feeds c.ledgers_tell_reach.ensures c.totals_are_one.ensures may_give said files files' doors doors' out out1 out' inputs
    c.in_ok-rules.ensures.loads c.in_ok-listen.ensures.listens.0 c.in_ok-listen.ensures.faults c.serve_fed.result fed

pub serve_fed-requires-clause-fed : goal.serve_fed-requires-clause-fed
serve_fed-requires-clause-fed g c =
    let drained = c.args.words.now.until_drained in
    let transactions = c.in_ok-rules.field-0.transactions.items in
    let start = seen_by c.in_ok-lock.seat in
    let seen : start ≡ opening drained transactions = c.in_ok-lock.ensures.seen in
    let count : length (fed_in start) ≡ length transactions = ap length (ap fed_in seen ∙ fed_opening drained transactions) in
    first_of (cc, search rules, grind (arith, common_steps))

pub serve_fed-requires-clause-next : goal.serve_fed-requires-clause-next
serve_fed-requires-clause-next g c =
    let inputs = c.in_ok-rules.field-0 in
    let next = c.next_after-next.result in
    let terms_is : terms_of c.in_ok-lock.lock ≡ terms_by inputs = c.in_ok-lock.ensures.terms in
    let next_is : next ≡ next_by c.args.words.now inputs = c.next_after-next.ensures in
    let given : AreNext (terms_of c.in_ok-lock.lock) next = rw (next_is, terms_is) (are_next c.args.words.now.next_after inputs.rules inputs.next) in
    search rules
