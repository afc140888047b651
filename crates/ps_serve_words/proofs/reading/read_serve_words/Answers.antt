use Rattle.std.proofs.Common.{◌≡◌, ◌∙◌, ap, ap₂, sym, subst, List, map, rules}
use Rattle.clap.specs.Faults.{fault_of, is_simple_and_free}
use Rattle.clap.specs.Simple.{is_simple, matches_of}
use Rattle.clap.specs.Walk.{Row}
use Rattle.ps_serve_words.specs.Words.{AreSaidBy}
use Rattle.ps_serve_words.proofs.Taking.{serve_is_free, serve_is_simple, blamed}
use Rattle.ps_serve_words.proofs.reading.read_serve_words.Goals as goal

pub returns-in-Ok : goal.returns-in-Ok
returns-in-Ok c =
    let app = c.in_ok-command.ensures in
    let texts : map (λ s. s.now) c.as_slice.result.now ≡ c.args.words.now = search rules in
    let rows = (c.in-Ok.ensures.matches (ap is_simple app ∙ serve_is_simple)).0 ∙ ap₂ matches_of app texts in
    record {
      free = sym (ap₂ fault_of app texts) ∙ c.in-Ok.ensures.kinds (ap is_simple_and_free app ∙ serve_is_free);
      said_by = subst (λ (rows : List Row). AreSaidBy rows c.in_ok-words_of-in-Ok.field-0) rows c.in_ok-words_of-in-Ok.ensures.said;
      ranges = c.in_ok-words_of-in-Ok.ensures.ranges;
    }

pub returns : goal.returns
returns c =
    let app = c.in_ok-command.ensures in
    let texts : map (λ s. s.now) c.as_slice.result.now ≡ c.args.words.now = search rules in
    blamed _ c.args.words.now _ (ap₂ fault_of app texts) (c.fault_of.ensures _ (c.in-Err.ensures.kinds (ap is_simple_and_free app ∙ serve_is_free)))
