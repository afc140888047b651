use Rattle.std.proofs.Common.{◌≡◌, ◌∙◌, ap, sym, map}
use Rattle.std.proofs.lemmas.Result.{IfOk-weaker}
use Rattle.clap.specs.Words.{App, app_of, fault_of, found_of, is_simple, is_simple_and_free, kind_of, matches_of}
use Rattle.ps_syncing.specs.Words.{sync_app}
use Rattle.ps_syncing.proofs.ReadingWords.{free, simple, sync_of-refused, sync_of-taken}
use Rattle.ps_syncing.proofs.words.read_words.Goals as goal

pub returns-in-Ok : goal.returns-in-Ok
returns-in-Ok c =
    let words = c.args.words.now in
    let app : app_of c.in_ok-command.command ≡ sync_app = c.in_ok-command.ensures in
    let texts : map (λ text. text.now) c.as_slice.result.now ≡ words = ap (map (λ text. text.now)) c.as_slice.ensures.value ∙ c.in_ok-texts.ensures in
    let matched = c.in-Ok.ensures.matches (ap is_simple app ∙ simple) in
    let rows = matched.0 ∙ ap (λ (a : App). matches_of a (map (λ text. text.now) c.as_slice.result.now)) app ∙ ap (matches_of sync_app) texts in
    let right = sym (ap (λ (a : App). fault_of a (map (λ text. text.now) c.as_slice.result.now)) app ∙ ap (fault_of sync_app) texts) ∙ c.in-Ok.ensures.kinds (ap is_simple_and_free app ∙ free) in
    IfOk-weaker c.named_by.result _ _ (λ named is. is ∙ sync_of-taken (found_of c.in-Ok.matches) words rows right) c.named_by.ensures

pub returns : goal.returns
returns c =
    let words = c.args.words.now in
    let app : app_of c.in_ok-command.command ≡ sync_app = c.in_ok-command.ensures in
    let texts : map (λ text. text.now) c.as_slice.result.now ≡ words = ap (map (λ text. text.now)) c.as_slice.ensures.value ∙ c.in_ok-texts.ensures in
    let faults = ap (λ (a : App). fault_of a (map (λ text. text.now) c.as_slice.result.now)) app ∙ ap (fault_of sync_app) texts in
    let has = rw faults at (c.in-Err.ensures.kinds (ap is_simple_and_free app ∙ free)) in
    sync_of-refused words (kind_of c.in-Err.error) c.refused.result has c.refused.ensures.none c.refused.ensures.cause
