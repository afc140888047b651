use Rattle.std.proofs.Common.{◌≡◌, ◌+◌, refl, ap, arith}
use Rattle.ps_store.specs.declared.fixed.Limits.{Limits}
use Rattle.ps_store.proofs.Calls.{upload_low, upload_done, upload_fails}
use Rattle.ps_store.proofs.stores.Store.upload.Goals as goal

pub feed-requires-clause-position : goal.feed-requires-clause-position
feed-requires-clause-position c =
    let limits : c.limits.result.now.positions ≡ c.args.self.now.fixed.limits.positions = ap (λ (l : Limits). l.positions) c.limits.ensures in
    upload_low c.requires.stands.0 c.args.self.now c.requires.stands.1 c.requires.stands.2 (omega (arith, limits))

pub returns-in_err-feed : goal.returns-in_err-feed
returns-in_err-feed c = λ fixed history h.
    let limits : c.limits.result.now.positions ≡ c.args.self.now.fixed.limits.positions = ap (λ (l : Limits). l.positions) c.limits.ensures in
    upload_fails fixed c.args.self.now history h c.args.changes c.feed.new.self (record { 0 = c.args.self.now.head.0 + 1 }) c.if-self.false (omega (arith, limits)) refl
    c.in_err-feed.field-0.0 (c.in_err-feed.ensures fixed history h) c.from_residual.result c.from_residual.ensures.1

pub returns : goal.returns
returns c = λ fixed history h.
    let limits : c.limits.result.now.positions ≡ c.args.self.now.fixed.limits.positions = ap (λ (l : Limits). l.positions) c.limits.ensures in
    upload_done fixed c.args.self.now history h c.args.changes c.feed.new.self _ (omega (arith, limits)) refl _ (c.in_ok-feed.ensures fixed history h)
