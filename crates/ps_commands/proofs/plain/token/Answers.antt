-- Keys and claims are read, and the key of the kid is found, or why they are not.
use Rattle.std.proofs.Common.{◌∙◌, ℕ, Option, List, Vec, Ok, Err, refl, sym, ap, arith}
use Rattle.std.specs.declared.alloc.Global.{Global}
use Rattle.std.proofs.lemmas.Result.{err_from_is_err_and}
use Rattle.ps_io.specs.Contents.{Contents}
use Rattle.ps_queries.specs.declared.askers.Asker.{Asker}
use Rattle.ps_token.specs.declared.key_lists.Key.{Key}
use Rattle.ps_files.specs.declared.faults.Fault.TheVariants.{Claims, Keys}
use Rattle.ps_files.specs.Loading.{FindsKeys, IsKeysFault, FindsAsker, IsClaimsFault}
use Rattle.ps_commands.specs.Commands.{Signing, for_keys, for_claims}
use Rattle.ps_commands.specs.Meanings.{refused, or_none, prints}
use Rattle.ps_commands.specs.Causes.{reading}
use Rattle.ps_commands.proofs.Causes.{cause_of, keys_refused, claims_refused, keys_read}
use Rattle.ps_commands.proofs.Missed.{misses_later}
use Rattle.ps_commands.proofs.Nexts.{means, token_left, signing_left, key_left, at_keys, at_signed}
use Rattle.ps_commands.proofs.plain.token.Goals as goal

pub returns-in_err-keys-clause-finds : goal.returns-in_err-keys-clause-finds
returns-in_err-keys-clause-finds g c =
    let p = err_from_is_err_and c.from_residual.result c.from_residual.ensures.1 in
    rw (p.1, p.2) (λ words is taken faults.
    let names : Signing = record { keys = c.args.keys.now; kid = c.args.kid.now; claims = c.args.claims.now } in
    let held : Option Contents = g.F.Files.held c.args.files.now in
    let start : ℕ = g.F.Files.faults c.args.files.now in
    cause_of (reading held start (g.F.Files.faults c.load_keys.new.files) taken faults) held start words for_keys c.args.keys.now refl (omega arith) refl (at_keys held words names is)
    FindsKeys IsKeysFault (λ fault bytes refuses given. keys_refused (λ keys. token_left names given (Ok keys)) fault bytes refuses) c.in_err-keys.field-0.0 c.in_err-keys.ensures.loads)

pub returns-in_err-asker-clause-finds : goal.returns-in_err-asker-clause-finds
returns-in_err-asker-clause-finds g c =
    let p = err_from_is_err_and c.from_residual-in_err-asker.result c.from_residual-in_err-asker.ensures.1 in
    rw (p.1, p.2) (λ words is taken faults.
    let names : Signing = record { keys = c.args.keys.now; kid = c.args.kid.now; claims = c.args.claims.now } in
    let held : Option Contents = g.F.Files.held c.args.files.now in
    let start : ℕ = g.F.Files.faults c.args.files.now in
    let mid : ℕ = g.F.Files.faults c.load_keys.new.files in
    let keys = keys_read held c.args.keys.now start mid c.in_ok-keys.keys c.in_ok-keys.ensures.loads in
    cause_of (reading held start (g.F.Files.faults c.load_asker.new.files) taken faults) (g.F.Files.held c.load_keys.new.files) mid words for_claims c.args.claims.now
    c.in_ok-keys.ensures.held c.in_ok-keys.ensures.faults refl (at_signed held words names is c.in_ok-keys.keys keys) FindsAsker IsClaimsFault
    (λ fault bytes refuses given. claims_refused (λ asker. signing_left names c.in_ok-keys.keys (Ok asker)) fault bytes refuses) c.in_err-asker.field-0.0 c.in_err-asker.ensures.loads)

pub returns-in-Err-UnknownKey-clause-finds : goal.returns-in-Err-UnknownKey-clause-finds
returns-in-Err-UnknownKey-clause-finds g c = λ words is taken faults.
    let names : Signing = record { keys = c.args.keys.now; kid = c.args.kid.now; claims = c.args.claims.now } in
    let held : Option Contents = g.F.Files.held c.args.files.now in
    let keys = keys_read held c.args.keys.now (g.F.Files.faults c.args.files.now) (g.F.Files.faults c.load_keys.new.files) c.in_ok-keys.keys c.in_ok-keys.ensures.loads in
    let claims = rw c.in_ok-keys.ensures.held at c.in_ok-asker.ensures.loads in (
      refl,
      means held words for_claims c.args.claims.now (at_signed held words names is c.in_ok-keys.keys keys) claims.0 claims.1 (Err (refused Keys)) (λ given.
          ap (λ (x : Option Asker). signing_left names c.in_ok-keys.keys (or_none Claims x)) claims.2
          ∙ ap (λ (k : Option Key). key_left names c.in_ok-asker.asker (or_none Keys k)) (rw c.in-Err-UnknownKey.field-0-is at c.in-Err-UnknownKey.ensures)),
    )

pub returns-in-Ok-clause-finds : goal.returns-in-Ok-clause-finds
returns-in-Ok-clause-finds g c = λ words is.
    let names : Signing = record { keys = c.args.keys.now; kid = c.args.kid.now; claims = c.args.claims.now } in
    let held : Option Contents = g.F.Files.held c.args.files.now in
    let keys = keys_read held c.args.keys.now (g.F.Files.faults c.args.files.now) (g.F.Files.faults c.load_keys.new.files) c.in_ok-keys.keys c.in_ok-keys.ensures.loads in
    let claims = rw c.in_ok-keys.ensures.held at c.in_ok-asker.ensures.loads in
    let signed = c.in-Ok.ensures in
    means held words for_claims c.args.claims.now (at_signed held words names is c.in_ok-keys.keys keys) claims.0 claims.1 (Ok (prints c.into_bytes.result.items)) (λ given.
    ap (λ (x : Option Asker). signing_left names c.in_ok-keys.keys (or_none Claims x)) claims.2
    ∙ ap (λ (k : Option Key). key_left names c.in_ok-asker.asker (or_none Keys k)) signed.1
    ∙ ap (λ (t : List ℕ). Ok (prints t)) (sym (ap (λ (text : Vec ℕ Global). text.items) c.into_bytes.ensures.value ∙ c.in_ok-into_string-in-Ok.ensures ∙ signed.2)))

pub returns-in_err-keys-clause-missed : goal.returns-in_err-keys-clause-missed
returns-in_err-keys-clause-missed g c =
    let p = err_from_is_err_and c.from_residual.result c.from_residual.ensures.1 in
    rw (p.1, p.2) c.in_err-keys.ensures.missed

pub returns-in_err-asker-clause-missed : goal.returns-in_err-asker-clause-missed
returns-in_err-asker-clause-missed g c =
    let p = err_from_is_err_and c.from_residual-in_err-asker.result c.from_residual-in_err-asker.ensures.1 in
    rw (p.1, p.2) (misses_later {X = Vec ℕ Global} (g.F.Files.missed c.args.files.now) (g.F.Files.missed c.load_keys.new.files) (g.F.Files.missed c.load_asker.new.files) (Err c.in_err-asker.field-0.0)
    c.in_ok-keys.ensures.missed c.in_err-asker.ensures.missed)
