-- Runs lead on.
use Rattle.std.proofs.Common.{◌≡◌, ℕ, ◌≤◌, List, [], ◌∷◌, ◌++◌, Option, None, refl, sym, ap, ◌∙◌, arith}
use Rattle.ps_store.specs.Courses.{Course}
use Rattle.ps_session.specs.Sessions.{SessionState, Turned, begin}
use Rattle.ps_streams.specs.Headline.{AgreeUpTo}
use Rattle.ps_streams.specs.Runs.{Turn, Climbs, at_after, at_reached, reached, turn}
use Rattle.ps_streams.specs.RunsTo.{IsRunTo, RunsBegin, RunsTurn, RunsStay, RunsCarry}
use Rattle.ps_streams.proofs.Runs.{climbs_to, runs_climb_on, same_turn}

pub begins : RunsBegin
begins course place requested = record { start = place; requested = requested; turns = []; climbs = omega arith; session_is = refl; at_is = refl }

reached_on : (course : Course) (s : SessionState) (turns more : List Turn) → reached course s (turns ++ more) ≡ reached course (reached course s turns) more
reached_on course s [] more = refl
reached_on course s (t ∷ ts) more = reached_on course (turn course t.place s).session ts more

at_reached_on : (course : Course) (at : ℕ) (s : SessionState) (turns more : List Turn)
    → at_reached course at s (turns ++ more) ≡ at_reached course (at_reached course at s turns) (reached course s turns) more
at_reached_on course at s [] more = refl
at_reached_on course at s (t ∷ ts) more = at_reached_on course (at_after s.phase at t.place) (turn course t.place s).session ts more

abbrev there : ℕ → Turn
there n = record { place = n; expires = None }

pub turns_on : RunsTurn
turns_on course at place n session less run =
    let first : SessionState = begin run.requested in
    record {
      start = run.start;
      requested = run.requested;
      turns = run.turns ++ there n ∷ [];
      climbs = runs_climb_on run.start place n run.turns (there n ∷ []) run.climbs (less, omega arith);
      session_is = ap (λ (s : SessionState). (turn course n s).session) run.session_is ∙ sym (reached_on course first run.turns (there n ∷ []));
      at_is = ap (λ (s : SessionState). at_after s.phase at n) run.session_is
          ∙ ap (λ (m : ℕ). at_after (reached course first run.turns).phase m n) run.at_is
          ∙ sym (at_reached_on course run.start first run.turns (there n ∷ []));
    }

climbs_later : (start place n : ℕ) (turns : List Turn) → place ≤ n → Climbs start turns place → Climbs start turns n
climbs_later start place n [] less climbs = omega (arith, less, climbs)
climbs_later start place n (t ∷ ts) less climbs = (climbs.0, climbs_later t.place place n ts less climbs.1)

pub stays : RunsStay
stays course at place n session less run = record {
  start = run.start;
  requested = run.requested;
  turns = run.turns;
  climbs = climbs_later run.start place n run.turns less run.climbs;
  session_is = run.session_is;
  at_is = run.at_is;
}

module _ (a b : Course) (end : ℕ) (agree : AgreeUpTo a b end) where
  same_reached : (turns : List Turn) (start : ℕ) (s : SessionState) → Climbs start turns end → reached a s turns ≡ reached b s turns
  same_reached [] start s climbs = refl
  same_reached (t ∷ ts) start s climbs =
      ap (λ (turned : Turned). reached a turned.session ts) (same_turn a b end agree s.phase t.place s (climbs_to t.place ts end climbs.1))
      ∙ same_reached ts t.place (turn b t.place s).session climbs.1

  same_at : (turns : List Turn) (start at : ℕ) (s : SessionState) → Climbs start turns end → at_reached a at s turns ≡ at_reached b at s turns
  same_at [] start at s climbs = refl
  same_at (t ∷ ts) start at s climbs =
      ap (λ (turned : Turned). at_reached a (at_after s.phase at t.place) turned.session ts) (same_turn a b end agree s.phase t.place s (climbs_to t.place ts end climbs.1))
      ∙ same_at ts t.place (at_after s.phase at t.place) (turn b t.place s).session climbs.1

pub carries : RunsCarry
carries a b at place session agree run = record {
  start = run.start;
  requested = run.requested;
  turns = run.turns;
  climbs = run.climbs;
  session_is = run.session_is ∙ same_reached a b place agree run.turns run.start (begin run.requested) run.climbs;
  at_is = run.at_is ∙ same_at a b place agree run.turns run.start run.start (begin run.requested) run.climbs;
}
