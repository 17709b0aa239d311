use Rattle.std.proofs.Common.{arith}
use Rattle.session_core.specs.Working.{standing, limit_of}
use Rattle.session_core.proofs.Opening.{opened_fits, opened_rests}
use Rattle.session_core.proofs.Moves.{knows_nothing}
use Rattle.session_core.proofs.Keeping.{sound_of}
use Rattle.session_core.proofs.session.Session.open.Goals as goal

pub invariant_of-result : goal.invariant_of-result
invariant_of-result g c =
    let r = c.in_ok-state.ensures.ready in
    let s = c.in_ok-state.state in
    let rules = g.J.Judge.rules c.args.judge in (
      record {
        ready = sound_of c.args.limit c.args.max_calls s r;
        fits = omega (arith, r.client.limit_is, c.requires.longest);
        known = knows_nothing rules s c.in_ok-state.ensures.unknown;
      },
      opened_rests rules (limit_of s) s.calls.capacity (standing s) s.outcome (omega (arith, r.capacity, c.requires.some)) c.in_ok-state.ensures.empty c.in_ok-state.ensures.open,
    )

pub returns-clause-fits : goal.returns-clause-fits
returns-clause-fits g c = opened_fits (g.J.Judge.rules c.args.judge) c.args.limit c.args.max_calls (standing c.in_ok-state.state) c.in_ok-state.ensures.empty

pub returns-clause-rest : goal.returns-clause-rest
returns-clause-rest g c = opened_rests (g.J.Judge.rules c.args.judge) c.args.limit c.args.max_calls (standing c.in_ok-state.state) c.in_ok-state.state.outcome c.requires.some c.in_ok-state.ensures.empty c.in_ok-state.ensures.open
