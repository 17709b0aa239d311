use Rattle.std.proofs.Common.{arith, ℕ, ◌<◌, ◌-◌, ◌^◌, refl, sym, subst}
use Rattle.mio_edge.specs.Closing.{winds_nowhere}
use Rattle.mio_edge.specs.Numbers.{Passes}
use Rattle.mio_edge.proofs.Worlds.{here_then, nothing_handed}
use Rattle.mio_edge.proofs.listening.Listening.accept.Goals as goal
use Rattle.std.proofs.lemmas.Grind.{common_steps}

pub returns-then-ne : goal.returns-then-ne
returns-then-ne g c =
    record {
      opens = tt;
      kept = λ world told. told;
      number = tt;
      handed = λ is. absurd (nothing_handed is);
      connecting = refl;
      winds = winds_nowhere g.S.Stream.tells c.args.self.now.table.sessions;
      turns = record { ready = refl; behind = refl; entries = refl };
      raised = tt;
      waits = refl;
      below = λ below. below;
      stepped = λ stepped. stepped;
      same = refl;
    }

pub returns-then-ne-2 : goal.returns-then-ne-2
returns-then-ne-2 g c =
    record {
      opens = tt;
      kept = λ world told. told;
      number = tt;
      handed = λ is. absurd (nothing_handed is);
      connecting = refl;
      winds = winds_nowhere g.S.Stream.tells c.args.self.now.table.sessions;
      turns = record { ready = refl; behind = refl; entries = refl };
      raised = tt;
      waits = refl;
      below = λ below. below;
      stepped = λ stepped. stepped;
      same = refl;
    }

pub returns-in-Handed : goal.returns-in-Handed
returns-in-Handed g c =
    record {
      opens = tt;
      kept = λ world told. told;
      number = tt;
      handed = λ is. c.accept.ensures.handed c.in-Handed.is;
      connecting = refl;
      winds = winds_nowhere g.S.Stream.tells c.args.self.now.table.sessions;
      turns = record { ready = refl; behind = refl; entries = refl };
      raised = tt;
      waits = refl;
      below = λ below. below;
      stepped = λ stepped. stepped;
      same = refl;
    }

pub returns-in-Came : goal.returns-in-Came
returns-in-Came g c =
    let opens = c.open_session.ensures in
    let r = c.open_session.result in
    let came = c.in-Came.ensures in record {
      opens = here_then r (λ k opens telling. opens telling (came.came telling)) opens.opens;
      kept = opens.kept;
      number = here_then r (λ k is. subst (λ (j : ℕ). Passes g.W.Network.is_shared c.args.next.now j × (j < 2 ^ 64 - 1)) (sym is) came.number) opens.number;
      handed = λ is. absurd (opens.not_handed is);
      connecting = opens.connecting;
      winds = opens.winds;
      turns = opens.turns;
      raised = opens.raised;
      waits = opens.waits;
      below = opens.below came.number.0.0;
      stepped = opens.stepped;
      same = opens.same;
    }

pub returns : goal.returns
returns g c =
    record {
      opens = tt;
      kept = λ world told. told;
      number = tt;
      handed = λ is. absurd (nothing_handed is);
      connecting = refl;
      winds = winds_nowhere g.S.Stream.tells c.args.self.now.table.sessions;
      turns = record { ready = refl; behind = refl; entries = refl };
      raised = tt;
      waits = refl;
      below = λ below. below;
      stepped = λ stepped. stepped;
      same = refl;
    }

pub open_session-requires : goal.open_session-requires
open_session-requires g c = grind (arith, common_steps)

pub accept-requires : goal.accept-requires
accept-requires g c = grind (arith, common_steps)
