use Rattle.std.proofs.Common.{arith, ◌∙◌}
use Rattle.mio_edge.proofs.Closing.{others_on}
use Rattle.mio_edge.specs.Lines.{same_turns_on}
use Rattle.mio_edge.proofs.listening.Listening.connect_all.Goals as goal
use Rattle.std.proofs.lemmas.Grind.{common_steps}

pub loop-at-preserved : goal.loop-at-preserved
loop-at-preserved g c =
    record {
      prepared = λ k telling ready. c.connect.ensures.prepared k telling (c.loop-at.invariant.prepared k telling ready);
      keeps = λ shut. let first = c.loop-at.invariant.keeps shut in let second = c.connect.ensures.keeps first.0 in (second.0, λ world told. second.1 world (first.1 world told));
      turns = same_turns_on c.args.self.now.table c.loop-at.self.table c.connect.new.self.table c.loop-at.invariant.turns c.connect.ensures.turns;
      below = λ next below. c.connect.ensures.below next (c.loop-at.invariant.below next below);
      others = others_on c.args.place c.args.self.now.table.sessions c.loop-at.self.table.sessions c.connect.new.self.table.sessions c.loop-at.invariant.others c.connect.ensures.others;
      same = c.connect.ensures.same ∙ c.loop-at.invariant.same;
      connecting = c.connect.ensures.connecting ∙ c.loop-at.invariant.connecting;
    }

pub returns-clause-below : goal.returns-clause-below
returns-clause-below g c = grind (arith, common_steps)

pub loop-at-init : goal.loop-at-init
loop-at-init g c = grind (arith, common_steps)
