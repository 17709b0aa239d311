use Rattle.std.proofs.Common.{arith, subst, List, ℕ}
use Rattle.std.specs.Io.KnownBytes.{Appends}
use Rattle.std.proofs.lemmas.Grind.{common_steps}
use Rattle.gate_io.proofs.Streams.{appends_on, next_piece}
use Rattle.gate_io.proofs.writing.write_all.Goals as goal

pub loop-at-preserved : goal.loop-at-preserved
loop-at-preserved g c =
    let sink = g.S.Sink in
    let took = c.in-Took.ensures.bytes in
    let bytes = c.args.bytes.now in
    record {
      within = omega (arith, took.1);
      written = subst (λ (xs : List ℕ). Appends (sink.written c.args.sink.now) (sink.written c.write.new.self) xs) (next_piece c.args.bytes.now c.loop-at.at c.in-Took.count c.loop-at.invariant.within)
          (appends_on (sink.written c.args.sink.now) (sink.written c.loop-at.sink) (sink.written c.write.new.self) _ _ c.loop-at.invariant.written took.2);
      later = omega (arith, c.loop-at.invariant.later, c.in-Took.ensures.later);
    }

pub returns-clause-all : goal.returns-clause-all
returns-clause-all g c = grind (arith, common_steps)
