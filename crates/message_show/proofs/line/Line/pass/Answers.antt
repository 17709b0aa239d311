use Rattle.std.proofs.Common.{arith, ◌≡◌, [], false, refl, ap, sym, ◌∙◌}
use Rattle.std.proofs.lemmas.Grind.{common_steps}
use Rattle.message_show.specs.Pieces.{Waiting, output}
use Rattle.message_show.proofs.Told.{told_passed, told_broke}
use Rattle.message_show.proofs.line.Line.pass.Goals as goal

pub returns-in-All : goal.returns-in-All
returns-in-All g c =
    let sink = g.O.Sink in
    let free : c.args.self.broken ≡ false = ap (λ (l : Waiting). l.broken) (sym c.self.view_is) ∙ c.if-self.false in
    record {
      told = λ from text h. told_passed from (output (sink.written c.args.out.now) (sink.faults c.args.out.now)) (output (sink.written c.write_all.new.sink) (sink.faults c.write_all.new.sink))
          c.args.self text c.args.piece.now free c.requires (c.in-All.ensures.all refl) c.write_all.ensures.later h;
    }

pub returns-in-Failed : goal.returns-in-Failed
returns-in-Failed g c =
    let sink = g.O.Sink in
    let free : c.args.self.broken ≡ false = ap (λ (l : Waiting). l.broken) (sym c.self.view_is) ∙ c.if-self.false in
    record {
      told = λ from text h. rw c.emptied.ensures (told_broke from (output (sink.written c.args.out.now) (sink.faults c.args.out.now)) (output (sink.written c.write_all.new.sink) (sink.faults c.write_all.new.sink))
          c.args.self [] text c.args.piece.now free c.requires c.write_all.ensures.front c.write_all.ensures.later (c.in-Failed.ensures.cause refl) h);
    }

pub returns-then-self : goal.returns-then-self
returns-then-self g c = grind (arith, common_steps)
