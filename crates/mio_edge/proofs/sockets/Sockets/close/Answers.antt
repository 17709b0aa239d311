use Rattle.std.proofs.Common.{arith, refl}
use Rattle.mio_edge.proofs.Winding.{sockets_moved, sockets_close, sockets_same}
use Rattle.mio_edge.proofs.Turning.{sockets_joined, sockets_join_same}
use Rattle.mio_edge.specs.Fixed.{fixed_there, fixed_kept, fixed_same}
use Rattle.mio_edge.proofs.Numbered.{all_stay_below}
use Rattle.mio_edge.proofs.sockets.Sockets.close.Goals as goal
use Rattle.std.proofs.lemmas.Grind.{common_steps}

pub returns-in-Some-clause-winds : goal.returns-in-Some-clause-winds
returns-in-Some-clause-winds g c =
    let l = record c.in-Some.listening { table = c.close.new.self } in
    sockets_moved g.W.Stream.Stream.tells c.args.self.now _ c.in-Some.listening l c.in-Some.is refl c.close.ensures.winds

pub returns-in-Some-clause-sends : goal.returns-in-Some-clause-sends
returns-in-Some-clause-sends g c = λ world links told is.
    let l = record c.in-Some.listening { table = c.close.new.self } in
    (l, refl, sockets_close g.W.Network.is_telling g.W.Stream.Stream.tells c.args.k c.args.self.now c.in-Some.listening l world links c.in-Some.is c.close.ensures.sends told is)

pub returns-in-Some-clause-joins : goal.returns-in-Some-clause-joins
returns-in-Some-clause-joins g c = sockets_joined c.args.self.now _ c.in-Some.listening (record c.in-Some.listening { table = c.close.new.self }) c.in-Some.is refl c.close.ensures.joins

pub returns-in-Some-clause-same : goal.returns-in-Some-clause-same
returns-in-Some-clause-same g c =
    let l = record c.in-Some.listening { table = c.close.new.self } in
    fixed_there c.args.self.now _ c.in-Some.listening l c.in-Some.is refl (fixed_kept c.in-Some.listening l refl refl c.close.ensures.same)

pub invariant_of-self : goal.invariant_of-self
invariant_of-self g c =
    let serving = c.args.self.now.serving in
    record { numbered = all_stay_below serving.announced serving.listening c.in-Some.listening (record c.in-Some.listening { table = c.close.new.self }) c.in-Some.is serving.numbered c.close.ensures.below }

pub returns-in_default-clause-winds : goal.returns-in_default-clause-winds
returns-in_default-clause-winds g c = sockets_same g.W.Stream.Stream.tells c.args.self.now _ refl

pub returns-in_default-clause-joins : goal.returns-in_default-clause-joins
returns-in_default-clause-joins g c = sockets_join_same c.args.self.now _ refl

pub returns-in_default-clause-same : goal.returns-in_default-clause-same
returns-in_default-clause-same g c = fixed_same c.args.self.now _ refl

pub returns-in_default-clause-leads : goal.returns-in_default-clause-leads
returns-in_default-clause-leads g c = grind (arith, common_steps)

pub returns-in_default-clause-sends : goal.returns-in_default-clause-sends
returns-in_default-clause-sends g c = grind (arith, common_steps)
