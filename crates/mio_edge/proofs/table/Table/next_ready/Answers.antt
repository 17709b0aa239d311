use Rattle.std.proofs.Common.{arith, [], ◌∷◌, ◌++◌, drop, None, Some, append_assoc, refl, sym, ap, ◌∙◌, subst}
use Rattle.mio_edge.specs.Tables.{TableTells, NamesIfAny}
use Rattle.mio_edge.specs.Turns.{TakesFirst}
use Rattle.mio_edge.specs.Closing.{winds_nowhere, winds_on}
use Rattle.mio_edge.specs.Order.{InTurn}
use Rattle.mio_edge.proofs.Steps.{no_turn, turns_on}
use Rattle.mio_edge.specs.Lines.{moves_still}
use Rattle.mio_edge.proofs.Order.{turn_on}
use Rattle.mio_edge.proofs.Tables.{drop_one}
use Rattle.mio_edge.specs.Numbered.{IsOneOf}
use Rattle.mio_edge.proofs.table.Table.next_ready.Goals as goal
use Rattle.std.proofs.lemmas.Grind.{common_steps}

pub returns-clause-names : goal.returns-clause-names
returns-clause-names g c = λ world told. (world, c.loop.invariant.keeps world told, refl)

pub loop-preserved : goal.loop-preserved
loop-preserved g c = record {
  steps = turns_on c.args.self.now c.loop.self c.turn_first.new.self c.loop.invariant.steps c.turn_first.ensures.steps;
  left = c.turn_first.ensures.taken ∙ (ap (drop 1) c.loop.invariant.left ∙ drop_one c.loop.counter c.args.self.now.ready.places.items);
  same = c.turn_first.ensures.same ∙ c.loop.invariant.same;
  keeps = λ world told.
      let moved = c.turn_first.ensures.names world (c.loop.invariant.keeps world told) in
      subst (λ w. TableTells g.S.Stream.tells c.turn_first.new.self w) (subst (λ o. NamesIfAny o world moved.0) c.in_default.is moved.2) moved.1;
  front =
      let before = c.loop.invariant.front in
      let taken : TakesFirst None c.loop.self c.turn_first.new.self = subst (λ o. TakesFirst o c.loop.self c.turn_first.new.self) c.in_default.is c.turn_first.ensures.first in
      (before.0 ++ taken.0, before.1 ∙ (ap (λ xs. before.0 ++ xs) taken.1 ∙ sym (append_assoc before.0 taken.0 c.turn_first.new.self.ready.places.items)));
  turn = λ world told.
      turn_on None c.args.self.now c.loop.self c.turn_first.new.self (c.loop.invariant.turn world told)
      (subst (λ o. InTurn o c.loop.self c.turn_first.new.self) c.in_default.is (c.turn_first.ensures.turn world (c.loop.invariant.keeps world told)));
  stepped = λ world told stepped. c.turn_first.ensures.stepped world (c.loop.invariant.keeps world told) (c.loop.invariant.stepped world told stepped);
  below = λ next below. c.turn_first.ensures.below next (c.loop.invariant.below next below);
  winds = winds_on g.S.Stream.tells c.args.self.now.sessions c.loop.self.sessions c.turn_first.new.self.sessions c.loop.invariant.winds c.turn_first.ensures.winds;
}

pub returns-in-Some-clause-first : goal.returns-in-Some-clause-first
returns-in-Some-clause-first g c =
    let before = c.loop.invariant.front in
    let taken : TakesFirst (Some c.in-Some.number) c.loop.self c.turn_first.new.self = subst (λ o. TakesFirst o c.loop.self c.turn_first.new.self) c.in-Some.is c.turn_first.ensures.first in
    (before.0 ++ taken.0, taken.1, before.1 ∙ (ap (λ xs. before.0 ++ xs) taken.2 ∙ sym (append_assoc before.0 taken.0 (taken.1 ∷ c.turn_first.new.self.ready.places.items))), taken.3)

pub returns-in-Some-clause-winds : goal.returns-in-Some-clause-winds
returns-in-Some-clause-winds g c = winds_on g.S.Stream.tells c.args.self.now.sessions c.loop.self.sessions c.turn_first.new.self.sessions c.loop.invariant.winds c.turn_first.ensures.winds

pub returns-in-Some-clause-turn : goal.returns-in-Some-clause-turn
returns-in-Some-clause-turn g c = λ world told.
    turn_on (Some c.in-Some.number) c.args.self.now c.loop.self c.turn_first.new.self (c.loop.invariant.turn world told)
    (subst (λ o. InTurn o c.loop.self c.turn_first.new.self) c.in-Some.is (c.turn_first.ensures.turn world (c.loop.invariant.keeps world told)))

pub loop-init : goal.loop-init
loop-init g c = record {
  steps = no_turn c.args.self.now c.args.self.now refl refl;
  left = refl;
  same = refl;
  keeps = λ world told. told;
  front = ([], refl);
  turn = λ world told. ([], moves_still c.args.self.now);
  stepped = λ world told stepped. stepped;
  below = λ next below. below;
  winds = winds_nowhere g.S.Stream.tells c.args.self.now.sessions;
}

pub returns-clause-steps : goal.returns-clause-steps
returns-clause-steps g c = c.loop.invariant.steps

pub returns-in-Some-clause-steps : goal.returns-in-Some-clause-steps
returns-in-Some-clause-steps g c = turns_on c.args.self.now c.loop.self c.turn_first.new.self c.loop.invariant.steps c.turn_first.ensures.steps

pub returns-in-Some-clause-names : goal.returns-in-Some-clause-names
returns-in-Some-clause-names g c = λ world told.
    let moved = c.turn_first.ensures.names world (c.loop.invariant.keeps world told) in
    (moved.0, moved.1, subst (λ o. NamesIfAny o world moved.0) c.in-Some.is moved.2)

pub returns-in-Some-clause-below : goal.returns-in-Some-clause-below
returns-in-Some-clause-below g c = λ next below. c.turn_first.ensures.below next (c.loop.invariant.below next below)

pub returns-in-Some-clause-number : goal.returns-in-Some-clause-number
returns-in-Some-clause-number g c = λ next below. subst (λ o. IsOneOf o c.loop.self.sessions) c.in-Some.is c.turn_first.ensures.number next (c.loop.invariant.below next below)

pub returns-in-Some-clause-stepped : goal.returns-in-Some-clause-stepped
returns-in-Some-clause-stepped g c = λ world told stepped. c.turn_first.ensures.stepped world (c.loop.invariant.keeps world told) (c.loop.invariant.stepped world told stepped)

pub returns-clause-none : goal.returns-clause-none
returns-clause-none g c = grind (arith, common_steps)

pub returns-clause-below : goal.returns-clause-below
returns-clause-below g c = grind (arith, common_steps)
