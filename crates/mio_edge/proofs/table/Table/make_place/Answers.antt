use Rattle.std.proofs.Common.{◌≡◌, [], refl, arith, rules, tests}
use Rattle.std.specs.Vec.{vec_len}
use Rattle.std.proofs.lemmas.List.{nil_from_length}
use Rattle.mio_edge.specs.Closing.{winds_nowhere}
use Rattle.mio_edge.proofs.table.Table.make_place.Goals as goal
use Rattle.std.proofs.lemmas.Grind.{common_steps}

pub returns-else-is_empty-clause-keeps : goal.returns-else-is_empty-clause-keeps
returns-else-is_empty-clause-keeps g c = λ world told. told

pub returns-else-is_empty-clause-winds : goal.returns-else-is_empty-clause-winds
returns-else-is_empty-clause-winds g c = winds_nowhere g.S.Stream.tells c.args.self.now.sessions

pub returns-else-is_empty-clause-turns : goal.returns-else-is_empty-clause-turns
returns-else-is_empty-clause-turns g c = record { ready = refl; behind = refl; entries = refl }

pub returns-else-is_empty-clause-below : goal.returns-else-is_empty-clause-below
returns-else-is_empty-clause-below g c = λ next below. below

pub returns-else-is_empty-clause-stepped : goal.returns-else-is_empty-clause-stepped
returns-else-is_empty-clause-stepped g c = λ stepped. stepped

pub returns-then-is_empty-clause-keeps : goal.returns-then-is_empty-clause-keeps
returns-then-is_empty-clause-keeps g c = c.give_up_one.ensures.keeps

pub returns-then-is_empty-clause-winds : goal.returns-then-is_empty-clause-winds
returns-then-is_empty-clause-winds g c = c.give_up_one.ensures.winds

pub returns-then-is_empty-clause-turns : goal.returns-then-is_empty-clause-turns
returns-then-is_empty-clause-turns g c = c.give_up_one.ensures.turns

pub returns-then-is_empty-clause-below : goal.returns-then-is_empty-clause-below
returns-then-is_empty-clause-below g c = c.give_up_one.ensures.below

pub returns-then-is_empty-clause-stepped : goal.returns-then-is_empty-clause-stepped
returns-then-is_empty-clause-stepped g c = c.give_up_one.ensures.stepped

pub returns-then-is_empty-clause-none : goal.returns-then-is_empty-clause-none
returns-then-is_empty-clause-none g c = λ none room.
    let held : vec_len c.args.self.now.spare ≡ 0 = search (rules, tests, arith) in
    record {
      spare = nil_from_length _ (omega (arith, held, c.args.self.now.spare.ok.0));
      closed = c.give_up_one.ensures.none (omega (arith, held, room)) none;
    }

pub returns-else-is_empty-clause-none : goal.returns-else-is_empty-clause-none
returns-else-is_empty-clause-none g c = grind (arith, common_steps)
