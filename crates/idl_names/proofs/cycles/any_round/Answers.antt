use Rattle.std.proofs.Common.{◌∙◌, sym, subst, Bool}
use Rattle.idl_names.specs.Cycles.{TellsRound}
use Rattle.idl_names.specs.Files.{file_trees}
use Rattle.idl_names.proofs.Rounds.{none_more, none_at_all}
use Rattle.idl_names.proofs.Spots.{get_has}
use Rattle.idl_names.proofs.cycles.any_round.Goals as goal

pub returns-then-branch : goal.returns-then-branch
returns-then-branch c =
    let files = file_trees c.args.names.now.files.now in
    let spot = c.in-Some.spot in
    (spot, (get_has c.args.set.now c.spots.i spot (sym c.in-Some.ensures.value), subst (λ (b : Bool). TellsRound files spot b) c.if-branch.true c.in_ok-is_round.ensures))

pub spots-preserved : goal.spots-preserved
spots-preserved c =
    let files = file_trees c.args.names.now.files.now in
    let spot = c.in-Some.spot in
    none_more files c.args.set.now c.spots.i spot (sym c.in-Some.ensures.value) (subst (λ (b : Bool). TellsRound files spot b) c.if-branch.false c.in_ok-is_round.ensures) c.spots.invariant

pub returns : goal.returns
returns c = none_at_all (file_trees c.args.names.now.files.now) c.args.set.now c.spots.i (sym c.get.ensures.value ∙ c.in_default.is) c.spots.invariant
