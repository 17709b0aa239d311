use Rattle.std.proofs.Common.{◌∙◌, sym, subst, Bool}
use Rattle.idl_names.specs.Cycles.{TellsAny}
use Rattle.idl_names.specs.Files.{file_trees}
use Rattle.idl_names.proofs.Rounds.{round_on, not_round, round_ahead}
use Rattle.idl_names.proofs.cycles.walked_with.Goals as goal

pub returns-then-contains : goal.returns-then-contains
returns-then-contains c = round_on (file_trees c.args.names.now.files.now) c.args.spot c.reach.new.set c.in_ok-reach.ensures (sym c.contains.ensures ∙ c.if-contains.true)

pub returns-then-branch : goal.returns-then-branch
returns-then-branch c =
    let files = file_trees c.args.names.now.files.now in
    let set = c.reach.new.set in
    (round_ahead files c.args.spot set c.in_ok-reach.ensures (subst (λ (b : Bool). TellsAny files set b) c.if-branch.true c.in_ok-any_round.ensures), not_round files c.args.spot set c.in_ok-reach.ensures (sym c.contains.ensures ∙ c.if-contains.false))
