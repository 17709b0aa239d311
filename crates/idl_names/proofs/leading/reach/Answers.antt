use Rattle.std.proofs.Common.{subst}
use Rattle.std.proofs.lemmas.Result.{on_ok_weaker}
use Rattle.idl_names.specs.declared.marks.Marks.{Marks}
use Rattle.idl_names.specs.Files.{file_trees}
use Rattle.idl_names.specs.Marks.{IsBeyond}
use Rattle.idl_names.proofs.Reaching.{all_reached}
use Rattle.idl_names.proofs.leading.reach.Goals as goal

pub returns : goal.returns
returns c =
    let files = file_trees c.args.names.now.files.now in
    let set = c.reach_fresh-reached.new.set in
    on_ok_weaker c.reach_fresh-reached.result
    (λ b. all_reached files c.args.from set (subst (λ (m : Marks). IsBeyond files m c.args.from set) c.new-marks.ensures b))
    c.reach_fresh-reached.ensures
