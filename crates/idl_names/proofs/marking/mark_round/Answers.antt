use Rattle.std.proofs.Common.{refl, subst}
use Rattle.std.proofs.lemmas.Result.{on_ok_weaker}
use Rattle.idl_names.specs.Files.{file_trees}
use Rattle.idl_names.specs.Marks.{AreCovered}
use Rattle.idl_names.proofs.Marked.{round_more}
use Rattle.idl_names.proofs.marking.mark_round.Goals as goal

pub returns : goal.returns
returns c =
    on_ok_weaker c.insert_all.result
    (λ e. round_more (file_trees c.args.names.now.files.now) c.args.marks.now c.args.spot c.args.set.now c.requires.marked c.requires.beyond _ c.find_round.new.round refl refl e c.requires.round c.in_ok-find_round.ensures
    (subst (AreCovered c.args.set.now c.args.marks.now c.find_round.new.round) c.if-not-are_covered.false c.are_covered.ensures))
    c.insert_all.ensures
