use Rattle.std.proofs.Common.{arith, ap, sym, ◌∙◌, List}
use Rattle.std.specs.Prelude.{slice_get}
use Rattle.idl_consts.specs.declared.survey.ConstRef.{ConstRef}
use Rattle.idl_consts.proofs.Trailing.{takes_name, takes_last}
use Rattle.idl_consts.proofs.follow.take_next.Goals as goal
use Rattle.std.proofs.lemmas.Grind.{elements}

pub returns-in-Some : goal.returns-in-Some
returns-in-Some c = λ d.
    takes_name d c.args.frame.now c.in-Some.name (ap (λ (ss : List ConstRef). slice_get ss c.args.frame.now.next) (sym c.as_slice.ensures.value) ∙ sym c.in-Some.ensures)

pub returns-in-None : goal.returns-in-None
returns-in-None c = λ d.
    rw c.fault_next.ensures (takes_last d c.args.frame.now (ap (λ (ss : List ConstRef). slice_get ss c.args.frame.now.next) (sym c.as_slice.ensures.value) ∙ sym c.in-None.ensures))

pub overflow_add-frame : goal.overflow_add-frame
overflow_add-frame c = grind (arith, elements)
