use Rattle.std.proofs.Common.{ap, sym, ◌∙◌, List}
use Rattle.std.specs.Prelude.{slice_get}
use Rattle.idl_consts.proofs.Kept.{Entry}
use Rattle.idl_consts.proofs.knowing.Known.get.Goals as goal

pub returns-in-Some-Some : goal.returns-in-Some-Some
returns-in-Some-Some c = λ d sound.
    let there = rw c.in-Some-Some.field-0-is at c.in-Some-Some.ensures in
    c.row_of.ensures.own d (sound c.place.result c.in-Some-Some.other c.in-Some-Some.row
    (ap (λ (xs : List Entry). slice_get xs c.place.result) (sym c.as_slice.ensures.value) ∙ sym there))
