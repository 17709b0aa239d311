-- The rows of the refusals of values: the order in which one offset tells them, and what is written of each.
use Rattle.std.specs.Prelude.{ℕ, List, codes}
use Rattle.idl_consts.specs.declared.row.ConstRow.{ConstRow}
use Rattle.idl_consts.specs.declared.row.ConstRow.TheVariants as rows

abbrev pub rank_of : ConstRow → ℕ
rank_of rows.WrongForm = 1
rank_of rows.OutOfRange = 2
rank_of rows.UnknownConstant = 3
rank_of rows.UnknownField = 4
rank_of rows.CycleOfConstants = 5

-- the row's number and its words
abbrev pub row_text : ConstRow → List ℕ
row_text rows.WrongForm = codes "K1 wrong form"
row_text rows.OutOfRange = codes "K2 out of range"
row_text rows.UnknownConstant = codes "K3 unknown constant"
row_text rows.UnknownField = codes "K4 unknown field"
row_text rows.CycleOfConstants = codes "K5 cycle of constants"
