-- What is kept of constants.
use Rattle.std.proofs.Common.{◌≡◌, ℕ, zero, suc, List, [], ◌∷◌, ◌++◌, Option, Some, None}
use Rattle.std.specs.Prelude.{slice_get}
use Rattle.idl_names.specs.declared.documents.Spot.{Spot}
use Rattle.idl_names.specs.Files.{FileTree}
use Rattle.idl_consts.specs.declared.row.ConstRow.{ConstRow}
use Rattle.idl_consts.specs.Knowing.{AreRows}

abbrev pub Entry : Type 0
Entry = Option (Spot × Option ConstRow)

got_before : (rows : List Entry) (i : ℕ) (spot : Spot) (row : Option ConstRow) → slice_get (rows ++ None ∷ []) i ≡ Some (Some (spot, row)) → slice_get rows i ≡ Some (Some (spot, row))
got_before [] zero spot row e = absurd (cc)
got_before [] (suc i) spot row e = absurd (cc)
got_before (x ∷ xs) zero spot row e = e
got_before (x ∷ xs) (suc i) spot row e = got_before xs i spot row e

pub none_known : (d : List FileTree) → AreRows d []
none_known d i spot row e = absurd (cc)

pub none_pushed : (d : List FileTree) (rows : List Entry) → AreRows d rows → AreRows d (rows ++ None ∷ [])
none_pushed d rows known i spot row e = known i spot row (got_before rows i spot row e)
