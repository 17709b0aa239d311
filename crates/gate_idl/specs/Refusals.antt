-- The line of a refusal.
use Rattle.std.specs.Prelude.{ℕ, List, ◌++◌, codes, decimal}
use Rattle.idl_rules.specs.Rows.{row_text as idl_text}
use Rattle.idl_consts.specs.Rows.{row_text as const_text}
use Rattle.gate_idl.specs.declared.refusal.Refusal.{Refusal}
use Rattle.gate_idl.specs.declared.refusal.ErrorCode.{ErrorCode}
use Rattle.gate_idl.specs.declared.refusal.ErrorCode.TheVariants as rows

abbrev pub row_text : ErrorCode → List ℕ
row_text (rows.Declared row) = idl_text row
row_text (rows.Value row) = const_text row

-- FILE:OFFSET: ROW TEXT
unfoldable pub refusal_text : Refusal → List ℕ
refusal_text r = r.file ++ codes ":" ++ decimal r.offset ++ codes ": " ++ row_text r.row ++ codes "\n"
