-- The rows of the refusals: the order in which one offset tells them, and what is written of each.
use Rattle.std.specs.Prelude.{ℕ, List, codes}
use Rattle.idl_rules.specs.declared.row.IdlRow.{IdlRow}
use Rattle.idl_rules.specs.declared.row.IdlRow.TheVariants as rows

abbrev pub rank_of : IdlRow → ℕ
rank_of rows.LexicalFault = 1
rank_of rows.SyntaxFault = 2
rank_of rows.MissingFile = 3
rank_of rows.IncludeCycle = 4
rank_of rows.DuplicateName = 5
rank_of rows.UnknownName = 6
rank_of rows.NotAType = 7
rank_of rows.NotAService = 8
rank_of rows.NotAnException = 9
rank_of rows.TypedefCycle = 10
rank_of rows.ServiceCycle = 11
rank_of rows.DuplicateFieldId = 12
rank_of rows.DuplicateFieldName = 13
rank_of rows.IdOutOfRange = 14
rank_of rows.EnumValueOutOfRange = 15
rank_of rows.OnewayWithResult = 16
rank_of rows.TooManyFiles = 17
rank_of rows.NestedTooDeep = 18

-- the row's number and its words
abbrev pub row_text : IdlRow → List ℕ
row_text rows.LexicalFault = codes "I1 lexical fault"
row_text rows.SyntaxFault = codes "I2 syntax fault"
row_text rows.MissingFile = codes "I3 missing file"
row_text rows.IncludeCycle = codes "I4 include cycle"
row_text rows.DuplicateName = codes "I5 duplicate name"
row_text rows.UnknownName = codes "I6 unknown name"
row_text rows.NotAType = codes "I7 not a type"
row_text rows.NotAService = codes "I8 not a service"
row_text rows.NotAnException = codes "I9 not an exception"
row_text rows.TypedefCycle = codes "I10 typedef cycle"
row_text rows.ServiceCycle = codes "I11 service cycle"
row_text rows.DuplicateFieldId = codes "I12 duplicate field id"
row_text rows.DuplicateFieldName = codes "I13 duplicate field name"
row_text rows.IdOutOfRange = codes "I14 id out of range"
row_text rows.EnumValueOutOfRange = codes "I15 enum value out of range"
row_text rows.OnewayWithResult = codes "I16 oneway with result or throws"
row_text rows.TooManyFiles = codes "I17 too many files"
row_text rows.NestedTooDeep = codes "I18 nested too deep"
