-- What files hold, as texts of the IDL.
use Rattle.std.specs.Prelude.{◌≡◌, ℕ, List, [], ◌∷◌, Option, Some, Ok, Err, ⊤}
use Rattle.idl_lexer.specs.declared.token.LexFault.{LexFault}
use Rattle.idl_parser.specs.declared.fault.ParseError.TheVariants as errors
use Rattle.idl_parser.specs.Documents.{Parsed}
use Rattle.grammar_laws.specs.Parsing.{IsText}
use Rattle.idl_rules.specs.declared.row.IdlRow.{IdlRow}
use Rattle.idl_rules.specs.declared.row.IdlRow.TheVariants as rows
use Rattle.idl_names.specs.Files.{FileTree}
use Rattle.idl_files.specs.Walk.{Walked}

module _ (holds : List ℕ → Option (List ℕ)) where
  -- the file of this name holds a text, and the text is this
  abbrev pub IsHeld : List ℕ → Parsed → Type 0
  IsHeld name answer = (text : List ℕ) × (holds name ≡ Some text) × IsText text answer

  -- A file whose text is refused holds a text with that very fault. The other rows say nothing of a text.
  abbrev pub IsRefusedText : List ℕ → ℕ → IdlRow → Type 0
  IsRefusedText name at rows.LexicalFault = (fault : LexFault) × (fault.offset ≡ at) × IsHeld name (Err (errors.Lex fault))
  IsRefusedText name at rows.SyntaxFault = IsHeld name (Err (errors.Syntax at))
  IsRefusedText name at rows.NestedTooDeep = IsHeld name (Err (errors.Nested at))
  IsRefusedText name at row = ⊤

  -- each file is the document of the text that is held under its name
  abbrev pub AreHeld : List FileTree → Type 0
  AreHeld [] = Unit {0}
  AreHeld (f ∷ fs) = IsHeld f.name (Ok f.document) × AreHeld fs

  -- what the walk over the files says
  abbrev pub IsWalked : Walked → Type 0
  IsWalked (Ok files) = AreHeld files
  IsWalked (Err fault) = IsRefusedText fault.file fault.offset fault.row
