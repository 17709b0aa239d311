-- The walk over files, depth first: each is fetched, read and parsed at its first mention, then its includes in order. Its first refusal is told.
use Rattle.std.specs.Prelude.{ℕ, zero, suc, List, [], ◌∷◌, ◌++◌, Option, Some, None, Result, Ok, Err, Bool, ◌==◌, ◌||◌, if◌then◌else◌, length, map, nat_le}
use Rattle.idl_document.specs.declared.document.Name.{Name}
use Rattle.idl_parser.specs.declared.fault.ParseError.{ParseError}
use Rattle.idl_parser.specs.declared.fault.ParseError.TheVariants as errors
use Rattle.idl_parser.specs.Documents.{Parsed, parsed}
use Rattle.idl_document.specs.Trees.{DocumentTree}
use Rattle.idl_names.specs.Files.{FileTree}
use Rattle.idl_rules.specs.declared.row.IdlFault.{IdlFault}
use Rattle.idl_rules.specs.declared.row.IdlRow.{IdlRow}
use Rattle.idl_rules.specs.declared.row.IdlRow.TheVariants as rows
use Rattle.idl_files.specs.declared.mentions.Mention.{Mention}
use Rattle.idl_files.specs.Listing.{place_of, is_open_at, fresh, with_includes}
use Rattle.idl_files.specs.Names.{included_name}

abbrev pub Walked : Type 0
Walked = Result (List FileTree) IdlFault

-- the files after the includes of one, and the places of these includes
abbrev pub Included : Type 0
Included = Result (List FileTree × List ℕ) IdlFault

abbrev pub Placed : Type 0
Placed = Result (List FileTree × ℕ) IdlFault

-- what is refused where a file is mentioned, by the row
abbrev pub refusal : List ℕ → ℕ → IdlRow → IdlFault
refusal file at row = record { file = file; offset = at; row = row }

-- how a file is loaded that is not there yet: the files so far, where it is mentioned (a file's name and an offset), and its name
abbrev pub Load : Type 0
Load = List FileTree → List ℕ → ℕ → List ℕ → Walked

abbrev pub placed : ℕ → Walked → Placed
placed place (Ok files) = Ok (files, place)
placed place (Err fault) = Err fault

-- an include: the offset of its path, and the name of the file that it means
abbrev pub mention_of : List ℕ → Name → Mention
mention_of file include = record { at = include.at; name = included_name file include.text }

-- a file that is there: one whose includes are being read includes itself in the end
abbrev pub known_by : List FileTree → List ℕ → ℕ → ℕ → Placed
known_by files file at place = if is_open_at place files then Err (refusal file at rows.IncludeCycle) else Ok (files, place)

abbrev pub mention_by : Load → List FileTree → List ℕ → Mention → Option ℕ → Placed
mention_by load files file mention None = placed (length files) (load files file mention.at mention.name)
mention_by load files file mention (Some place) = known_by files file mention.at place

-- the place of the file that an include of this file names
unfoldable pub mentioned : Load → List FileTree → List ℕ → Mention → Placed
mentioned load files file mention = mention_by load files file mention (place_of mention.name files)

abbrev pub go_on : Placed → (List FileTree → ℕ → Included) → Included
go_on (Ok x) go = go x.0 x.1
go_on (Err fault) go = Err fault

-- the includes of this file in order, behind those whose places are told
abbrev pub included : Load → List ℕ → List Mention → List FileTree → List ℕ → Included
included load file [] files places = Ok (files, places)
included load file (m ∷ ms) files places = go_on (mentioned load files file m) λ files place. included load file ms files (places ++ place ∷ [])

abbrev pub closed : ℕ → Included → Walked
closed place (Ok x) = Ok (with_includes place x.1 x.0)
closed place (Err fault) = Err fault

-- a parsed file is the next in order; then come its includes
unfoldable pub opened : Load → List FileTree → List ℕ → DocumentTree → Walked
opened load files name document =
    closed (length files) (included load name (map (mention_of name) document.includes) (files ++ fresh name document ∷ []) [])

-- why a text is no document, under its file's name (a text never wants memory)
abbrev pub unparsed : List ℕ → ParseError → IdlFault
unparsed name (errors.Lex fault) = refusal name fault.offset rows.LexicalFault
unparsed name (errors.Syntax at) = refusal name at rows.SyntaxFault
unparsed name (errors.Nested at) = refusal name at rows.NestedTooDeep
unparsed name errors.OutOfMemory = refusal name 0 rows.SyntaxFault

abbrev pub document_by : List ℕ → Parsed → Result DocumentTree IdlFault
document_by name (Ok document) = Ok document
document_by name (Err error) = Err (unparsed name error)

-- the document of the file of this name that is mentioned there, by what the files hold under the name
abbrev pub document_of : List ℕ → ℕ → List ℕ → Option (List ℕ) → Result DocumentTree IdlFault
document_of file at name None = Err (refusal file at rows.MissingFile)
document_of file at name (Some text) = document_by name (parsed text)

abbrev pub open_by : Load → List FileTree → List ℕ → Result DocumentTree IdlFault → Walked
open_by load files name (Ok document) = opened load files name document
open_by load files name (Err fault) = Err fault

-- no file can be loaded any more: 256 are, or as many levels of includes are open
abbrev pub is_full : ℕ → List FileTree → Bool
is_full levels files = (levels == 0) || nat_le 256 (length files)

-- what the files hold under each name
module _ (holds : List ℕ → Option (List ℕ)) where
  -- a 257th file is refused where it is mentioned, and nothing is fetched for it
  abbrev pub load_by : ℕ → Load → Load
  load_by levels load files file at name =
      if is_full levels files then Err (refusal file at rows.TooManyFiles)
      else open_by load files name (document_of file at name (holds name))

  -- the file and what it leads to, within so many levels of includes
  unfoldable pub loaded : ℕ → Load
  loaded zero files file at name = Err (refusal file at rows.TooManyFiles)
  loaded (suc levels) files file at name = load_by (suc levels) (loaded levels) files file at name

  -- the root file is mentioned at its own front; a file at the 256th level has as many loaded before it
  unfoldable pub walked : List ℕ → Walked
  walked root = loaded 256 [] root 0 root
