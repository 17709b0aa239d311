-- Names that are declared, and fields, in a list of tokens.
use Rattle.std.specs.Prelude.{ℕ, ℤ, ◌+◌, ◌==◌, if◌then◌else◌, List, drop, Option, Some, None, option_map, Ok, Bool}
use Rattle.std.specs.List.{list_any}
use Rattle.idl_document.specs.declared.document.Asked.{Asked}
use Rattle.idl_document.specs.declared.document.Asked.TheVariants as asks
use Rattle.idl_document.specs.declared.document.Name.{Name}
use Rattle.idl_parser.specs.declared.fields.NamedPreset.{NamedPreset}
use Rattle.idl_parser.specs.declared.tokens.Lexeme.{Lexeme}
use Rattle.idl_parser.specs.declared.tokens.Lexeme.TheVariants as lexemes
use Rattle.idl_parser.specs.declared.words.Keyword.TheVariants as keywords
use Rattle.idl_document.specs.Item.{ValueItem}
use Rattle.idl_document.specs.Items.{items_of_value}
use Rattle.idl_parser.specs.Lexemes.{Scan, lexeme_of, offset_of, word_of, syntax_at, onward, mark_at, stands, sep_len}
use Rattle.idl_parser.specs.Marks.{ampersand_mark, colon_mark, curly_close, dot_byte, equals_mark, most_levels}
use Rattle.idl_parser.specs.Notes.{notes_at, not_closed}
use Rattle.idl_parser.specs.Run.{run, listed}
use Rattle.idl_parser.specs.Seen.{Seen}
use Rattle.idl_document.specs.Trees.{FieldTree, TypeTree}
use Rattle.idl_parser.specs.Types.{type_at}
use Rattle.idl_parser.specs.Values.{value_at}

abbrev pub has_dot : List ℕ → Bool
has_dot word = list_any (λ b. b == dot_byte) word

abbrev pub name_by : Lexeme → ℕ → List Seen → Scan Name
name_by lexemes.Name edge tokens =
    if has_dot (word_of tokens) then syntax_at edge tokens else Ok (record { at = offset_of edge tokens; text = word_of tokens }, 1)
name_by lexeme edge tokens = syntax_at edge tokens

-- a name that is declared has no dot
unfoldable pub name_at : ℕ → List Seen → Scan Name
name_at edge tokens = name_by (lexeme_of tokens) edge tokens

-- a name that is declared, and notes
unfoldable pub noted_name_at : ℕ → List Seen → Scan Name
noted_name_at edge tokens =
    onward 0 (name_at edge tokens) λ name n.
    onward n (notes_at edge (drop n tokens)) λ u n.
    Ok (name, n)

abbrev pub path_by : Lexeme → ℕ → List Seen → Scan Name
path_by lexemes.Name edge tokens = Ok (record { at = offset_of edge tokens; text = word_of tokens }, 1)
path_by lexeme edge tokens = syntax_at edge tokens

-- a name that is meant may have dots
unfoldable pub path_at : ℕ → List Seen → Scan Name
path_at edge tokens = path_by (lexeme_of tokens) edge tokens

abbrev pub given_by : Lexeme → ℕ → List Seen → Scan (Option (ℕ × ℤ))
given_by (lexemes.Int z) edge tokens = onward 1 (mark_at colon_mark edge (drop 1 tokens)) λ u n. Ok (Some (offset_of edge tokens, z), n)
given_by lexeme edge tokens = Ok (None, 0)

-- an id with its offset, where one is given
unfoldable pub given_at : ℕ → List Seen → Scan (Option (ℕ × ℤ))
given_at edge tokens = given_by (lexeme_of tokens) edge tokens

abbrev pub asked_by : Lexeme → Scan Asked
asked_by (lexemes.Keyword keywords.Required) = Ok (asks.Required, 1)
asked_by (lexemes.Keyword keywords.Optional) = Ok (asks.Optional, 1)
asked_by lexeme = Ok (asks.Default, 0)

unfoldable pub asked_at : List Seen → Scan Asked
asked_at tokens = asked_by (lexeme_of tokens)

-- a type, and a mark & where it stands
unfoldable pub typed_at : ℕ → List Seen → Scan TypeTree
typed_at edge tokens =
    onward 0 (type_at most_levels edge tokens) λ ty n.
    Ok (ty, n + (if stands ampersand_mark (drop n tokens) then 1 else 0))

unfoldable pub preset_at : ℕ → List Seen → Scan (Option (List ValueItem))
preset_at edge tokens =
    if stands equals_mark tokens then (onward 1 (value_at most_levels edge (drop 1 tokens)) λ value n. Ok (Some value, n)) else Ok (None, 0)

-- notes and a separator, where they stand
unfoldable pub tail_at : ℕ → List Seen → Scan (Unit {0})
tail_at edge tokens = onward 0 (notes_at edge tokens) λ u n. Ok (tt, n + sep_len (drop n tokens))

-- the curly bracket that closes the body of a declaration, and notes
unfoldable pub body_end_at : ℕ → List Seen → Scan (Unit {0})
body_end_at edge tokens =
    onward 0 (mark_at curly_close edge tokens) λ u n.
    onward n (notes_at edge (drop n tokens)) λ u n.
    Ok (tt, n)

-- a preset, where one stands, with the notes and the separator that end a field
unfoldable pub last_preset_at : ℕ → List Seen → Scan (Option (List ValueItem))
last_preset_at edge tokens =
    onward 0 (preset_at edge tokens) λ preset n.
    onward n (tail_at edge (drop n tokens)) λ u n.
    Ok (preset, n)

-- what stands behind a field's type
pub record NamedPresetTree : Type 0 where
  pub name : Name
  pub preset : Option (List ValueItem)

abbrev pub named_preset_tree : NamedPreset → NamedPresetTree
named_preset_tree p = record { name = p.name; preset = option_map items_of_value p.preset }

unfoldable pub named_preset_at : ℕ → List Seen → Scan NamedPresetTree
named_preset_at edge tokens =
    onward 0 (name_at edge tokens) λ name n.
    onward n (last_preset_at edge (drop n tokens)) λ preset n.
    Ok (record { name = name; preset = preset }, n)

unfoldable pub field_at : ℕ → List Seen → Scan FieldTree
field_at edge tokens =
    onward 0 (given_at edge tokens) λ id n.
    onward n (asked_at (drop n tokens)) λ asked n.
    onward n (typed_at edge (drop n tokens)) λ ty n.
    onward n (named_preset_at edge (drop n tokens)) λ named n.
    Ok (record { id = id; asked = asked; ty = ty; name = named.name; preset = named.preset }, n)

abbrev pub one_field : ℕ → List Seen → Scan (List FieldTree)
one_field edge tokens = listed (field_at edge tokens)

-- fields between two marks
unfoldable pub fields_in : ℕ → ℕ → ℕ → List Seen → Scan (List FieldTree)
fields_in opening closing edge tokens =
    onward 0 (mark_at opening edge tokens) λ u n.
    onward n (run (not_closed closing) (one_field edge) edge (drop n tokens) 0) λ fields n.
    onward n (mark_at closing edge (drop n tokens)) λ u n.
    Ok (fields, n)
