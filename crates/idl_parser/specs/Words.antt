-- The keywords of the IDL, by their bytes.
use Rattle.std.specs.Prelude.{ℕ, List, Option, Some, None, Bool, if◌then◌else◌, nat_eq, codes}
use Rattle.std.specs.Cmp.Lexicographic.{pointwise}
use Rattle.idl_document.specs.declared.document.BaseWord.{BaseWord}
use Rattle.idl_document.specs.declared.document.BaseWord.TheVariants as bases
use Rattle.idl_parser.specs.declared.words.Keyword.{Keyword}
use Rattle.idl_parser.specs.declared.words.Keyword.TheVariants as keywords

abbrev pub is : List ℕ → List ℕ → Bool
is word other = pointwise nat_eq word other

-- the words of whole numbers
unfoldable pub integer_of : List ℕ → Option BaseWord
integer_of word =
    if is word (codes "i8") then Some bases.I8
    else if is word (codes "byte") then Some bases.I8
    else if is word (codes "i16") then Some bases.I16
    else if is word (codes "i32") then Some bases.I32
    else if is word (codes "i64") then Some bases.I64
    else None

-- the words of all other types without parts
unfoldable pub other_base_of : List ℕ → Option BaseWord
other_base_of word =
    if is word (codes "bool") then Some bases.Bool
    else if is word (codes "double") then Some bases.Double
    else if is word (codes "string") then Some bases.Text
    else if is word (codes "binary") then Some bases.Blob
    else if is word (codes "uuid") then Some bases.Uuid
    else None

abbrev pub or_other : {X : Type 0} → Option X → Option X → Option X
or_other None other = other
or_other (Some x) other = Some x

-- the types that have no parts
unfoldable pub base_of : List ℕ → Option BaseWord
base_of word = or_other (integer_of word) (other_base_of word)

-- the words of types that have parts, and of no type
unfoldable pub type_word_of : List ℕ → Option Keyword
type_word_of word =
    if is word (codes "map") then Some keywords.Map
    else if is word (codes "set") then Some keywords.Set
    else if is word (codes "list") then Some keywords.List
    else if is word (codes "cpp_type") then Some keywords.CppType
    else if is word (codes "void") then Some keywords.Void
    else None

-- the words beside fields, methods and services
unfoldable pub member_word_of : List ℕ → Option Keyword
member_word_of word =
    if is word (codes "oneway") then Some keywords.Oneway
    else if is word (codes "throws") then Some keywords.Throws
    else if is word (codes "extends") then Some keywords.Extends
    else if is word (codes "required") then Some keywords.Required
    else if is word (codes "optional") then Some keywords.Optional
    else None

-- the words that open a header
unfoldable pub header_word_of : List ℕ → Option Keyword
header_word_of word =
    if is word (codes "include") then Some keywords.Include
    else if is word (codes "cpp_include") then Some keywords.CppInclude
    else if is word (codes "namespace") then Some keywords.Namespace
    else None

-- the words that open a declaration
unfoldable pub definition_word_of : List ℕ → Option Keyword
definition_word_of word =
    if is word (codes "const") then Some keywords.Const
    else if is word (codes "typedef") then Some keywords.Typedef
    else if is word (codes "enum") then Some keywords.Enum
    else if is word (codes "struct") then Some keywords.Struct
    else if is word (codes "union") then Some keywords.Union
    else if is word (codes "exception") then Some keywords.Exception
    else if is word (codes "service") then Some keywords.Service
    else None

abbrev pub or_base : Option BaseWord → Option Keyword → Option Keyword
or_base None other = other
or_base (Some base) other = Some (keywords.Base base)

unfoldable pub keyword_of : List ℕ → Option Keyword
keyword_of word =
    or_base (base_of word) (or_other (type_word_of word) (or_other (member_word_of word) (or_other (header_word_of word) (definition_word_of word))))
