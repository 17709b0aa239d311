-- The lexemes and keywords of the parser by name. The parser keeps their types to itself, so each is taken from a definition that has it.
use Rattle.std.proofs.Common.{◌≡◌, ℕ, ℤ, List, [], ◌∷◌, ◌++◌, Option, Some, None}
use Rattle.idl_document.specs.declared.document.Asked.TheVariants as asks
use Rattle.idl_document.specs.declared.document.BaseWord.{BaseWord}
use Rattle.idl_document.specs.declared.document.Kin.{Kin}
use Rattle.idl_document.specs.declared.document.Kin.TheVariants as kins
use Rattle.idl_document.specs.declared.document.Member.{Member}
use Rattle.idl_document.specs.declared.document.Name.{Name}
use Rattle.idl_document.specs.Item.{ValueItem}
use Rattle.idl_document.specs.Trees.{FunctionTree, const_of, typedef_of, enum_of, service_of, FieldTree, TypeTree, map_at, set_at, list_at}
use Rattle.idl_lexer.specs.declared.token.TokenForm.TheVariants as forms
use Rattle.idl_parser.specs.Grammar.{Cpp, Declares, DerivesArguments, DerivesAsked, DerivesBase, DerivesDefinition, DerivesFunctions, DerivesHeader, DerivesKin, DerivesMembers, DerivesOneway, DerivesReturns, DerivesScope, DerivesThrows, DerivesType, DerivesValue, Is, IsMark, IsWord, Means, Notes}
use Rattle.idl_parser.specs.Lexemes.{lexeme_of}
use Rattle.idl_parser.specs.Marks.{angle_close, angle_open, comma_mark, curly_close, curly_open, equals_mark}
use Rattle.idl_parser.specs.Seeing.{form_lexeme, word_lexeme}
use Rattle.idl_parser.specs.Seen.{Seen}
use Rattle.idl_parser.specs.Words.{or_base}

-- ---- lexemes

abbrev of_term : {A : Type 0} → A → Type 0
of_term {A} a = A

abbrev pub Lexeme : Type 0
Lexeme = of_term (lexeme_of [])

pattern abbrev pub End : Lexeme
End = lexeme_of []

pattern abbrev pub Word : Lexeme
Word = word_lexeme None

pattern abbrev pub Int : ℤ → Lexeme
Int z = form_lexeme (forms.Int z) []

pattern abbrev pub Double : Lexeme
Double = form_lexeme forms.Double []

pattern abbrev pub Literal : Lexeme
Literal = form_lexeme forms.Literal []

pattern abbrev pub Mark : ℕ → Lexeme
Mark m = form_lexeme (forms.Mark m) []

abbrev option_type : {K : Type 0} → Option K → Type 0
option_type {K} o = K

abbrev pub Keyword : Type 0
Keyword = option_type (or_base None None)

pattern abbrev pub Reserved : Keyword → Lexeme
Reserved k = word_lexeme (Some k)

-- ---- keywords

abbrev cpp_of : {k : Keyword} → ((word text : List Seen) → IsWord k word → Is Literal text → Cpp (word ++ text)) → Keyword
cpp_of {k} c = k

pattern abbrev pub CppType : Keyword
CppType = cpp_of Cpp.given

abbrev option_value : {A : Type 0} → A → Option A → A
option_value other None = other
option_value other (Some a) = a

pattern abbrev pub Base : BaseWord → Keyword
Base word = option_value CppType (or_base (Some word) None)

abbrev map_of : {l : Lexeme} → ((s : Seen) (k v : TypeTree) (cpp opening key comma value closing notes : List Seen) → s.lexeme ≡ l → Cpp cpp → IsMark angle_open opening → DerivesType k key → IsMark comma_mark comma → DerivesType v value
    → IsMark angle_close closing → Notes notes → DerivesType (map_at s.at k v) (s ∷ (cpp ++ opening ++ key ++ comma ++ value ++ closing ++ notes))) → Lexeme
map_of {l} c = l

abbrev set_of : {l : Lexeme} → ((s : Seen) (e : TypeTree) (cpp opening element closing notes : List Seen) → s.lexeme ≡ l → Cpp cpp → IsMark angle_open opening → DerivesType e element → IsMark angle_close closing → Notes notes
    → DerivesType (set_at s.at e) (s ∷ (cpp ++ opening ++ element ++ closing ++ notes))) → Lexeme
set_of {l} c = l

abbrev list_of : {l : Lexeme} → ((s : Seen) (e : TypeTree) (cpp opening element closing behind notes : List Seen) → s.lexeme ≡ l → Cpp cpp → IsMark angle_open opening → DerivesType e element → IsMark angle_close closing → Cpp behind
    → Notes notes → DerivesType (list_at s.at e) (s ∷ (cpp ++ opening ++ element ++ closing ++ behind ++ notes))) → Lexeme
list_of {l} c = l

abbrev word_of : Lexeme → Keyword
word_of (Reserved k) = k
word_of l = CppType

pattern abbrev pub Map : Keyword
Map = word_of (map_of DerivesType.map)

pattern abbrev pub Set : Keyword
Set = word_of (set_of DerivesType.set)

pattern abbrev pub ListWord : Keyword
ListWord = word_of (list_of DerivesType.list)

abbrev void_of : {k : Keyword} → ((word : List Seen) → IsWord k word → DerivesReturns None word) → Keyword
void_of {k} c = k

pattern abbrev pub Void : Keyword
Void = void_of DerivesReturns.void

abbrev oneway_of : {l : Lexeme} → ((s : Seen) → s.lexeme ≡ l → DerivesOneway (Some s.at) (s ∷ [])) → Lexeme
oneway_of {l} c = l

pattern abbrev pub Oneway : Keyword
Oneway = word_of (oneway_of DerivesOneway.given)

abbrev throws_of : {k : Keyword} → ((fs : List FieldTree) (word fields : List Seen) → IsWord k word → DerivesArguments fs fields → DerivesThrows fs (word ++ fields)) → Keyword
throws_of {k} c = k

pattern abbrev pub Throws : Keyword
Throws = throws_of DerivesThrows.given

abbrev extends_of : {k : Keyword} → ((n : Name) (word name : List Seen) → IsWord k word → Means n name → DerivesBase (Some n) (word ++ name)) → Keyword
extends_of {k} c = k

pattern abbrev pub Extends : Keyword
Extends = extends_of DerivesBase.given

abbrev required_of : {k : Keyword} → ((word : List Seen) → IsWord k word → DerivesAsked asks.Required word) → Keyword
required_of {k} c = k

pattern abbrev pub Required : Keyword
Required = required_of DerivesAsked.required

abbrev optional_of : {k : Keyword} → ((word : List Seen) → IsWord k word → DerivesAsked asks.Optional word) → Keyword
optional_of {k} c = k

pattern abbrev pub Optional : Keyword
Optional = optional_of DerivesAsked.optional

abbrev include_of : {k : Keyword} → ((word : List Seen) (s : Seen) → IsWord k word → s.lexeme ≡ Literal → DerivesHeader (record { at = s.at; text = s.word } ∷ []) (word ++ s ∷ [])) → Keyword
include_of {k} c = k

pattern abbrev pub Include : Keyword
Include = include_of DerivesHeader.includes

abbrev cpp_include_of : {k : Keyword} → ((word text : List Seen) → IsWord k word → Is Literal text → DerivesHeader [] (word ++ text)) → Keyword
cpp_include_of {k} c = k

pattern abbrev pub CppInclude : Keyword
CppInclude = cpp_include_of DerivesHeader.cpp_include

abbrev namespace_of : {k : Keyword} → ((n : Name) (word scope name notes : List Seen) → IsWord k word → DerivesScope scope → Means n name → Notes notes → DerivesHeader [] (word ++ scope ++ name ++ notes)) → Keyword
namespace_of {k} c = k

pattern abbrev pub Namespace : Keyword
Namespace = namespace_of DerivesHeader.namespace

abbrev const_word : {k : Keyword} → ((n : Name) (t : TypeTree) (v : List ValueItem) (word ty name equal value : List Seen) → IsWord k word → DerivesType t ty → Declares n name → IsMark equals_mark equal → DerivesValue v value
    → DerivesDefinition (const_of n t v) (word ++ ty ++ name ++ equal ++ value)) → Keyword
const_word {k} c = k

pattern abbrev pub Const : Keyword
Const = const_word DerivesDefinition.const

abbrev typedef_word : {k : Keyword} → ((n : Name) (t : TypeTree) (word ty name notes : List Seen) → IsWord k word → DerivesType t ty → Declares n name → Notes notes → DerivesDefinition (typedef_of n t) (word ++ ty ++ name ++ notes)) → Keyword
typedef_word {k} c = k

pattern abbrev pub Typedef : Keyword
Typedef = typedef_word DerivesDefinition.typedef

abbrev enum_word : {k : Keyword} → ((n : Name) (ms : List Member) (word name opening inside closing notes : List Seen) → IsWord k word → Declares n name → IsMark curly_open opening → DerivesMembers ms inside → IsMark curly_close closing
    → Notes notes → DerivesDefinition (enum_of n ms) (word ++ name ++ opening ++ inside ++ closing ++ notes)) → Keyword
enum_word {k} c = k

pattern abbrev pub Enum : Keyword
Enum = enum_word DerivesDefinition.enum

abbrev kin_of : {k : Keyword} → (kin : Kin) → ((word : List Seen) → IsWord k word → DerivesKin kin word) → Keyword
kin_of {k} kin c = k

pattern abbrev pub Struct : Keyword
Struct = kin_of kins.Struct DerivesKin.struct

pattern abbrev pub Union : Keyword
Union = kin_of kins.Union DerivesKin.union

pattern abbrev pub Exception : Keyword
Exception = kin_of kins.Exception DerivesKin.exception

abbrev service_word : {k : Keyword} → ((n : Name) (b : Option Name) (fs : List FunctionTree) (word name base opening inside closing notes : List Seen) → IsWord k word → Declares n name → DerivesBase b base → IsMark curly_open opening
    → DerivesFunctions fs inside → IsMark curly_close closing → Notes notes → DerivesDefinition (service_of n b fs) (word ++ name ++ base ++ opening ++ inside ++ closing ++ notes)) → Keyword
service_word {k} c = k

pattern abbrev pub Service : Keyword
Service = service_word DerivesDefinition.service
