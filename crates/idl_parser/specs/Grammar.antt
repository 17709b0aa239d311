-- The Apache Thrift IDL grammar, as relations between what is meant and the tokens that spell it. Each alternative of the grammar is a constructor.
use Rattle.std.specs.Prelude.{◌≡◌, ℕ, ℤ, List, [], ◌∷◌, ◌++◌, Option, Some, None, false}
use Rattle.idl_document.specs.declared.document.Asked.{Asked}
use Rattle.idl_document.specs.declared.document.Asked.TheVariants as asks
use Rattle.idl_document.specs.declared.document.BaseWord.{BaseWord}
use Rattle.idl_document.specs.declared.document.Kin.{Kin}
use Rattle.idl_document.specs.declared.document.Kin.TheVariants as kins
use Rattle.idl_document.specs.declared.document.Member.{Member}
use Rattle.idl_document.specs.declared.document.Name.{Name}
use Rattle.idl_parser.specs.declared.tokens.Lexeme.{Lexeme}
use Rattle.idl_parser.specs.declared.tokens.Lexeme.TheVariants as lexemes
use Rattle.idl_parser.specs.declared.words.Keyword.{Keyword}
use Rattle.idl_parser.specs.declared.words.Keyword.TheVariants as keywords
use Rattle.idl_document.specs.Trees.{FunctionTree, DefinitionTree, const_of, typedef_of, enum_of, struct_of, service_of, DocumentTree, FieldTree, TypeTree, base_at, named_at, map_at, set_at, list_at}
use Rattle.idl_parser.specs.Fields.{has_dot}
use Rattle.idl_document.specs.Item.{ValueItem, whole, double, literal, named, list_begin, list_end, map_begin, map_end}
use Rattle.idl_parser.specs.Seen.{Seen}
use Rattle.idl_parser.specs.Marks.{ampersand_mark, angle_close, angle_open, colon_mark, comma_mark, curly_close, curly_open, equals_mark, round_close, round_open, semicolon_mark, square_close, square_open, star_mark}

-- one token that says this
pub data Is : Lexeme → List Seen → Type 0 where
  one : (s : Seen) → Is s.lexeme (s ∷ [])

abbrev pub IsMark : ℕ → List Seen → Type 0
IsMark mark tokens = Is (lexemes.Mark mark) tokens

abbrev pub IsWord : Keyword → List Seen → Type 0
IsWord keyword tokens = Is (lexemes.Keyword keyword) tokens

-- a mark that may be missing
pub data MayMark : ℕ → List Seen → Type 0 where
  missing : (mark : ℕ) → MayMark mark []
  there : (mark : ℕ) (tokens : List Seen) → IsMark mark tokens → MayMark mark tokens

pub data Separator : List Seen → Type 0 where
  none : Separator []
  comma : (tokens : List Seen) → IsMark comma_mark tokens → Separator tokens
  semicolon : (tokens : List Seen) → IsMark semicolon_mark tokens → Separator tokens

-- a name that is meant; one that is declared has no dot
pub data Means : Name → List Seen → Type 0 where
  name : (s : Seen) → s.lexeme ≡ lexemes.Name → Means (record { at = s.at; text = s.word }) (s ∷ [])

pub data Declares : Name → List Seen → Type 0 where
  name : (n : Name) (tokens : List Seen) → Means n tokens → has_dot n.text ≡ false → Declares n tokens

pub data Equals : List Seen → Type 0 where
  missing : Equals []
  given : (equal text : List Seen) → IsMark equals_mark equal → Is lexemes.Literal text → Equals (equal ++ text)

pub data NoteList : List Seen → Type 0 where
  none : NoteList []
  more : (n : Name) (name equal separator rest : List Seen) → Means n name → Equals equal → Separator separator → NoteList rest → NoteList (name ++ equal ++ separator ++ rest)

pub data Notes : List Seen → Type 0 where
  missing : Notes []
  given : (opening inside closing : List Seen) → IsMark round_open opening → NoteList inside → IsMark round_close closing → Notes (opening ++ inside ++ closing)

pub data Cpp : List Seen → Type 0 where
  missing : Cpp []
  given : (word text : List Seen) → IsWord keywords.CppType word → Is lexemes.Literal text → Cpp (word ++ text)

pub data DerivesType : TypeTree → List Seen → Type 0 where
  base : (s : Seen) (word : BaseWord) (notes : List Seen) → s.lexeme ≡ lexemes.Keyword (keywords.Base word) → Notes notes → DerivesType (base_at s.at word) (s ∷ notes)
  name : (s : Seen) (notes : List Seen) → s.lexeme ≡ lexemes.Name → Notes notes → DerivesType (named_at s.at s.word) (s ∷ notes)
  map : (s : Seen) (k v : TypeTree) (cpp opening key comma value closing notes : List Seen) → s.lexeme ≡ lexemes.Keyword keywords.Map → Cpp cpp → IsMark angle_open opening →
      DerivesType k key → IsMark comma_mark comma → DerivesType v value → IsMark angle_close closing → Notes notes →
      DerivesType (map_at s.at k v) (s ∷ (cpp ++ opening ++ key ++ comma ++ value ++ closing ++ notes))
  set : (s : Seen) (e : TypeTree) (cpp opening element closing notes : List Seen) → s.lexeme ≡ lexemes.Keyword keywords.Set → Cpp cpp → IsMark angle_open opening →
      DerivesType e element → IsMark angle_close closing → Notes notes → DerivesType (set_at s.at e) (s ∷ (cpp ++ opening ++ element ++ closing ++ notes))
  list : (s : Seen) (e : TypeTree) (cpp opening element closing behind notes : List Seen) → s.lexeme ≡ lexemes.Keyword keywords.List → Cpp cpp → IsMark angle_open opening →
      DerivesType e element → IsMark angle_close closing → Cpp behind → Notes notes → DerivesType (list_at s.at e) (s ∷ (cpp ++ opening ++ element ++ closing ++ behind ++ notes))

mutual
  pub data DerivesValue : List ValueItem → List Seen → Type 0 where
    int : (s : Seen) (z : ℤ) → s.lexeme ≡ lexemes.Int z → DerivesValue (whole s.at z ∷ []) (s ∷ [])
    number : (s : Seen) → s.lexeme ≡ lexemes.Double → DerivesValue (double s.at s.word ∷ []) (s ∷ [])
    text : (s : Seen) → s.lexeme ≡ lexemes.Literal → DerivesValue (literal s.at s.word ∷ []) (s ∷ [])
    name : (s : Seen) → s.lexeme ≡ lexemes.Name → DerivesValue (named s.at s.word ∷ []) (s ∷ [])
    listed : (s : Seen) (items : List ValueItem) (inside closing : List Seen) → s.lexeme ≡ lexemes.Mark square_open → DerivesValues items inside → IsMark square_close closing →
        DerivesValue (list_begin s.at ∷ (items ++ list_end ∷ [])) (s ∷ (inside ++ closing))
    mapped : (s : Seen) (items : List ValueItem) (inside closing : List Seen) → s.lexeme ≡ lexemes.Mark curly_open → DerivesPairs items inside → IsMark curly_close closing →
        DerivesValue (map_begin s.at ∷ (items ++ map_end ∷ [])) (s ∷ (inside ++ closing))

  pub data DerivesValues : List ValueItem → List Seen → Type 0 where
    no_value : DerivesValues [] []
    one_value : (v vs : List ValueItem) (value separator rest : List Seen) → DerivesValue v value → Separator separator → DerivesValues vs rest →
        DerivesValues (v ++ vs) (value ++ separator ++ rest)

  pub data DerivesPairs : List ValueItem → List Seen → Type 0 where
    no_pair : DerivesPairs [] []
    one_pair : (k v vs : List ValueItem) (key colon value separator rest : List Seen) → DerivesValue k key → IsMark colon_mark colon → DerivesValue v value → Separator separator →
        DerivesPairs vs rest → DerivesPairs (k ++ v ++ vs) (key ++ colon ++ value ++ separator ++ rest)

pub data DerivesId : Option (ℕ × ℤ) → List Seen → Type 0 where
  missing : DerivesId None []
  given : (s : Seen) (z : ℤ) (colon : List Seen) → s.lexeme ≡ lexemes.Int z → IsMark colon_mark colon → DerivesId (Some (s.at, z)) (s ∷ colon)

pub data DerivesAsked : Asked → List Seen → Type 0 where
  missing : DerivesAsked asks.Default []
  required : (word : List Seen) → IsWord keywords.Required word → DerivesAsked asks.Required word
  optional : (word : List Seen) → IsWord keywords.Optional word → DerivesAsked asks.Optional word

pub data DerivesPreset : Option (List ValueItem) → List Seen → Type 0 where
  missing : DerivesPreset None []
  given : (v : List ValueItem) (equal value : List Seen) → IsMark equals_mark equal → DerivesValue v value → DerivesPreset (Some v) (equal ++ value)

pub data DerivesFields : List FieldTree → List Seen → Type 0 where
  none : DerivesFields [] []
  more : (f : FieldTree) (fs : List FieldTree) (id asked ty reference name preset notes separator rest : List Seen) → DerivesId f.id id → DerivesAsked f.asked asked → DerivesType f.ty ty →
      MayMark ampersand_mark reference → Declares f.name name → DerivesPreset f.preset preset → Notes notes → Separator separator → DerivesFields fs rest →
      DerivesFields (f ∷ fs) (id ++ asked ++ ty ++ reference ++ name ++ preset ++ notes ++ separator ++ rest)

pub data DerivesNumber : Option ℤ → List Seen → Type 0 where
  missing : DerivesNumber None []
  given : (s : Seen) (z : ℤ) (equal : List Seen) → IsMark equals_mark equal → s.lexeme ≡ lexemes.Int z → DerivesNumber (Some z) (equal ++ s ∷ [])

pub data DerivesMembers : List Member → List Seen → Type 0 where
  none : DerivesMembers [] []
  more : (m : Member) (ms : List Member) (name number notes separator rest : List Seen) → Declares m.name name → DerivesNumber m.value number → Notes notes → Separator separator →
      DerivesMembers ms rest → DerivesMembers (m ∷ ms) (name ++ number ++ notes ++ separator ++ rest)

pub data DerivesOneway : Option ℕ → List Seen → Type 0 where
  missing : DerivesOneway None []
  given : (s : Seen) → s.lexeme ≡ lexemes.Keyword keywords.Oneway → DerivesOneway (Some s.at) (s ∷ [])

pub data DerivesReturns : Option TypeTree → List Seen → Type 0 where
  void : (word : List Seen) → IsWord keywords.Void word → DerivesReturns None word
  typed : (t : TypeTree) (ty : List Seen) → DerivesType t ty → DerivesReturns (Some t) ty

-- fields in round brackets
pub data DerivesArguments : List FieldTree → List Seen → Type 0 where
  fields : (fs : List FieldTree) (opening inside closing : List Seen) → IsMark round_open opening → DerivesFields fs inside → IsMark round_close closing → DerivesArguments fs (opening ++ inside ++ closing)

pub data DerivesThrows : List FieldTree → List Seen → Type 0 where
  missing : DerivesThrows [] []
  given : (fs : List FieldTree) (word fields : List Seen) → IsWord keywords.Throws word → DerivesArguments fs fields → DerivesThrows fs (word ++ fields)

pub data DerivesFunctions : List FunctionTree → List Seen → Type 0 where
  none : DerivesFunctions [] []
  more : (f : FunctionTree) (fs : List FunctionTree) (oneway returns name args throws notes separator rest : List Seen) → DerivesOneway f.oneway oneway → DerivesReturns f.returns returns →
      Declares f.name name → DerivesArguments f.args args → DerivesThrows f.throws throws → Notes notes → Separator separator → DerivesFunctions fs rest →
      DerivesFunctions (f ∷ fs) (oneway ++ returns ++ name ++ args ++ throws ++ notes ++ separator ++ rest)

pub data DerivesKin : Kin → List Seen → Type 0 where
  struct : (word : List Seen) → IsWord keywords.Struct word → DerivesKin kins.Struct word
  union : (word : List Seen) → IsWord keywords.Union word → DerivesKin kins.Union word
  exception : (word : List Seen) → IsWord keywords.Exception word → DerivesKin kins.Exception word

pub data DerivesBase : Option Name → List Seen → Type 0 where
  missing : DerivesBase None []
  given : (n : Name) (word name : List Seen) → IsWord keywords.Extends word → Means n name → DerivesBase (Some n) (word ++ name)

pub data DerivesDefinition : DefinitionTree → List Seen → Type 0 where
  const : (n : Name) (t : TypeTree) (v : List ValueItem) (word ty name equal value : List Seen) → IsWord keywords.Const word → DerivesType t ty → Declares n name → IsMark equals_mark equal →
      DerivesValue v value → DerivesDefinition (const_of n t v) (word ++ ty ++ name ++ equal ++ value)
  typedef : (n : Name) (t : TypeTree) (word ty name notes : List Seen) → IsWord keywords.Typedef word → DerivesType t ty → Declares n name → Notes notes →
      DerivesDefinition (typedef_of n t) (word ++ ty ++ name ++ notes)
  enum : (n : Name) (ms : List Member) (word name opening inside closing notes : List Seen) → IsWord keywords.Enum word → Declares n name → IsMark curly_open opening → DerivesMembers ms inside →
      IsMark curly_close closing → Notes notes → DerivesDefinition (enum_of n ms) (word ++ name ++ opening ++ inside ++ closing ++ notes)
  struct : (kin : Kin) (n : Name) (fs : List FieldTree) (word name opening inside closing notes : List Seen) → DerivesKin kin word → Declares n name → IsMark curly_open opening →
      DerivesFields fs inside → IsMark curly_close closing → Notes notes → DerivesDefinition (struct_of kin n fs) (word ++ name ++ opening ++ inside ++ closing ++ notes)
  service : (n : Name) (b : Option Name) (fs : List FunctionTree) (word name base opening inside closing notes : List Seen) → IsWord keywords.Service word → Declares n name →
      DerivesBase b base → IsMark curly_open opening → DerivesFunctions fs inside → IsMark curly_close closing → Notes notes →
      DerivesDefinition (service_of n b fs) (word ++ name ++ base ++ opening ++ inside ++ closing ++ notes)

pub data DerivesDefinitions : List DefinitionTree → List Seen → Type 0 where
  none : DerivesDefinitions [] []
  more : (d : DefinitionTree) (ds : List DefinitionTree) (definition separator rest : List Seen) → DerivesDefinition d definition → Separator separator → DerivesDefinitions ds rest →
      DerivesDefinitions (d ∷ ds) (definition ++ separator ++ rest)

pub data DerivesScope : List Seen → Type 0 where
  all : (star : List Seen) → IsMark star_mark star → DerivesScope star
  one : (n : Name) (name : List Seen) → Means n name → DerivesScope name

-- a header, with the path that it includes
pub data DerivesHeader : List Name → List Seen → Type 0 where
  includes : (word : List Seen) (s : Seen) → IsWord keywords.Include word → s.lexeme ≡ lexemes.Literal → DerivesHeader (record { at = s.at; text = s.word } ∷ []) (word ++ s ∷ [])
  cpp_include : (word text : List Seen) → IsWord keywords.CppInclude word → Is lexemes.Literal text → DerivesHeader [] (word ++ text)
  namespace : (n : Name) (word scope name notes : List Seen) → IsWord keywords.Namespace word → DerivesScope scope → Means n name → Notes notes →
      DerivesHeader [] (word ++ scope ++ name ++ notes)

pub data DerivesHeaders : List Name → List Seen → Type 0 where
  none : DerivesHeaders [] []
  more : (path paths : List Name) (header separator rest : List Seen) → DerivesHeader path header → Separator separator → DerivesHeaders paths rest →
      DerivesHeaders (path ++ paths) (header ++ separator ++ rest)

-- the tokens of a document
pub data Derives : DocumentTree → List Seen → Type 0 where
  document : (d : DocumentTree) (headers definitions : List Seen) → DerivesHeaders d.includes headers → DerivesDefinitions d.definitions definitions → Derives d (headers ++ definitions)
