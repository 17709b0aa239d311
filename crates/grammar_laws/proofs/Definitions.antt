-- Declarations are read as they are derived.
use Rattle.std.proofs.Common.{◌≡◌, ◌∙◌, ap, sym, subst, refl, ℕ, List, [], ◌∷◌, ◌++◌, drop, Bool, true, false, Option, Some, None, Ok, Err, inl, inr}
use Rattle.std.proofs.Math.Path.{fun_ext}
use Rattle.idl_document.specs.declared.document.Kin.{Kin}
use Rattle.idl_document.specs.declared.document.Kin.TheVariants as kins
use Rattle.idl_document.specs.declared.document.Member.{Member}
use Rattle.idl_document.specs.declared.document.Name.{Name}
use Rattle.idl_document.specs.Item.{ValueItem}
use Rattle.idl_document.specs.Trees.{DefinitionTree, const_of, typedef_of, enum_of, struct_of, service_of, FieldTree, FunctionTree, TypeTree}
use Rattle.idl_parser.specs.declared.fault.Fault.TheVariants as faults
use Rattle.grammar_laws.proofs.Lexicon.{Lexeme}
use Rattle.grammar_laws.proofs.Lexicon as words
use Rattle.grammar_laws.proofs.Lexicon.{Keyword}
use Rattle.idl_parser.specs.Declarations.{NamedValueTree, ServiceBodyTree, const_at, declared_at, definition_at, enum_at, equal_value_at, extends_at, members_in, named_value_at, one_definition, service_at, service_body_at, struct_at, struct_body_at, typedef_at}
use Rattle.idl_parser.specs.Fields.{fields_in, name_at, noted_name_at, path_at}
use Rattle.idl_parser.specs.Functions.{functions_in}
use Rattle.idl_parser.specs.Grammar.{Declares, DerivesBase, DerivesDefinition, DerivesDefinitions, DerivesFields, DerivesFunctions, DerivesKin, DerivesMembers, DerivesType, DerivesValue, Is, Means, Notes, Separator}
use Rattle.idl_parser.specs.Lexemes.{mark_at, offset_of, onward}
use Rattle.idl_parser.specs.Marks.{most_levels}
use Rattle.idl_parser.specs.Notes.{notes_at}
use Rattle.idl_parser.specs.Seen.{Seen}
use Rattle.idl_parser.specs.Types.{type_at}
use Rattle.idl_parser.specs.Values.{value_at}
use Rattle.grammar_laws.specs.Depth.{definition_deep, definitions_deep, fields_deep, first_of, functions_deep, items_deep, type_deep}
use Rattle.grammar_laws.proofs.Chains.{chain2, goes_on, last}
use Rattle.grammar_laws.proofs.Choices.{Either, choice, choice_reads, either_barred}
use Rattle.grammar_laws.proofs.Fields.{IsBetween, between_is, between_part, between_reads, listed_moved, name_kinds, name_reads, name_view, some_between, some_declared}
use Rattle.grammar_laws.proofs.Functions.{InBody, IsBodyEnd, end_barred, functions_is, functions_part, functions_read, open_kinds, some_body, some_functions}
use Rattle.grammar_laws.proofs.TokenKinds.{Kind, among, both_barred, free, is_kind, kind, nothing_barred, word_kind}
use Rattle.grammar_laws.proofs.Lists.{append_more, right4, right5, right6, right7}
use Rattle.grammar_laws.proofs.Many.{Many, no_more, one_more}
use Rattle.grammar_laws.proofs.Notes.{IsNotes, IsSeparator, MayGiven, both_at, both_by, may_part, may_reads, notes_reads, opens_by, plain_bar, round_kinds, sep_at, sep_barred, sep_reads, separators}
use Rattle.grammar_laws.proofs.Reading.{IsToken, Never, Part, Reads, Viewed, as_reads, fails, moved, same_reads, shallow, view_reads}
use Rattle.grammar_laws.proofs.Singles.{IsLone, alone, is_of_kinds, is_one, keyword_is, mark_reads, name_is, opened_is, sample, some_lone, word, word_reads}
use Rattle.grammar_laws.proofs.Steps.{Both, step, step_reads}
use Rattle.grammar_laws.proofs.Types.{first_none, some_both, some_notes, some_type, type_barred, type_kinds, type_reads}
use Rattle.grammar_laws.proofs.Values.{some_value, value_kinds, value_reads}
use Rattle.grammar_laws.proofs.Members.{member_run, members_is, members_part, members_read, number_kinds}

-- ---- the service that is extended

abbrev extends_lexeme : Lexeme
extends_lexeme = words.Reserved words.Extends

abbrev extends_kinds : List Kind
extends_kinds = word_kind words.Extends ∷ []

abbrev extends_view : Seen × Name → Option Name
extends_view t = Some t.1

abbrev some_means : (n : Name) × (tokens : List Seen) × Means n tokens
some_means = (name_view (sample words.Word), sample words.Word ∷ [], Means.name (sample words.Word) refl)

module _ (edge : ℕ) where
  path_same : (xs : List Seen) → path_at edge xs ≡ moved 0 name_view (word edge name_kinds xs)
  unfolding path_at
  path_same [] = refl
  path_same (s ∷ ss) = by s.at s.lexeme s.word
    where
      by : (at : ℕ) (l : Lexeme) (w : List ℕ) → path_at edge (record { at = at; lexeme = l; word = w } ∷ ss) ≡ moved 0 name_view (word edge name_kinds (record { at = at; lexeme = l; word = w } ∷ ss))
      by at words.Word w = refl
      by at l w = refl

  path_from : (n : Name) (tokens : List Seen) → Means n tokens → Viewed name_view (IsToken (is_of_kinds name_kinds)) n tokens
  path_from _ _ (Means.name s e) = record { value = s; seen = refl; derives = (ap (λ (l : Lexeme). among name_kinds (kind l)) e, refl) }

  path_reads : Reads edge Means shallow (path_at edge) false name_kinds nothing_barred
  path_reads =
      as_reads edge (IsToken (is_of_kinds name_kinds)) Means shallow shallow (word edge name_kinds) (path_at edge) name_view false name_kinds nothing_barred path_same
      (λ s tokens d. subst (Means (name_view s)) (sym d.1) (Means.name s (name_is s.lexeme d.0))) path_from (λ x tokens d. refl) (word_reads edge name_kinds)

  abbrev extends_part : Part (Option Name)
  extends_part = may_part edge extends_lexeme (path_at edge) extends_view None

  extends_same : (xs : List Seen) → extends_at edge xs ≡ extends_part xs
  unfolding extends_at
  extends_same [] = refl
  extends_same (s ∷ ss) = by s.at s.lexeme s.word
    where
      by : (at : ℕ) (l : Lexeme) (w : List ℕ) → extends_at edge (record { at = at; lexeme = l; word = w } ∷ ss) ≡ extends_part (record { at = at; lexeme = l; word = w } ∷ ss)
      by at (words.Reserved words.Extends) w =
          last 1 (path_at edge ss) (λ n. Some n) ∙ opened_is edge extends_kinds (path_at edge) extends_view (record { at = at; lexeme = words.Reserved words.Extends; word = w }) ss refl
      by at l w = refl

  extends_to : (o : Option Name) (tokens : List Seen) → MayGiven edge extends_lexeme (path_at edge) extends_view None Means o tokens → DerivesBase o tokens
  extends_to o tokens (inl v) =
      let b = opens_by extends_lexeme Means v.value tokens (λ k. keyword_is words.Extends k refl) v.derives in
      subst (λ (u : Option Name). DerivesBase u tokens) (sym v.seen) (subst (DerivesBase (Some v.value.1)) (sym b.joined) (DerivesBase.given v.value.1 (v.value.0 ∷ []) b.back b.opens b.right))
  extends_to o tokens (inr d) = subst (λ (u : Option Name). DerivesBase u tokens) (sym d.0) (subst (DerivesBase None) (sym d.1) DerivesBase.missing)

  extends_from : (o : Option Name) (tokens : List Seen) → DerivesBase o tokens → MayGiven edge extends_lexeme (path_at edge) extends_view None Means o tokens
  extends_from _ _ DerivesBase.missing = inr (refl, refl)
  extends_from _ _ (DerivesBase.given n word name w m) =
      let o = is_one extends_lexeme word w in
      inl (record { value = (o.seen, n); seen = refl; derives = both_by extends_lexeme Means o.seen n word name refl o.says o.whole m })

  extends_reads : Reads edge DerivesBase shallow (extends_at edge) true extends_kinds (plain_bar extends_kinds)
  extends_reads =
      same_reads edge (MayGiven edge extends_lexeme (path_at edge) extends_view None Means) DerivesBase shallow extends_part (extends_at edge) true extends_kinds (plain_bar extends_kinds) extends_same extends_to extends_from
      (may_reads edge extends_lexeme (path_at edge) extends_view None Means shallow shallow false name_kinds nothing_barred some_means refl refl (λ t tokens d. refl) path_reads)

-- ---- the rest of each declaration, behind its word

abbrev named_value_view : Name × List ValueItem → NamedValueTree
named_value_view t = record { name = t.0; value = t.1 }

abbrev service_body_view : Option Name × List FunctionTree → ServiceBodyTree
service_body_view t = record { base = t.0; functions = t.1 }

abbrev ConstRest : TypeTree × NamedValueTree → List Seen → Type 0
ConstRest = Both DerivesType (Viewed named_value_view (Both Declares (Viewed (λ t. t.1) (Both (IsLone (words.Mark 61)) DerivesValue))))

abbrev TypedefRest : TypeTree × Name → List Seen → Type 0
TypedefRest = Both DerivesType (Viewed (λ t. t.0) (Both Declares IsNotes))

abbrev EnumRest : Name × List Member → List Seen → Type 0
EnumRest = Both Declares (InBody DerivesMembers)

abbrev StructRest : Name × List FieldTree → List Seen → Type 0
StructRest = Both Declares (Viewed (λ t. t.0) (Both (IsBetween 123 125) IsNotes))

abbrev ServiceRest : Name × ServiceBodyTree → List Seen → Type 0
ServiceRest = Both Declares (Viewed service_body_view (Both DerivesBase (InBody DerivesFunctions)))

abbrev const_view : Seen × (TypeTree × NamedValueTree) → DefinitionTree
const_view t = const_of t.1.1.name t.1.0 t.1.1.value

abbrev typedef_view : Seen × (TypeTree × Name) → DefinitionTree
typedef_view t = typedef_of t.1.1 t.1.0

abbrev enum_view : Seen × (Name × List Member) → DefinitionTree
enum_view t = enum_of t.1.0 t.1.1

abbrev struct_view : Kin → Seen × (Name × List FieldTree) → DefinitionTree
struct_view kin t = struct_of kin t.1.0 t.1.1

abbrev service_view : Seen × (Name × ServiceBodyTree) → DefinitionTree
service_view t = service_of t.1.0 t.1.1.base t.1.1.functions

abbrev note_barred : Kind → Bool
note_barred = both_barred true nothing_barred (plain_bar round_kinds)

module _ (edge levels : ℕ) where
  abbrev equal_value_part : Part (List ValueItem)
  equal_value_part xs = moved 0 (λ t. t.1) (step (mark_at 61 edge) (value_at levels edge) xs)

  abbrev named_value_part : Part NamedValueTree
  named_value_part xs = moved 0 named_value_view (step (name_at edge) equal_value_part xs)

  abbrev const_rest : Part (TypeTree × NamedValueTree)
  const_rest = step (type_at levels edge) named_value_part

  abbrev EqualValue : List ValueItem → List Seen → Type 0
  EqualValue = Viewed (λ t. t.1) (Both (IsLone (words.Mark 61)) DerivesValue)

  abbrev NamedValue : NamedValueTree → List Seen → Type 0
  NamedValue = Viewed named_value_view (Both Declares EqualValue)

  abbrev some_equal : (v : List ValueItem) × (tokens : List Seen) × EqualValue v tokens
  some_equal = let both = some_both (IsLone (words.Mark 61)) DerivesValue (some_lone (words.Mark 61)) some_value in (both.0.1, both.1, record { value = both.0; seen = refl; derives = both.2 })

  abbrev some_named : (v : NamedValueTree) × (tokens : List Seen) × NamedValue v tokens
  some_named = let both = some_both Declares EqualValue some_declared some_equal in (named_value_view both.0, both.1, record { value = both.0; seen = refl; derives = both.2 })

  named_value_reads : Reads edge NamedValue (λ v. items_deep levels v.value) named_value_part false name_kinds nothing_barred
  named_value_reads =
      view_reads edge (Both Declares EqualValue) (λ t. items_deep levels t.1) (λ v. items_deep levels v.value) (step (name_at edge) equal_value_part) named_value_view false name_kinds nothing_barred (λ x tokens d. refl)
      (step_reads edge Declares EqualValue shallow (items_deep levels) (name_at edge) equal_value_part false false name_kinds number_kinds nothing_barred nothing_barred refl some_equal refl (name_reads edge)
      (view_reads edge (Both (IsLone (words.Mark 61)) DerivesValue) (λ t. items_deep levels t.1) (items_deep levels) (step (mark_at 61 edge) (value_at levels edge)) (λ t. t.1) false number_kinds nothing_barred
      (λ x tokens d. refl)
      (step_reads edge (IsLone (words.Mark 61)) DerivesValue shallow (items_deep levels) (mark_at 61 edge) (value_at levels edge) false false number_kinds value_kinds nothing_barred nothing_barred refl some_value refl
      (mark_reads edge 61) (value_reads edge levels))))

  const_reads : Reads edge ConstRest (λ t. first_of (type_deep levels t.0) (items_deep levels t.1.value)) const_rest false type_kinds nothing_barred
  const_reads =
      step_reads edge DerivesType NamedValue (type_deep levels) (λ v. items_deep levels v.value) (type_at levels edge) named_value_part false false type_kinds name_kinds type_barred nothing_barred refl some_named refl
      (type_reads edge levels) named_value_reads

  abbrev NotedName : Name → List Seen → Type 0
  NotedName = Viewed (λ t. t.0) (Both Declares IsNotes)

  abbrev some_noted : (n : Name) × (tokens : List Seen) × NotedName n tokens
  some_noted = let both = some_both Declares IsNotes some_declared some_notes in (both.0.0, both.1, record { value = both.0; seen = refl; derives = both.2 })

  noted_name_same : (xs : List Seen) → noted_name_at edge xs ≡ moved 0 (λ t. t.0) (step (name_at edge) (notes_at edge) xs)
  unfolding noted_name_at
  noted_name_same xs = chain2 (name_at edge) (notes_at edge) (λ t. t.0) xs

  noted_name_reads : Reads edge NotedName shallow (noted_name_at edge) false name_kinds note_barred
  noted_name_reads =
      as_reads edge (Both Declares IsNotes) NotedName shallow shallow (step (name_at edge) (notes_at edge)) (noted_name_at edge) (λ t. t.0) false name_kinds note_barred noted_name_same
      (λ x tokens d. record { value = x; seen = refl; derives = d }) (λ z tokens v. v) (λ x tokens d. refl)
      (step_reads edge Declares IsNotes shallow shallow (name_at edge) (notes_at edge) false true name_kinds round_kinds nothing_barred (plain_bar round_kinds) refl some_notes refl (name_reads edge) (notes_reads edge))

  abbrev typedef_rest : Part (TypeTree × Name)
  typedef_rest = step (type_at levels edge) (noted_name_at edge)

  typedef_reads : Reads edge TypedefRest (λ t. first_of (type_deep levels t.0) None) typedef_rest false type_kinds note_barred
  typedef_reads =
      step_reads edge DerivesType NotedName (type_deep levels) shallow (type_at levels edge) (noted_name_at edge) false false type_kinds name_kinds type_barred note_barred refl some_noted refl (type_reads edge levels) noted_name_reads

  abbrev enum_rest : Part (Name × List Member)
  enum_rest = step (name_at edge) (members_part edge)

  abbrev some_members : (ms : List Member) × (tokens : List Seen) × InBody DerivesMembers ms tokens
  some_members = some_body edge (member_run edge) DerivesMembers DerivesMembers.none

  enum_reads : Reads edge EnumRest shallow enum_rest false name_kinds end_barred
  enum_reads =
      step_reads edge Declares (InBody DerivesMembers) shallow shallow (name_at edge) (members_part edge) false false name_kinds open_kinds nothing_barred end_barred refl some_members refl (name_reads edge) (members_read edge)

  abbrev fields_block : Part (List FieldTree)
  fields_block = between_part edge levels 123 125

  abbrev struct_body_part : Part (List FieldTree)
  struct_body_part xs = moved 0 (λ t. t.0) (step fields_block (notes_at edge) xs)

  abbrev StructBody : List FieldTree → List Seen → Type 0
  StructBody = Viewed (λ t. t.0) (Both (IsBetween 123 125) IsNotes)

  abbrev some_struct_body : (fs : List FieldTree) × (tokens : List Seen) × StructBody fs tokens
  some_struct_body = let both = some_both (IsBetween 123 125) IsNotes (some_between 123 125) some_notes in (both.0.0, both.1, record { value = both.0; seen = refl; derives = both.2 })

  abbrev struct_rest : Part (Name × List FieldTree)
  struct_rest = step (name_at edge) struct_body_part

  struct_reads : Reads edge StructRest (λ t. fields_deep levels t.1) struct_rest false name_kinds note_barred
  struct_reads =
      step_reads edge Declares StructBody shallow (fields_deep levels) (name_at edge) struct_body_part false false name_kinds open_kinds nothing_barred note_barred refl some_struct_body refl (name_reads edge)
      (view_reads edge (Both (IsBetween 123 125) IsNotes) (λ t. first_of (fields_deep levels t.0) None) (fields_deep levels) (step fields_block (notes_at edge)) (λ t. t.0) false open_kinds note_barred
      (λ x tokens d. first_none (fields_deep levels x.0))
      (step_reads edge (IsBetween 123 125) IsNotes (fields_deep levels) shallow fields_block (notes_at edge) false true open_kinds round_kinds nothing_barred (plain_bar round_kinds) refl some_notes refl
      (between_reads edge levels 123 125 refl refl refl) (notes_reads edge)))

  abbrev service_body_part : Part ServiceBodyTree
  service_body_part xs = moved 0 service_body_view (step (extends_at edge) (functions_part edge levels) xs)

  abbrev ServiceBody : ServiceBodyTree → List Seen → Type 0
  ServiceBody = Viewed service_body_view (Both DerivesBase (InBody DerivesFunctions))

  abbrev some_service_body : (b : ServiceBodyTree) × (tokens : List Seen) × ServiceBody b tokens
  some_service_body =
      let both = some_both DerivesBase (InBody DerivesFunctions) (None, [], DerivesBase.missing) some_functions in
      (service_body_view both.0, both.1, record { value = both.0; seen = refl; derives = both.2 })

  abbrev service_rest : Part (Name × ServiceBodyTree)
  service_rest = step (name_at edge) service_body_part

  service_reads : Reads edge ServiceRest (λ t. functions_deep levels t.1.functions) service_rest false name_kinds end_barred
  service_reads =
      step_reads edge Declares ServiceBody shallow (λ b. functions_deep levels b.functions) (name_at edge) service_body_part false false name_kinds (extends_kinds ++ open_kinds) nothing_barred end_barred refl some_service_body refl
      (name_reads edge)
      (view_reads edge (Both DerivesBase (InBody DerivesFunctions)) (λ t. functions_deep levels t.1) (λ b. functions_deep levels b.functions) (step (extends_at edge) (functions_part edge levels)) service_body_view false
      (extends_kinds ++ open_kinds) end_barred (λ x tokens d. refl)
      (step_reads edge DerivesBase (InBody DerivesFunctions) shallow (functions_deep levels) (extends_at edge) (functions_part edge levels) true false extends_kinds open_kinds (plain_bar extends_kinds) end_barred refl
      some_functions refl (extends_reads edge) (functions_read edge levels)))

-- ---- one declaration

abbrev kinds_of : Keyword → List Kind
kinds_of k = word_kind k ∷ []

abbrev Branch : {Y : Type 0} → Keyword → (Seen × Y → DefinitionTree) → (Y → List Seen → Type 0) → DefinitionTree → List Seen → Type 0
Branch k g E = Viewed g (Both (IsToken (is_of_kinds (kinds_of k))) E)

abbrev ConstForm : DefinitionTree → List Seen → Type 0
ConstForm = Branch words.Const const_view ConstRest

abbrev TypedefForm : DefinitionTree → List Seen → Type 0
TypedefForm = Branch words.Typedef typedef_view TypedefRest

abbrev EnumForm : DefinitionTree → List Seen → Type 0
EnumForm = Branch words.Enum enum_view EnumRest

abbrev StructForm : DefinitionTree → List Seen → Type 0
StructForm = Branch words.Struct (struct_view kins.Struct) StructRest

abbrev UnionForm : DefinitionTree → List Seen → Type 0
UnionForm = Branch words.Union (struct_view kins.Union) StructRest

abbrev ExceptionForm : DefinitionTree → List Seen → Type 0
ExceptionForm = Branch words.Exception (struct_view kins.Exception) StructRest

abbrev ServiceForm : DefinitionTree → List Seen → Type 0
ServiceForm = Branch words.Service service_view ServiceRest

abbrev LastForms : DefinitionTree → List Seen → Type 0
LastForms = Either UnionForm (Either ExceptionForm (Either ServiceForm Never))

abbrev DefinitionForm : DefinitionTree → List Seen → Type 0
DefinitionForm = Either ConstForm (Either TypedefForm (Either EnumForm (Either StructForm LastForms)))

abbrev last_kinds : List Kind
last_kinds = word_kind words.Union ∷ word_kind words.Exception ∷ word_kind words.Service ∷ []

abbrev pub definition_kinds : List Kind
definition_kinds = word_kind words.Const ∷ word_kind words.Typedef ∷ word_kind words.Enum ∷ word_kind words.Struct ∷ last_kinds

abbrev last_forms_barred : Kind → Bool
last_forms_barred = either_barred false (kinds_of words.Union) note_barred (either_barred false (kinds_of words.Exception) note_barred (either_barred false (kinds_of words.Service) end_barred nothing_barred))

abbrev forms_barred : Kind → Bool
forms_barred = either_barred false (kinds_of words.Const) nothing_barred (either_barred false (kinds_of words.Typedef) note_barred (either_barred false (kinds_of words.Enum) end_barred
    (either_barred false (kinds_of words.Struct) note_barred last_forms_barred)))

abbrev some_const : (t : TypeTree × NamedValueTree) × (tokens : List Seen) × ConstRest t tokens
some_const = some_both DerivesType (NamedValue 0 0) some_type (some_named 0 0)

abbrev some_typedef : (t : TypeTree × Name) × (tokens : List Seen) × TypedefRest t tokens
some_typedef = some_both DerivesType (NotedName 0 0) some_type (some_noted 0 0)

abbrev some_enum : (t : Name × List Member) × (tokens : List Seen) × EnumRest t tokens
some_enum = some_both Declares (InBody DerivesMembers) some_declared (some_members 0 0)

abbrev some_struct : (t : Name × List FieldTree) × (tokens : List Seen) × StructRest t tokens
some_struct = some_both Declares (StructBody 0 0) some_declared (some_struct_body 0 0)

abbrev some_service : (t : Name × ServiceBodyTree) × (tokens : List Seen) × ServiceRest t tokens
some_service = some_both Declares (ServiceBody 0 0) some_declared (some_service_body 0 0)

module _ (edge levels : ℕ) where
  abbrev branch_part : {Y : Type 0} → Keyword → (Seen × Y → DefinitionTree) → Part Y → Part DefinitionTree
  branch_part k g rest xs = moved 0 g (step (word edge (kinds_of k)) rest xs)

  branch_reads : {Y : Type 0} (k : Keyword) (g : Seen × Y → DefinitionTree) (E : Y → List Seen → Type 0) (dy : Y → Option ℕ) (rest : Part Y) (firsts : List Kind) (bar : Kind → Bool) →
      free firsts nothing_barred ≡ true → (some : (y : Y) × (tokens : List Seen) × E y tokens) → dy some.0 ≡ None →
      ((t : Seen × Y) (tokens : List Seen) → Both (IsToken (is_of_kinds (kinds_of k))) E t tokens → definition_deep levels (g t) ≡ dy t.1) → Reads edge E dy rest false firsts bar →
      Reads edge (Branch k g E) (definition_deep levels) (branch_part k g rest) false (kinds_of k) bar
  branch_reads k g E dy rest firsts bar apart some flat depth r =
      view_reads edge (Both (IsToken (is_of_kinds (kinds_of k))) E) (λ t. dy t.1) (definition_deep levels) (step (word edge (kinds_of k)) rest) g false (kinds_of k) bar depth
      (step_reads edge (IsToken (is_of_kinds (kinds_of k))) E shallow dy (word edge (kinds_of k)) rest false false (kinds_of k) firsts nothing_barred bar apart some flat (word_reads edge (kinds_of k)) r)

  abbrev fault_part : Part DefinitionTree
  fault_part xs = Err (faults.Syntax (offset_of edge xs))

  abbrev last_part : Part DefinitionTree
  last_part =
      choice (kinds_of words.Union) (branch_part words.Union (struct_view kins.Union) (struct_rest edge levels))
      (choice (kinds_of words.Exception) (branch_part words.Exception (struct_view kins.Exception) (struct_rest edge levels))
      (choice (kinds_of words.Service) (branch_part words.Service service_view (service_rest edge levels)) fault_part))

  abbrev declared_part : Part DefinitionTree
  declared_part =
      choice (kinds_of words.Const) (branch_part words.Const const_view (const_rest edge levels))
      (choice (kinds_of words.Typedef) (branch_part words.Typedef typedef_view (typedef_rest edge levels))
      (choice (kinds_of words.Enum) (branch_part words.Enum enum_view (enum_rest edge levels))
      (choice (kinds_of words.Struct) (branch_part words.Struct (struct_view kins.Struct) (struct_rest edge levels)) last_part)))

  last_reads : Reads edge LastForms (definition_deep levels) last_part false last_kinds last_forms_barred
  last_reads =
      choice_reads edge UnionForm (Either ExceptionForm (Either ServiceForm Never)) (definition_deep levels) (branch_part words.Union (struct_view kins.Union) (struct_rest edge levels))
      (choice (kinds_of words.Exception) (branch_part words.Exception (struct_view kins.Exception) (struct_rest edge levels))
      (choice (kinds_of words.Service) (branch_part words.Service service_view (service_rest edge levels)) fault_part)) false (kinds_of words.Union)
      (word_kind words.Exception ∷ word_kind words.Service ∷ []) note_barred (either_barred false (kinds_of words.Exception) note_barred (either_barred false (kinds_of words.Service) end_barred nothing_barred)) refl
      (branch_reads words.Union (struct_view kins.Union) StructRest (λ t. fields_deep levels t.1) (struct_rest edge levels) name_kinds note_barred refl some_struct refl (λ t tokens d. refl) (struct_reads edge levels))
      (choice_reads edge ExceptionForm (Either ServiceForm Never) (definition_deep levels) (branch_part words.Exception (struct_view kins.Exception) (struct_rest edge levels))
      (choice (kinds_of words.Service) (branch_part words.Service service_view (service_rest edge levels)) fault_part) false (kinds_of words.Exception) (word_kind words.Service ∷ []) note_barred
      (either_barred false (kinds_of words.Service) end_barred nothing_barred) refl
      (branch_reads words.Exception (struct_view kins.Exception) StructRest (λ t. fields_deep levels t.1) (struct_rest edge levels) name_kinds note_barred refl some_struct refl (λ t tokens d. refl) (struct_reads edge levels))
      (choice_reads edge ServiceForm Never (definition_deep levels) (branch_part words.Service service_view (service_rest edge levels)) fault_part false (kinds_of words.Service) [] end_barred nothing_barred refl
      (branch_reads words.Service service_view ServiceRest (λ t. functions_deep levels t.1.functions) (service_rest edge levels) name_kinds end_barred refl some_service refl (λ t tokens d. refl) (service_reads edge levels))
      (fails edge (definition_deep levels))))

  declared_reads : Reads edge DefinitionForm (definition_deep levels) declared_part false definition_kinds forms_barred
  declared_reads =
      choice_reads edge ConstForm (Either TypedefForm (Either EnumForm (Either StructForm LastForms))) (definition_deep levels) (branch_part words.Const const_view (const_rest edge levels))
      (choice (kinds_of words.Typedef) (branch_part words.Typedef typedef_view (typedef_rest edge levels))
      (choice (kinds_of words.Enum) (branch_part words.Enum enum_view (enum_rest edge levels))
      (choice (kinds_of words.Struct) (branch_part words.Struct (struct_view kins.Struct) (struct_rest edge levels)) last_part))) false (kinds_of words.Const)
      (word_kind words.Typedef ∷ word_kind words.Enum ∷ word_kind words.Struct ∷ last_kinds) nothing_barred
      (either_barred false (kinds_of words.Typedef) note_barred (either_barred false (kinds_of words.Enum) end_barred (either_barred false (kinds_of words.Struct) note_barred last_forms_barred))) refl
      (branch_reads words.Const const_view ConstRest (λ t. first_of (type_deep levels t.0) (items_deep levels t.1.value)) (const_rest edge levels) type_kinds nothing_barred refl some_const refl (λ t tokens d. refl)
      (const_reads edge levels))
      (choice_reads edge TypedefForm (Either EnumForm (Either StructForm LastForms)) (definition_deep levels) (branch_part words.Typedef typedef_view (typedef_rest edge levels))
      (choice (kinds_of words.Enum) (branch_part words.Enum enum_view (enum_rest edge levels))
      (choice (kinds_of words.Struct) (branch_part words.Struct (struct_view kins.Struct) (struct_rest edge levels)) last_part)) false (kinds_of words.Typedef)
      (word_kind words.Enum ∷ word_kind words.Struct ∷ last_kinds) note_barred (either_barred false (kinds_of words.Enum) end_barred (either_barred false (kinds_of words.Struct) note_barred last_forms_barred)) refl
      (branch_reads words.Typedef typedef_view TypedefRest (λ t. first_of (type_deep levels t.0) None) (typedef_rest edge levels) type_kinds note_barred refl some_typedef refl (λ t tokens d. first_none (type_deep levels t.1.0))
      (typedef_reads edge levels))
      (choice_reads edge EnumForm (Either StructForm LastForms) (definition_deep levels) (branch_part words.Enum enum_view (enum_rest edge levels))
      (choice (kinds_of words.Struct) (branch_part words.Struct (struct_view kins.Struct) (struct_rest edge levels)) last_part) false (kinds_of words.Enum) (word_kind words.Struct ∷ last_kinds) end_barred
      (either_barred false (kinds_of words.Struct) note_barred last_forms_barred) refl
      (branch_reads words.Enum enum_view EnumRest shallow (enum_rest edge levels) name_kinds end_barred refl some_enum refl (λ t tokens d. refl) (enum_reads edge levels))
      (choice_reads edge StructForm LastForms (definition_deep levels) (branch_part words.Struct (struct_view kins.Struct) (struct_rest edge levels)) last_part false (kinds_of words.Struct) last_kinds note_barred
      last_forms_barred refl
      (branch_reads words.Struct (struct_view kins.Struct) StructRest (λ t. fields_deep levels t.1) (struct_rest edge levels) name_kinds note_barred refl some_struct refl (λ t tokens d. refl) (struct_reads edge levels))
      last_reads)))

-- ---- what is derived

definition_by : (d e : DefinitionTree) (ts us : List Seen) → d ≡ e → ts ≡ us → DerivesDefinition e us → DerivesDefinition d ts
definition_by d e ts us p q r = subst (λ (z : DefinitionTree). DerivesDefinition z ts) (sym p) (subst (DerivesDefinition e) (sym q) r)

-- a list in curly brackets, with the notes behind it
body_tokens : (word name opening inside closing notes ending body block front tokens : List Seen) → ending ≡ closing ++ notes → body ≡ inside ++ ending → block ≡ opening ++ body → front ≡ name ++ block → tokens ≡ word ++ front →
    tokens ≡ word ++ name ++ opening ++ inside ++ closing ++ notes
body_tokens word name opening inside closing notes ending body block front tokens e1 e2 e3 e4 e5 =
    e5 ∙ ap (λ (f : List Seen). word ++ f) (e4 ∙ ap (λ (f : List Seen). name ++ f) (e3 ∙ ap (λ (f : List Seen). opening ++ f) (e2 ∙ ap (λ (f : List Seen). inside ++ f) e1))) ∙ sym (right6 word name opening inside closing notes)

const_to : (d : DefinitionTree) (tokens : List Seen) → ConstForm d tokens → DerivesDefinition d tokens
const_to d tokens v =
    let o = opens_by (words.Reserved words.Const) ConstRest v.value tokens (λ k. keyword_is words.Const k refl) v.derives in
    let n = o.right.right in
    let e = n.derives.right in
    definition_by d (const_of n.value.0 v.value.1.0 e.value.1) tokens ((v.value.0 ∷ []) ++ o.right.front ++ n.derives.front ++ e.derives.front ++ e.derives.back)
    (v.seen ∙ ap (λ (x : NamedValueTree). const_of x.name v.value.1.0 x.value) n.seen ∙ ap (λ (x : List ValueItem). const_of n.value.0 v.value.1.0 x) e.seen)
    (o.joined ∙ ap (λ (f : List Seen). v.value.0 ∷ f) (o.right.joined ∙ ap (λ (f : List Seen). o.right.front ++ f) (n.derives.joined ∙ ap (λ (f : List Seen). n.derives.front ++ f) e.derives.joined))
    ∙ sym (right5 (v.value.0 ∷ []) o.right.front n.derives.front e.derives.front e.derives.back))
    (DerivesDefinition.const n.value.0 v.value.1.0 e.value.1 (v.value.0 ∷ []) o.right.front n.derives.front e.derives.front e.derives.back o.opens o.right.left n.derives.left e.derives.left e.derives.right)

typedef_to : (d : DefinitionTree) (tokens : List Seen) → TypedefForm d tokens → DerivesDefinition d tokens
typedef_to d tokens v =
    let o = opens_by (words.Reserved words.Typedef) TypedefRest v.value tokens (λ k. keyword_is words.Typedef k refl) v.derives in
    let n = o.right.right in
    definition_by d (typedef_of n.value.0 v.value.1.0) tokens ((v.value.0 ∷ []) ++ o.right.front ++ n.derives.front ++ n.derives.back)
    (v.seen ∙ ap (λ (x : Name). typedef_of x v.value.1.0) n.seen)
    (o.joined ∙ ap (λ (f : List Seen). v.value.0 ∷ f) (o.right.joined ∙ ap (λ (f : List Seen). o.right.front ++ f) n.derives.joined)
    ∙ sym (right4 (v.value.0 ∷ []) o.right.front n.derives.front n.derives.back))
    (DerivesDefinition.typedef n.value.0 v.value.1.0 (v.value.0 ∷ []) o.right.front n.derives.front n.derives.back o.opens o.right.left n.derives.left n.derives.right)

enum_to : (d : DefinitionTree) (tokens : List Seen) → EnumForm d tokens → DerivesDefinition d tokens
enum_to d tokens v =
    let o = opens_by (words.Reserved words.Enum) EnumRest v.value tokens (λ k. keyword_is words.Enum k refl) v.derives in
    let block = o.right.right in
    let body = block.derives.right in
    let ending = body.right in
    definition_by d (enum_of v.value.1.0 block.value.1.0) tokens ((v.value.0 ∷ []) ++ o.right.front ++ block.derives.front ++ body.front ++ ending.derives.front ++ ending.derives.back)
    (v.seen ∙ ap (enum_of v.value.1.0) block.seen)
    (body_tokens (v.value.0 ∷ []) o.right.front block.derives.front body.front ending.derives.front ending.derives.back body.back block.derives.back o.right.back o.back tokens ending.derives.joined body.joined block.derives.joined o.right.joined
    o.joined)
    (DerivesDefinition.enum v.value.1.0 block.value.1.0 (v.value.0 ∷ []) o.right.front block.derives.front body.front ending.derives.front ending.derives.back o.opens o.right.left block.derives.left body.left ending.derives.left
    ending.derives.right)

-- with what stands between the brackets and the notes behind it
struct_tokens : (word name opening inside closing notes block between front rest tokens : List Seen) → between ≡ inside ++ closing → block ≡ opening ++ between → rest ≡ block ++ notes → front ≡ name ++ rest → tokens ≡ word ++ front →
    tokens ≡ word ++ name ++ opening ++ inside ++ closing ++ notes
struct_tokens word name opening inside closing notes block between front rest tokens e1 e2 e3 e4 e5 =
    let shape : word ++ (name ++ ((opening ++ (inside ++ closing)) ++ notes)) ≡ word ++ name ++ opening ++ inside ++ closing ++ notes =
    ap (λ (f : List Seen). word ++ (name ++ f)) (append_more opening (inside ++ closing) notes ∙ ap (λ (f : List Seen). opening ++ f) (append_more inside closing notes)) ∙ sym (right6 word name opening inside closing notes) in
    e5 ∙ ap (λ (f : List Seen). word ++ f) (e4 ∙ ap (λ (f : List Seen). name ++ f) (e3 ∙ ap (λ (f : List Seen). f ++ notes) (e2 ∙ ap (λ (f : List Seen). opening ++ f) e1))) ∙ shape

struct_to : (word : Keyword) (kin : Kin) → alone word ≡ Some word → ((tokens : List Seen) → Is (words.Reserved word) tokens → DerivesKin kin tokens) → (d : DefinitionTree) (tokens : List Seen) →
    Branch word (struct_view kin) StructRest d tokens → DerivesDefinition d tokens
struct_to word kin lone is d tokens v =
    let o = opens_by (words.Reserved word) StructRest v.value tokens (λ k. keyword_is word k lone) v.derives in
    let block = o.right.right in
    let between = block.derives.left in
    let inner = between.derives.right in
    definition_by d (struct_of kin v.value.1.0 between.value.1.0) tokens ((v.value.0 ∷ []) ++ o.right.front ++ between.derives.front ++ inner.front ++ inner.back ++ block.derives.back)
    (v.seen ∙ ap (struct_of kin v.value.1.0) (block.seen ∙ between.seen))
    (struct_tokens (v.value.0 ∷ []) o.right.front between.derives.front inner.front inner.back block.derives.back block.derives.front between.derives.back o.back o.right.back tokens inner.joined between.derives.joined block.derives.joined
    o.right.joined o.joined)
    (DerivesDefinition.struct kin v.value.1.0 between.value.1.0 (v.value.0 ∷ []) o.right.front between.derives.front inner.front inner.back block.derives.back (is (v.value.0 ∷ []) o.opens) o.right.left between.derives.left inner.left
    inner.right block.derives.right)

service_tokens : (word name base opening inside closing notes ending body block rest front tokens : List Seen) → ending ≡ closing ++ notes → body ≡ inside ++ ending → block ≡ opening ++ body → rest ≡ base ++ block → front ≡ name ++ rest →
    tokens ≡ word ++ front → tokens ≡ word ++ name ++ base ++ opening ++ inside ++ closing ++ notes
service_tokens word name base opening inside closing notes ending body block rest front tokens e1 e2 e3 e4 e5 e6 =
    e6 ∙ ap (λ (f : List Seen). word ++ f) (e5 ∙ ap (λ (f : List Seen). name ++ f) (e4 ∙ ap (λ (f : List Seen). base ++ f) (e3 ∙ ap (λ (f : List Seen). opening ++ f) (e2 ∙ ap (λ (f : List Seen). inside ++ f) e1)))) ∙ sym (right7 word name base opening inside closing notes)

service_to : (d : DefinitionTree) (tokens : List Seen) → ServiceForm d tokens → DerivesDefinition d tokens
service_to d tokens v =
    let o = opens_by (words.Reserved words.Service) ServiceRest v.value tokens (λ k. keyword_is words.Service k refl) v.derives in
    let rest = o.right.right in
    let block = rest.derives.right in
    let body = block.derives.right in
    let ending = body.right in
    definition_by d (service_of v.value.1.0 rest.value.0 block.value.1.0) tokens
    ((v.value.0 ∷ []) ++ o.right.front ++ rest.derives.front ++ block.derives.front ++ body.front ++ ending.derives.front ++ ending.derives.back)
    (v.seen ∙ ap (λ (b : ServiceBodyTree). service_of v.value.1.0 b.base b.functions) rest.seen ∙ ap (λ (fs : List FunctionTree). service_of v.value.1.0 rest.value.0 fs) block.seen)
    (service_tokens (v.value.0 ∷ []) o.right.front rest.derives.front block.derives.front body.front ending.derives.front ending.derives.back body.back block.derives.back rest.derives.back o.right.back o.back tokens ending.derives.joined
    body.joined block.derives.joined rest.derives.joined o.right.joined o.joined)
    (DerivesDefinition.service v.value.1.0 rest.value.0 block.value.1.0 (v.value.0 ∷ []) o.right.front rest.derives.front block.derives.front body.front ending.derives.front ending.derives.back o.opens o.right.left rest.derives.left
    block.derives.left body.left ending.derives.left ending.derives.right)

definition_to : (d : DefinitionTree) (tokens : List Seen) → DefinitionForm d tokens → DerivesDefinition d tokens
definition_to d tokens (inl v) = const_to d tokens v
definition_to d tokens (inr (inl v)) = typedef_to d tokens v
definition_to d tokens (inr (inr (inl v))) = enum_to d tokens v
definition_to d tokens (inr (inr (inr (inl v)))) = struct_to words.Struct kins.Struct refl DerivesKin.struct d tokens v
definition_to d tokens (inr (inr (inr (inr (inl v))))) = struct_to words.Union kins.Union refl DerivesKin.union d tokens v
definition_to d tokens (inr (inr (inr (inr (inr (inl v)))))) = struct_to words.Exception kins.Exception refl DerivesKin.exception d tokens v
definition_to d tokens (inr (inr (inr (inr (inr (inr (inl v))))))) = service_to d tokens v
definition_to d tokens (inr (inr (inr (inr (inr (inr (inr n))))))) = absurd n

-- the notes behind a closing bracket
body_end : (closing notes : List Seen) → Is (words.Mark 125) closing → Notes notes → IsBodyEnd tt (closing ++ notes)
body_end closing notes c n = record { value = (tt, tt); seen = refl; derives = record { front = closing; back = notes; left = c; right = n; joined = refl } }

in_body : {Y : Type 0} (D : List Y → List Seen → Type 0) (ys : List Y) (opening inside closing notes : List Seen) → Is (words.Mark 123) opening → D ys inside → Is (words.Mark 125) closing → Notes notes →
    InBody D ys (opening ++ (inside ++ (closing ++ notes)))
in_body D ys opening inside closing notes o d c n = record {
  value = (tt, (ys, tt));
  seen = refl;
  derives = record {
    front = opening;
    back = inside ++ (closing ++ notes);
    left = o;
    right = record { front = inside; back = closing ++ notes; left = d; right = body_end closing notes c n; joined = refl };
    joined = refl;
  };
}

struct_from : (word : Keyword) (kin : Kin) (n : Name) (fs : List FieldTree) (head name opening inside closing notes : List Seen) → is_kind (word_kind word) (word_kind word) ≡ true → Is (words.Reserved word) head → Declares n name →
    Is (words.Mark 123) opening → DerivesFields fs inside → Is (words.Mark 125) closing → Notes notes →
    Branch word (struct_view kin) StructRest (struct_of kin n fs) (head ++ name ++ opening ++ inside ++ closing ++ notes)
struct_from word kin n fs head name opening inside closing notes same w dn o d c nt =
    let one = is_one (words.Reserved word) head w in
    let between : IsBetween 123 125 fs (opening ++ (inside ++ closing)) = record {
      value = (tt, (fs, tt));
      seen = refl;
      derives = record { front = opening; back = inside ++ closing; left = o; right = record { front = inside; back = closing; left = d; right = c; joined = refl }; joined = refl };
    } in
    let shape : opening ++ (inside ++ (closing ++ notes)) ≡ (opening ++ (inside ++ closing)) ++ notes =
    sym (append_more opening (inside ++ closing) notes ∙ ap (λ (f : List Seen). opening ++ f) (append_more inside closing notes)) in
    let rest : StructRest (n, fs) (name ++ (opening ++ (inside ++ (closing ++ notes)))) = record {
      front = name;
      back = opening ++ (inside ++ (closing ++ notes));
      left = dn;
      right = record { value = (fs, tt); seen = refl; derives = record { front = opening ++ (inside ++ closing); back = notes; left = between; right = nt; joined = shape } };
      joined = refl;
    } in
    record {
      value = (one.seen, (n, fs));
      seen = refl;
      derives = both_at (words.Reserved word) StructRest (one.seen, (n, fs)) (right6 head name opening inside closing notes)
          (both_by (words.Reserved word) StructRest one.seen (n, fs) head (name ++ (opening ++ (inside ++ (closing ++ notes)))) same one.says one.whole rest);
    }

definition_from : (d : DefinitionTree) (tokens : List Seen) → DerivesDefinition d tokens → DefinitionForm d tokens
definition_from _ _ (DerivesDefinition.const n t v word ty name equal value w dt dn m dv) =
    let one = is_one (words.Reserved words.Const) word w in
    inl (record {
      value = (one.seen, (t, record { name = n; value = v }));
      seen = refl;
      derives = both_at (words.Reserved words.Const) ConstRest (one.seen, (t, record { name = n; value = v })) (right5 word ty name equal value) (both_by (words.Reserved words.Const) ConstRest one.seen (t, record { name = n; value = v }) word (ty ++ (name ++ (equal ++ value))) refl one.says one.whole (record {
        front = ty;
        back = name ++ (equal ++ value);
        left = dt;
        right = record {
          value = (n, v);
          seen = refl;
          derives = record {
            front = name;
            back = equal ++ value;
            left = dn;
            right = record { value = (tt, v); seen = refl; derives = record { front = equal; back = value; left = m; right = dv; joined = refl } };
            joined = refl;
          };
        };
        joined = refl;
      }));
    })
definition_from _ _ (DerivesDefinition.typedef n t word ty name notes w dt dn nt) =
    let one = is_one (words.Reserved words.Typedef) word w in
    inr (inl (record {
      value = (one.seen, (t, n));
      seen = refl;
      derives = both_at (words.Reserved words.Typedef) TypedefRest (one.seen, (t, n)) (right4 word ty name notes) (both_by (words.Reserved words.Typedef) TypedefRest one.seen (t, n) word (ty ++ (name ++ notes)) refl one.says one.whole (record {
        front = ty;
        back = name ++ notes;
        left = dt;
        right = record { value = (n, tt); seen = refl; derives = record { front = name; back = notes; left = dn; right = nt; joined = refl } };
        joined = refl;
      }));
    }))
definition_from _ _ (DerivesDefinition.enum n ms word name opening inside closing notes w dn o d c nt) =
    let one = is_one (words.Reserved words.Enum) word w in
    inr (inr (inl (record {
      value = (one.seen, (n, ms));
      seen = refl;
      derives = both_at (words.Reserved words.Enum) EnumRest (one.seen, (n, ms)) (right6 word name opening inside closing notes) (both_by (words.Reserved words.Enum) EnumRest one.seen (n, ms) word (name ++ (opening ++ (inside ++ (closing ++ notes)))) refl one.says one.whole (record {
        front = name;
        back = opening ++ (inside ++ (closing ++ notes));
        left = dn;
        right = in_body DerivesMembers ms opening inside closing notes o d c nt;
        joined = refl;
      }));
    })))
definition_from _ _ (DerivesDefinition.struct kin n fs word name opening inside closing notes dk dn o d c nt) = by kin word dk
  where
    by : (kin : Kin) (word : List Seen) → DerivesKin kin word → DefinitionForm (struct_of kin n fs) (word ++ name ++ opening ++ inside ++ closing ++ notes)
    by _ _ (DerivesKin.struct word w) = inr (inr (inr (inl (struct_from words.Struct kins.Struct n fs word name opening inside closing notes refl w dn o d c nt))))
    by _ _ (DerivesKin.union word w) = inr (inr (inr (inr (inl (struct_from words.Union kins.Union n fs word name opening inside closing notes refl w dn o d c nt)))))
    by _ _ (DerivesKin.exception word w) = inr (inr (inr (inr (inr (inl (struct_from words.Exception kins.Exception n fs word name opening inside closing notes refl w dn o d c nt))))))
definition_from _ _ (DerivesDefinition.service n b fs word name base opening inside closing notes w dn db o d c nt) =
    let one = is_one (words.Reserved words.Service) word w in
    inr (inr (inr (inr (inr (inr (inl (record {
      value = (one.seen, (n, record { base = b; functions = fs }));
      seen = refl;
      derives = both_at (words.Reserved words.Service) ServiceRest (one.seen, (n, record { base = b; functions = fs })) (right7 word name base opening inside closing notes) (both_by (words.Reserved words.Service) ServiceRest one.seen (n, record { base = b; functions = fs }) word (name ++ (base ++ (opening ++ (inside ++ (closing ++ notes))))) refl one.says one.whole (record {
        front = name;
        back = base ++ (opening ++ (inside ++ (closing ++ notes)));
        left = dn;
        right = record {
          value = (b, fs);
          seen = refl;
          derives = record { front = base; back = opening ++ (inside ++ (closing ++ notes)); left = db; right = in_body DerivesFunctions fs opening inside closing notes o d c nt; joined = refl };
        };
        joined = refl;
      }));
    })))))))

-- ---- declarations one after another

abbrev IsDefinition : DefinitionTree → List Seen → Type 0
IsDefinition = Viewed (λ t. t.0) (Both DerivesDefinition IsSeparator)

abbrev pub OneDefinition : List DefinitionTree → List Seen → Type 0
OneDefinition = Viewed (λ d. d ∷ []) IsDefinition

abbrev pub definition_barred : Kind → Bool
definition_barred = both_barred true forms_barred sep_barred

module _ (edge levels : ℕ) where
  abbrev definition_part : Part DefinitionTree
  definition_part xs = moved 0 (λ t. t.0) (step (declared_part edge levels) sep_at xs)

  definition_reads : Reads edge IsDefinition (definition_deep levels) definition_part false definition_kinds definition_barred
  definition_reads =
      view_reads edge (Both DerivesDefinition IsSeparator) (λ t. first_of (definition_deep levels t.0) None) (definition_deep levels) (step (declared_part edge levels) sep_at) (λ t. t.0) false definition_kinds definition_barred
      (λ x tokens d. first_none (definition_deep levels x.0))
      (step_reads edge DerivesDefinition IsSeparator (definition_deep levels) shallow (declared_part edge levels) sep_at false true definition_kinds separators forms_barred sep_barred refl (tt, [], Separator.none) refl
      (same_reads edge DefinitionForm DerivesDefinition (definition_deep levels) (declared_part edge levels) (declared_part edge levels) false definition_kinds forms_barred (λ xs. refl) definition_to definition_from
      (declared_reads edge levels)) (sep_reads edge))

  abbrev pub one_definition_part : Part (List DefinitionTree)
  one_definition_part xs = moved 0 (λ d. d ∷ []) (definition_part xs)

  pub one_definition_reads : Reads edge OneDefinition (definitions_deep levels) one_definition_part false definition_kinds definition_barred
  one_definition_reads =
      view_reads edge IsDefinition (definition_deep levels) (definitions_deep levels) definition_part (λ d. d ∷ []) false definition_kinds definition_barred (λ x tokens d. sym (first_none (definition_deep levels x))) definition_reads

pub definitions_to : (ds : List DefinitionTree) (tokens : List Seen) → Many OneDefinition ds tokens → DerivesDefinitions ds tokens
definitions_to _ _ (no_more ds tokens e none) = subst (λ (v : List DefinitionTree). DerivesDefinitions v tokens) (sym e) (subst (DerivesDefinitions []) (sym none) DerivesDefinitions.none)
definitions_to _ _ (one_more d ds all front back tokens r more e split) =
    let rest = definitions_to ds back more in
    let definition = r.derives in
    let b = definition.derives in
    let whole : tokens ≡ b.front ++ b.back ++ back = split ∙ ap (λ (f : List Seen). f ++ back) b.joined in
    let is : all ≡ definition.value.0 ∷ ds = e ∙ ap (λ (v : List DefinitionTree). v ++ ds) (r.seen ∙ ap (λ (x : DefinitionTree). x ∷ []) definition.seen) in
    subst (λ (v : List DefinitionTree). DerivesDefinitions v tokens) (sym is)
    (subst (DerivesDefinitions (definition.value.0 ∷ ds)) (sym whole) (DerivesDefinitions.more definition.value.0 ds b.front b.back back b.left b.right rest))

pub definitions_from : (ds : List DefinitionTree) (tokens : List Seen) → DerivesDefinitions ds tokens → Many OneDefinition ds tokens
definitions_from _ _ DerivesDefinitions.none = no_more [] [] refl refl
definitions_from _ _ (DerivesDefinitions.more d ds definition separator rest r s others) =
    let one : IsDefinition d (definition ++ separator) = record { value = (d, tt); seen = refl; derives = record { front = definition; back = separator; left = r; right = s; joined = refl } } in
    one_more (d ∷ []) ds (d ∷ ds) (definition ++ separator) rest (definition ++ separator ++ rest) (record { value = d; seen = refl; derives = one }) (definitions_from ds rest others) refl refl

-- ---- as they are scanned

module _ (edge : ℕ) where
  equal_value_is : equal_value_at edge ≡ equal_value_part edge most_levels
  unfolding equal_value_at
  equal_value_is = fun_ext by
    where
      by : (xs : List Seen) → equal_value_at edge xs ≡ equal_value_part edge most_levels xs
      by xs = chain2 (mark_at 61 edge) (value_at most_levels edge) (λ t. t.1) xs

  named_value_is : named_value_at edge ≡ named_value_part edge most_levels
  unfolding named_value_at
  named_value_is = fun_ext by
    where
      by : (xs : List Seen) → named_value_at edge xs ≡ named_value_part edge most_levels xs
      by xs = chain2 (name_at edge) (equal_value_at edge) named_value_view xs ∙ ap (λ (p : Part (List ValueItem)). moved 0 named_value_view (step (name_at edge) p xs)) equal_value_is

  struct_body_is : struct_body_at edge ≡ struct_body_part edge most_levels
  unfolding struct_body_at
  struct_body_is = fun_ext by
    where
      by : (xs : List Seen) → struct_body_at edge xs ≡ struct_body_part edge most_levels xs
      by xs = chain2 (fields_in 123 125 edge) (notes_at edge) (λ t. t.0) xs ∙ ap (λ (p : Part (List FieldTree)). moved 0 (λ t. t.0) (step p (notes_at edge) xs)) (between_is edge 123 125)

  service_body_is : service_body_at edge ≡ service_body_part edge most_levels
  unfolding service_body_at
  service_body_is = fun_ext by
    where
      by : (xs : List Seen) → service_body_at edge xs ≡ service_body_part edge most_levels xs
      by xs = chain2 (extends_at edge) (functions_in edge) service_body_view xs ∙ ap (λ (p : Part (List FunctionTree)). moved 0 service_body_view (step (extends_at edge) p xs)) (functions_is edge)

  -- behind the word that opens it
  module _ (s : Seen) (ss : List Seen) where
    const_is : among (kinds_of words.Const) (kind s.lexeme) ≡ true → const_at edge (s ∷ ss) ≡ branch_part edge most_levels words.Const const_view (const_rest edge most_levels) (s ∷ ss)
    unfolding const_at
    const_is e =
        goes_on 1 (type_at most_levels edge) (named_value_at edge) (λ t. const_of t.1.name t.0 t.1.value) (λ ty n. onward n (named_value_at edge (drop n (s ∷ ss))) λ named n. Ok (const_of named.name ty named.value, n)) (s ∷ ss)
        (λ ty m. last m (named_value_at edge (drop m (s ∷ ss))) (λ named. const_of named.name ty named.value))
        ∙ ap (λ (p : Part NamedValueTree). moved 1 (λ t. const_of t.1.name t.0 t.1.value) (step (type_at most_levels edge) p ss)) named_value_is
        ∙ opened_is edge (kinds_of words.Const) (const_rest edge most_levels) const_view s ss e

    typedef_is : among (kinds_of words.Typedef) (kind s.lexeme) ≡ true → typedef_at edge (s ∷ ss) ≡ branch_part edge most_levels words.Typedef typedef_view (typedef_rest edge most_levels) (s ∷ ss)
    unfolding typedef_at
    typedef_is e =
        goes_on 1 (type_at most_levels edge) (noted_name_at edge) (λ t. typedef_of t.1 t.0) (λ ty n. onward n (noted_name_at edge (drop n (s ∷ ss))) λ name n. Ok (typedef_of name ty, n)) (s ∷ ss)
        (λ ty m. last m (noted_name_at edge (drop m (s ∷ ss))) (λ name. typedef_of name ty))
        ∙ opened_is edge (kinds_of words.Typedef) (typedef_rest edge most_levels) typedef_view s ss e

    enum_is : among (kinds_of words.Enum) (kind s.lexeme) ≡ true → enum_at edge (s ∷ ss) ≡ branch_part edge most_levels words.Enum enum_view (enum_rest edge most_levels) (s ∷ ss)
    unfolding enum_at
    enum_is e =
        goes_on 1 (name_at edge) (members_in edge) (λ t. enum_of t.0 t.1) (λ name n. onward n (members_in edge (drop n (s ∷ ss))) λ members n. Ok (enum_of name members, n)) (s ∷ ss)
        (λ name m. last m (members_in edge (drop m (s ∷ ss))) (λ members. enum_of name members))
        ∙ ap (λ (p : Part (List Member)). moved 1 (λ t. enum_of t.0 t.1) (step (name_at edge) p ss)) (members_is edge)
        ∙ opened_is edge (kinds_of words.Enum) (enum_rest edge most_levels) enum_view s ss e

    struct_is : (word : Keyword) (kin : Kin) → among (kinds_of word) (kind s.lexeme) ≡ true → struct_at kin edge (s ∷ ss) ≡ branch_part edge most_levels word (struct_view kin) (struct_rest edge most_levels) (s ∷ ss)
    unfolding struct_at
    struct_is word kin e =
        goes_on 1 (name_at edge) (struct_body_at edge) (λ t. struct_of kin t.0 t.1) (λ name n. onward n (struct_body_at edge (drop n (s ∷ ss))) λ fields n. Ok (struct_of kin name fields, n)) (s ∷ ss)
        (λ name m. last m (struct_body_at edge (drop m (s ∷ ss))) (λ fields. struct_of kin name fields))
        ∙ ap (λ (p : Part (List FieldTree)). moved 1 (λ t. struct_of kin t.0 t.1) (step (name_at edge) p ss)) struct_body_is
        ∙ opened_is edge (kinds_of word) (struct_rest edge most_levels) (struct_view kin) s ss e

    service_is : among (kinds_of words.Service) (kind s.lexeme) ≡ true → service_at edge (s ∷ ss) ≡ branch_part edge most_levels words.Service service_view (service_rest edge most_levels) (s ∷ ss)
    unfolding service_at
    service_is e =
        goes_on 1 (name_at edge) (service_body_at edge) (λ t. service_of t.0 t.1.base t.1.functions) (λ name n. onward n (service_body_at edge (drop n (s ∷ ss))) λ body n. Ok (service_of name body.base body.functions, n)) (s ∷ ss)
        (λ name m. last m (service_body_at edge (drop m (s ∷ ss))) (λ body. service_of name body.base body.functions))
        ∙ ap (λ (p : Part ServiceBodyTree). moved 1 (λ t. service_of t.0 t.1.base t.1.functions) (step (name_at edge) p ss)) service_body_is
        ∙ opened_is edge (kinds_of words.Service) (service_rest edge most_levels) service_view s ss e

  declared_is : declared_at edge ≡ declared_part edge most_levels
  unfolding declared_at
  declared_is = fun_ext by
    where
      by_form : (at : ℕ) (l : Lexeme) (w : List ℕ) (ss : List Seen) → declared_at edge (record { at = at; lexeme = l; word = w } ∷ ss) ≡ declared_part edge most_levels (record { at = at; lexeme = l; word = w } ∷ ss)
      by_form at (words.Reserved words.Const) w ss = const_is (record { at = at; lexeme = words.Reserved words.Const; word = w }) ss refl
      by_form at (words.Reserved words.Typedef) w ss = typedef_is (record { at = at; lexeme = words.Reserved words.Typedef; word = w }) ss refl
      by_form at (words.Reserved words.Enum) w ss = enum_is (record { at = at; lexeme = words.Reserved words.Enum; word = w }) ss refl
      by_form at (words.Reserved words.Struct) w ss = struct_is (record { at = at; lexeme = words.Reserved words.Struct; word = w }) ss words.Struct kins.Struct refl
      by_form at (words.Reserved words.Union) w ss = struct_is (record { at = at; lexeme = words.Reserved words.Union; word = w }) ss words.Union kins.Union refl
      by_form at (words.Reserved words.Exception) w ss = struct_is (record { at = at; lexeme = words.Reserved words.Exception; word = w }) ss words.Exception kins.Exception refl
      by_form at (words.Reserved words.Service) w ss = service_is (record { at = at; lexeme = words.Reserved words.Service; word = w }) ss refl
      by_form at l w ss = refl

      by : (xs : List Seen) → declared_at edge xs ≡ declared_part edge most_levels xs
      by [] = refl
      by (s ∷ ss) = by_form s.at s.lexeme s.word ss

  definition_is : definition_at edge ≡ definition_part edge most_levels
  unfolding definition_at
  definition_is = fun_ext by
    where
      by : (xs : List Seen) → definition_at edge xs ≡ definition_part edge most_levels xs
      by xs = chain2 (declared_at edge) sep_at (λ t. t.0) xs ∙ ap (λ (p : Part DefinitionTree). moved 0 (λ t. t.0) (step p sep_at xs)) declared_is

  pub one_definition_is : one_definition edge ≡ one_definition_part edge most_levels
  one_definition_is = fun_ext by
    where
      by : (xs : List Seen) → one_definition edge xs ≡ one_definition_part edge most_levels xs
      by xs = listed_moved (definition_at edge xs) ∙ ap (λ (p : Part DefinitionTree). moved 0 (λ d. d ∷ []) (p xs)) definition_is
