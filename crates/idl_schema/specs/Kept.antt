-- What the rules that a file keeps by itself see to, so that tables can have what it declares.
use Rattle.std.specs.Prelude.{◌≡◌, ℕ, List, [], ◌∷◌, map}
use Rattle.idl_document.specs.Trees.{FieldTree, FunctionTree}
use Rattle.idl_rules.specs.declared.row.IdlRow.TheVariants as rows
use Rattle.idl_rules.specs.Doubles.{repeated}
use Rattle.idl_rules.specs.Ids.{ids_from, refused_ids}
use Rattle.idl_rules.specs.Rules.{rule_refusals}
use Rattle.idl_names.specs.Files.{FileTree}
use Rattle.type_tables.specs.declared.declared.FieldInfo.{FieldInfo}
use Rattle.type_tables.specs.declared.declared.MethodInfo.{MethodInfo}

-- each id of these fields has 16 bits and stands neither in the list nor twice, where so many fields without an id stand before them
abbrev pub AreFree : List FieldInfo → ℕ → List FieldTree → Type 0
AreFree list before fields = refused_ids (map (λ f. f.id) list) (ids_from before fields) ≡ []

-- no name of these methods is that of one that is there, or stands twice
abbrev pub AreNew : List (List ℕ × MethodInfo) → List FunctionTree → Type 0
AreNew methods functions = repeated rows.DuplicateName (map (λ m. m.0) methods) (map (λ f. f.name) functions) ≡ []

-- nothing is refused in a file by itself
abbrev pub KeepRules : List FileTree → Type 0
KeepRules [] = Unit {0}
KeepRules (f ∷ fs) = (rule_refusals f.document ≡ []) × KeepRules fs
