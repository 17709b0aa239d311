-- No name that is declared in a text has a dot.
use Rattle.std.proofs.Common.{◌≡◌, ◌∙◌, ap, sym, ℕ, zero, suc, ◌==◌, ◌||◌, List, [], ◌∷◌, slice_get, Option, Some, None, Bool, true, false, option_and_then, refl}
use Rattle.std.specs.List.{list_any}
use Rattle.idl_document.specs.declared.document.Name.{Name}
use Rattle.idl_document.specs.Trees.{DefinitionTree, DocumentTree, FunctionTree, service_of}
use Rattle.idl_parser.specs.Fields.{has_dot}
use Rattle.idl_parser.specs.Grammar.{Declares, Derives, DerivesDefinition, DerivesDefinitions}
use Rattle.idl_parser.specs.Seen.{Seen}
use Rattle.idl_names.specs.Files.{FileTree}
use Rattle.idl_names.specs.Paths.{last_by, last_place}
use Rattle.idl_laws.specs.LookUps.{AreDotless}
use Rattle.check_laws.specs.Held.{AreHeld}

neither : (a b : Bool) → (a || b) ≡ false → (a ≡ false) × (b ≡ false)
neither true b e = absurd (cc)
neither false b e = (refl, e)

no_place : (word : List ℕ) → has_dot word ≡ false → last_place 46 word ≡ None
no_place [] e = refl
no_place (b ∷ bs) e =
    let both = neither (b == 46) (list_any (λ c. c == 46) bs) e in
    ap (last_by (b == 46)) (no_place bs both.1) ∙ ap (λ (t : Bool). last_by t None) both.0

declared_flat : (name : Name) (tokens : List Seen) → Declares name tokens → has_dot name.text ≡ false
declared_flat _ _ (Declares.name name tokens means flat) = flat

module _ (name : Name) (base : Option Name) (functions : List FunctionTree) where
  definition_flat : (d : DefinitionTree) (tokens : List Seen) → DerivesDefinition d tokens → d ≡ service_of name base functions → has_dot name.text ≡ false
  definition_flat _ _ (DerivesDefinition.const n t v word ty written equal value w dt dn m dv) e = absurd (cc)
  definition_flat _ _ (DerivesDefinition.typedef n t word ty written notes w dt dn ns) e = absurd (cc)
  definition_flat _ _ (DerivesDefinition.enum n ms word written opening inside closing notes w dn o d c ns) e = absurd (cc)
  definition_flat _ _ (DerivesDefinition.struct kin n fs word written opening inside closing notes dk dn o d c ns) e = absurd (cc)
  definition_flat _ _ (DerivesDefinition.service n b fs word written extended opening inside closing notes w dn db o d c ns) e =
      let same : n ≡ name = cc in
      sym (ap (λ (m : Name). has_dot m.text) same) ∙ declared_flat n written dn

  definitions_flat : (ds : List DefinitionTree) (tokens : List Seen) (j : ℕ) → DerivesDefinitions ds tokens → slice_get ds j ≡ Some (service_of name base functions) → has_dot name.text ≡ false
  definitions_flat _ _ j DerivesDefinitions.none e = absurd (cc)
  definitions_flat _ _ zero (DerivesDefinitions.more d ds definition separator rest r s others) e =
      let same : d ≡ service_of name base functions = cc in
      definition_flat d definition r same
  definitions_flat _ _ (suc j) (DerivesDefinitions.more d ds definition separator rest r s others) e = definitions_flat ds rest j others e

  document_flat : (d : DocumentTree) (tokens : List Seen) (j : ℕ) → Derives d tokens → slice_get d.definitions j ≡ Some (service_of name base functions) → has_dot name.text ≡ false
  document_flat _ _ j (Derives.document d headers definitions h ds) e = definitions_flat d.definitions definitions j ds e

  file_flat : (holds : List ℕ → Option (List ℕ)) (files : List FileTree) (k j : ℕ) → AreHeld holds files → option_and_then (λ tree. slice_get tree.document.definitions j) (slice_get files k) ≡ Some (service_of name base functions) →
      has_dot name.text ≡ false
  file_flat holds [] k j held e = absurd (cc)
  file_flat holds (f ∷ fs) zero j held e = let text = held.0.2 in document_flat f.document _ j text.2.0 e
  file_flat holds (f ∷ fs) (suc k) j held e = file_flat holds fs k j held.1 e

pub dotless : (holds : List ℕ → Option (List ℕ)) (files : List FileTree) → AreHeld holds files → AreDotless files
dotless holds files held spot name base functions declared = no_place name.text (file_flat name base functions holds files spot.file spot.definition held declared)
