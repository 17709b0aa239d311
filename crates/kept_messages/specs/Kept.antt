-- What of a body was kept from one place to another: the places in the frame and in the cells are the same. Where something
-- was kept, the body leads from the one place to the other, and what a writer makes of it on the way stands in the cells.
use Rattle.std.specs.Prelude.{◌≡◌, ℕ, ℤ, List, length, drop, Option, Some, IfSome}
use Rattle.thrift_value.specs.declared.kind.Kind.{Kind}
use Rattle.protocol_traits.specs.declared.forms.Lead.{Lead}
use Rattle.protocol_traits.specs.declared.forms.Opening.{Opening}
use Rattle.protocol_traits.specs.declared.forms.Pairs.{Pairs}
use Rattle.protocol_traits.specs.declared.forms.Stand.{Stand}
use Rattle.protocol_traits.specs.declared.traits.ReadRules.{Ghosts as ReadRules}
use Rattle.protocol_traits.specs.declared.traits.WireWrite.{Ghosts as WriteRules}
use Rattle.protocol_traits.specs.Forms.{lead_item}
use Rattle.type_tables.specs.declared.declared.Ty.{Ty}
use Rattle.type_tables.specs.Declarations.{Declarations}
use Rattle.type_walk.specs.declared.levels.Level.{Level}
use Rattle.type_walk.specs.Positions.{called_for}
use Rattle.translate_verdicts.specs.Body.{source_in, target_in}
use Rattle.kept_forms.specs.Keeping.{KeepsLead, KeepsValue}
use Rattle.translate_known.specs.Quick.{IsFlat, TakesElements, TakesField, TakesFields, TakesPairs, TakesRun, TakesValue, Turns, turned}

-- the cells are as many as the frame's bytes, and from this place on they are the frame's
abbrev pub Mirrors : List ℕ → ℕ → List ℕ → Type 0
Mirrors cells at frame = (length cells ≡ length frame) × (drop at cells ≡ drop at frame)

module _ {S T : Type 0} (reads : ReadRules S) (writes : WriteRules T) where
  -- a value that is no level stands as it is to be written
  abbrev pub KeptLeaf : List ℕ → ℕ → Stand → Kind → Option ℕ → Type 0
  KeptLeaf frame at stand kind kept = IfSome kept (KeepsValue reads.reads reads.stands_at writes.bar writes.plain writes.stands_at frame at stand kind)

  -- what stands next in a struct is read, and stands as it is to be written; a bool field is written whole
  abbrev pub KeptLead : List ℕ → ℕ → Opening → ℤ → Lead → ℤ → ℕ → Type 0
  KeptLead frame at opening last lead id behind = KeepsLead reads.reads reads.stands_at writes.bar writes.plain writes.stands_at frame at opening last lead id behind

  -- so many elements that are no levels stand as they are to be written: whatever is declared, and in however many levels
  abbrev pub KeptLeaves : List ℕ → ℕ → Kind → ℕ → Option ℕ → Type 0
  KeptLeaves frame at kind size kept = IfSome kept (λ x. (d : Declarations) (level : Level) (depth : ℕ) → IsFlat level
      → TakesRun (source_in reads) (target_in writes) reads.stands_at writes.stands_at d level depth frame at kind size frame at frame x x)

  -- the pairs of a map whose keys and values are no levels stand as they are to be written, to its end: whatever is declared,
  -- and in however many levels
  abbrev pub KeptLeafPairs : List ℕ → Pairs → Option ℕ → Type 0
  KeptLeafPairs frame pairs kept = IfSome kept (λ x. (d : Declarations) (level : Level) (depth : ℕ) → Turns level
      → TakesPairs (source_in reads) (target_in writes) reads.stands_at writes.stands_at d level depth frame pairs.behind pairs.key pairs.value pairs.size frame pairs.behind frame x x)

  -- a field that this lead tells stands as it is to be written, whose value is no level
  abbrev pub KeptLeafField : List ℕ → ℕ → Opening → ℤ → Lead → ℤ → ℕ → Option ℕ → Type 0
  KeptLeafField frame at opening last lead id behind kept = IfSome kept (λ x. (d : Declarations) (ty : Ty) (depth : ℕ)
      → TakesField (source_in reads) (target_in writes) reads.stands_at writes.stands_at d ty depth frame at opening last (lead_item lead id) id behind frame at frame x x)

  -- In each word from here on what is known of the value or of the struct means some types, of which it has one.
  module _ (means : Ty → Type 0) (d : Declarations) where
    -- a value was kept, inside so many levels
    abbrev pub KeptValue : ℕ → List ℕ → ℕ → Stand → Kind → List ℕ → List ℕ → Option ℕ → Type 0
    KeptValue depth frame at stand kind old new kept = IfSome kept (λ x. (ty : Ty) → means ty
        → TakesValue (source_in reads) (target_in writes) reads.stands_at writes.stands_at d ty depth frame at stand kind old at new x x)

    -- a field that this lead tells was kept
    abbrev pub KeptField : ℕ → List ℕ → ℕ → Opening → ℤ → Lead → ℤ → ℕ → List ℕ → List ℕ → Option ℕ → Type 0
    KeptField depth frame at opening last lead id behind old new kept = IfSome kept (λ x. (ty : Ty) → means ty
        → TakesField (source_in reads) (target_in writes) reads.stands_at writes.stands_at d ty depth frame at opening last (lead_item lead id) id behind old at new x x)

    -- the fields of a struct were kept to its end
    abbrev pub KeptFields : ℕ → List ℕ → ℕ → Opening → List ℕ → List ℕ → Option ℕ → Type 0
    KeptFields depth frame at opening old new kept = IfSome kept (λ x. (ty : Ty) → means ty
        → TakesFields (source_in reads) (target_in writes) reads.stands_at writes.stands_at d ty depth frame at opening old at new x x)

    -- so many elements of a list or set were kept, and its end was not
    abbrev pub KeptRun : ℕ → List ℕ → ℕ → Kind → ℕ → List ℕ → List ℕ → Option ℕ → Type 0
    KeptRun depth frame at kind size old new kept = IfSome kept (λ x. (level : Level) → IsFlat level → means (called_for (Some level))
        → TakesRun (source_in reads) (target_in writes) reads.stands_at writes.stands_at d level depth frame at kind size old at new x x)

    -- the elements of a list or set were kept to its end
    abbrev pub KeptElements : ℕ → List ℕ → ℕ → Kind → ℕ → List ℕ → List ℕ → Option ℕ → Type 0
    KeptElements depth frame at kind size old new kept = IfSome kept (λ x. (level : Level) → IsFlat level → means (called_for (Some level))
        → TakesElements (source_in reads) (target_in writes) reads.stands_at writes.stands_at d level depth frame at kind size old at new x x)

  -- the pairs of a map were kept to its end, whose keys and values may have these types
  abbrev pub KeptPairs : (Ty → Type 0) → (Ty → Type 0) → Declarations → ℕ → List ℕ → Pairs → List ℕ → List ℕ → Option ℕ → Type 0
  KeptPairs keys values d depth frame pairs old new kept =
      IfSome kept (λ x. (level : Level) → Turns level → keys (called_for (Some level)) → values (called_for (Some (turned level)))
      → TakesPairs (source_in reads) (target_in writes) reads.stands_at writes.stands_at d level depth frame pairs.behind pairs.key pairs.value pairs.size old pairs.behind new x x)
