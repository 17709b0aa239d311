-- Fields, structs and containers that were taken part by part.
use Rattle.std.proofs.Common.{◌≡◌, ◌+◌, ◌<◌, ◌≤◌, Bool, ℕ, ℤ, zero, suc, List, ◌∷◌, length, Option, Some, None, arith, refl, subst}
use Rattle.std.specs.Prelude.{IfOk, IfSome}
use Rattle.std.proofs.lemmas.Bool.{ne_eqb}
use Rattle.thrift_value.specs.declared.kind.Kind.{Kind}
use Rattle.thrift_value.specs.declared.kind.Kind.TheVariants as kinds
use Rattle.thrift_value.specs.Items.{Item, field, bool_value, map_begin}
use Rattle.protocol_traits.specs.declared.forms.Container.{Container}
use Rattle.protocol_traits.specs.declared.forms.Container.TheVariants as containers
use Rattle.protocol_traits.specs.declared.forms.Opening.{Opening}
use Rattle.protocol_traits.specs.declared.forms.Opening.TheVariants as openings
use Rattle.protocol_traits.specs.declared.forms.Stand.{Stand}
use Rattle.protocol_traits.specs.declared.forms.Stand.TheVariants as stands
use Rattle.protocol_traits.specs.declared.nest.Slot.{Slot}
use Rattle.protocol_traits.specs.declared.nest.Slot.TheVariants as slots
use Rattle.protocol_traits.specs.declared.proto.Hint.{Hint}
use Rattle.protocol_traits.specs.declared.proto.Mark.{Mark}
use Rattle.protocol_traits.specs.Follow.{after as levels_after, spent}
use Rattle.protocol_traits.specs.Forms.{IsDone, Spells, SpellsTwice, SpellsValue, Steps, StepsInto, StepsTwice, elements_item, opening_after, pairs_item}
use Rattle.protocol_traits.specs.Room.{weight}
use Rattle.type_tables.specs.declared.declared.StructId.{StructId}
use Rattle.type_tables.specs.declared.declared.Ty.{Ty}
use Rattle.type_tables.specs.declared.declared.Ty.TheVariants as types
use Rattle.type_tables.specs.Declarations.{Declarations}
use Rattle.type_walk.specs.declared.levels.Level.{Level}
use Rattle.type_walk.specs.Positions.{Position, after, field_type, hint_of, in_list, in_map, in_set, in_struct, mark_of, passed, standing, struct_level}
use Rattle.translate_verdicts.specs.Body.{Source, TargetRules}
use Rattle.translate_known.specs.Quick.{IsFlat, Spot, Takes, TakesField, TakesValue, Turns, body_type, called, in_elements, spot}
use Rattle.translate_known.proofs.Taking.{calls_some, spent_length, takes_item, takes_then, takes_twice}

pub flat_struct : (ty : Ty) → IsFlat (in_struct ty)
flat_struct types.Unknown outer = refl
flat_struct types.Bool outer = refl
flat_struct types.I8 outer = refl
flat_struct types.I16 outer = refl
flat_struct types.I32 outer = refl
flat_struct types.I64 outer = refl
flat_struct types.Double outer = refl
flat_struct types.Text outer = refl
flat_struct types.Blob outer = refl
flat_struct (types.Enum e) outer = refl
flat_struct (types.Struct s) outer = refl
flat_struct (types.Map key value) outer = refl
flat_struct (types.Set element) outer = refl
flat_struct (types.List element) outer = refl
flat_struct types.Uuid outer = refl

flat_set : (d : Declarations) (ty : Ty) (kind : Kind) → IsFlat (in_set d ty kind)
flat_set d types.Unknown kind outer = refl
flat_set d types.Bool kind outer = refl
flat_set d types.I8 kind outer = refl
flat_set d types.I16 kind outer = refl
flat_set d types.I32 kind outer = refl
flat_set d types.I64 kind outer = refl
flat_set d types.Double kind outer = refl
flat_set d types.Text kind outer = refl
flat_set d types.Blob kind outer = refl
flat_set d (types.Enum e) kind outer = refl
flat_set d (types.Struct s) kind outer = refl
flat_set d (types.Map key value) kind outer = refl
flat_set d (types.Set element) kind outer = refl
flat_set d (types.List element) kind outer = refl
flat_set d types.Uuid kind outer = refl

flat_list : (d : Declarations) (ty : Ty) (kind : Kind) → IsFlat (in_list d ty kind)
flat_list d types.Unknown kind outer = refl
flat_list d types.Bool kind outer = refl
flat_list d types.I8 kind outer = refl
flat_list d types.I16 kind outer = refl
flat_list d types.I32 kind outer = refl
flat_list d types.I64 kind outer = refl
flat_list d types.Double kind outer = refl
flat_list d types.Text kind outer = refl
flat_list d types.Blob kind outer = refl
flat_list d (types.Enum e) kind outer = refl
flat_list d (types.Struct s) kind outer = refl
flat_list d (types.Map key value) kind outer = refl
flat_list d (types.Set element) kind outer = refl
flat_list d (types.List element) kind outer = refl
flat_list d types.Uuid kind outer = refl

pub flat_elements : (d : Declarations) (container : Container) (ty : Ty) (kind : Kind) → IsFlat (in_elements d container ty kind)
flat_elements d containers.Map ty kind outer = flat_list d ty kind outer
flat_elements d containers.Set ty kind outer = flat_set d ty kind outer
flat_elements d containers.List ty kind outer = flat_list d ty kind outer

pub turns_map : (d : Declarations) (ty : Ty) (key value : Kind) → Turns (in_map d ty key value)
turns_map d types.Unknown key value outer = (refl, refl)
turns_map d types.Bool key value outer = (refl, refl)
turns_map d types.I8 key value outer = (refl, refl)
turns_map d types.I16 key value outer = (refl, refl)
turns_map d types.I32 key value outer = (refl, refl)
turns_map d types.I64 key value outer = (refl, refl)
turns_map d types.Double key value outer = (refl, refl)
turns_map d types.Text key value outer = (refl, refl)
turns_map d types.Blob key value outer = (refl, refl)
turns_map d (types.Enum e) key value outer = (refl, refl)
turns_map d (types.Struct s) key value outer = (refl, refl)
turns_map d (types.Map first second) key value outer = (refl, refl)
turns_map d (types.Set element) key value outer = (refl, refl)
turns_map d (types.List element) key value outer = (refl, refl)
turns_map d types.Uuid key value outer = (refl, refl)

-- what the beginning of a list or set leaves
pub elements_opening : (container : Container) (kind : Kind) (size : ℕ) → opening_after (elements_item container kind size) ≡ openings.New
elements_opening containers.Map kind size = refl
elements_opening containers.Set kind size = refl
elements_opening containers.List kind size = refl

pub elements_nest : (container : Container) (kind : Kind) (size : ℕ) (nest : List Slot) → levels_after (elements_item container kind size) nest ≡ slots.Elements kind size ∷ spent nest
elements_nest containers.Map kind size nest = refl
elements_nest containers.Set kind size nest = refl
elements_nest containers.List kind size nest = refl

pub elements_after : (d : Declarations) (ty : Ty) (container : Container) (kind : Kind) (size : ℕ) (outer : List Level)
    → after (called d outer ty) (elements_item container kind size) ≡ standing d (in_elements d container ty kind ∷ passed outer)
elements_after d ty containers.Map kind size outer = refl
elements_after d ty containers.Set kind size outer = refl
elements_after d ty containers.List kind size outer = refl

pub pairs_some : (key value : Kind) (size : ℕ) → 0 < size → pairs_item key value size ≡ map_begin key value size
pairs_some key value zero some = absurd (omega arith)
pairs_some key value (suc n) some = rw (ne_eqb (suc n) 0 (λ none. omega arith)) refl

pub elements_done : (container : Container) (kind : Kind) (up : List Slot) → (container ≡ containers.Map → ⊥) → IsDone container (slots.Elements kind 0 ∷ up)
elements_done containers.Map kind up no_map = absurd (no_map refl)
elements_done containers.Set kind up no_map = refl
elements_done containers.List kind up no_map = refl

module _ {S T : Type 0} (source : Source S) (target : TargetRules T) (reader_at : S → List ℕ → ℕ → Opening → List Slot → Type 0) (writer_at : T → Opening → List Slot → Type 0) (frame : List ℕ)
    (pays : (s : S) (hint : Hint) → IfOk (source.reads s hint) (λ x. weight x.0 + source.ahead x.1 ≤ source.ahead s))
    (goes_on : (t : T) (opening : Opening) (nest : List Slot) (item : Item) (mark : Mark) → 0 < length nest → writer_at t opening nest → writer_at (target.after t item mark) (opening_after item) (levels_after item nest)) where
  -- a bool field
  pub takes_flag : (d : Declarations) (ty : Ty) (depth at behind read : ℕ) (opening : Opening) (last id : ℤ) (value : Bool) (old new : List ℕ) (to written : ℕ)
      → ((up : List Slot) → ((hint : Hint) → Steps source.reads reader_at frame at opening (slots.Fields last ∷ up) hint (field id kinds.Bool) behind)
      → StepsTwice source.reads reader_at frame at opening (slots.Fields last ∷ up) (field id kinds.Bool) (bool_value value) read)
      → ((up : List Slot) → SpellsTwice target.bar target.plain writer_at target.after old to new written opening (slots.Fields last ∷ up) (field id kinds.Bool) (bool_value value))
      → TakesField source target reader_at writer_at d ty depth frame at opening last (field id kinds.Bool) id behind old to new read written
  takes_flag d ty depth at behind read opening last id value old new to written steps spells up outer deep lead =
      subst (λ (levels : List Level). Takes source target reader_at writer_at frame (spot at opening (slots.Fields last ∷ up) (standing d (in_struct ty ∷ outer))) (spot read openings.Old (slots.Fields id ∷ up) (standing d levels)) old to new written) (flat_struct ty outer)
      (takes_twice source target reader_at writer_at frame pays goes_on at read opening (slots.Fields last ∷ up) (standing d (in_struct ty ∷ outer)) (field id kinds.Bool) (bool_value value) old new to written (omega arith) (omega arith)
      (steps up lead) (spells up))

  -- a field and its value
  pub takes_field : (d : Declarations) (ty : Ty) (depth at behind read : ℕ) (opening : Opening) (last id : ℤ) (kind : Kind) (old mid new : List ℕ) (to value written : ℕ)
      → ((up : List Slot) (mark : Mark) → Spells target.bar target.plain writer_at old to mid value opening (slots.Fields last ∷ up) mark (field id kind))
      → TakesValue source target reader_at writer_at d (field_type d (Some (in_struct ty)) id kind) depth frame behind stands.Field kind mid value new read written
      → TakesField source target reader_at writer_at d ty depth frame at opening last (field id kind) id behind old to new read written
  takes_field d ty depth at behind read opening last id kind old mid new to value written spells whole up outer deep lead =
      let nest : List Slot = slots.Fields last ∷ up in
      let p : Position = standing d (in_struct ty ∷ outer) in
      subst (λ (levels : List Level). Takes source target reader_at writer_at frame (spot at opening nest p) (spot read openings.Old (slots.Fields id ∷ up) (standing d levels)) old to new written) (flat_struct ty outer)
      (takes_then source target reader_at writer_at frame (spot at opening nest p) (spot behind openings.Old (slots.Value kind id ∷ up) (called d (in_struct ty ∷ outer) (field_type d (Some (in_struct ty)) id kind)))
      (spot read openings.Old (slots.Fields id ∷ up) (standing d (passed (in_struct ty ∷ outer)))) old mid new to value written
      (takes_item source target reader_at writer_at frame pays goes_on at behind opening nest p (field id kind) old mid to value (omega arith) (lead (hint_of p)) (spells up (mark_of p (field id kind))))
      (whole openings.Old (slots.Value kind id ∷ up) (in_struct ty ∷ outer) refl (omega (arith, deep))))

  -- a struct or container, from its beginning to its end
  pub takes_level : (d : Declarations) (ty : Ty) (depth at inside read : ℕ) (stand : Stand) (kind : Kind) (item : Item) (slot : Slot) (level : Level) (old mid new : List ℕ) (to value written : ℕ)
      → opening_after item ≡ openings.New → ((nest : List Slot) → levels_after item nest ≡ slot ∷ spent nest) → ((outer : List Level) → after (called d outer ty) item ≡ standing d (level ∷ passed outer)) → depth < 256
      → StepsInto source.reads reader_at frame at stand kind item inside
      → SpellsValue target.bar target.plain writer_at old to mid value stand kind item
      → ((up : List Slot) (outer : List Level) → length up + 1 ≡ depth + 1
      → Takes source target reader_at writer_at frame (spot inside openings.New (slot ∷ up) (standing d (level ∷ outer))) (spot read openings.Old up (standing d outer)) mid value new written)
      → TakesValue source target reader_at writer_at d ty depth frame at stand kind old to new read written
  takes_level d ty depth at inside read stand kind item slot level old mid new to value written opens nests goes shallow steps spells inner opening nest outer calls deep =
      let some = calls_some stand kind opening nest calls in
      let p : Position = called d outer ty in
      let begun : Spot = spot inside openings.New (slot ∷ spent nest) (standing d (level ∷ passed outer)) in
      let same : spot inside (opening_after item) (levels_after item nest) (after p item) ≡ begun = rw (opens, nests nest, goes outer) refl in
      takes_then source target reader_at writer_at frame (spot at opening nest p) begun (spot read openings.Old (spent nest) (standing d (passed outer))) old mid new to value written
      (subst (λ (b : Spot). Takes source target reader_at writer_at frame (spot at opening nest p) b old to mid value) same
      (takes_item source target reader_at writer_at frame pays goes_on at inside opening nest p item old mid to value some (steps opening nest (hint_of p) calls (omega (arith, deep))) (spells opening nest (mark_of p item) calls)))
      (inner (spent nest) (passed outer) (omega (arith, spent_length nest, deep)))

-- what holds of the answer, if there is one
pub if_some : {A : Type 0} (P Q : A → Type 0) (o : Option A) → ((x : A) → P x → Q x) → IfSome o P → IfSome o Q
if_some P Q (Some x) go h = go x h
if_some P Q None go h = h

-- what was read of a map before a key
abbrev pub key_opening : Stand → Opening
key_opening stands.FirstKey = openings.New
key_opening stand = openings.Old

-- the beginning of a list or set weighs as much
pub elements_weight : (container : Container) (kind : Kind) (size : ℕ) → weight (elements_item container kind size) ≡ 19
elements_weight containers.Map kind size = refl
elements_weight containers.Set kind size = refl
elements_weight containers.List kind size = refl

-- the level of a body's struct
pub body_level : (body : Option StructId) → struct_level body ≡ in_struct (body_type body)
body_level None = refl
body_level (Some s) = refl
