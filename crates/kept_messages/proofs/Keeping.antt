-- Items that stand in a frame as they are to be written lead a body on.
use Rattle.std.proofs.Common.{◌≡◌, ◌+◌, ◌-◌, ◌*◌, ◌≤◌, ◌<◌, ℕ, zero, suc, ℤ, List, ◌∷◌, Option, length, Some, ap, arith, refl, subst, sym}
use Rattle.std.specs.Prelude.{IfOk}
use Rattle.thrift_value.specs.declared.kind.Kind.{Kind}
use Rattle.thrift_value.specs.declared.kind.Kind.TheVariants as kinds
use Rattle.thrift_value.specs.Items.{Item, bool_value, i8_value, i16_value, i32_value, i64_value, double_value, text, uuid_value, field}
use Rattle.protocol_traits.specs.declared.fault.Bar.{Bar}
use Rattle.protocol_traits.specs.declared.forms.Container.{Container}
use Rattle.protocol_traits.specs.declared.forms.Container.TheVariants as containers
use Rattle.protocol_traits.specs.declared.forms.Lead.{Lead}
use Rattle.protocol_traits.specs.declared.forms.Lead.TheVariants as leads
use Rattle.protocol_traits.specs.declared.forms.Opening.{Opening}
use Rattle.protocol_traits.specs.declared.forms.Opening.TheVariants as openings
use Rattle.protocol_traits.specs.declared.forms.Stand.{Stand}
use Rattle.protocol_traits.specs.declared.forms.Stand.TheVariants as stands
use Rattle.protocol_traits.specs.declared.nest.Slot.{Slot}
use Rattle.protocol_traits.specs.declared.nest.Slot.TheVariants as slots
use Rattle.protocol_traits.specs.declared.proto.Hint.{Hint}
use Rattle.protocol_traits.specs.declared.proto.Mark.{Mark}
use Rattle.protocol_traits.specs.Follow.{after as levels_after}
use Rattle.protocol_traits.specs.Forms.{SpellsField, container_kind, lead_item, opening_after}
use Rattle.protocol_traits.specs.Room.{weight}
use Rattle.protocol_traits.specs.Steps.{Step}
use Rattle.type_tables.specs.declared.declared.Ty.{Ty}
use Rattle.type_tables.specs.Declarations.{Declarations}
use Rattle.type_walk.specs.declared.levels.Level.{Level}
use Rattle.type_walk.specs.Positions.{Position, called_for, field_type, hint_of, in_struct, mark_of, passed, standing}
use Rattle.translate_verdicts.specs.Body.{Source, TargetRules}
use Rattle.translate_known.specs.Quick.{IsFlat, Spot, Takes, TakesField, TakesRun, TakesValue, called, spot}
use Rattle.translate_known.proofs.Taking.{calls_some, takes_item, takes_none, takes_then}
use Rattle.translate_known.proofs.Levels.{takes_field}
use Rattle.kept_forms.specs.Keeping.{KeepsRun, KeepsValue, SpellsLead}

module _ {S T : Type 0} (source : Source S) (target : TargetRules T) (reader_at : S → List ℕ → ℕ → Opening → List Slot → Type 0) (writer_at : T → Opening → List Slot → Type 0) (frame : List ℕ)
    (pays : (s : S) (hint : Hint) → IfOk (source.reads s hint) (λ x. weight x.0 + source.ahead x.1 ≤ source.ahead s))
    (goes_on : (t : T) (opening : Opening) (nest : List Slot) (item : Item) (mark : Mark) → 0 < length nest → writer_at t opening nest → writer_at (target.after t item mark) (opening_after item) (levels_after item nest)) where
  -- a value that is no level
  pub takes_leaf : (kind : Kind) (d : Declarations) (ty : Ty) (depth at behind : ℕ) (stand : Stand) → KeepsValue source.reads reader_at target.bar target.plain writer_at frame at stand kind behind
      → TakesValue source target reader_at writer_at d ty depth frame at stand kind frame at frame behind behind
  takes_leaf kinds.Bool d ty depth at behind stand keeps opening nest outer calls deep =
      let p : Position = called d outer ty in
      let item : Item = bool_value keeps.0 in
      takes_item source target reader_at writer_at frame pays goes_on at behind opening nest p item frame frame at behind (calls_some stand kinds.Bool opening nest calls)
      (keeps.1 opening nest (hint_of p) calls) (keeps.2 opening nest (mark_of p item) calls)
  takes_leaf kinds.I8 d ty depth at behind stand keeps opening nest outer calls deep =
      let p : Position = called d outer ty in
      let item : Item = i8_value keeps.0 in
      takes_item source target reader_at writer_at frame pays goes_on at behind opening nest p item frame frame at behind (calls_some stand kinds.I8 opening nest calls)
      (keeps.1 opening nest (hint_of p) calls) (keeps.2 opening nest (mark_of p item) calls)
  takes_leaf kinds.I16 d ty depth at behind stand keeps opening nest outer calls deep =
      let p : Position = called d outer ty in
      let item : Item = i16_value keeps.0 in
      takes_item source target reader_at writer_at frame pays goes_on at behind opening nest p item frame frame at behind (calls_some stand kinds.I16 opening nest calls)
      (keeps.1 opening nest (hint_of p) calls) (keeps.2 opening nest (mark_of p item) calls)
  takes_leaf kinds.I32 d ty depth at behind stand keeps opening nest outer calls deep =
      let p : Position = called d outer ty in
      let item : Item = i32_value keeps.0 in
      takes_item source target reader_at writer_at frame pays goes_on at behind opening nest p item frame frame at behind (calls_some stand kinds.I32 opening nest calls)
      (keeps.1 opening nest (hint_of p) calls) (keeps.2 opening nest (mark_of p item) calls)
  takes_leaf kinds.I64 d ty depth at behind stand keeps opening nest outer calls deep =
      let p : Position = called d outer ty in
      let item : Item = i64_value keeps.0 in
      takes_item source target reader_at writer_at frame pays goes_on at behind opening nest p item frame frame at behind (calls_some stand kinds.I64 opening nest calls)
      (keeps.1 opening nest (hint_of p) calls) (keeps.2 opening nest (mark_of p item) calls)
  takes_leaf kinds.Double d ty depth at behind stand keeps opening nest outer calls deep =
      let p : Position = called d outer ty in
      let item : Item = double_value keeps.0 in
      takes_item source target reader_at writer_at frame pays goes_on at behind opening nest p item frame frame at behind (calls_some stand kinds.Double opening nest calls)
      (keeps.1 opening nest (hint_of p) calls) (keeps.2 opening nest (mark_of p item) calls)
  takes_leaf kinds.Str d ty depth at behind stand keeps opening nest outer calls deep =
      let p : Position = called d outer ty in
      let item : Item = text keeps.0 in
      takes_item source target reader_at writer_at frame pays goes_on at behind opening nest p item frame frame at behind (calls_some stand kinds.Str opening nest calls)
      (keeps.1 opening nest (hint_of p) calls) (keeps.2 opening nest (mark_of p item) calls)
  takes_leaf kinds.Uuid d ty depth at behind stand keeps opening nest outer calls deep =
      let p : Position = called d outer ty in
      let item : Item = uuid_value keeps.0 in
      takes_item source target reader_at writer_at frame pays goes_on at behind opening nest p item frame frame at behind (calls_some stand kinds.Uuid opening nest calls)
      (keeps.1 opening nest (hint_of p) calls) (keeps.2 opening nest (mark_of p item) calls)
  takes_leaf kinds.Struct d ty depth at behind stand keeps opening nest outer calls deep = absurd keeps.0
  takes_leaf kinds.Map d ty depth at behind stand keeps opening nest outer calls deep = absurd keeps.0
  takes_leaf kinds.Set d ty depth at behind stand keeps opening nest outer calls deep = absurd keeps.0
  takes_leaf kinds.List d ty depth at behind stand keeps opening nest outer calls deep = absurd keeps.0

  -- a field whose value is no level
  pub takes_leaf_field : (kind : Kind) (d : Declarations) (ty : Ty) (depth at behind read : ℕ) (opening : Opening) (last id : ℤ)
      → SpellsField target.bar target.plain writer_at frame at frame behind opening last (field id kind)
      → KeepsValue source.reads reader_at target.bar target.plain writer_at frame behind stands.Field kind read
      → TakesField source target reader_at writer_at d ty depth frame at opening last (field id kind) id behind frame at frame read read
  takes_leaf_field kind d ty depth at behind read opening last id spells keeps =
      takes_field source target reader_at writer_at frame pays goes_on d ty depth at behind read opening last id kind frame frame frame at behind read spells
      (takes_leaf kind d (field_type d (Some (in_struct ty)) id kind) depth behind read stands.Field keeps)

  -- so many values one behind another that have as many bytes each
  pub takes_run : (kind : Kind) (d : Declarations) (level : Level) (depth at size behind : ℕ) → IsFlat level → KeepsRun source.reads reader_at target.bar target.plain writer_at frame at kind size behind
      → TakesRun source target reader_at writer_at d level depth frame at kind size frame at frame behind behind
  takes_run kind d level depth at size behind flat run opening up outer deep = let all = so_far size (omega arith) in (all.0, to_the_end all.0 all.1)
    where
      p : Position
      p = standing d (level ∷ outer)

      first : Spot
      first = spot at opening (slots.Elements kind size ∷ up) p

      behind_of : ℕ → ℕ
      behind_of n = at + n * run.width

      To : ℕ → ℕ → Opening → Type 0
      To left place now = Takes source target reader_at writer_at frame first (spot place now (slots.Elements kind left ∷ up) p) frame at frame place

      -- one more value
      more : (n : ℕ) (now : Opening) → n < size → To (size - n) (behind_of n) now → To (size - suc n) (behind_of (suc n)) openings.Old
      more n now few before =
          let left : ℕ = size - n in
          let here : Spot = spot (behind_of n) now (slots.Elements kind left ∷ up) p in
          let next : ℕ = behind_of n + run.width in
          let less : left - 1 ≡ size - suc n = omega arith in
          let place : next ≡ behind_of (suc n) = omega arith in
          let level_stays : standing d (passed (level ∷ outer)) ≡ p = ap (standing d) (flat outer) in
          let taken : Takes source target reader_at writer_at frame here (spot next openings.Old (slots.Elements kind (left - 1) ∷ up) (standing d (passed (level ∷ outer)))) frame (behind_of n) frame next =
          takes_leaf kind d (called_for (Some level)) depth (behind_of n) next stands.Element (run.each n few) now (slots.Elements kind left ∷ up) (level ∷ outer) (refl, omega (arith, few)) (omega (arith, deep)) in
          let on : To (left - 1) next openings.Old = takes_then source target reader_at writer_at frame first here (spot next openings.Old (slots.Elements kind (left - 1) ∷ up) p) frame frame frame at (behind_of n) next before
          (subst (λ (q : Position). Takes source target reader_at writer_at frame here (spot next openings.Old (slots.Elements kind (left - 1) ∷ up) q) frame (behind_of n) frame next) level_stays taken) in
          subst (λ (l : ℕ). To l (behind_of (suc n)) openings.Old) less (subst (λ (q : ℕ). To (left - 1) q openings.Old) place on)

      so_far : (n : ℕ) → n ≤ size → (now : Opening) × To (size - n) (behind_of n) now
      so_far zero few =
          let all : size ≡ size - 0 = omega arith in
          let place : at ≡ behind_of 0 = omega arith in
          (opening, subst (λ (l : ℕ). To l (behind_of 0) opening) all (subst (λ (q : ℕ). To size q opening) place (takes_none source target reader_at writer_at frame first frame at)))
      so_far (suc n) few = let before = so_far n (omega (arith, few)) in (openings.Old, more n before.0 (omega (arith, few)) before.1)

      to_the_end : (now : Opening) → To (size - size) (behind_of size) now → To 0 behind now
      to_the_end now taken =
          let none : size - size ≡ 0 = omega arith in
          subst (λ (l : ℕ). To l behind now) none (subst (λ (q : ℕ). To (size - size) q now) (sym run.place) taken)

-- the lead of a list or set is spelled as its field
pub lead_spells : {S T : Type 0} (reads : S → Hint → Step S Item) (reader_at : S → List ℕ → ℕ → Opening → List Slot → Type 0) (bar : Item → Mark → Option Bar) (plain : T → Item → Mark → List ℕ) (writer_at : T → Opening → List Slot → Type 0)
    (frame : List ℕ) (at : ℕ) (opening : Opening) (last id : ℤ) (behind : ℕ) (lead : Lead) (container : Container) → lead_item lead id ≡ field id (container_kind container)
    → SpellsLead reads reader_at bar plain writer_at frame at opening last lead id behind → SpellsField bar plain writer_at frame at frame behind opening last (field id (container_kind container))
lead_spells reads reader_at bar plain writer_at frame at opening last id behind leads.Bool containers.Map is spells = absurd (cc)
lead_spells reads reader_at bar plain writer_at frame at opening last id behind leads.Bool containers.Set is spells = absurd (cc)
lead_spells reads reader_at bar plain writer_at frame at opening last id behind leads.Bool containers.List is spells = absurd (cc)
lead_spells reads reader_at bar plain writer_at frame at opening last id behind leads.Stop container is spells = absurd (cc)
lead_spells reads reader_at bar plain writer_at frame at opening last id behind leads.Bad container is spells = absurd (cc)
lead_spells reads reader_at bar plain writer_at frame at opening last id behind leads.I8 container is spells = subst (λ (item : Item). SpellsField bar plain writer_at frame at frame behind opening last item) is spells
lead_spells reads reader_at bar plain writer_at frame at opening last id behind leads.I16 container is spells = subst (λ (item : Item). SpellsField bar plain writer_at frame at frame behind opening last item) is spells
lead_spells reads reader_at bar plain writer_at frame at opening last id behind leads.I32 container is spells = subst (λ (item : Item). SpellsField bar plain writer_at frame at frame behind opening last item) is spells
lead_spells reads reader_at bar plain writer_at frame at opening last id behind leads.I64 container is spells = subst (λ (item : Item). SpellsField bar plain writer_at frame at frame behind opening last item) is spells
lead_spells reads reader_at bar plain writer_at frame at opening last id behind leads.Double container is spells = subst (λ (item : Item). SpellsField bar plain writer_at frame at frame behind opening last item) is spells
lead_spells reads reader_at bar plain writer_at frame at opening last id behind leads.Str container is spells = subst (λ (item : Item). SpellsField bar plain writer_at frame at frame behind opening last item) is spells
lead_spells reads reader_at bar plain writer_at frame at opening last id behind leads.Struct container is spells = subst (λ (item : Item). SpellsField bar plain writer_at frame at frame behind opening last item) is spells
lead_spells reads reader_at bar plain writer_at frame at opening last id behind leads.Map container is spells = subst (λ (item : Item). SpellsField bar plain writer_at frame at frame behind opening last item) is spells
lead_spells reads reader_at bar plain writer_at frame at opening last id behind leads.Set container is spells = subst (λ (item : Item). SpellsField bar plain writer_at frame at frame behind opening last item) is spells
lead_spells reads reader_at bar plain writer_at frame at opening last id behind leads.List container is spells = subst (λ (item : Item). SpellsField bar plain writer_at frame at frame behind opening last item) is spells
lead_spells reads reader_at bar plain writer_at frame at opening last id behind leads.Uuid container is spells = subst (λ (item : Item). SpellsField bar plain writer_at frame at frame behind opening last item) is spells
