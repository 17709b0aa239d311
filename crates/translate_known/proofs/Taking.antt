-- Items that were read and written lead a body on.
use Rattle.std.proofs.Common.{◌≡◌, ◌+◌, ◌-◌, ◌<◌, ◌≤◌, ℕ, List, [], ◌∷◌, ◌++◌, length, None, Ok, arith, refl, sym, ap, ◌∙◌, append_assoc}
use Rattle.std.specs.Prelude.{IfOk}
use Rattle.std.proofs.lemmas.List.{append-nil}
use Rattle.thrift_value.specs.declared.kind.Kind.{Kind}
use Rattle.thrift_value.specs.Items.{Item, field, stop, bool_value, i8_value, i16_value, i32_value, i64_value, double_value, text, number_text, unknown_text, struct_begin, empty_map, map_begin, set_begin, list_begin, end, uuid_value}
use Rattle.protocol_traits.specs.declared.forms.Opening.{Opening}
use Rattle.protocol_traits.specs.declared.forms.Stand.{Stand}
use Rattle.protocol_traits.specs.declared.forms.Stand.TheVariants as stands
use Rattle.protocol_traits.specs.declared.nest.Slot.{Slot}
use Rattle.protocol_traits.specs.declared.nest.Slot.TheVariants as slots
use Rattle.protocol_traits.specs.declared.proto.Hint.{Hint}
use Rattle.protocol_traits.specs.declared.proto.Mark.{Mark}
use Rattle.protocol_traits.specs.Stack.{rest_of}
use Rattle.protocol_traits.specs.Follow.{after as levels_after, depth_after, spent}
use Rattle.protocol_traits.specs.Forms.{Appends, Calls, Spells, SpellsTwice, Steps, StepsTwice, opening_after}
use Rattle.protocol_traits.specs.Room.{weight}
use Rattle.type_tables.specs.declared.declared.Ty.{Ty}
use Rattle.type_tables.specs.declared.declared.Ty.TheVariants as types
use Rattle.type_tables.specs.Declarations.{Declarations}
use Rattle.type_walk.specs.Positions.{Position, after, hint_at, hint_of, mark_at, mark_of}
use Rattle.translate_verdicts.specs.Positions.{typed}
use Rattle.translate_verdicts.specs.Body.{Source, TargetRules, going, whole}
use Rattle.translate_verdicts.proofs.Whole.{whole_step}
use Rattle.translate_known.specs.Quick.{Spot, spot, Takes, rest_from}

pub spent_length : (nest : List Slot) → length (spent nest) ≡ length nest
spent_length [] = refl
spent_length (slots.Fields last ∷ up) = refl
spent_length (slots.Value kind id ∷ up) = refl
spent_length (slots.Elements kind left ∷ up) = refl
spent_length (slots.Keys key value left ∷ up) = refl
spent_length (slots.Values key value left ∷ up) = refl

rest_length : (nest : List Slot) → length (rest_of nest) ≡ length nest - 1
rest_length [] = refl
rest_length (slot ∷ up) = omega arith

-- the levels are as many as the item leaves
levels_length : (item : Item) (nest : List Slot) → 0 < length nest → length (levels_after item nest) ≡ depth_after item (length nest)
levels_length (field id kind) nest some = omega (arith, rest_length nest)
levels_length stop nest some = rest_length nest
levels_length (bool_value b) nest some = spent_length nest
levels_length (i8_value n) nest some = spent_length nest
levels_length (i16_value n) nest some = spent_length nest
levels_length (i32_value n) nest some = spent_length nest
levels_length (i64_value n) nest some = spent_length nest
levels_length (double_value bytes) nest some = spent_length nest
levels_length (text bytes) nest some = spent_length nest
levels_length (number_text bytes) nest some = spent_length nest
levels_length (unknown_text bytes) nest some = spent_length nest
levels_length struct_begin nest some = omega (arith, spent_length nest)
levels_length empty_map nest some = spent_length nest
levels_length (map_begin key value size) nest some = omega (arith, spent_length nest)
levels_length (set_begin kind size) nest some = omega (arith, spent_length nest)
levels_length (list_begin kind size) nest some = omega (arith, spent_length nest)
levels_length end nest some = rest_length nest
levels_length (uuid_value bytes) nest some = spent_length nest

appends_then : (old mid new : List ℕ) (to next behind : ℕ) (p q : List ℕ) → Appends old to mid next p → Appends mid next new behind q → Appends old to new behind (p ++ q)
appends_then old mid new to next behind p q f g = g ∙ (ap (λ (front : List ℕ). front ++ q) f ∙ append_assoc _ p q)

module _ {S T : Type 0} (source : Source S) (target : TargetRules T) (reader_at : S → List ℕ → ℕ → Opening → List Slot → Type 0) (writer_at : T → Opening → List Slot → Type 0) (frame : List ℕ) where
  pub takes_none : (a : Spot) (cells : List ℕ) (to : ℕ) → Takes source target reader_at writer_at frame a a cells to cells to
  takes_none a cells to s t hs ht = (s, t, [], hs, ht, sym (append-nil _), λ written. ap (rest_from source target reader_at writer_at a s t) (sym (append-nil written)))

  pub takes_then : (a b c : Spot) (old mid new : List ℕ) (to next behind : ℕ) → Takes source target reader_at writer_at frame a b old to mid next
      → Takes source target reader_at writer_at frame b c mid next new behind → Takes source target reader_at writer_at frame a c old to new behind
  takes_then a b c old mid new to next behind f g s t hs ht =
      let x = f s t hs ht in
      let y = g x.0 x.1 x.3 x.4 in (
        y.0,
        y.1,
        x.2 ++ y.2,
        y.3,
        y.4,
        appends_then old mid new to next behind x.2 y.2 x.5 y.5,
        λ written. x.6 written ∙ (y.6 (written ++ x.2) ∙ ap (rest_from source target reader_at writer_at c y.0 y.1) (append_assoc written x.2 y.2)),
      )

  module _ (pays : (s : S) (hint : Hint) → IfOk (source.reads s hint) (λ x. weight x.0 + source.ahead x.1 ≤ source.ahead s))
      (goes_on : (t : T) (opening : Opening) (nest : List Slot) (item : Item) (mark : Mark) → 0 < length nest → writer_at t opening nest → writer_at (target.after t item mark) (opening_after item) (levels_after item nest)) where
    moves : (nest : List Slot) (p : Position) (item : Item) (s new : S) (t : T) (written : List ℕ) → 0 < length nest → source.reads s (hint_of p) ≡ Ok (item, new) → target.bar item (mark_of p item) ≡ None
        → whole source typed target (going s p t (length nest) None written)
        ≡ whole source typed target (going new (after p item) (target.after t item (mark_of p item)) (length (levels_after item nest)) None (written ++ target.plain t item (mark_of p item)))
    moves nest p item s new t written some step free =
        whole_step source typed target pays (going s p t (length nest) None written) item new some step ∙ rw (free, levels_length item nest some) refl

    pub takes_item : (at behind : ℕ) (opening : Opening) (nest : List Slot) (p : Position) (item : Item) (old new : List ℕ) (to next : ℕ) → 0 < length nest
        → Steps source.reads reader_at frame at opening nest (hint_of p) item behind
        → Spells target.bar target.plain writer_at old to new next opening nest (mark_of p item) item
        → Takes source target reader_at writer_at frame (spot at opening nest p) (spot behind (opening_after item) (levels_after item nest) (after p item)) old to new next
    takes_item at behind opening nest p item old new to next some steps spells s t hs ht =
        let step = steps s hs in
        let spell = spells t ht in (
          step.0,
          target.after t item (mark_of p item),
          target.plain t item (mark_of p item),
          step.2,
          goes_on t opening nest item (mark_of p item) some ht,
          spell.1,
          λ written. moves nest p item s step.0 t written some step.1 spell.0,
        )

    pub takes_twice : (at behind : ℕ) (opening : Opening) (nest : List Slot) (p : Position) (first item : Item) (old new : List ℕ) (to next : ℕ) → 0 < length nest → 0 < length (levels_after first nest)
        → StepsTwice source.reads reader_at frame at opening nest first item behind
        → SpellsTwice target.bar target.plain writer_at target.after old to new next opening nest first item
        → Takes source target reader_at writer_at frame (spot at opening nest p) (spot behind (opening_after item) (levels_after item (levels_after first nest)) (after (after p first) item)) old to new next
    takes_twice at behind opening nest p first item old new to next some more steps spells s t hs ht =
        let mark = mark_of p first in
        let later = mark_of (after p first) item in
        let step = steps s (hint_of p) (hint_of (after p first)) hs in
        let spell = spells t mark later ht in
        let mid = target.after t first mark in (
          step.1,
          target.after mid item later,
          target.plain t first mark ++ target.plain mid item later,
          step.4,
          goes_on mid (opening_after first) (levels_after first nest) item later more (goes_on t opening nest first mark some ht),
          spell.2,
          λ written. moves nest p first s step.0 t written some step.2 spell.0
              ∙ (moves (levels_after first nest) (after p first) item step.0 step.1 mid (written ++ target.plain t first mark) more step.3 spell.1
              ∙ ap (λ (text : List ℕ). whole source typed target (going step.1 (after (after p first) item) (target.after mid item later) (length (levels_after item (levels_after first nest))) None text)) (append_assoc written _ _)),
        )

-- what calls for a value is a level
pub calls_some : (stand : Stand) (kind : Kind) (opening : Opening) (nest : List Slot) → Calls stand kind opening nest → 0 < length nest
calls_some stand kind opening (slot ∷ up) calls = omega arith
calls_some stands.Field kind opening [] calls = absurd calls
calls_some stands.Element kind opening [] calls = absurd calls
calls_some stands.FirstKey kind opening [] calls = absurd calls
calls_some stands.Key kind opening [] calls = absurd calls
calls_some stands.Value kind opening [] calls = absurd calls

-- how a string is read is part of what is known of its position
pub mark_hint : (d : Declarations) (ty : Ty) → (mark_at d ty).hint ≡ hint_at ty
mark_hint d types.Unknown = refl
mark_hint d types.Bool = refl
mark_hint d types.I8 = refl
mark_hint d types.I16 = refl
mark_hint d types.I32 = refl
mark_hint d types.I64 = refl
mark_hint d types.Double = refl
mark_hint d types.Text = refl
mark_hint d types.Blob = refl
mark_hint d (types.Enum e) = refl
mark_hint d (types.Struct s) = refl
mark_hint d (types.Map key value) = refl
mark_hint d (types.Set element) = refl
mark_hint d (types.List element) = refl
mark_hint d types.Uuid = refl
