-- Turns through a body.
use Rattle.std.proofs.Common.{◌≡◌, ◌≤◌, ◌<◌, ◌+◌, ℕ, ℤ, suc, List, [], ◌∷◌, ◌++◌, length, Bool, true, false, Some, None, Ok, Err, arith, refl, sym, ap, subst, ◌∙◌, append_assoc}
use Rattle.std.specs.Prelude.{IfOk}
use Rattle.std.proofs.lemmas.List.{append-nil}
use Rattle.thrift_value.specs.declared.event.Event.{Event}
use Rattle.thrift_value.specs.declared.event.Event.TheVariants as events
use Rattle.thrift_value.specs.declared.kind.Kind.{Kind}
use Rattle.thrift_value.specs.Items.{Item, item_of, stop, end}
use Rattle.protocol_traits.specs.declared.fault.Fault.{Fault}
use Rattle.protocol_traits.specs.declared.nest.Slot.{Slot}
use Rattle.protocol_traits.specs.declared.proto.Hint.{Hint}
use Rattle.protocol_traits.specs.Follow.{depth_after, after as levels_after}
use Rattle.protocol_traits.specs.Room.{weight}
use Rattle.protocol_traits.specs.Steps.{Step}
use Rattle.type_tables.specs.Declarations.{Declarations}
use Rattle.type_walk.specs.declared.levels.Level.{Level}
use Rattle.type_walk.specs.Stack.{first_of as known_of}
use Rattle.type_walk.specs.Positions.{Position, called_for, entered, hint_of, passed, after, standing as open_at}
use Rattle.translate_verdicts.specs.Positions.{typed}
use Rattle.translate_verdicts.specs.Body.{Source, going}
use Rattle.translate_verdicts.proofs.Whole.{whole_step, whole_fault}
use Rattle.message_show.specs.declared.open_level.OpenLevel.{OpenLevel}
use Rattle.message_show.specs.declared.open_level.LevelStep.{LevelStep}
use Rattle.message_show.specs.declared.open_level.LevelStep.TheVariants as turns
use Rattle.message_show.specs.Inside.{IsSound, Passes, at, behind, begins}
use Rattle.message_show.specs.Line.{item_text, opens}
use Rattle.message_show.specs.Pieces.{Output, Tells, Waiting}
use Rattle.message_show.specs.Shown.{Place, place, line_target}
use Rattle.message_show.specs.Turns.{Standing, standing, rest_from, Leads, Turned}

pub closes_stop : (d : Declarations) (here : OpenLevel) → IsSound d here → Passes d here here stop turns.Closed
closes_stop d here sound = record { after = λ up. refl; first = refl; depth = λ up. omega arith; sound = sound }

pub closes_end : (d : Declarations) (here : OpenLevel) → IsSound d here → Passes d here here end turns.Closed
closes_end d here sound = record { after = λ up. refl; first = refl; depth = λ up. omega arith; sound = sound }

-- an item that is a value, whole
pub record IsWhole (item : Item) : Type 0 where
  pub after : (p : Position) → after p item ≡ open_at p.schema (passed p.levels)
  pub first : opens item ≡ false
  pub depth : (n : ℕ) → depth_after item n ≡ n
  pub weighs : 0 < weight item

pub value_passes : (d : Declarations) (old here : OpenLevel) (item : Item) → IsWhole item → ((up : List Level) → here.known ∷ up ≡ passed (old.known ∷ up)) → here.next ≡ called_for (Some here.known) → here.first ≡ false
    → IsSound d here → Passes d old here item turns.Open
value_passes d old here item whole spent next first sound = record {
  after = λ up. rw (whole.after (at d old up), ← spent up, next) refl;
  first = first ∙ sym whole.first;
  depth = λ up. sym (whole.depth (suc (length up)));
  sound = sound;
}

whole_value : (item : Item) → ((p : Position) → after p item ≡ open_at p.schema (passed p.levels)) → opens item ≡ false → ((n : ℕ) → depth_after item n ≡ n) → 0 < weight item → IsWhole item
whole_value item is first depth weighs = record { after = is; first = first; depth = depth; weighs = weighs }

pub is_whole_value : (event : Event) → ((id : ℤ) (kind : Kind) → event ≡ events.Field id kind → ⊥) → (event ≡ events.Stop → ⊥) → (event ≡ events.End → ⊥)
    → (event ≡ events.StructBegin → ⊥) → ((key value : Kind) (size : ℕ) → event ≡ events.MapBegin key value size → ⊥) → ((kind : Kind) (size : ℕ) → event ≡ events.SetBegin kind size → ⊥)
    → ((kind : Kind) (size : ℕ) → event ≡ events.ListBegin kind size → ⊥) → IsWhole (item_of event)
is_whole_value (events.Field id kind) no_field no_stop no_end no_struct no_map no_set no_list = absurd (no_field id kind refl)
is_whole_value events.Stop no_field no_stop no_end no_struct no_map no_set no_list = absurd (no_stop refl)
is_whole_value events.End no_field no_stop no_end no_struct no_map no_set no_list = absurd (no_end refl)
is_whole_value events.StructBegin no_field no_stop no_end no_struct no_map no_set no_list = absurd (no_struct refl)
is_whole_value (events.MapBegin key value size) no_field no_stop no_end no_struct no_map no_set no_list = absurd (no_map key value size refl)
is_whole_value (events.SetBegin kind size) no_field no_stop no_end no_struct no_map no_set no_list = absurd (no_set kind size refl)
is_whole_value (events.ListBegin kind size) no_field no_stop no_end no_struct no_map no_set no_list = absurd (no_list kind size refl)
is_whole_value (events.Bool b) no_field no_stop no_end no_struct no_map no_set no_list = whole_value _ (λ p. refl) refl (λ n. refl) (omega arith)
is_whole_value (events.I8 n) no_field no_stop no_end no_struct no_map no_set no_list = whole_value _ (λ p. refl) refl (λ n. refl) (omega arith)
is_whole_value (events.I16 n) no_field no_stop no_end no_struct no_map no_set no_list = whole_value _ (λ p. refl) refl (λ n. refl) (omega arith)
is_whole_value (events.I32 n) no_field no_stop no_end no_struct no_map no_set no_list = whole_value _ (λ p. refl) refl (λ n. refl) (omega arith)
is_whole_value (events.I64 n) no_field no_stop no_end no_struct no_map no_set no_list = whole_value _ (λ p. refl) refl (λ n. refl) (omega arith)
is_whole_value (events.Double bytes) no_field no_stop no_end no_struct no_map no_set no_list = whole_value _ (λ p. refl) refl (λ n. refl) (omega arith)
is_whole_value (events.Str bytes) no_field no_stop no_end no_struct no_map no_set no_list = whole_value _ (λ p. refl) refl (λ n. refl) (omega arith)
is_whole_value (events.NumberText bytes) no_field no_stop no_end no_struct no_map no_set no_list = whole_value _ (λ p. refl) refl (λ n. refl) (omega arith)
is_whole_value (events.UnknownText bytes) no_field no_stop no_end no_struct no_map no_set no_list = whole_value _ (λ p. refl) refl (λ n. refl) (omega arith)
is_whole_value events.EmptyMap no_field no_stop no_end no_struct no_map no_set no_list = whole_value _ (λ p. refl) refl (λ n. refl) (omega arith)
is_whole_value (events.Uuid bytes) no_field no_stop no_end no_struct no_map no_set no_list = whole_value _ (λ p. refl) refl (λ n. refl) (omega arith)

pub opens_passes : (d : Declarations) (old here : OpenLevel) (item : Item) (inner : Level) → ((up : List Level) → after (at d old up) item ≡ entered (at d old up) inner) → opens item ≡ true → ((n : ℕ) → depth_after item n ≡ n + 1)
    → ((up : List Level) → here.known ∷ up ≡ passed (old.known ∷ up)) → IsSound d here → Passes d old here item (turns.Opened inner)
opens_passes d old here item inner is first depth spent sound = record {
  after = λ up. rw (is up, ← spent up) refl;
  first = sym first;
  depth = λ up. let deep = depth (suc (length up)) in omega (arith, deep);
  sound = sound;
}

module _ {S : Type 0} (source : Source S) (nest : S → List Slot) where
  pub leads_none : (s : Standing S) → Leads source nest s s []
  leads_none s begun told = ap (rest_from source nest begun s) (sym (append-nil told))

  pub leads_then : (a b c : Standing S) (p q : List ℕ) → Leads source nest a b p → Leads source nest b c q → Leads source nest a c (p ++ q)
  leads_then a b c p q f g begun told = f begun told ∙ (g begun (told ++ p) ∙ ap (rest_from source nest begun c) (append_assoc told p q))

  -- behind a struct or container the level around it goes on
  pub resumed : (reader new : S) (d : Declarations) (here : OpenLevel) (inner : Level) (up : List Level) (text : List ℕ) → here.next ≡ called_for (Some here.known) → here.first ≡ false
      → Leads source nest (standing reader (open_at d (inner ∷ here.known ∷ up)) true) (standing new (open_at d (here.known ∷ up)) false) text
      → Leads source nest (standing reader (open_at d (inner ∷ here.known ∷ up)) true) (standing new (at d here up) here.first) text
  resumed reader new d here inner up text next first h = rw (next, first) h

  module _ (pays : (s : S) (hint : Hint) → IfOk (source.reads s hint) (λ x. weight x.0 + source.ahead x.1 ≤ source.ahead s)) where
    -- an item was read and gone past
    pub stepped : (reader new : S) (p : Position) (first : Bool) (item : Item) → 0 < length p.levels → source.reads reader (hint_of p) ≡ Ok (item, new) → nest new ≡ levels_after item (nest reader)
        → length (after p item).levels ≡ depth_after item (length p.levels)
        → Leads source nest (standing reader p first) (standing new (after p item) (opens item)) (item_text p.schema (known_of p.levels) (record { nest = nest reader; first = first }) item)
    stepped reader new p first item open_is e follows deep begun told =
        rw (follows, deep) (whole_step source typed (line_target begun) pays (going reader p (place p (record { nest = nest reader; first = first })) (length p.levels) None told) item new open_is e)

    pub passes : (reader new : S) (d : Declarations) (old here : OpenLevel) (turn : LevelStep) (item : Item) (up : List Level) → Passes d old here item turn
        → source.reads reader (hint_of (at d old up)) ≡ Ok (item, new) → nest new ≡ levels_after item (nest reader)
        → Leads source nest (standing reader (at d old up) old.first) (standing new (behind d turn here up) (begins turn here)) (item_text d (Some old.known) (record { nest = nest reader; first = old.first }) item)
    passes reader new d old here turn item up is e follows =
        rw (is.after up, is.first) (stepped reader new (at d old up) old.first item (omega arith) e follows (ap (λ (p : Position). length p.levels) (sym (is.after up)) ∙ is.depth up))

    pub faulted : (reader : S) (p : Position) (first : Bool) (f : Fault) → 0 < length p.levels → source.reads reader (hint_of p) ≡ Err f
        → (begun : Place) (told : List ℕ) → rest_from source nest begun (standing reader p first) told ≡ Err f
    faulted reader p first f open_is e begun told = whole_fault source typed (line_target begun) pays (going reader p (place p (record { nest = nest reader; first = first })) (length p.levels) None told) f open_is e

    -- an item was read, gone past and told
    pub told_item : (follows : (s : S) (hint : Hint) → IfOk (source.reads s hint) (λ x. nest x.1 ≡ levels_after x.0 (nest s)))
        → (reader new : S) (d : Declarations) (old here : OpenLevel) (turn : LevelStep) (item : Item) (up : List Level) (a b : Output) (l n : Waiting) → Passes d old here item turn
        → source.reads reader (hint_of (at d old up)) ≡ Ok (item, new)
        → Tells a l b n (item_text d (Some old.known) (record { nest = nest reader; first = old.first }) item)
        → Turned source nest (Ok turn) (standing reader (at d old up) old.first) (λ (turn : LevelStep). standing new (behind d turn here up) (begins turn here)) a l b n
    told_item follows reader new d old here turn item up a b l n is e told = (
      item_text d (Some old.known) (record { nest = nest reader; first = old.first }) item,
      passes reader new d old here turn item up is e (subst (λ (r : Step S Item). IfOk r (λ x. nest x.1 ≡ levels_after x.0 (nest reader))) e (follows reader (hint_of (at d old up)))),
      told,
    )
