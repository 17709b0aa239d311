-- The open levels hold kinds that have names: each was read by its name.
use Rattle.std.proofs.Common.{Bool, List, [], ◌∷◌, sym, subst, inl, inr}
use Rattle.thrift_value.specs.Items.{Item, field, stop, bool_value, i8_value, i16_value, i32_value, i64_value, double_value, text, number_text, unknown_text, struct_begin, empty_map, map_begin, set_begin, list_begin, end, uuid_value}
use Rattle.protocol_traits.specs.declared.nest.Slot.{Slot}
use Rattle.protocol_traits.specs.declared.nest.Slot.TheVariants as slots
use Rattle.protocol_traits.specs.declared.proto.Hint.{Hint}
use Rattle.protocol_traits.specs.Stack.{first_of, rest_of}
use Rattle.protocol_traits.specs.Follow.{spent, after}
use Rattle.json_protocol.specs.declared.opening.Opening.{Opening}
use Rattle.json_protocol.specs.Writing.{is_key}
use Rattle.json_protocol.specs.Grammar.{Tokens, IsNamed}
use Rattle.json_laws.specs.Fronts.{SpellsValue, SpellsItem}

abbrev pub AreNamed : List Slot → Type 0
AreNamed [] = Unit {0}
AreNamed (slots.Fields last ∷ up) = AreNamed up
AreNamed (slots.Value k id ∷ up) = IsNamed k × AreNamed up
AreNamed (slots.Elements k left ∷ up) = IsNamed k × AreNamed up
AreNamed (slots.Keys k v left ∷ up) = IsNamed k × IsNamed v × AreNamed up
AreNamed (slots.Values k v left ∷ up) = IsNamed k × IsNamed v × AreNamed up

pub named_up : (slot : Slot) (up : List Slot) → AreNamed (slot ∷ up) → AreNamed up
named_up (slots.Fields last) up h = h
named_up (slots.Value k id) up h = h.1
named_up (slots.Elements k left) up h = h.1
named_up (slots.Keys k v left) up h = h.2
named_up (slots.Values k v left) up h = h.2

named_rest : (nest : List Slot) → AreNamed nest → AreNamed (rest_of nest)
named_rest [] h = tt
named_rest (slot ∷ up) h = named_up slot up h

pub named_spent : (nest : List Slot) → AreNamed nest → AreNamed (spent nest)
named_spent [] h = tt
named_spent (slots.Fields last ∷ up) h = h
named_spent (slots.Value k id ∷ up) h = h.1
named_spent (slots.Elements k left ∷ up) h = h
named_spent (slots.Keys k v left ∷ up) h = h
named_spent (slots.Values k v left ∷ up) h = h

named_value : (key : Bool) (hint : Hint) (nest : List Slot) (item : Item) (own : Tokens) → AreNamed nest → SpellsValue key hint item own → AreNamed (after item nest)
named_value key hint nest (field id kind) own h s = absurd s
named_value key hint nest stop own h s = absurd s
named_value key hint nest (bool_value b) own h s = named_spent nest h
named_value key hint nest (i8_value n) own h s = named_spent nest h
named_value key hint nest (i16_value n) own h s = named_spent nest h
named_value key hint nest (i32_value n) own h s = named_spent nest h
named_value key hint nest (i64_value n) own h s = named_spent nest h
named_value key hint nest (double_value bytes) own h s = absurd s
named_value key hint nest (text bytes) own h s = named_spent nest h
named_value key hint nest (number_text bytes) own h s = named_spent nest h
named_value key hint nest (unknown_text bytes) own h s = named_spent nest h
named_value key hint nest struct_begin own h s = named_spent nest h
named_value key hint nest empty_map own h s = named_spent nest h
named_value key hint nest (map_begin k v size) own h s = (s.0, s.1, named_spent nest h)
named_value key hint nest (set_begin kind size) own h s = (s.0, named_spent nest h)
named_value key hint nest (list_begin kind size) own h s = (s.0, named_spent nest h)
named_value key hint nest end own h s = absurd s
named_value key hint nest (uuid_value bytes) own h s = absurd s

pub named_after : (hint : Hint) (opening : Opening) (nest : List Slot) (item : Item) (tokens : Tokens) → AreNamed nest → SpellsItem hint opening nest item tokens → AreNamed (after item nest)
named_after hint opening nest item tokens h (inl (id, kind, digits, is, spells, named, e)) = subst (λ i. AreNamed (after i nest)) (sym is) (named, named_rest nest h)
named_after hint opening nest item tokens h (inr (inl (is, e))) = subst (λ i. AreNamed (after i nest)) (sym is) (named_rest nest h)
named_after hint opening nest item tokens h (inr (inr (inl (is, e)))) = subst (λ i. AreNamed (after i nest)) (sym is) (named_rest nest h)
named_after hint opening nest item tokens h (inr (inr (inr (own, spells, e)))) = named_value (is_key (first_of nest)) hint nest item own h spells
