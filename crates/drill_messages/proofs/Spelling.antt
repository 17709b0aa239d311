-- Events that were written one after another.
use Rattle.std.proofs.Common.{◌≡◌, ℕ, ℤ, ◌+◌, ◌<◌, Bool, List, [], ◌∷◌, ◌++◌, length, take, get_or, refl, sym, ◌∙◌, ap, subst, arith, append_assoc, add-zero}
use Rattle.std.specs.List.{flat_map}
use Rattle.std.proofs.lemmas.Grind.{flat_map-append}
use Rattle.std.proofs.lemmas.List.{append-nil, take_more, map-append, length-take-le}
use Rattle.gate_io.specs.Buffer.{Buffer}
use Rattle.thrift_value.specs.Items.{text, bool_value, i32_value, empty_map, map_begin, end}
use Rattle.thrift_value.specs.Items as events
use Rattle.thrift_value.specs.declared.kind.Kind.TheVariants as kinds
use Rattle.protocol_traits.specs.declared.proto.Mark.{Mark}
use Rattle.drill_messages.specs.Events.{Events, other, as_text, as_flags, numbers, pairs, flags_map, item_events}
use Rattle.drill_messages.specs.declared.item.Item.{Item}
use Rattle.drill_messages.specs.Views.{fields_of, all_fields}
use Rattle.drill_messages.specs.Spellings.{spelled, behind}
use Rattle.drill_messages.specs.Writers.{Writes}

module _ {T : Type 0} (plain : T → events.Item → Mark → List ℕ) (after : T → events.Item → Mark → T) where
  pub behind_more : (w : T) (xs ys : Events) → behind plain after w (xs ++ ys) ≡ behind plain after (behind plain after w xs) ys
  behind_more w [] ys = refl
  behind_more w (x ∷ xs) ys = behind_more (after w x.0 x.1) xs ys

  pub spelled_more : (w : T) (xs ys : Events) → spelled plain after w (xs ++ ys) ≡ spelled plain after w xs ++ spelled plain after (behind plain after w xs) ys
  spelled_more w [] ys = refl
  spelled_more w (x ∷ xs) ys =
      ap (λ (bytes : List ℕ). plain w x.0 x.1 ++ bytes) (spelled_more (after w x.0 x.1) xs ys)
      ∙ sym (append_assoc (plain w x.0 x.1) (spelled plain after (after w x.0 x.1) xs) (spelled plain after (behind plain after (after w x.0 x.1) xs) ys))

  pub writes_on : (a b c : T) (x y z : Buffer) (xs ys : Events) → Writes plain after a x b y xs → Writes plain after b y c z ys → Writes plain after a x c z (xs ++ ys)
  writes_on a b c x y z xs ys p q =
      record {
        state = q.state ∙ (ap (λ (w : T). behind plain after w ys) p.state ∙ sym (behind_more a xs ys));
        out = q.out ∙ (ap (λ (o : Buffer). record o { bytes = o.bytes ++ spelled plain after b ys }) p.out
            ∙ (ap (λ (w : T). record x { bytes = (x.bytes ++ spelled plain after a xs) ++ spelled plain after w ys }) p.state
            ∙ ap (λ (bytes : List ℕ). record x { bytes = bytes })
            (append_assoc x.bytes (spelled plain after a xs) (spelled plain after (behind plain after a xs) ys) ∙ ap (λ (bytes : List ℕ). x.bytes ++ bytes) (sym (spelled_more a xs ys)))));
      }

  pub writes_none : (a : T) (x : Buffer) → Writes plain after a x a x []
  writes_none a x = record { state = refl; out = ap (λ (bytes : List ℕ). record x { bytes = bytes }) (sym (append-nil x.bytes)) }

  -- a front, and events behind it
  pub headed : (a b c : T) (x y z : Buffer) (front : List ℕ) (events : Events) → y ≡ record x { bytes = x.bytes ++ front } → b ≡ a → Writes plain after b y c z events
      → z ≡ record x { bytes = x.bytes ++ (front ++ spelled plain after a events) }
  headed a b c x y z front events e f p =
      p.out ∙ (ap (λ (o : Buffer). record o { bytes = o.bytes ++ spelled plain after b events }) e
      ∙ (ap (λ (w : T). record x { bytes = (x.bytes ++ front) ++ spelled plain after w events }) f
      ∙ ap (λ (bytes : List ℕ). record x { bytes = bytes }) (append_assoc x.bytes front (spelled plain after a events))))

  -- the next of some events, whatever tells which
  pub written_as : (a b : T) (x y : Buffer) (xs ys : Events) → xs ≡ ys → Writes plain after a x b y xs → Writes plain after a x b y ys
  written_as a b x y xs ys e p = subst (λ (es : Events). Writes plain after a x b y es) e p

pub numbers_more : (xs : List ℤ) (k : ℕ) → (d : ℤ) → k < length xs → numbers (take (k + 1) xs) ≡ numbers (take k xs) ++ (i32_value (get_or xs k d), other) ∷ []
numbers_more xs k d h = ap numbers (take_more xs k d h) ∙ map-append (λ m. (i32_value m, other)) (take k xs) (get_or xs k d ∷ [])

pairs_more : (key : ℕ) (xs : List Bool) (f : Bool) → pairs key (xs ++ f ∷ []) ≡ pairs key xs ++ (text ((key + length xs) ∷ []), as_text) ∷ (bool_value f, other) ∷ []
pairs_more key [] f = ap (λ (k : ℕ). (text (k ∷ []), as_text) ∷ (bool_value f, other) ∷ []) (sym (add-zero key))
pairs_more key (x ∷ xs) f =
    ap (λ (es : Events). (text (key ∷ []), as_text) ∷ (bool_value x, other) ∷ es)
    (pairs_more (key + 1) xs f ∙ ap (λ (k : ℕ). pairs (key + 1) xs ++ (text (k ∷ []), as_text) ∷ (bool_value f, other) ∷ []) (omega arith))

pub pairs_at : (xs : List Bool) (k : ℕ) (d : Bool) (key : ℕ) → k < length xs → key ≡ 97 + k → pairs 97 (take (k + 1) xs) ≡ pairs 97 (take k xs) ++ (text (key ∷ []), as_text) ∷ (bool_value (get_or xs k d), other) ∷ []
pairs_at xs k d key h e =
    ap (pairs 97) (take_more xs k d h)
    ∙ (pairs_more 97 (take k xs) (get_or xs k d)
    ∙ ap (λ (n : ℕ). pairs 97 (take k xs) ++ (text (n ∷ []), as_text) ∷ (bool_value (get_or xs k d), other) ∷ []) (omega (arith, e, length-take-le k xs (omega (arith, h)))))

pub items_at : (xs : List Item) (k : ℕ) (d x : Item) → k < length xs → x ≡ get_or xs k d → flat_map item_events (all_fields (take (k + 1) xs)) ≡ flat_map item_events (all_fields (take k xs)) ++ item_events (fields_of x)
items_at xs k d x h e =
    ap (λ (is : List Item). flat_map item_events (all_fields is)) (take_more xs k d h)
    ∙ (ap (flat_map item_events) (map-append fields_of (take k xs) (get_or xs k d ∷ []))
    ∙ (flat_map-append item_events (all_fields (take k xs)) (fields_of (get_or xs k d) ∷ [])
    ∙ (ap (λ (es : Events). flat_map item_events (all_fields (take k xs)) ++ es) (append-nil (item_events (fields_of (get_or xs k d))))
    ∙ ap (λ (i : Item). flat_map item_events (all_fields (take k xs)) ++ item_events (fields_of i)) (sym e))))

pub no_flags : (flags : List Bool) → length flags ≡ 0 → flags_map flags ≡ (empty_map, as_flags) ∷ []
no_flags [] e = refl
no_flags (f ∷ fs) e = absurd (omega (arith, e))

pub some_flags : (flags : List Bool) → 0 < length flags → flags_map flags ≡ (map_begin kinds.Str kinds.Bool (length flags), other) ∷ (pairs 97 flags ++ (end, other) ∷ [])
some_flags [] h = absurd (omega (arith, h))
some_flags (f ∷ fs) h = refl
