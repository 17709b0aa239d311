-- The first token of a value begins with no whitespace.
use Rattle.std.proofs.Common.{◌≡◌, ℕ, ℤ, Bool, List, [], ◌∷◌, refl, ap, sym, subst, inl, inr}
use Rattle.thrift_value.specs.Items.{Item, field, stop, bool_value, i8_value, i16_value, i32_value, i64_value, double_value, text, number_text, unknown_text, struct_begin, empty_map, map_begin, set_begin, list_begin, end, uuid_value}
use Rattle.protocol_traits.specs.declared.proto.Hint.{Hint}
use Rattle.protocol_traits.specs.declared.proto.Hint.TheVariants as hints
use Rattle.json_protocol.specs.Writing.{number, flag}
use Rattle.json_protocol.specs.Grammar.{Tokens, IsIntToken, IsDoubleToken, IsStringToken, IsLooseToken}
use Rattle.json_laws.specs.Fronts.{SpellsValue}
use Rattle.json_laws.proofs.Marks.{IsSolid}
use Rattle.json_laws.proofs.Words.{int_solid, text_solid, blob_solid, number_solid}
use Rattle.json_laws.proofs.Items.{double_solid, flag_solid}

first_same : (a b : List ℕ) (xs ys : Tokens) → a ∷ xs ≡ b ∷ ys → a ≡ b
first_same a b xs ys e = cc

solid_int : (key : Bool) (n : ℤ) (first : List ℕ) (others : Tokens) → IsIntToken key n (first ∷ others) → IsSolid first
solid_int key n first others (digits, spells, e) = subst IsSolid (sym (first_same first (number key digits) others [] e)) (number_solid key digits (int_solid n digits spells))

solid_string : (hint : Hint) (bytes first : List ℕ) (others : Tokens) → IsStringToken hint bytes (first ∷ others) → IsSolid first
solid_string hints.Text bytes first others (token, spells, e) = subst IsSolid (sym (first_same first token others [] e)) (text_solid bytes token spells)
solid_string hints.Blob bytes first others (token, spells, e) = subst IsSolid (sym (first_same first token others [] e)) (blob_solid bytes token spells)
solid_string hints.Unknown bytes first others h = absurd h

solid_loose : (hint : Hint) (bytes first : List ℕ) (others : Tokens) → IsLooseToken hint bytes (first ∷ others) → IsSolid first
solid_loose hints.Text bytes first others h = absurd h
solid_loose hints.Blob bytes first others h = absurd h
solid_loose hints.Unknown bytes first others (token, spells, e) = subst IsSolid (sym (first_same first token others [] e)) (text_solid bytes token spells)

solid_double : (key : Bool) (bytes first : List ℕ) (others : Tokens) → IsDoubleToken key bytes (first ∷ others) → IsSolid first
solid_double key bytes first others (inl (is, e)) = double_solid key bytes first (inl (is, ap (λ t. t ∷ []) (first_same first _ others [] e)))
solid_double key bytes first others (inr (is, e)) = double_solid key bytes first (inr (is, ap (λ t. t ∷ []) (first_same first _ others [] e)))

pub value_solid : (key : Bool) (hint : Hint) (item : Item) (first : List ℕ) (others : Tokens) → SpellsValue key hint item (first ∷ others) → IsSolid first
value_solid key hint (field id kind) first others h = absurd h
value_solid key hint stop first others h = absurd h
value_solid key hint (bool_value b) first others h = subst IsSolid (sym (first_same first (number key (flag b)) others [] h)) (flag_solid [] key b)
value_solid key hint (i8_value n) first others h = solid_int key n first others h
value_solid key hint (i16_value n) first others h = solid_int key n first others h
value_solid key hint (i32_value n) first others h = solid_int key n first others h
value_solid key hint (i64_value n) first others h = solid_int key n first others h
value_solid key hint (double_value bytes) first others h = absurd h
value_solid key hint (text bytes) first others h = solid_string hint bytes first others h
value_solid key hint (number_text bytes) first others h = solid_double key bytes first others h
value_solid key hint (unknown_text bytes) first others h = solid_loose hint bytes first others h
value_solid key hint struct_begin first others h = subst IsSolid (sym (first_same first _ others _ h)) refl
value_solid key hint empty_map first others (k, v, named, other, e) = subst IsSolid (sym (first_same first _ others _ e)) refl
value_solid key hint (map_begin k v size) first others (named, other, e) = subst IsSolid (sym (first_same first _ others _ e)) refl
value_solid key hint (set_begin kind size) first others (named, e) = subst IsSolid (sym (first_same first _ others _ e)) refl
value_solid key hint (list_begin kind size) first others (named, e) = subst IsSolid (sym (first_same first _ others _ e)) refl
value_solid key hint end first others h = absurd h
value_solid key hint (uuid_value bytes) first others h = absurd h
