-- The texts of items.
use Rattle.std.proofs.Common.{◌≡◌, ℕ, ℤ, pos, negsuc, ◌+◌, ◌≤◌, arith, nat_abs, ◌≤ℤ◌, List, [], ◌∷◌, ◌++◌, Option, Some, None, refl, append_assoc}
use Rattle.std.proofs.lemmas.List.{append-nil}
use Rattle.std.specs.Fmt.{signed_decimal}
use Rattle.std.proofs.lemmas.Fmt.{decimal_digit}
use Rattle.std.proofs.lemmas.Bool.Decides.{nat_tests}
use Rattle.thrift_value.specs.declared.kind.Kind.{Kind}
use Rattle.thrift_value.specs.declared.event.Event.{Event}
use Rattle.thrift_value.specs.declared.event.Event.TheVariants as events
use Rattle.thrift_value.specs.Items.{item_of}
use Rattle.type_walk.specs.declared.levels.Level.{Level}
use Rattle.type_tables.specs.Declarations.{Declarations}
use Rattle.message_show.specs.Line.{Levels, lead, value_text, item_text, name_text, kind_text, field_text}

pub some_name : (name : Option (List ℕ)) (bytes : List ℕ) → Some bytes ≡ name → 58 ∷ bytes ≡ name_text name
unfolding name_text
some_name name bytes e = rw (← e) refl

pub no_name : (name : Option (List ℕ)) → None ≡ name → [] ≡ name_text name
unfolding name_text
no_name name e = rw (← e) refl

-- a number of one digit and a name
pub named_digit : (id : List ℕ) (digit : ℕ) (name : Option (List ℕ)) (bytes : List ℕ) → id ≡ digit ∷ [] → name ≡ Some bytes → [] ++ digit ∷ 58 ∷ bytes ≡ id ++ name_text name
unfolding name_text
named_digit id digit name bytes is named = rw (is, named) refl

joined : (a b c d : List ℕ) → ((a ++ (b ++ c)) ++ []) ++ d ≡ a ++ ((b ++ c) ++ d)
joined a b c d = rw (append-nil (a ++ (b ++ c)), append_assoc a (b ++ c) d) refl

pub field_joined : (before : List ℕ) (id : ℤ) (name : Option (List ℕ)) (kind : Kind) → ((before ++ (signed_decimal id ++ name_text name)) ++ []) ++ kind_text kind ≡ before ++ field_text id name kind
unfolding field_text
field_joined before id name kind = joined before (signed_decimal id) (name_text name) (kind_text kind)

-- an item that is a value or the beginning of one
pub value_item : (d : Declarations) (known : Option Level) (levels : Levels) (event : Event) → ((id : ℤ) (kind : Kind) → event ≡ events.Field id kind → ⊥) → (event ≡ events.Stop → ⊥) → (event ≡ events.End → ⊥)
    → lead levels ++ value_text (item_of event) ≡ item_text d known levels (item_of event)
value_item d known levels (events.Field id kind) no_field no_stop no_end = absurd (no_field id kind refl)
value_item d known levels events.Stop no_field no_stop no_end = absurd (no_stop refl)
value_item d known levels events.End no_field no_stop no_end = absurd (no_end refl)
value_item d known levels (events.Bool b) no_field no_stop no_end = refl
value_item d known levels (events.I8 n) no_field no_stop no_end = refl
value_item d known levels (events.I16 n) no_field no_stop no_end = refl
value_item d known levels (events.I32 n) no_field no_stop no_end = refl
value_item d known levels (events.I64 n) no_field no_stop no_end = refl
value_item d known levels (events.Double bytes) no_field no_stop no_end = refl
value_item d known levels (events.Str bytes) no_field no_stop no_end = refl
value_item d known levels (events.NumberText bytes) no_field no_stop no_end = refl
value_item d known levels (events.UnknownText bytes) no_field no_stop no_end = refl
value_item d known levels events.StructBegin no_field no_stop no_end = refl
value_item d known levels events.EmptyMap no_field no_stop no_end = refl
value_item d known levels (events.MapBegin key value size) no_field no_stop no_end = refl
value_item d known levels (events.SetBegin kind size) no_field no_stop no_end = refl
value_item d known levels (events.ListBegin kind size) no_field no_stop no_end = refl
value_item d known levels (events.Uuid bytes) no_field no_stop no_end = refl

-- a number of one digit
pub small_id : (id : ℤ) → pos 0 ≤ℤ id → id ≤ℤ pos 9 → signed_decimal id ≡ (48 + nat_abs id) ∷ []
small_id (pos n) least most = let few : n ≤ 9 = grind (arith, nat_tests, most.le) in decimal_digit n (omega (arith, few))
small_id (negsuc n) least most = absurd least.le
