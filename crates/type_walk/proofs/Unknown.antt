-- Where nothing is known nothing comes to be known.
use Rattle.std.proofs.Common.{◌≡◌, ℕ, zero, suc, ℤ, ◌+◌, ◌-◌, [], ◌∷◌, length, arith, refl, ap, sym, ◌∙◌, add-one}
use Rattle.thrift_value.specs.declared.kind.Kind.{Kind}
use Rattle.thrift_value.specs.Items.{Item, field, stop, bool_value, i8_value, i16_value, i32_value, i64_value, double_value, text, number_text, unknown_text, struct_begin, empty_map, map_begin, set_begin, list_begin, end, uuid_value}
use Rattle.protocol_traits.specs.Follow.{depth_after}
use Rattle.type_tables.specs.Declarations.{Declarations}
use Rattle.type_walk.specs.declared.levels.Level.TheVariants as levels
use Rattle.type_walk.specs.Stack.{rest_of}
use Rattle.type_walk.specs.Positions.{after, passed, standing}
use Rattle.type_walk.specs.Known.{shaded, unknown_at}

pub length_unknown : (n : ℕ) → length (shaded n []) ≡ n
length_unknown zero = refl
length_unknown (suc n) = ap suc (length_unknown n)

standing-unknown : (d : Declarations) (n : ℕ) → standing d (shaded n []) ≡ unknown_at d n
standing-unknown d zero = refl
standing-unknown d (suc n) = refl

passed-unknown : (n : ℕ) → passed (shaded n []) ≡ shaded n []
passed-unknown zero = refl
passed-unknown (suc n) = refl

spent : (d : Declarations) (n : ℕ) → unknown_at d n ≡ standing d (passed (shaded n []))
spent d n = sym (ap (standing d) (passed-unknown n) ∙ standing-unknown d n)

left : (d : Declarations) (n : ℕ) → unknown_at d (n - 1) ≡ standing d (rest_of (shaded n []))
left d zero = refl
left d (suc n) = let e : suc n - 1 ≡ n = omega arith in ap (unknown_at d) e ∙ sym (standing-unknown d n)

entered_one : (d : Declarations) (n : ℕ) → unknown_at d (n + 1) ≡ standing d (levels.Unknown ∷ passed (shaded n []))
entered_one d n = ap (unknown_at d) (add-one n) ∙ ap (λ up. standing d (levels.Unknown ∷ up)) (sym (passed-unknown n))

announced : (d : Declarations) (n : ℕ) (item : Item) → (id : ℤ) (kind : Kind) → item ≡ field id kind → unknown_at d n ≡ after (unknown_at d n) item
announced d zero item id kind e = rw e refl
announced d (suc n) item id kind e = rw e refl

pub unknown_after : (d : Declarations) (n : ℕ) (item : Item) → unknown_at d (depth_after item n) ≡ after (unknown_at d n) item
unknown_after d n (field id kind) = announced d n (field id kind) id kind refl
unknown_after d n stop = left d n
unknown_after d n (bool_value b) = spent d n
unknown_after d n (i8_value x) = spent d n
unknown_after d n (i16_value x) = spent d n
unknown_after d n (i32_value x) = spent d n
unknown_after d n (i64_value x) = spent d n
unknown_after d n (double_value bytes) = spent d n
unknown_after d n (text bytes) = spent d n
unknown_after d n (number_text bytes) = spent d n
unknown_after d n (unknown_text bytes) = spent d n
unknown_after d n struct_begin = entered_one d n
unknown_after d n empty_map = spent d n
unknown_after d n (map_begin key value size) = entered_one d n
unknown_after d n (set_begin kind size) = entered_one d n
unknown_after d n (list_begin kind size) = entered_one d n
unknown_after d n end = left d n
unknown_after d n (uuid_value bytes) = spent d n
