-- What stands in a frame of the Compact protocol by the bytes that its writer would lay: values.
use Rattle.std.proofs.Common.{◌≡◌, ℕ, ℤ, ◌+◌, ◌-◌, ◌<◌, ◌≤◌, ◌^◌, Bool, true, false, List, [], ◌∷◌, ◌++◌, length, take, drop, reverse, get_or, Some, None, Ok, refl, sym, ap, subst, ◌∙◌, arith, append-nil, append_assoc, length-drop}
use Rattle.std.specs.Prelude.{nat_lt, ◌==◌, slice_index}
use Rattle.std.specs.Int.{w8, cast_signed}
use Rattle.std.proofs.lemmas.Bool.Decides.{nat_tests}
use Rattle.std.proofs.lemmas.Int.{of_z-to_z}
use Rattle.std.proofs.lemmas.List.{get_or-drop, length-take-le, reverse-reverse}
use Rattle.varint_zigzag.specs.Standing.{StandsShortest}
use Rattle.varint_zigzag.specs.Places.{found_at}
use Rattle.varint_zigzag.specs.Varint.{varint_at, shortest}
use Rattle.varint_zigzag.specs.Zigzag.{unfolded}
use Rattle.thrift_value.specs.declared.kind.Kind.{Kind}
use Rattle.thrift_value.specs.declared.kind.Kind.TheVariants as kinds
use Rattle.thrift_value.specs.Items.{Item, bool_value, i8_value, double_value, text, uuid_value}
use Rattle.protocol_traits.specs.declared.forms.Container.{Container}
use Rattle.protocol_traits.specs.declared.forms.Opening.{Opening}
use Rattle.protocol_traits.specs.declared.forms.Stand.{Stand}
use Rattle.protocol_traits.specs.declared.forms.Stand.TheVariants as stands
use Rattle.protocol_traits.specs.declared.nest.Slot.{Slot}
use Rattle.protocol_traits.specs.declared.nest.Slot.TheVariants as slots
use Rattle.protocol_traits.specs.Forms.{Calls, part, SpellsValue}
use Rattle.compact_protocol.specs.Codes.{flag_code}
use Rattle.compact_protocol.specs.Forms.{end_read, front_read, number_at, number_there, reads_varints, size_there, struct_read, text_there, uuid_there, value_read}
use Rattle.compact_protocol.specs.Plain.{Writer, bar, bool_spelling, spelling, string_spelling}
use Rattle.compact_protocol.specs.Scan.{value_at, bool_at, i8_at, double_at}
use Rattle.compact_protocol.specs.WriteForms.{spells_varints}
use Rattle.kept_forms.specs.InCompact.{own_bar, own_plain, KeepsEnd, KeepsStruct, KeepsValue}
use Rattle.kept_forms.specs.Shortest.{IsTight}
use Rattle.kept_forms.proofs.Fronts.{Small, small_behind, laid_there, laid_on}
use Rattle.kept_forms.proofs.Varints.{Tight, fewest}

-- ---- varints

pub tight_behind : (frame : List ℕ) (at behind count : ℕ) → behind ≡ at + count → IsTight frame at behind → Tight (drop at frame) count
tight_behind frame at behind count size tight more =
    let place : behind - 1 ≡ at + (count - 1) = omega (arith, size, more) in
    rw (get_or-drop at frame (count - 1) 0) (subst (λ n. 0 < get_or frame n 0) place (tight (omega (arith, size, more))))

pub i16_stands : (frame : List ℕ) (at count : ℕ) (stand : Stand) → StandsShortest 5 16 (drop at frame) count → KeepsValue frame at stand kinds.I16 (at + count)
i16_stands frame at count stand s =
    (unfolded s.number, reads_varints.i16 frame at s.number count stand s.stands, spells_varints.i16 frame at frame (at + count) s.number stand (laid_on frame (shortest s.number) at count s.shortest_is))

pub i32_stands : (frame : List ℕ) (at count : ℕ) (stand : Stand) → StandsShortest 5 32 (drop at frame) count → KeepsValue frame at stand kinds.I32 (at + count)
i32_stands frame at count stand s =
    (unfolded s.number, reads_varints.i32 frame at s.number count stand s.stands, spells_varints.i32 frame at frame (at + count) s.number stand (laid_on frame (shortest s.number) at count s.shortest_is))

pub i64_stands : (frame : List ℕ) (at count : ℕ) (stand : Stand) → StandsShortest 10 64 (drop at frame) count → KeepsValue frame at stand kinds.I64 (at + count)
i64_stands frame at count stand s =
    (unfolded s.number, reads_varints.i64 frame at s.number count stand s.stands, spells_varints.i64 frame at frame (at + count) s.number stand (laid_on frame (shortest s.number) at count s.shortest_is))

-- a varint that was read, and has no more bytes than it needs
pub record Stands (most width : ℕ) (frame : List ℕ) (at behind : ℕ) : Type 0 where
  pub count : ℕ
  pub place : at + count ≡ behind
  pub there : StandsShortest most width (drop at frame) count

pub tight_stands : (frame : List ℕ) (at most width number behind : ℕ) → most ≤ 10 → Small frame → Some (number, behind) ≡ found_at at (varint_at most width (drop at frame)) → IsTight frame at behind → Stands most width frame at behind
tight_stands frame at most width number behind few small found tight =
    let there = number_there at number behind (varint_at most width (drop at frame)) found in
    record {
      count = there.0;
      place = sym there.2;
      there = record {
        number = number;
        stands = there.1;
        shortest_is = fewest most width number there.0 (drop at frame) few (small_behind at frame small) there.1 (tight_behind frame at behind there.0 there.2 tight);
      };
    }

pub i16_kept : (frame : List ℕ) (at behind : ℕ) (stand : Stand) → Stands 5 16 frame at behind → KeepsValue frame at stand kinds.I16 behind
i16_kept frame at behind stand s = subst (λ b. KeepsValue frame at stand kinds.I16 b) s.place (i16_stands frame at s.count stand s.there)

pub i32_kept : (frame : List ℕ) (at behind : ℕ) (stand : Stand) → Stands 5 32 frame at behind → KeepsValue frame at stand kinds.I32 behind
i32_kept frame at behind stand s = subst (λ b. KeepsValue frame at stand kinds.I32 b) s.place (i32_stands frame at s.count stand s.there)

pub i64_kept : (frame : List ℕ) (at behind : ℕ) (stand : Stand) → Stands 10 64 frame at behind → KeepsValue frame at stand kinds.I64 behind
i64_kept frame at behind stand s = subst (λ b. KeepsValue frame at stand kinds.I64 b) s.place (i64_stands frame at s.count stand s.there)

-- ---- values of a known size

-- a value of so many bytes, which its spelling is
leaf_spelled : (frame : List ℕ) (at taken : ℕ) (stand : Stand) (kind : Kind) (item : Item) → bar item ≡ None
    → ((opening : Opening) (nest : List Slot) (w : Writer) → Calls stand kind opening nest → w.nest ≡ nest → take taken (drop at frame) ≡ spelling w item) → SpellsValue own_bar own_plain (λ w opening nest. w.nest ≡ nest) frame at frame (at + taken) stand kind item
leaf_spelled frame at taken stand kind item free is opening nest mark calls w there =
    let size : at + taken - at ≡ taken = omega arith in
    (free, laid_there frame (spelling w item) at (at + taken) (omega arith) (ap (λ n. take n (drop at frame)) size ∙ is opening nest w calls there))

first_is : (bytes : List ℕ) → 1 ≤ length bytes → take 1 bytes ≡ slice_index bytes 0 ∷ []
first_is [] long = absurd (omega arith)
first_is (b ∷ bytes) long = refl

bool_found : (bytes : List ℕ) (value : Bool) → 1 ≤ length bytes → slice_index bytes 0 ≡ flag_code value → value_at kinds.Bool bytes ≡ Ok (bool_value value, 1)
unfolding value_at bool_at
bool_found bytes true long is = grind (arith, nat_tests, is)
bool_found bytes false long is = grind (arith, nat_tests, is)

-- a bool that is no field's has a byte of its own
bool_called : (stand : Stand) (opening : Opening) (nest : List Slot) (before : ℤ) (value : Bool) → (stand ≡ stands.Field → ⊥) → Calls stand kinds.Bool opening nest → bool_spelling before nest value ≡ flag_code value ∷ []
bool_called stand opening [] before value apart c = refl
bool_called stand opening (slots.Fields last ∷ up) before value apart c = refl
bool_called stands.Field opening (slots.Value own id ∷ up) before value apart c = absurd (apart refl)
bool_called stands.Element opening (slots.Value own id ∷ up) before value apart c = absurd c
bool_called stands.FirstKey opening (slots.Value own id ∷ up) before value apart c = absurd c
bool_called stands.Key opening (slots.Value own id ∷ up) before value apart c = absurd c
bool_called stands.Value opening (slots.Value own id ∷ up) before value apart c = absurd c
bool_called stand opening (slots.Elements own left ∷ up) before value apart c = refl
bool_called stand opening (slots.Keys key own left ∷ up) before value apart c = refl
bool_called stand opening (slots.Values key own left ∷ up) before value apart c = refl

bool_of : (frame : List ℕ) (at : ℕ) (stand : Stand) (value : Bool) → at < length frame → (stand ≡ stands.Field → ⊥) → slice_index (drop at frame) 0 ≡ flag_code value → KeepsValue frame at stand kinds.Bool (at + 1)
unfolding spelling
bool_of frame at stand value within apart is =
    let long : 1 ≤ length (drop at frame) = omega (arith, length-drop at frame) in (
      value,
      front_read frame at 1 stand kinds.Bool (bool_value value) refl (λ e. absurd (apart e)) (omega arith) (bool_found (drop at frame) value long is, long),
      leaf_spelled frame at 1 stand kinds.Bool (bool_value value) refl (λ opening nest w calls there.
          first_is (drop at frame) long ∙ ap (λ b. b ∷ []) is ∙ sym (bool_called stand opening nest w.before value apart calls) ∙ ap (λ n. bool_spelling w.before n value) (sym there)),
    )

pub bool_kept : (frame : List ℕ) (at : ℕ) (stand : Stand) → at < length frame → (stand ≡ stands.Field → ⊥) → 1 ≤ get_or frame at 0 → get_or frame at 0 ≤ 2 → KeepsValue frame at stand kinds.Bool (at + 1)
bool_kept frame at stand within apart some few = split (get_or frame at 0 == 1) refl
  where
    byte : slice_index (drop at frame) 0 ≡ get_or frame at 0
    byte = get_or-drop at frame 0 0 ∙ ap (λ (n : ℕ). get_or frame n 0) (omega arith)

    split : (one : Bool) → (get_or frame at 0 == 1) ≡ one → KeepsValue frame at stand kinds.Bool (at + 1)
    split true e = let is : get_or frame at 0 ≡ 1 = grind (arith, nat_tests, e) in bool_of frame at stand true within apart (byte ∙ is)
    split false e = let is : get_or frame at 0 ≡ 2 = grind (arith, nat_tests, e) in bool_of frame at stand false within apart (byte ∙ is)

pub i8_kept : (frame : List ℕ) (at : ℕ) (stand : Stand) → Small frame → at < length frame → KeepsValue frame at stand kinds.I8 (at + 1)
unfolding value_at i8_at spelling
i8_kept frame at stand small within =
    let bytes = drop at frame in
    let long : 1 ≤ length bytes = omega (arith, length-drop at frame) in
    let some : nat_lt (length bytes) 1 ≡ false = grind (arith, nat_tests) in
    let byte = slice_index bytes 0 in
    let value = cast_signed w8 byte in
    let fits : byte < 2 ^ 8 = omega (arith, small_behind at frame small 0) in (
      value,
      front_read frame at 1 stand kinds.I8 (i8_value value) refl (λ _. refl) (omega arith) (rw some refl, long),
      leaf_spelled frame at 1 stand kinds.I8 (i8_value value) refl (λ opening nest w calls there. first_is bytes long ∙ ap (λ b. b ∷ []) (sym (of_z-to_z w8 byte fits))),
    )

pub double_kept : (frame : List ℕ) (at : ℕ) (stand : Stand) → at + 8 ≤ length frame → KeepsValue frame at stand kinds.Double (at + 8)
unfolding value_at double_at spelling
double_kept frame at stand within =
    let bytes = drop at frame in
    let long : 8 ≤ length bytes = omega (arith, length-drop at frame) in
    let some : nat_lt (length bytes) 8 ≡ false = grind (arith, nat_tests) in
    let value = reverse (take 8 bytes) in (
      value,
      front_read frame at 8 stand kinds.Double (double_value value) refl (λ _. refl) (omega arith) (rw some refl, long),
      leaf_spelled frame at 8 stand kinds.Double (double_value value) refl (λ opening nest w calls there. sym (reverse-reverse (take 8 bytes))),
    )

pub uuid_kept : (frame : List ℕ) (at : ℕ) (stand : Stand) → at + 16 ≤ length frame → KeepsValue frame at stand kinds.Uuid (at + 16)
unfolding spelling
uuid_kept frame at stand within =
    let value = part frame at (at + 16) in
    let size : at + 16 - at ≡ 16 = omega arith in (
      value,
      value_read frame at (at + 16) stand kinds.Uuid (uuid_value value) refl (λ _. refl) (uuid_there frame at within),
      leaf_spelled frame at 16 stand kinds.Uuid (uuid_value value) refl (λ opening nest w calls there. ap (λ n. take n (drop at frame)) (sym size)),
    )

-- ---- strings

pub text_kept : (frame : List ℕ) (at size begin : ℕ) (stand : Stand) → Small frame → at ≤ length frame → Some (size, begin) ≡ found_at at (varint_at 5 32 (drop at frame)) → size < 2 ^ 31 → begin + size ≤ length frame → IsTight frame at begin
    → KeepsValue frame at stand kinds.Str (begin + size)
unfolding spelling string_spelling
text_kept frame at size begin stand small inside found few within tight =
    let number = number_at frame at 5 32 size begin inside found in
    let bytes = part frame begin (begin + size) in
    let s = tight_stands frame at 5 32 size begin (omega arith) small found tight in
    let own : size ≡ length bytes =
    let all : begin + size - begin ≡ size = omega arith in
    sym (ap (λ n. length (take n (drop begin frame))) all ∙ length-take-le size (drop begin frame) (omega (arith, length-drop begin frame, within))) in
    let count : take begin frame ≡ take at frame ++ shortest size =
    laid_there frame (shortest size) at begin (omega (arith, number.past)) (fewest 5 32 size (begin - at) (drop at frame) (omega arith) (small_behind at frame small) number.found (tight_behind frame at begin (begin - at) (omega (arith, number.past)) tight)) in (
      bytes,
      value_read frame at (begin + size) stand kinds.Str (text bytes) refl (λ _. refl) (text_there frame at size begin (size_there frame at size begin number few) within),
      (λ opening nest mark calls w there. (
        refl,
        laid_there frame bytes begin (begin + size) (omega arith) refl
            ∙ ap (λ xs. xs ++ bytes) (count ∙ ap (λ n. take at frame ++ shortest n) own)
            ∙ append_assoc (take at frame) (shortest (length bytes)) bytes,
      )),
    )

-- ---- what has no bytes

pub struct_kept : (frame : List ℕ) (at : ℕ) (stand : Stand) → KeepsStruct frame at stand at
unfolding spelling
struct_kept frame at stand = (struct_read frame at stand, λ opening nest mark calls w there. (refl, sym (append-nil (take at frame))))

pub end_kept : (frame : List ℕ) (at : ℕ) (container : Container) → KeepsEnd frame at container at
unfolding spelling
end_kept frame at container = (end_read frame at container, λ opening nest mark done w there. (refl, sym (append-nil (take at frame))))
