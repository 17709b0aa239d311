-- Messages of the kinds that callers send, in the spelling that TJSON's other writers give them.
use Rattle.std.proofs.Common.{◌≡◌, ℕ, pos, List, [], ◌∷◌, ◌++◌, true, false, refl}
use Rattle.std.specs.Prelude.{codes}
use Rattle.std.specs.Fmt.{digits}
use Rattle.thrift_value.specs.declared.kind.Kind.TheVariants as kinds
use Rattle.thrift_value.specs.declared.kind.MessageType.TheVariants as types
use Rattle.thrift_value.specs.Items.{Item, field, stop, bool_value, i32_value, text, struct_begin, empty_map, map_begin, list_begin, end}
use Rattle.protocol_traits.specs.declared.proto.Hint.TheVariants as hints
use Rattle.protocol_traits.specs.declared.proto.Mark.{Mark}
use Rattle.json_text.specs.Plain.{text_spelling, pieces_spelling, byte_spelling}
use Rattle.json_protocol.specs.Writing.{Writer, begun, after, plain, plain_head}

abbrev mark : Mark
mark = record { hint = hints.Text; key = kinds.I8; value = kinds.I8 }

abbrev spell : Writer → Mark → List Item → List ℕ
spell w m [] = []
spell w m (it ∷ more) = plain w it m ++ spell (after w it m) m more

pub smallest_call : plain_head (record { name = codes "ping"; mtype = types.Call; seq = pos 1 }) ++ spell begun mark (stop ∷ []) ≡ codes "[1,\"ping\",1,1,{}]"
unfolding text_spelling pieces_spelling byte_spelling digits
smallest_call = refl

pub empty_map_of_a_field : spell begun mark (field (pos 1) kinds.Map ∷ empty_map ∷ stop ∷ []) ≡ codes "{\"1\":{\"map\":[\"i8\",\"i8\",0,{}]}}]"
unfolding digits
empty_map_of_a_field = refl

pub bools : spell begun mark (field (pos 1) kinds.List ∷ list_begin kinds.Bool 3 ∷ bool_value true ∷ bool_value false ∷ bool_value false ∷ end ∷ stop ∷ [])
    ≡ codes "{\"1\":{\"lst\":[\"tf\",3,1,0,0]}}]"
unfolding digits
bools = refl

pub a_text : spell begun mark (field (pos 1) kinds.Str ∷ text (codes "AB") ∷ stop ∷ []) ≡ codes "{\"1\":{\"str\":\"AB\"}}]"
unfolding text_spelling pieces_spelling byte_spelling digits
a_text = refl

pub repeats_and_a_struct_as_key : spell begun mark (field (pos 1) kinds.I32 ∷ i32_value (pos 5) ∷ field (pos 1) kinds.I32 ∷ i32_value (pos 6) ∷ field (pos 2) kinds.Map
    ∷ map_begin kinds.Struct kinds.I32 1 ∷ struct_begin ∷ field (pos 1) kinds.I32 ∷ i32_value (pos 5) ∷ stop ∷ i32_value (pos 7) ∷ end ∷ stop ∷ [])
    ≡ codes "{\"1\":{\"i32\":5},\"1\":{\"i32\":6},\"2\":{\"map\":[\"rec\",\"i32\",1,{{\"1\":{\"i32\":5}}:7}]}}]"
unfolding digits
repeats_and_a_struct_as_key = refl
