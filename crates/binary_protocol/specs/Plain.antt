-- The plain spelling of each item and of a header: the one that the writer writes.
use Rattle.std.specs.Prelude.{ℕ, List, [], ◌∷◌, ◌++◌, Option, Some, None}
use Rattle.std.specs.Int.{w8, w16, w32, w64}
use Rattle.thrift_value.specs.Items.{Item, field, stop, bool_value, i8_value, i16_value, i32_value, i64_value, double_value, text, number_text, unknown_text, struct_begin, empty_map, map_begin, set_begin, list_begin, end, uuid_value}
use Rattle.protocol_traits.specs.declared.fault.Bar.{Bar}
use Rattle.protocol_traits.specs.declared.fault.Bar.TheVariants as bars
use Rattle.protocol_traits.specs.declared.proto.Mark.{Mark}
use Rattle.protocol_traits.specs.Heads.{Header}
use Rattle.binary_protocol.specs.Codes.{code_of_kind, code_of_type}
use Rattle.binary_protocol.specs.Grammar.{number, size, string, flag}

-- What JSON leaves open is not written: the bytes of a number's text, and a string that is text or base64.
abbrev pub bar : Item → Mark → Option Bar
bar (number_text bytes) mark = Some bars.Double
bar (unknown_text bytes) mark = Some bars.UnknownString
bar item mark = None

abbrev pub plain : Item → Mark → List ℕ
plain (field id kind) mark = code_of_kind kind ∷ number w16 id
plain stop mark = 0 ∷ []
plain (bool_value b) mark = flag b ∷ []
plain (i8_value n) mark = number w8 n
plain (i16_value n) mark = number w16 n
plain (i32_value n) mark = number w32 n
plain (i64_value n) mark = number w64 n
plain (double_value bytes) mark = bytes
plain (text bytes) mark = string bytes
plain (number_text bytes) mark = []
plain (unknown_text bytes) mark = []
plain struct_begin mark = []
plain empty_map mark = code_of_kind mark.key ∷ code_of_kind mark.value ∷ size 0
plain (map_begin key value n) mark = code_of_kind key ∷ code_of_kind value ∷ size n
plain (set_begin kind n) mark = code_of_kind kind ∷ size n
plain (list_begin kind n) mark = code_of_kind kind ∷ size n
plain end mark = []
plain (uuid_value bytes) mark = bytes

-- the strict form, with the unused byte 0
abbrev pub plain_head : Header → List ℕ
plain_head h = 128 ∷ 1 ∷ 0 ∷ code_of_type h.mtype ∷ string h.name ++ number w32 h.seq
