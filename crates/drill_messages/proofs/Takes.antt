-- The three protocols can hold all that the messages are made of.
use Rattle.std.proofs.Common.{◌≡◌, ℕ, zero, suc, List, [], ◌∷◌, true, refl, arith}
use Rattle.std.specs.Prelude.{None}
use Rattle.std.specs.Str.{is_utf8, IsAscii}
use Rattle.std.proofs.lemmas.Str.{IsUtf8-from_ascii, is_utf8-from_IsUtf8}
use Rattle.binary_protocol.specs.Plain as binary
use Rattle.compact_protocol.specs.Plain as compact
use Rattle.json_protocol.specs.Writing as json
use Rattle.drill_messages.specs.Writers.{TakesAll}

pub binary_takes : TakesAll (λ name. None) binary.bar
binary_takes = record {
  name = refl;
  fields = λ id kind. refl;
  id = λ n. refl;
  texts = λ bytes ascii. refl;
  raw = λ bytes. refl;
  marks = λ n. refl;
  mark = λ n. refl;
  flags = λ n. refl;
  no_flags = refl;
  flag = λ b. refl;
  items = λ n. refl;
  begin = refl;
  finish = refl;
  ends = refl;
}

pub compact_takes : TakesAll (λ name. None) (λ item mark. compact.bar item)
compact_takes = record {
  name = refl;
  fields = λ id kind. refl;
  id = λ n. refl;
  texts = λ bytes ascii. refl;
  raw = λ bytes. refl;
  marks = λ n. refl;
  mark = λ n. refl;
  flags = λ n. refl;
  no_flags = refl;
  flag = λ b. refl;
  items = λ n. refl;
  begin = refl;
  finish = refl;
  ends = refl;
}

-- what is ASCII is UTF-8
text_taken : (bytes : List ℕ) → IsAscii bytes → is_utf8 bytes ≡ true
text_taken bytes ascii = is_utf8-from_IsUtf8 bytes (IsUtf8-from_ascii bytes ascii)

put_ascii : IsAscii (112 ∷ 117 ∷ 116 ∷ [])
put_ascii zero = omega arith
put_ascii (suc zero) = omega arith
put_ascii (suc (suc zero)) = omega arith
put_ascii (suc (suc (suc i))) = omega arith

pub json_takes : TakesAll json.name_bar json.bar
json_takes = record {
  name = rw (text_taken (112 ∷ 117 ∷ 116 ∷ []) put_ascii) refl;
  fields = λ id kind. refl;
  id = λ n. refl;
  texts = λ bytes ascii. rw (text_taken bytes ascii) refl;
  raw = λ bytes. refl;
  marks = λ n. refl;
  mark = λ n. refl;
  flags = λ n. refl;
  no_flags = refl;
  flag = λ b. refl;
  items = λ n. refl;
  begin = refl;
  finish = refl;
  ends = refl;
}
