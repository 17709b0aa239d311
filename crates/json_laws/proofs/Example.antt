-- One frame that spells a message, with whitespace round its marks: the call `a`, number 2, with field 1 the i32 -1. And what is written of it.
use Rattle.std.proofs.Common.{◌≡◌, ℕ, pos, negsuc, List, [], ◌∷◌, ◌++◌, Some, None, refl, ap, ◌∙◌, sym, arith, inl, inr}
use Rattle.std.specs.Prelude.{if◌then◌else◌}
use Rattle.std.specs.Fmt.{decimal}
use Rattle.std.proofs.lemmas.Fmt.{decimal_digit}
use Rattle.std.proofs.lemmas.Str.{is_utf8-from_IsUtf8, IsUtf8-encode}
use Rattle.std.proofs.lemmas.Bool.Decides.{nat_tests}
use Rattle.thrift_value.specs.declared.kind.MessageType.TheVariants as types
use Rattle.thrift_value.specs.Trees.{Message, whole_32, no_members, one_member, items_of_members}
use Rattle.type_tables.specs.Declarations.{nothing}
use Rattle.type_walk.specs.Positions.{start}
use Rattle.json_text.specs.Grammar.{plain}
use Rattle.json_text.specs.Plain.{byte_spelling, pieces_spelling, text_spelling}
use Rattle.protocol_traits.specs.declared.fault.Bar.TheVariants as bars
use Rattle.json_protocol.specs.Writing.{begun, name_bar, plain_head, quoted}
use Rattle.json_protocol.specs.Grammar.{SpellsMessage}
use Rattle.binary_laws.specs.Reads.{header_of_message}
use Rattle.json_laws.specs.Positions.{declared_of, body_of}
use Rattle.json_laws.specs.Reads.{IsRead}
use Rattle.json_laws.specs.Stated.{Known}
use Rattle.json_laws.specs.Written.{put, IsWritten}
use Rattle.json_laws.proofs.Spelled.{spelled_read}
use Rattle.json_laws.proofs.Written.{written_read}

abbrev message : Message
message = record { name = 97 ∷ []; mtype = types.Call; seq = pos 2; body = one_member (pos 1) (whole_32 (negsuc 0)) no_members }

-- [ 1,"a",1,2,{"1":{"i32":-1}}] and a line's end
abbrev frame : List ℕ
frame =
    91 ∷ 32 ∷ 49 ∷ 44 ∷ 34 ∷ 97 ∷ 34 ∷ 44 ∷ 49 ∷ 44 ∷ 50 ∷ 44 ∷ 123 ∷ 34 ∷ 49 ∷ 34 ∷ 58 ∷ 123 ∷ 34 ∷ 105 ∷ 51 ∷ 50 ∷ 34 ∷ 58 ∷ 45 ∷ 49 ∷ 125 ∷ 125 ∷ 93 ∷ 10 ∷ []

spelled : SpellsMessage (declared_of nothing) (body_of None) message frame
unfolding lib.Utf8.encode
spelled = (
  34 ∷ 97 ∷ 34 ∷ [],
  50 ∷ [],
  (34 ∷ 49 ∷ 34 ∷ []) ∷ (58 ∷ []) ∷ (123 ∷ []) ∷ (34 ∷ 105 ∷ 51 ∷ 50 ∷ 34 ∷ []) ∷ (58 ∷ []) ∷ (45 ∷ 49 ∷ []) ∷ (125 ∷ []) ∷ [],
  (plain 97 ∷ [], ((grind (arith, nat_tests), omega arith, λ e. absurd (omega (arith, e)), λ e. absurd (omega (arith, e))), tt), refl, refl),
  inr (inl ((omega arith, omega arith, tt), refl)),
  record { sfits = grind (arith, nat_tests) },
  (record { sfits = grind (arith, nat_tests) }, record { sfits = grind (arith, nat_tests) }, tt),
  (49 ∷ [], (45 ∷ 49 ∷ []) ∷ [], [], inr (inl ((omega arith, omega arith, tt), refl)), refl, (45 ∷ 49 ∷ [], inr (inr (49 ∷ [], refl, (omega arith, omega arith, tt), refl)), refl), refl, refl),
  (
    [],
    _,
    refl,
    tt,
    (
      32 ∷ [],
      _,
      refl,
      (inl refl, tt),
      (
        [],
        _,
        refl,
        tt,
        (
          [],
          _,
          refl,
          tt,
          (
            [],
            _,
            refl,
            tt,
            (
              [],
              _,
              refl,
              tt,
              (
                [],
                _,
                refl,
                tt,
                (
                  [],
                  _,
                  refl,
                  tt,
                  (
                    [],
                    _,
                    refl,
                    tt,
                    (
                      [],
                      _,
                      refl,
                      tt,
                      ([], _, refl, tt, ([], _, refl, tt, ([], _, refl, tt, ([], _, refl, tt, ([], _, refl, tt, ([], _, refl, tt, ([], _, refl, tt, ([], _, refl, tt, ([], _, refl, tt, (inr (inr (inr refl)), tt)))))))))),
                    ),
                  ),
                ),
              ),
            ),
          ),
        ),
      ),
    ),
  ),
)

-- so it is read as that message
read : IsRead (start nothing None) frame (header_of_message message) (items_of_members message.body)
read = spelled_read nothing None message frame spelled (omega arith)

-- [1,"a",1,2,{"1":{"i32":-1}}]
abbrev plain_frame : List ℕ
plain_frame =
    91 ∷ 49 ∷ 44 ∷ 34 ∷ 97 ∷ 34 ∷ 44 ∷ 49 ∷ 44 ∷ 50 ∷ 44 ∷ 123 ∷ 34 ∷ 49 ∷ 34 ∷ 58 ∷ 123 ∷ 34 ∷ 105 ∷ 51 ∷ 50 ∷ 34 ∷ 58 ∷ 45 ∷ 49 ∷ 125 ∷ 125 ∷ 93 ∷ []

abbrev unknown : Known
unknown = record { declared = nothing; body = None }

-- the same with these digits for the number, the id and the value
abbrev frame_of : List ℕ → List ℕ → List ℕ → List ℕ
frame_of seq id value =
    (91 ∷ 49 ∷ 44 ∷ 34 ∷ 97 ∷ 34 ∷ 44 ∷ 49 ∷ 44 ∷ (seq ++ 44 ∷ []))
    ++ ((123 ∷ (quoted id ++ (58 ∷ 123 ∷ quoted (105 ∷ 51 ∷ 50 ∷ [])))) ++ ((58 ∷ 45 ∷ value) ++ (125 ∷ 125 ∷ 93 ∷ [])))

put_is : plain_head (header_of_message message) ++ put (start nothing None) begun (items_of_members message.body) ≡ frame_of (decimal 2) (decimal 1) (decimal 1)
unfolding text_spelling pieces_spelling byte_spelling
put_is = refl

digits_are : frame_of (decimal 2) (decimal 1) (decimal 1) ≡ plain_frame
digits_are =
    ap (λ s. frame_of s (decimal 1) (decimal 1)) (decimal_digit 2 (omega arith)) ∙ ap (λ s. frame_of (50 ∷ []) s (decimal 1)) (decimal_digit 1 (omega arith)) ∙ ap (λ s. frame_of (50 ∷ []) (49 ∷ []) s) (decimal_digit 1 (omega arith))

named : name_bar message.name ≡ None
unfolding lib.Utf8.encode
named = ap (λ b. if b then None else Some bars.NotUtf8) (is_utf8-from_IsUtf8 (97 ∷ []) (IsUtf8-encode 97 (grind (arith, nat_tests))))

written : IsWritten unknown message plain_frame
written = record { name = named; taken = (refl, (refl, (refl, tt))); strings = (tt, (tt, (tt, tt))); bytes_are = sym (put_is ∙ digits_are) }

again : IsRead (start nothing None) plain_frame (header_of_message message) (items_of_members message.body)
again = written_read unknown message plain_frame (record { name = omega arith; seq = record { sfits = grind (arith, nat_tests) }; body = (record { sfits = grind (arith, nat_tests) }, record { sfits = grind (arith, nat_tests) }, tt) }) written (omega arith)
