use Rattle.std.proofs.Common.{ℕ, ℤ, List, ◌+◌, ◌*◌, ◌≤◌, length, take, ap, ◌∙◌, rules, arith, length-take, FitsSigned}
use Rattle.std.specs.Int.{w32, w64}
use Rattle.std.specs.Fmt.{signed_decimal}
use Rattle.std.proofs.lemmas.Fmt.{length_signed_le}
use Rattle.std.proofs.lemmas.Int.{to_z-of_z}
use Rattle.std.proofs.lemmas.Grind.{common_steps}
use Rattle.json_text.specs.Lengths.{text_long}
use Rattle.json_text.specs.Plain.{text_spelling}
use Rattle.json_protocol.proofs.write_forms.JsonWriteFormWrite.front.Goals as goal

name_short : (name : List ℕ) → length (text_spelling (take (length name) name)) ≤ 6 * length name + 2
name_short name = omega (arith, text_long (take (length name) name), length-take (length name) name)

pub lay_utf8-behind-requires-clause-room : goal.lay_utf8-behind-requires-clause-room
lay_utf8-behind-requires-clause-room c =
    let name = c.args.head.now.name.now in
    let room : c.args.to + (6 * length name + 21 + 64) ≤ length c.args.cells.now = c.requires.room in
    omega (arith, room, name_short name, c.lay-name.ensures.place)

pub lay_both-digit-requires-clause-room : goal.lay_both-digit-requires-clause-room
lay_both-digit-requires-clause-room c =
    let name = c.args.head.now.name.now in
    let room : c.args.to + (6 * length name + 21 + 64) ≤ length c.args.cells.now = c.requires.room in
    omega (arith, room, name_short name, c.lay-name.ensures.place, c.lay_utf8-behind.ensures.place, c.type_digit.ensures.one)

pub lay-number-requires : goal.lay-number-requires
lay-number-requires c =
    let name = c.args.head.now.name.now in
    let room : c.args.to + (6 * length name + 21 + 64) ≤ length c.args.cells.now = c.requires.room in
    omega (arith, room, name_short name, c.lay-name.ensures.place, c.lay_utf8-behind.ensures.place, c.type_digit.ensures.one, c.lay_both-digit.ensures.place)

pub lay_int-end-requires : goal.lay_int-end-requires
lay_int-end-requires c =
    let name = c.args.head.now.name.now in
    let room : c.args.to + (6 * length name + 21 + 64) ≤ length c.args.cells.now = c.requires.room in
    omega (arith, room, name_short name, c.lay-name.ensures.place, c.lay_utf8-behind.ensures.place, c.type_digit.ensures.one, c.lay_both-digit.ensures.place, c.lay-number.ensures.place)

pub lay-requires : goal.lay-requires
lay-requires c =
    let name = c.args.head.now.name.now in
    let room : c.args.to + (6 * length name + 21 + 64) ≤ length c.args.cells.now = c.requires.room in
    omega (arith, room, name_short name, c.lay-name.ensures.place, c.lay_utf8-behind.ensures.place, c.type_digit.ensures.one, c.lay_both-digit.ensures.place, c.lay-number.ensures.place, c.lay_int-end.ensures.short)

pub returns-clause-short : goal.returns-clause-short
returns-clause-short c =
    let name = c.args.head.now.name.now in
    let seq = c.args.head.now.seq in
    let wide : FitsSigned w64 c.from.result = search rules in
    let fits : FitsSigned w32 seq = search rules in
    let digits : length (signed_decimal seq) ≤ 11 = length_signed_le 10 seq (omega (arith, fits.sfits)) (omega (arith, fits.sfits)) in
    let same = to_z-of_z w64 c.from.result wide ∙ c.from.ensures ∙ to_z-of_z w32 seq fits in
    omega (
      arith,
      name_short name,
      digits,
      ap (λ (z : ℤ). length (signed_decimal z)) same,
      c.lay-name.ensures.place,
      c.lay_utf8-behind.ensures.place,
      c.type_digit.ensures.one,
      c.lay_both-digit.ensures.place,
      c.lay-number.ensures.place,
      c.lay_int-end.ensures.place,
      c.lay.ensures.place,
    )

pub returns-clause-spells : goal.returns-clause-spells
returns-clause-spells c = grind (arith, common_steps)
