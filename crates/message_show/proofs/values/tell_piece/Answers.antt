use Rattle.std.proofs.Common.{arith, []}
use Rattle.std.specs.Prelude.{flat_map}
use Rattle.std.proofs.lemmas.Grind.{common_steps}
use Rattle.message_show.specs.Texts.{byte_text}
use Rattle.message_show.proofs.Told.{tells_more}
use Rattle.message_show.proofs.values.tell_piece.Goals as goal

pub returns-then-has_room_for : goal.returns-then-has_room_for
returns-then-has_room_for g c = grind (arith, common_steps)

pub returns-else-has_room_for : goal.returns-else-has_room_for
returns-else-has_room_for g c = record { told = tells_more _ _ _ _ _ [] (flat_map byte_text c.args.bytes.now) c.flush.ensures.told c.push_printed-else-has_room_for.ensures.printed }
