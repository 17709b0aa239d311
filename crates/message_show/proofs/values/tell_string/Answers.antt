use Rattle.std.proofs.Common.{arith}
use Rattle.std.proofs.lemmas.Grind.{common_steps}
use Rattle.message_show.specs.Texts.{quoted}
use Rattle.message_show.proofs.values.tell_string.Goals as goal

pub push_byte-requires-then-has_room_for : goal.push_byte-requires-then-has_room_for
unfolding quoted
push_byte-requires-then-has_room_for g c = grind (arith, common_steps)

pub push_printed-requires : goal.push_printed-requires
unfolding quoted
push_printed-requires g c = grind (arith, common_steps)

pub returns-then-has_room_for : goal.returns-then-has_room_for
unfolding quoted
returns-then-has_room_for g c = grind (arith, common_steps)
