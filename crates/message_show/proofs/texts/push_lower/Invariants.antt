use Rattle.std.proofs.Common.{◌≡◌, ◌+◌, ◌*◌, ◌++◌, length, flat_map, take}
use Rattle.message_show.specs.Texts.{lower_byte}
use Rattle.message_show.proofs.texts.push_lower.Given as goal

-- the digits of the bytes so far
abbrev pub invariant-loop-byte : goal.invariant-loop-byte
invariant-loop-byte l = record {
  told : l.line ≡ record l.fn.line { bytes = l.fn.line.bytes ++ flat_map lower_byte (take l.byte-index l.bytes) };
  long : length l.line.bytes ≡ length l.fn.line.bytes + 2 * l.byte-index;
}
