use Rattle.std.proofs.Common.{◌≡◌, ◌+◌, ◌*◌, ◌≤◌, ◌++◌, flat_map, take}
use Rattle.message_show.specs.Texts.{byte_text}
use Rattle.message_show.proofs.line.print_all.Given as goal

-- the bytes so far are printed
abbrev pub invariant-loop-byte : goal.invariant-loop-byte
invariant-loop-byte l = record {
  printed : take l.at l.buffer ≡ take l.len l.fn.buffer ++ flat_map byte_text (take l.byte-index l.bytes);
  short : l.at ≤ l.len + 4 * l.byte-index;
}
