use Rattle.std.proofs.Common.{◌≡◌, ◌+◌, ◌*◌, ◌≤◌, ◌++◌, length, flat_map, take}
use Rattle.message_show.specs.Texts.{byte_text}
use Rattle.refusal_lines.proofs.name.push_printed.Given as goal

-- the bytes so far are printed
abbrev pub invariant-loop-byte : goal.invariant-loop-byte
invariant-loop-byte l = record {
  printed : l.line ≡ record l.fn.line { bytes = l.fn.line.bytes ++ flat_map byte_text (take l.byte-index l.bytes) };
  short : length l.line.bytes ≤ length l.fn.line.bytes + 4 * l.byte-index;
}
