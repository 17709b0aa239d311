use Rattle.std.proofs.Common.{◌≡◌, map, take}
use Rattle.idl_files.specs.Walk.{mention_of}
use Rattle.idl_files.proofs.mentions.mentions.Given as goal

abbrev pub invariant-loop-include : goal.invariant-loop-include
invariant-loop-include l = l.mentions.items ≡ map (mention_of l.file) (take l.include-index l.includes)
