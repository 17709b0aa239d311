use Rattle.std.proofs.Common.{◌≡◌, drop}
use Rattle.std.specs.Prelude.{pos}
use Rattle.idl_consts.specs.Fitting.{number_from}
use Rattle.idl_consts.proofs.members.number_of.Given as goal

abbrev pub invariant-loop-member : goal.invariant-loop-member
invariant-loop-member l = number_from l.next (drop l.member-index l.members) l.word ≡ number_from (pos 0) l.members l.word
