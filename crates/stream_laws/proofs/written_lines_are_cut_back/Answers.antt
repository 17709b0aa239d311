use Rattle.std.proofs.Common.{arith}
use Rattle.protocol_traits.specs.declared.proto.Proto.TheVariants as protocols
use Rattle.stream_laws.proofs.Giving.{all_given}
use Rattle.stream_laws.proofs.Unbroken.{plain_unbroken, plain_counts, lines_cut_back}
use Rattle.stream_laws.proofs.written_lines_are_cut_back.Goals as goal

pub returns-clause-unbroken : goal.returns-clause-unbroken
returns-clause-unbroken c = λ d route m. (record { within = omega arith; unbroken = plain_unbroken d route m }, plain_counts d route m)

pub returns-clause-cut : goal.returns-clause-cut
returns-clause-cut c = λ k p n frames are (doing, lines). lines_cut_back k p frames _ lines (all_given k p protocols.Json n frames are doing)
