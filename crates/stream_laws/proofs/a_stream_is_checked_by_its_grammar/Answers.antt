use Rattle.protocol_traits.specs.declared.proto.Proto.TheVariants as protocols
use Rattle.gate_streams.specs.Findings.{finding}
use Rattle.stream_laws.specs.Covering.{passage_of, IsConformed}
use Rattle.stream_laws.proofs.Covering.{IsCheckLaw, conformed, short_frame, by_ending, are_read}
use Rattle.stream_laws.proofs.a_stream_is_checked_by_its_grammar.Goals as goal

pub returns : goal.returns
unfolding finding
returns g c k from a b ending conforms tells streamed =
    by_ending k (IsConformed k (passage_of k from from)) (λ number frame are within. conformed law k from conforms.0 number frame are (short_frame from k.limit frame conforms.1 within)) a b ending
    (are_read a.left b.left (g.met.I.Source.bytes tells.0) tells.1 tells.2) streamed
  where
    law : IsCheckLaw
    law d service protocols.Binary frame are short = c.a_frame_is_checked_by_its_grammar.ensures.binary d service frame are
    law d service protocols.Compact frame are short = c.a_frame_is_checked_by_its_grammar.ensures.compact d service frame are
    law d service protocols.Json frame are short = c.a_frame_is_checked_by_its_grammar.ensures.json d service frame short
