use Rattle.protocol_traits.specs.declared.proto.Proto.TheVariants as protocols
use Rattle.stream_laws.specs.Covering.{passage_of, IsListed}
use Rattle.stream_laws.proofs.Covering.{IsShowLaw, listed, short_frame, by_ending, are_read}
use Rattle.stream_laws.proofs.a_stream_is_shown_by_its_grammar.Goals as goal

pub returns : goal.returns
returns g c k from a b ending shows tells streamed =
    by_ending k (IsListed k (passage_of k from from)) (λ number frame are within. listed law k from shows.0 number frame are (short_frame from k.limit frame shows.1 within)) a b ending
    (are_read a.left b.left (g.met.I.Source.bytes tells.0) tells.1 tells.2) streamed
  where
    law : IsShowLaw
    law d service protocols.Binary frame are short = c.a_frame_is_shown_by_its_grammar.ensures.binary d service frame are
    law d service protocols.Compact frame are short = c.a_frame_is_shown_by_its_grammar.ensures.compact d service frame are
    law d service protocols.Json frame are short = c.a_frame_is_shown_by_its_grammar.ensures.json d service frame short
