use Rattle.stream_laws.specs.Covering.{passage_of, IsConverted}
use Rattle.stream_laws.proofs.Covering.{converted, short_frame, by_ending, are_read}
use Rattle.stream_laws.proofs.a_stream_is_converted_by_its_grammar.Goals as goal

pub returns : goal.returns
returns g c k from to a b ending converts tells streamed =
    by_ending k (IsConverted k.output (passage_of k from to)) (λ number frame are within. converted k from to converts.0 number frame are (short_frame from k.limit frame converts.1 within)) a b ending
    (are_read a.left b.left (g.met.I.Source.bytes tells.0) tells.1 tells.2) streamed
