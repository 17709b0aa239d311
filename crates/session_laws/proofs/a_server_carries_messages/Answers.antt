use Rattle.session_laws.proofs.Serving.{carries_all}
use Rattle.session_laws.proofs.a_server_carries_messages.Goals as goal

pub returns : goal.returns
returns g c k a b result covered serves =
    carries_all k.setting k.limit k.max_calls k.sessions k.events c.frame_stands_at_the_front.ensures c.a_stream_is_split.ensures covered.covered covered.some k.text _ _ result
    (λ n told. g.met.H.Hub.bytes b.hub n told) serves
