use Rattle.std.proofs.Common.{Some, subst}
use Rattle.gate_words.specs.declared.peers.Front.TheVariants as fronts
use Rattle.gate_serve.specs.Peers.{wrapping_by}
use Rattle.gate_serve.specs.Serving.{setting_by}
use Rattle.session_laws.proofs.Serving.{carries_all}
use Rattle.stream_messages.specs.Laws.{bytes_over}
use Rattle.stream_laws.specs.Sessions.{CarriesMessagesOver}
use Rattle.stream_laws.proofs.Sessions.{of_front, of_sides, then}
use Rattle.stream_laws.proofs.Unframed.{carried_over}
use Rattle.stream_laws.proofs.Words.{small_server}
use Rattle.stream_laws.proofs.a_session_without_frames_carries_messages.Goals as goal

pub returns : goal.returns
returns g c x sides commanded runs plain =
    let s = x.serving in
    let a = x.before.streams in
    let b = x.behind.streams in
    let tells = g.H.Hub.tells in
    let counts = g.H.Hub.counts in
    let w = wrapping_by sides s in
    let small = small_server s x.declared commanded.0 commanded.1 in
    then x.before.holds x.declared x.before.file_faults x.behind.file_faults _ _ _
    (λ start serves.
    let over = of_sides tells counts s start x.hub x.hub_behind a b x.ending (Some sides) plain.1 (of_front tells counts s start x.hub x.hub_behind a b x.ending fronts.Framed plain.0 serves) in
    subst (λ hub. CarriesMessagesOver w (tells x.hub) (tells hub) s start a b) over.1
    (carried_over tells counts w small.0.0 small.0.1 c.wrapped_sides_are_framed.ensures s start x.hub over.0 over.2 (λ n told. g.met.H.Hub.bytes over.0.inner n told) a b x.ending
    (λ mid result by.
    carries_all (setting_by s start) s.limit s.calls s.sessions s.events c.frame_stands_at_the_front.ensures c.a_stream_is_split.ensures small.0.1 small.1 _ _ _ result
    (bytes_over (tells over.0.inner) over.0.wrapping over.0.slots (λ n told. g.met.H.Hub.bytes over.0.inner n told)) by)
    over.3))
    runs
