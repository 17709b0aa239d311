use Rattle.std.proofs.Common.{subst}
use Rattle.gate_words.specs.declared.peers.Front.TheVariants as fronts
use Rattle.gate_serve.specs.Serving.{setting_by}
use Rattle.session_laws.proofs.Serving.{carries_all}
use Rattle.stream_laws.specs.Posts.{CarriesPosts}
use Rattle.stream_laws.proofs.Posts.{carried_posts}
use Rattle.stream_laws.proofs.Sessions.{of_front, then}
use Rattle.stream_laws.proofs.Words.{small_server}
use Rattle.stream_laws.proofs.a_session_over_posts_carries_messages.Goals as goal

pub returns : goal.returns
returns g c x commanded runs plain =
    let s = x.serving in
    let a = x.before.streams in
    let b = x.behind.streams in
    let tells = g.H.Hub.tells in
    let counts = g.H.Hub.counts in
    let small = small_server s x.declared commanded.0 commanded.1 in
    then x.before.holds x.declared x.before.file_faults x.behind.file_faults _ _ _
    (λ start serves.
    let over = of_front tells counts s start x.hub x.hub_behind a b x.ending fronts.Http plain serves in
    subst (λ hub. CarriesPosts (tells x.hub) (tells hub) s start a b) over.1
    (carried_posts tells counts c.told_clients_are_served.ensures s start x.hub over.0 over.2 a b x.ending small.0.0 small.0.1 c.wrapped_sides_are_framed.ensures
    (λ before behind bytes result by.
    carries_all (setting_by s start) s.limit s.calls s.sessions s.events c.frame_stands_at_the_front.ensures c.a_stream_is_split.ensures small.0.1 small.1 _ before behind result bytes by)
    (λ n told. g.met.H.Hub.bytes over.0.inner n told) plain small.2 over.3))
    runs
