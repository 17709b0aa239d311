use Rattle.std.proofs.Common.{None}
use Rattle.gate_words.specs.declared.peers.Front.TheVariants as fronts
use Rattle.gate_serve.specs.Serving.{setting_by, telling_by}
use Rattle.refusal_lines.specs.Told.{told_text}
use Rattle.stream_laws.proofs.Sessions.{carried, of_front, of_sides, then}
use Rattle.stream_laws.proofs.Words.{small_server}
use Rattle.stream_laws.proofs.a_session_carries_messages.Goals as goal

pub returns : goal.returns
returns g c x commanded runs over =
    let s = x.serving in
    let a = x.before.streams in
    let b = x.behind.streams in
    let small = small_server s x.declared commanded.0 commanded.1 in
    then x.before.holds x.declared x.before.file_faults x.behind.file_faults _ _ _
    (λ start serves.
    carried g.H.Hub.tells g.H.Hub.counts s start x.hub x.hub_behind a b x.ending
    (λ mid result is.
    c.a_server_carries_messages.ensures (record { setting = setting_by s start; limit = s.limit; max_calls = s.calls; sessions = s.sessions; events = s.events; text = told_text (telling_by s) })
    (record { hub = mid; written = a.written; faults = a.output_faults }) (record { hub = x.hub_behind; written = b.written; faults = b.output_faults }) result
    (record { covered = small.0.1; some = small.1 }) is)
    (of_sides g.H.Hub.tells g.H.Hub.counts s start x.hub x.hub_behind a b x.ending None over.1
    (of_front g.H.Hub.tells g.H.Hub.counts s start x.hub x.hub_behind a b x.ending fronts.Framed over.0 serves)))
    runs
