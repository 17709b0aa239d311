use Rattle.std.proofs.Common.{inl, refl}
use Rattle.gate_streams.proofs.Draining.{made}
use Rattle.gate_streams.proofs.stream.make_room.Goals as goal

pub returns-then-spare-ge-LINE_ROOM-clause-made : goal.returns-then-spare-ge-LINE_ROOM-clause-made
returns-then-spare-ge-LINE_ROOM-clause-made g c = inl (record { page_stays = refl; waiting_stays = refl; written_stays = refl; reported_stays = refl })

pub returns-clause-made : goal.returns-clause-made
returns-clause-made g c = made c.flush_both.result _ _ _ _ _ _ _ _ c.flush_both.ensures.both c.flush_both.ensures.page c.flush_both.ensures.lines
