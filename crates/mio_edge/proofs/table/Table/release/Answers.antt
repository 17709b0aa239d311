use Rattle.std.proofs.Common.{length, sym, refl, ap, ◌∙◌, ◌∷◌, [], arith}
use Rattle.std.proofs.lemmas.List.{length-append}
use Rattle.mio_edge.proofs.Tables.{freed, freed_queues, spare_pushed}
use Rattle.mio_edge.proofs.Closing.{winds_freed, others_freed}
use Rattle.mio_edge.proofs.Numbered.{below_freed}
use Rattle.mio_edge.proofs.table.Table.release.Goals as goal
use Rattle.std.proofs.lemmas.Grind.{common_steps}

pub returns-then-len-capacity-clause-keeps : goal.returns-then-len-capacity-clause-keeps
returns-then-len-capacity-clause-keeps g c = λ idle world told.
    let t = g.S.Stream.tells in
    let s = c.args.self.now in (
      freed t s.sessions c.try_remove.new.self s.entries.items s.closed.items c.forget.new.places.items s.spare.items c.push_reserved.new.self.items c.args.place c.in-Some.session (sym c.in-Some.ensures.value) c.in-Some.ensures.updates c.forget.ensures
          (spare_pushed t s.spare.items c.push_reserved.new.self.items c.into_ports-ports.result c.push_reserved.ensures.items c.into_ports-ports.ensures.new) idle world told.0,
      freed_queues t s.sessions c.try_remove.new.self s c.args.place (length c.push_reserved.new.self.items) refl c.in-Some.ensures.updates c.in-Some.ensures.len c.in-Some.ensures.capacity (omega (arith, ap length c.push_reserved.ensures.items ∙ length-append s.spare.items (c.into_ports-ports.result ∷ []))) idle told.1,
    )

pub returns-else-len-capacity-clause-keeps : goal.returns-else-len-capacity-clause-keeps
returns-else-len-capacity-clause-keeps g c = λ idle world told.
    let t = g.S.Stream.tells in
    let s = c.args.self.now in (
      freed t s.sessions c.try_remove.new.self s.entries.items s.closed.items c.forget.new.places.items s.spare.items s.spare.items c.args.place c.in-Some.session (sym c.in-Some.ensures.value) c.in-Some.ensures.updates c.forget.ensures (λ n all. all n) idle world told.0,
      freed_queues t s.sessions c.try_remove.new.self s c.args.place (length s.spare.items) refl c.in-Some.ensures.updates c.in-Some.ensures.len c.in-Some.ensures.capacity (omega arith) idle told.1,
    )

pub returns-then-len-capacity-clause-others : goal.returns-then-len-capacity-clause-others
returns-then-len-capacity-clause-others g c = others_freed c.args.self.now.sessions c.try_remove.new.self c.args.place c.in-Some.ensures.updates

pub returns-then-len-capacity-clause-winds : goal.returns-then-len-capacity-clause-winds
returns-then-len-capacity-clause-winds g c = λ settled. winds_freed g.S.Stream.tells c.args.self.now.sessions c.try_remove.new.self c.args.place c.in-Some.ensures.updates settled

pub returns-else-len-capacity-clause-others : goal.returns-else-len-capacity-clause-others
returns-else-len-capacity-clause-others g c = others_freed c.args.self.now.sessions c.try_remove.new.self c.args.place c.in-Some.ensures.updates

pub returns-else-len-capacity-clause-winds : goal.returns-else-len-capacity-clause-winds
returns-else-len-capacity-clause-winds g c = λ settled. winds_freed g.S.Stream.tells c.args.self.now.sessions c.try_remove.new.self c.args.place c.in-Some.ensures.updates settled

pub returns-then-len-capacity-clause-free : goal.returns-then-len-capacity-clause-free
returns-then-len-capacity-clause-free g c = c.in-Some.ensures.updates.changed

pub returns-else-len-capacity-clause-free : goal.returns-else-len-capacity-clause-free
returns-else-len-capacity-clause-free g c = c.in-Some.ensures.updates.changed

pub returns-then-len-capacity-clause-below : goal.returns-then-len-capacity-clause-below
returns-then-len-capacity-clause-below g c = below_freed c.args.self.now.sessions c.try_remove.new.self c.args.place c.in-Some.ensures.updates

pub returns-else-len-capacity-clause-below : goal.returns-else-len-capacity-clause-below
returns-else-len-capacity-clause-below g c = below_freed c.args.self.now.sessions c.try_remove.new.self c.args.place c.in-Some.ensures.updates

pub returns-in_default-clause-winds : goal.returns-in_default-clause-winds
returns-in_default-clause-winds g c = λ settled. winds_freed g.S.Stream.tells c.args.self.now.sessions c.try_remove.new.self c.args.place c.in_default.ensures.updates settled

pub returns-in_default-clause-others : goal.returns-in_default-clause-others
returns-in_default-clause-others g c = others_freed c.args.self.now.sessions c.try_remove.new.self c.args.place c.in_default.ensures.updates

pub returns-in_default-clause-free : goal.returns-in_default-clause-free
returns-in_default-clause-free g c = c.in_default.ensures.updates.changed

pub returns-in_default-clause-below : goal.returns-in_default-clause-below
returns-in_default-clause-below g c = below_freed c.args.self.now.sessions c.try_remove.new.self c.args.place c.in_default.ensures.updates

pub returns-in_default-clause-keeps : goal.returns-in_default-clause-keeps
returns-in_default-clause-keeps g c = grind (arith, common_steps)

pub returns-then-len-capacity-clause-spares : goal.returns-then-len-capacity-clause-spares
returns-then-len-capacity-clause-spares g c = grind (arith, common_steps)
