use Rattle.std.proofs.Common.{ℕ, ◌≡◌, ◌+◌, ◌∷◌, [], length, IfSome, subst, sym, ap, ◌∙◌, arith}
use Rattle.std.proofs.lemmas.List.{length-append}
use Rattle.mio_edge.specs.Sessions.{PortsTell, new_links}
use Rattle.mio_edge.specs.Tables.{IsNew, IsPrepared}
use Rattle.mio_edge.proofs.Sessions.{session_new}
use Rattle.mio_edge.proofs.Standing.{fewer_spare}
use Rattle.mio_edge.proofs.Tables.{as_many, fewer, spare_popped}
use Rattle.mio_edge.proofs.Closing.{put_beside}
use Rattle.mio_edge.specs.Lines.{same_turns_on}
use Rattle.mio_edge.proofs.Numbered.{then_beside}
use Rattle.mio_edge.specs.Numbered.{StayBelowBeside}
use Rattle.mio_edge.proofs.Stepping.{puts_stepped}
use Rattle.mio_edge.proofs.table.Table.begin.Goals as goal

pub returns-in_default-clause-keeps : goal.returns-in_default-clause-keeps
returns-in_default-clause-keeps g c = λ world told.
    let t = g.S.Stream.tells in
    let s = c.make_place.new.self in
    let made = c.make_place.ensures.keeps world told in
    let long : length s.spare.items ≡ length c.pop.new.self.items + 0 = ap length c.in_default.ensures.items ∙ length-append c.pop.new.self.items [] in (
      as_many t s.sessions s.entries.items s.closed.items s.spare.items c.pop.new.self.items c.in_default.ensures.items world made.0,
      fewer_spare t s.sessions s.ready s.behind s.written (length s.spare.items) (length c.pop.new.self.items) (omega (arith, long)) made.1,
    )

pub returns-clause-keeps : goal.returns-clause-keeps
returns-clause-keeps g c = λ world told.
    let t = g.S.Stream.tells in
    let s = c.make_place.new.self in
    let made = c.make_place.ensures.keeps world told in
    let items = c.in-Some.ensures.items in
    let popped = spare_popped t s.spare.items c.pop.new.self.items c.in-Some.ports items made.0.spare in
    let new : IsNew t c.over.result = (c.over.ensures.closed, session_new t c.over.result (subst (λ v. PortsTell t v.items new_links) (sym c.over.ensures.ports) popped.1), c.over.ensures.idle.0, c.over.ensures.idle.1) in
    let long : length s.spare.items ≡ length c.pop.new.self.items + 1 = ap length items ∙ length-append c.pop.new.self.items (c.in-Some.ports ∷ []) in
    c.insert.ensures.keeps new world (
      (fewer t s.sessions s.entries.items s.closed.items s.spare.items c.pop.new.self.items c.in-Some.ports items world made.0, fewer_spare t s.sessions s.ready s.behind s.written (length s.spare.items) (length c.pop.new.self.items) (omega (arith, long)) made.1),
      omega (arith, made.1.fits, long),
    )

pub returns-clause-prepared : goal.returns-clause-prepared
returns-clause-prepared g c = λ world told.
    let t = g.S.Stream.tells in
    let s = c.make_place.new.self in
    let made = c.make_place.ensures.keeps world told in
    let items = c.in-Some.ensures.items in
    let popped = spare_popped t s.spare.items c.pop.new.self.items c.in-Some.ports items made.0.spare in
    let new : IsNew t c.over.result = (c.over.ensures.closed, session_new t c.over.result (subst (λ v. PortsTell t v.items new_links) (sym c.over.ensures.ports) popped.1), c.over.ensures.idle.0, c.over.ensures.idle.1) in
    let long : length s.spare.items ≡ length c.pop.new.self.items + 1 = ap length items ∙ length-append c.pop.new.self.items (c.in-Some.ports ∷ []) in
    subst (λ (n : ℕ). IfSome c.insert.result (λ place. IsPrepared t c.insert.new.self place n)) c.over.ensures.number
    (c.insert.ensures.prepared new world (
      (fewer t s.sessions s.entries.items s.closed.items s.spare.items c.pop.new.self.items c.in-Some.ports items world made.0, fewer_spare t s.sessions s.ready s.behind s.written (length s.spare.items) (length c.pop.new.self.items) (omega (arith, long)) made.1),
      omega (arith, made.1.fits, long),
    ))

pub returns-in_default-clause-winds : goal.returns-in_default-clause-winds
returns-in_default-clause-winds g c = c.make_place.ensures.winds

pub returns-clause-winds : goal.returns-clause-winds
returns-clause-winds g c = put_beside g.S.Stream.tells c.insert.result c.args.self.now.sessions c.make_place.new.self.sessions c.insert.new.self.sessions c.make_place.ensures.winds c.insert.ensures.puts

pub returns-clause-turns : goal.returns-clause-turns
returns-clause-turns g c = same_turns_on c.args.self.now c.make_place.new.self c.insert.new.self c.make_place.ensures.turns (record { ready = c.insert.ensures.turns.ready; behind = c.insert.ensures.turns.behind; entries = c.insert.ensures.turns.entries })

pub returns-clause-none : goal.returns-clause-none
returns-clause-none g c = λ world told none room.
    let s = c.make_place.new.self in
    let made = c.make_place.ensures.keeps world told in
    let long : length s.spare.items ≡ length c.pop.new.self.items + 1 = ap length c.in-Some.ensures.items ∙ length-append c.pop.new.self.items (c.in-Some.ports ∷ []) in
    absurd (c.insert.ensures.full none (omega (arith, made.1.fits, long)))

pub returns-in_default-clause-below : goal.returns-in_default-clause-below
returns-in_default-clause-below g c = c.make_place.ensures.below

pub returns-clause-below : goal.returns-clause-below
returns-clause-below g c =
    let a = c.args.self.now.sessions in
    let b = c.insert.new.self.sessions in
    subst (λ (k : ℕ). StayBelowBeside k c.insert.result a b) c.over.ensures.number (then_beside c.over.result.number c.insert.result a c.make_place.new.self.sessions b c.make_place.ensures.below c.insert.ensures.below)

pub returns-in_default-clause-stepped : goal.returns-in_default-clause-stepped
returns-in_default-clause-stepped g c = c.make_place.ensures.stepped

pub returns-clause-stepped : goal.returns-clause-stepped
returns-clause-stepped g c = λ stepped. puts_stepped c.insert.result c.make_place.new.self.sessions c.insert.new.self.sessions (c.make_place.ensures.stepped stepped) c.insert.ensures.puts
