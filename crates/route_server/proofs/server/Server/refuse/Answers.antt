use Rattle.std.proofs.Common.{◌∷◌, [], length, subst, sym, ℕ}
use Rattle.route_server.specs.Saying.{Ended}
use Rattle.route_server.specs.Steps.{IsRefusedAs}
use Rattle.route_server.proofs.Ordering.{counted_one}
use Rattle.route_server.proofs.Calls.{refused, refused_alone, line_writes, line_ends, write_fault_by, written_by}
use Rattle.route_server.proofs.server.Server.refuse.Goals as goal

pub returns-clause-ends : goal.returns-clause-ends
returns-clause-ends g c = line_ends c.tell.result c.after_line.result _ _ c.after_line.ensures.all c.after_line.ensures.failed

pub returns-clause-written : goal.returns-clause-written
returns-clause-written g c = written_by c.tell.result c.after_line.result c.after_line.ensures.all c.after_line.ensures.failed

pub returns-clause-cause : goal.returns-clause-cause
returns-clause-cause g c = write_fault_by c.tell.result c.after_line.result _ _ c.after_line.ensures.all c.tell.ensures.cause

pub returns-clause-goes : goal.returns-clause-goes
returns-clause-goes g c =
    let k = c.args.number in
    let o = c.args.outcome in
    let held = c.args.self.now.sessions.items in
    let counts = g.M.Fan.counts in
    λ set text same.
    let why = subst (λ (n : ℕ). IsRefusedAs o (length held) n) (sym same) c.requires.outcome in
    record {
      more = Ended k o ∷ [];
      writes = line_writes text c.tell.result c.after_line.result k o _ _ c.after_line.ensures.all c.after_line.ensures.failed c.tell.ensures.line;
      counted = counted_one (counts c.args.fan.now) (counts c.close.new.self) k o (λ x is. absurd (refused_alone (length held) set.sessions o x why is));
      keeps = λ begun past. refused set begun c.args.self.now.spent held past k o c.tell.result c.after_line.result _ _ c.after_line.ensures.all c.after_line.ensures.failed why c.close.ensures.leads;
    }
