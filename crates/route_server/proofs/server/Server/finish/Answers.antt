use Rattle.std.proofs.Common.{◌∷◌, [], length, refl, ap, ◌∙◌, subst, sym}
use Rattle.std.proofs.lemmas.Option.{slice_get_read}
use Rattle.route_server.proofs.Ordering.{counted_one, rose_at}
use Rattle.std.specs.List.{slice_get}
use Rattle.route_server.specs.Saying.{Ended}
use Rattle.route_server.specs.Serving.{Entry, HaveTargets}
use Rattle.route_server.proofs.Places.{some_same, targets_without}
use Rattle.route_server.proofs.Calls.{finished, closing_writes, line_ends, fault_by, written_by}
use Rattle.route_server.proofs.server.Server.finish.Goals as goal

pub returns-clause-ends : goal.returns-clause-ends
returns-clause-ends g c = line_ends c.tell_behind.result c.after_line.result _ _ c.after_line.ensures.all c.after_line.ensures.failed

pub returns-clause-cause : goal.returns-clause-cause
returns-clause-cause g c = fault_by c.tell_behind.result c.after_line.result _ c.after_line.ensures.all c.tell_behind.ensures.cause

pub returns-clause-written : goal.returns-clause-written
returns-clause-written g c = written_by c.tell_behind.result c.after_line.result c.after_line.ensures.all c.after_line.ensures.failed

pub returns-clause-goes : goal.returns-clause-goes
returns-clause-goes g c =
    let k = c.number-number.result in
    let o = c.args.outcome in
    let held = c.args.self.now.sessions.items in
    let counts = g.M.Fan.counts in
    let was = slice_get_read held (length held) c.args.at c.index.result.now refl c.requires.within c.index.ensures in
    λ set text from later counted. record {
      more = Ended k o ∷ [];
      writes = (
        (λ e got. (c.number-number.ensures ∙ ap (λ (x : Entry). x.number) (some_same (slice_get held c.args.at) c.index.result.now e was got), tt)),
        closing_writes text c.args.wrote c.tell_behind.result c.after_line.result k o _ _ c.after_line.ensures.all c.after_line.ensures.failed c.tell_behind.ensures.line,
      );
      counted = counted_one from (counts c.close.new.self) k o (λ x is. rose_at from (counts c.args.fan.now) (counts c.close.new.self) k c.index.result.now.number x c.number-number.ensures c.close.ensures.later (counted c.index.result.now x was is));
      keeps = λ begun past. finished set begun c.args.self.now.spent held c.remove.new.self.items past c.args.at k c.index.result.now o c.tell_behind.result c.after_line.result _ _ c.after_line.ensures.all c.after_line.ensures.failed was c.number-number.ensures c.remove.ensures.items c.close.ensures.leads;
    }

pub returns-clause-served : goal.returns-clause-served
returns-clause-served g c = λ n have. subst (λ xs. HaveTargets n xs) (sym c.remove.ensures.items) (targets_without n c.args.self.now.sessions.items c.args.at have c.requires.within)
