use Rattle.std.proofs.Common.{rules, ◌≡◌, suc, ◌+◌, ◌<◌, inl, [], ◌≤◌, length, take, subst, sym, refl, ap, ◌∙◌, arith}
use Rattle.std.specs.List.{slice_get}
use Rattle.std.proofs.lemmas.List.{take_all}
use Rattle.gate_io.specs.declared.writing.Wrote.TheVariants as wrote
use Rattle.route_server.specs.Serving.{Keeps, left_lines}
use Rattle.refusal_teller.specs.Tells.{Writes}
use Rattle.route_server.specs.Steps.{Leaves}
use Rattle.route_server.proofs.Places.{get_some}
use Rattle.route_server.proofs.Running.{later_on, later_not}
use Rattle.gate_io.proofs.Streams.{appends_none}
use Rattle.route_server.proofs.Calls.{keeps_then, left_more, left_on, cause_on}
use Rattle.route_server.proofs.server.Server.leave.Goals as goal

pub leaving-init : goal.leaving-init
leaving-init g c = record {
  kept = refl;
  room = refl;
  within = omega arith;
  lines = λ all. subst (λ w. Writes w (g.O.Sink.written c.args.output.now) (g.O.Sink.written c.args.output.now) []) (sym all) (appends_none _);
  none = λ f. (f, refl);
  keeps = λ set begun spent past busy last calls m tells s. (m, tells, s);
  later = later_not _;
  output_later = omega arith;
  cause = λ f. inl f;
  stays = refl;
}

pub leaving-preserved : goal.leaving-preserved
leaving-preserved g c =
    let tells = g.M.Fan.tells in
    let written = g.O.Sink.written in
    let i = c.leaving.invariant in
    let held = c.args.self.now.sessions.items in
    let at = c.leaving.at in
    let same = ap (λ v. v.items) i.kept in
    let all : c.len.result ≡ length c.leaving.self.sessions.items = search rules in
    let within : at < length c.leaving.self.sessions.items = omega (arith, c.leaving-test.true, all) in
    let e = get_some c.leaving.self.sessions.items at within in
    let next : suc at ≡ at + 1 = omega arith in
    record {
      kept = c.leave_at-wrote.ensures.same.0 ∙ i.kept;
      room = c.leave_at-wrote.ensures.same.1 ∙ i.room;
      within = omega (arith, within, ap length same);
      lines = λ all. subst (λ k. Writes c.leave_at-wrote.result (written c.args.output.now) (written c.leave_at-wrote.new.output) (left_lines (take k held))) next
          (subst (λ xs. Writes c.leave_at-wrote.result (written c.args.output.now) (written c.leave_at-wrote.new.output) xs) (sym (left_more held at e.0 (ap (λ xs. slice_get xs at) (sym same) ∙ e.1)))
          (left_on c.leaving.wrote c.leave_at-wrote.result (written c.args.output.now) (written c.leaving.output) (written c.leave_at-wrote.new.output) _ _ (λ w. c.leave_at-wrote.ensures.lines w e.0 e.1) (λ w. ((c.leave_at-wrote.ensures.none w).0, ap written (c.leave_at-wrote.ensures.none w).1)) (i.lines all)));
      none = λ f.
          let n = i.none f in
          let l = c.leave_at-wrote.ensures.none n.0 in
          (l.0, l.1 ∙ n.1);
      keeps = λ set begun spent past busy last calls. keeps_then (tells c.args.fan.now) (tells c.leaving.fan) (tells c.leave_at-wrote.new.fan) (Leaves set begun spent held past busy last calls 0) (Leaves set begun spent held past busy last calls at) (Leaves set begun spent held past busy last calls (at + 1)) (i.keeps set begun spent past busy last calls)
          (subst (λ xs. Keeps (tells c.leaving.fan) (tells c.leave_at-wrote.new.fan) (Leaves set begun spent xs past busy last calls at) (Leaves set begun spent xs past busy last calls (at + 1))) same (c.leave_at-wrote.ensures.keeps set begun spent past busy last calls));
      later = later_on _ _ _ i.later c.leave_at-wrote.ensures.later;
      output_later = omega (arith, i.output_later, c.leave_at-wrote.ensures.output_later);
      cause = λ f. cause_on (c.args.first ≡ wrote.Failed) (c.leaving.wrote ≡ wrote.Failed) _ _ _ i.cause i.output_later c.leave_at-wrote.ensures.output_later (c.leave_at-wrote.ensures.cause f);
      stays = c.leave_at-wrote.ensures.targets ∙ i.stays;
    }

pub returns-clause-lines : goal.returns-clause-lines
returns-clause-lines g c =
    let written = g.O.Sink.written in
    let i = c.leaving.invariant in
    let held = c.args.self.now.sessions.items in
    let whole : c.len.result ≡ length c.leaving.self.sessions.items = search rules in
    let past : length c.leaving.self.sessions.items ≤ c.leaving.at = omega (arith, c.leaving-test.false, whole) in
    λ all. subst (λ xs. Writes c.leaving.wrote (written c.args.output.now) (written c.leaving.output) (left_lines xs)) (take_all c.leaving.at held (omega (arith, past, ap (λ v. length v.items) i.kept))) (i.lines all)

pub returns-clause-keeps : goal.returns-clause-keeps
returns-clause-keeps g c =
    let tells = g.M.Fan.tells in
    let i = c.leaving.invariant in
    let held = c.args.self.now.sessions.items in
    let whole : c.len.result ≡ length c.leaving.self.sessions.items = search rules in
    let past : length c.leaving.self.sessions.items ≤ c.leaving.at = omega (arith, c.leaving-test.false, whole) in
    let end : c.leaving.at ≡ length held = omega (arith, past, i.within, ap (λ v. length v.items) i.kept) in
    λ set begun spent past busy last calls. subst (λ k. Keeps (tells c.args.fan.now) (tells c.leaving.fan) (Leaves set begun spent held past busy last calls 0) (Leaves set begun spent held past busy last calls k)) end (i.keeps set begun spent past busy last calls)
