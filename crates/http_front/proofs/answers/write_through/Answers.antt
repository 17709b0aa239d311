use Rattle.std.proofs.Common.{◌∙◌, refl, arith}
use Rattle.std.proofs.lemmas.Grind.{common_steps}
use Rattle.http_front.proofs.Counted.{later_on, later_same}
use Rattle.http_front.proofs.Handing.{sent_first, sent_more, sent_not_ready, sent_failed}
use Rattle.http_front.proofs.answers.write_through.Goals as goal

pub writes-init : goal.writes-init
writes-init g c = record {
  within = omega arith;
  goes = sent_first (g.H.Hub.tells c.args.inner.now) c.args.k c.args.bytes.now;
  later = later_same (g.H.Hub.counts c.args.inner.now);
  kept = refl;
}

pub writes-preserved : goal.writes-preserved
writes-preserved g c =
    let tells = g.H.Hub.tells in
    let i = c.writes.invariant in
    record {
      within = omega (arith, c.if-sent-least.false);
      goes = sent_more (tells c.args.inner.now) (tells c.writes.inner) (tells c.write.new.self) c.args.k c.args.bytes.now c.writes.sent c.in-Took.count i.goes c.in-Took.ensures.leads;
      later = later_on _ _ _ i.later c.in-Took.ensures.later;
      kept = c.in-Took.ensures.kept ∙ i.kept;
    }

pub returns-then-sent-least-clause-goes : goal.returns-then-sent-least-clause-goes
returns-then-sent-least-clause-goes g c =
    let tells = g.H.Hub.tells in
    sent_more (tells c.args.inner.now) (tells c.writes.inner) (tells c.write.new.self) c.args.k c.args.bytes.now c.writes.sent c.in-Took.count c.writes.invariant.goes c.in-Took.ensures.leads

pub returns-in-NotReady-clause-goes : goal.returns-in-NotReady-clause-goes
returns-in-NotReady-clause-goes g c =
    let tells = g.H.Hub.tells in
    sent_not_ready (tells c.args.inner.now) (tells c.writes.inner) (tells c.write.new.self) c.args.k c.args.bytes.now _ c.writes.sent c.writes.invariant.goes c.in-NotReady.ensures.leads

pub returns-in-Failed-clause-goes : goal.returns-in-Failed-clause-goes
returns-in-Failed-clause-goes g c =
    let tells = g.H.Hub.tells in
    sent_failed (tells c.args.inner.now) (tells c.writes.inner) (tells c.write.new.self) c.args.k c.args.bytes.now _ c.writes.sent c.writes.invariant.goes c.in-Failed.ensures.leads

pub returns-then-sent-least-clause-kept : goal.returns-then-sent-least-clause-kept
returns-then-sent-least-clause-kept g c = grind (arith, common_steps)

pub returns-in-NotReady-clause-kept : goal.returns-in-NotReady-clause-kept
returns-in-NotReady-clause-kept g c = grind (arith, common_steps)

pub returns-in-Failed-clause-kept : goal.returns-in-Failed-clause-kept
returns-in-Failed-clause-kept g c = grind (arith, common_steps)
