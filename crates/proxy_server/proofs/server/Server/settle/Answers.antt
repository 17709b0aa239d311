use Rattle.std.proofs.Common.{rules as found}
use Rattle.std.proofs.Common.{◌≡◌, ◌++◌, ◌+◌, [], length, subst, sym, refl, ap, ◌∙◌, arith, append_assoc, Err}
use Rattle.std.proofs.lemmas.List.{append-nil}
use Rattle.std.proofs.Math.ListN.{set as put}
use Rattle.std.proofs.lemmas.Option.{slice_get_read}
use Rattle.std.proofs.lemmas.List.{length-set}
use Rattle.std.specs.Io.KnownBytes.{Appends}
use Rattle.gate_io.proofs.Streams.{appends_none, appends_on}
use Rattle.refusal_teller.specs.Tells.{Writes}
use Rattle.refusal_teller.specs.Refused.{refusal_lines}
use Rattle.proxy_server.specs.declared.server.End.TheVariants as ends
use Rattle.proxy_server.specs.declared.turn_end.Turn.TheVariants as turn
use Rattle.proxy_server.specs.Matching.{Matches}
use Rattle.proxy_server.specs.Saying.{closings, heard_in, refusals, said_lines, AreOf}
use Rattle.proxy_server.specs.Serving.{Keeps}
use Rattle.proxy_server.specs.Working.{IsBusy, HasEndedAt}
use Rattle.proxy_server.specs.Steps.{Goes, outside}
use Rattle.proxy_server.proofs.Places.{get_put_same, get_within}
use Rattle.proxy_server.proofs.Sayings.{closings_on, refusals_close_none, lines_on}
use Rattle.proxy_server.proofs.Running.{later_on, later_not}
use Rattle.proxy_server.proofs.Telling.{turn_is}
use Rattle.proxy_server.proofs.Calls.{keeps_then, turned_settled, turned_more, turned_ended, goes_quietly, goes_behind, settled_goes, unwritten_goes, ended_goes, counted_at, failed_by, written_at}
use Rattle.proxy_server.proofs.server.Server.settle.Goals as goal

pub returns-in-Settled-clause-goes : goal.returns-in-Settled-clause-goes
returns-in-Settled-clause-goes g c =
    let tells = g.H.Hub.tells in
    let rules = g.J.Judge.rules in
    let moment = outside tells g.H.Hub.counts g.O.Sink.written g.O.Sink.faults in
    let text = g.L.RefusalLines.text c.args.lines.now in
    let i = c.turns.invariant in
    let at = c.args.at in
    let old = c.args.self.now in
    let held = c.turns.self.sessions.items in
    let spent = c.turns.self.spent in
    let call = c.turn_telling-turn in
    let e = c.index_mut.result.now in
    let e' = call.new.session in
    let was = slice_get_read held (length held) at e refl i.within c.index_mut.ensures.value in
    let turned = turn_is _ rules _ (tells c.turns.hub) (tells call.new.hub) (Matches _ rules e.session) (Matches _ rules e'.session) e.number e'.session call.result.0 turn.Settled c.in-Settled.is call.ensures.turned in
    λ set. goes_behind _ rules set text (moment c.args.hub.now c.args.output.now) (moment c.turns.hub c.turns.output) (moment call.new.hub call.new.output) (λ begun. IsBusy _ rules set begun old.spent at old.sessions.items) (λ begun. IsBusy _ rules set begun spent at held) spent (put held at e') c.after_turn.result i.told.0 i.told.1 i.told.2 i.later (i.told.3 set)
    (settled_goes _ rules set text (moment c.turns.hub c.turns.output) (moment call.new.hub call.new.output) (λ begun. IsBusy _ rules set begun spent at held) spent (put held at e') e.number at turned.0 call.result.1 c.after_turn.result c.after_turn.ensures.all c.after_turn.ensures.failed turned.1
    (λ begun past. turned_settled _ rules set begun spent held past turned.0 at e e' (tells c.turns.hub) (tells call.new.hub) was call.ensures.number call.ensures.same call.ensures.holds (turned.2 (heard_in past e.number))))

pub returns-in-Ended-clause-goes : goal.returns-in-Ended-clause-goes
returns-in-Ended-clause-goes g c =
    let tells = g.H.Hub.tells in
    let rules = g.J.Judge.rules in
    let counts = g.H.Hub.counts in
    let moment = outside tells counts g.O.Sink.written g.O.Sink.faults in
    let text = g.L.RefusalLines.text c.args.lines.now in
    let i = c.turns.invariant in
    let at = c.args.at in
    let old = c.args.self.now in
    let held = c.turns.self.sessions.items in
    let spent = c.turns.self.spent in
    let call = c.turn_telling-turn in
    let e = c.index_mut.result.now in
    let e' = call.new.session in
    let o = c.in-Ended.outcome in
    let was = slice_get_read held (length held) at e refl i.within c.index_mut.ensures.value in
    let turned = turn_is _ rules _ (tells c.turns.hub) (tells call.new.hub) (Matches _ rules e.session) (Matches _ rules e'.session) e.number e'.session call.result.0 (turn.Ended o) c.in-Ended.is call.ensures.turned in
    λ set.
    let f = c.finish.ensures.goes set text (counts c.turns.hub) call.ensures.later
    (counted_at _ held at e e' o (counts c.turns.hub) (counts c.turns.hub) (counts call.new.hub) was call.ensures.number (later_not _) (λ x is. call.ensures.cause x (c.in-Ended.is ∙ ap turn.Ended is))) in
    goes_behind _ rules set text (moment c.args.hub.now c.args.output.now) (moment c.turns.hub c.turns.output) (moment c.finish.new.hub c.finish.new.output) (λ begun. IsBusy _ rules set begun old.spent at old.sessions.items) (λ begun. IsBusy _ rules set begun spent at held) c.finish.new.self.spent c.finish.new.self.sessions.items c.finish.result i.told.0 i.told.1 i.told.2 i.later (i.told.3 set)
    (ended_goes _ rules set text (moment c.turns.hub c.turns.output) (moment call.new.hub call.new.output) (moment c.finish.new.hub c.finish.new.output) (counts c.turns.hub) (λ begun. IsBusy _ rules set begun spent at held) (λ begun. HasEndedAt _ rules set begun spent at o (put held at e')) c.finish.new.self.spent c.finish.new.self.sessions.items e.number turned.0 call.result.1 c.finish.result turned.1 refl
    (λ begun past. turned_ended _ rules set begun spent held past turned.0 at e e' o (tells c.turns.hub) (tells call.new.hub) was call.ensures.number call.ensures.same call.ensures.holds (turned.2 (heard_in past e.number)))
    (record {
      more = f.more;
      writes = (subst (λ k. AreOf k f.more) call.ensures.number (f.writes.0 e' (get_put_same held at e' (get_within held at e was))), f.writes.1);
      counted = f.counted;
      keeps = f.keeps;
    }))

pub returns-in_err-after_turn-clause-goes : goal.returns-in_err-after_turn-clause-goes
returns-in_err-after_turn-clause-goes g c =
    let is : c.from_residual.result ≡ Err c.in_err-after_turn.field-0.0 = search found in
    let tells = g.H.Hub.tells in
    let rules = g.J.Judge.rules in
    let written = g.O.Sink.written in
    let moment = outside tells g.H.Hub.counts written g.O.Sink.faults in
    let text = g.L.RefusalLines.text c.args.lines.now in
    let i = c.turns.invariant in
    let at = c.args.at in
    let old = c.args.self.now in
    let held = c.turns.self.sessions.items in
    let spent = c.turns.self.spent in
    let call = c.turn_telling-turn in
    let e = c.index_mut.result.now in
    let e' = call.new.session in
    let was = slice_get_read held (length held) at e refl i.within c.index_mut.ensures.value in
    let turned = turn_is _ rules _ (tells c.turns.hub) (tells call.new.hub) (Matches _ rules e.session) (Matches _ rules e'.session) e.number e'.session call.result.0 turn.More c.in-More.is call.ensures.turned in
    let why = failed_by call.result.1 _ c.in_err-after_turn.field-0.0 at refl c.in_err-after_turn.ensures.all c.in_err-after_turn.ensures.failed in
    let before = moment c.args.hub.now c.args.output.now in
    let mid = moment c.turns.hub c.turns.output in
    let after = moment call.new.hub call.new.output in
    λ set. subst (λ r. Goes _ rules set text before after (λ begun. IsBusy _ rules set begun old.spent at old.sessions.items) (spent + 1) (put held at e') r) (sym (is ∙ ap Err why.1))
    (goes_behind _ rules set text before mid after (λ begun. IsBusy _ rules set begun old.spent at old.sessions.items) (λ begun. IsBusy _ rules set begun spent at held) (spent + 1) (put held at e') (Err (ends.Unwritten at)) i.told.0 i.told.1 i.told.2 i.later (i.told.3 set)
    (unwritten_goes _ rules set text mid after (λ begun. IsBusy _ rules set begun spent at held) (spent + 1) (put held at e') e.number at turned.0 (subst (λ w. Writes w (written c.turns.output) (written call.new.output) (refusal_lines text e.number turned.0)) why.0 turned.1)
    (λ begun past. turned_more _ rules set begun spent held past turned.0 at e e' (tells c.turns.hub) (tells call.new.hub) was call.ensures.number call.ensures.same call.ensures.holds (turned.2 (heard_in past e.number)))))

pub returns-clause-goes : goal.returns-clause-goes
returns-clause-goes g c =
    let rules = g.J.Judge.rules in
    let moment = outside g.H.Hub.tells g.H.Hub.counts g.O.Sink.written g.O.Sink.faults in
    let text = g.L.RefusalLines.text c.args.lines.now in
    let i = c.turns.invariant in
    let at = c.args.at in
    let old = c.args.self.now in
    let held = c.turns.self.sessions.items in
    let spent = c.turns.self.spent in
    let now = moment c.turns.hub c.turns.output in
    λ set. goes_behind _ rules set text (moment c.args.hub.now c.args.output.now) now now (λ begun. IsBusy _ rules set begun old.spent at old.sessions.items) (λ begun. IsBusy _ rules set begun spent at held) spent held _ i.told.0 i.told.1 i.told.2 i.later (i.told.3 set)
    (goes_quietly _ rules set text now now (λ begun. IsBusy _ rules set begun spent at held) spent held _ (appends_none _) (λ begun past m tells s. (m, tells, s)))

pub turns-init : goal.turns-init
turns-init g c = record {
  limits = refl;
  room = refl;
  within = c.requires.within;
  told = ([], refl, appends_none _, λ set begun past m tells is. (m, tells, subst (λ xs. IsBusy _ g.J.Judge.rules set begun c.args.self.now.spent c.args.at c.args.self.now.sessions.items xs m) (sym (append-nil past)) is));
  output_later = omega arith;
  spent = omega arith;
  budget = c.requires.budget;
  later = later_not _;
  stays = refl;
  piece = c.requires.piece;
}

pub turns-preserved : goal.turns-preserved
turns-preserved g c =
    let tells = g.H.Hub.tells in
    let rules = g.J.Judge.rules in
    let written = g.O.Sink.written in
    let text = g.L.RefusalLines.text c.args.lines.now in
    let i = c.turns.invariant in
    let at = c.args.at in
    let old = c.args.self.now in
    let held = c.turns.self.sessions.items in
    let spent = c.turns.self.spent in
    let call = c.turn_telling-turn in
    let e = c.index_mut.result.now in
    let e' = call.new.session in
    let was = slice_get_read held (length held) at e refl i.within c.index_mut.ensures.value in
    let turned = turn_is _ rules _ (tells c.turns.hub) (tells call.new.hub) (Matches _ rules e.session) (Matches _ rules e'.session) e.number e'.session call.result.0 turn.More c.in-More.is call.ensures.turned in
    let added = turned.0 in
    let lines : Appends (written c.turns.output) (written call.new.output) (said_lines text (refusals e.number added)) =
    written_at text e.number at added call.result.1 c.after_turn-in-turns.result _ _ c.after_turn-in-turns.ensures.all c.after_turn-in-turns.ensures.failed (search found) turned.1 in
    record {
      limits = i.limits;
      room = call.ensures.room ∙ i.room;
      within = omega (arith, i.within, length-set held at e');
      told = (
        i.told.0 ++ refusals e.number added,
        closings_on i.told.0 (refusals e.number added) ∙ (ap (λ cs. cs ++ closings (refusals e.number added)) i.told.1 ∙ refusals_close_none e.number added),
        subst (λ xs. Appends (written c.args.output.now) (written call.new.output) xs) (sym (lines_on text i.told.0 (refusals e.number added))) (appends_on (written c.args.output.now) (written c.turns.output) (written call.new.output) (said_lines text i.told.0) (said_lines text (refusals e.number added)) i.told.2 lines),
        (λ set begun past.
            subst (λ xs. Keeps (tells c.args.hub.now) (tells call.new.hub) (IsBusy _ rules set begun old.spent at old.sessions.items past) (IsBusy _ rules set begun (spent + 1) at (put held at e') xs)) (append_assoc past i.told.0 (refusals e.number added))
            (keeps_then (tells c.args.hub.now) (tells c.turns.hub) (tells call.new.hub) (IsBusy _ rules set begun old.spent at old.sessions.items past) (IsBusy _ rules set begun spent at held (past ++ i.told.0)) (IsBusy _ rules set begun (spent + 1) at (put held at e') ((past ++ i.told.0) ++ refusals e.number added)) (i.told.3 set begun past)
            (turned_more _ rules set begun spent held (past ++ i.told.0) added at e e' (tells c.turns.hub) (tells call.new.hub) was call.ensures.number call.ensures.same call.ensures.holds (turned.2 (heard_in (past ++ i.told.0) e.number))))),
      );
      output_later = omega (arith, i.output_later, call.ensures.output_later);
      spent = omega (arith, i.spent);
      budget = omega (arith, c.turns-test.true);
      later = later_on _ _ _ i.later call.ensures.later;
      stays = call.ensures.kept ∙ i.stays;
      piece = call.ensures.piece;
    }
