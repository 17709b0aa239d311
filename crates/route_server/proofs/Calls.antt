-- What the calls of a server lead to, wherever it stands.
use Rattle.std.proofs.Common.{◌≡◌, ◌≢◌, ℕ, zero, suc, ◌+◌, ◌<◌, ◌≤◌, ◌⊎◌, inl, inr, List, [], ◌∷◌, ◌++◌, length, take, Option, None, Some, Result, Ok, Err, Bool, true, false, true≢false, arith, ap, sym, ◌∙◌, subst, refl, append_assoc, length-append}
use Rattle.std.proofs.lemmas.List.{append-nil, length-set}
use Rattle.std.proofs.lemmas.List.Edits.{length-remove}
use Rattle.std.proofs.Math.Seq.{take-append-add}
use Rattle.std.specs.Io.KnownBytes.{Appends}
use Rattle.std.specs.Prelude.{⊤}
use Rattle.std.specs.List.{slice_get, remove}
use Rattle.std.proofs.Math.ListN.{set as put}
use Rattle.gate_fan.specs.Meaning.{Told, FanCall, Closed, Meaning, IsOpen}
use Rattle.gate_fan.specs.Fans.{Counts, Later, Leads, Changes, Closes, Answers, HasStarted, NextLeads}
use Rattle.gate_base.specs.Causes.{Rose}
use Rattle.gate_hub.specs.declared.hub.Served.{Served}
use Rattle.gate_hub.specs.declared.hub.Served.TheVariants as served
use Rattle.gate_hub.specs.declared.hub.HubNext.{HubNext}
use Rattle.gate_hub.specs.declared.hub.HubNext.TheVariants as event
use Rattle.service_router.specs.Rules.{RouteRules}
use Rattle.service_router.specs.Standing.{Standing, History}
use Rattle.service_router.specs.Router.{Seen, HoldsWithin, IsSame, rules_in}
use Rattle.session_core.specs.Notes.{Note}
use Rattle.service_router.specs.Telling.{FitsTold}
use Rattle.service_router.specs.Steps.{outcome_of}
use Rattle.service_router.specs.Ends.{is_own}
use Rattle.service_router.specs.declared.outcome.RouteOutcome.{RouteOutcome}
use Rattle.service_router.specs.declared.outcome.RouteOutcome.TheVariants as outcome
use Rattle.route_server.specs.Matching.{Matches}
use Rattle.route_server.specs.Lines.{line_text}
use Rattle.gate_io.specs.Fronts.{AppendsFront}
use Rattle.route_server.specs.Calling.{closings_of, EndsFailing}
use Rattle.route_server.specs.Turning.{HasFailed, IsSettled, Goes, TurnDoes, amount, long_turn, EndsBy, ByLink, ByRouter, EndsAs, GoesOn}
use Rattle.route_server.specs.declared.turn_end.RouteTurn.TheVariants as turn
use Rattle.gate_io.specs.declared.writing.Wrote.{Wrote}
use Rattle.gate_io.specs.declared.writing.Wrote.TheVariants as wrote
use Rattle.route_server.specs.declared.server.End.{End}
use Rattle.route_server.specs.declared.server.End.TheVariants as ends
use Rattle.refusal_teller.specs.Tells.{Writes, WritesBehind}
use Rattle.refusal_teller.specs.Refused.{refusal_lines}
use Rattle.route_server.specs.Saying.{Said, Ended, closings, heard_in, InOrder, refusals, AreOf, said_lines}
use Rattle.route_server.proofs.Sayings.{closings_on, closings_kept, closings_more, refusals_close_none, in_order_more, in_order_ended, are_of_refusals, are_of_on, lines_on, refused_lines}
use Rattle.route_server.specs.Serving.{Setting, Entry, IsHeld, IsOutcome, LinkFailed, OfItself, IsRising, Stands, no_more, Keeps, IsFresh, EndsOn, SpendsBy, is_over, left_line, left_lines, ended_numbers, held_numbers, IsClosedInOrder, IsJustClosed, AreCounted}
use Rattle.route_server.specs.Working.{IsAtWork, Waits, HasWaited, IsBusy, IsNamed, HasEndedAt, Awaits}
use Rattle.route_server.specs.Steps.{IsRefusedAs, WasCounted, StepEnds, Outside, WorkEnds, StepWrites, ClosingWrites, EndedTo, LastLinesFail, GoesBy, AreUnfailed, closing_calls, Leaves, LinesEnd, AllLines, LastOfWork, LastOfTurn, LeftOpen, MayBeUnsettled, IsSpent, IsUnwritten, WritesLines, ServedWrites, AnswersLines, IsLeft, Ending, Serves, first_wrote, served_by, Goes as StepGoes}
use Rattle.route_server.specs.Spending.{moved_of}
use Rattle.route_server.proofs.Places.{decide, some_same, get_put_same, put_as_it_was, get_within, elsewhere}
use Rattle.gate_io.proofs.Streams.{appends_none, appends_on, then_front, front_of_more}
use Rattle.route_server.proofs.Ordering.{order_kept, order_left, closing_more, all_left, ends_failing_on, just_closed, counted_none, counted_wider, counted_both}
use Rattle.route_server.proofs.Running.{later_not}
use Rattle.route_server.proofs.Tallies.{tally_none, tally_on, turned_work, long_work, closed_tally, ended_work, ended_full, refused_full}
use Rattle.route_server.proofs.Standing.{changes, same_all, is_quiet, closed_calm, removes, refuses, said_end, announces, names, turns_on, was_failed, at_place}

pub keeps_then : (told told' told'' P Q R : Meaning → Type 0) → Keeps told told' P Q → Keeps told' told'' Q R → Keeps told told'' P R
keeps_then told told' told'' P Q R p q = λ m tells is.
    let first = p m tells is in
    q first.0 first.1 first.2

pub keeps_on : (told told' P Q R : Meaning → Type 0) → Keeps told told' P Q → ((m : Meaning) → Q m → R m) → Keeps told told' P R
keeps_on told told' P Q R p by = λ m tells is.
    let first = p m tells is in
    (first.0, first.1, by first.0 first.2)

-- a list that was written at a place is as long as before
same_count : (begun : Meaning) (set : Setting) (spent : ℕ) (held : List Entry) (past : List Said) (k : ℕ) (added : List Note) (at : ℕ) (e : Entry) (m : Meaning) → IsAtWork begun set spent (length held) (closings past) m → IsAtWork begun set spent (length (put held at e)) (closings (past ++ refusals k added)) m
same_count begun set spent held past k added at e m w =
    subst (λ cs. IsAtWork begun set spent (length (put held at e)) cs m) (sym (closings_kept past k added))
    (subst (λ n. IsAtWork begun set spent n (closings past) m) (sym (length-set held at e)) w)

-- of a session that is open more is said in order
order_of : (set : Setting) (held : List Entry) (past : List Said) (added : List Note) (at : ℕ) (e : Entry) (m : Meaning) → slice_get held at ≡ Some e → Stands set no_more held (closings past) (heard_in past) at 0 m → InOrder past → InOrder (past ++ refusals e.number added)
order_of set held past added at e m was s order = in_order_more past e.number added (λ i c got. s.apart i at c e got was) order

pub turned_settled : (set : Setting) (begun : Meaning) (spent : ℕ) (held : List Entry) (past : List Said) (added : List Note) (at : ℕ) (e e' : Entry) (told told' : Meaning → Type 0) → slice_get held at ≡ Some e → e'.number ≡ e.number → IsSame e.router e'.router → HoldsWithin e'.router → Goes told told' (Matches e.router (heard_in past e.number)) (Matches e'.router (heard_in past e.number ++ added)) e.number (TurnDoes e.number e'.router turn.Settled) → Keeps told told' (IsBusy set begun spent at held past) (Waits set begun spent (put held at e') (past ++ refusals e.number added))
turned_settled set begun spent held past added at e e' told told' was number same holds goes = λ m tells b.
    let s = b.stands in
    let h = s.each at e was in
    let g = goes m tells (h.announced, s.is_open at e was (omega arith)) h.matches in
    let does = g.3.session in (
      g.0,
      g.1,
      record {
        stands = is_quiet set (put held at e') (closings (past ++ refusals e.number added)) (heard_in (past ++ refusals e.number added)) at _ 0 g.0 (turns_on set held past added at e e' _ m g.0 was number same holds s g.2 does.0 g.3)
            (λ d got. at_place held at e e' d (λ u t. IsSettled u t) g.0 was number does.2 got)
            (λ d got. at_place held at e e' d (λ u t. (x : ℕ) → HasFailed x t → ⊥) g.0 was number (λ x f. b.unfailed e was x (was_failed _ _ does.1 x f)) got);
        in_order = order_of set held past added at e m was s b.in_order;
        work = same_count begun set spent held past e.number added at e' g.0 (turned_work begun set spent (length held) (closings past) e.number _ m g.0 b.work h.announced does.0 g.3);
      },
    )

pub turned_more : (set : Setting) (begun : Meaning) (spent : ℕ) (held : List Entry) (past : List Said) (added : List Note) (at : ℕ) (e e' : Entry) (told told' : Meaning → Type 0) → slice_get held at ≡ Some e → e'.number ≡ e.number → IsSame e.router e'.router → HoldsWithin e'.router → Goes told told' (Matches e.router (heard_in past e.number)) (Matches e'.router (heard_in past e.number ++ added)) e.number (TurnDoes e.number e'.router turn.More) → Keeps told told' (IsBusy set begun spent at held past) (IsBusy set begun (spent + 1) at (put held at e') (past ++ refusals e.number added))
turned_more set begun spent held past added at e e' told told' was number same holds goes = λ m tells b.
    let s = b.stands in
    let h = s.each at e was in
    let g = goes m tells (h.announced, s.is_open at e was (omega arith)) h.matches in
    let does = g.3.session in (
      g.0,
      g.1,
      record {
        stands = turns_on set held past added at e e' _ m g.0 was number same holds s g.2 does.0 g.3;
        going = λ d got. at_place held at e e' d (λ u t. u.outcome ≡ None) g.0 was number does.3 got;
        unfailed = λ d got. at_place held at e e' d (λ u t. (x : ℕ) → HasFailed x t → ⊥) g.0 was number (λ x f. b.unfailed e was x (was_failed _ _ does.1 x f)) got;
        in_order = order_of set held past added at e m was s b.in_order;
        work = same_count begun set (spent + 1) held past e.number added at e' g.0 (long_work begun set spent (length held) (closings past) e.number _ m g.0 b.work h.announced does.0 (subst (λ (n : ℕ). amount n (m.session e.number) + long_turn ≤ amount n (g.0.session e.number)) (same.targets ∙ h.targets) does.2) g.3);
      },
    )

fits_at : (set : Setting) (rules : RouteRules) (limit max_calls : ℕ) (h : History) (notes : List Note) (s : Standing) → rules ≡ set.rules → limit ≡ set.limit → max_calls ≡ set.max_calls → FitsTold rules limit max_calls h notes s → FitsTold set.rules set.limit set.max_calls h notes s
fits_at set rules limit max_calls h notes s a b d fits =
    subst (λ (r : RouteRules). FitsTold r set.limit set.max_calls h notes s) a (subst (λ (k : ℕ). FitsTold rules k set.max_calls h notes s) b (subst (λ (k : ℕ). FitsTold rules limit k h notes s) d fits))

outcome_at : (set : Setting) (rules : RouteRules) (limit max_calls : ℕ) (s : Standing) → rules ≡ set.rules → limit ≡ set.limit → max_calls ≡ set.max_calls → outcome_of rules.judging limit max_calls s ≡ outcome_of set.rules.judging set.limit set.max_calls s
outcome_at set rules limit max_calls s a b d = ap (λ (r : RouteRules). outcome_of r.judging limit max_calls s) a ∙ (ap (λ (k : ℕ). outcome_of set.rules.judging k max_calls s) b ∙ ap (λ (k : ℕ). outcome_of set.rules.judging set.limit k s) d)

ends_so : (set : Setting) (router : Seen) (notes : List Note) (k : ℕ) (o : RouteOutcome) (made : List FanCall) (s t : Told) → IsHeld set router notes t → ((x : ℕ) → HasFailed x s → ⊥) → EndsBy k router.outcome o made s t → IsOutcome set o notes t
ends_so set router notes k o made s t h calm (ByLink x is last f others) = LinkFailed x router.standing is f (λ y other g. calm y (others y other g)) (fits_at set (rules_in router) router.limit router.max_calls _ _ _ h.judged h.limited h.calls h.matches.fits)
ends_so set router notes k o made s t h calm (ByRouter is own none) = OfItself router.standing (sym (outcome_at set (rules_in router) router.limit router.max_calls router.standing h.judged h.limited h.calls) ∙ (sym h.matches.rest.outcome_is ∙ is)) (λ x f. calm x (was_failed s t none x f)) (fits_at set (rules_in router) router.limit router.max_calls _ _ _ h.judged h.limited h.calls h.matches.fits)

abbrev is_link : RouteOutcome → Bool
is_link outcome.Clean = false
is_link (outcome.ClientFault n h) = false
is_link (outcome.UpstreamFault u n h) = false
is_link (outcome.UpstreamEnded u n) = false
is_link (outcome.Unsolicited u n calls) = false
is_link (outcome.LinkFault x) = true
is_link outcome.Full = false
is_link outcome.NoMemory = false

not_link : (x : ℕ) (o : RouteOutcome) → is_link o ≡ false → o ≡ outcome.LinkFault x → ⊥
not_link x o off is = absurd (true≢false (sym (ap is_link is) ∙ off))

opened_so : (k : ℕ) (ending : Option RouteOutcome) (o : RouteOutcome) (made : List FanCall) (s t : Told) → EndsBy k ending o made s t → o ≡ outcome.Full → ⊥
opened_so k ending o made s t (ByLink x is last f others) full = absurd (differ (sym is ∙ full))
  where
    differ : outcome.LinkFault x ≡ outcome.Full → ⊥
    differ e = absurd (cc)
opened_so k ending o made s t (ByRouter is own calm) full = absurd (true≢false (sym own ∙ ap is_own full))

-- a session that ended by a fault of a port made the call that failed last
broke_so : (k : ℕ) (ending : Option RouteOutcome) (o : RouteOutcome) (calls calls' made : List FanCall) (s t : Told) → calls' ≡ calls ++ made → EndsBy k ending o made s t → (x : ℕ) → o ≡ outcome.LinkFault x → EndsFailing k x calls'
broke_so k ending o calls calls' made s t e (ByLink y is last f others) x fault =
    let same : y ≡ x = same_port y x (sym is ∙ fault) in
    ends_failing_on k x calls calls' made e (subst (λ z. EndsFailing k z made) same last)
  where
    port_or : RouteOutcome → ℕ → ℕ
    port_or outcome.Clean d = d
    port_or (outcome.ClientFault n h) d = d
    port_or (outcome.UpstreamFault u n h) d = d
    port_or (outcome.UpstreamEnded u n) d = d
    port_or (outcome.Unsolicited u n c) d = d
    port_or (outcome.LinkFault z) d = z
    port_or outcome.Full d = d
    port_or outcome.NoMemory d = d

    same_port : (a b : ℕ) → outcome.LinkFault a ≡ outcome.LinkFault b → a ≡ b
    same_port a b q = ap (λ z. port_or z a) q
broke_so k ending o calls calls' made s t e (ByRouter is own calm) x fault = absurd (true≢false (sym own ∙ ap is_own fault))

pub turned_ended : (set : Setting) (begun : Meaning) (spent : ℕ) (held : List Entry) (past : List Said) (added : List Note) (at : ℕ) (e e' : Entry) (o : RouteOutcome) (told told' : Meaning → Type 0) → slice_get held at ≡ Some e → e'.number ≡ e.number → IsSame e.router e'.router → HoldsWithin e'.router → Goes told told' (Matches e.router (heard_in past e.number)) (Matches e'.router (heard_in past e.number ++ added)) e.number (TurnDoes e.number e'.router (turn.Ended o)) → Keeps told told' (IsBusy set begun spent at held past) (HasEndedAt set begun spent at o (put held at e') (past ++ refusals e.number added))
turned_ended set begun spent held past added at e e' o told told' was number same holds goes = λ m tells b.
    let s = b.stands in
    let h = s.each at e was in
    let g = goes m tells (h.announced, s.is_open at e was (omega arith)) h.matches in
    let does = g.3.session in
    let stands = turns_on set held past added at e e' _ m g.0 was number same holds s g.2 does.0 g.3 in (
      g.0,
      g.1,
      record {
        stands = stands;
        why = λ d got. subst (λ (f : Entry). IsOutcome set o (heard_in (past ++ refusals e.number added) f.number) (g.0.session f.number)) (some_same (slice_get (put held at e') at) e' d (get_put_same held at e' (get_within held at e was)) got)
            (ends_so set e'.router (heard_in (past ++ refusals e.number added) e'.number) e.number o g.3.made (m.session e.number) (g.0.session e'.number) (stands.each at e' (get_put_same held at e' (get_within held at e was))) (b.unfailed e was)
            (subst (λ k. EndsBy e.number e'.router.outcome o g.3.made (m.session e.number) (g.0.session k)) (sym number) does.1));
        broke = λ d x got is. subst (λ k. EndsFailing k x g.0.calls) (sym (ap (λ (f : Entry). f.number) (sym (some_same (slice_get (put held at e') at) e' d (get_put_same held at e' (get_within held at e was)) got)) ∙ number))
            (broke_so e.number e'.router.outcome o m.calls g.0.calls g.3.made (m.session e.number) (g.0.session e.number) g.3.calls does.1 x is);
        opened = opened_so e.number e'.router.outcome o g.3.made (m.session e.number) (g.0.session e.number) does.1;
        in_order = order_of set held past added at e m was s b.in_order;
        work = same_count begun set spent held past e.number added at e' g.0 (turned_work begun set spent (length held) (closings past) e.number _ m g.0 b.work h.announced does.0 g.3);
      },
    )

-- ---- what the calls of the server do

-- where the work goes on once a line was written, or ends where it could not be
pub line_ends : (w : Wrote) (r : Result ⊤ End) (spent events : ℕ) → (w ≡ wrote.All → (x : ⊤) × (r ≡ Ok x)) → (w ≡ wrote.Failed → r ≡ Err ends.WriteFault) → WorkEnds r spent events
line_ends wrote.All r spent events a b = subst (λ q. WorkEnds q spent events) (sym (a refl).1) tt
line_ends wrote.Failed r spent events a b = subst (λ q. WorkEnds q spent events) (sym (b refl)) tt

pub write_fault_by : (w : Wrote) (r : Result ⊤ End) (f g : ℕ) → (w ≡ wrote.All → (x : ⊤) × (r ≡ Ok x)) → (w ≡ wrote.Failed → Rose f g) → r ≡ Err ends.WriteFault → Rose f g
write_fault_by wrote.All r f g a b is = absurd (other (a refl).0 (sym (a refl).1 ∙ is))
  where
    other : (x : ⊤) → Ok x ≡ Err ends.WriteFault → ⊥
    other x e = absurd (cc)
write_fault_by wrote.Failed r f g a b is = b refl

-- a fault is told where a line could not be written
pub fault_by : (w : Wrote) (r : Result ⊤ End) (Cause : Type 0) → (w ≡ wrote.All → (x : ⊤) × (r ≡ Ok x)) → (w ≡ wrote.Failed → Cause) → r ≡ Err ends.WriteFault → Cause
fault_by wrote.All r Cause a b is = absurd (other (a refl).0 (sym (a refl).1 ∙ is))
  where
    other : (x : ⊤) → Ok x ≡ Err ends.WriteFault → ⊥
    other x e = absurd (cc)
fault_by wrote.Failed r Cause a b is = b refl

pub written_by : (w : Wrote) (r : Result ⊤ End) → (w ≡ wrote.All → (x : ⊤) × (r ≡ Ok x)) → (w ≡ wrote.Failed → r ≡ Err ends.WriteFault) → (at : ℕ) → r ≡ Err (ends.Unwritten at) → ⊥
written_by wrote.All r a b at is = other (a refl).0 (sym (a refl).1 ∙ is)
  where
    other : (x : ⊤) → Ok x ≡ Err (ends.Unwritten at) → ⊥
    other x e = absurd (cc)
written_by wrote.Failed r a b at is = let e = sym (b refl) ∙ is in absurd (cc)

-- the same of a turn
pub unwritten_by : (w : Wrote) (r : Result ⊤ End) (at : ℕ) (Cause : Type 0) → (w ≡ wrote.All → (x : ⊤) × (r ≡ Ok x)) → (w ≡ wrote.Failed → r ≡ Err (ends.Unwritten at)) → (w ≡ wrote.Failed → Cause) → (k : ℕ) → r ≡ Err (ends.Unwritten k) → Cause
unwritten_by wrote.All r at Cause a b cause k is = absurd (other (a refl).0 (sym (a refl).1 ∙ is))
  where
    other : (x : ⊤) → Ok x ≡ Err (ends.Unwritten k) → ⊥
    other x e = absurd (cc)
unwritten_by wrote.Failed r at Cause a b cause k is = cause refl

one_line : (text : ℕ → Note → List ℕ) (k : ℕ) (o : RouteOutcome) → said_lines text (Ended k o ∷ []) ≡ line_text k (Some o)
one_line text k o = append-nil (line_text k (Some o))

-- the one line of a session that has ended
pub line_writes : (text : ℕ → Note → List ℕ) (w : Wrote) (r : Result ⊤ End) (k : ℕ) (o : RouteOutcome) (old new : Option (List ℕ)) → (w ≡ wrote.All → (x : ⊤) × (r ≡ Ok x)) → (w ≡ wrote.Failed → r ≡ Err ends.WriteFault) → Writes w old new (line_text k (Some o)) → StepWrites text r old new (Ended k o ∷ [])
line_writes text wrote.All r k o old new a b x =
    subst (λ q. StepWrites text q old new (Ended k o ∷ [])) (sym (a refl).1) (subst (λ (xs : List ℕ). Appends old new xs) (sym (one_line text k o)) x)
line_writes text wrote.Failed r k o old new a b x =
    subst (λ q. StepWrites text q old new (Ended k o ∷ [])) (sym (b refl))
    (record { before = []; late = Ended k o ∷ []; number = k; said_are = refl; late_are = (refl, tt); written = subst (λ (xs : List ℕ). AppendsFront old new xs) (sym (one_line text k o)) x })

-- the same where a line before it may not have been written
pub closing_writes : (text : ℕ → Note → List ℕ) (first w : Wrote) (r : Result ⊤ End) (k : ℕ) (o : RouteOutcome) (old new : Option (List ℕ)) → (w ≡ wrote.All → (x : ⊤) × (r ≡ Ok x)) → (w ≡ wrote.Failed → r ≡ Err ends.WriteFault) → WritesBehind first w old new (line_text k (Some o)) → ClosingWrites text first r old new (Ended k o ∷ [])
closing_writes text wrote.All w r k o old new a b x = line_writes text w r k o old new a b x
closing_writes text wrote.Failed w r k o old new a b x = (b x.0, x.1)

ended_to : (w : Wrote) (r : Result ⊤ End) (set : Setting) (begun : Meaning) (spent : ℕ) (held : List Entry) (past : List Said) (m : Meaning) → (w ≡ wrote.All → (x : ⊤) × (r ≡ Ok x)) → (w ≡ wrote.Failed → r ≡ Err ends.WriteFault) → Waits set begun spent held past m → IsJustClosed (closings past) m.calls → EndedTo r set begun spent held past m
ended_to wrote.All r set begun spent held past m a b x last = subst (λ q. EndedTo q set begun spent held past m) (sym (a refl).1) x
ended_to wrote.Failed r set begun spent held past m a b x last = subst (λ q. EndedTo q set begun spent held past m) (sym (b refl)) (x, last)

refused_by : (held sessions : ℕ) (o : RouteOutcome) → IsRefusedAs o held sessions → (o ≡ outcome.Full) ⊎ (o ≡ outcome.NoMemory)
refused_by held sessions o (inl full) = inl full.0
refused_by held sessions o (inr none) = inr none.0

pub refused : (set : Setting) (begun : Meaning) (spent : ℕ) (held : List Entry) (past : List Said) (k : ℕ) (o : RouteOutcome) (w : Wrote) (r : Result ⊤ End) (told told' : Meaning → Type 0) → (w ≡ wrote.All → (x : ⊤) × (r ≡ Ok x)) → (w ≡ wrote.Failed → r ≡ Err ends.WriteFault) → IsRefusedAs o (length held) set.sessions → Leads told told' (IsOpen k) (Changes k (Closed k) Closes) → Keeps told told' (Awaits set begun spent k held past) (EndedTo r set begun spent held (past ++ Ended k o ∷ []))
refused set begun spent held past k o w r told told' a b why leads = λ m tells awaits.
    let led = leads m tells (ap (λ (u : Told). u.announced) awaits.new, ap (λ (u : Told). u.closed) awaits.new) in
    let few = awaits.work.tally.few in
    let full = refused_full set held (closings past) (heard_in past) k o m awaits.stands awaits.above few why in
    let work = ended_work begun set spent (length held) (length held) (closings past) k o m led.0 awaits.work few full led.2 in (
      led.0,
      led.1,
      ended_to w r set begun spent held (past ++ Ended k o ∷ []) led.0 a b
          (record {
            stands = said_end set held past k o (length held) 0 led.0 (refuses set begun spent held past k o m led.0 awaits (refused_by (length held) set.sessions o why) led.2);
            work = subst (λ cs. IsAtWork begun set spent (length held) cs led.0) (sym (closings_more past k o)) work;
            in_order = in_order_ended past k o awaits.in_order;
          })
          (subst (λ cs. IsJustClosed cs led.0.calls) (sym (closings_more past k o)) (just_closed (closings past) k o m.calls led.0.calls led.2.calls)),
    )

pub finished : (set : Setting) (begun : Meaning) (spent : ℕ) (held held' : List Entry) (past : List Said) (at k : ℕ) (e : Entry) (o : RouteOutcome) (w : Wrote) (r : Result ⊤ End) (told told' : Meaning → Type 0) → (w ≡ wrote.All → (x : ⊤) × (r ≡ Ok x)) → (w ≡ wrote.Failed → r ≡ Err ends.WriteFault) → slice_get held at ≡ Some e → k ≡ e.number → held' ≡ remove held at → Leads told told' (IsOpen k) (Changes k (Closed k) Closes) → Keeps told told' (HasEndedAt set begun spent at o held past) (EndedTo r set begun spent held' (past ++ Ended k o ∷ []))
finished set begun spent held held' past at k e o w r told told' a b was number removed leads = λ m tells h.
    let s = h.stands in
    let led = leads m tells (ap (λ j. (m.session j).announced) number ∙ (s.each at e was).announced, ap (λ j. (m.session j).closed) number ∙ s.is_open at e was (omega arith)) in
    let few = h.work.tally.few in
    let full = ended_full set held (closings past) (heard_in past) at e o m s was h.opened few in
    let fewer : length (remove held at) ≤ set.sessions = omega (arith, few, length-remove held at (get_within held at e was)) in
    let change : Changes e.number (Closed e.number) Closes m led.0 = subst (λ j. Changes j (Closed j) Closes m led.0) number led.2 in
    let work = ended_work begun set spent (length held) (length (remove held at)) (closings past) e.number o m led.0 h.work fewer full change in (
      led.0,
      led.1,
      ended_to w r set begun spent held' (past ++ Ended k o ∷ []) led.0 a b
          (subst (λ xs. Waits set begun spent xs (past ++ Ended k o ∷ []) led.0) (sym removed)
          (subst (λ j. Waits set begun spent (remove held at) (past ++ Ended j o ∷ []) led.0) (sym number)
          (record {
            stands = said_end set (remove held at) past e.number o (length (remove held at)) 0 led.0 (removes set held (closings past) (heard_in past) at e o m led.0 was s (h.why e was) (λ x is. h.broke e x was is) change);
            work = subst (λ cs. IsAtWork begun set spent (length (remove held at)) cs led.0) (sym (closings_more past e.number o)) work;
            in_order = in_order_ended past e.number o h.in_order;
          })))
          (subst (λ cs. IsJustClosed cs led.0.calls) (sym (closings_more past k o)) (just_closed (closings past) k o m.calls led.0.calls led.2.calls)),
    )

-- a session that was not opened did not end by a fault of a port
pub refused_alone : (held sessions : ℕ) (o : RouteOutcome) (x : ℕ) → IsRefusedAs o held sessions → o ≡ outcome.LinkFault x → ⊥
refused_alone held sessions o x (inl full) is = not_link x outcome.Full refl (sym full.0 ∙ is)
refused_alone held sessions o x (inr none) is = not_link x outcome.NoMemory refl (sym none.0 ∙ is)

-- nothing was written
pub unwritten : (a b : Option (List ℕ)) → b ≡ a → Appends a b []
unwritten a b same = subst (λ (o : Option (List ℕ)). Appends a o []) (sym same) (appends_none a)

-- a fault of a port that a turn met was counted, for the session at its place
pub counted_at : (held : List Entry) (at : ℕ) (e e' : Entry) (o : RouteOutcome) (a b c : Counts) → slice_get held at ≡ Some e → e'.number ≡ e.number → Later a b → ((x : ℕ) → o ≡ outcome.LinkFault x → Rose (b.link_faults e.number x) (c.link_faults e.number x)) → WasCounted a c o (put held at e') at
counted_at held at e e' o a b c was number later rose = λ d x got is.
    let same : e' ≡ d = some_same (slice_get (put held at e') at) e' d (get_put_same held at e' (get_within held at e was)) got in
    let from = later.links e.number x in
    subst (λ (f : Entry). Rose (a.link_faults f.number x) (c.link_faults f.number x)) same
    (subst (λ k. Rose (a.link_faults k x) (c.link_faults k x)) (sym number) (omega (arith, from, rose x is)))

pub step_ends : (r : Result ⊤ End) (before spent events : ℕ) → WorkEnds r spent events → before < spent → StepEnds r before spent events
step_ends (Ok x) before spent events p less = less
step_ends (Err ends.Stopped) before spent events p less = absurd p
step_ends (Err ends.HubFault) before spent events p less = absurd p
step_ends (Err ends.WriteFault) before spent events p less = tt
step_ends (Err (ends.Unwritten at)) before spent events p less = tt
step_ends (Err (ends.Budget at)) before spent events p less = p

pub no_hub_fault : (X : Type 0) (r : Result ⊤ End) (spent events : ℕ) → WorkEnds r spent events → r ≡ Err ends.HubFault → X
no_hub_fault X r spent events p is = absurd (subst (λ q. WorkEnds q spent events) is p)

-- nothing was said on the way
pub goes_quietly : (set : Setting) (text : ℕ → Note → List ℕ) (a b : Outside) (Before : Meaning → List Said → Meaning → Type 0) (spent : ℕ) (held : List Entry) (r : Result ⊤ End) → StepWrites text r a.written b.written [] → ((begun : Meaning) (past : List Said) → Keeps a.told b.told (Before begun past) (EndedTo r set begun spent held past)) → StepGoes set text a b Before spent held r
goes_quietly set text a b Before spent held r writes keeps = record {
  more = [];
  writes = writes;
  counted = counted_none a.counts b.counts;
  keeps = λ begun past. subst (λ (xs : List Said). Keeps a.told b.told (Before begun past) (EndedTo r set begun spent held xs)) (sym (append-nil past)) (keeps begun past);
}

pub more_goes_on : (ending : Option RouteOutcome) → EndsAs ending turn.More → ending ≡ None
more_goes_on ending (GoesOn e) = e

-- the last of these lines failed, behind others that were written
last_behind : (text : ℕ → Note → List ℕ) (a b c : Option (List ℕ)) (xs ys : List Said) → Appends a b (said_lines text xs) → LastLinesFail text b c ys → LastLinesFail text a c (xs ++ ys)
last_behind text a b c xs ys p q = record {
  before = xs ++ q.before;
  late = q.late;
  number = q.number;
  said_are = ap (λ zs. xs ++ zs) q.said_are ∙ sym (append_assoc xs q.before q.late);
  late_are = q.late_are;
  written = (
    q.written.0,
    q.written.1,
    subst (λ (zs : List ℕ). Appends a c zs) (sym (ap (λ zs. zs ++ take q.written.0 (said_lines text q.late)) (lines_on text xs q.before) ∙ append_assoc (said_lines text xs) (said_lines text q.before) (take q.written.0 (said_lines text q.late))))
        (appends_on a b c (said_lines text xs) (said_lines text q.before ++ take q.written.0 (said_lines text q.late)) p q.written.2),
  );
}

pub writes_behind : (text : ℕ → Note → List ℕ) (r : Result ⊤ End) (a b c : Option (List ℕ)) (xs ys : List Said) → Appends a b (said_lines text xs) → StepWrites text r b c ys → StepWrites text r a c (xs ++ ys)
writes_behind text (Ok x) a b c xs ys p q = subst (λ (zs : List ℕ). Appends a c zs) (sym (lines_on text xs ys)) (appends_on a b c (said_lines text xs) (said_lines text ys) p q)
writes_behind text (Err ends.Stopped) a b c xs ys p q = subst (λ (zs : List ℕ). Appends a c zs) (sym (lines_on text xs ys)) (appends_on a b c (said_lines text xs) (said_lines text ys) p q)
writes_behind text (Err ends.HubFault) a b c xs ys p q = subst (λ (zs : List ℕ). Appends a c zs) (sym (lines_on text xs ys)) (appends_on a b c (said_lines text xs) (said_lines text ys) p q)
writes_behind text (Err ends.WriteFault) a b c xs ys p q = last_behind text a b c xs ys p q
writes_behind text (Err (ends.Unwritten at)) a b c xs ys p q = last_behind text a b c xs ys p q
writes_behind text (Err (ends.Budget at)) a b c xs ys p q = subst (λ (zs : List ℕ). Appends a c zs) (sym (lines_on text xs ys)) (appends_on a b c (said_lines text xs) (said_lines text ys) p q)

-- ---- from one step to the next

-- what was gone on from, by what leads to it: nothing was written on the way
pub goes_after : (set : Setting) (text : ℕ → Note → List ℕ) (a b c : Outside) (Before Mid : Meaning → List Said → Meaning → Type 0) (spent : ℕ) (held : List Entry) (r : Result ⊤ End) → a.written ≡ b.written → Later a.counts b.counts → ((begun : Meaning) (past : List Said) → Keeps a.told b.told (Before begun past) (Mid begun past)) → StepGoes set text b c Mid spent held r → StepGoes set text a c Before spent held r
goes_after set text a b c Before Mid spent held r same later p g = record {
  more = g.more;
  writes = subst (λ (o : Option (List ℕ)). StepWrites text r o c.written g.more) (sym same) g.writes;
  counted = counted_wider a.counts b.counts c.counts c.counts (closings g.more) later (later_not c.counts) g.counted;
  keeps = λ begun past. keeps_then a.told b.told c.told (Before begun past) (Mid begun past) (EndedTo r set begun spent held (past ++ g.more)) (p begun past) (g.keeps begun past);
}

-- what was said on the way of sessions that go on, and what is said behind it
pub goes_behind : (set : Setting) (text : ℕ → Note → List ℕ) (a b c : Outside) (Before Mid : Meaning → List Said → Meaning → Type 0) (spent : ℕ) (held : List Entry) (r : Result ⊤ End) (said : List Said) → closings said ≡ [] → Appends a.written b.written (said_lines text said) → Later a.counts b.counts → ((begun : Meaning) (past : List Said) → Keeps a.told b.told (Before begun past) (Mid begun (past ++ said))) → StepGoes set text b c Mid spent held r → StepGoes set text a c Before spent held r
goes_behind set text a b c Before Mid spent held r said none writes later p g = record {
  more = said ++ g.more;
  writes = writes_behind text r a.written b.written c.written said g.more writes g.writes;
  counted = subst (λ cs. AreCounted a.counts c.counts cs) (sym (closings_on said g.more ∙ ap (λ cs. cs ++ closings g.more) none)) (counted_wider a.counts b.counts c.counts c.counts (closings g.more) later (later_not c.counts) g.counted);
  keeps = λ begun past. subst (λ (xs : List Said). Keeps a.told c.told (Before begun past) (EndedTo r set begun spent held xs)) (append_assoc past said g.more)
      (keeps_then a.told b.told c.told (Before begun past) (Mid begun (past ++ said)) (EndedTo r set begun spent held ((past ++ said) ++ g.more)) (p begun past) (g.keeps begun (past ++ said)));
}

pub stays_so : (told Before After : Meaning → Type 0) → ((m : Meaning) → Before m → After m) → Keeps told told Before After
stays_so told Before After by = λ m tells b. (m, tells, by m b)

pub named_busy : (set : Setting) (begun : Meaning) (spent : ℕ) (held : List Entry) (past : List Said) (k at : ℕ) (d : Entry) (m : Meaning) → slice_get held at ≡ Some d → d.number ≡ k → IsNamed set begun spent k held past m → IsBusy set begun spent at held past m
named_busy set begun spent held past k at d m got number (i, e, p, q, busy) = by (decide i at)
  where
    by : (i ≡ at) ⊎ (i ≢ at) → IsBusy set begun spent at held past m
    by (inl is) = subst (λ j. IsBusy set begun spent j held past m) is busy
    by (inr other) = absurd (elsewhere held i at e d busy.stands.rising other p got (q ∙ sym number))

pub named_none : (set : Setting) (begun : Meaning) (spent : ℕ) (held : List Entry) (past : List Said) (k : ℕ) (After : Meaning → Type 0) (m : Meaning) → (IsRising held → (i : ℕ) (e : Entry) → slice_get held i ≡ Some e → e.number ≡ k → ⊥) → IsNamed set begun spent k held past m → After m
named_none set begun spent held past k After m none (i, e, p, q, busy) = absurd (none busy.stands.rising i e p q)

waited_on : (set : Setting) (begun : Meaning) (spent : ℕ) (held : List Entry) (past : List Said) (last : HubNext) (m n : Meaning) → Waits set begun spent held past m → Answers last m n → HasWaited set begun spent last held past n
waited_on set begun spent held past last m n w a = record {
  stands = same_all set no_more held (closings past) (heard_in past) (length held) 0 _ m n w.stands a.sessions a.started a.calls;
  order = order_kept begun.calls m.calls n.calls _ (ended_numbers (closings past)) a.calls refl w.work.order;
  in_order = w.in_order;
  tally = tally_on begun set spent (length held) (closings past) m n w.work.tally (λ j. ap (λ (u : Told). u.announced) (a.sessions j)) (λ j. omega (arith, ap (moved_of set.targets) (a.sessions j))) a.started a.events;
  last_event = a.last_event;
}

pub stopped_on : (set : Setting) (begun : Meaning) (spent : ℕ) (held : List Entry) (past : List Said) (told told' : Meaning → Type 0) → Leads told told' HasStarted (NextLeads event.Stopped) → Keeps told told' (Waits set begun spent held past) (HasWaited set begun spent event.Stopped held past)
stopped_on set begun spent held past told told' leads = λ m tells w.
    let led = leads m tells w.stands.started in
    (led.0, led.1, waited_on set begun spent held past event.Stopped m led.0 w led.2.1)

pub failed_on : (set : Setting) (begun : Meaning) (spent : ℕ) (held : List Entry) (past : List Said) (told told' : Meaning → Type 0) → Leads told told' HasStarted (NextLeads event.Failed) → Keeps told told' (Waits set begun spent held past) (HasWaited set begun spent event.Failed held past)
failed_on set begun spent held past told told' leads = λ m tells w.
    let led = leads m tells w.stands.started in
    (led.0, led.1, waited_on set begun spent held past event.Failed m led.0 w led.2.1)

pub opened_on : (set : Setting) (begun : Meaning) (spent : ℕ) (held : List Entry) (past : List Said) (k : ℕ) (told told' : Meaning → Type 0) → Leads told told' HasStarted (NextLeads (event.Opened k)) → Keeps told told' (Waits set begun spent held past) (Awaits set begun (spent + 1) k held past)
opened_on set begun spent held past k told told' leads = λ m tells w.
    let led = leads m tells w.stands.started in
    (led.0, led.1, announces set begun spent held past k m led.0 w led.2.1.0 led.2.1.1)

pub ready_on : (set : Setting) (begun : Meaning) (spent : ℕ) (held : List Entry) (past : List Said) (k : ℕ) (told told' : Meaning → Type 0) → Leads told told' HasStarted (NextLeads (event.Ready k)) → Keeps told told' (Waits set begun spent held past) (IsNamed set begun (spent + 1) k held past)
ready_on set begun spent held past k told told' leads = λ m tells w.
    let led = leads m tells w.stands.started in
    (led.0, led.1, names set begun spent held past k m led.0 w led.2.1.0 led.2.1.1)

pub waits_spent : (set : Setting) (begun : Meaning) (spent : ℕ) (held : List Entry) (past : List Said) (m : Meaning) → Waits set begun spent held past m → IsBusy set begun spent (length held) held past m
waits_spent set begun spent held past m w = record {
  stands = w.stands;
  going = λ e got. absurd (omega (arith, get_within held (length held) e got));
  unfailed = λ e got. absurd (omega (arith, get_within held (length held) e got));
  work = w.work;
  in_order = w.in_order;
}

-- sessions that have ended on the way, and others after them
-- the budget is spent
pub at_budget : (set : Setting) (text : ℕ → Note → List ℕ) (a b : Outside) (x : ⊤) (spent spent' at : ℕ) (held held' : List Entry) → at ≡ length held' → StepGoes set text a b (λ begun. Waits set begun spent held) spent' held' (Ok x) → StepGoes set text a b (λ begun. Waits set begun spent held) spent' held' (Err (ends.Budget at))
at_budget set text a b x spent spent' at held held' is p = record {
  more = p.more;
  writes = p.writes;
  counted = p.counted;
  keeps = λ begun past. keeps_on a.told b.told (Waits set begun spent held past) (Waits set begun spent' held' (past ++ p.more)) (IsBusy set begun spent' at held' (past ++ p.more)) (p.keeps begun past)
      (λ m s. subst (λ j. IsBusy set begun spent' j held' (past ++ p.more) m) (sym is) (waits_spent set begun spent' held' (past ++ p.more) m s));
}

pub chained : (set : Setting) (text : ℕ → Note → List ℕ) (a b c : Outside) (x : ⊤) (spent spent' spent'' : ℕ) (held held' held'' : List Entry) (r : Result ⊤ End) → Later a.counts b.counts → Later b.counts c.counts → StepGoes set text a b (λ begun. Waits set begun spent held) spent' held' (Ok x) → StepGoes set text b c (λ begun. Waits set begun spent' held') spent'' held'' r → StepGoes set text a c (λ begun. Waits set begun spent held) spent'' held'' r
chained set text a b c x spent spent' spent'' held held' held'' r first second p q = record {
  more = p.more ++ q.more;
  writes = writes_behind text r a.written b.written c.written p.more q.more p.writes q.writes;
  counted = subst (λ cs. AreCounted a.counts c.counts cs) (sym (closings_on p.more q.more)) (counted_both a.counts c.counts (closings p.more) (closings q.more) (counted_wider a.counts a.counts b.counts c.counts (closings p.more) (later_not a.counts) second p.counted) (counted_wider a.counts b.counts c.counts c.counts (closings q.more) first (later_not c.counts) q.counted));
  keeps = λ begun past. subst (λ (xs : List Said). Keeps a.told c.told (Waits set begun spent held past) (EndedTo r set begun spent'' held'' xs)) (append_assoc past p.more q.more)
      (keeps_then a.told b.told c.told (Waits set begun spent held past) (Waits set begun spent' held' (past ++ p.more)) (EndedTo r set begun spent'' held'' ((past ++ p.more) ++ q.more)) (p.keeps begun past) (q.keeps begun (past ++ p.more)));
}

-- ---- the end

settled_closed : (router : Seen) (t : Told) → IsSettled router t → IsSettled router (record t { closed = true })
settled_closed router t s = record { going = s.going; still = s.still; writes = s.writes; reads = s.reads }

pub leaves_next : (set : Setting) (begun : Meaning) (spent : ℕ) (held : List Entry) (past : List Said) (at busy k : ℕ) (last : Option HubNext) (calls : List FanCall) (e : Entry) (told told' : Meaning → Type 0) → slice_get held at ≡ Some e → k ≡ e.number → Leads told told' (IsOpen k) (Changes k (Closed k) Closes) → Keeps told told' (Leaves set begun spent held past busy last calls at) (Leaves set begun spent held past busy last calls (at + 1))
leaves_next set begun spent held past at busy k last calls e told told' was number leads = λ m tells l.
    let s = l.stands in
    let h = s.each at e was in
    let led = leads m tells (ap (λ j. (m.session j).announced) number ∙ h.announced, ap (λ j. (m.session j).closed) number ∙ s.is_open at e was (omega arith)) in
    let n = led.0 in
    let change : Changes e.number (Closed e.number) Closes m n = subst (λ j. Changes j (Closed j) Closes m n) number led.2 in
    let after : n.session e.number ≡ record (m.session e.number) { closed = true } = change.session in (
      n,
      led.1,
      record {
        stands = subst (λ xs. Stands set no_more xs (closings past) (heard_in past) busy (at + 1) n) (put_as_it_was held at e was)
            (changes set held (closings past) (heard_in past) (heard_in past) at e e busy busy at (at + 1) m n s (record {
              was = was;
              number = refl;
              before = omega arith;
              others = change.others;
              others_heard = λ j other. refl;
              started = change.started;
              more = _;
              calls = change.calls;
              is_held = subst (λ u. IsHeld set e.router (heard_in past e.number) u) (sym after) (record { announced = h.announced; judged = h.judged; limited = h.limited; calls = h.calls; targets = h.targets; matches = h.matches; rooms = h.rooms; holds = h.holds });
              closed = λ _. ap (λ (u : Told). u.closed) after;
              is_open = λ over. absurd (omega (arith, over));
              gone_before = λ i off under. omega (arith, off, under);
              open_before = λ i off over. omega (arith, over);
              settled = λ off. subst (λ u. IsSettled e.router u) (sym after) (settled_closed e.router (m.session e.number) (s.settled at e was off));
              unfailed = λ off. subst (λ u. (x : ℕ) → HasFailed x u → ⊥) (sym after) (λ x f. s.unfailed at e was off x (closed_calm x (m.session e.number) f));
              busy_before = λ i d p off quiet. quiet;
            }));
        unfailed = λ i d p x. unfailed_on held e m n l.unfailed change i d p x (decide d.number e.number);
        tally = closed_tally begun set spent (length held) (closings past) e.number m n l.tally change;
        closings = change.calls ∙ (ap (λ xs. xs ++ Closed e.number ∷ []) l.closings ∙ (append_assoc calls (closing_calls (held_numbers (take at held))) (Closed e.number ∷ []) ∙ ap (λ xs. calls ++ xs) (sym (closing_more held at e was))));
        last_event = change.last_event ∙ l.last_event;
        in_order = l.in_order;
      },
    )
  where
    unfailed_on : (held : List Entry) (e : Entry) (m n : Meaning) → AreUnfailed held m → Changes e.number (Closed e.number) Closes m n → (i : ℕ) (d : Entry) → slice_get held i ≡ Some d → (x : ℕ) → (d.number ≡ e.number) ⊎ (d.number ≢ e.number) → HasFailed x (n.session d.number) → ⊥
    unfailed_on held e m n calm change i d p x (inl is) f = calm i d p x (subst (λ k. HasFailed x (m.session k)) (sym is) (closed_calm x (m.session e.number) (subst (λ u. HasFailed x u) (ap n.session is ∙ change.session) f)))
    unfailed_on held e m n calm change i d p x (inr other) f = calm i d p x (subst (λ u. HasFailed x u) (change.others d.number other) f)

pub left_more : (held : List Entry) (at : ℕ) (e : Entry) → slice_get held at ≡ Some e → left_lines (take (suc at) held) ≡ left_lines (take at held) ++ left_line e
left_more [] at e p = absurd (cc)
left_more (x ∷ xs) zero e p = append-nil (left_line x) ∙ ap (λ (y : Entry). left_line y) (some_same (Some x) x e refl p)
left_more (x ∷ xs) (suc k) e p = ap (λ l. left_line x ++ l) (left_more xs k e p) ∙ sym (append_assoc (left_line x) (left_lines (take k xs)) (left_line e))

pub left_on : (w r : Wrote) (a b c : Option (List ℕ)) (xs ys : List ℕ) → (w ≡ wrote.All → Writes r b c ys) → (w ≡ wrote.Failed → (r ≡ wrote.Failed) × (c ≡ b)) → Writes w a b xs → Writes r a c (xs ++ ys)
left_on wrote.All wrote.All a b c xs ys p q x = appends_on a b c xs ys x (p refl)
left_on wrote.All wrote.Failed a b c xs ys p q x = then_front a b c xs ys x (p refl)
left_on wrote.Failed r a b c xs ys p q x =
    let f = q refl in
    subst (λ (s : Wrote). Writes s a c (xs ++ ys)) (sym f.0) (front_of_more a c xs ys (subst (λ o. AppendsFront a o xs) (sym f.1) x))

pub fresh_waits : (set : Setting) (spent : ℕ) (held : List Entry) (m : Meaning) → held ≡ [] → spent ≡ 0 → IsFresh m → Waits set m spent held [] m
fresh_waits set spent held m is none f = subst (λ n. Waits set m n held [] m) (sym none) (subst (λ xs. Waits set m 0 xs [] m) (sym is) (record {
  stands = record {
    started = f.started;
    rising = λ i j d e less p q. absurd (cc);
    each = λ i e p. absurd (cc);
    closed = λ i e p. absurd (cc);
    is_open = λ i e p. absurd (cc);
    settled = λ i e p. absurd (cc);
    unfailed = λ i e p. absurd (cc);
    ended = λ i c p. absurd (cc);
    once = λ i j c d less p q. absurd (cc);
    apart = λ i j c e p q. absurd (cc);
    broke = λ i c x p is. absurd (cc);
    covers = λ k announced. absurd (f.none k announced);
    unheard = λ k off. refl;
  };
  work = record { tally = tally_none set m; order = sym (append-nil (closings_of m.calls)); going = ap is_over f.unasked };
  in_order = tt;
}))

pub cause_on : (A B : Type 0) (f g h : ℕ) → (B → A ⊎ Rose f g) → f ≤ g → g ≤ h → B ⊎ Rose g h → A ⊎ Rose f h
cause_on A B f g h before a b (inr rose) = inr (omega (arith, a, rose))
cause_on A B f g h before a b (inl is) = next (before is)
  where
    next : A ⊎ Rose f g → A ⊎ Rose f h
    next (inl x) = inl x
    next (inr rose) = inr (omega (arith, b, rose))

no_fault : (X : Type 0) → wrote.All ≡ wrote.Failed → X
no_fault X e = absurd (cc)

rose_by : (f g h : ℕ) → f ≤ g → (wrote.All ≡ wrote.Failed) ⊎ Rose g h → Rose f h
rose_by f g h a (inl e) = no_fault _ e
rose_by f g h a (inr rose) = omega (arith, a, rose)

-- ---- the whole

-- all that the work leads to
record Leading (set : Setting) (begun : Meaning) (spent : ℕ) (held : List Entry) (past : List Said) (busy : ℕ) (m : Meaning) : Type 0 where
  leaves : Leaves set begun spent held past busy m.last_event m.calls 0 m
  order : IsClosedInOrder begun.calls m.calls (ended_numbers (closings past))
  going : (e : Entry) → slice_get held busy ≡ Some e → e.router.outcome ≡ None

unfailed_at : (set : Setting) (held : List Entry) (past : List Said) (busy : ℕ) (m : Meaning) → Stands set no_more held (closings past) (heard_in past) busy 0 m → ((e : Entry) → slice_get held busy ≡ Some e → (x : ℕ) → HasFailed x (m.session e.number) → ⊥) → AreUnfailed held m
unfailed_at set held past busy m s calm i e p = by (decide i busy)
  where
    by : (i ≡ busy) ⊎ (i ≢ busy) → (x : ℕ) → HasFailed x (m.session e.number) → ⊥
    by (inl is) = calm e (ap (λ j. slice_get held j) (sym is) ∙ p)
    by (inr off) = s.unfailed i e p off

none_closed : (held : List Entry) (calls : List FanCall) → calls ≡ calls ++ closing_calls (held_numbers (take 0 held))
none_closed [] calls = sym (append-nil calls)
none_closed (e ∷ held) calls = sym (append-nil calls)

busy_leads : (set : Setting) (begun : Meaning) (spent : ℕ) (held : List Entry) (past : List Said) (busy : ℕ) (m : Meaning) → IsBusy set begun spent busy held past m → Leading set begun spent held past busy m
busy_leads set begun spent held past busy m b = record {
  leaves = record { stands = b.stands; unfailed = unfailed_at set held past busy m b.stands b.unfailed; tally = b.work.tally; in_order = b.in_order; closings = none_closed held m.calls; last_event = refl };
  order = b.work.order;
  going = b.going;
}

waited_leads : (set : Setting) (begun : Meaning) (spent : ℕ) (held : List Entry) (past : List Said) (last : HubNext) (m : Meaning) → HasWaited set begun spent last held past m → Leading set begun spent held past (length held) m
waited_leads set begun spent held past last m w = record {
  leaves = record { stands = w.stands; unfailed = unfailed_at set held past (length held) m w.stands (λ e got. absurd (omega (arith, get_within held (length held) e got))); tally = w.tally; in_order = w.in_order; closings = none_closed held m.calls; last_event = refl };
  order = w.order;
  going = λ e got. absurd (omega (arith, get_within held (length held) e got));
}

-- what is left at the end
left_so : (set : Setting) (result : Served) (lines : LinesEnd) (begun : Meaning) (spent : ℕ) (held : List Entry) (past : List Said) (busy : ℕ) (last : Option HubNext) (calls : List FanCall) (n : Meaning) → ((MayBeUnsettled result lines → ⊥) → length held ≤ busy) → ((e : Entry) → slice_get held busy ≡ Some e → e.router.outcome ≡ None) → Leaves set begun spent held past busy last calls (length held) n → IsLeft set result lines held n
left_so set result lines begun spent held past busy last calls n all going l = record {
  settled = λ off i e p. l.stands.settled i e p (λ is. absurd (omega (arith, all off, is, get_within held i e p)));
  going = λ i e p. let h = l.stands.each i e p in
      sym (outcome_at set (rules_in e.router) e.router.limit e.router.max_calls e.router.standing h.judged h.limited h.calls) ∙ (sym h.matches.rest.outcome_is ∙ goes_on i e p (decide i busy));
  unfailed = l.unfailed;
}
  where
    goes_on : (i : ℕ) (e : Entry) → slice_get held i ≡ Some e → (i ≡ busy) ⊎ (i ≢ busy) → e.router.outcome ≡ None
    goes_on i e p (inl is) = going e (ap (λ j. slice_get held j) (sym is) ∙ p)
    goes_on i e p (inr off) = (l.stands.settled i e p off).going

-- the whole of a server, from its work and its last lines
pub record Parts (set : Setting) (text : ℕ → Note → List ℕ) (ending : End) (w : Wrote) (a b c : Outside) (spent spent' : ℕ) (first held : List Entry) : Type 0 where
  pub none_before : first ≡ []
  pub none_spent : spent ≡ 0
  pub work : StepGoes set text a b (λ begun. Waits set begun spent first) spent' held (Err ending)
  pub spends : SpendsBy (served_by ending wrote.All) spent' set.events
  pub lines : first_wrote ending ≡ wrote.All → Writes w b.written c.written (left_lines held)
  pub no_lines : first_wrote ending ≡ wrote.Failed → (w ≡ wrote.Failed) × (c.written ≡ b.written)
  pub leaves : (m : Meaning) (past : List Said) (busy : ℕ) (last : Option HubNext) (calls : List FanCall) → Keeps b.told c.told (Leaves set m spent' held past busy last calls 0) (Leaves set m spent' held past busy last calls (length held))
  pub fault : ending ≡ ends.WriteFault → Rose a.faults b.faults
  pub unwritten : (at : ℕ) → ending ≡ ends.Unwritten at → Rose a.faults b.faults
  pub cause : w ≡ wrote.Failed → (first_wrote ending ≡ wrote.Failed) ⊎ Rose b.faults c.faults
  pub later : a.faults ≤ b.faults
  pub later_still : b.faults ≤ c.faults
  pub counts_later : Later b.counts c.counts

-- what is asked of the moment at which the work has ended
record Stops (set : Setting) (result : Served) (lines : LinesEnd) (begun : Meaning) (spent : ℕ) (held : List Entry) (past : List Said) (busy : ℕ) (m : Meaning) : Type 0 where
  leading : Leading set begun spent held past busy m
  all : (MayBeUnsettled result lines → ⊥) → length held ≤ busy
  event : (n : Meaning) → n.last_event ≡ m.last_event → EndsOn result n
  just_closed : lines ≡ LastOfWork → IsJustClosed (closings past) m.calls

ending_from : (set : Setting) (result : Served) (lines : LinesEnd) (begun : Meaning) (spent : ℕ) (held : List Entry) (past : List Said) (busy : ℕ) (told told' : Meaning → Type 0) (m : Meaning) → Stops set result lines begun spent held past busy m → SpendsBy result spent set.events → Keeps told told' (Leaves set begun spent held past busy m.last_event m.calls 0) (Leaves set begun spent held past busy m.last_event m.calls (length held)) → told m → (n : Meaning) × told' n × Ending set result lines held past busy begun n
ending_from set result lines begun spent held past busy told told' m s spends leaves tells =
    let d = leaves m tells s.leading.leaves in
    let closed = all_left held m.calls d.0.calls d.2.closings in (
      d.0,
      d.1,
      record {
        stands = d.2.stands;
        event = s.event d.0 d.2.last_event;
        left = left_so set result lines begun spent held past busy m.last_event m.calls d.0 s.all s.leading.going d.2;
        accounts = record { spent = spent; tally = d.2.tally; spends = spends };
        order = order_left begun.calls m.calls d.0.calls (closings past) held closed s.leading.order;
        not_asked = λ is. (m.calls, s.just_closed is, closed);
        in_order = d.2.in_order;
      },
    )

-- from the work to the end
whole_of : (set : Setting) (text : ℕ → Note → List ℕ) (ending : End) (result : Served) (lines : LinesEnd) (w : Wrote) (a b c : Outside) (spent spent' : ℕ) (first held : List Entry) (busy : ℕ) (p : Parts set text ending w a b c spent spent' first held) → WritesLines text lines a.written c.written a.faults c.faults p.work.more held → AnswersLines result lines → SpendsBy result spent' set.events → ((begun m : Meaning) → EndedTo (Err ending) set begun spent' held p.work.more m → Stops set result lines begun spent' held p.work.more busy m) → Serves set text a c result
whole_of set text ending result lines w a b c spent spent' first held busy p writes answers spends stops = record {
  held = held;
  said = p.work.more;
  busy = busy;
  lines = lines;
  writes = writes;
  answers = answers;
  counted = counted_wider a.counts a.counts b.counts c.counts (closings p.work.more) (later_not a.counts) p.counts_later p.work.counted;
  keeps = λ m tells fresh.
      let n = p.work.keeps m [] m tells (fresh_waits set spent first m p.none_before p.none_spent fresh) in
      ending_from set result lines m spent' held p.work.more busy b.told c.told n.0 (stops m n.0 n.2) spends (p.leaves m p.work.more busy n.0.last_event n.0.calls) n.1;
}

other_event : Some event.Stopped ≡ Some event.Failed → ⊥
other_event e = absurd (cc)

no_failure : (o : Option HubNext) → is_over o ≡ false → o ≡ Some event.Failed → ⊥
no_failure o off is = absurd (true≢false (sym (ap is_over is) ∙ off))

no_last : (X : Type 0) → AllLines ≡ LastOfWork → X
no_last X e = absurd (cc)

no_last_left : (X : Type 0) → LeftOpen ≡ LastOfWork → X
no_last_left X e = absurd (cc)

no_last_turn : (X : Type 0) → LastOfTurn ≡ LastOfWork → X
no_last_turn X e = absurd (cc)

-- the lines of what was said were written, and of the sessions left open all or a front
all_lines : (text : ℕ → Note → List ℕ) (a b c : Outside) (said : List Said) (held : List Entry) → Appends a.written b.written (said_lines text said) → Writes wrote.All b.written c.written (left_lines held) → WritesLines text AllLines a.written c.written a.faults c.faults said held
all_lines text a b c said held p q = appends_on a.written b.written c.written (said_lines text said) (left_lines held) p q

left_front : (text : ℕ → Note → List ℕ) (a b c : Outside) (said : List Said) (held : List Entry) → Appends a.written b.written (said_lines text said) → Writes wrote.Failed b.written c.written (left_lines held) → Rose a.faults c.faults → WritesLines text LeftOpen a.written c.written a.faults c.faults said held
left_front text a b c said held p q rose = ((q.0, q.1, appends_on a.written b.written c.written (said_lines text said) (take q.0 (left_lines held)) p q.2), rose)

-- the moment at which the work has ended, by how it ended
waited_stops : (set : Setting) (result : Served) (lines : LinesEnd) (begun : Meaning) (spent : ℕ) (held : List Entry) (past : List Said) (last : HubNext) (m : Meaning) → ((n : Meaning) → n.last_event ≡ Some last → EndsOn result n) → (lines ≡ LastOfWork → ⊥) → HasWaited set begun spent last held past m → Stops set result lines begun spent held past (length held) m
waited_stops set result lines begun spent held past last m event never w = record {
  leading = waited_leads set begun spent held past last m w;
  all = λ _. omega arith;
  event = λ n is. event n (is ∙ w.last_event);
  just_closed = λ is. absurd (never is);
}

busy_stops : (set : Setting) (lines : LinesEnd) (begun : Meaning) (spent : ℕ) (held : List Entry) (past : List Said) (at : ℕ) (m : Meaning) → (lines ≡ LastOfWork → ⊥) → IsBusy set begun spent at held past m → Stops set served.Budget lines begun spent held past at m
busy_stops set lines begun spent held past at m never b = record {
  leading = busy_leads set begun spent held past at m b;
  all = λ off. absurd (off IsSpent);
  event = λ n is. ap is_over is ∙ b.work.going;
  just_closed = λ is. absurd (never is);
}

fault_stops : (set : Setting) (begun : Meaning) (spent : ℕ) (held : List Entry) (past : List Said) (m : Meaning) → Waits set begun spent held past m → IsJustClosed (closings past) m.calls → Stops set served.WriteFault LastOfWork begun spent held past (length held) m
fault_stops set begun spent held past m w last = record {
  leading = busy_leads set begun spent held past (length held) m (waits_spent set begun spent held past m w);
  all = λ _. omega arith;
  event = λ n is. no_failure n.last_event (ap is_over is ∙ w.work.going);
  just_closed = λ _. last;
}

unwritten_stops : (set : Setting) (begun : Meaning) (spent : ℕ) (held : List Entry) (past : List Said) (at : ℕ) (m : Meaning) → IsBusy set begun spent at held past m → Stops set served.WriteFault LastOfTurn begun spent held past at m
unwritten_stops set begun spent held past at m b = record {
  leading = busy_leads set begun spent held past at m b;
  all = λ off. absurd (off IsUnwritten);
  event = λ n is. no_failure n.last_event (ap is_over is ∙ b.work.going);
  just_closed = λ is. no_last_turn _ is;
}

pub serves_parts : (set : Setting) (text : ℕ → Note → List ℕ) (ending : End) (w : Wrote) (a b c : Outside) (spent spent' : ℕ) (first held : List Entry) → Parts set text ending w a b c spent spent' first held → Serves set text a c (served_by ending w)
serves_parts set text ends.Stopped wrote.All a b c spent spent' first held p =
    whole_of set text ends.Stopped served.Stopped AllLines wrote.All a b c spent spent' first held (length held) p
    (all_lines text a b c p.work.more held p.work.writes (p.lines refl)) refl p.spends
    (λ begun m e. waited_stops set served.Stopped AllLines begun spent' held p.work.more event.Stopped m (λ n is. is) (λ is. no_last ⊥ is) e)
serves_parts set text ends.Stopped wrote.Failed a b c spent spent' first held p =
    whole_of set text ends.Stopped served.WriteFault LeftOpen wrote.Failed a b c spent spent' first held (length held) p
    (left_front text a b c p.work.more held p.work.writes (p.lines refl) (rose_by a.faults b.faults c.faults p.later (p.cause refl))) (inr (inr refl)) (omega (arith, p.spends))
    (λ begun m e. waited_stops set served.WriteFault LeftOpen begun spent' held p.work.more event.Stopped m (λ n is bad. other_event (sym is ∙ bad)) (λ is. no_last_left ⊥ is) e)
serves_parts set text ends.HubFault wrote.All a b c spent spent' first held p =
    whole_of set text ends.HubFault served.HubFault AllLines wrote.All a b c spent spent' first held (length held) p
    (all_lines text a b c p.work.more held p.work.writes (p.lines refl)) (inl refl) p.spends
    (λ begun m e. waited_stops set served.HubFault AllLines begun spent' held p.work.more event.Failed m (λ n is. is) (λ is. no_last ⊥ is) e)
serves_parts set text ends.HubFault wrote.Failed a b c spent spent' first held p =
    whole_of set text ends.HubFault served.HubFault LeftOpen wrote.Failed a b c spent spent' first held (length held) p
    (left_front text a b c p.work.more held p.work.writes (p.lines refl) (rose_by a.faults b.faults c.faults p.later (p.cause refl))) (inr refl) p.spends
    (λ begun m e. waited_stops set served.HubFault LeftOpen begun spent' held p.work.more event.Failed m (λ n is. is) (λ is. no_last_left ⊥ is) e)
serves_parts set text ends.WriteFault w a b c spent spent' first held p =
    let none = p.no_lines refl in
    whole_of set text ends.WriteFault served.WriteFault LastOfWork w a b c spent spent' first held (length held) p
    (subst (λ (o : Option (List ℕ)). LastLinesFail text a.written o p.work.more) (sym none.1) p.work.writes, omega (arith, p.fault refl, p.later_still)) (inl refl) p.spends
    (λ begun m e. fault_stops set begun spent' held p.work.more m e.0 e.1)
serves_parts set text (ends.Unwritten at) w a b c spent spent' first held p =
    let none = p.no_lines refl in
    whole_of set text (ends.Unwritten at) served.WriteFault LastOfTurn w a b c spent spent' first held at p
    (subst (λ (o : Option (List ℕ)). LastLinesFail text a.written o p.work.more) (sym none.1) p.work.writes, omega (arith, p.unwritten at refl, p.later_still)) (inr (inl refl)) p.spends
    (λ begun m e. unwritten_stops set begun spent' held p.work.more at m e)
serves_parts set text (ends.Budget at) wrote.All a b c spent spent' first held p =
    whole_of set text (ends.Budget at) served.Budget AllLines wrote.All a b c spent spent' first held at p
    (all_lines text a b c p.work.more held p.work.writes (p.lines refl)) (inl refl) p.spends
    (λ begun m e. busy_stops set AllLines begun spent' held p.work.more at m (λ is. no_last ⊥ is) e)
serves_parts set text (ends.Budget at) wrote.Failed a b c spent spent' first held p =
    whole_of set text (ends.Budget at) served.Budget LeftOpen wrote.Failed a b c spent spent' first held at p
    (left_front text a b c p.work.more held p.work.writes (p.lines refl) (rose_by a.faults b.faults c.faults p.later (p.cause refl))) (inr refl) p.spends
    (λ begun m e. busy_stops set LeftOpen begun spent' held p.work.more at m (λ is. no_last_left ⊥ is) e)

-- ---- what was written, as it goes with the answer

front_behind : (a b : Option (List ℕ)) (xs ys : List ℕ) (n : ℕ) → n ≤ length ys → Appends a b (xs ++ take n ys) → AppendsFront a b (xs ++ ys)
front_behind a b xs ys n within p = (length xs + n, omega (arith, within, length-append xs ys), rw (take-append-add xs ys n) p)

last_front : (text : ℕ → Note → List ℕ) (a b : Option (List ℕ)) (said : List Said) → LastLinesFail text a b said → AppendsFront a b (said_lines text said)
last_front text a b said q =
    let whole : said_lines text said ≡ said_lines text q.before ++ said_lines text q.late = ap (said_lines text) q.said_are ∙ lines_on text q.before q.late in
    subst (λ (zs : List ℕ). AppendsFront a b zs) (sym whole) (front_behind a b (said_lines text q.before) (said_lines text q.late) q.written.0 q.written.1 q.written.2)

pub served_writes : (text : ℕ → Note → List ℕ) (result : Served) (lines : LinesEnd) (a b : Outside) (said : List Said) (held : List Entry) → WritesLines text lines a.written b.written a.faults b.faults said held → AnswersLines result lines → ServedWrites result a.written b.written a.faults b.faults (said_lines text said ++ left_lines held)
served_writes text served.Stopped AllLines a b said held w is = w
served_writes text served.Stopped LastOfWork a b said held w is = absurd (cc)
served_writes text served.Stopped LastOfTurn a b said held w is = absurd (cc)
served_writes text served.Stopped LeftOpen a b said held w is = absurd (cc)
served_writes text served.HubFault AllLines a b said held w is = inl w
served_writes text served.HubFault LastOfWork a b said held w (inl is) = absurd (cc)
served_writes text served.HubFault LastOfWork a b said held w (inr is) = absurd (cc)
served_writes text served.HubFault LastOfTurn a b said held w (inl is) = absurd (cc)
served_writes text served.HubFault LastOfTurn a b said held w (inr is) = absurd (cc)
served_writes text served.HubFault LeftOpen a b said held w is = inr (front_behind a.written b.written (said_lines text said) (left_lines held) w.0.0 w.0.1 w.0.2, w.1)
served_writes text served.WriteFault AllLines a b said held w (inl is) = absurd (cc)
served_writes text served.WriteFault AllLines a b said held w (inr (inl is)) = absurd (cc)
served_writes text served.WriteFault AllLines a b said held w (inr (inr is)) = absurd (cc)
served_writes text served.WriteFault LastOfWork a b said held w is = (front_of_more a.written b.written (said_lines text said) (left_lines held) (last_front text a.written b.written said w.0), w.1)
served_writes text served.WriteFault LastOfTurn a b said held w is = (front_of_more a.written b.written (said_lines text said) (left_lines held) (last_front text a.written b.written said w.0), w.1)
served_writes text served.WriteFault LeftOpen a b said held w is = (front_behind a.written b.written (said_lines text said) (left_lines held) w.0.0 w.0.1 w.0.2, w.1)
served_writes text served.Budget AllLines a b said held w is = inl w
served_writes text served.Budget LastOfWork a b said held w (inl is) = absurd (cc)
served_writes text served.Budget LastOfWork a b said held w (inr is) = absurd (cc)
served_writes text served.Budget LastOfTurn a b said held w (inl is) = absurd (cc)
served_writes text served.Budget LastOfTurn a b said held w (inr is) = absurd (cc)
served_writes text served.Budget LeftOpen a b said held w is = inr (front_behind a.written b.written (said_lines text said) (left_lines held) w.0.0 w.0.1 w.0.2, w.1)
served_writes text served.OutOfMemory AllLines a b said held w is = w
served_writes text served.OutOfMemory LastOfWork a b said held w is = absurd (cc)
served_writes text served.OutOfMemory LastOfTurn a b said held w is = absurd (cc)
served_writes text served.OutOfMemory LeftOpen a b said held w is = absurd (cc)

-- no memory was found for the server, and nothing was done
pub serves_none : (set : Setting) (text : ℕ → Note → List ℕ) (a : Outside) → Serves set text a a served.OutOfMemory
serves_none set text a = record {
  held = [];
  said = [];
  busy = 0;
  lines = AllLines;
  writes = appends_none a.written;
  answers = refl;
  counted = counted_none a.counts a.counts;
  keeps = λ m tells fresh.
      let w = fresh_waits set 0 [] m refl refl fresh in (
        m,
        tells,
        record {
          stands = w.stands;
          event = fresh.unasked;
          left = record { settled = λ off i e got. absurd (cc); going = λ i e got. absurd (cc); unfailed = λ i e got. absurd (cc) };
          accounts = record { spent = 0; tally = w.work.tally; spends = refl };
          order = sym (append-nil (closings_of m.calls));
          not_asked = λ is. no_last _ is;
          in_order = tt;
        },
      );
}

-- ---- a turn, with the lines of its refused frames

-- at a wait the session at any place may be taken as the one that is turned
waits_busy : (set : Setting) (begun : Meaning) (spent : ℕ) (held : List Entry) (past : List Said) (at : ℕ) (m : Meaning) → Waits set begun spent held past m → IsBusy set begun spent at held past m
waits_busy set begun spent held past at m w = record {
  stands = record {
    started = s.started;
    rising = s.rising;
    each = s.each;
    closed = s.closed;
    is_open = s.is_open;
    settled = λ i e p _. s.settled i e p (inside i e p);
    unfailed = λ i e p _. s.unfailed i e p (inside i e p);
    ended = s.ended;
    once = s.once;
    apart = s.apart;
    broke = s.broke;
    covers = s.covers;
    unheard = s.unheard;
  };
  going = λ e got. (s.settled at e got (inside at e got)).going;
  unfailed = λ e got. s.unfailed at e got (inside at e got);
  work = w.work;
  in_order = w.in_order;
}
  where
    s : Stands set no_more held (closings past) (heard_in past) (length held) 0 m
    s = w.stands

    inside : (i : ℕ) (e : Entry) → slice_get held i ≡ Some e → i ≢ length held
    inside i e p = λ is. absurd (omega (arith, get_within held i e p, is))

front_of_lines : (text : ℕ → Note → List ℕ) (k : ℕ) (added : List Note) (old new : Option (List ℕ)) → AppendsFront old new (refusal_lines text k added) → AppendsFront old new (said_lines text (refusals k added))
front_of_lines text k added old new p = subst (λ (xs : List ℕ). AppendsFront old new xs) (sym (refused_lines text k added)) p

-- the lines of a turn's refused frames
pub turn_writes : (text : ℕ → Note → List ℕ) (k at : ℕ) (added : List Note) (w : Wrote) (r : Result ⊤ End) (old new : Option (List ℕ)) → (w ≡ wrote.All → (x : ⊤) × (r ≡ Ok x)) → (w ≡ wrote.Failed → r ≡ Err (ends.Unwritten at)) → Writes w old new (refusal_lines text k added) → StepWrites text r old new (refusals k added)
turn_writes text k at added wrote.All r old new a b p =
    subst (λ q. StepWrites text q old new (refusals k added)) (sym (a refl).1) (subst (λ (xs : List ℕ). Appends old new xs) (sym (refused_lines text k added)) p)
turn_writes text k at added wrote.Failed r old new a b p =
    subst (λ q. StepWrites text q old new (refusals k added)) (sym (b refl))
    (record { before = []; late = refusals k added; number = k; said_are = refl; late_are = are_of_refusals k added; written = front_of_lines text k added old new p })

-- and of a turn behind which the session is closed
ended_writes : (text : ℕ → Note → List ℕ) (k : ℕ) (added : List Note) (more : List Said) (w : Wrote) (r : Result ⊤ End) (old mid new : Option (List ℕ)) → Writes w old mid (refusal_lines text k added) → AreOf k more → ClosingWrites text w r mid new more → StepWrites text r old new (refusals k added ++ more)
ended_writes text k added more wrote.All r old mid new p are q =
    writes_behind text r old mid new (refusals k added) more (subst (λ (xs : List ℕ). Appends old mid xs) (sym (refused_lines text k added)) p) q
ended_writes text k added more wrote.Failed r old mid new p are q =
    let still : AppendsFront old new (refusal_lines text k added) = (p.0, p.1, subst (λ (xs : List ℕ). Appends old new xs) (append-nil (take p.0 (refusal_lines text k added))) (appends_on old mid new (take p.0 (refusal_lines text k added)) [] p.2 q.1)) in
    subst (λ x. StepWrites text x old new (refusals k added ++ more)) (sym q.0)
    (record {
      before = [];
      late = refusals k added ++ more;
      number = k;
      said_are = refl;
      late_are = are_of_on k (refusals k added) more (are_of_refusals k added) are;
      written = subst (λ (xs : List ℕ). AppendsFront old new xs) (sym (lines_on text (refusals k added) more)) (front_of_more old new (said_lines text (refusals k added)) (said_lines text more) (front_of_lines text k added old new still));
    })

counted_not : (a b : Counts) (k : ℕ) (added : List Note) → AreCounted a b (closings (refusals k added))
counted_not a b k added = subst (λ cs. AreCounted a b cs) (sym (refusals_close_none k added)) (counted_none a b)

-- a line of a turn could not be written where that ends the work
pub failed_by : (w : Wrote) (r : Result ⊤ End) (e : End) (at : ℕ) → r ≡ Err e → (w ≡ wrote.All → (x : ⊤) × (r ≡ Ok x)) → (w ≡ wrote.Failed → r ≡ Err (ends.Unwritten at)) → (w ≡ wrote.Failed) × (e ≡ ends.Unwritten at)
failed_by wrote.All r e at is a b = absurd (other (a refl).0 (sym is ∙ (a refl).1))
  where
    other : (x : ⊤) → Err e ≡ Ok x → ⊥
    other x is = absurd (cc)
failed_by wrote.Failed r e at is a b = let both = sym is ∙ b refl in (refl, cc)

-- all lines of a turn were written where the work goes on
pub written_at : (text : ℕ → Note → List ℕ) (k at : ℕ) (added : List Note) (w : Wrote) (r : Result ⊤ End) (old new : Option (List ℕ)) → (w ≡ wrote.All → (x : ⊤) × (r ≡ Ok x)) → (w ≡ wrote.Failed → r ≡ Err (ends.Unwritten at)) → {x : ⊤} → r ≡ Ok x → Writes w old new (refusal_lines text k added) → Appends old new (said_lines text (refusals k added))
written_at text k at added wrote.All r old new a b is p = subst (λ (xs : List ℕ). Appends old new xs) (sym (refused_lines text k added)) p
written_at text k at added wrote.Failed r old new a b {x} is p = absurd (other (sym is ∙ b refl))
  where
    other : Ok x ≡ Err (ends.Unwritten at) → ⊥
    other e = absurd (cc)

-- a turn behind which the session is settled
pub settled_goes : (set : Setting) (text : ℕ → Note → List ℕ) (a b : Outside) (Before : Meaning → List Said → Meaning → Type 0) (spent : ℕ) (held : List Entry) (k at : ℕ) (added : List Note) (w : Wrote) (r : Result ⊤ End) → (w ≡ wrote.All → (x : ⊤) × (r ≡ Ok x)) → (w ≡ wrote.Failed → r ≡ Err (ends.Unwritten at)) → Writes w a.written b.written (refusal_lines text k added) → ((begun : Meaning) (past : List Said) → Keeps a.told b.told (Before begun past) (Waits set begun spent held (past ++ refusals k added))) → StepGoes set text a b Before spent held r
settled_goes set text a b Before spent held k at added w r all failed p keeps = record {
  more = refusals k added;
  writes = turn_writes text k at added w r a.written b.written all failed p;
  counted = counted_not a.counts b.counts k added;
  keeps = λ begun past. by w all failed begun past (keeps begun past);
}
  where
    by : (w : Wrote) → (w ≡ wrote.All → (x : ⊤) × (r ≡ Ok x)) → (w ≡ wrote.Failed → r ≡ Err (ends.Unwritten at)) → (begun : Meaning) (past : List Said) → Keeps a.told b.told (Before begun past) (Waits set begun spent held (past ++ refusals k added)) → Keeps a.told b.told (Before begun past) (EndedTo r set begun spent held (past ++ refusals k added))
    by wrote.All x y begun past q = subst (λ z. Keeps a.told b.told (Before begun past) (EndedTo z set begun spent held (past ++ refusals k added))) (sym (x refl).1) q
    by wrote.Failed x y begun past q =
        subst (λ z. Keeps a.told b.told (Before begun past) (EndedTo z set begun spent held (past ++ refusals k added))) (sym (y refl))
        (keeps_on a.told b.told (Before begun past) (Waits set begun spent held (past ++ refusals k added)) (IsBusy set begun spent at held (past ++ refusals k added)) q (waits_busy set begun spent held (past ++ refusals k added) at))

-- a turn whose lines could not be written, behind which the session goes on
pub unwritten_goes : (set : Setting) (text : ℕ → Note → List ℕ) (a b : Outside) (Before : Meaning → List Said → Meaning → Type 0) (spent : ℕ) (held : List Entry) (k at : ℕ) (added : List Note) → AppendsFront a.written b.written (refusal_lines text k added) → ((begun : Meaning) (past : List Said) → Keeps a.told b.told (Before begun past) (IsBusy set begun spent at held (past ++ refusals k added))) → StepGoes set text a b Before spent held (Err (ends.Unwritten at))
unwritten_goes set text a b Before spent held k at added p keeps = record {
  more = refusals k added;
  writes = record { before = []; late = refusals k added; number = k; said_are = refl; late_are = are_of_refusals k added; written = front_of_lines text k added a.written b.written p };
  counted = counted_not a.counts b.counts k added;
  keeps = keeps;
}

-- a turn behind which the session is closed
pub ended_goes : (set : Setting) (text : ℕ → Note → List ℕ) (a b c : Outside) (from : Counts) (Before Mid : Meaning → List Said → Meaning → Type 0) (spent : ℕ) (held : List Entry) (k : ℕ) (added : List Note) (w : Wrote) (r : Result ⊤ End) → Writes w a.written b.written (refusal_lines text k added) → from ≡ a.counts → ((begun : Meaning) (past : List Said) → Keeps a.told b.told (Before begun past) (Mid begun (past ++ refusals k added))) → GoesBy set (λ said. AreOf k said × ClosingWrites text w r b.written c.written said) (record b { counts = from }) c Mid spent held r → StepGoes set text a c Before spent held r
ended_goes set text a b c from Before Mid spent held k added w r p same keeps f = record {
  more = refusals k added ++ f.more;
  writes = ended_writes text k added f.more w r a.written b.written c.written p f.writes.0 f.writes.1;
  counted = subst (λ cs. AreCounted a.counts c.counts cs) (sym (closings_on (refusals k added) f.more ∙ ap (λ cs. cs ++ closings f.more) (refusals_close_none k added)))
      (subst (λ (x : Counts). AreCounted x c.counts (closings f.more)) same f.counted);
  keeps = λ begun past. subst (λ (xs : List Said). Keeps a.told c.told (Before begun past) (EndedTo r set begun spent held xs)) (append_assoc past (refusals k added) f.more)
      (keeps_then a.told b.told c.told (Before begun past) (Mid begun (past ++ refusals k added)) (EndedTo r set begun spent held ((past ++ refusals k added) ++ f.more)) (keeps begun past) (f.keeps begun (past ++ refusals k added)));
}
