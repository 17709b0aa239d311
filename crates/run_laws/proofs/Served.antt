-- A server whose hub has stopped.
use Rattle.std.proofs.Common.{◌≡◌, ℕ, ◌≤◌, ◌⊎◌, inl, inr, List, length, true, Option, Some, refl, sym, subst}
use Rattle.std.specs.Prelude.{slice_get}
use Rattle.gate_base.specs.Causes.{Rose}
use Rattle.gate_hub.specs.Meaning.{Meaning}
use Rattle.gate_hub.specs.Hubs.{Counts, NotStarted, StartLeads}
use Rattle.gate_hub.specs.declared.hub.Hub.{Ghosts as Hub}
use Rattle.gate_hub.specs.declared.hub.Began.TheVariants as began
use Rattle.gate_hub.specs.declared.hub.Served.{Served}
use Rattle.gate_hub.specs.declared.hub.Served.TheVariants as served
use Rattle.session_core.specs.Notes.{Note}
use Rattle.refusal_lines.specs.Told.{told_text}
use Rattle.session_judge.specs.Setting.{Setting}
use Rattle.session_judge.specs.Rules.{rules_of}
use Rattle.proxy_server.specs.Saying.{Closing, Said, closings, heard_in}
use Rattle.proxy_server.specs.Serving.{Entry, Stands, IsHeld, HasClosed, IsAmong, IsOpenOne, IsEndedOne, IsFresh, no_more}
use Rattle.proxy_server.specs.Steps.{Serves, LinesEnd, AllLines, LastOfWork, LastOfTurn, LeftOpen, WritesLines, AnswersLines, MayBeUnsettled, IsSpent, IsUnwritten}
use Rattle.proxy_server.specs.Turning.{IsSettled}
use Rattle.gate_words.specs.declared.serving.Serving.{Serving}
use Rattle.gate_start.specs.Streams.{Streams}
use Rattle.gate_start.specs.declared.start.Start.{Start}
use Rattle.gate_start.specs.declared.status.Ending.{Ending}
use Rattle.gate_start.specs.declared.status.Ending.TheVariants as endings
use Rattle.gate_start.proofs.Rising.{rose_earlier}
use Rattle.gate_start.specs.Served.{EndsBy}
use Rattle.gate_streams.specs.Outcome.{WriteFailed}
use Rattle.gate_serve.specs.Serving.{ServesAll, Began, NotBegun, Unfound, NoMemory, EndsOrRests, HasServed, GoesOn, settings, telling_by, started_by, served_from}
use Rattle.run_laws.specs.Undisturbed.{ServerRun, RunsHub, IsUndisturbed, HasStopped}

-- an announced session has ended, or is settled
each : (s : Serving) (start : Start) (held : List (Entry Setting)) (ended : List Closing) (heard : ℕ → List Note) (busy : ℕ) (n : Meaning) → Stands Setting rules_of (settings s start) no_more held ended heard busy (length held) n
    → ((i : ℕ) (e : Entry Setting) → slice_get held i ≡ Some e → IsSettled Setting rules_of e.session (n.session e.number)) → (k : ℕ) → no_more k ⊎ IsAmong Setting k held ended → EndsOrRests s start (heard k) (n.session k)
each s start held ended heard busy n stands settled k (inl none) = absurd none
each s start held ended heard busy n stands settled k (inr (IsEndedOne i c at same)) = inl (c.1, subst (λ (j : ℕ). HasClosed (settings s start) c.1 (heard j) (n.session j)) same (stands.ended i c at))
each s start held ended heard busy n stands settled k (inr (IsOpenOne i e at same)) =
    inr (e.session, subst (λ (j : ℕ). IsHeld Setting rules_of (settings s start) e.session (heard j) (n.session j)) same (stands.each i e at), subst (λ (j : ℕ). IsSettled Setting rules_of e.session (n.session j)) same (settled i e at))

-- where a write fault is answered the output's count rose
line_failed : (text : ℕ → Note → List ℕ) (lines : LinesEnd) (old new : Option (List ℕ)) (before now : ℕ) (said : List Said) (held : List (Entry Setting)) → WritesLines text lines old new before now said held → AnswersLines served.WriteFault lines → Rose before now
line_failed text AllLines old new before now said held w (inl is) = absurd (cc)
line_failed text AllLines old new before now said held w (inr (inl is)) = absurd (cc)
line_failed text AllLines old new before now said held w (inr (inr is)) = absurd (cc)
line_failed text LastOfWork old new before now said held w is = w.1
line_failed text LastOfTurn old new before now said held w is = w.1
line_failed text LeftOpen old new before now said held w is = w.1

-- a server that stopped wrote all its lines, so none of its sessions is unsettled
all_settled : (result : Served) (lines : LinesEnd) → MayBeUnsettled result lines → result ≡ served.Stopped → lines ≡ AllLines → ⊥
all_settled served.Budget lines IsSpent e f = absurd (cc)
all_settled result LastOfTurn IsUnwritten e f = absurd (cc)

module _ (told told' : Meaning → Type 0) (counts counts' : Counts) (s : Serving) (start : Start) (m : Meaning) (known : told m) (is_fresh : IsFresh m) where
  stopped : (a b : Streams) → Serves Setting rules_of (settings s start) (told_text (telling_by s)) (served_from told counts a) (served_from told' counts' b) served.Stopped → HasServed told' s start
  stopped a b x =
      let after = x.keeps m known is_fresh in (
        after.0,
        after.1,
        after.2.event,
        λ k announced. (
          heard_in x.said k,
          each s start x.held (closings x.said) (heard_in x.said) x.busy after.0 after.2.stands
              (after.2.left.settled (λ may. all_settled served.Stopped x.lines may refl x.answers)) k (after.2.stands.covers k announced),
        ),
      )

  spent : (a b : Streams) → Serves Setting rules_of (settings s start) (told_text (telling_by s)) (served_from told counts a) (served_from told' counts' b) served.Budget → GoesOn told'
  spent a b x =
      let after = x.keeps m known is_fresh in
      (after.0, after.1, after.2.event)

  by_result : (first before now : ℕ) (a b : Streams) (ending : Ending) (result : Served) → first ≤ before → Serves Setting rules_of (settings s start) (told_text (telling_by s)) (served_from told counts a) (served_from told' counts' b) result → EndsBy result before now a b ending → (Rose first now → ⊥) → (WriteFailed a b → ⊥) → ((ending ≡ endings.Done) × HasServed told' s start) ⊎ ((ending ≡ endings.BudgetSpent) × GoesOn told') ⊎ (ending ≡ endings.OutOfMemory)
  by_result first before now a b ending served.Stopped later x ends no_hub no_write = inl (ends.0, stopped a b x)
  by_result first before now a b ending served.HubFault later x ends no_hub no_write = absurd (no_hub (rose_earlier first before now later ends.1))
  by_result first before now a b ending served.WriteFault later x ends no_hub no_write =
      absurd (no_write (inl (line_failed (told_text (telling_by s)) x.lines a.written b.written a.output_faults b.output_faults x.said x.held x.writes x.answers)))
  by_result first before now a b ending served.Budget later x ends no_hub no_write = inr (inl (ends.0, spent a b x))
  by_result first before now a b ending served.OutOfMemory later x ends no_hub no_write = inr (inr ends.0)

fresh : (s : Serving) (m n : Meaning) → NotStarted m → ((k : ℕ) → (m.session k).announced ≡ true → ⊥) → StartLeads (started_by s) began.Done m n → IsFresh n
fresh s m n before none e = subst (λ (x : Meaning). IsFresh x) (sym e) (record { started = refl; unasked = before.1; none = none })

pub served_well : {H : Type 0} (tells : H → Meaning → Type 0) (counts : H → Counts) (s : Serving) (start : Start) (h h' : H) (a b : Streams) (ending : Ending) (m : Meaning) → ServesAll tells counts s start h h' a b ending → tells h m → NotStarted m → ((k : ℕ) → (m.session k).announced ≡ true → ⊥) → (Rose (counts h).faults (counts h').faults → ⊥) → (WriteFailed a b → ⊥) → ((ending ≡ endings.Done) × HasServed (tells h') s start) ⊎ ((ending ≡ endings.BudgetSpent) × GoesOn (tells h')) ⊎ (ending ≡ endings.OutOfMemory)
served_well tells counts s start h h' a b ending m (Began mid result left later leads serves ends) known before none no_hub no_write =
    let begun = leads m known before in
    by_result (tells mid) (tells h') (counts mid) (counts h') s start begun.0 begun.1 (fresh s m begun.0 before none begun.2) (counts h).faults (counts mid).faults (counts h').faults a b ending result later.faults serves ends no_hub no_write
served_well tells counts s start h h' a b ending m (NotBegun leads rose says) known before none no_hub no_write = absurd (no_hub rose)
served_well tells counts s start h h' a b ending m (Unfound at leads rose says) known before none no_hub no_write = absurd (no_hub rose)
served_well tells counts s start h h' a b ending m (NoMemory leads says) known before none no_hub no_write = inr (inr says.is)

pub hub_stopped : {H : Type 0} (hubs : Hub H) (x : ServerRun H) (start : Start) → RunsHub hubs start x → IsUndisturbed hubs x → HasStopped (hubs.tells x.hub_behind) start x
hub_stopped hubs x start serves calm =
    served_well hubs.tells hubs.counts x.serving start x.hub x.hub_behind x.before.streams x.behind.streams x.ending calm.meaning serves calm.told calm.untouched.unstarted calm.untouched.none calm.hub calm.writes
