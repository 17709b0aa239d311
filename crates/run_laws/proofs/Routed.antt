-- A router whose fan has stopped.
use Rattle.std.proofs.Common.{◌≡◌, ℕ, ◌≤◌, ◌⊎◌, inl, inr, List, length, true, Some, Option, refl, sym, subst}
use Rattle.std.specs.Prelude.{slice_get}
use Rattle.gate_base.specs.Causes.{Rose}
use Rattle.gate_fan.specs.Meaning.{Meaning}
use Rattle.gate_fan.specs.Fans.{NotStarted, StartLeads}
use Rattle.gate_fan.specs.declared.fan.Fan.{Ghosts as Fan}
use Rattle.gate_hub.specs.declared.hub.Began.TheVariants as began
use Rattle.gate_hub.specs.declared.hub.Served.{Served}
use Rattle.gate_hub.specs.declared.hub.Served.TheVariants as served
use Rattle.session_core.specs.Notes.{Note}
use Rattle.refusal_lines.specs.Told.{told_text}
use Rattle.route_server.specs.Saying.{Closing, Said, closings, heard_in}
use Rattle.route_server.specs.Serving.{Setting, Entry, Stands, IsHeld, HasClosed, IsAmong, IsOpenOne, IsEndedOne, IsFresh, no_more}
use Rattle.route_server.specs.Steps.{Serves, LinesEnd, AllLines, LastOfWork, LastOfTurn, LeftOpen, WritesLines, AnswersLines, MayBeUnsettled, IsSpent, IsUnwritten}
use Rattle.route_server.specs.Turning.{IsSettled}
use Rattle.gate_words.specs.declared.routing.Routing.{Routing}
use Rattle.gate_start.specs.Streams.{Streams}
use Rattle.gate_start.specs.declared.start.Start.{Start}
use Rattle.gate_start.specs.declared.status.Ending.{Ending}
use Rattle.gate_start.specs.declared.status.Ending.TheVariants as endings
use Rattle.gate_start.proofs.Rising.{rose_earlier}
use Rattle.gate_start.specs.Served.{EndsBy}
use Rattle.gate_streams.specs.Outcome.{WriteFailed}
use Rattle.gate_route.specs.Routes.{RoutesAll, Began, NotBegun, Unfound, NoMemory, EndsOrRests, HasRouted, RoutesOn, routed_setting, routed_telling, routed_by, routed_from}
use Rattle.run_laws.specs.Routed.{RouterRun, RoutesFrom, IsFanUndisturbed, HasStoppedFan}

-- an announced session has ended, or is settled
each : (set : Setting) (held : List Entry) (ended : List Closing) (heard : ℕ → List Note) (busy : ℕ) (n : Meaning) → Stands set no_more held ended heard busy (length held) n → ((i : ℕ) (e : Entry) → slice_get held i ≡ Some e → IsSettled e.router (n.session e.number)) → (k : ℕ) → no_more k ⊎ IsAmong k held ended → EndsOrRests set (heard k) (n.session k)
each set held ended heard busy n stands settled k (inl none) = absurd none
each set held ended heard busy n stands settled k (inr (IsEndedOne i c at same)) = inl (c.1, subst (λ (j : ℕ). HasClosed set c.1 (heard j) (n.session j)) same (stands.ended i c at))
each set held ended heard busy n stands settled k (inr (IsOpenOne i e at same)) =
    inr (e.router, subst (λ (j : ℕ). IsHeld set e.router (heard j) (n.session j)) same (stands.each i e at), subst (λ (j : ℕ). IsSettled e.router (n.session j)) same (settled i e at))

-- where a write fault is answered the output's count rose
line_failed : (text : ℕ → Note → List ℕ) (lines : LinesEnd) (old new : Option (List ℕ)) (before now : ℕ) (said : List Said) (held : List Entry) → WritesLines text lines old new before now said held → AnswersLines served.WriteFault lines → Rose before now
line_failed text AllLines old new before now said held w (inl is) = absurd (cc)
line_failed text AllLines old new before now said held w (inr (inl is)) = absurd (cc)
line_failed text AllLines old new before now said held w (inr (inr is)) = absurd (cc)
line_failed text LastOfWork old new before now said held w is = w.1
line_failed text LastOfTurn old new before now said held w is = w.1
line_failed text LeftOpen old new before now said held w is = w.1

-- a server that stopped wrote all its lines, so none of its sessions is unsettled
all_settled : (result : Served) (lines : LinesEnd) → MayBeUnsettled result lines → result ≡ served.Stopped → lines ≡ AllLines → ⊥
all_settled served.Budget lines IsSpent e f = absurd (cc)
all_settled result LastOfTurn IsUnwritten e f = absurd (cc)

module _ {M : Type 0} (fans : Fan M) (mid h' : M) (r : Routing) (start : Start) (m : Meaning) (known : fans.tells mid m) (is_fresh : IsFresh m) where
  stopped : (a b : Streams) → Serves (routed_setting r start) (told_text (routed_telling r)) (routed_from fans mid a) (routed_from fans h' b) served.Stopped → HasRouted (fans.tells h') r start
  stopped a b x =
      let after = x.keeps m known is_fresh in (
        after.0,
        after.1,
        after.2.event,
        λ k announced. (
          heard_in x.said k,
          each (routed_setting r start) x.held (closings x.said) (heard_in x.said) x.busy after.0 after.2.stands
              (after.2.left.settled (λ may. all_settled served.Stopped x.lines may refl x.answers)) k (after.2.stands.covers k announced),
        ),
      )

  spent : (a b : Streams) → Serves (routed_setting r start) (told_text (routed_telling r)) (routed_from fans mid a) (routed_from fans h' b) served.Budget → RoutesOn (fans.tells h')
  spent a b x =
      let after = x.keeps m known is_fresh in
      (after.0, after.1, after.2.event)

  by_result : (first before now : ℕ) (a b : Streams) (ending : Ending) (result : Served) → first ≤ before → Serves (routed_setting r start) (told_text (routed_telling r)) (routed_from fans mid a) (routed_from fans h' b) result → EndsBy result before now a b ending → (Rose first now → ⊥) → (WriteFailed a b → ⊥) → ((ending ≡ endings.Done) × HasRouted (fans.tells h') r start) ⊎ ((ending ≡ endings.BudgetSpent) × RoutesOn (fans.tells h')) ⊎ (ending ≡ endings.OutOfMemory)
  by_result first before now a b ending served.Stopped later x ends no_fan no_write = inl (ends.0, stopped a b x)
  by_result first before now a b ending served.HubFault later x ends no_fan no_write = absurd (no_fan (rose_earlier first before now later ends.1))
  by_result first before now a b ending served.WriteFault later x ends no_fan no_write =
      absurd (no_write (inl (line_failed (told_text (routed_telling r)) x.lines a.written b.written a.output_faults b.output_faults x.said x.held x.writes x.answers)))
  by_result first before now a b ending served.Budget later x ends no_fan no_write = inr (inl (ends.0, spent a b x))
  by_result first before now a b ending served.OutOfMemory later x ends no_fan no_write = inr (inr ends.0)

fresh : (r : Routing) (m n : Meaning) → NotStarted m → ((k : ℕ) → (m.session k).announced ≡ true → ⊥) → StartLeads (routed_by r) began.Done m n → IsFresh n
fresh r m n before none e = subst (λ (x : Meaning). IsFresh x) (sym e) (record { started = refl; unasked = before.1; none = none })

pub routed_well : {M : Type 0} (fans : Fan M) (r : Routing) (start : Start) (h h' : M) (a b : Streams) (ending : Ending) (m : Meaning) → RoutesAll fans r start h h' a b ending → fans.tells h m → NotStarted m → ((k : ℕ) → (m.session k).announced ≡ true → ⊥) → (Rose (fans.counts h).faults (fans.counts h').faults → ⊥) → (WriteFailed a b → ⊥) → ((ending ≡ endings.Done) × HasRouted (fans.tells h') r start) ⊎ ((ending ≡ endings.BudgetSpent) × RoutesOn (fans.tells h')) ⊎ (ending ≡ endings.OutOfMemory)
routed_well fans r start h h' a b ending m (Began mid result left later leads serves ends) known before none no_fan no_write =
    let begun = leads m known before in
    by_result fans mid h' r start begun.0 begun.1 (fresh r m begun.0 before none begun.2) (fans.counts h).faults (fans.counts mid).faults (fans.counts h').faults a b ending result later.faults serves ends no_fan no_write
routed_well fans r start h h' a b ending m (NotBegun leads rose says) known before none no_fan no_write = absurd (no_fan rose)
routed_well fans r start h h' a b ending m (Unfound at target is leads rose says) known before none no_fan no_write = absurd (no_fan rose)
routed_well fans r start h h' a b ending m (NoMemory leads says) known before none no_fan no_write = inr (inr says.is)

pub fan_stopped : {M : Type 0} (fans : Fan M) (x : RouterRun M) (start : Start) → RoutesFrom fans start x → IsFanUndisturbed fans x → HasStoppedFan (fans.tells x.fan_behind) start x
fan_stopped fans x start routes calm =
    routed_well fans x.routing start x.fan x.fan_behind x.before.streams x.behind.streams x.ending calm.meaning routes calm.told calm.untouched.unstarted calm.untouched.none calm.fan calm.writes
