-- A hub that wraps another one, before its start and when it has stopped.
use Rattle.std.proofs.Common.{◌≡◌, ℕ, ◌⊎◌, Option, None, true, refl, sym, subst}
use Rattle.gate_base.specs.Causes.{Rose}
use Rattle.gate_hub.specs.Meaning.{Started, Meaning}
use Rattle.gate_hub.specs.Hubs.{Counts, NotStarted}
use Rattle.gate_hub.specs.declared.hub.Hub.{Ghosts as Hub}
use Rattle.stream_messages.specs.declared.lanes.Wrapping.{Wrapping}
use Rattle.stream_messages.specs.Telling.{Tells, AreSlots}
use Rattle.gate_words.specs.declared.peers.Sides.{Sides}
use Rattle.gate_words.specs.declared.serving.Serving.{Serving}
use Rattle.gate_start.specs.Streams.{Streams}
use Rattle.gate_start.specs.declared.start.Start.{Start}
use Rattle.gate_start.specs.declared.status.Ending.{Ending}
use Rattle.gate_start.specs.declared.status.Ending.TheVariants as endings
use Rattle.gate_streams.specs.Outcome.{WriteFailed}
use Rattle.gate_serve.specs.Peers.{Unframed, unframed, unframed_tells, unframed_counts, wrapping_by, ServesUnframed}
use Rattle.gate_serve.specs.Serving.{HasServed, GoesOn}
use Rattle.run_laws.specs.Undisturbed.{ServerRun, RunsSides, IsUndisturbed, HasStoppedOver}
use Rattle.run_laws.proofs.Served.{served_well}

-- before the start the wrapping hub tells what the hub below tells
no_slots : (w : Wrapping) (started : Option Started) → started ≡ None → AreSlots w started None
no_slots w started none = subst (λ o. AreSlots w o None) (sym none) refl

pub tells_before : (w : Wrapping) (m : Meaning) → NotStarted m → ((k : ℕ) → (m.session k).announced ≡ true → ⊥) → Tells w None m m
tells_before w m before none = record {
  announced = λ k a. absurd (none k a);
  unknown = λ k a. refl;
  known = λ at slot is. absurd (cc);
  rising = λ i j d e less is other. absurd (cc);
  started = refl;
  last_event = refl;
  events = refl;
  slots_are = no_slots w m.started before.0;
}

pub wrapped_well : {H : Type 0} (tells : H → Meaning → Type 0) (counts : H → Counts) (sides : Sides) (s : Serving) (start : Start) (h h' : H) (a b : Streams) (ending : Ending) (m : Meaning)
    → ServesUnframed sides tells counts s start h h' a b ending → tells h m → NotStarted m → ((k : ℕ) → (m.session k).announced ≡ true → ⊥) → (Rose (counts h).faults (counts h').faults → ⊥) → (WriteFailed a b → ⊥)
    → (u : Unframed H) × (u.inner ≡ h') × (((ending ≡ endings.Done) × HasServed (unframed_tells tells u) s start) ⊎ ((ending ≡ endings.BudgetSpent) × GoesOn (unframed_tells tells u)) ⊎ (ending ≡ endings.OutOfMemory))
wrapped_well {H} tells counts sides s start h h' a b ending m over told before none no_hub no_write =
    let w = wrapping_by sides s in (
      over.0,
      over.1,
      served_well (unframed_tells tells) (unframed_counts counts) s start (unframed w h) over.0 a b ending m over.3 (m, told, tells_before w m before none) before none
          (subst (λ (x : H). Rose (counts h).faults (counts x).faults → ⊥) (sym over.1) no_hub) no_write,
    )

pub wrapped_stopped : {H : Type 0} (hubs : Hub H) (x : ServerRun H) (start : Start) (sides : Sides) → RunsSides hubs sides start x → IsUndisturbed hubs x → HasStoppedOver hubs.tells x.hub_behind start x
wrapped_stopped hubs x start sides serves calm =
    wrapped_well hubs.tells hubs.counts sides x.serving start x.hub x.hub_behind x.before.streams x.behind.streams x.ending calm.meaning serves calm.told calm.untouched.unstarted calm.untouched.none calm.hub calm.writes
