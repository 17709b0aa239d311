-- A hub whose clients send POSTs, before its start and when it has stopped.
use Rattle.std.proofs.Common.{◌≡◌, false, Option, None, Some, refl, sym, ◌∙◌, subst}
use Rattle.gate_base.specs.Causes.{Rose}
use Rattle.gate_hub.specs.Meaning.{Started, Meaning}
use Rattle.gate_hub.specs.Hubs.{Counts, NotStarted}
use Rattle.gate_hub.specs.declared.hub.Hub.{Ghosts as Hub}
use Rattle.gate_hub.specs.declared.hub.HubNext.TheVariants as event
use Rattle.http_front.specs.Telling.{Tells, AreSlots}
use Rattle.http_front.specs.Fronts.{Reading}
use Rattle.gate_words.specs.declared.peers.Sides.{Sides}
use Rattle.gate_start.specs.declared.start.Start.{Start}
use Rattle.gate_serve.specs.Peers.{ServesBySides}
use Rattle.gate_serve.specs.Posts.{posting, posting_tells, posting_counts, reading_by, ServesPosts}
use Rattle.run_laws.specs.Undisturbed.{ServerRun, RunsPosts, IsUntouched, IsUndisturbed, HasWritten, HasStoppedBySides, HasStoppedPosts}
use Rattle.run_laws.proofs.Served.{served_well}
use Rattle.run_laws.proofs.Wrapped.{wrapped_well}

-- before the start it tells what the hub below tells
no_slots : (r : Reading) (started : Option Started) → started ≡ None → AreSlots r started None
no_slots r started none = subst (λ o. AreSlots r o None) (sym none) refl

not_over : (m : Meaning) → NotStarted m → m.last_event ≡ Some event.Stopped → ⊥
not_over m before e = (let wrong : None ≡ Some event.Stopped = sym before.1 ∙ e in cc)

pub tells_before : (r : Reading) (m : Meaning) → IsUntouched m → Tells r None false m m
tells_before r m before = record {
  announced = λ k a. absurd (before.none k a);
  unknown = λ k a. refl;
  open_in = λ at slot is. absurd (cc);
  rising = λ i j d e less is other. absurd (cc);
  started = refl;
  asked = λ e. e;
  ends = λ e. absurd (not_over m before.unstarted e);
  slots_are = no_slots r m.started before.unstarted.0;
}

module _ {H : Type 0} (x : ServerRun H) (start : Start) where
  by_own_sides : {K : Type 0} (tells : K → Meaning → Type 0) (counts : K → Counts) (h h' : K) (m : Meaning) (sides : Option Sides)
      → ServesBySides sides tells counts x.serving start h h' x.before.streams x.behind.streams x.ending → tells h m → IsUntouched m → (Rose (counts h).faults (counts h').faults → ⊥)
      → HasWritten x.before.streams x.behind.streams → HasStoppedBySides sides tells h' start x
  by_own_sides tells counts h h' m None serves told before no_hub no_write =
      served_well tells counts x.serving start h h' x.before.streams x.behind.streams x.ending m serves told before.unstarted before.none no_hub no_write
  by_own_sides tells counts h h' m (Some sides) serves told before no_hub no_write =
      wrapped_well tells counts sides x.serving start h h' x.before.streams x.behind.streams x.ending m serves told before.unstarted before.none no_hub no_write

  pub posts_well : (tells : H → Meaning → Type 0) (counts : H → Counts) → ServesPosts tells counts x.serving start x.hub x.hub_behind x.before.streams x.behind.streams x.ending → (m : Meaning) → tells x.hub m → IsUntouched m
      → (Rose (counts x.hub).faults (counts x.hub_behind).faults → ⊥) → HasWritten x.before.streams x.behind.streams → HasStoppedPosts tells x.hub_behind start x
  posts_well tells counts over m told before no_hub no_write =
      let r = reading_by x.serving start in (
        over.0,
        over.1,
        by_own_sides (posting_tells tells) (posting_counts counts) (posting r x.hub) over.0 m x.serving.unframed over.3 (m, told, tells_before r m before) before
            (subst (λ (h : H). Rose (counts x.hub).faults (counts h).faults → ⊥) (sym over.1) no_hub) no_write,
      )

pub posts_stopped : {H : Type 0} (hubs : Hub H) (x : ServerRun H) (start : Start) → RunsPosts hubs start x → IsUndisturbed hubs x → HasStoppedPosts hubs.tells x.hub_behind start x
posts_stopped hubs x start serves calm = posts_well x start hubs.tells hubs.counts serves calm.meaning calm.told calm.untouched calm.hub calm.writes
