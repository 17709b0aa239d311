use Rattle.std.proofs.Common.{◌≡◌, ◌-◌, ℕ, length}
use Rattle.gate_hub.specs.Meaning.{Link, Meaning, link_of, IsOpen}
use Rattle.gate_hub.specs.Hubs.{Later}
use Rattle.stream_messages.specs.declared.scan.Wire.{Wire}
use Rattle.stream_messages.specs.declared.framer.Behind.TheVariants as behind
use Rattle.stream_messages.specs.Framing.{IsIdle}
use Rattle.stream_messages.specs.Lanes.{Reads, Underway, SideGoes, StaysSent}
use Rattle.stream_messages.proofs.lane.read_on.Given as goal

abbrev pub invariant-loop-framer : goal.invariant-loop-framer
invariant-loop-framer g l =
    let hub = g.H.Hub in
    record {
      idle : IsIdle l.framer;
      messages : l.framer.behind ≡ behind.Messages;
      limit : l.framer.limit ≡ l.fn.framer.limit;
      goes : (wire : Wire) (limit : ℕ) (a : Meaning) (outer : Link) → hub.tells l.fn.hub a → IsOpen l.k a → Reads wire limit l.fn.framer (link_of (a.session l.k) l.side) outer
          → (b : Meaning) × hub.tells l.hub b × SideGoes l.k l.side StaysSent a b × Underway wire limit l.framer (link_of (b.session l.k) l.side) outer;
      later : Later (hub.counts l.fn.hub) (hub.counts l.hub);
      kept : hub.kept l.hub ≡ hub.kept l.fn.hub;
    }

abbrev pub decreases-loop-framer : goal.decreases-loop-framer
decreases-loop-framer g l = l.framer.limit - length l.framer.fresh
