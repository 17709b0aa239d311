-- An item or a header as a scan sees it: which levels it leaves, and how many bytes it has.
use Rattle.std.proofs.Common.{◌≡◌, ℕ, pos, Bool, true, false, List, [], ◌∷◌, Ok, Err, refl, ap}
use Rattle.std.specs.Prelude.{if◌then◌else◌}
use Rattle.thrift_value.specs.Items.{Item}
use Rattle.protocol_traits.specs.declared.fault.Fault.{Fault}
use Rattle.protocol_traits.specs.declared.fault.Reason.{Reason}
use Rattle.protocol_traits.specs.declared.fault.Reason.TheVariants as reasons
use Rattle.protocol_traits.specs.declared.nest.Slot.{Slot}
use Rattle.protocol_traits.specs.declared.nest.Slot.TheVariants as slots
use Rattle.protocol_traits.specs.Follow.{after}
use Rattle.protocol_traits.specs.Heads.{Header}
use Rattle.protocol_traits.specs.Steps.{Step}
use Rattle.stream_messages.specs.Feeding.{Ran, goes, short, wrong}

abbrev pub is_cut : Reason → Bool
is_cut reasons.Truncated = true
is_cut reason = false

abbrev pub faulty : Fault → Ran
faulty f = if is_cut f.reason then short else wrong

abbrev pub seen : List Slot → Step ℕ Item → Ran
seen nest (Ok x) = goes (after x.0 nest) x.1
seen nest (Err f) = faulty f

abbrev pub body_open : List Slot
body_open = slots.Fields (pos 0) ∷ []

abbrev pub seen_head : Step ℕ Header → Ran
seen_head (Ok x) = goes body_open x.1
seen_head (Err f) = faulty f

pub cut_reason : (r : Reason) → is_cut r ≡ true → r ≡ reasons.Truncated
cut_reason reasons.Truncated e = refl
cut_reason r e = absurd (cc)

pub other_reason : (r : Reason) → is_cut r ≡ false → r ≡ reasons.Truncated → ⊥
other_reason r e t = absurd (cc (ap is_cut t))
