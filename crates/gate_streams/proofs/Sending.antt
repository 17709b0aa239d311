-- What is sent of a message, in a frame or on a line.
use Rattle.std.proofs.Common.{◌≡◌, ℕ, ◌+◌, ◌≤◌, List, ◌++◌, length, take, drop, arith, refl, ◌∙◌, append_assoc, length-append}
use Rattle.std.proofs.Math.Seq.{take-append_seam, drop-append_seam}
use Rattle.line_transport.specs.Buffers.{lead, trail}
use Rattle.line_transport.specs.Cuts.{sent}
use Rattle.line_transport.specs.declared.transport.Transport.{Transport}
use Rattle.line_transport.specs.declared.transport.Transport.TheVariants.{Frames, Lines}
use Rattle.translate_verdicts.specs.declared.verdict.HeadInfo.{HeadInfo}
use Rattle.translate_verdicts.specs.declared.verdict.Verdict.{Verdict}
use Rattle.translate_verdicts.specs.declared.verdict.Verdict.TheVariants.{Passed}
use Rattle.gate_streams.specs.Handling.{sent_by}

pub at_most_four : (t : Transport) → length (lead t) + length (trail t) ≤ 4
at_most_four Frames = omega arith
at_most_four Lines = omega arith

-- a message that passed is closed behind what stood before it and its lead
pub closed : (t : Transport) (v : Verdict) (bytes : List ℕ) (info : HeadInfo) (held front out : List ℕ) (at : ℕ) → at ≡ length held → v ≡ Passed info → out ≡ (held ++ front) ++ bytes
    → take at out ++ sent t (drop (at + length front) out) ≡ held ++ sent_by t v bytes
closed t v bytes info held front out at place is whole =
    let left : take at out ≡ held = rw (place, whole ∙ append_assoc held front bytes) (take-append_seam held (front ++ bytes)) in
    let behind : drop (at + length front) out ≡ bytes = rw (place, whole, ← length-append held front) (drop-append_seam (held ++ front) bytes) in
    rw (left, behind, is) refl
