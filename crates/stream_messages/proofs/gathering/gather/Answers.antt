use Rattle.std.proofs.Common.{◌≡◌, ◌∙◌, ◌+◌, ◌-◌, ◌≤◌, ℕ, List, [], length, take, drop, refl, ap, subst, arith}
use Rattle.std.proofs.lemmas.List.{length-drop, length-take-le}
use Rattle.std.proofs.lemmas.Grind.{common_steps}
use Rattle.stream_messages.specs.Stripping.{IsBehindLength}
use Rattle.stream_messages.proofs.Pieces.{from_here}
use Rattle.stream_messages.proofs.Finding.{put_size, written_size}
use Rattle.stream_messages.proofs.Pooling.{begins, gathers_on, copied_on}
use Rattle.stream_messages.proofs.gathering.gather.Goals as goal

pub frames-init : goal.frames-init
frames-init c = record { size = refl; gathers = begins c.args.stripper.now c.passed-behind.result c.args.from.now c.args.into.now (c.passed-behind.ensures.behind [] refl).0 }

pub frames-preserved : goal.frames-preserved
frames-preserved c =
    let from = c.args.from.now in
    let into = c.frames.into in
    let taken = c.frames.taken in
    let filled = c.frames.filled in
    let head = c.behind_length-next.result.1 in
    let count = c.min-count.result in
    let at = taken + head in
    let k = (filled + count) - filled in
    let new = c.copy_from_slice.new.self in
    let i = c.frames.invariant in
    let few : head ≤ length (drop taken from) = subst (λ l. head ≤ length l) (from_here taken from) c.behind_length-next.ensures.within in
    let inside : at ≤ length from = omega (arith, few, length-drop taken from, i.gathers.within) in
    let some : count ≤ length from - at = omega (arith, c.min-count.ensures, c.min.ensures) in
    let room : count ≤ length into - filled = omega (arith, c.min-count.ensures) in
    let same : (at + count) - at ≡ count = omega arith in
    let is : new ≡ take count (drop at from) = c.copy_from_slice.ensures.after ∙ ap (λ j. take j (drop at from)) same in
    let there : count ≤ length (drop at from) = omega (arith, some, length-drop at from) in
    let new_size : length new ≡ count = ap (λ (l : List ℕ). length l) is ∙ length-take-le count (drop at from) there in
    let full = written_size into new (drop at from) filled count k is (omega arith) (omega (arith, room, i.gathers.fits)) there in
    record {
      size = full ∙ i.size;
      gathers = gathers_on c.args.stripper.now c.frames.behind c.behind_length-next.result.0 c.passed-behind-in-frames.result from into _ taken filled head count i.gathers
          (subst (λ l. IsBehindLength c.frames.behind (take head l) c.behind_length-next.result.0) (from_here taken from) c.behind_length-next.ensures.behind)
          c.passed-behind-in-frames.ensures.behind
          (omega (arith, inside, some))
          (put_size into new filled k count i.gathers.fits (omega (arith, new_size)))
          (copied_on into new from filled count k at is i.gathers.fits there);
    }

pub frames-smaller : goal.frames-smaller
frames-smaller c = grind (arith, common_steps)

pub copy_from_slice-requires : goal.copy_from_slice-requires
copy_from_slice-requires c = grind (arith, common_steps)
