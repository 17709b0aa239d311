use Rattle.std.proofs.Common.{◌+◌, ◌≤◌, ◌<◌, take, refl, ap, arith}
use Rattle.std.proofs.lemmas.List.{length-take, take-take}
use Rattle.stream_messages.specs.Scanning.{Scanning}
use Rattle.stream_messages.proofs.Taking.{all_bytes}
use Rattle.stream_messages.proofs.Whole.{spans_passed}
use Rattle.stream_messages.proofs.scan.Scan.pass_fields.Goals as goal

pub returns-clause-passes : goal.returns-clause-passes
returns-clause-passes c = λ front read.
    let piece = c.args.piece.now in
    let most = c.saturating_sub-2.result in
    let n = c.pass_fields-count.result in
    let few : n ≤ most = omega (arith, c.pass_fields-count.ensures.within, length-take most piece) in
    let room : c.self.inside.taken + n < c.self.inside.limit = omega (
      arith,
      few,
      c.saturating_sub-2.ensures,
      c.min-room.ensures,
      c.saturating_sub.ensures,
      read.taken,
      read.room,
      ap (λ (z : Scanning). z.taken) c.self.view_is,
      ap (λ (z : Scanning). z.limit) c.self.view_is,
    ) in
    spans_passed _ c.args.self.now c.self.view_is front (take most piece) piece n _ c.pass_fields-count.new.nest c.requires.at.0 c.requires.at.1 c.pass_fields-count.ensures.spans (all_bytes most piece (λ i. omega (arith, c.type_inv.piece i)))
    (take-take n most piece few) refl room read
