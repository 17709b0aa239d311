use Rattle.std.proofs.Common.{rules, ◌+◌, ◌≤◌, ◌<◌, ◌++◌, take, refl, ap, arith}
use Rattle.std.proofs.lemmas.List.{length-take, take-take}
use Rattle.std.proofs.lemmas.Grind.{common_steps}
use Rattle.stream_messages.specs.Scanning.{Scanning}
use Rattle.stream_messages.proofs.Pieces.{from_here, passes_on}
use Rattle.stream_messages.proofs.Taking.{all_bytes}
use Rattle.stream_messages.proofs.Whole.{header_passed}
use Rattle.stream_messages.proofs.FieldLaws.{fields_settle}
use Rattle.stream_messages.proofs.scan.Scan.pass_header.Goals as goal

pub returns-clause-passes : goal.returns-clause-passes
returns-clause-passes c = λ front read.
    let piece = c.args.piece.now in
    let most = c.saturating_sub-2.result in
    let n = c.in-Some.size in
    let few : n ≤ most = omega (arith, c.in-Some.ensures.within, length-take most piece) in
    let room : c.self.inside.taken + n < c.self.inside.limit = omega (
      arith,
      few,
      c.saturating_sub-2.ensures,
      c.min-room.ensures,
      c.saturating_sub.ensures,
      read.taken,
      read.room,
      ap (λ (z : Scanning). z.taken) c.self.view_is,
      ap (λ (z : Scanning). z.limit) c.self.view_is,
    ) in
    passes_on c.pass_fields.new.self front piece _ n c.pass_fields.result _ _ _ _ (from_here n piece) (ap (λ (z : Scanning). z.wire) c.self.view_is) (ap (λ (z : Scanning). z.limit) c.self.view_is)
    (c.pass_fields.ensures.passes (front ++ take n piece)
    (header_passed _ c.args.self.now c.self.view_is front (take most piece) piece n _ c.in-Some-Fields.field-0-0 c.requires.at.0 c.requires.at.1 (search rules) (λ up. fields_settle c.in-Some-Fields.field-0-0 up) c.in-Some.ensures
    (all_bytes most piece (λ i. omega (arith, c.type_inv.piece i))) (take-take n most piece few) refl room read))

pub returns-in_default-header_size-clause-passes : goal.returns-in_default-header_size-clause-passes
returns-in_default-header_size-clause-passes c = grind (arith, common_steps)

pub slice_bounds-pass_fields-start : goal.slice_bounds-pass_fields-start
slice_bounds-pass_fields-start c = grind (arith, common_steps)

pub slice_bounds-pass_fields-count : goal.slice_bounds-pass_fields-count
slice_bounds-pass_fields-count c = grind (arith, common_steps)
