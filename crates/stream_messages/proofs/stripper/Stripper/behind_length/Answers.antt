use Rattle.std.proofs.Common.{◌≡◌, ◌∙◌, ◌+◌, ◌-◌, ◌≤◌, List, ℕ, [], ◌++◌, length, take, refl, sym, ap, arith}
use Rattle.std.specs.Int.{w32, from_be_bytes}
use Rattle.std.proofs.lemmas.List.{length-take-le, take_all}
use Rattle.std.proofs.lemmas.Grind.{common_steps}
use borrow.Rule.Slice.PartMut.{put_mid}
use Rattle.stream_messages.specs.Stripping.{StripperState}
use Rattle.stream_messages.proofs.Stripping.{length_short, length_full}
use Rattle.stream_messages.proofs.Finding.{front_written, written_size}
use Rattle.stream_messages.proofs.stripper.Stripper.behind_length.Goals as goal

pub returns-then-self-gt0-clause-behind : goal.returns-then-self-gt0-clause-behind
returns-then-self-gt0-clause-behind c = ((c.passed.ensures.behind [] refl).0, refl)

pub returns-then-known-lt-LENGTH-clause-behind : goal.returns-then-known-lt-LENGTH-clause-behind
returns-then-known-lt-LENGTH-clause-behind c =
    let i = c.self.inside in
    let n = c.min-count.result in
    let from = c.args.from.now in
    let some : n ≤ length from = omega (arith, c.min-count.ensures) in
    let within : i.known ≤ length i.head = omega (arith, c.self.told, c.self.invariant.0) in
    let front = front_written i.head c.copy_from_slice.new.self from i.known n ((i.known + n) - i.known) c.copy_from_slice.ensures.after within some in
    let same : take i.known i.head ≡ c.args.self.now.length_bytes = ap (λ (s : StripperState). s.length_bytes) c.self.view_is in
    let size : length c.args.self.now.length_bytes ≡ i.known = ap (λ (l : List ℕ). length l) (sym same) ∙ length-take-le i.known i.head within in
    length_short c.args.self.now _ (take n from) (omega (arith, ap (λ (s : StripperState). s.left) c.self.view_is, c.if-self-gt0.false))
    (omega (arith, size, length-take-le n from some, c.if-known-lt-LENGTH.true))
    (ap (λ (l : List ℕ). record { length_bytes = l; left = 0 }) (front ∙ ap (λ l. l ++ take n from) same))

pub returns-clause-behind : goal.returns-clause-behind
returns-clause-behind c =
    let i = c.self.inside in
    let n = c.min-count.result in
    let from = c.args.from.now in
    let whole = put_mid i.known ((i.known + n) - i.known) i.head c.copy_from_slice.new.self in
    let few : i.known + n ≤ 4 = omega (arith, c.min-count.ensures, c.self.invariant.0) in
    let some : n ≤ length from = omega (arith, c.min-count.ensures) in
    let within : i.known ≤ length i.head = omega (arith, c.self.told, c.self.invariant.0) in
    let front = front_written i.head c.copy_from_slice.new.self from i.known n ((i.known + n) - i.known) c.copy_from_slice.ensures.after within some in
    let full = written_size i.head c.copy_from_slice.new.self from i.known n ((i.known + n) - i.known) c.copy_from_slice.ensures.after (omega arith) (omega (arith, few, c.self.told)) some in
    let same : take i.known i.head ≡ c.args.self.now.length_bytes = ap (λ (s : StripperState). s.length_bytes) c.self.view_is in
    let size : length c.args.self.now.length_bytes ≡ i.known = ap (λ (l : List ℕ). length l) (sym same) ∙ length-take-le i.known i.head within in
    let all : whole ≡ c.args.self.now.length_bytes ++ take n from =
    sym (take_all (i.known + n) whole (omega (arith, full, c.self.told, c.if-known-lt-LENGTH.false))) ∙ (front ∙ ap (λ l. l ++ take n from) same) in
    length_full c.args.self.now _ (take n from) (omega (arith, ap (λ (s : StripperState). s.left) c.self.view_is, c.if-self-gt0.false)) (omega (arith, size, c.self.invariant.0))
    (omega (arith, size, length-take-le n from some, few, c.if-known-lt-LENGTH.false))
    (ap (λ (k : ℕ). record { length_bytes = []; left = k }) (c.from_be_bytes.ensures ∙ ap (λ (l : List ℕ). from_be_bytes w32 l) all))

pub invariant_of-behind-2 : goal.invariant_of-behind-2
invariant_of-behind-2 c = grind (arith, common_steps)

pub invariant_of-behind : goal.invariant_of-behind
invariant_of-behind c = grind (arith, common_steps)

pub copy_from_slice-requires : goal.copy_from_slice-requires
copy_from_slice-requires c = grind (arith, common_steps)

pub slice_bounds-copy_from_slice-end : goal.slice_bounds-copy_from_slice-end
slice_bounds-copy_from_slice-end c = grind (arith, common_steps)
