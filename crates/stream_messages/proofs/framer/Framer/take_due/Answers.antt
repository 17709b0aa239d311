use Rattle.std.proofs.Common.{◌≡◌, ◌∙◌, ◌+◌, ◌-◌, ◌≤◌, List, ℕ, length, take, drop, arith, ap, sym, subst}
use Rattle.std.proofs.lemmas.List.{length-drop, length-take-le}
use Rattle.std.proofs.lemmas.Grind.{common_steps}
use Rattle.gate_io.specs.Buffer.{Buffer}
use Rattle.stream_messages.specs.Searching.{Searches}
use Rattle.stream_messages.specs.Framing.{FramerState, due_bytes}
use Rattle.stream_messages.proofs.Due.{room_for, first_due, due_behind, behind_due}
use Rattle.stream_messages.proofs.Finding.{laid_due}
use Rattle.stream_messages.proofs.framer.Framer.take_due.Goals as goal

pub invariant_of-self : goal.invariant_of-self
invariant_of-self c =
    let i = c.self.inside in
    let h = c.min-head.result in
    let n = c.min-count.result in
    let few : h ≤ i.due.head_left = omega (arith, c.min-head.ensures) in
    let some : n ≤ i.due.left = omega (arith, c.min-count.ensures) in
    let bytes : c.drop_front.new.self.bytes ≡ drop n i.bytes.bytes = ap (λ (b : Buffer). b.bytes) c.drop_front.ensures in
    let behind = behind_due i.due i.bytes.bytes c.self.invariant.6 c.self.invariant.3 c.self.invariant.4 h n few some in (
      c.self.invariant.0,
      c.self.invariant.1,
      ap (λ (b : Buffer). b.room) c.drop_front.ensures ∙ c.self.invariant.2,
      omega (arith, c.self.invariant.3),
      omega (arith, ap (λ (l : List ℕ). length l) bytes, length-drop n i.bytes.bytes, c.self.invariant.4, some),
      subst (λ l. Searches i.search l) (sym (ap (λ (l : List ℕ). drop (i.due.left - n) l) bytes ∙ behind)) c.self.invariant.5,
      c.self.invariant.6,
    )

pub returns-clause-bytes : goal.returns-clause-bytes
returns-clause-bytes c =
    let i = c.self.inside in
    let h = c.min-head.result in
    let n = c.min-count.result in
    let few : h ≤ i.due.head_left = omega (arith, c.min-head.ensures) in
    let some : n ≤ i.due.left = omega (arith, c.min-count.ensures) in
    let room = room_for i.due.head_left i.due.left _ h n c.min-head.ensures c.min-count.ensures in
    let first = first_due i.due i.bytes.bytes c.self.invariant.6 c.self.invariant.3 c.self.invariant.4 h n few some room in
    let head = length-take-le h (drop (4 - i.due.head_left) i.due.head) (omega (arith, length-drop (4 - i.due.head_left) i.due.head, few, c.self.invariant.6, c.self.invariant.3)) in
    let body = length-take-le n i.bytes.bytes (omega (arith, some, c.self.invariant.4)) in
    laid_due i.due i.bytes.bytes h n c.lay.new.into _ _ c.lay.ensures (ap (λ k. take k (drop (4 - i.due.head_left) i.due.head)) (omega arith)) (ap (λ (l : List ℕ). take n l) c.bytes.ensures.bytes) head body first
    ∙ ap (λ (s : FramerState). take (h + n) s.due) c.self.view_is

pub returns-clause-left : goal.returns-clause-left
returns-clause-left c =
    let i = c.self.inside in
    let h = c.min-head.result in
    let n = c.min-count.result in
    let few : h ≤ i.due.head_left = omega (arith, c.min-head.ensures) in
    let some : n ≤ i.due.left = omega (arith, c.min-count.ensures) in
    let room = room_for i.due.head_left i.due.left _ h n c.min-head.ensures c.min-count.ensures in
    let bytes : c.drop_front.new.self.bytes ≡ drop n i.bytes.bytes = ap (λ (b : Buffer). b.bytes) c.drop_front.ensures in
    let due = due_behind i.due i.bytes.bytes c.self.invariant.6 c.self.invariant.3 c.self.invariant.4 h n few some room in
    let behind = behind_due i.due i.bytes.bytes c.self.invariant.6 c.self.invariant.3 c.self.invariant.4 h n few some in
    ap (λ (l : List ℕ). record { wire = i.search.wire; limit = i.search.limit; due = due_bytes (record { head = i.due.head; head_left = i.due.head_left - h; left = i.due.left - n }) l; fresh = drop (i.due.left - n) l; behind = i.behind }) bytes
    ∙ (ap (λ (d : List ℕ). record { wire = i.search.wire; limit = i.search.limit; due = d; fresh = drop (i.due.left - n) (drop n i.bytes.bytes); behind = i.behind }) due
    ∙ (ap (λ (f : List ℕ). record { wire = i.search.wire; limit = i.search.limit; due = drop (h + n) (due_bytes i.due i.bytes.bytes); fresh = f; behind = i.behind }) behind
    ∙ ap (λ (s : FramerState). record s { due = drop (h + n) s.due }) c.self.view_is))

pub slice_bounds-lay-end-2 : goal.slice_bounds-lay-end-2
slice_bounds-lay-end-2 c = grind (arith, common_steps)

pub returns-clause-count : goal.returns-clause-count
returns-clause-count c = grind (arith, common_steps)
