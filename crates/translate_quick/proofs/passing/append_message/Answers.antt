use Rattle.std.proofs.Common.{◌+◌, ℕ, List, ◌++◌, length, take, sym, ap, ◌∙◌, append_assoc}
use Rattle.gate_io.specs.Buffer.{Buffer}
use Rattle.gate_io.specs.Tails.{written_over}
use Rattle.gate_io.proofs.Tails.{cut_none, cut_tail}
use Rattle.protocol_traits.specs.Heads.{header_of}
use Rattle.translate_quick.proofs.passing.append_message.Goals as goal

pub returns-in-Some-clause-passes : goal.returns-in-Some-clause-passes
returns-in-Some-clause-passes g c passed body means s stands =
    let front = g.W.WireWrite.plain_head (header_of c.args.head.now) in
    let x = c.in-Some.ensures.passes body means s stands in (
      x.0,
      x.1,
      x.2,
      x.3,
      x.4,
      x.5,
      ap (λ (b : Buffer). b.bytes) c.cut.ensures
          ∙ (ap (λ (n : ℕ). take (n + c.in-Some.written) (c.args.out.now.bytes ++ written_over c.tail-cells.result.now c.take_message.new.cells)) (ap (λ (held : List ℕ). length held) c.bytes-before.ensures.bytes)
          ∙ (cut_tail c.args.out.now.bytes c.tail-cells.result.now c.take_message.new.cells (front ++ x.3) c.in-Some.written c.in-Some.ensures.kept x.6
          ∙ sym (append_assoc c.args.out.now.bytes front x.3))),
    )

pub returns-in-None-clause-left : goal.returns-in-None-clause-left
returns-in-None-clause-left g c left =
    c.cut-in-None.ensures
    ∙ ap (λ (bytes : List ℕ). record { bytes = bytes; room = c.args.out.now.room }) (ap (λ (n : ℕ). take n (c.args.out.now.bytes ++ written_over c.tail-cells.result.now c.take_message.new.cells)) (ap (λ (held : List ℕ). length held) c.bytes-before.ensures.bytes)
    ∙ cut_none c.args.out.now.bytes c.tail-cells.result.now c.take_message.new.cells)
