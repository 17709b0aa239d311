use Rattle.std.proofs.Common.{List, ℕ, ◌++◌, sym, ap, ◌∙◌, append_assoc}
use Rattle.gate_io.proofs.Tails.{cut_none, written_all}
use Rattle.gate_io.specs.Tails.{written_over}
use Rattle.std.specs.Prelude.{length, take}
use Rattle.protocol_traits.specs.Heads.{header_of}
use Rattle.kept_messages.proofs.message.append_message.Goals as goal

pub returns-then-keep_message-clause-passes : goal.returns-then-keep_message-clause-passes
returns-then-keep_message-clause-passes g c passed body means s stands =
    let front = g.W.WireWrite.plain_head (header_of c.args.head.now) in
    let x = c.keep_message.ensures.passes c.if-keep_message.true body means s stands in (
      x.0,
      x.1,
      x.2,
      x.3,
      x.4,
      x.5,
      ap (λ (bytes : List ℕ). c.args.out.now.bytes ++ bytes) (written_all c.tail-cells.result.now c.keep_message.new.cells c.keep_message.ensures.kept
          ∙ (x.6 ∙ ap (λ (head : List ℕ). head ++ x.3) c.requires.own))
          ∙ sym (append_assoc c.args.out.now.bytes front x.3),
    )

pub returns-clause-left : goal.returns-clause-left
returns-clause-left g c left =
    c.cut.ensures
    ∙ ap (λ (bytes : List ℕ). record { bytes = bytes; room = c.args.out.now.room }) (ap (λ (n : ℕ). take n (c.args.out.now.bytes ++ written_over c.tail-cells.result.now c.keep_message.new.cells)) (ap (λ (held : List ℕ). length held) c.bytes-before.ensures.bytes)
    ∙ cut_none c.args.out.now.bytes c.tail-cells.result.now c.keep_message.new.cells)
