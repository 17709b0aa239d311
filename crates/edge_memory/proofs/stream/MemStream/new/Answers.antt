use Rattle.std.proofs.Common.{ℕ, List, ◌++◌, sym, ap, ◌∙◌, subst}
use Rattle.gate_base.specs.Bytes.{AreBytes}
use Rattle.mio_edge.specs.Wire.{new_wire}
use Rattle.edge_memory.proofs.Reading.{all_bytes}
use Rattle.edge_memory.proofs.stream.MemStream.new.Goals as goal

pub returns-clause-tells : goal.returns-clause-tells
returns-clause-tells c = (
  ap (λ (xs : List ℕ). record new_wire { sent = xs }) (sym c.new.ensures.items),
  tt,
  subst AreBytes (sym (c.in_ok-extend_from_slice.ensures.items ∙ ap (λ (xs : List ℕ). xs ++ c.args.arrives.now) c.in_ok-arrived.ensures.items)) (all_bytes c.args.arrives.now c.type_inv.arrives),
)
