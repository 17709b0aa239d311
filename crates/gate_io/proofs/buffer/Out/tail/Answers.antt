use Rattle.std.proofs.Common.{rules, ◌≡◌, ◌+◌, ◌++◌, List, ℕ, take, drop, arith, ap, ◌∙◌, refl}
use Rattle.std.proofs.lemmas.Grind.{common_steps}
use Rattle.gate_io.specs.Buffer.{Buffer}
use Rattle.gate_io.specs.Tails.{written_over}
use Rattle.gate_io.proofs.Windows.{lent}
use Rattle.gate_io.proofs.buffer.Out.tail.Goals as goal

pub returns : goal.returns
returns c =
    let cells = c.make_cells-self-inside.new.cells in
    let start = c.make_cells-self-inside.result in
    let end = start + c.self.inside.len in
    let held : take c.self.inside.len (drop start cells.items) ≡ c.args.self.now.bytes = c.make_cells-self-inside.ensures.kept ∙ ap (λ (b : Buffer). b.bytes) c.self.view_is in
    let lends : c.slice_mut.result.now ≡ take c.args.count (drop end cells.items) = c.slice_mut.ensures.value ∙ ap (λ n. take n (drop end cells.items)) (omega arith) in (
      (
        refl,
        λ w. ap (λ (bytes : List ℕ). record { bytes = bytes; room = c.self.inside.room })
            (lent cells.items w c.slice_mut.result.now _ c.args.self.now.bytes cells.len start c.self.inside.len c.args.count cells.ok.0 c.make_cells-self-inside.ensures.tail lends held)
            ∙ ap (λ (room : ℕ). record { bytes = c.args.self.now.bytes ++ written_over c.slice_mut.result.now w; room = room }) (ap (λ (b : Buffer). b.room) c.self.view_is),
      ),
      record { writes_back = tt; size = search rules },
    )

pub make_cells-self-inside-requires-clause-room : goal.make_cells-self-inside-requires-clause-room
make_cells-self-inside-requires-clause-room c = grind (arith, common_steps)

pub invariant_of-self-lent : goal.invariant_of-self-lent
invariant_of-self-lent c = grind (arith, common_steps)
