use Rattle.std.proofs.Common.{◌≡◌, ◌≤◌, length, take, drop, arith, ap, length-take}
use Rattle.std.proofs.lemmas.Grind.{common_steps}
use Rattle.gate_io.specs.Buffer.{Buffer}
use Rattle.gate_io.proofs.Windows.{dropped}
use Rattle.gate_io.proofs.buffer.Out.drop_front.Goals as goal

pub returns : goal.returns
returns c =
    let held : take c.self.inside.len (drop c.self.inside.start c.self.inside.cells.items) ≡ c.args.self.now.bytes = ap (λ (b : Buffer). b.bytes) c.self.view_is in
    let room : c.self.inside.room ≡ c.args.self.now.room = ap (λ (b : Buffer). b.room) c.self.view_is in
    let within : c.args.n ≤ c.self.inside.len = omega (arith, c.requires, ap length held, length-take c.self.inside.len (drop c.self.inside.start c.self.inside.cells.items)) in
    cc (dropped c.self.inside.cells.items c.self.inside.start c.self.inside.len c.args.n within, held, room)

pub returns-then-n-self : goal.returns-then-n-self
returns-then-n-self c = grind (arith, common_steps)

pub invariant_of-self : goal.invariant_of-self
invariant_of-self c = grind (arith, common_steps)

pub overflow_add-self : goal.overflow_add-self
overflow_add-self c = grind (arith, common_steps)

pub overflow_sub-self : goal.overflow_sub-self
overflow_sub-self c = grind (arith, common_steps)
