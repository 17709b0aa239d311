use Rattle.std.proofs.Common.{◌∙◌, ◌+◌, ◌≤◌, arith, ap, subst, length, List, ℕ}
use Rattle.line_transport.specs.Buffers.{trail}
use Rattle.line_transport.specs.declared.transport.Transport.{Transport}
use Rattle.gate_io.specs.Buffer.{Buffer}
use Rattle.line_transport.proofs.Cutting.{closed_line}
use Rattle.line_transport.proofs.writing.close.Goals as goal

pub push_byte-requires : goal.push_byte-requires
push_byte-requires c =
    let room = subst (λ (t : Transport). length c.args.out.now.bytes + length (trail t) ≤ c.args.out.now.room) c.in-Lines.is c.requires.room in
    omega (arith, room)

pub returns-in-Lines : goal.returns-in-Lines
returns-in-Lines c =
    c.push_byte.ensures
    ∙ ap (λ (l : List ℕ). let made : Buffer = record c.args.out.now { bytes = l } in made) (closed_line c.args.transport c.args.at c.args.out.now.bytes c.in-Lines.is)
