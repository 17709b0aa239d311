use Rattle.std.proofs.Common.{arith}
use Rattle.std.proofs.lemmas.List.{take_rest}
use Rattle.binary_protocol.specs.Forms.{version_found}
use Rattle.binary_protocol.proofs.forms.version_front.Goals as goal

pub returns-clause-strict : goal.returns-clause-strict
returns-clause-strict c =
    let first = c.type_inv.bytes 0 in
    let second = c.type_inv.bytes 1 in
    omega (arith, first, second, c.from_be_bytes.ensures)

pub returns-clause-found : goal.returns-clause-found
returns-clause-found c =
    let first = c.type_inv.bytes 0 in
    let second = c.type_inv.bytes 1 in
    version_found c.args.bytes.now c.in_ok-mtype.mtype (omega arith) (omega (arith, first, second, c.from_be_bytes.ensures)) (omega (arith, first, second, c.from_be_bytes.ensures)) (rw take_rest at c.in_ok-mtype.ensures)
