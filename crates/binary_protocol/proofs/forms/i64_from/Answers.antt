use Rattle.std.proofs.Common.{◌+◌, ◌-◌, drop, arith, length-drop, rules, FitsSigned}
use Rattle.std.specs.Int.{w64}
use Rattle.std.proofs.lemmas.Int.{to_z-of_z}
use Rattle.binary_protocol.proofs.Doubles.{i64_found}
use Rattle.binary_protocol.proofs.forms.i64_from.Goals as goal

pub returns-clause-found : goal.returns-clause-found
returns-clause-found c =
    let fits : FitsSigned w64 c.from_be_bytes.result = search rules in
    rw (to_z-of_z w64 c.from_be_bytes.result fits)
    (i64_found (drop c.args.at c.args.frame.now) c.from_be_bytes.result (c.args.at + 8 - c.args.at) (omega arith) (omega (arith, length-drop c.args.at c.args.frame.now)) c.from_be_bytes.ensures)
