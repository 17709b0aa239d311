use Rattle.std.proofs.Common.{◌+◌, ◌-◌, drop, Fits, arith, subst, sym, length-drop}
use Rattle.std.specs.Int.{w8}
use Rattle.std.proofs.lemmas.List.{get_or-drop}
use Rattle.binary_protocol.proofs.Doubles.{double_found}
use Rattle.binary_protocol.proofs.forms.double_from.Goals as goal

pub returns-clause-found : goal.returns-clause-found
returns-clause-found c =
    double_found (drop c.args.at c.args.frame.now) c.from_be_bytes.result (c.args.at + 8 - c.args.at) (omega arith) (omega (arith, length-drop c.args.at c.args.frame.now))
    (λ k. subst (Fits w8) (sym (get_or-drop c.args.at c.args.frame.now k 0)) (c.type_inv.frame (c.args.at + k))) c.from_be_bytes.ensures
