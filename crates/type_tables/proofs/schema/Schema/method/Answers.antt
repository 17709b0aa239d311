use Rattle.std.proofs.Common.{◌≡◌, length, rules, subst, sym, Option, Some}
use Rattle.std.specs.Prelude.{IfSome}
use Rattle.type_tables.specs.declared.declared.MethodInfo.{MethodInfo}
use Rattle.type_tables.specs.Known.{IsFinished, IsKnownMethod}
use Rattle.type_tables.specs.Services.{method_in}
use Rattle.type_tables.proofs.Looked.{found_is}
use Rattle.type_tables.proofs.schema.Schema.method.Goals as goal

pub returns-clause-known : goal.returns-clause-known
returns-clause-known c =
    let d = c.args.self.now in
    let value : c.method.result ≡ method_in d.services c.args.s c.args.name.now = search rules in
    let finished = subst IsFinished c.self.view_is c.self.invariant in
    subst (λ (o : Option MethodInfo). IfSome o (IsKnownMethod d)) (sym value)
    (found_is (IsKnownMethod d) d.services finished.closed.methods (length d.services) c.args.name.now (Some c.args.s))
