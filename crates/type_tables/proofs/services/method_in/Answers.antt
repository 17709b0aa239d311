use Rattle.std.proofs.Common.{◌∙◌, ◌-◌, ap, sym, length}
use Rattle.type_tables.specs.Services.{found_up, method_in}
use Rattle.type_tables.proofs.Methods.{own, further, none_there}
use Rattle.type_tables.proofs.services.method_in.Goals as goal

pub returns-in_default-service_at : goal.returns-in_default-service_at
returns-in_default-service_at c =
    let ts = c.args.services.now in
    let left = length ts - c.bases.counter in
    let i = ap (found_up left ts c.args.name.now) (sym c.in-Some.is) ∙ c.bases.invariant in
    none_there ts c.args.name.now c.bases.counter c.bases-test.true c.in-Some.base (method_in ts c.args.service c.args.name.now) i (sym c.in_default-service_at.ensures)

pub returns-in-Some-find : goal.returns-in-Some-find
returns-in-Some-find c =
    let ts = c.args.services.now in
    let left = length ts - c.bases.counter in
    let i = ap (found_up left ts c.args.name.now) (sym c.in-Some.is) ∙ c.bases.invariant in
    own ts c.args.name.now c.bases.counter c.bases-test.true c.in-Some.base (method_in ts c.args.service c.args.name.now) i
    c.in-Some-service_at.decl.now c.in-Some-find.method (sym c.in-Some-service_at.ensures) (sym c.find.ensures ∙ c.in-Some-find.is)

pub bases-preserved : goal.bases-preserved
bases-preserved c =
    let ts = c.args.services.now in
    let left = length ts - c.bases.counter in
    let i = ap (found_up left ts c.args.name.now) (sym c.in-Some.is) ∙ c.bases.invariant in
    further ts c.args.name.now c.bases.counter c.bases-test.true c.in-Some.base (method_in ts c.args.service c.args.name.now) i
    c.in-Some-service_at.decl.now (sym c.in-Some-service_at.ensures) (sym c.find.ensures ∙ c.in_default-find.is)
