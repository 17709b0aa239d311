use Rattle.std.proofs.Common.{◌≡◌, List, IsTrue, arith, rules, subst, sym}
use Rattle.std.specs.List.{All}
use Rattle.type_tables.specs.declared.services.ServiceDecl.{ServiceDecl}
use Rattle.type_tables.specs.declared.tables.StructDecl.{StructDecl}
use Rattle.type_tables.specs.Known.{IsKnown, IsKnownBase, IsKnownMethod}
use Rattle.type_tables.proofs.closing.is_closed.Goals as goal

pub returns-then-not-structs_closed-clause-all : goal.returns-then-not-structs_closed-clause-all
returns-then-not-structs_closed-clause-all c closed =
    let d = c.args.tables.now in
    let same : c.as_slice-2.result.now ≡ d.structs = search rules in
    let yes : IsTrue c.structs_closed.result = c.structs_closed.ensures.1 (subst (λ (ss : List StructDecl). All (λ s. All (λ f. IsKnown d f.ty) s.fields) ss) (sym same) closed.fields) in
    grind (arith, yes, c.if-not-structs_closed.true, c.if-not-structs_closed.ensures)

pub returns-clause-all : goal.returns-clause-all
returns-clause-all c closed =
    let d = c.args.tables.now in
    let same : c.as_slice-3.result.now ≡ d.services = search rules in
    c.services_closed.ensures.closed
    (subst (λ (ss : List ServiceDecl). All (λ s. All (λ m. IsKnownMethod d m.1) s.methods) ss) (sym same) closed.methods)
    (subst (λ (ss : List ServiceDecl). All (λ s. IsKnownBase d s.base) ss) (sym same) closed.bases)
