use Rattle.std.proofs.Common.{◌≡◌, ◌<◌, length, rules, subst, sym, Option}
use Rattle.std.specs.Prelude.{IfSome}
use Rattle.type_tables.specs.declared.declared.ServiceId.{ServiceId}
use Rattle.type_tables.specs.Known.{IsFinished}
use Rattle.type_tables.specs.Names.{value_of}
use Rattle.type_tables.proofs.Looked.{named_is}
use Rattle.type_tables.proofs.schema.Schema.service.Goals as goal

pub returns-clause-known : goal.returns-clause-known
returns-clause-known c =
    let d = c.args.self.now in
    let P = λ (s : ServiceId). s.0 < length d.services in
    let value : c.find.result ≡ value_of c.args.name.now d.names = search rules in
    let finished = subst IsFinished c.self.view_is c.self.invariant in
    subst (λ (o : Option ServiceId). IfSome o P) (sym value) (named_is P c.args.name.now d.names finished.built.names)
