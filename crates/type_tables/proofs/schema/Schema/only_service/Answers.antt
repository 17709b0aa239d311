use Rattle.std.proofs.Common.{◌≡◌, ◌<◌, length, rules, subst, sym, Option}
use Rattle.std.specs.Prelude.{IfSome}
use Rattle.type_tables.specs.declared.declared.ServiceId.{ServiceId}
use Rattle.type_tables.specs.Known.{IsFinished}
use Rattle.type_tables.specs.Roots.{only, rooted}
use Rattle.type_tables.proofs.Looked.{only_is, rooted_are}
use Rattle.type_tables.proofs.schema.Schema.only_service.Goals as goal

pub returns-clause-known : goal.returns-clause-known
returns-clause-known c =
    let d = c.args.self.now in
    let P = λ (s : ServiceId). s.0 < length d.services in
    let value : c.only.result ≡ only (rooted d.names) = search rules in
    let finished = subst IsFinished c.self.view_is c.self.invariant in
    subst (λ (o : Option ServiceId). IfSome o P) (sym value) (only_is P (rooted d.names) (rooted_are P d.names finished.built.names))
