use Rattle.type_tables.proofs.Named.{pushed}
use Rattle.type_tables.proofs.names.NameTable.push.Goals as goal

pub returns-clause-ok : goal.returns-clause-ok
returns-clause-ok g c =
    pushed c.self.inside.entries.entries c.insert.new.self.entries c.args.self.now c.args.name c.into_bytes.result c.args.thing c.self.view_is c.into_bytes.ensures c.requires c.in_ok-insert.ensures.entries
