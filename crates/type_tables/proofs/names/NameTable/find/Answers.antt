use Rattle.std.proofs.Common.{◌∙◌, ap}
use Rattle.type_tables.specs.Names.{value_of}
use Rattle.type_tables.proofs.Named.{found}
use Rattle.type_tables.proofs.names.NameTable.find.Goals as goal

pub returns : goal.returns
returns g c = c.copied.ensures ∙ c.get.ensures.value ∙ found c.args.name.now c.self.inside.entries.entries ∙ ap (value_of c.args.name.now) c.self.view_is
