use Rattle.std.proofs.Common.{◌∙◌, ap}
use Rattle.type_tables.specs.Names.{name_place}
use Rattle.type_tables.proofs.Named.{placed}
use Rattle.type_tables.proofs.names.NameTable.place.Goals as goal

pub returns : goal.returns
returns g c = c.get_index_of.ensures.index ∙ placed c.args.name.now c.self.inside.entries.entries ∙ ap (name_place c.args.name.now) c.self.view_is
