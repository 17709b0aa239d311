use Rattle.type_tables.proofs.names.NameTable.len.Goals as goal
use Rattle.std.proofs.Common.{◌∙◌, sym, ap, length}
use Rattle.type_tables.proofs.Named.{named_length}

pub returns : goal.returns
returns g c = c.len.ensures.len ∙ sym (named_length c.self.inside.entries.entries) ∙ ap length c.self.view_is
