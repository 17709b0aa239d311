use Rattle.type_tables.specs.Names.{name_place}
use Rattle.type_tables.specs.Services.{methods_of}
use Rattle.type_tables.proofs.Kept.{method_kept}
use Rattle.type_tables.proofs.builder.SchemaBuilder.add_method.Goals as goal

pub invariant_of-self : goal.invariant_of-self
invariant_of-self c =
    let old = c.self.inside.tables in
    method_kept (name_place c.args.name (methods_of old.services c.args.s.0)) old c.add_method.new.self c.args.s.0 c.args.name c.args.m c.add_method.result c.self.invariant c.add_method.ensures
