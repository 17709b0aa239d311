use Rattle.std.proofs.Common.{◌≡◌, ◌≤◌, ◌++◌, length, drop}
use Rattle.idl_document.specs.Trees.{field_trees}
use Rattle.idl_schema.specs.Adding.{with_types}
use Rattle.idl_schema.specs.Fields.{fields_from, fields_types}
use Rattle.idl_schema.specs.Indexes.{files_of}
use Rattle.idl_schema.specs.Kept.{AreFree}
use Rattle.idl_schema.specs.Types.{ty_in}
use Rattle.idl_schema.proofs.fields.add_fields.Given as goal

abbrev pub invariant-loop-field : goal.invariant-loop-field
invariant-loop-field l =
    let ty = ty_in (files_of l.index) l.file in record {
      few : l.before ≤ l.field-index;
      list : l.list ++ fields_from ty l.before (length l.builder.types) (field_trees (drop l.field-index l.fields))
          ≡ l.fn.list ++ fields_from ty 0 (length l.initial.builder.types) (field_trees l.fields);
      free : AreFree l.list l.before (field_trees (drop l.field-index l.fields));
      types : with_types l.builder (fields_types ty (length l.builder.types) (field_trees (drop l.field-index l.fields)))
          ≡ with_types l.initial.builder (fields_types ty (length l.initial.builder.types) (field_trees l.fields));
    }
