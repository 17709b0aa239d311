use Rattle.std.proofs.Common.{◌∙◌, ap, map, [], List}
use Rattle.idl_document.specs.declared.document.FieldDecl.{FieldDecl}
use Rattle.idl_document.specs.Trees.{field_trees, function_tree}
use Rattle.idl_rules.specs.Ids.{ids_from, refused_ids}
use Rattle.type_tables.specs.declared.declared.FieldInfo.{FieldInfo}
use Rattle.idl_schema.proofs.Kept.{args_kept}
use Rattle.idl_schema.proofs.methods.add_args.Goals as goal

pub add_fields-requires : goal.add_fields-requires
add_fields-requires c =
    ap (λ (l : List FieldInfo). refused_ids (map (λ (f : FieldInfo). f.id) l) (ids_from 0 (field_trees c.as_slice.result.now))) c.new-none.ensures
    ∙ ap (λ (fs : List FieldDecl). refused_ids [] (ids_from 0 (field_trees fs))) c.as_slice.ensures ∙ args_kept (function_tree c.args.method.now) c.requires
