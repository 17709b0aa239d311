use Rattle.std.proofs.Common.{arith, ◌≡◌, ◌∙◌, ap, sym, subst, map, [], List}
use Rattle.idl_document.specs.declared.document.Definition.{Definition}
use Rattle.idl_document.specs.declared.document.FieldDecl.{FieldDecl}
use Rattle.idl_document.specs.declared.document.Function.{Function}
use Rattle.idl_document.specs.Trees.{definition_tree, field_trees, function_trees}
use Rattle.idl_rules.specs.Ids.{ids_from, refused_ids}
use Rattle.idl_rules.specs.Rules.{inner_refusals, methods_refusals}
use Rattle.idl_rules.specs.Values.{value_refusals}
use Rattle.type_tables.specs.declared.declared.FieldInfo.{FieldInfo}
use Rattle.idl_schema.specs.Kept.{AreNew}
use Rattle.idl_schema.proofs.Kept.{enum_kept, service_kept, struct_kept}
use Rattle.idl_schema.proofs.making.add_definition.Goals as goal
use Rattle.std.proofs.lemmas.Grind.{common_steps}

pub add_enum-requires : goal.add_enum-requires
add_enum-requires c =
    let kept = subst (λ (d : Definition). inner_refusals (definition_tree d) ≡ []) c.in-Enum.is c.requires.kept in
    ap value_refusals c.as_slice.ensures ∙ enum_kept c.in-Enum.field-0 c.in-Enum.members kept

pub add_fields-requires : goal.add_fields-requires
add_fields-requires c =
    let kept = subst (λ (d : Definition). inner_refusals (definition_tree d) ≡ []) c.in-Struct.is c.requires.kept in
    ap (λ (l : List FieldInfo). refused_ids (map (λ (f : FieldInfo). f.id) l) (ids_from 0 (field_trees c.as_slice-in-Struct.result.now))) c.new-none.ensures
    ∙ ap (λ (fs : List FieldDecl). refused_ids [] (ids_from 0 (field_trees fs))) c.as_slice-in-Struct.ensures ∙ struct_kept c.in-Struct.kin c.in-Struct.field-1 (field_trees c.in-Struct.fields) kept

pub add_service-requires-clause-new : goal.add_service-requires-clause-new
add_service-requires-clause-new c =
    let kept = subst (λ (d : Definition). inner_refusals (definition_tree d) ≡ []) c.in-Service.is c.requires.kept in
    subst (λ (fs : List Function). AreNew [] (function_trees fs)) (sym c.as_slice-in-Service-2.ensures) (service_kept c.in-Service.name c.in-Service.base (function_trees c.in-Service.functions) kept).0

pub add_service-requires-clause-kept : goal.add_service-requires-clause-kept
add_service-requires-clause-kept c =
    let kept = subst (λ (d : Definition). inner_refusals (definition_tree d) ≡ []) c.in-Service.is c.requires.kept in
    ap (λ (fs : List Function). methods_refusals (function_trees fs)) c.as_slice-in-Service-2.ensures ∙ (service_kept c.in-Service.name c.in-Service.base (function_trees c.in-Service.functions) kept).1

pub returns-in_ok-add_struct-in-Struct-clause-exact : goal.returns-in_ok-add_struct-in-Struct-clause-exact
returns-in_ok-add_struct-in-Struct-clause-exact c = grind (arith, common_steps)

pub returns-in_ok-add_parts-in-Typedef-clause-exact : goal.returns-in_ok-add_parts-in-Typedef-clause-exact
returns-in_ok-add_parts-in-Typedef-clause-exact c = grind (arith, common_steps)

pub returns-in_ok-name-in-Service-clause-unless : goal.returns-in_ok-name-in-Service-clause-unless
returns-in_ok-name-in-Service-clause-unless c = grind (arith, common_steps)

pub returns-in_ok-add_enum-in-Enum-clause-exact : goal.returns-in_ok-add_enum-in-Enum-clause-exact
returns-in_ok-add_enum-in-Enum-clause-exact c = grind (arith, common_steps)

pub returns-in_ok-name-in-Service-clause-exact : goal.returns-in_ok-name-in-Service-clause-exact
returns-in_ok-name-in-Service-clause-exact c = grind (arith, common_steps)
