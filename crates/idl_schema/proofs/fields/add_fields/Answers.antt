use Rattle.std.proofs.Common.{◌≡◌, ◌≤◌, ◌+◌, [], ◌∷◌, ◌++◌, ◌∙◌, ap, sym, arith, drop, length, map, refl, List, ℕ, ℤ, Option, Some, None}
use Rattle.idl_document.specs.declared.document.FieldDecl.{FieldDecl}
use Rattle.idl_document.specs.Trees.{field_tree, field_trees}
use Rattle.idl_rules.specs.Ids.{id_of, ids_from, counted, refused_ids}
use Rattle.type_tables.specs.declared.declared.FieldInfo.{FieldInfo}
use Rattle.type_tables.specs.declared.declared.Ty.{Ty}
use Rattle.idl_schema.specs.Adding.{with_types}
use Rattle.idl_schema.specs.Fields.{need_of, fields_from, fields_types}
use Rattle.idl_schema.specs.Indexes.{files_of}
use Rattle.idl_schema.specs.Types.{ty_in}
use Rattle.idl_schema.proofs.Kept.{absent, first_free, free_on}
use Rattle.idl_schema.proofs.Listing.{next, field_listed, field_typed}
use Rattle.idl_schema.proofs.fields.add_fields.Goals as goal
use Rattle.std.proofs.lemmas.Grind.{common_steps}

within_counted : (before i : ℕ) (id : Option (ℕ × ℤ)) (n : ℕ) → before ≤ i → n ≡ counted before id → n ≤ i + 1
within_counted before i (Some z) n h e = omega arith
within_counted before i None n h e = omega arith

pub loop-field-preserved : goal.loop-field-preserved
loop-field-preserved c =
    let ty = ty_in (files_of c.args.index.now) c.args.file in
    let fs = c.args.fields.now in
    let i = c.loop-field.field-index in
    let f = c.field-item.result in
    let b = c.loop-field.builder in
    let rest = field_trees (drop (i + 1) fs) in
    let open_list = next fs i f c.loop-field-test.true c.field-item.is in
    let list = c.loop-field.list in
    let before = c.loop-field.before in
    let whole = c.args.list ++ fields_from ty 0 (length c.args.builder.now.types) (field_trees fs) in
    let all = with_types c.args.builder.now (fields_types ty (length c.args.builder.now.types) (field_trees fs)) in
    let ty_is = c.in_ok-ty.ensures ∙ ap (λ (n : ℕ). ty n (field_tree f).ty) c.in_ok-base.ensures in
    let pushed = c.in_ok-push_field.ensures
    ∙ ap (λ (t : Ty). let r : FieldInfo = record { id = (id_of before (field_tree f)).id; name = f.name.text; ty = t; need = need_of f.asked } in list ++ r ∷ []) ty_is in
    record {
      few = within_counted before i f.id c.count_on-before.result c.loop-field.invariant.few c.count_on-before.ensures;
      list = field_listed ty b c.add_parts.new.builder (field_tree f) rest c.in_ok-add_parts.ensures before c.count_on-before.result list c.push_field.new.list whole c.count_on-before.ensures pushed
          (ap (λ (l : List FieldDecl). list ++ fields_from ty before (length b.types) (field_trees l)) (sym open_list) ∙ c.loop-field.invariant.list);
      free = free_on list c.push_field.new.list _ before c.count_on-before.result (field_tree f) rest c.in_ok-push_field.ensures refl c.count_on-before.ensures
          (ap (λ (l : List FieldDecl). refused_ids (map (λ (r : FieldInfo). r.id) list) (ids_from before (field_trees l))) (sym open_list) ∙ c.loop-field.invariant.free);
      types = field_typed ty b c.add_parts.new.builder (field_tree f) rest c.in_ok-add_parts.ensures all
          (ap (λ (l : List FieldDecl). with_types b (fields_types ty (length b.types) (field_trees l))) (sym open_list) ∙ c.loop-field.invariant.types);
    }

pub push_field-requires-clause-fits : goal.push_field-requires-clause-fits
push_field-requires-clause-fits c =
    let fs = c.args.fields.now in
    let i = c.loop-field.field-index in
    let f = c.field-item.result in
    let before = c.loop-field.before in
    let ids = map (λ (r : FieldInfo). r.id) c.loop-field.list in
    let open_list = next fs i f c.loop-field-test.true c.field-item.is in
    let free = ap (λ (l : List FieldDecl). refused_ids ids (ids_from before (field_trees l))) (sym open_list) ∙ c.loop-field.invariant.free in
    (first_free ids (id_of before (field_tree f)) (ids_from (counted before f.id) (field_trees (drop (i + 1) fs))) free).1

pub push_field-requires-clause-free : goal.push_field-requires-clause-free
push_field-requires-clause-free c =
    let fs = c.args.fields.now in
    let i = c.loop-field.field-index in
    let f = c.field-item.result in
    let before = c.loop-field.before in
    let ids = map (λ (r : FieldInfo). r.id) c.loop-field.list in
    let open_list = next fs i f c.loop-field-test.true c.field-item.is in
    let free = ap (λ (l : List FieldDecl). refused_ids ids (ids_from before (field_trees l))) (sym open_list) ∙ c.loop-field.invariant.free in
    absent (id_of before (field_tree f)).id c.loop-field.list (first_free ids (id_of before (field_tree f)) (ids_from (counted before f.id) (field_trees (drop (i + 1) fs))) free).0

pub returns-clause-types : goal.returns-clause-types
returns-clause-types c = grind (arith, common_steps)

pub push_field-requires-clause-before : goal.push_field-requires-clause-before
push_field-requires-clause-before c = grind (arith, common_steps)

pub returns-clause-list : goal.returns-clause-list
returns-clause-list c = grind (arith, common_steps)

pub count_on-before-requires : goal.count_on-before-requires
count_on-before-requires c = grind (arith, common_steps)
