use Rattle.std.proofs.Common.{◌≡◌, ◌+◌, ◌++◌, ◌∙◌, ap, sym, subst, length, ℕ, List, rules}
use Rattle.std.proofs.lemmas.Result.{on_ok_weaker}
use Rattle.idl_document.specs.Trees.{field_trees, function_tree}
use Rattle.type_tables.specs.declared.declared.FieldInfo.{FieldInfo}
use Rattle.type_tables.specs.declared.declared.Form.TheVariants as forms
use Rattle.idl_schema.specs.Adding.{with_types}
use Rattle.idl_schema.specs.Fields.{fields_from, fields_types, success, returns_types}
use Rattle.idl_schema.specs.Methods.{result_types}
use Rattle.idl_schema.specs.Numbers.{returns_parts}
use Rattle.idl_schema.specs.Indexes.{files_of}
use Rattle.idl_schema.specs.Kept.{AreFree}
use Rattle.idl_schema.specs.Types.{ty_in}
use Rattle.idl_schema.proofs.Counting.{returns_length}
use Rattle.idl_schema.proofs.Kept.{throws_free}
use Rattle.idl_schema.proofs.Listing.{types_joined, struct_added, longer_by}
use Rattle.idl_schema.proofs.methods.add_result.Goals as goal

pub returns : goal.returns
returns c =
    let ty = ty_in (files_of c.args.index.now) c.args.file in
    let f = function_tree c.args.method.now in
    let b = c.args.builder.now in
    let m = c.add_success.new.builder in
    let d = c.add_fields.new.builder in
    let n = length b.types in
    let first : m ≡ with_types b (returns_types ty n f.returns) = c.in_ok-success.ensures.types in
    let long = longer_by b m (returns_types ty n f.returns) (returns_parts f.returns) first (returns_length ty n f.returns) in
    let second : d ≡ with_types m (fields_types ty (length m.types) f.throws) = search rules in
    let types = types_joined b m d (returns_types ty n f.returns) (λ k. fields_types ty k f.throws) (n + returns_parts f.returns) first long second in
    let given : c.in_ok-fields.fields ≡ c.in_ok-success.success ++ fields_from ty 0 (length m.types) f.throws = search rules in
    let fields = given ∙ ap (λ (l : List FieldInfo). l ++ fields_from ty 0 (length m.types) f.throws) c.in_ok-success.ensures.list
    ∙ ap (λ (k : ℕ). success ty n f.returns ++ fields_from ty 0 k f.throws) long in
    on_ok_weaker c.add_struct.result (struct_added b d c.add_struct.new.builder (result_types ty n f) forms.Result c.in_ok-fields.fields _ types fields) c.add_struct.ensures

pub add_fields-requires : goal.add_fields-requires
add_fields-requires c =
    let ty = ty_in (files_of c.args.index.now) c.args.file in
    let f = function_tree c.args.method.now in
    let n = length c.args.builder.now.types in
    let given : AreFree (success ty n f.returns) 0 f.throws = throws_free ty n f c.requires in
    let throws : field_trees c.as_slice.result.now ≡ f.throws = ap field_trees c.as_slice.ensures in
    subst (λ (l : List FieldInfo). AreFree l 0 (field_trees c.as_slice.result.now)) (sym c.in_ok-success.ensures.list)
    (subst (AreFree (success ty n f.returns) 0) (sym throws) given)
