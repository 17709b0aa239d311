use Rattle.std.proofs.Common.{arith, ◌≡◌, ◌∙◌, ap, refl, subst, [], map, List, ℕ, Option, Some, Err}
use Rattle.idl_document.specs.Trees.{FunctionTree, function_trees}
use Rattle.idl_rules.specs.declared.row.IdlRow.TheVariants as rows
use Rattle.idl_rules.specs.Doubles.{repeated}
use Rattle.type_tables.specs.declared.declared.AddFault.{AddFault}
use Rattle.type_tables.specs.declared.declared.AddFault.TheVariants as faults
use Rattle.type_tables.specs.declared.declared.MethodInfo.{MethodInfo}
use Rattle.type_tables.specs.Adding.{Adds}
use Rattle.type_tables.specs.declared.declared.ServiceId.{ServiceId}
use Rattle.type_tables.specs.Declarations.{Declarations, with_service}
use Rattle.type_tables.specs.Services.{methods_of}
use Rattle.idl_schema.specs.Methods.{methods_from, methods_structs, methods_types}
use Rattle.idl_schema.specs.Shares.{base_of}
use Rattle.idl_schema.specs.Indexes.{files_of}
use Rattle.idl_schema.specs.Types.{ty_in}
use Rattle.idl_schema.specs.Kept.{AreNew}
use Rattle.idl_schema.proofs.Apart.{duplicate}
use Rattle.idl_schema.proofs.Servicing.{none_yet}
use Rattle.idl_schema.proofs.Sharing.{service_added}
use Rattle.idl_schema.proofs.making.add_service.Goals as goal
use Rattle.std.proofs.lemmas.Grind.{common_steps}

pub returns-clause-exact : goal.returns-clause-exact
returns-clause-exact c =
    let files = files_of c.args.index.now in
    let ty = ty_in files c.args.file in
    let fs = function_trees c.args.functions.now in
    let b = c.args.builder.now in
    let first = c.in_ok-first.ensures ∙ c.struct_count.ensures in
    service_added b c.add_service.new.self c.add_structs.new.builder c.add_methods.new.builder c.args.name (base_of files c.args.file c.args.base.now) c.base_of.result c.in-Ok.service.0 c.in_ok-first.first
    (λ n. methods_types ty n fs) (λ n. methods_structs ty n fs) (λ n. methods_from n fs) c.base_of.ensures c.in-Ok.ensures.adds.1 c.in-Ok.ensures.number first c.in_ok-add_structs.ensures c.in_ok-add_methods.ensures

taken : {X R : Type 0} (there : Option ℕ) (old new : X) (added : R → X) (fault : AddFault) (first : ℕ) → fault ≡ faults.Duplicate first → Adds there old new added (Err fault) → there ≡ Some first
taken there old new added fault first e a = (subst (λ (f : AddFault). Adds there old new added (Err f)) e a).0

pub returns-in-Err-Duplicate-clause-unless : goal.returns-in-Err-Duplicate-clause-unless
returns-in-Err-Duplicate-clause-unless c apart = absurd (duplicate c.args.name c.args.builder.now.names _ _ (taken _ _ _ (λ (s : ServiceId). with_service c.args.builder.now c.args.name c.base_of.result) _ _ c.in-Err-Duplicate.field-0-is c.in-Err-Duplicate.ensures.adds) apart)

pub add_methods-requires-clause-new : goal.add_methods-requires-clause-new
add_methods-requires-clause-new c =
    let s = c.in-Ok.service.0 in
    let fs = function_trees c.args.functions.now in
    let same = ap (λ (d : Declarations). methods_of d.services s) c.in_ok-add_structs.ensures ∙ ap (λ (d : Declarations). methods_of d.services s) c.in-Ok.ensures.adds.1 in
    let none = none_yet c.args.builder.now.services _ s c.in-Ok.ensures.number refl in
    let new : AreNew [] (function_trees c.args.functions.now) = c.requires.new in
    ap (λ ms. repeated rows.DuplicateName (map (λ (m : List ℕ × MethodInfo). m.0) ms) (map (λ (f : FunctionTree). f.name) (function_trees c.args.functions.now))) (same ∙ none) ∙ new

pub add_methods-requires-clause-known : goal.add_methods-requires-clause-known
add_methods-requires-clause-known c = grind (arith, common_steps)

pub add_service-requires : goal.add_service-requires
add_service-requires c = grind (arith, common_steps)
