use Rattle.std.proofs.Common.{◌<◌, ◌+◌, ◌∙◌, ap, sym, subst, arith, drop, length, map, List, ℕ}
use Rattle.std.proofs.lemmas.List.{drop_all}
use Rattle.idl_document.specs.declared.document.Function.{Function}
use Rattle.idl_document.specs.Trees.{FunctionTree, function_tree, function_trees}
use Rattle.idl_rules.specs.declared.row.IdlRow.TheVariants as rows
use Rattle.idl_rules.specs.Doubles.{repeated}
use Rattle.type_tables.specs.declared.declared.MethodInfo.{MethodInfo}
use Rattle.type_tables.specs.Services.{methods_of}
use Rattle.type_tables.specs.Declarations.{Declarations}
use Rattle.idl_schema.specs.Adding.{with_methods}
use Rattle.idl_schema.specs.Methods.{methods_from, method_info}
use Rattle.idl_schema.proofs.Kept.{first_new, name_absent, new_on}
use Rattle.idl_schema.proofs.Listing.{next}
use Rattle.idl_schema.proofs.Servicing.{methods_are, methods_on, methods_end, as_many}
use Rattle.idl_schema.proofs.methods.add_methods.Goals as goal

pub loop-method-preserved : goal.loop-method-preserved
loop-method-preserved c =
    let fs = c.args.methods.now in
    let i = c.loop-method.method-index in
    let f = c.method-item.result in
    let b = c.loop-method.builder in
    let s = c.args.service.0 in
    let n = c.loop-method.n in
    let rest = function_trees (drop (i + 1) fs) in
    let open_list = next fs i f c.loop-method-test.true c.method-item.is in
    let whole = with_methods c.args.builder.now s (methods_from c.args.first (function_trees fs)) in
    let counted = ap (λ (d : Declarations). length d.services) c.in_ok-add_method.ensures ∙ as_many b.services s _ in
    record {
      within = subst (λ (m : ℕ). s < m) (sym counted) c.loop-method.invariant.within;
      new =
          new_on (methods_of b.services s) (methods_of c.add_method.new.builder.services s) (method_info n (function_tree f)) (function_tree f) rest
          (ap (λ (d : Declarations). methods_of d.services s) c.in_ok-add_method.ensures ∙ methods_are b.services s _ c.loop-method.invariant.within)
          (ap (λ (l : List Function). repeated rows.DuplicateName (map (λ (m : List ℕ × MethodInfo). m.0) (methods_of b.services s)) (map (λ (g : FunctionTree). g.name) (function_trees l))) (sym open_list) ∙ c.loop-method.invariant.new);
      exact =
          ap (λ (m : ℕ). with_methods c.add_method.new.builder s (methods_from m rest)) c.in_ok-n.ensures
          ∙ methods_on b c.add_method.new.builder s f.name.text (method_info n (function_tree f)) (methods_from (n + 2) rest) whole c.loop-method.invariant.within c.in_ok-add_method.ensures
          (ap (λ (l : List Function). with_methods b s (methods_from n (function_trees l))) (sym open_list) ∙ c.loop-method.invariant.exact);
    }

pub returns : goal.returns
returns c =
    let fs = c.args.methods.now in
    let b = c.loop-method.builder in
    let s = c.args.service.0 in
    let over = drop_all c.loop-method.method-index fs (omega arith) in
    sym (methods_end b s) ∙ ap (λ (l : List Function). with_methods b s (methods_from c.loop-method.n (function_trees l))) (sym over) ∙ c.loop-method.invariant.exact

pub add_method-requires-clause-new : goal.add_method-requires-clause-new
add_method-requires-clause-new c =
    let fs = c.args.methods.now in
    let i = c.loop-method.method-index in
    let f = c.method-item.result in
    let ms = methods_of c.loop-method.builder.services c.args.service.0 in
    let open_list = next fs i f c.loop-method-test.true c.method-item.is in
    let new = ap (λ (l : List Function). repeated rows.DuplicateName (map (λ (m : List ℕ × MethodInfo). m.0) ms) (map (λ (g : FunctionTree). g.name) (function_trees l))) (sym open_list) ∙ c.loop-method.invariant.new in
    name_absent f.name.text ms (first_new (map (λ (m : List ℕ × MethodInfo). m.0) ms) f.name (map (λ (g : FunctionTree). g.name) (function_trees (drop (i + 1) fs))) new).0
