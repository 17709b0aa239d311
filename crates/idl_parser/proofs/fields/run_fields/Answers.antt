use Rattle.std.proofs.Common.{◌∙◌, ap, [], ◌∷◌}
use Rattle.idl_parser.specs.Notes.{not_closed}
use Rattle.idl_document.specs.declared.document.FieldDecl.{FieldDecl}
use Rattle.idl_parser.specs.Fields.{one_field}
use Rattle.idl_document.specs.Trees.{field_tree, field_trees}
use Rattle.idl_parser.proofs.Listed.{map_push, stop_listed, turned, kept}
use Rattle.idl_parser.specs.Run.{listed}
use Rattle.idl_parser.proofs.Running.{goes, gives_up, ends, ends_within}
use Rattle.idl_parser.proofs.fields.run_fields.Goals as goal

pub items-preserved : goal.items-preserved
items-preserved c =
    let more = kept _ c.stands.result c.stands.ensures.value c.if-stands.false in
    record {
      within = ends_within c.args.tokens.now c.rest-rest.result c.items.n c.in-Ok.used c.rest-rest.ensures.value c.items.invariant.within c.in-Ok.ensures.within.1;
      exact = goes (λ e. not_closed c.args.closing) (one_field) c.args.tokens.now c.rest-rest.result c.items.n c.rest-rest.ensures.value (field_trees c.items.list) (field_trees c.push.new.self) (field_tree c.in-Ok.field ∷ []) c.in-Ok.used _
          more (ap listed c.in-Ok.ensures.exact) c.in-Ok.ensures.within.0 c.in-Ok.ensures.within.1 (ap field_trees c.in_ok-push-in-Ok.ensures.ok ∙ map_push field_tree c.items.list c.in-Ok.field) c.items.invariant.exact;
    }

pub returns-in-Err-clause-exact : goal.returns-in-Err-clause-exact
returns-in-Err-clause-exact c =
    let more = kept _ c.stands.result c.stands.ensures.value c.if-stands.false in
    gives_up (λ e. not_closed c.args.closing) (one_field) c.args.tokens.now c.rest-rest.result c.items.n c.rest-rest.ensures.value (field_trees c.items.list) (λ (x : FieldDecl). field_tree x ∷ []) field_trees c.in-Err.stop _
    more (stop_listed field_tree c.in-Err.stop _ c.in-Err.ensures.exact) c.items.invariant.exact

pub returns-then-stands-clause-exact : goal.returns-then-stands-clause-exact
returns-then-stands-clause-exact c =
    ends (λ e. not_closed c.args.closing) (one_field) c.args.tokens.now c.rest-rest.result c.items.n c.rest-rest.ensures.value (field_trees c.items.list) _
    (turned _ c.stands.result c.stands.ensures.value c.if-stands.true) c.items.invariant.exact
