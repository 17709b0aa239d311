use Rattle.std.proofs.Common.{◌∙◌, ap, sym, [], ◌∷◌}
use Rattle.idl_document.specs.declared.document.Definition.{Definition}
use Rattle.idl_parser.specs.Declarations.{one_definition}
use Rattle.idl_document.specs.Trees.{definition_tree, definition_trees}
use Rattle.idl_parser.specs.Lexemes.{is_left}
use Rattle.idl_parser.proofs.Listed.{map_push, stop_listed}
use Rattle.idl_parser.specs.Run.{listed}
use Rattle.idl_parser.proofs.Running.{goes, gives_up, ends, ends_within}
use Rattle.idl_parser.proofs.definitions.definitions.Goals as goal

pub items-preserved : goal.items-preserved
items-preserved c =
    let more = sym c.is_left.ensures ∙ c.if-not-is_left.false in
    record {
      within = ends_within c.args.tokens.now c.rest-rest.result c.items.n c.in-Ok.used c.rest-rest.ensures.value c.items.invariant.within c.in-Ok.ensures.within.1;
      exact = goes (λ e. is_left) (one_definition) c.args.tokens.now c.rest-rest.result c.items.n c.rest-rest.ensures.value (definition_trees c.items.list) (definition_trees c.push.new.self) (definition_tree c.in-Ok.definition ∷ []) c.in-Ok.used _
          more (ap listed c.in-Ok.ensures.exact) c.in-Ok.ensures.within.0 c.in-Ok.ensures.within.1 (ap definition_trees c.in_ok-push-in-Ok.ensures.ok ∙ map_push definition_tree c.items.list c.in-Ok.definition) c.items.invariant.exact;
    }

pub returns-in-Err-clause-exact : goal.returns-in-Err-clause-exact
returns-in-Err-clause-exact c =
    let more = sym c.is_left.ensures ∙ c.if-not-is_left.false in
    gives_up (λ e. is_left) (one_definition) c.args.tokens.now c.rest-rest.result c.items.n c.rest-rest.ensures.value (definition_trees c.items.list) (λ (x : Definition). definition_tree x ∷ []) definition_trees c.in-Err.stop _
    more (stop_listed definition_tree c.in-Err.stop _ c.in-Err.ensures.exact) c.items.invariant.exact

pub returns-then-not-is_left-clause-exact : goal.returns-then-not-is_left-clause-exact
returns-then-not-is_left-clause-exact c =
    ends (λ e. is_left) (one_definition) c.args.tokens.now c.rest-rest.result c.items.n c.rest-rest.ensures.value (definition_trees c.items.list) _
    (sym c.is_left.ensures ∙ c.if-not-is_left.true) c.items.invariant.exact
