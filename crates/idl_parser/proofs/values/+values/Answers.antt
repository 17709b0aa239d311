use Rattle.std.proofs.Common.{List, ◌-◌}
use Rattle.idl_parser.specs.Notes.{not_closed}
use Rattle.std.proofs.Common.{subst}
use Rattle.idl_document.specs.Item.{ValueItem}
use Rattle.idl_document.specs.Items.{items_of_value, items_of_pair}
use Rattle.idl_parser.specs.Lexemes.{Gives, Scan, itself}
use Rattle.idl_parser.specs.Values.{value_at, element_of, pair_of}
use Rattle.idl_parser.proofs.Levels.{value_step_is}
use Rattle.idl_parser.proofs.Listed.{turned, kept}
use Rattle.idl_parser.proofs.Running.{goes, gives_up, ends, ends_within}
use Rattle.idl_parser.proofs.values.+values.Goals as goal

pub value_at-returns-clause-exact : goal.value_at-returns-clause-exact
value_at-returns-clause-exact t c =
    subst (λ (scan : Scan (List ValueItem)). Gives items_of_value c.value_step.result scan) (value_step_is c.args.levels c.args.tokens.now.edge c.args.tokens.now.list) c.value_step.ensures.exact

pub elements-items-preserved : goal.elements-items-preserved
elements-items-preserved t c =
    let more = kept _ c.stands.result c.stands.ensures.value c.if-stands.false in
    record {
      within = ends_within c.args.tokens.now c.rest-rest.result c.items.n c.in-Ok.used c.rest-rest.ensures.value c.items.invariant.within c.in-Ok.ensures.within.1;
      exact = goes (λ e. not_closed 93) (λ e. element_of (value_at (c.args.levels - 1) e)) c.args.tokens.now c.rest-rest.result c.items.n c.rest-rest.ensures.value c.items.list c.push.new.self (items_of_value c.in-Ok.value) c.in-Ok.used _
          more c.in-Ok.ensures.exact c.in-Ok.ensures.within.0 c.in-Ok.ensures.within.1 c.in_ok-push-in-Ok.ensures.ok c.items.invariant.exact;
    }

pub elements-returns-in-Err-clause-exact : goal.elements-returns-in-Err-clause-exact
elements-returns-in-Err-clause-exact t c =
    let more = kept _ c.stands.result c.stands.ensures.value c.if-stands.false in
    gives_up (λ e. not_closed 93) (λ e. element_of (value_at (c.args.levels - 1) e)) c.args.tokens.now c.rest-rest.result c.items.n c.rest-rest.ensures.value c.items.list items_of_value itself c.in-Err.stop _
    more c.in-Err.ensures.exact c.items.invariant.exact

pub elements-returns-then-stands-clause-exact : goal.elements-returns-then-stands-clause-exact
elements-returns-then-stands-clause-exact t c =
    ends (λ e. not_closed 93) (λ e. element_of (value_at (c.args.levels - 1) e)) c.args.tokens.now c.rest-rest.result c.items.n c.rest-rest.ensures.value c.items.list _
    (turned _ c.stands.result c.stands.ensures.value c.if-stands.true) c.items.invariant.exact

pub pairs-items-preserved : goal.pairs-items-preserved
pairs-items-preserved t c =
    let more = kept _ c.stands.result c.stands.ensures.value c.if-stands.false in
    record {
      within = ends_within c.args.tokens.now c.rest-rest.result c.items.n c.in-Ok.used c.rest-rest.ensures.value c.items.invariant.within c.in-Ok.ensures.within.1;
      exact = goes (λ e. not_closed 125) (λ e. pair_of (value_at (c.args.levels - 1) e) e) c.args.tokens.now c.rest-rest.result c.items.n c.rest-rest.ensures.value c.items.list c.push.new.self (items_of_pair c.in-Ok.pair) c.in-Ok.used _
          more c.in-Ok.ensures.exact c.in-Ok.ensures.within.0 c.in-Ok.ensures.within.1 c.in_ok-push-in-Ok.ensures.ok c.items.invariant.exact;
    }

pub pairs-returns-in-Err-clause-exact : goal.pairs-returns-in-Err-clause-exact
pairs-returns-in-Err-clause-exact t c =
    let more = kept _ c.stands.result c.stands.ensures.value c.if-stands.false in
    gives_up (λ e. not_closed 125) (λ e. pair_of (value_at (c.args.levels - 1) e) e) c.args.tokens.now c.rest-rest.result c.items.n c.rest-rest.ensures.value c.items.list items_of_pair itself c.in-Err.stop _
    more c.in-Err.ensures.exact c.items.invariant.exact

pub pairs-returns-then-stands-clause-exact : goal.pairs-returns-then-stands-clause-exact
pairs-returns-then-stands-clause-exact t c =
    ends (λ e. not_closed 125) (λ e. pair_of (value_at (c.args.levels - 1) e) e) c.args.tokens.now c.rest-rest.result c.items.n c.rest-rest.ensures.value c.items.list _
    (turned _ c.stands.result c.stands.ensures.value c.if-stands.true) c.items.invariant.exact
