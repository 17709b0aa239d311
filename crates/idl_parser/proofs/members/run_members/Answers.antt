use Rattle.std.proofs.Common.{ap, [], ◌∷◌}
use Rattle.idl_parser.specs.Notes.{not_closed}
use Rattle.idl_document.specs.declared.document.Member.{Member}
use Rattle.idl_parser.specs.Declarations.{one_member}
use Rattle.idl_parser.specs.Lexemes.{itself}
use Rattle.idl_parser.proofs.Listed.{stop_listed, turned, kept}
use Rattle.idl_parser.specs.Run.{listed}
use Rattle.idl_parser.proofs.Running.{goes, gives_up, ends, ends_within}
use Rattle.idl_parser.proofs.members.run_members.Goals as goal

pub items-preserved : goal.items-preserved
items-preserved c =
    let more = kept _ c.stands.result c.stands.ensures.value c.if-stands.false in
    record {
      within = ends_within c.args.tokens.now c.rest-rest.result c.items.n c.in-Ok.used c.rest-rest.ensures.value c.items.invariant.within c.in-Ok.ensures.within.1;
      exact = goes (λ e. not_closed 125) (one_member) c.args.tokens.now c.rest-rest.result c.items.n c.rest-rest.ensures.value c.items.list c.push.new.self (c.in-Ok.member ∷ []) c.in-Ok.used _
          more (ap listed c.in-Ok.ensures.exact) c.in-Ok.ensures.within.0 c.in-Ok.ensures.within.1 c.in_ok-push-in-Ok.ensures.ok c.items.invariant.exact;
    }

pub returns-in-Err-clause-exact : goal.returns-in-Err-clause-exact
returns-in-Err-clause-exact c =
    let more = kept _ c.stands.result c.stands.ensures.value c.if-stands.false in
    gives_up (λ e. not_closed 125) (one_member) c.args.tokens.now c.rest-rest.result c.items.n c.rest-rest.ensures.value c.items.list (λ (x : Member). x ∷ []) itself c.in-Err.stop _
    more (stop_listed itself c.in-Err.stop _ c.in-Err.ensures.exact) c.items.invariant.exact

pub returns-then-stands-clause-exact : goal.returns-then-stands-clause-exact
returns-then-stands-clause-exact c =
    ends (λ e. not_closed 125) (one_member) c.args.tokens.now c.rest-rest.result c.items.n c.rest-rest.ensures.value c.items.list _
    (turned _ c.stands.result c.stands.ensures.value c.if-stands.true) c.items.invariant.exact
