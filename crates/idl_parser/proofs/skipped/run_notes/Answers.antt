use Rattle.std.proofs.Common.{refl, [], ap, sym}
use Rattle.idl_parser.specs.Notes.{not_closed, one_note, nothing}
use Rattle.idl_parser.proofs.Listed.{turned, kept}
use Rattle.idl_parser.proofs.Running.{goes, breaks, ends, ends_within}
use Rattle.idl_parser.proofs.skipped.run_notes.Goals as goal

pub items-preserved : goal.items-preserved
items-preserved c =
    let more = kept _ c.stands.result c.stands.ensures.value c.if-stands.false in
    record {
      within = ends_within c.args.tokens.now c.rest-rest.result c.items.n c.in-Ok.used c.rest-rest.ensures.value c.items.invariant.within c.in-Ok.ensures.within.1;
      exact = goes (λ e. not_closed 41) (one_note) c.args.tokens.now c.rest-rest.result c.items.n c.rest-rest.ensures.value [] [] [] c.in-Ok.used _
          more (ap nothing (sym c.in-Ok.ensures.exact)) c.in-Ok.ensures.within.0 c.in-Ok.ensures.within.1 refl c.items.invariant.exact;
    }

pub returns-in-Err-clause-exact : goal.returns-in-Err-clause-exact
returns-in-Err-clause-exact c =
    let more = kept _ c.stands.result c.stands.ensures.value c.if-stands.false in
    sym (breaks (λ e. not_closed 41) (one_note) c.args.tokens.now c.rest-rest.result c.items.n c.rest-rest.ensures.value [] c.in-Err.fault _
    more (ap nothing (sym c.in-Err.ensures.exact)) c.items.invariant.exact)

pub returns-then-stands-clause-exact : goal.returns-then-stands-clause-exact
returns-then-stands-clause-exact c =
    sym (ends (λ e. not_closed 41) (one_note) c.args.tokens.now c.rest-rest.result c.items.n c.rest-rest.ensures.value [] _
    (turned _ c.stands.result c.stands.ensures.value c.if-stands.true) c.items.invariant.exact)
