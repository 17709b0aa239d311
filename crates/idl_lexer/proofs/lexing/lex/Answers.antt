use Rattle.std.proofs.Common.{sym, arith, subst, Err}
use Rattle.idl_lexer.specs.declared.token.LexError.{LexError}
use Rattle.idl_lexer.specs.Tokens.{Gives, tokens_of}
use Rattle.idl_lexer.proofs.Reading.{goes, stops, ends}
use Rattle.idl_lexer.proofs.Spanned.{spans_kept, spans_whole}
use Rattle.idl_lexer.proofs.lexing.lex.Goals as goal

pub loop-at-preserved : goal.loop-at-preserved
loop-at-preserved c =
    let loop = c.loop-at.invariant in
    let more = c.in_ok-keep-in-Ok.ensures.kept in
    record {
      within = omega (arith, c.in-Ok.ensures.within);
      spans = spans_kept 0 c.loop-at.at c.loop-at.tokens.items _ c.in-Ok.piece c.in-Ok.len loop.spans c.in-Ok.ensures.within.0 more;
      read = goes c.args.text.now c.loop-at.tokens.items _ c.loop-at.at c.in-Ok.len c.in-Ok.piece _ c.loop-at-test.true c.in-Ok.ensures.within.0 (sym c.in-Ok.ensures.value) loop.read more;
    }

pub returns-in-Err-clause-exact : goal.returns-in-Err-clause-exact
returns-in-Err-clause-exact c =
    let stopped = stops c.args.text.now c.loop-at.tokens.items c.loop-at.at c.in-Err.reason _ c.loop-at-test.true (sym c.in-Err.ensures.value) c.loop-at.invariant.read in
    subst (λ (e : LexError). Gives (Err e) (tokens_of c.args.text.now)) (sym c.fault_at.ensures) stopped

pub returns-clause-exact : goal.returns-clause-exact
returns-clause-exact c = ends c.args.text.now c.loop-at.tokens.items c.loop-at.at _ c.loop-at-test.false c.loop-at.invariant.read

pub returns-clause-spans : goal.returns-clause-spans
returns-clause-spans c = spans_whole c.loop-at.at _ c.loop-at.tokens.items c.loop-at.invariant.spans c.loop-at.invariant.within
