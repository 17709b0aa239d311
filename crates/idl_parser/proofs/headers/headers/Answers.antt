use Rattle.std.proofs.Common.{◌∙◌, sym}
use Rattle.idl_parser.specs.Documents.{is_header, header_at, listed_path}
use Rattle.idl_parser.specs.Lexemes.{itself}
use Rattle.idl_parser.proofs.Running.{goes, gives_up, ends, ends_within}
use Rattle.idl_parser.proofs.headers.headers.Goals as goal

pub items-preserved : goal.items-preserved
items-preserved c =
    let more = sym c.is_header.ensures ∙ c.if-not-is_header.false in
    record {
      within = ends_within c.args.tokens.now c.rest-rest.result c.items.n c.in-Ok.used c.rest-rest.ensures.value c.items.invariant.within c.in-Ok.ensures.within.1;
      exact = goes (λ e. is_header) (header_at) c.args.tokens.now c.rest-rest.result c.items.n c.rest-rest.ensures.value c.items.list c.keep.new.list (listed_path c.in-Ok.path) c.in-Ok.used _
          more c.in-Ok.ensures.exact c.in-Ok.ensures.within.0 c.in-Ok.ensures.within.1 c.in_ok-keep-in-Ok.ensures.ok c.items.invariant.exact;
    }

pub returns-in-Err-clause-exact : goal.returns-in-Err-clause-exact
returns-in-Err-clause-exact c =
    let more = sym c.is_header.ensures ∙ c.if-not-is_header.false in
    gives_up (λ e. is_header) (header_at) c.args.tokens.now c.rest-rest.result c.items.n c.rest-rest.ensures.value c.items.list listed_path itself c.in-Err.stop _
    more c.in-Err.ensures.exact c.items.invariant.exact

pub returns-then-not-is_header-clause-exact : goal.returns-then-not-is_header-clause-exact
returns-then-not-is_header-clause-exact c =
    ends (λ e. is_header) (header_at) c.args.tokens.now c.rest-rest.result c.items.n c.rest-rest.ensures.value c.items.list _
    (sym c.is_header.ensures ∙ c.if-not-is_header.true) c.items.invariant.exact
