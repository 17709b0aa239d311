use Rattle.std.proofs.Common.{arith, ◌≡◌, List, length, Ok, subst, sym, ap, ◌∙◌}
use Rattle.idl_lexer.specs.declared.token.Token.{Token}
use Rattle.idl_parser.specs.Documents.{document_at}
use Rattle.idl_document.specs.Trees.{document_tree}
use Rattle.idl_parser.specs.Seeing.{IsInside, seen_all}
use Rattle.idl_parser.specs.Seen.{Input}
use Rattle.idl_parser.proofs.Counting.{definitions_of_text}
use Rattle.idl_parser.proofs.Inside.{inside}
use Rattle.idl_parser.proofs.parsing.parse.Goals as goal
use Rattle.std.proofs.lemmas.Grind.{common_steps}
use Rattle.idl_parser.specs.Documents.{parsed}

pub of-requires : goal.of-requires
of-requires c =
    let size = length c.args.text.now in
    subst (IsInside size) (sym c.as_slice.ensures.value) (inside 0 size c.in-Ok.tokens.items c.in-Ok.ensures.spans)

pub returns-in-Ok-document_at-clause-few : goal.returns-in-Ok-document_at-clause-few
returns-in-Ok-document_at-clause-few c =
    let seen : c.of.result ≡ record { list = seen_all c.args.text.now c.in-Ok.tokens.items; edge = length c.args.text.now } =
    c.of.ensures ∙ ap (λ (tokens : List Token). record { list = seen_all c.args.text.now tokens; edge = length c.args.text.now }) c.as_slice.ensures.value in
    let read = subst (λ (input : Input). document_at input.edge input.list ≡ Ok (document_tree c.in-Ok-document_at.document, c.in-Ok-document_at.field-0-1)) seen c.in-Ok-document_at.ensures.exact in
    definitions_of_text c.args.text.now c.in-Ok.tokens.items c.in-Ok-document_at.document c.in-Ok-document_at.field-0-1 c.in-Ok.ensures.spans read

pub returns-in-Ok-document_at-clause-exact : goal.returns-in-Ok-document_at-clause-exact
unfolding parsed
returns-in-Ok-document_at-clause-exact c = grind (arith, common_steps)

pub returns-in-Err-Fault-clause-exact : goal.returns-in-Err-Fault-clause-exact
unfolding parsed
returns-in-Err-Fault-clause-exact c = grind (arith, common_steps)
