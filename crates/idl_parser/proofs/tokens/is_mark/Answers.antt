use Rattle.std.proofs.Common.{◌≡◌, subst, sym}
use Rattle.std.specs.Prelude.{false}
use Rattle.idl_lexer.specs.declared.token.TokenForm.{TokenForm}
use Rattle.idl_parser.specs.Lexemes.{stands_by}
use Rattle.idl_parser.specs.Seeing.{form_lexeme}
use Rattle.idl_parser.specs.Words.{keyword_of}
use Rattle.idl_parser.proofs.Views.{no_mark}
use Rattle.idl_parser.proofs.tokens.is_mark.Goals as goal

pub returns-in-Word : goal.returns-in-Word
returns-in-Word c = λ word. subst (λ (f : TokenForm). false ≡ stands_by c.args.mark (form_lexeme f word)) (sym c.in-Word.is) (no_mark c.args.mark (keyword_of word))
