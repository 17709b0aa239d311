use Rattle.decimal_words.proofs.Numerals.{told}
use Rattle.decimal_words.proofs.numeral.number.Goals as goal

pub returns : goal.returns
returns c = told c.args.word.now c.spelled.result c.spelled.ensures.some c.spelled.ensures.small c.spelled.ensures.none
