use Rattle.std.proofs.Common.{◌≡◌, ℕ, List, Ok, decimal, true, sym, ◌∙◌, ap, subst}
use Rattle.std.specs.Str.{IsUtf8}
use Rattle.std.proofs.lemmas.Str.{IsUtf8-from_ascii}
use Rattle.std.proofs.lemmas.Bool.Decides.{Decides-eqb}
use Rattle.std.proofs.lemmas.Slice.Eq.{slice_eq-Decides}
use Rattle.std.proofs.lemmas.Fmt.{IsAscii-decimal, parse-decimal}
use Rattle.decimal_words.proofs.numeral.spelled.Goals as goal

pub returns-in_default-clause-none : goal.returns-in_default-clause-none
returns-in_default-clause-none c = λ _ n small is.
    c.in_default.ensures.cases.0 (subst (λ (bs : List ℕ). IsUtf8 bs) (sym is) (IsUtf8-from_ascii (decimal n) (IsAscii-decimal n small)))

pub returns-in_default-parse-clause-none : goal.returns-in_default-parse-clause-none
returns-in_default-parse-clause-none c = λ _ n small is.
    let good : c.parse.result ≡ Ok n = parse-decimal 64 n c.in-Ok.text.now c.parse.result small small (c.in-Ok.ensures.cases.0 ∙ is) c.parse.ensures.value.0 in
    cc (good, c.in_default-parse.is)

pub returns-else-eq-clause-none : goal.returns-else-eq-clause-none
returns-else-eq-clause-none c = λ _ n small is.
    let good : c.parse.result ≡ Ok n = parse-decimal 64 n c.in-Ok.text.now c.parse.result small small (c.in-Ok.ensures.cases.0 ∙ is) c.parse.ensures.value.0 in
    let number : c.in-Ok-parse.number ≡ n = cc (good, c.in-Ok-parse.is) in
    let same : c.as_bytes.result.now ≡ c.args.word.now = c.as_bytes.ensures.value ∙ (c.format.ensures.text ∙ (ap decimal number ∙ sym is)) in
    let equal : c.eq.result ≡ true = (slice_eq-Decides Decides-eqb c.as_bytes.result.now c.args.word.now c.eq.result c.eq.ensures).1 same in
    cc (equal, c.if-eq.false)
