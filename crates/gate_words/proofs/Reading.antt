-- Options are read pair by pair.
use Rattle.std.proofs.Common.{◌≡◌, ℕ, List, ◌∷◌, Option, Some, sym, ◌∙◌, ap}
use Rattle.gate_words.specs.Options.{options_of, with_option, and_then}
use Rattle.gate_words.specs.declared.options.Options.{Options}

-- behind a pair that was taken, what is left says the rest
pub goes : (whole : Option Options) (old more : Options) (left values rest : List (List ℕ)) (name value : List ℕ) → left ≡ name ∷ values → values ≡ value ∷ rest →
    Some more ≡ with_option old name value → options_of old left ≡ whole → options_of more rest ≡ whole
goes whole old more left values rest name value l v w i =
    let pair : options_of old left ≡ options_of old (name ∷ value ∷ rest) = ap (options_of old) (l ∙ ap (λ (ws : List (List ℕ)). name ∷ ws) v) in
    let step : options_of old (name ∷ value ∷ rest) ≡ options_of more rest = ap (λ (o : Option Options). and_then o (λ (m : Options). options_of m rest)) (sym w) in
    sym step ∙ (sym pair ∙ i)
