use Rattle.std.proofs.Common.{List, ℕ, sym, subst}
use Rattle.std.specs.Str.{IsAscii}
use Rattle.drill_messages.proofs.Drawing.{letters_ascii}
use Rattle.drill_messages.proofs.making.draw_item.Goals as goal

pub invariant_of-result : goal.invariant_of-result
invariant_of-result c = record { text = subst (λ (bytes : List ℕ). IsAscii bytes) (sym c.letters-name.ensures.drawn) (letters_ascii _) }
