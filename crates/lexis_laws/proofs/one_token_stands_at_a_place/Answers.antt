use Rattle.std.proofs.Common.{sym, ◌∙◌}
use Rattle.lexis_laws.proofs.Single.{one_token}
use Rattle.lexis_laws.proofs.one_token_stands_at_a_place.Goals as goal

pub returns : goal.returns
returns c text bytes front form other (rest, is, stands) (behind, is_too, stands_too) =
    let same = one_token form other bytes rest front behind (sym is ∙ is_too) stands stands_too in (same.0, same.1)
