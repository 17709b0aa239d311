use Rattle.std.proofs.Common.{rules, FitsSigned}
use Rattle.std.specs.Int.{w64}
use Rattle.std.proofs.lemmas.Int.{to_z-of_z}
use Rattle.json_protocol.proofs.PlaceWords.{quoted_found}
use Rattle.json_protocol.proofs.places.quoted_id.Goals as goal

pub returns-clause-found : goal.returns-clause-found
returns-clause-found c =
    let fits : FitsSigned w64 c.in_ok-value.value = search rules in
    rw (to_z-of_z w64 c.in_ok-value.value fits)
    (λ reason low high a b. quoted_found c.args.frame.now c.args.at c.in_ok-begin.begin c.in_ok-value.«end» c.in_ok-behind.behind c.in_ok-value.value low high reason c.in_ok-begin.ensures c.in_ok-value.ensures.inside c.in_ok-value.ensures.found c.in_ok-behind.ensures a b)
