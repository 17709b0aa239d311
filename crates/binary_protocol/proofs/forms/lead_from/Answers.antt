use Rattle.std.proofs.Common.{◌≡◌, ◌+◌, ◌-◌, ◌∷◌, [], drop, take, get_or, ap, ◌∙◌, arith, length-drop, rules, FitsSigned}
use Rattle.std.specs.Int.{w16, from_be_bytes, cast_signed}
use Rattle.std.proofs.lemmas.Int.{to_z-of_z}
use Rattle.std.proofs.lemmas.List.{get_or-drop, get_or-take}
use Rattle.binary_protocol.specs.Forms.{lead_of, lead_found, stop_found}
use Rattle.binary_protocol.proofs.forms.lead_from.Goals as goal

pub returns-then-behind-frame-clause-found : goal.returns-then-behind-frame-clause-found
returns-then-behind-frame-clause-found c = λ good.
    let at = c.args.at in
    let bytes = drop at c.args.frame.now in
    let n = at + 3 - at in
    let code = c.lead_of-lead.ensures.told ∙ ap lead_of (get_or-take n bytes 0 0 (omega arith)) in
    let one = get_or-take n bytes 1 0 (omega arith) in
    let two = get_or-take n bytes 2 0 (omega arith) in
    let fits : FitsSigned w16 c.from_be_bytes-id.result = search rules in
    let id = c.from_be_bytes-id.ensures ∙ ap (λ b. cast_signed w16 (from_be_bytes w16 (b ∷ get_or (take n bytes) 2 0 ∷ []))) one ∙ ap (λ b. cast_signed w16 (from_be_bytes w16 (get_or bytes 1 0 ∷ b ∷ []))) two in
    rw (to_z-of_z w16 c.from_be_bytes-id.result fits)
    (lead_found bytes c.from_be_bytes-id.result c.lead_of-lead.result.0 (at + c.lead_of-lead.result.1 - at) (omega (arith, length-drop at c.args.frame.now)) id (ap (λ x. x.0) code) (omega arith ∙ ap (λ x. x.1) code) good)

pub returns-then-frame-at-eq0-clause-found : goal.returns-then-frame-at-eq0-clause-found
returns-then-frame-at-eq0-clause-found c = λ good.
    let at = c.args.at in
    let one : at + 1 - at ≡ 1 = omega arith in
    let zero = get_or-drop at c.args.frame.now 0 0 ∙ ap (λ k. get_or c.args.frame.now k 0) (omega arith) ∙ c.if-frame-at-eq0.true in
    rw one (stop_found (drop at c.args.frame.now) (omega (arith, length-drop at c.args.frame.now)) zero)
