use Rattle.std.proofs.Common.{◌≡◌, ℕ, ◌+◌, ◌-◌, take, drop, Ok, ap, ◌∙◌, arith}
use Rattle.compact_protocol.proofs.Headers.{name_there}
use Rattle.compact_protocol.proofs.forms.name_from.Goals as goal

pub returns : goal.returns
returns c =
    let size = c.in_ok-size.size in
    let begin = c.in_ok-size.begin in
    let count : size ≡ begin + size - begin = omega arith in
    name_there c.args.frame.now c.args.at size begin c.in_ok-size.ensures.found (omega (arith, c.in_ok-size.ensures.found.2)) ∙ ap (λ (n : ℕ). Ok (take n (drop begin c.args.frame.now), begin + size)) count
