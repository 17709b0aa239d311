use Rattle.std.proofs.Common.{arith, ◌≡◌, get_or, sym, ◌∙◌, subst}
use Rattle.mio_edge.specs.Targets.{LeadsTo}
use Rattle.mio_edge.proofs.Leading.{adds_one}
use Rattle.mio_edge.proofs.targets.find_targets.Goals as goal
use Rattle.std.proofs.lemmas.Grind.{common_steps}

pub loop-at-preserved : goal.loop-at-preserved
loop-at-preserved g c =
    let word = c.as_slice-word.result.now in
    let target = c.in-Some-target_address.target in
    let e = c.as_slice-word.ensures in
    let is : get_or c.args.upstreams.now c.loop-at.at word ≡ word = subst (λ w. get_or c.args.upstreams.now c.loop-at.at w ≡ w) (sym e) (sym c.index-upstreams-at.is) in
    let leads : LeadsTo g.W.Network.names word target = (c.in-Some.address, sym c.read_address.ensures ∙ c.in-Some.is, c.in-Some-target_address.ensures.target) in
    adds_one g.W.Network.names c.args.upstreams.now c.args.targets.now.items c.loop-at.targets.items c.push.new.self.items c.loop-at.at word target c.loop-at-test.true is c.in_ok-push.ensures.items leads c.loop-at.invariant

pub returns-clause-finds : goal.returns-clause-finds
returns-clause-finds g c = grind (arith, common_steps)

pub returns-in_default-target_address-clause-place : goal.returns-in_default-target_address-clause-place
returns-in_default-target_address-clause-place g c = grind (arith, common_steps)

pub returns-in_default-target_address-clause-finds : goal.returns-in_default-target_address-clause-finds
returns-in_default-target_address-clause-finds g c = grind (arith, common_steps)

pub returns-in_default-clause-place : goal.returns-in_default-clause-place
returns-in_default-clause-place g c = grind (arith, common_steps)

pub returns-in_default-clause-finds : goal.returns-in_default-clause-finds
returns-in_default-clause-finds g c = grind (arith, common_steps)

pub returns-clause-place : goal.returns-clause-place
returns-clause-place g c = grind (arith, common_steps)
