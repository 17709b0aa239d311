use Rattle.std.proofs.Common.{◌≡◌, ℕ, sym, subst, arith}
use Rattle.std.proofs.lemmas.Grind.{common_steps}
use Rattle.thrift_value.specs.declared.kind.Kind.TheVariants as kinds
use Rattle.protocol_traits.specs.Forms.{pairs_item}
use Rattle.json_protocol.specs.Values.{map_head_at, value_at}
use Rattle.json_protocol.specs.WriteForms.{stand_key}
use Rattle.json_protocol.specs.ReadForms.{Finds, Valued, level_read, pairs_there, no_pairs_there}
use Rattle.json_protocol.proofs.read_forms.JsonReadFormRead.pairs.Goals as goal

pub returns-then-pairs-gt0-clause-steps : goal.returns-then-pairs-gt0-clause-steps
returns-then-pairs-gt0-clause-steps c =
    let p = c.in_ok-pairs.pairs in
    let e = c.in_ok-pairs.ensures in
    level_read c.args.frame.now c.args.at p.behind c.args.stand kinds.Map (pairs_item p.key p.value p.size)
    (pairs_there c.args.frame.now c.args.at c.in_ok-place.place p.behind c.args.stand p.key p.value p.size c.in_ok-place.ensures e.bracket e.found (omega (arith, c.if-pairs-gt0.true)))

pub returns-clause-steps : goal.returns-clause-steps
returns-clause-steps c =
    let p = c.in_ok-pairs.pairs in
    let e = c.in_ok-pairs.ensures in
    let none : p.size ≡ 0 = omega (arith, c.if-pairs-gt0.false) in
    let found : Finds c.args.frame.now c.in_ok-place.place map_head_at ((p.key, p.value), 0) p.behind = subst (λ (n : ℕ). Finds c.args.frame.now c.in_ok-place.place map_head_at ((p.key, p.value), n) p.behind) none e.found in
    level_read c.args.frame.now c.args.at c.in_ok-behind.behind c.args.stand kinds.Map (pairs_item p.key p.value p.size)
    (λ hint. subst (λ (n : ℕ). Valued c.args.frame.now c.args.at c.args.stand (value_at (stand_key c.args.stand) hint kinds.Map) (pairs_item p.key p.value n) c.in_ok-behind.behind) (sym none)
    (no_pairs_there c.args.frame.now c.args.at c.in_ok-place.place p.behind c.in_ok-behind.behind c.args.stand p.key p.value c.in_ok-place.ensures e.bracket found c.in_ok-behind.ensures hint))

pub returns-clause-past : goal.returns-clause-past
returns-clause-past c = grind (arith, common_steps)
