use Rattle.std.proofs.Common.{◌+◌, refl, map, drop, arith}
use Rattle.idl_rules.specs.Doubles.{repeated, double_names}
use Rattle.idl_rules.specs.Order.{lesser, least_of}
use Rattle.idl_rules.proofs.Sets.{named_step}
use Rattle.idl_rules.proofs.Steps.{opened, ends}
use Rattle.idl_rules.proofs.doubles.check_names.Goals as goal

pub loop-item-preserved : goal.loop-item-preserved
loop-item-preserved g c =
    let xs = c.args.list.now in
    let i = c.loop-item.item-index in
    let rest = map g.T.Named.named (drop (i + 1) xs) in
    let whole = lesser c.args.least.now (least_of (double_names c.args.row (map g.T.Named.named xs))) in
    named_step c.args.row c.loop-item.seen c.insert.new.self (g.T.Named.named c.item-item.result) c.name-name.result.now c.as_slice.result.now c.in_ok-again.again rest
    c.loop-item.least c.note_when.new.self whole c.name-name.ensures c.as_slice.ensures c.in_ok-again.ensures.told c.in_ok-again.ensures.kept c.note_when.ensures
    (opened xs i c.item-item.result (λ l. repeated c.args.row c.loop-item.seen (map g.T.Named.named l)) c.loop-item.least whole c.loop-item-test.true c.item-item.is c.loop-item.invariant)

pub returns : goal.returns
returns g c = ends c.args.list.now c.loop-item.item-index (λ l. repeated c.args.row c.loop-item.seen (map g.T.Named.named l)) c.loop-item.least _ refl (omega arith) c.loop-item.invariant
