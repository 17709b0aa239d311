use Rattle.varint_zigzag.proofs.Tops.{some_bit, has_top, top_few}
use Rattle.varint_zigzag.proofs.cells.top_bit.Goals as goal

pub ilog2-requires : goal.ilog2-requires
ilog2-requires c = some_bit c.args.v

pub returns-clause-highest : goal.returns-clause-highest
returns-clause-highest c = has_top c.args.v c.ilog2.result c.ilog2.ensures.power_le c.ilog2.ensures.next_power_gt

pub returns-clause-few : goal.returns-clause-few
returns-clause-few c = top_few c.args.v c.ilog2.result c.requires c.ilog2.ensures.power_le
