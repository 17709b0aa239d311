use Rattle.varint_zigzag.proofs.Shortest.{shortest_form, shortest_least, shortest_within}
use Rattle.varint_zigzag.proofs.laws.shortest_is_least.Goals as goal

pub returns-clause-form : goal.returns-clause-form
returns-clause-form c = shortest_form

pub returns-clause-least : goal.returns-clause-least
returns-clause-least c = shortest_least

pub returns-clause-most : goal.returns-clause-most
returns-clause-most c = shortest_within
