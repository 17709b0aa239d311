use Rattle.json_protocol.proofs.PlaceWords.{plain_found}
use Rattle.json_protocol.proofs.places.number_at.Goals as goal

pub returns-then-key-clause-found : goal.returns-then-key-clause-found
returns-then-key-clause-found c = rw (c.if-key.true) (c.quoted_int.ensures.found)

pub returns-clause-found : goal.returns-clause-found
returns-clause-found c = rw (c.if-key.false) (plain_found c.args.frame.now c.args.at c.plain_int.result c.plain_int.ensures.inside c.plain_int.ensures.found)
