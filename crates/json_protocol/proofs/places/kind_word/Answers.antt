use Rattle.std.proofs.Common.{arith}
use Rattle.json_protocol.proofs.PlaceWords.{long_kind}
use Rattle.json_protocol.proofs.places.kind_word.Goals as goal

pub returns-in-Some-clause-found : goal.returns-in-Some-clause-found
returns-in-Some-clause-found c =
    long_kind c.args.frame.now c.args.at (omega arith) c.if-frame-at-ne34.false c.from_le_bytes-word.result c.in-Some.kind (λ i. omega (arith, c.type_inv.frame i)) c.from_le_bytes-word.ensures c.in-Some.ensures.0 c.in-Some.ensures.1
