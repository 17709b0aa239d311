use Rattle.std.proofs.Common.{arith}
use Rattle.json_protocol.proofs.PlaceWords.{bool_kind, i8_kind}
use Rattle.json_protocol.proofs.places.short_kind.Goals as goal

pub returns-then-frame-at-eq102 : goal.returns-then-frame-at-eq102
returns-then-frame-at-eq102 c = bool_kind c.args.frame.now c.args.at (omega (arith, c.requires.room)) c.requires.quote c.if-frame-at-eq116.true c.if-frame-at-eq102.true c.if-frame-at-ne34.false

pub returns-then-frame-at-eq56 : goal.returns-then-frame-at-eq56
returns-then-frame-at-eq56 c = i8_kind c.args.frame.now c.args.at (omega (arith, c.requires.room)) c.requires.quote c.if-frame-at-eq105.true c.if-frame-at-eq56.true c.if-frame-at-ne34.false
