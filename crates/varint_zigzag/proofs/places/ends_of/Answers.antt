use Rattle.varint_zigzag.proofs.Ends.{marks_of}
use Rattle.varint_zigzag.proofs.places.ends_of.Goals as goal

pub returns : goal.returns
returns c = λ bytes long small is. marks_of bytes c.args.word long small is
