use Rattle.varint_zigzag.proofs.Tops.{count_of}
use Rattle.varint_zigzag.proofs.cells.count_at.Goals as goal

pub returns : goal.returns
returns c = record { count = λ v has. count_of c.args.top v c.requires has }
