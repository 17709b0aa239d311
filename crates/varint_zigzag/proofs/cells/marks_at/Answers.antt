use Rattle.varint_zigzag.proofs.Tops.{marks_of}
use Rattle.varint_zigzag.proofs.cells.marks_at.Goals as goal

pub returns : goal.returns
returns c = record { marks = λ v has. marks_of c.args.top v c.requires has }
