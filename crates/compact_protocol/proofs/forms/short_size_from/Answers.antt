use Rattle.std.proofs.Common.{◌+◌, arith}
use Rattle.std.specs.Prelude.{slice_index}
use Rattle.varint_zigzag.proofs.Carrying.{single_there}
use Rattle.varint_zigzag.proofs.Fronts.{told_at}
use Rattle.compact_protocol.specs.Forms.{number_at, size_there}
use Rattle.compact_protocol.proofs.forms.short_size_from.Goals as goal

pub returns-clause-found : goal.returns-clause-found
returns-clause-found c =
    let size = slice_index c.args.frame.now c.args.at in
    size_there c.args.frame.now c.args.at size (c.args.at + 1) (number_at c.args.frame.now c.args.at 5 32 size (c.args.at + 1) c.requires
    (told_at c.args.at _ _ _ (single_there c.args.at c.args.frame.now (omega arith) (omega arith) 5 32 (omega arith) (omega arith)))) (omega arith)
