use Rattle.std.proofs.Common.{sym, arith}
use Rattle.protocol_traits.specs.declared.forms.Stand.TheVariants as stands
use Rattle.binary_protocol.specs.Forms.{next_read, stands_at as reader_at}
use Rattle.binary_protocol.specs.Plain.{bar as own_bar}
use Rattle.binary_protocol.specs.WriteForms.{stands_at as writer_at}
use Rattle.kept_forms.specs.InBinary.{own_plain}
use Rattle.kept_forms.proofs.InBinary.{value_there}
use Rattle.kept_forms.proofs.Runs.{run_there}
use Rattle.kept_forms.proofs.binary.BinaryReadFormKeepBinaryWrite.keep_run.Goals as goal

pub returns-clause-keeps : goal.returns-clause-keeps
returns-clause-keeps c =
    let frame = c.args.frame.now in
    let width = c.in_ok-width.width in
    run_there next_read reader_at own_bar own_plain writer_at frame c.args.at c.args.kind c.args.size width (λ begin within. value_there frame begin stands.Element c.args.kind width c.type_inv.frame (sym c.in_ok-width.ensures.exact) within) (omega arith)
