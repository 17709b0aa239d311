use Rattle.std.proofs.lemmas.List.{take_rest}
use Rattle.binary_protocol.specs.Scan.{value_at}
use Rattle.binary_protocol.specs.Forms.{flag_read}
use Rattle.binary_protocol.proofs.read_forms.BinaryReadFormRead.flag.Goals as goal

pub returns-clause-steps : goal.returns-clause-steps
unfolding value_at
returns-clause-steps c = λ id last up first. flag_read c.args.frame.now c.args.at c.args.behind 1 c.args.opening id last up c.in_ok-value.value first (rw take_rest at c.in_ok-value.ensures)
