use Rattle.std.proofs.lemmas.List.{take_rest}
use Rattle.compact_protocol.specs.Forms.{flag_read}
use Rattle.compact_protocol.proofs.read_forms.CompactReadFormRead.flag.Goals as goal

pub returns-clause-steps : goal.returns-clause-steps
returns-clause-steps c = λ id last up first. flag_read c.args.frame.now c.args.at c.args.behind c.args.opening id last up c.flag_of.result (rw take_rest at c.flag_of.ensures) first
