use Rattle.std.proofs.Common.{◌≡◌, Err, rules}
use Rattle.gate_start.proofs.Starts.{stays}
use Rattle.gate_start.proofs.start.prepare.Goals as goal

pub returns-in_err-schema-clause-told : goal.returns-in_err-schema-clause-told
returns-in_err-schema-clause-told g c = λ holds told.
    let is : c.from_residual.result ≡ Err c.in_err-schema.field-0.0 = search rules in
    rw is (stays holds c.args.words.now c.in_err-schema.field-0.0 (c.in_err-schema.ensures.told holds told))
