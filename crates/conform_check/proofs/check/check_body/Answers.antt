use Rattle.std.proofs.Common.{refl}
use Rattle.translate_verdicts.specs.Body.{source_of}
use Rattle.conform_check.specs.Checking.{body_from, begun}
use Rattle.conform_check.proofs.Frames.{closed_fault, closed_found}
use Rattle.conform_check.proofs.check.check_body.Goals as goal

pub returns-in-Err-clause-exact : goal.returns-in-Err-clause-exact
returns-in-Err-clause-exact g c =
    let source = source_of g.R.ReadRules.begun g.R.ReadRules.reads_head g.R.ReadRules.reads g.R.ReadRules.reads_end g.R.ReadRules.value_place g.R.ReadRules.ahead in
    rw c.in-Err.ensures.exact refl

pub returns-in-Ok-finish-clause-exact : goal.returns-in-Ok-finish-clause-exact
returns-in-Ok-finish-clause-exact g c =
    let source = source_of g.R.ReadRules.begun g.R.ReadRules.reads_head g.R.ReadRules.reads g.R.ReadRules.reads_end g.R.ReadRules.value_place g.R.ReadRules.ahead in
    closed_found source (body_from source c.args.reader.now (begun c.args.schema.now c.args.body)) c.in-Ok.found c.look_through.new.reader c.look_through.new.path.items c.checked_of.result
    c.in-Ok.ensures.exact c.in-Ok-finish.ensures (c.checked_of.ensures c.look_through.new.path.items)

pub returns-in-Err-finish-clause-exact : goal.returns-in-Err-finish-clause-exact
returns-in-Err-finish-clause-exact g c =
    let source = source_of g.R.ReadRules.begun g.R.ReadRules.reads_head g.R.ReadRules.reads g.R.ReadRules.reads_end g.R.ReadRules.value_place g.R.ReadRules.ahead in
    closed_fault source (body_from source c.args.reader.now (begun c.args.schema.now c.args.body)) c.in-Ok.found c.look_through.new.reader c.look_through.new.path.items c.in-Err-finish.fault
    c.in-Ok.ensures.exact c.in-Err-finish.ensures
