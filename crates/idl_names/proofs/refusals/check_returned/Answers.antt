use Rattle.std.proofs.Common.{sym}
use Rattle.idl_rules.specs.Leasts.{none_lesser}
use Rattle.idl_names.proofs.refusals.check_returned.Goals as goal

pub returns-in_default : goal.returns-in_default
returns-in_default c = rw c.in_default.is (sym (none_lesser c.args.least.now))
