use Rattle.idl_schema.proofs.Meaning.{meant}
use Rattle.idl_schema.proofs.laws.typedefs_are_followed.Goals as goal

pub returns : goal.returns
returns c files file base tree target e = meant files file base tree target e
