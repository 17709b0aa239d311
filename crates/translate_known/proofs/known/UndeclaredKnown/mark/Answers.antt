use Rattle.std.proofs.Common.{sym}
use Rattle.translate_known.proofs.known.UndeclaredKnown.mark.Goals as goal

pub returns : goal.returns
returns c ty unknown = rw unknown (sym (c.unknown_mark.ensures c.args._schema.now))
