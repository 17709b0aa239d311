use Rattle.std.proofs.Common.{refl}
use Rattle.http_front.proofs.Handing.{turns_none}
use Rattle.http_front.proofs.front.Front.send_empty.Goals as goal

pub returns-in_default-clause-goes : goal.returns-in_default-clause-goes
returns-in_default-clause-goes g c = turns_none (g.H.Hub.tells c.args.inner.now) c.args.k c.args.self.now c.args.self.now refl
