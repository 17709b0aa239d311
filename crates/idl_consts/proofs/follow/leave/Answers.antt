use Rattle.std.proofs.Common.{subst, List}
use Rattle.idl_consts.specs.declared.follow.Frame.{Frame}
use Rattle.idl_consts.specs.Meant.{meant_at}
use Rattle.idl_consts.specs.Trails.{Leads}
use Rattle.idl_consts.proofs.Trailing.{leads_pop, waiting_on}
use Rattle.idl_consts.proofs.follow.leave.Goals as goal

pub returns-in-Some : goal.returns-in-Some
returns-in-Some c = λ d s m l.
    let top = c.args.trail.now.top in
    let frame = c.in-Some.frame in
    let popped = leads_pop d s m c.pop.new.self.items frame top.constant (meant_at d top.ty)
    (subst (λ (fs : List Frame). Leads d s m fs top.constant (meant_at d top.ty)) c.in-Some.ensures.items l.0) in
    (popped.0, waiting_on d frame top.constant (meant_at d top.ty) popped.1 l.1)
