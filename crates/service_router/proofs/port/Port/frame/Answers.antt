use Rattle.service_router.proofs.port.Port.frame.Goals as goal

pub returns-clause-cut : goal.returns-clause-cut
returns-clause-cut c = rw (← c.self.view_is) c.frame.ensures.cut
