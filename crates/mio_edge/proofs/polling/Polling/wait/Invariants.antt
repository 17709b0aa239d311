use Rattle.mio_edge.proofs.polling.Polling.wait.Given as goal

-- what came so far was reported
abbrev pub invariant-loop-event : goal.invariant-loop-event
invariant-loop-event g l = g.R.Reports.goes l.fn.reports l.reports
