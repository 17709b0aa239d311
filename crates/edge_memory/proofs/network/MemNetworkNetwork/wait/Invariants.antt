use Rattle.edge_memory.proofs.network.MemNetworkNetwork.wait.Given as goal

-- what came so far was reported
abbrev pub invariant-loop-token : goal.invariant-loop-token
invariant-loop-token g l = g.R.Reports.goes l.fn.reports l.reports
