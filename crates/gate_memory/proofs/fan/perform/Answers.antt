use Rattle.gate_memory.specs.declared.fan_steps.FanStep.TheVariants as step
use Rattle.gate_memory.proofs.FanEvents.{ports_kept}
use Rattle.gate_memory.proofs.fan.perform.Goals as goal

pub returns-in-Connect-clause-ports : goal.returns-in-Connect-clause-ports
returns-in-Connect-clause-ports c = λ all. ports_kept c.args.targets step.Connect c.args.sessions.now.items c.connect.new.sessions.items c.connect.result c.connect.ensures.exact all

pub returns-in-Arrive-clause-ports : goal.returns-in-Arrive-clause-ports
returns-in-Arrive-clause-ports c = c.change.ensures.ports c.args.targets

pub returns-in-Finish-clause-ports : goal.returns-in-Finish-clause-ports
returns-in-Finish-clause-ports c = c.change-in-Finish.ensures.ports c.args.targets

pub returns-in-Room-clause-ports : goal.returns-in-Room-clause-ports
returns-in-Room-clause-ports c = c.change-in-Room.ensures.ports c.args.targets

pub returns-in-Break-clause-ports : goal.returns-in-Break-clause-ports
returns-in-Break-clause-ports c = c.change-in-Break.ensures.ports c.args.targets
