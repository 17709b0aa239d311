use Rattle.std.proofs.Common.{rules, refl, ap, sym, ◌∙◌}
use Rattle.gate_memory.specs.Fan.{targets_of}
use Rattle.gate_memory.proofs.FanEvents.{steps_by}
use Rattle.gate_memory.proofs.fan.MemFan.step.Goals as goal

pub returns-in-Opened-clause-exact : goal.returns-in-Opened-clause-exact
returns-in-Opened-clause-exact c = steps_by _ _ _ c.self.inside.steps c.self.inside.place c.targets-targets.result c.index-steps-self.result _ _ _ c.self.view_is (c.targets-targets.ensures ∙ ap targets_of (sym c.self.view_is)) refl c.requires.some (search rules) c.in-Opened.ensures.exact c.comes.ensures.result c.comes.ensures.after

pub returns-in-Ready-clause-exact : goal.returns-in-Ready-clause-exact
returns-in-Ready-clause-exact c = steps_by _ _ _ c.self.inside.steps c.self.inside.place c.targets-targets.result c.index-steps-self.result _ _ _ c.self.view_is (c.targets-targets.ensures ∙ ap targets_of (sym c.self.view_is)) refl c.requires.some (search rules) c.in-Ready.ensures.exact c.comes-in-Ready.ensures.result c.comes-in-Ready.ensures.after

pub returns-in-Broke-clause-exact : goal.returns-in-Broke-clause-exact
returns-in-Broke-clause-exact c = steps_by _ _ _ c.self.inside.steps c.self.inside.place c.targets-targets.result c.index-steps-self.result _ _ _ c.self.view_is (c.targets-targets.ensures ∙ ap targets_of (sym c.self.view_is)) refl c.requires.some (search rules) c.in-Broke.ensures.exact c.fails.ensures.result c.fails.ensures.after
