use Rattle.std.proofs.Common.{rules, refl, ap, ◌∙◌, ◌+◌}
use Rattle.gate_memory.proofs.Bytes.{by_bytes, failed_bytes}
use Rattle.gate_memory.proofs.Events.{steps_opened, steps_ready, steps_failed, later_ready, later_opened_in, shorter_by_one, within_steps, not_stopped, steps_by}
use Rattle.gate_memory.specs.contracts.hub.MemHub.{the_view}
use Rattle.gate_memory.proofs.hub.MemHub.step.Goals as goal

pub returns-in-Opened-clause-exact : goal.returns-in-Opened-clause-exact
returns-in-Opened-clause-exact c = steps_by _ _ _ c.self.inside.steps c.self.inside.place c.index-steps-self.result _ _ _ c.self.view_is refl c.requires.some (search rules) c.in-Opened.ensures.exact c.comes.ensures.result c.comes.ensures.after

pub returns-in-Ready-clause-exact : goal.returns-in-Ready-clause-exact
returns-in-Ready-clause-exact c = steps_by _ _ _ c.self.inside.steps c.self.inside.place c.index-steps-self.result _ _ _ c.self.view_is refl c.requires.some (search rules) c.in-Ready.ensures.exact c.comes-in-Ready.ensures.result c.comes-in-Ready.ensures.after

pub returns-in-Broke-clause-exact : goal.returns-in-Broke-clause-exact
returns-in-Broke-clause-exact c = steps_by _ _ _ c.self.inside.steps c.self.inside.place c.index-steps-self.result _ _ _ c.self.view_is refl c.requires.some (search rules) c.in-Broke.ensures.exact c.fails.ensures.result c.fails.ensures.after

pub returns-in-Opened-clause-steps : goal.returns-in-Opened-clause-steps
returns-in-Opened-clause-steps c = steps_opened _ _ (the_view (record c.self.inside { place = c.self.inside.place + 1; sessions = c.perform-performed.new.sessions })) _ _ _ c.self.view_is c.comes.ensures.result c.comes.ensures.after c.in-Opened.ensures.told.0 c.in-Opened.ensures.told.1 refl refl (shorter_by_one c.self.inside.steps c.self.inside.place (within_steps _ _ c.self.inside.steps c.self.inside.place c.self.view_is refl c.requires.some)) (not_stopped _ _ c.self.inside.steps c.self.inside.place c.self.view_is refl c.requires.some c.self.invariant.2) (by_bytes _ _ _ _ _ c.self.view_is c.comes.ensures.result (returns-in-Opened-clause-exact c))

pub returns-in-Opened-clause-later : goal.returns-in-Opened-clause-later
returns-in-Opened-clause-later c =
    let after = c.comes.ensures.after in
    later_opened_in _ _ c.comes.new.self c.self.view_is (ap (λ h. h.sessions) after ∙ c.in-Opened.ensures.told.1) (ap (λ h. h.faults) after) (ap (λ h. h.strays) after)

pub returns-in-Ready-clause-steps : goal.returns-in-Ready-clause-steps
returns-in-Ready-clause-steps c =
    let e = c.in-Ready.ensures.told in
    steps_ready _ _ (the_view (record c.self.inside { place = c.self.inside.place + 1; sessions = c.perform-performed.new.sessions })) _ _ _ _ _ c.self.view_is c.comes-in-Ready.ensures.result c.comes-in-Ready.ensures.after e.0 e.1.2 e.1.3 e.1.4 refl refl (shorter_by_one c.self.inside.steps c.self.inside.place (within_steps _ _ c.self.inside.steps c.self.inside.place c.self.view_is refl c.requires.some)) (not_stopped _ _ c.self.inside.steps c.self.inside.place c.self.view_is refl c.requires.some c.self.invariant.2) (by_bytes _ _ _ _ _ c.self.view_is c.comes-in-Ready.ensures.result (returns-in-Ready-clause-exact c))

pub returns-in-Ready-clause-later : goal.returns-in-Ready-clause-later
returns-in-Ready-clause-later c =
    let after = c.comes-in-Ready.ensures.after in
    let e = c.in-Ready.ensures.told in
    later_ready _ _ c.comes-in-Ready.new.self _ _ _ c.self.view_is e.0 e.1.2 (ap (λ h. h.sessions) after ∙ e.1.3) e.1.5 (ap (λ h. h.faults) after) (ap (λ h. h.strays) after)

pub returns-in-Broke-clause-steps : goal.returns-in-Broke-clause-steps
returns-in-Broke-clause-steps c = steps_failed _ _ (the_view (record c.self.inside { place = c.self.inside.place + 1; sessions = c.perform-performed.new.sessions })) _ _ _ c.self.view_is c.fails.ensures.result c.fails.ensures.after c.in-Broke.ensures.told refl refl (shorter_by_one c.self.inside.steps c.self.inside.place (within_steps _ _ c.self.inside.steps c.self.inside.place c.self.view_is refl c.requires.some)) (not_stopped _ _ c.self.inside.steps c.self.inside.place c.self.view_is refl c.requires.some c.self.invariant.2) (failed_bytes _ (the_view (record c.self.inside { place = c.self.inside.place + 1; sessions = c.perform-performed.new.sessions })) _ c.self.inside.steps c.self.inside.place _ c.fails.ensures.after c.in-Broke.ensures.told refl refl)

pub returns-in-Refused-clause-steps : goal.returns-in-Refused-clause-steps
returns-in-Refused-clause-steps c = steps_failed _ _ (the_view (record c.self.inside { place = c.self.inside.place + 1; sessions = c.perform-performed.new.sessions; refused = c.saturating_add-self-inside.result })) _ _ _ c.self.view_is c.fails-in-Refused.ensures.result c.fails-in-Refused.ensures.after c.in-Refused.ensures.told refl refl (shorter_by_one c.self.inside.steps c.self.inside.place (within_steps _ _ c.self.inside.steps c.self.inside.place c.self.view_is refl c.requires.some)) (not_stopped _ _ c.self.inside.steps c.self.inside.place c.self.view_is refl c.requires.some c.self.invariant.2) (failed_bytes _ (the_view (record c.self.inside { place = c.self.inside.place + 1; sessions = c.perform-performed.new.sessions; refused = c.saturating_add-self-inside.result })) _ c.self.inside.steps c.self.inside.place _ c.fails-in-Refused.ensures.after c.in-Refused.ensures.told refl refl)
