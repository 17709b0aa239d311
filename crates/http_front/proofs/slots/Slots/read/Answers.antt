use Rattle.std.proofs.Common.{◌<◌, List, ℕ, false, length, refl, ap, ◌∙◌, subst, arith}
use Rattle.std.proofs.Math.ListN.{set}
use Rattle.std.proofs.lemmas.Grind.{common_steps}
use Rattle.http_front.specs.declared.slots.Slot.{Slot}
use Rattle.http_front.specs.Slots.{Open, IsAt}
use Rattle.http_front.proofs.Served.{gave_in, is_read}
use Rattle.http_front.proofs.slots.Slots.read.Goals as goal

pub returns-clause-goes : goal.returns-clause-goes
returns-clause-goes g c =
    let slots = c.self.inside.open.items in
    let at = c.in-Some.at in
    let slot = c.index_mut-slot.result.now in
    let found = c.in-Some.ensures.found in
    let here : IsAt slots c.args.k at found.0 = subst (λ (xs : List Slot). IsAt xs c.args.k at found.0) c.deref.ensures.value found.1 in
    let within : at < length slots = omega (arith, c.in-Some.ensures.within, ap (λ (xs : List Slot). length xs) c.deref.ensures.value) in
    let was = is_read slots c.args.k at slot found.0 within c.index_mut-slot.ensures.value here in
    let after : Slot = record slot { marked = false; front = c.read.new.front } in
    gave_in (g.H.Hub.tells c.args.inner.now) (g.H.Hub.tells c.read.new.inner) c.args.rules.now c.args.k c.read.new.into c.read.result c.args.self.now _ at slot after (subst (λ (o : Open). IsAt o.slots c.args.k at slot) c.self.view_is was) was.number refl
    (ap (λ (l : ℕ). record { slots = set slots at after; limit = l }) c.read.ensures.rooms ∙ ap (λ (o : Open). record o { slots = set o.slots at after }) c.self.view_is)
    c.read.ensures.goes c.read.ensures.over c.read.ensures.stands

pub returns-clause-later : goal.returns-clause-later
returns-clause-later g c = grind (arith, common_steps)

pub returns-clause-cause : goal.returns-clause-cause
returns-clause-cause g c = grind (arith, common_steps)

pub returns-clause-wait : goal.returns-clause-wait
returns-clause-wait g c = grind (arith, common_steps)
