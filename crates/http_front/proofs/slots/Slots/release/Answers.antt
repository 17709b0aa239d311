use Rattle.std.proofs.Common.{rules, ◌<◌, List, length, All, sym, subst}
use Rattle.std.proofs.lemmas.List.Elements.{All-push}
use Rattle.http_front.specs.Fronts.{Front}
use Rattle.http_front.specs.Slots.{HasLimit, FrontHasLimit, IsUnmarked}
use Rattle.http_front.specs.declared.slots.Slot.{Slot}
use Rattle.http_front.proofs.Slotted.{all_remove, all_read}
use Rattle.http_front.proofs.slots.Slots.release.Goals as goal

pub invariant_of-self : goal.invariant_of-self
invariant_of-self c =
    let within : c.in-Some.at < length c.self.inside.open.items = search rules in (
      subst (λ (xs : List Slot). All (HasLimit c.self.inside.rooms) xs) (sym c.remove-slot.ensures.items) (all_remove (HasLimit c.self.inside.rooms) c.self.inside.open.items c.in-Some.at c.self.invariant.0),
      subst (λ (xs : List Front). All (FrontHasLimit c.self.inside.rooms) xs) (sym c.push_reserved.ensures.items)
          (All-push (FrontHasLimit c.self.inside.rooms) c.self.inside.spare.items c.remove-slot.result.front c.self.invariant.1
          (all_read (HasLimit c.self.inside.rooms) c.self.inside.open.items c.in-Some.at c.remove-slot.result c.self.invariant.0 within c.remove-slot.ensures.value)),
      λ m. subst (λ (xs : List Slot). All IsUnmarked xs) (sym c.remove-slot.ensures.items) (all_remove IsUnmarked c.self.inside.open.items c.in-Some.at (c.self.invariant.2 m)),
    )
