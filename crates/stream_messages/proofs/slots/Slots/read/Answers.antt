use Rattle.std.proofs.Common.{◌<◌, List, length, refl, ap, subst, arith}
use Rattle.std.specs.Box.{with_value}
use Rattle.std.proofs.lemmas.List.{length-set}
use Rattle.std.proofs.lemmas.Grind.{common_steps}
use Rattle.gate_hub.specs.Hubs.{LinkReads}
use Rattle.stream_messages.specs.declared.slots.Slot.{Slot}
use Rattle.stream_messages.specs.declared.lanes.Lanes.{Lanes}
use Rattle.stream_messages.specs.Slots.{IsAt}
use Rattle.stream_messages.specs.Sessions.{LanesGo}
use Rattle.stream_messages.proofs.Sparing.{is_read}
use Rattle.stream_messages.proofs.slots.Slots.read.Goals as goal

pub returns-clause-goes : goal.returns-clause-goes
returns-clause-goes g c =
    let told = g.H.Hub.tells c.args.hub.now in
    let told' = g.H.Hub.tells c.read.new.hub in
    let slots = c.args.self.now.open.items in
    let at = c.in_ok-at.at in
    let slot = c.index_mut-slot.result.now in
    let found = c.in_ok-at.ensures.found in
    let here : IsAt slots c.args.number at found.0 = subst (λ (xs : List Slot). IsAt xs c.args.number at found.0) c.as_slice.ensures.value found.1 in
    let within : at < length slots = omega (arith, c.in_ok-at.ensures.within, ap (λ (xs : List Slot). length xs) c.as_slice.ensures.value) in
    let was = is_read slots c.args.number at slot found.0 within c.index_mut-slot.ensures.value here in
    let after : Slot = record slot { lanes = with_value slot.lanes c.read.new.self } in
    record {
      at = at;
      slot = slot;
      slot_after = after;
      was = was;
      number = was.number;
      in_use = refl;
      spare_left = refl;
      ready = λ w r. record {
        spare = r.spare;
        open_room = omega (arith, r.open_room, length-set slots at after);
        spare_room = omega (arith, r.spare_room, length-set slots at after);
      };
      goes = subst (λ (l : Lanes). LanesGo told told' l c.read.new.self c.args.number c.args.side (LinkReads c.read.new.into c.read.result)) c.deref_mut.ensures.value c.read.ensures.goes;
    }

pub returns-clause-none : goal.returns-clause-none
returns-clause-none g c = grind (arith, common_steps)

pub returns-in_err-at-clause-none : goal.returns-in_err-at-clause-none
returns-in_err-at-clause-none g c = grind (arith, common_steps)
