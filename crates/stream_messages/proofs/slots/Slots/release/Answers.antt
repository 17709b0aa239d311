use Rattle.std.proofs.Common.{◌≡◌, inl, ◌<◌, ◌∷◌, ◌++◌, [], List, length, length-append, ap, subst, arith, Some}
use Rattle.std.specs.List.{slice_get, remove}
use Rattle.stream_messages.specs.declared.slots.Slot.{Slot}
use Rattle.stream_messages.specs.Slots.{IsAt, fresh_lanes, restarted}
use Rattle.stream_messages.proofs.Sparing.{is_read, length_removed, one_more_of}
use Rattle.stream_messages.proofs.slots.Slots.release.Goals as goal

pub returns-then-len-capacity : goal.returns-then-len-capacity
returns-then-len-capacity c = λ w r.
    let slots = c.args.self.now.open.items in
    let spare = c.args.self.now.spare.items in
    let at = c.in-Some.at in
    let slot = c.remove-slot.result in
    let found = c.in-Some.ensures.found in
    let here : IsAt slots c.args.number at found.0 = subst (λ (xs : List Slot). IsAt xs c.args.number at found.0) c.as_slice.ensures.value found.1 in
    let within : at < length slots = omega (arith, c.in-Some.ensures.within, ap (λ (xs : List Slot). length xs) c.as_slice.ensures.value) in
    let fewer : length c.remove-slot.new.self.items ≡ length (remove slots at) = ap (λ (xs : List Slot). length xs) c.remove-slot.ensures.items in
    let more : length c.push_reserved.new.self.items ≡ length (spare ++ slot.lanes ∷ []) = ap (λ xs. length xs) c.push_reserved.ensures.items in
    inl (record {
      at = at;
      slot = slot;
      was = is_read slots c.args.number at slot found.0 within c.remove-slot.ensures.value here;
      in_use = c.remove-slot.ensures.items;
      count = omega (arith, fewer, length_removed slots at within, more, length-append spare (slot.lanes ∷ []));
      ready = λ v fits s. record {
        spare = λ i lanes is. one_more_of (λ b. restarted b.value ≡ fresh_lanes v) spare slot.lanes s.spare fits i lanes (subst (λ xs. slice_get xs i ≡ Some lanes) c.push_reserved.ensures.items is);
        open_room = omega (arith, fewer, length_removed slots at within, more, length-append spare (slot.lanes ∷ []), s.open_room, c.remove-slot.ensures.capacity);
        spare_room = omega (arith, fewer, length_removed slots at within, more, length-append spare (slot.lanes ∷ []), s.spare_room, c.push_reserved.ensures.capacity);
      };
    })
