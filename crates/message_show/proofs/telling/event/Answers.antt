use Rattle.std.proofs.Common.{◌≡◌, ◌+◌, ◌≤◌, rules, [], ◌++◌, Option, Some, arith, refl, sym, ap, subst, ◌∙◌}
use mir.Val.{SFits}
use Rattle.std.specs.Prelude.{IfOk}
use Rattle.std.specs.Int.{w16}
use Rattle.std.proofs.lemmas.Int.{to_z-of_z}
use Rattle.thrift_value.specs.Items.{Item, item_of, field, stop, end, struct_begin, map_begin, set_begin, list_begin}
use Rattle.protocol_traits.specs.declared.nest.Slot.{Slot}
use Rattle.protocol_traits.specs.Follow.{depth_after}
use Rattle.protocol_traits.specs.Room.{weight}
use Rattle.protocol_traits.specs.Steps.{Step, step_ok, step_err}
use Rattle.type_walk.specs.Positions.{declared_in, entered, hint_of}
use Rattle.translate_verdicts.specs.Body.{source_of}
use Rattle.message_show.specs.Inside.{at}
use Rattle.message_show.specs.Pieces.{output}
use Rattle.message_show.specs.declared.open_level.LevelStep.TheVariants as turns
use Rattle.message_show.specs.Line.{Levels, closing, field_name, field_text, list_text, map_text, mark_before, stop_text, struct_text, value_text}
use Rattle.message_show.proofs.Items.{value_item}
use Rattle.message_show.proofs.Told.{tells_then, tells_more, tells_same}
use Rattle.message_show.proofs.Turns.{faulted, told_item, opens_passes, closes_stop, closes_end, is_whole_value, value_passes}
use Rattle.message_show.proofs.telling.event.Goals as goal

pub returns-in-Err-clause-turned : goal.returns-in-Err-clause-turned
returns-in-Err-clause-turned g c up deep begun told =
    let reading = g.R.ReadRules in
    let source = source_of reading.begun reading.reads_head reading.reads reading.reads_end reading.value_place reading.ahead in
    let here = c.args.here.now in
    let e = step_err (reading.reads c.args.reader.now (hint_of (at c.args.schema.now here up))) c.in-Err.fault (rw (← c.hint_at.ensures) c.in-Err.ensures.answer) in
    rw c.by_fields.ensures (faulted source reading.nest reading.pays c.args.reader.now (at c.args.schema.now here up) here.first c.in-Err.fault (omega arith) e begun told)

pub returns-in-Field-clause-turned : goal.returns-in-Field-clause-turned
returns-in-Field-clause-turned g c up deep =
    let reading = g.R.ReadRules in
    let sink = g.O.Sink in
    let source = source_of reading.begun reading.reads_head reading.reads reading.reads_end reading.value_place reading.ahead in
    let d = c.args.schema.now in
    let here = c.args.here.now in
    let is_level = sym c.innermost.ensures ∙ c.in-Some.is in
    let new = c.event_in.follows.lender-at-none in
    let read = step_ok (reading.reads c.args.reader.now (hint_of (at d here up))) (item_of c.in-Ok.event) new (rw (← c.hint_at.ensures) c.in-Ok.ensures.answer) (rw (← c.hint_at.ensures) c.event_in.follows.holds-at-none) in
    let old = output (sink.written c.args.out.now) (sink.faults c.args.out.now) in
    let mid = output (sink.written c.make_room-line.new.out) (sink.faults c.make_room-line.new.out) in
    let end = output (sink.written c.tell_field-line.new.out) (sink.faults c.tell_field-line.new.out) in
    let fits : SFits w16 c.in-Field.id = search rules in
    let found = field_name (declared_in d (Some here.known) c.in-Field.id c.in-Field.kind) in
    let told = tells_then old mid end c.args.line c.make_room-line.result c.tell_field-line.result [] _ c.make_room-line.ensures.told
    (tells_same mid end c.make_room-line.result c.tell_field-line.result _ _ (ap (λ (top : Option Slot). mark_before here.first top ++ field_text c.in-Field.id found c.in-Field.kind) (sym is_level))
    (rw (to_z-of_z w16 c.in-Field.id fits, rw (to_z-of_z w16 c.in-Field.id fits) at c.announce-found.ensures.value) at c.tell_field-line.ensures.told)) in
    told_item source reading.nest reading.pays reading.follows c.args.reader.now new d here c.announce-found.new.self turns.Open (field c.in-Field.id c.in-Field.kind) up old end c.args.line c.tell_field-line.result
    (rw (to_z-of_z w16 c.in-Field.id fits) at c.announce-found.ensures.passed) (rw c.in-Field.is at read) told

pub returns-in-Stop-clause-turned : goal.returns-in-Stop-clause-turned
unfolding stop_text
returns-in-Stop-clause-turned g c up deep =
    let reading = g.R.ReadRules in
    let sink = g.O.Sink in
    let source = source_of reading.begun reading.reads_head reading.reads reading.reads_end reading.value_place reading.ahead in
    let d = c.args.schema.now in
    let here = c.args.here.now in
    let new = c.event_in.follows.lender-at-none in
    let read = step_ok (reading.reads c.args.reader.now (hint_of (at d here up))) (item_of c.in-Ok.event) new (rw (← c.hint_at.ensures) c.in-Ok.ensures.answer) (rw (← c.hint_at.ensures) c.event_in.follows.holds-at-none) in
    let old = output (sink.written c.args.out.now) (sink.faults c.args.out.now) in
    let mid = output (sink.written c.make_room-line.new.out) (sink.faults c.make_room-line.new.out) in
    told_item source reading.nest reading.pays reading.follows c.args.reader.now new d here here turns.Closed stop up old mid c.args.line c.push_byte.result
    (closes_stop d here c.requires.sound) (rw c.in-Stop.is at read)
    (tells_more old mid c.args.line c.make_room-line.result c.push_byte.result [] stop_text c.make_room-line.ensures.told c.push_byte.ensures)

pub returns-in-End-clause-turned : goal.returns-in-End-clause-turned
returns-in-End-clause-turned g c up deep =
    let reading = g.R.ReadRules in
    let sink = g.O.Sink in
    let source = source_of reading.begun reading.reads_head reading.reads reading.reads_end reading.value_place reading.ahead in
    let d = c.args.schema.now in
    let here = c.args.here.now in
    let is_level = sym c.innermost.ensures ∙ c.in-Some.is in
    let new = c.event_in.follows.lender-at-none in
    let read = step_ok (reading.reads c.args.reader.now (hint_of (at d here up))) (item_of c.in-Ok.event) new (rw (← c.hint_at.ensures) c.in-Ok.ensures.answer) (rw (← c.hint_at.ensures) c.event_in.follows.holds-at-none) in
    let old = output (sink.written c.args.out.now) (sink.faults c.args.out.now) in
    let mid = output (sink.written c.make_room-line.new.out) (sink.faults c.make_room-line.new.out) in
    told_item source reading.nest reading.pays reading.follows c.args.reader.now new d here here turns.Closed end up old mid c.args.line c.push_byte-in-End.result
    (closes_end d here c.requires.sound) (rw c.in-End.is at read)
    (rw is_level (tells_more old mid c.args.line c.make_room-line.result c.push_byte-in-End.result [] (closing (Some c.in-Some.level)) c.make_room-line.ensures.told (rw c.closing.ensures at c.push_byte-in-End.ensures)))

pub returns-in-StructBegin-clause-turned : goal.returns-in-StructBegin-clause-turned
unfolding struct_text
returns-in-StructBegin-clause-turned g c up deep =
    let reading = g.R.ReadRules in
    let sink = g.O.Sink in
    let source = source_of reading.begun reading.reads_head reading.reads reading.reads_end reading.value_place reading.ahead in
    let d = c.args.schema.now in
    let here = c.args.here.now in
    let is_level = sym c.innermost.ensures ∙ c.in-Some.is in
    let item = struct_begin in
    let new = c.event_in.follows.lender-at-none in
    let read = step_ok (reading.reads c.args.reader.now (hint_of (at d here up))) (item_of c.in-Ok.event) new (rw (← c.hint_at.ensures) c.in-Ok.ensures.answer) (rw (← c.hint_at.ensures) c.event_in.follows.holds-at-none) in
    let e = rw c.in-StructBegin.is at read in
    let old = output (sink.written c.args.out.now) (sink.faults c.args.out.now) in
    let mid = output (sink.written c.make_room-line.new.out) (sink.faults c.make_room-line.new.out) in
    let led = tells_more old mid c.args.line c.make_room-line.result c.push_lead.result [] (mark_before here.first (Some c.in-Some.level)) c.make_room-line.ensures.told c.push_lead.ensures.text in
    let told = tells_same old mid c.args.line c.push_byte-line.result _ _ (ap (λ (top : Option Slot). mark_before here.first top ++ struct_text) (sym is_level))
    (tells_more old mid c.args.line c.push_lead.result c.push_byte-line.result (mark_before here.first (Some c.in-Some.level)) (struct_text) led c.push_byte-line.ensures) in
    rw c.open.ensures.opened (
    told_item source reading.nest reading.pays reading.follows c.args.reader.now new d here c.open.new.self (turns.Opened c.in_struct.result) item up old mid c.args.line c.push_byte-line.result
    (opens_passes d here c.open.new.self item c.in_struct.result (λ up. ap (entered (at d here up)) (sym c.in_struct.ensures.value)) refl (λ n. refl) c.open.ensures.levels (c.open.ensures.sound d c.requires.sound)) e told)

pub returns-in-MapBegin-clause-turned : goal.returns-in-MapBegin-clause-turned
returns-in-MapBegin-clause-turned g c up deep =
    let reading = g.R.ReadRules in
    let sink = g.O.Sink in
    let source = source_of reading.begun reading.reads_head reading.reads reading.reads_end reading.value_place reading.ahead in
    let d = c.args.schema.now in
    let here = c.args.here.now in
    let is_level = sym c.innermost.ensures ∙ c.in-Some.is in
    let item = map_begin c.in-MapBegin.key c.in-MapBegin.value c.in-MapBegin.field-2 in
    let new = c.event_in.follows.lender-at-none in
    let read = step_ok (reading.reads c.args.reader.now (hint_of (at d here up))) (item_of c.in-Ok.event) new (rw (← c.hint_at.ensures) c.in-Ok.ensures.answer) (rw (← c.hint_at.ensures) c.event_in.follows.holds-at-none) in
    let e = rw c.in-MapBegin.is at read in
    let old = output (sink.written c.args.out.now) (sink.faults c.args.out.now) in
    let mid = output (sink.written c.make_room-line.new.out) (sink.faults c.make_room-line.new.out) in
    let led = tells_more old mid c.args.line c.make_room-line.result c.push_lead-in-MapBegin.result [] (mark_before here.first (Some c.in-Some.level)) c.make_room-line.ensures.told c.push_lead-in-MapBegin.ensures.text in
    let told = tells_same old mid c.args.line c.push_map-line.result _ _ (ap (λ (top : Option Slot). mark_before here.first top ++ map_text c.in-MapBegin.key c.in-MapBegin.value) (sym is_level))
    (tells_more old mid c.args.line c.push_lead-in-MapBegin.result c.push_map-line.result (mark_before here.first (Some c.in-Some.level)) (map_text c.in-MapBegin.key c.in-MapBegin.value) led c.push_map-line.ensures) in
    rw c.open-in-MapBegin.ensures.opened (
    told_item source reading.nest reading.pays reading.follows c.args.reader.now new d here c.open-in-MapBegin.new.self (turns.Opened c.in_map.result) item up old mid c.args.line c.push_map-line.result
    (opens_passes d here c.open-in-MapBegin.new.self item c.in_map.result (λ up. ap (entered (at d here up)) (sym c.in_map.ensures.value)) refl (λ n. refl) c.open-in-MapBegin.ensures.levels (c.open-in-MapBegin.ensures.sound d c.requires.sound)) e told)

pub returns-in-SetBegin-clause-turned : goal.returns-in-SetBegin-clause-turned
returns-in-SetBegin-clause-turned g c up deep =
    let reading = g.R.ReadRules in
    let sink = g.O.Sink in
    let source = source_of reading.begun reading.reads_head reading.reads reading.reads_end reading.value_place reading.ahead in
    let d = c.args.schema.now in
    let here = c.args.here.now in
    let is_level = sym c.innermost.ensures ∙ c.in-Some.is in
    let item = set_begin c.in-SetBegin.kind c.in-SetBegin.field-1 in
    let new = c.event_in.follows.lender-at-none in
    let read = step_ok (reading.reads c.args.reader.now (hint_of (at d here up))) (item_of c.in-Ok.event) new (rw (← c.hint_at.ensures) c.in-Ok.ensures.answer) (rw (← c.hint_at.ensures) c.event_in.follows.holds-at-none) in
    let e = rw c.in-SetBegin.is at read in
    let old = output (sink.written c.args.out.now) (sink.faults c.args.out.now) in
    let mid = output (sink.written c.make_room-line.new.out) (sink.faults c.make_room-line.new.out) in
    let led = tells_more old mid c.args.line c.make_room-line.result c.push_lead-in-SetBegin.result [] (mark_before here.first (Some c.in-Some.level)) c.make_room-line.ensures.told c.push_lead-in-SetBegin.ensures.text in
    let told = tells_same old mid c.args.line c.push_list-line.result _ _ (ap (λ (top : Option Slot). mark_before here.first top ++ list_text c.in-SetBegin.kind) (sym is_level))
    (tells_more old mid c.args.line c.push_lead-in-SetBegin.result c.push_list-line.result (mark_before here.first (Some c.in-Some.level)) (list_text c.in-SetBegin.kind) led c.push_list-line.ensures) in
    rw c.open-in-SetBegin.ensures.opened (
    told_item source reading.nest reading.pays reading.follows c.args.reader.now new d here c.open-in-SetBegin.new.self (turns.Opened c.in_set.result) item up old mid c.args.line c.push_list-line.result
    (opens_passes d here c.open-in-SetBegin.new.self item c.in_set.result (λ up. ap (entered (at d here up)) (sym c.in_set.ensures.value)) refl (λ n. refl) c.open-in-SetBegin.ensures.levels (c.open-in-SetBegin.ensures.sound d c.requires.sound)) e told)

pub returns-in-ListBegin-clause-turned : goal.returns-in-ListBegin-clause-turned
returns-in-ListBegin-clause-turned g c up deep =
    let reading = g.R.ReadRules in
    let sink = g.O.Sink in
    let source = source_of reading.begun reading.reads_head reading.reads reading.reads_end reading.value_place reading.ahead in
    let d = c.args.schema.now in
    let here = c.args.here.now in
    let is_level = sym c.innermost.ensures ∙ c.in-Some.is in
    let item = list_begin c.in-ListBegin.kind c.in-ListBegin.field-1 in
    let new = c.event_in.follows.lender-at-none in
    let read = step_ok (reading.reads c.args.reader.now (hint_of (at d here up))) (item_of c.in-Ok.event) new (rw (← c.hint_at.ensures) c.in-Ok.ensures.answer) (rw (← c.hint_at.ensures) c.event_in.follows.holds-at-none) in
    let e = rw c.in-ListBegin.is at read in
    let old = output (sink.written c.args.out.now) (sink.faults c.args.out.now) in
    let mid = output (sink.written c.make_room-line.new.out) (sink.faults c.make_room-line.new.out) in
    let led = tells_more old mid c.args.line c.make_room-line.result c.push_lead-in-ListBegin.result [] (mark_before here.first (Some c.in-Some.level)) c.make_room-line.ensures.told c.push_lead-in-ListBegin.ensures.text in
    let told = tells_same old mid c.args.line c.push_list-line-in-ListBegin.result _ _ (ap (λ (top : Option Slot). mark_before here.first top ++ list_text c.in-ListBegin.kind) (sym is_level))
    (tells_more old mid c.args.line c.push_lead-in-ListBegin.result c.push_list-line-in-ListBegin.result (mark_before here.first (Some c.in-Some.level)) (list_text c.in-ListBegin.kind) led c.push_list-line-in-ListBegin.ensures) in
    rw c.open-in-ListBegin.ensures.opened (
    told_item source reading.nest reading.pays reading.follows c.args.reader.now new d here c.open-in-ListBegin.new.self (turns.Opened c.in_list.result) item up old mid c.args.line c.push_list-line-in-ListBegin.result
    (opens_passes d here c.open-in-ListBegin.new.self item c.in_list.result (λ up. ap (entered (at d here up)) (sym c.in_list.ensures.value)) refl (λ n. refl) c.open-in-ListBegin.ensures.levels (c.open-in-ListBegin.ensures.sound d c.requires.sound)) e told)

pub returns-in_default-event : goal.returns-in_default-event
returns-in_default-event g c =
    let reading = g.R.ReadRules in
    let sink = g.O.Sink in
    let source = source_of reading.begun reading.reads_head reading.reads reading.reads_end reading.value_place reading.ahead in
    let d = c.args.schema.now in
    let here = c.args.here.now in
    let is_level = sym c.innermost.ensures ∙ c.in-Some.is in
    let event = c.in-Ok.event in
    let item = item_of event in
    let new = c.event_in.follows.lender-at-none in
    let hint = hint_of (at d here []) in
    let e = step_ok (reading.reads c.args.reader.now hint) item new (rw (← c.hint_at.ensures) c.in-Ok.ensures.answer) (rw (← c.hint_at.ensures) c.event_in.follows.holds-at-none) in
    let whole = is_whole_value event c.in_default-event.not-Field c.in_default-event.not-Stop c.in_default-event.not-End c.in_default-event.not-StructBegin c.in_default-event.not-MapBegin c.in_default-event.not-SetBegin c.in_default-event.not-ListBegin in
    let sound = c.spend.ensures.sound d c.requires.sound in
    let old = output (sink.written c.args.out.now) (sink.faults c.args.out.now) in
    let mid = output (sink.written c.make_room-line.new.out) (sink.faults c.make_room-line.new.out) in
    let end = output (sink.written c.tell_value-line.new.out) (sink.faults c.tell_value-line.new.out) in
    let line = c.args.line in
    let before = mark_before here.first (Some c.in-Some.level) in
    let levels : Levels = record { nest = reading.nest c.args.reader.now; first = here.first } in
    let led = tells_more old mid line c.make_room-line.result c.push_lead-in_default-event.result [] before c.make_room-line.ensures.told c.push_lead-in_default-event.ensures.text in
    let told = tells_then old mid end line c.push_lead-in_default-event.result c.tell_value-line.result before (value_text item) led c.tell_value-line.ensures.told in
    let same = ap (λ (top : Option Slot). mark_before here.first top ++ value_text item) (sym is_level) ∙ value_item d (Some here.known) levels event c.in_default-event.not-Field c.in_default-event.not-Stop c.in_default-event.not-End in
    let nests = subst (λ (r : Step _ Item). IfOk r (λ x. reading.depth x.1 ≡ depth_after x.0 (reading.depth c.args.reader.now))) e (reading.nests c.args.reader.now hint) in
    let paid = subst (λ (r : Step _ Item). IfOk r (λ x. weight x.0 + reading.ahead x.1 ≤ reading.ahead c.args.reader.now)) e (reading.pays c.args.reader.now hint) in
    record {
      turned = λ up deep.
          told_item source reading.nest reading.pays reading.follows c.args.reader.now new d here c.spend.new.self turns.Open item up old end line c.tell_value-line.result
          (value_passes d here c.spend.new.self item whole c.spend.ensures.levels c.spend.ensures.next c.spend.ensures.first sound) e
          (tells_same old end line c.tell_value-line.result _ _ same told);
      depth = nests ∙ whole.depth (reading.depth c.args.reader.now);
      sound = sound;
      spent = tt;
      falls = omega (arith, paid, whole.weighs);
    }

pub returns-in-StructBegin-clause-sound : goal.returns-in-StructBegin-clause-sound
returns-in-StructBegin-clause-sound g c = c.open.ensures.sound c.args.schema.now c.requires.sound

pub returns-in-MapBegin-clause-sound : goal.returns-in-MapBegin-clause-sound
returns-in-MapBegin-clause-sound g c = c.open-in-MapBegin.ensures.sound c.args.schema.now c.requires.sound

pub returns-in-SetBegin-clause-sound : goal.returns-in-SetBegin-clause-sound
returns-in-SetBegin-clause-sound g c = c.open-in-SetBegin.ensures.sound c.args.schema.now c.requires.sound

pub returns-in-ListBegin-clause-sound : goal.returns-in-ListBegin-clause-sound
returns-in-ListBegin-clause-sound g c = c.open-in-ListBegin.ensures.sound c.args.schema.now c.requires.sound
