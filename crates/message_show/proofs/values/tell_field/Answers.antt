use Rattle.std.proofs.Common.{[], ◌++◌, Some, option_copied}
use Rattle.std.specs.Fmt.{signed_decimal}
use Rattle.std.proofs.lemmas.Int.{to_z-of_z}
use Rattle.std.specs.Int.{w16}
use Rattle.message_show.specs.Line.{mark_before, field_name, name_text, kind_text}
use Rattle.message_show.specs.Pieces.{output}
use Rattle.message_show.proofs.Items.{field_joined}
use Rattle.message_show.proofs.Told.{tells_none, tells_more, tells_then, tells_same}
use Rattle.message_show.proofs.values.tell_field.Goals as goal

pub returns : goal.returns
returns g c =
    let sink = g.O.Sink in
    let old = output (sink.written c.args.out.now) (sink.faults c.args.out.now) in
    let mid = output (sink.written c.tell_number-line.new.out) (sink.faults c.tell_number-line.new.out) in
    let new = output (sink.written c.make_room.new.out) (sink.faults c.make_room.new.out) in
    let line = c.args.line in
    let before = mark_before c.args.first (Some c.args.level) in
    let id = signed_decimal c.args.id in
    let name = field_name (option_copied c.args.field) in
    let led = tells_more old old line line c.push_lead.result [] before (tells_none old line) c.push_lead.ensures.text in
    let named = tells_then old old mid line c.push_lead.result c.tell_number-line.result before (id ++ name_text name) led (rw (to_z-of_z w16 c.args.id c.ranges.id) at c.tell_number-line.ensures.told) in
    let roomy = tells_then old mid new line c.tell_number-line.result c.make_room.result (before ++ (id ++ name_text name)) [] named c.make_room.ensures.told in
    let told = tells_more old new line c.make_room.result c.push_kind.result ((before ++ (id ++ name_text name)) ++ []) (kind_text c.args.kind) roomy c.push_kind.ensures in
    record { told = tells_same old new line c.push_kind.result _ _ (field_joined before c.args.id name c.args.kind) told }
