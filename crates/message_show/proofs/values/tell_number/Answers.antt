use Rattle.std.proofs.Common.{[], option_copied}
use Rattle.std.specs.Fmt.{signed_decimal}
use Rattle.std.proofs.lemmas.Int.{to_z-of_z}
use Rattle.std.specs.Int.{w16}
use Rattle.message_show.specs.Line.{field_name, name_text}
use Rattle.message_show.specs.Pieces.{output}
use Rattle.message_show.proofs.Items.{named_digit}
use Rattle.message_show.proofs.Told.{tells_none, tells_more, tells_then, tells_same}
use Rattle.message_show.proofs.values.tell_number.Goals as goal

pub returns-in-Some : goal.returns-in-Some
returns-in-Some g c =
    let sink = g.O.Sink in
    let now = output (sink.written c.args.out.now) (sink.faults c.args.out.now) in
    let line = c.args.line in
    let name = field_name (option_copied c.args.field) in
    let told = tells_more now now line line c.push_named.result [] _ (tells_none now line) c.push_named.ensures in
    record { told = tells_same now now line c.push_named.result _ _ (named_digit (signed_decimal c.args.id) _ name _ (rw (to_z-of_z w16 c.args.id c.ranges.id) at c.in-Some.ensures.digit) c.in-Some.ensures.name) told }

pub returns-in-None : goal.returns-in-None
returns-in-None g c =
    let sink = g.O.Sink in
    let old = output (sink.written c.args.out.now) (sink.faults c.args.out.now) in
    let new = output (sink.written c.tell_name.new.out) (sink.faults c.tell_name.new.out) in
    let line = c.args.line in
    let id = signed_decimal c.args.id in
    let name = field_name (option_copied c.args.field) in
    let numbered = tells_more old old line line c.push_id.result [] id (tells_none old line) (rw (to_z-of_z w16 c.args.id c.ranges.id) at c.push_id.ensures.text) in
    record { told = tells_then old old new line c.push_id.result c.tell_name.result id (name_text name) numbered c.tell_name.ensures.told }
