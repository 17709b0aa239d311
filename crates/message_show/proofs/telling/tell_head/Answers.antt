use Rattle.std.proofs.Common.{◌≡◌, [], ◌++◌, refl, rules}
use Rattle.std.specs.Prelude.{FitsSigned}
use Rattle.std.specs.Int.{w32}
use Rattle.std.proofs.lemmas.Int.{to_z-of_z}
use Rattle.std.proofs.lemmas.List.{append-nil}
use Rattle.protocol_traits.specs.Heads.{Header, header_of}
use Rattle.message_show.specs.Texts.{quoted}
use Rattle.message_show.specs.Line.{type_text, sequence_text, head_text}
use Rattle.message_show.specs.Pieces.{output}
use Rattle.message_show.proofs.Told.{tells_more, tells_then, tells_same}
use Rattle.message_show.proofs.telling.tell_head.Goals as goal

head_joined : (h : Header) → ((type_text h.mtype ++ quoted h.name) ++ []) ++ sequence_text h.seq ≡ head_text h
unfolding head_text
head_joined h = rw (append-nil (type_text h.mtype ++ quoted h.name)) refl

pub returns : goal.returns
returns g c =
    let sink = g.O.Sink in
    let old = output (sink.written c.args.out.now) (sink.faults c.args.out.now) in
    let first = output (sink.written c.make_room.new.out) (sink.faults c.make_room.new.out) in
    let mid = output (sink.written c.tell_string-line.new.out) (sink.faults c.tell_string-line.new.out) in
    let new = output (sink.written c.make_room-2.new.out) (sink.faults c.make_room-2.new.out) in
    let line = c.args.line in
    let h = header_of c.args.head.now in
    let fits : FitsSigned w32 h.seq = search rules in
    let typed = tells_more old first line c.make_room.result c.push_type.result [] (type_text h.mtype) c.make_room.ensures.told c.push_type.ensures in
    let named = tells_then old first mid line c.push_type.result c.tell_string-line.result (type_text h.mtype) (quoted h.name) typed c.tell_string-line.ensures.told in
    let roomy = tells_then old mid new line c.tell_string-line.result c.make_room-2.result (type_text h.mtype ++ quoted h.name) [] named c.make_room-2.ensures.told in
    let told = tells_more old new line c.make_room-2.result c.push_sequence.result ((type_text h.mtype ++ quoted h.name) ++ []) (sequence_text h.seq) roomy (rw (to_z-of_z w32 h.seq fits) at c.push_sequence.ensures) in
    tells_same old new line c.push_sequence.result _ (head_text h) (head_joined h) told
