use Rattle.std.proofs.Common.{◌≡◌, ℕ, List, [], ◌∷◌, ◌++◌, flat_map, refl}
use Rattle.std.proofs.lemmas.List.{append-nil}
use Rattle.message_show.specs.Texts.{byte_text, quoted}
use Rattle.message_show.specs.Pieces.{output}
use Rattle.message_show.proofs.Told.{tells_more, tells_then, tells_same}
use Rattle.message_show.proofs.values.tell_long.Goals as goal

between : (bytes : List ℕ) → ((34 ∷ flat_map byte_text bytes) ++ []) ++ 34 ∷ [] ≡ quoted bytes
unfolding quoted
between bytes = rw (append-nil (flat_map byte_text bytes)) refl

pub returns : goal.returns
returns g c =
    let sink = g.O.Sink in
    let old = output (sink.written c.args.out.now) (sink.faults c.args.out.now) in
    let first = output (sink.written c.make_room.new.out) (sink.faults c.make_room.new.out) in
    let mid = output (sink.written c.tell_bytes-line.new.out) (sink.faults c.tell_bytes-line.new.out) in
    let new = output (sink.written c.make_room-2.new.out) (sink.faults c.make_room-2.new.out) in
    let line = c.args.line in
    let text = flat_map byte_text c.args.bytes.now in
    let opened = tells_more old first line c.make_room.result c.push_byte.result [] (34 ∷ []) c.make_room.ensures.told c.push_byte.ensures in
    let inner = tells_then old first mid line c.push_byte.result c.tell_bytes-line.result (34 ∷ []) text opened c.tell_bytes-line.ensures.told in
    let roomy = tells_then old mid new line c.tell_bytes-line.result c.make_room-2.result (34 ∷ text) [] inner c.make_room-2.ensures.told in
    let closed = tells_more old new line c.make_room-2.result c.push_byte-2.result ((34 ∷ text) ++ []) (34 ∷ []) roomy c.push_byte-2.ensures in
    record { told = tells_same old new line c.push_byte-2.result _ _ (between c.args.bytes.now) closed }
