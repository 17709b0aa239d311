use Rattle.std.proofs.Common.{[], ◌∷◌, ap, ◌∙◌, refl, option_copied}
use Rattle.message_show.specs.Line.{field_name, name_text}
use Rattle.message_show.specs.Pieces.{output}
use Rattle.message_show.proofs.Items.{some_name, no_name}
use Rattle.message_show.proofs.Told.{tells_none, tells_more, tells_then, tells_same}
use Rattle.message_show.proofs.values.tell_name.Goals as goal

pub returns-in-Some : goal.returns-in-Some
returns-in-Some g c =
    let sink = g.O.Sink in
    let old = output (sink.written c.args.out.now) (sink.faults c.args.out.now) in
    let new = output (sink.written c.put.new.out) (sink.faults c.put.new.out) in
    let name = field_name (option_copied c.args.field) in
    let same = ap (λ xs. 58 ∷ xs) c.as_slice.ensures ∙ some_name name c.in-Some.field.now.name (rw c.in-Some.is refl) in
    let colon = tells_more old old c.args.line c.args.line c.push_byte.result [] (58 ∷ []) (tells_none old c.args.line) c.push_byte.ensures in
    record {
      told = tells_same old new c.args.line c.put.result (58 ∷ c.as_slice.result.now) (name_text name) same
          (tells_then old old new c.args.line c.push_byte.result c.put.result (58 ∷ []) c.as_slice.result.now colon c.put.ensures.told);
    }

pub returns-in-None : goal.returns-in-None
returns-in-None g c =
    let sink = g.O.Sink in
    let old = output (sink.written c.args.out.now) (sink.faults c.args.out.now) in
    let name = field_name (option_copied c.args.field) in
    record { told = tells_same old old c.args.line c.args.line [] (name_text name) (no_name name (rw c.in-None.is refl)) (tells_none old c.args.line) }
