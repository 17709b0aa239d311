use Rattle.std.proofs.Common.{refl, arith, length, length-take, length-drop, ℕ, ◌-◌}
use Rattle.json_text.specs.Lengths.{blob_long}
use Rattle.json_text.proofs.LaidBlob.{blob_laid, symbols_counted, second_long}
use Rattle.json_text.proofs.blob_write.lay_blob.Goals as goal

pub lay-to-requires : goal.lay-to-requires
lay-to-requires c = omega (arith, blob_long c.args.bytes.now)

pub encode-requires : goal.encode-requires
encode-requires c = omega (arith, blob_long c.args.bytes.now, c.lay-to.ensures.place, length-take {A = ℕ}, length-drop {A = ℕ})

pub lay-requires : goal.lay-requires
lay-requires c =
    let size = symbols_counted c.encode.result c.encode.new.buffer c.args.bytes.now c.encode.ensures.symbols c.encode.ensures.bound in
    let long = second_long c.lay-to.new.cells c.encode.new.buffer c.lay-to.result (length c.lay-to.new.cells - c.lay-to.result) (omega (arith, c.lay-to.ensures.place, blob_long c.args.bytes.now)) in
    omega (arith, size, long, blob_long c.args.bytes.now, c.lay-to.ensures.place, c.encode.ensures.kept, length-take {A = ℕ}, length-drop {A = ℕ})

pub returns-clause-laid : goal.returns-clause-laid
returns-clause-laid c =
    blob_laid c.args.cells.now c.lay-to.new.cells _ _ c.lay.new.cells c.encode.new.buffer c.args.bytes.now c.args.into c.lay-to.result c.encode.result c.lay.result c.lay-to.ensures.laid
    (omega (arith, c.lay-to.ensures.place, blob_long c.args.bytes.now)) refl c.encode.ensures.bound c.encode.ensures.symbols c.lay.ensures.laid

pub returns-clause-place : goal.returns-clause-place
returns-clause-place c =
    let size = symbols_counted c.encode.result c.encode.new.buffer c.args.bytes.now c.encode.ensures.symbols c.encode.ensures.bound in
    omega (arith, size, blob_long c.args.bytes.now, c.lay-to.ensures.place, c.lay.ensures.place)
