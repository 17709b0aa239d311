use Rattle.std.proofs.Common.{arith, ◌∙◌, ◌∷◌, [], length-append, refl}
use Rattle.json_text.specs.Blob.{symbols_of, blob_spelling}
use Rattle.json_text.proofs.BlobPieces.{starts, finishes, next_piece, total, cut_long, either_cut}
use Rattle.json_text.proofs.blob_write.write_blob.Goals as goal

pub push-requires : goal.push-requires
unfolding blob_spelling
push-requires c = let e = length-append (symbols_of c.args.bytes.now) (34 ∷ []) in omega arith

pub pieces-init : goal.pieces-init
pieces-init c = (rw c.push.ensures (starts c.args.out.now.bytes c.args.bytes.now), omega arith, rw c.push.ensures refl, refl)

pub push-requires-in-pieces : goal.push-requires-in-pieces
push-requires-in-pieces c =
    let l = c.pieces in
    let bytes = c.args.bytes.now in
    let cut = either_cut bytes l.from c.min-stop.result l.invariant.1 (omega (arith, c.min-stop.ensures)) in
    let e = total l.out.bytes c.args.out.now.bytes bytes l.from l.invariant.0 in
    let m = cut_long bytes l.from c.min-stop.result cut in
    rw c.encode-size.ensures.symbols (omega (arith, l.invariant.2))

pub pieces-preserved : goal.pieces-preserved
pieces-preserved c =
    let l = c.pieces in
    let bytes = c.args.bytes.now in
    let cut = either_cut bytes l.from c.min-stop.result l.invariant.1 (omega (arith, c.min-stop.ensures)) in
    (rw (c.push-in-pieces.ensures, c.encode-size.ensures.symbols) (next_piece l.out.bytes c.args.out.now.bytes bytes l.from c.min-stop.result cut l.invariant.0), omega (arith, c.min-stop.ensures), rw c.push-in-pieces.ensures l.invariant.2, c.encode-size.ensures.kept ∙ l.invariant.3)

pub push-requires-2 : goal.push-requires-2
push-requires-2 c =
    let l = c.pieces in
    let e = total l.out.bytes c.args.out.now.bytes c.args.bytes.now l.from l.invariant.0 in
    omega (arith, l.invariant.2)

pub returns : goal.returns
returns c =
    let l = c.pieces in
    let done = finishes l.out.bytes c.args.out.now.bytes c.args.bytes.now l.from (omega arith) l.invariant.0 in
    rw c.push-2.ensures (λ i. record { bytes = done i; room = l.invariant.2 i })
