use Rattle.std.proofs.Common.{arith, ◌∙◌, ap, ◌+◌, ◌∷◌, [], length, take, drop, ◌-◌, length-append, refl}
use Rattle.std.specs.Prelude.{slice_index}
use Rattle.json_text.specs.Plain.{text_spelling, pieces_spelling, byte_spelling}
use Rattle.json_text.proofs.Spellings.{starts, total, after_run, after_byte, finishes, run_to, byte_at}
use Rattle.json_text.proofs.write.write_text.Goals as goal

pub push-requires : goal.push-requires
unfolding text_spelling
push-requires c = let e = length-append (pieces_spelling c.args.text.now) (34 ∷ []) in omega arith

pub runs-init : goal.runs-init
runs-init c = (rw c.push.ensures (starts c.args.out.now.bytes c.args.text.now), omega arith, rw c.push.ensures refl)

pub push-requires-in-runs : goal.push-requires-in-runs
push-requires-in-runs c =
    let t = c.args.text.now in
    let l = c.runs in
    let stop = c.plain_end-stop.result in
    let e = total l.out.bytes c.args.out.now.bytes t l.from l.invariant.0 in
    let r = ap length (run_to t l.from stop c.plain_end-stop.ensures.value) ∙ length-append (take (stop - l.from) (drop l.from t)) (pieces_spelling (drop stop t)) in
    omega (arith, l.invariant.2)

pub write_byte-requires : goal.write_byte-requires
write_byte-requires c =
    let t = c.args.text.now in
    let l = c.runs in
    let stop = c.plain_end-stop.result in
    let e = total _ c.args.out.now.bytes t stop (after_run l.out.bytes c.args.out.now.bytes t l.from stop c.plain_end-stop.ensures.value l.invariant.0) in
    let r = ap length (byte_at t stop (omega arith)) ∙ length-append (byte_spelling (slice_index t stop)) (pieces_spelling (drop (stop + 1) t)) in
    rw c.push-in-runs.ensures (omega (arith, l.invariant.2))

pub runs-preserved : goal.runs-preserved
runs-preserved c =
    let t = c.args.text.now in
    let l = c.runs in
    let stop = c.plain_end-stop.result in
    (rw (c.write_byte.ensures, c.push-in-runs.ensures) (after_byte _ c.args.out.now.bytes t stop (omega arith) (after_run l.out.bytes c.args.out.now.bytes t l.from stop c.plain_end-stop.ensures.value l.invariant.0)), omega arith, rw (c.write_byte.ensures, c.push-in-runs.ensures) l.invariant.2)

pub push-requires-2 : goal.push-requires-2
push-requires-2 c =
    let t = c.args.text.now in
    let l = c.runs in
    let stop = c.plain_end-stop.result in
    let e = total _ c.args.out.now.bytes t stop (after_run l.out.bytes c.args.out.now.bytes t l.from stop c.plain_end-stop.ensures.value l.invariant.0) in
    rw c.push-in-runs.ensures (omega (arith, l.invariant.2))

pub returns : goal.returns
returns c =
    let t = c.args.text.now in
    let l = c.runs in
    let stop = c.plain_end-stop.result in
    let done = finishes _ c.args.out.now.bytes t stop (omega arith) (after_run l.out.bytes c.args.out.now.bytes t l.from stop c.plain_end-stop.ensures.value l.invariant.0) in
    rw (c.push-2.ensures, c.push-in-runs.ensures) (λ i. record { bytes = done i; room = l.invariant.2 i })
