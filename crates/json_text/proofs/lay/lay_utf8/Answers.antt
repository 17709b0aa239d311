use Rattle.std.proofs.Common.{◌≡◌, ◌+◌, ◌-◌, ◌≤◌, ◌++◌, length, take, drop, sym, ap, subst, ◌∙◌, arith}
use Rattle.std.proofs.lemmas.List.{length-take-le, length-drop, get_or-take}
use Rattle.json_text.specs.Places.{IsAsciiRun}
use Rattle.json_text.specs.Plain.{byte_spelling}
use Rattle.json_text.proofs.Laid.{room, begun, run_long, byte_long, run_laid, byte_laid, text_laid, nothing_long}
use Rattle.json_text.proofs.LaidText.{stop_is, part_of_text, spelled_longer, stop_low, ascii_utf8}
use Rattle.json_text.proofs.PlainTexts.{both_true, ascii_join, ascii_next}
use Rattle.json_text.proofs.lay.lay_utf8.Goals as goal

pub runs-init : goal.runs-init
runs-init c =
    (begun c.args.cells.now c.lay-to.new.cells (take c.args.size c.args.bytes.now) c.args.into c.lay-to.result c.lay-to.ensures.laid (omega (arith, c.lay-to.ensures.place)), omega arith, λ _ i above below. absurd (omega arith))

pub lay_run-stop-requires-clause-room : goal.lay_run-stop-requires-clause-room
lay_run-stop-requires-clause-room c =
    let t = take c.args.size c.args.bytes.now in
    let l = c.runs in
    let long : length t ≡ c.args.size = length-take-le c.args.size c.args.bytes.now c.requires.size in
    omega (arith, room c.args.cells.now l.cells t c.args.into l.to l.from (omega arith) l.invariant.0, spelled_longer (drop l.from t), length-drop l.from t, long)

pub lay_byte-to-requires : goal.lay_byte-to-requires
lay_byte-to-requires c =
    let t = take c.args.size c.args.bytes.now in
    let l = c.runs in
    let stop = c.lay_run-stop.result.0 in
    let stops = c.lay_run-stop.ensures.stops in
    let long : length t ≡ c.args.size = length-take-le c.args.size c.args.bytes.now c.requires.size in
    let is = stop_is c.args.bytes.now l.from c.args.size stop c.requires.size stops in
    let same = ap (λ x. length (byte_spelling x)) (get_or-take c.args.size c.args.bytes.now stop 0 (omega (arith, stops.1, c.if-stop-size.false))) in
    omega (arith, room c.args.cells.now l.cells t c.args.into l.to l.from (omega arith) l.invariant.0, run_long t l.from stop is (omega (arith, long, stops.1)), byte_long t stop (omega (arith, long, stops.1, c.if-stop-size.false)), same, stops.0)

pub runs-preserved : goal.runs-preserved
runs-preserved c =
    let t = take c.args.size c.args.bytes.now in
    let l = c.runs in
    let st = c.lay_run-stop in
    let stop = st.result.0 in
    let stops = st.ensures.stops in
    let long : length t ≡ c.args.size = length-take-le c.args.size c.args.bytes.now c.requires.size in
    let before : stop + 1 ≤ c.args.size = omega (arith, stops.1, c.if-stop-size.false) in
    let is = stop_is c.args.bytes.now l.from c.args.size stop c.requires.size stops in
    let here = get_or-take c.args.size c.args.bytes.now stop 0 (omega (arith, before)) in
    let a = room c.args.cells.now l.cells t c.args.into l.to l.from (omega arith) l.invariant.0 in
    let b = run_long t l.from stop is (omega (arith, long, stops.1)) in
    let d = byte_long t stop (omega (arith, long, before)) in
    let e = ap (λ x. length (byte_spelling x)) here in
    let laid = st.ensures.laid ∙ ap (λ xs. take l.to l.cells ++ xs) (part_of_text c.args.bytes.now l.from c.args.size stop stops.0 stops.1) in
    let run = run_laid c.args.cells.now l.cells st.new.cells t c.args.into l.to l.from stop (l.to + (stop - l.from)) l.invariant.0 is (omega (arith, long, stops.1)) laid (omega (arith, a, b, stops.0)) in (
      byte_laid c.args.cells.now st.new.cells c.lay_byte-to.new.cells t c.args.into (l.to + (stop - l.from)) stop c.lay_byte-to.result run (omega (arith, long, before))
          (c.lay_byte-to.ensures.laid ∙ ap (λ x. take (l.to + (stop - l.from)) st.new.cells ++ byte_spelling x) (sym here)) (omega (arith, a, b, d, e, stops.0, c.lay_byte-to.ensures.place)),
      before,
      λ seen.
          let both = both_true l.is_ascii _ seen in
          ascii_next c.args.bytes.now 0 stop (ascii_join c.args.bytes.now 0 l.from stop (l.invariant.2 both.0) (st.ensures.ascii both.1)) (stop_low c.args.bytes.now l.from c.args.size stop c.requires.size stops (omega (arith, before))),
    )

pub lay-requires : goal.lay-requires
lay-requires c =
    let t = take c.args.size c.args.bytes.now in
    let l = c.runs in
    let stop = c.lay_run-stop.result.0 in
    let stops = c.lay_run-stop.ensures.stops in
    let long : length t ≡ c.args.size = length-take-le c.args.size c.args.bytes.now c.requires.size in
    let is = stop_is c.args.bytes.now l.from c.args.size stop c.requires.size stops in
    omega (arith, room c.args.cells.now l.cells t c.args.into l.to l.from (omega arith) l.invariant.0, run_long t l.from stop is (omega (arith, long, stops.1)), stops.0)

pub returns-clause-laid : goal.returns-clause-laid
returns-clause-laid c =
    let t = take c.args.size c.args.bytes.now in
    let l = c.runs in
    let st = c.lay_run-stop in
    let stop = st.result.0 in
    let stops = st.ensures.stops in
    let long : length t ≡ c.args.size = length-take-le c.args.size c.args.bytes.now c.requires.size in
    let is = stop_is c.args.bytes.now l.from c.args.size stop c.requires.size stops in
    let a = room c.args.cells.now l.cells t c.args.into l.to l.from (omega arith) l.invariant.0 in
    let b = run_long t l.from stop is (omega (arith, long, stops.1)) in
    let laid = st.ensures.laid ∙ ap (λ xs. take l.to l.cells ++ xs) (part_of_text c.args.bytes.now l.from c.args.size stop stops.0 stops.1) in
    let run = run_laid c.args.cells.now l.cells st.new.cells t c.args.into l.to l.from stop (l.to + (stop - l.from)) l.invariant.0 is (omega (arith, long, stops.1)) laid (omega (arith, a, b, stops.0)) in
    text_laid c.args.cells.now st.new.cells c.lay.new.cells t c.args.into (l.to + (stop - l.from)) stop c.lay.result run (omega (arith, long, c.if-stop-size.true)) c.lay.ensures.laid

pub returns-clause-place : goal.returns-clause-place
returns-clause-place c =
    let t = take c.args.size c.args.bytes.now in
    let l = c.runs in
    let stop = c.lay_run-stop.result.0 in
    let stops = c.lay_run-stop.ensures.stops in
    let long : length t ≡ c.args.size = length-take-le c.args.size c.args.bytes.now c.requires.size in
    let is = stop_is c.args.bytes.now l.from c.args.size stop c.requires.size stops in
    let b = run_long t l.from stop is (omega (arith, long, stops.1)) in
    let d = nothing_long t stop (omega (arith, long, c.if-stop-size.true)) in
    omega (arith, room c.args.cells.now l.cells t c.args.into l.to l.from (omega arith) l.invariant.0, b, d, stops.0, c.lay.ensures.place)

pub returns-clause-ascii : goal.returns-clause-ascii
returns-clause-ascii c = λ seen.
    let l = c.runs in
    let both = both_true l.is_ascii _ seen in
    let all = ascii_join c.args.bytes.now 0 l.from c.lay_run-stop.result.0 (l.invariant.2 both.0) (c.lay_run-stop.ensures.ascii both.1) in
    ascii_utf8 c.args.bytes.now c.args.size c.requires.size (subst (IsAsciiRun c.args.bytes.now 0) c.if-stop-size.true all)
