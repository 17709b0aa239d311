use Rattle.std.proofs.Common.{◌-◌, ◌≤◌, arith}
use Rattle.std.proofs.lemmas.Bool.Decides.{nat_tests}
use lib.Count.{count_trailing_zeros}
use Rattle.json_text.proofs.PlainTexts.{both_true}
use Rattle.json_text.proofs.LaidText.{rest_laid, run_of_rest, run_of_cells, ascii_of_cells, lanes, low_lanes}
use Rattle.json_text.proofs.lay.last_run.Goals as goal

pub returns-clause-stops : goal.returns-clause-stops
returns-clause-stops c =
    let a = c.args in
    let cells = c.lay_short.new.cells in
    let same = rest_laid a.cells.now cells a.bytes.now a.to a.from a.size c.lay_short.result (omega (arith, c.requires.room)) c.lay_short.ensures.laid (omega (arith, c.lay_short.ensures.place)) in
    let seen = (lanes cells a.to c.stops.result c.min-run.result (a.size - a.from) (omega arith) c.stops.ensures c.min-run.ensures).0 (omega (arith, c.min-run.ensures, c.requires.few)) in
    let run = run_of_cells cells a.bytes.now a.to a.from c.min-run.result (a.size - a.from) same (omega (arith, c.min-run.ensures)) seen in
    (omega arith, omega (arith, c.min-run.ensures, c.requires.order), omega (arith, run.0), λ before. omega (arith, run.1 (omega (arith, before))))

pub returns-clause-laid : goal.returns-clause-laid
returns-clause-laid c =
    let a = c.args in
    run_of_rest a.cells.now c.lay_short.new.cells a.bytes.now a.to a.from c.min-run.result (a.size - a.from) c.lay_short.result (omega (arith, c.requires.room)) (omega (arith, c.min-run.ensures)) c.lay_short.ensures.laid (omega (arith, c.lay_short.ensures.place))

pub returns-clause-ascii : goal.returns-clause-ascii
returns-clause-ascii c = λ e.
    let a = c.args in
    let cells = c.lay_short.new.cells in
    let same = rest_laid a.cells.now cells a.bytes.now a.to a.from a.size c.lay_short.result (omega (arith, c.requires.room)) c.lay_short.ensures.laid (omega (arith, c.lay_short.ensures.place)) in
    let low : c.min-run.result ≤ count_trailing_zeros 64 c.highs.result = grind (arith, nat_tests, (both_true a.were_ascii _ e).1) in
    ascii_of_cells cells a.bytes.now a.to a.from c.min-run.result (a.size - a.from) same (omega (arith, c.min-run.ensures))
    (low_lanes cells a.to c.highs.result c.min-run.result (omega arith) c.highs.ensures (omega (arith, c.min-run.ensures, c.requires.few)) low)
