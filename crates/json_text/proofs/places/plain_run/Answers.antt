use Rattle.std.proofs.Common.{◌≡◌, refl, sym, ap, ◌∙◌, ◌+◌, arith, map}
use Rattle.std.proofs.lemmas.Bool.Decides.{nat_tests}
use lib.Count.{count_trailing_zeros}
use lib.Lanes.{chunk, mask_l}
use Rattle.json_text.specs.Places.{is_high}
use Rattle.json_text.specs.Text.{is_stop, is_plain}
use Rattle.json_text.proofs.Runs.{run_bound, run_through, run_stops}
use Rattle.json_text.proofs.PlainTexts.{both_true, ascii_on, ascii_shorter, stop_near}
use Rattle.json_text.proofs.places.plain_run.Goals as goal

pub returns-then-found-ne0-clause-value : goal.returns-then-found-ne0-clause-value
returns-then-found-ne0-clause-value c =
    let found = c.stops-found in
    let run = run_stops is_stop is_plain (λ x. refl) c.args.bytes.now c.runs.«end» 32 (omega arith) (omega arith) (omega (arith, found.ensures)) ∙ ap (count_trailing_zeros 64) (sym found.ensures) in
    omega (arith, run, c.runs.invariant.run)

pub returns-then-found-ne0-clause-bound : goal.returns-then-found-ne0-clause-bound
returns-then-found-ne0-clause-bound c =
    let found = c.stops-found in
    let run = run_stops is_stop is_plain (λ x. refl) c.args.bytes.now c.runs.«end» 32 (omega arith) (omega arith) (omega (arith, found.ensures)) ∙ ap (count_trailing_zeros 64) (sym found.ensures) in
    omega (arith, run, run_bound is_plain c.args.bytes.now c.runs.«end» c.runs.invariant.within)

pub returns-then-found-ne0-clause-ascii : goal.returns-then-found-ne0-clause-ascii
returns-then-found-ne0-clause-ascii c = λ e.
    let found = c.stops-found in
    let both = both_true c.runs.is_ascii _ e in
    let none : mask_l (map is_high (chunk c.runs.«end» 32 c.args.bytes.now)) ≡ 0 = sym c.highs.ensures ∙ grind (arith, nat_tests, both.1) in
    let near = stop_near c.args.bytes.now c.runs.«end» 32 (omega arith) (omega arith) (omega (arith, found.ensures)) in
    ascii_shorter c.args.bytes.now c.args.at (c.runs.«end» + 32) _ (omega (arith, near, ap (count_trailing_zeros 64) found.ensures)) (ascii_on c.args.bytes.now c.args.at c.runs.«end» 32 (c.runs.invariant.ascii both.0) (omega arith) none)

pub runs-preserved : goal.runs-preserved
runs-preserved c =
    let run = run_through is_stop is_plain (λ x. refl) c.args.bytes.now c.runs.«end» 32 (omega arith) (omega (arith, c.stops-found.ensures)) in
    record {
      run = omega (arith, run, c.runs.invariant.run);
      order = omega (arith, c.runs.invariant.order);
      within = omega arith;
      ascii = λ e.
          let both = both_true c.runs.is_ascii _ e in
          let none : mask_l (map is_high (chunk c.runs.«end» 32 c.args.bytes.now)) ≡ 0 = sym c.highs.ensures ∙ grind (arith, nat_tests, both.1) in
          ascii_on c.args.bytes.now c.args.at c.runs.«end» 32 (c.runs.invariant.ascii both.0) (omega arith) none;
    }
