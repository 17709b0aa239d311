use Rattle.std.proofs.Common.{◌≡◌, ◌+◌, ◌-◌, List, ℕ, length, take, drop, arith, refl, sym, ◌∙◌, subst}
use Rattle.std.proofs.lemmas.List.{length-drop, take_all}
use Rattle.gate_streams.specs.Running.{ConvertsNext, Runs}
use Rattle.gate_streams.proofs.Running.{runs_none, runs_on}
use Rattle.gate_streams.proofs.run.convert_run.Goals as goal

pub frames-init : goal.frames-init
frames-init g c = record {
  read = omega arith;
  written = omega arith;
  kept = refl;
  counted = omega arith;
  runs = runs_none c.args.task.now c.args.held.now;
}

pub frames-preserved : goal.frames-preserved
frames-preserved g c =
    let i = c.frames.invariant in
    let e = c.in-Some.ensures in
    let k = c.args.task.now in
    let held = c.args.held.now in
    let behind = drop c.frames.read held in
    let size = length-drop c.frames.read held in
    let whole : take (length held - c.frames.read) behind ≡ behind = take_all (length held - c.frames.read) behind (omega (arith, size)) in
    let bytes = take (c.frames.written + (4 + c.in-Some.count)) c.convert_next.new.cells in
    let before = take c.frames.written c.frames.cells in
    let next = subst (λ (xs : List ℕ). ConvertsNext k g.P.Pair.from g.P.Pair.to xs c.in-Some.size before bytes) whole e.next in
    record {
      read = omega (arith, i.read, e.within.0, size);
      written = omega (arith, e.kept, e.within.1);
      kept = e.kept ∙ i.kept;
      counted = omega (arith, i.counted);
      runs = runs_on k g.P.Pair.from g.P.Pair.to held before bytes c.frames.read c.frames.frames c.in-Some.size c.requires.conversion i.runs next;
    }

pub returns-in_default-clause-runs : goal.returns-in_default-clause-runs
returns-in_default-clause-runs g c =
    let i = c.frames.invariant in
    subst (λ (bytes : List ℕ). Runs c.args.task.now c.args.held.now (drop c.frames.read c.args.held.now) c.frames.frames bytes) (sym c.convert_next.ensures.front) i.runs
