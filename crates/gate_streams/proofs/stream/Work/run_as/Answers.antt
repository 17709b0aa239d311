use Rattle.std.proofs.Common.{◌+◌, ℕ, List, ◌++◌, length, take, drop, refl, sym, ap, ◌∙◌}
use Rattle.gate_io.specs.Buffer.{Buffer}
use Rattle.gate_io.specs.Tails.{written_over}
use Rattle.gate_io.proofs.Tails.{cut_tail}
use Rattle.line_transport.specs.Buffers.{Incoming}
use Rattle.gate_streams.proofs.Running.{run_gathers}
use Rattle.gate_streams.proofs.stream.Work.run_as.Goals as goal

pub returns-clause-gathered : goal.returns-clause-gathered
returns-clause-gathered g c =
    let run = c.convert_run-run in
    let held = c.in-Some.held.now in
    let bytes = c.args.self.now.page.out.bytes in
    let rest = ap (λ (b : Incoming). b.held) c.drop_frames.ensures ∙ ap (drop run.result.read) (sym c.in-Some.ensures.held) in
    let page = ap (λ (b : Buffer). b.bytes) c.cut.ensures
    ∙ (ap (λ (n : ℕ). take (n + run.result.written) (bytes ++ written_over c.tail-cells.result.now run.new.cells)) (ap (λ (l : List ℕ). length l) c.bytes-before.ensures.bytes)
    ∙ cut_tail bytes c.tail-cells.result.now run.new.cells (take run.result.written run.new.cells) run.result.written run.ensures.kept refl) in
    run_gathers c.args.task.now c.args.self.now c.drop_frames.new.self c.cut.new.self held (drop run.result.read held) (take run.result.written run.new.cells) run.result.frames
    run.ensures.runs (sym c.in-Some.ensures.held) rest page
