use Rattle.std.proofs.Common.{ap, ◌∙◌, List, ℕ}
use Rattle.gate_memory.specs.Files.{FilesState, with_text}
use Rattle.gate_memory.proofs.Named.{put_short, putted}
use Rattle.gate_memory.proofs.files.MemFiles.put.Goals as goal

pub invariant_of-self-2 : goal.invariant_of-self-2
invariant_of-self-2 c = put_short c.self.inside.texts.entries c.insert.new.self.entries c.in_ok-key.key c.in_ok-text.text c.args.text.now c.in_ok-insert.ensures.entries c.in_ok-text.ensures c.self.invariant c.requires

pub returns-clause-ok : goal.returns-clause-ok
returns-clause-ok c =
    ap (λ (texts : List (List ℕ × List ℕ)). record { texts = texts; calls = c.self.inside.calls; fail = c.self.inside.fail; faults = c.self.inside.faults })
    (putted c.self.inside.texts.entries c.insert.new.self.entries c.in_ok-key.key c.args.name.now c.in_ok-text.text c.args.text.now c.in_ok-insert.ensures.entries c.in_ok-key.ensures.items c.in_ok-text.ensures)
    ∙ ap (λ (s : FilesState). record s { texts = with_text s.texts c.args.name.now c.args.text.now }) c.self.view_is
