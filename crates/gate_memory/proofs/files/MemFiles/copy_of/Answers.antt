use Rattle.std.proofs.Common.{ap, ◌∙◌, Some}
use Rattle.gate_memory.specs.Files.{FilesState, text_of}
use Rattle.gate_memory.proofs.Named.{found, short_text}
use Rattle.gate_memory.proofs.files.MemFiles.copy_of.Goals as goal

pub returns-in_ok-new-in-Some-clause-copied : goal.returns-in_ok-new-in-Some-clause-copied
returns-in_ok-new-in-Some-clause-copied c =
    ap Some (c.in_ok-new-in-Some.ensures ∙ c.as_slice.ensures)
    ∙ c.in-Some.ensures.value
    ∙ found c.self.inside.texts.entries c.args.name.now
    ∙ ap (λ (s : FilesState). text_of s.texts c.args.name.now) c.self.view_is

pub returns-in_ok-new-in-Some-clause-short : goal.returns-in_ok-new-in-Some-clause-short
returns-in_ok-new-in-Some-clause-short c =
    short_text c.self.inside.texts.entries c.args.name.now c.in_ok-new-in-Some.field-0 c.self.invariant (ap Some (c.in_ok-new-in-Some.ensures ∙ c.as_slice.ensures) ∙ c.in-Some.ensures.value)

pub returns-in-None-clause-copied : goal.returns-in-None-clause-copied
returns-in-None-clause-copied c = c.in-None.ensures.value ∙ found c.self.inside.texts.entries c.args.name.now ∙ ap (λ (s : FilesState). text_of s.texts c.args.name.now) c.self.view_is
