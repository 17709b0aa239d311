use Rattle.translate_core.proofs.answering.put_failure.Goals as goal

pub put_known-requires-clause-taken : goal.put_known-requires-clause-taken
put_known-requires-clause-taken g c = c.requires.spellable.0

pub put_known-requires-2-clause-taken : goal.put_known-requires-2-clause-taken
put_known-requires-2-clause-taken g c = c.requires.spellable.1.0

pub put_known-requires-3-clause-taken : goal.put_known-requires-3-clause-taken
put_known-requires-3-clause-taken g c = c.requires.spellable.1.1.0

pub put_type-requires-clause-taken : goal.put_type-requires-clause-taken
put_type-requires-clause-taken g c = c.requires.spellable.1.1.1.0

pub put_known-requires-4-clause-taken : goal.put_known-requires-4-clause-taken
put_known-requires-4-clause-taken g c = c.requires.spellable.1.1.1.1.0
