use Rattle.std.proofs.Common.{◌≡◌, drop}
use Rattle.idl_document.specs.Trees.{field_trees}
use Rattle.idl_consts.specs.Keys.{field_named}
use Rattle.idl_consts.proofs.keys.field_named.Given as goal

abbrev pub invariant-loop-field : goal.invariant-loop-field
invariant-loop-field l = field_named (field_trees (drop l.field-index l.fields)) l.word ≡ field_named (field_trees l.fields) l.word
