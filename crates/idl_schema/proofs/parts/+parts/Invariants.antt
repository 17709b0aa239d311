use Rattle.std.proofs.Common.{◌+◌, ◌*◌}
use Rattle.idl_document.specs.Trees.{type_tree}
use Rattle.idl_schema.specs.Numbers.{parts}
use Rattle.idl_schema.proofs.parts.+parts.Given as goal

abbrev pub decreases-add_parts : goal.decreases-add_parts
decreases-add_parts l = 2 * parts (type_tree l.tree.now)

abbrev pub decreases-add_pair : goal.decreases-add_pair
decreases-add_pair l = 1 + 2 * (parts (type_tree l.key.now) + parts (type_tree l.value.now))

abbrev pub decreases-add_element : goal.decreases-add_element
decreases-add_element l = 1 + 2 * parts (type_tree l.element.now)
