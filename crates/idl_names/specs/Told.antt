-- What the code tells of a type, as trees.
use Rattle.idl_document.specs.Trees.{type_tree}
use Rattle.idl_names.specs.declared.targets.Step.{Step}
use Rattle.idl_names.specs.declared.targets.Step.TheVariants as steps
use Rattle.idl_names.specs.declared.targets.Target.{Target}
use Rattle.idl_names.specs.declared.targets.Target.TheVariants as targets
use Rattle.idl_names.specs.Targets.{TargetTree, written_in, enum_spot, struct_spot, StepTree, ends, follows}

abbrev pub target_tree : Target → TargetTree
target_tree (targets.Written file ty) = written_in file (type_tree ty.now)
target_tree (targets.Enum spot) = enum_spot spot
target_tree (targets.Struct kin spot) = struct_spot kin spot

abbrev pub step_tree : Step → StepTree
step_tree (steps.End target) = ends (target_tree target)
step_tree (steps.Typedef file ty) = follows file (type_tree ty.now)
