use Rattle.std.proofs.Common.{drop, Option}
use Rattle.idl_document.specs.Trees.{field_trees}
use Rattle.idl_consts.specs.Following.{Fault}
use Rattle.idl_consts.specs.Knowing.{IsSound}
use Rattle.idl_consts.specs.Told.{IsLeast, presets}
use Rattle.idl_consts.specs.Views.{files_of}
use Rattle.idl_consts.proofs.check.presets_fault.Given as goal

abbrev pub invariant-loop-field : goal.invariant-loop-field
invariant-loop-field l =
    let d = files_of l.view in
    record {
      told : (told : Option Fault) → IsLeast d l.place l.least (presets (field_trees (drop l.field-index l.fields))) told
          → IsLeast d l.place l.fn.before (presets (field_trees l.fields)) told;
      known : IsSound d l.known;
    }
