use Rattle.std.proofs.Common.{◌≡◌, ◌≤◌, drop}
use Rattle.idl_document.specs.Trees.{field_trees}
use Rattle.idl_rules.specs.Ids.{refused_ids, ids_from, id_refusals}
use Rattle.idl_rules.specs.Order.{lesser, least_of}
use Rattle.idl_rules.proofs.ids.check_ids.Given as goal

abbrev pub invariant-loop-field : goal.invariant-loop-field
invariant-loop-field l = record {
  within : l.before ≤ l.field-index;
  exact : lesser l.least (least_of (refused_ids l.seen (ids_from l.before (field_trees (drop l.field-index l.fields)))))
      ≡ lesser l.initial.least (least_of (id_refusals (field_trees l.fields)));
}
