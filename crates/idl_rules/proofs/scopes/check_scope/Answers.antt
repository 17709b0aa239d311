use Rattle.std.proofs.Common.{◌+◌, ◌++◌, ◌∙◌, ap, refl, drop, arith, List, Option}
use Rattle.idl_document.specs.declared.document.Name.{Name}
use Rattle.idl_document.specs.Trees.{definition_trees}
use Rattle.idl_rules.specs.declared.row.IdlRow.TheVariants as rows
use Rattle.idl_rules.specs.Doubles.{repeated}
use Rattle.idl_rules.specs.Order.{Refusal, lesser, least_of}
use Rattle.idl_rules.specs.Rules.{names_in, scope_refusals}
use Rattle.idl_rules.proofs.Sets.{named_step}
use Rattle.idl_rules.proofs.Steps.{opened, ends}
use Rattle.idl_rules.proofs.scopes.check_scope.Goals as goal
use Rattle.idl_rules.proofs.scopes.check_scope.Goals.{in-Some+in_ok-again, in_default}

pub loop-definition-preserved : goal.loop-definition-preserved
loop-definition-preserved c =
    let ds = c.args.definitions.now in
    let i = c.loop-definition.definition-index in
    let d = c.definition-item.result in
    let rest = names_in c.args.scope (definition_trees (drop (i + 1) ds)) in
    let seen = c.loop-definition.seen in
    let old = c.loop-definition.least in
    let whole = lesser c.args.least.now (least_of (scope_refusals c.args.scope (definition_trees ds))) in
    let before = opened ds i d (λ l. repeated rows.DuplicateName seen (names_in c.args.scope (definition_trees l))) old whole c.loop-definition-test.true c.definition-item.is c.loop-definition.invariant in
    elim c.match-name_in.branch [
      | in-Some+in_ok-again w ↦
          let n = w.in-Some.name.now in
          let named = ap (λ (ns : List Name). lesser old (least_of (repeated rows.DuplicateName seen (ns ++ rest)))) w.in-Some.ensures ∙ before in
          named_step rows.DuplicateName seen c.match-name_in.seen n n w.as_slice.result.now w.in_ok-again.again rest old c.match-name_in.least whole refl w.as_slice.ensures
          w.in_ok-again.ensures.told (rw w.seen-is w.in_ok-again.ensures.kept) (w.least-is ∙ w.note_when.ensures) named
      | in_default w ↦
          ap (λ (o : Option Refusal). lesser o (least_of (repeated rows.DuplicateName c.match-name_in.seen rest))) w.least-is
          ∙ ap (λ s. lesser old (least_of (repeated rows.DuplicateName s rest))) w.seen-is
          ∙ ap (λ (ns : List Name). lesser old (least_of (repeated rows.DuplicateName seen (ns ++ rest)))) w.in_default.ensures ∙ before
    ]

pub returns : goal.returns
returns c =
    ends c.args.definitions.now c.loop-definition.definition-index (λ l. repeated rows.DuplicateName c.loop-definition.seen (names_in c.args.scope (definition_trees l)))
    c.loop-definition.least _ refl (omega arith) c.loop-definition.invariant
