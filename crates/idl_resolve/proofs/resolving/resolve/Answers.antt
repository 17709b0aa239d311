use Rattle.std.proofs.Common.{◌≡◌, ◌∙◌, List, ap, sym, subst}
use Rattle.idl_names.specs.declared.documents.FileDoc.{FileDoc}
use Rattle.idl_names.specs.Files.{file_trees}
use Rattle.idl_schema.specs.declared.fault.NoSchema.{NoSchema}
use Rattle.idl_schema.specs.declared.fault.NoSchema.TheVariants as stops
use Rattle.idl_schema.specs.Schema.{declarations_of}
use Rattle.idl_schema.specs.Stands.{CanStand}
use Rattle.idl_resolve.proofs.Asking.{first}
use Rattle.idl_resolve.proofs.Kept.{rules_kept}
use Rattle.idl_resolve.proofs.resolving.resolve.Goals as goal

pub schema_by-requires : goal.schema_by-requires
schema_by-requires c = rules_kept (file_trees c.in_ok-names.names.files.now) c.in_ok-cycles.cycles c.in_ok-fault.field-0 c.in_ok-fault.ensures c.in-None.is

pub returns-in-Ok : goal.returns-in-Ok
returns-in-Ok c = (
  first c.args.documents.now c.in_ok-names.names.files.now c.in_ok-cycles.cycles c.in_ok-fault.field-0 _ c.in_ok-names.ensures c.in_ok-cycles.ensures c.in_ok-fault.ensures c.in-None.is,
  c.in-Ok.ensures.exact ∙ ap (λ (files : List FileDoc). declarations_of (file_trees files)) c.in_ok-names.ensures,
)

no_memory : (x : NoSchema) → x ≡ stops.NoTables → x ≡ stops.OutOfMemory → ⊥
no_memory x e f = cc

pub returns : goal.returns
returns c = (
  first c.args.documents.now c.in_ok-names.names.files.now c.in_ok-cycles.cycles c.in_ok-fault.field-0 _ c.in_ok-names.ensures c.in_ok-cycles.ensures c.in_ok-fault.ensures c.in-None.is,
  λ stand. no_memory _ c.in-Err-NoTables.field-0-is
      (c.in-Err-NoTables.ensures.unless (subst (λ (files : List FileDoc). CanStand (declarations_of (file_trees files))) (sym c.in_ok-names.ensures) stand)),
)
