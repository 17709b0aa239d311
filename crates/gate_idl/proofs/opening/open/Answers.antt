use Rattle.std.proofs.Common.{Err, sym, subst}
use Rattle.idl_names.specs.Files.{file_trees}
use Rattle.gate_idl.specs.declared.opening.Stop.{Stop}
use Rattle.gate_idl.specs.Opening.{IsOpened, Opens, HasCause}
use Rattle.gate_idl.proofs.Opened.{opens_loaded, opens_stopped, cause_of, cause_behind}
use Rattle.type_tables.specs.Declarations.{Declarations}
use Rattle.gate_idl.proofs.opening.open.Goals as goal

pub returns-in-Ok-clause-told : goal.returns-in-Ok-clause-told
returns-in-Ok-clause-told g c = λ holds told.
    opens_loaded holds c.args.root.now (file_trees c.in-Ok.loaded.documents) c.in-Ok.loaded.schema c.schema_of.result (c.in-Ok.ensures.exact holds told) c.in-Ok.ensures.resolved c.schema_of.ensures

pub returns-in-Ok-clause-cause : goal.returns-in-Ok-clause-cause
returns-in-Ok-clause-cause g c = cause_behind (file_trees c.in-Ok.loaded.documents) c.in-Ok.loaded.schema c.schema_of.result _ _ c.in-Ok.ensures.cause c.schema_of.ensures

pub returns-in-Err-clause-told : goal.returns-in-Err-clause-told
returns-in-Err-clause-told g c = λ holds told.
    subst (λ (s : Stop). Opens (IsOpened holds c.args.root.now) (Err s)) (sym c.stop_by.ensures) (opens_stopped holds c.args.root.now c.in-Err.error (c.in-Err.ensures.exact holds told))

pub returns-in-Err-clause-cause : goal.returns-in-Err-clause-cause
returns-in-Err-clause-cause g c =
    subst (λ (s : Stop). HasCause {X = Declarations} (Err s) (g.F.Files.faults c.args.files.now) (g.F.Files.faults c.load.new.files)) (sym c.stop_by.ensures) (cause_of c.in-Err.error _ _ c.in-Err.ensures.cause)
