use Rattle.std.proofs.Common.{◌≡◌, ℕ, List, Option, Err, inl, rules}
use Rattle.idl_names.specs.declared.documents.FileDoc.{FileDoc}
use Rattle.idl_names.specs.Files.{file_trees}
use Rattle.idl_files.specs.declared.fault.LoadError.{LoadError}
use Rattle.idl_files.specs.declared.fault.LoadError.TheVariants as errors
use Rattle.idl_files.specs.Answers.{Gives}
use Rattle.idl_files.specs.Walk.{walked}
use Rattle.idl_resolve.specs.Loads.{Loads}
use Rattle.idl_resolve.proofs.loading.load.Goals as goal

-- why files are not read is why they are not loaded
unread : (holds : List ℕ → Option (List ℕ)) (root : List ℕ) (error : LoadError) → Gives {X = List FileDoc} file_trees (Err error) (walked holds root) → Loads holds root (Err error)
unread holds root (errors.Idl fault) h = inl h
unread holds root errors.FileFault h = tt
unread holds root errors.OutOfMemory h = tt
unread holds root errors.NoTables h = absurd h

pub returns-in_err-documents-clause-exact : goal.returns-in_err-documents-clause-exact
returns-in_err-documents-clause-exact g c = λ holds told.
    let is : c.from_residual.result ≡ Err c.in_err-documents.field-0.0 = search rules in
    rw is (unread holds c.args.root.now c.in_err-documents.field-0.0 (c.in_err-documents.ensures.exact holds told))
