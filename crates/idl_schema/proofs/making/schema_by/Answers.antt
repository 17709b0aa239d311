use Rattle.std.proofs.Common.{◌≡◌, ◌∙◌, ap, sym, subst, suc, refl, [], ◌∷◌, length, List, Result, Ok, Err, IfOk, IsOk, IsOkUnless}
use Rattle.idl_names.specs.declared.documents.FileDoc.{FileDoc}
use Rattle.idl_names.specs.Files.{FileTree, file_trees}
use Rattle.type_tables.specs.Declarations.{Declarations, with_files}
use Rattle.type_tables.specs.Known.{built_in, IsClosed}
use Rattle.idl_schema.specs.declared.fault.NoSchema.{NoSchema}
use Rattle.idl_schema.specs.Adding.{firsts}
use Rattle.idl_schema.specs.Schema.{declarations_of}
use Rattle.idl_schema.specs.Shares.{files_shares, with_share}
use Rattle.idl_schema.proofs.Apart.{closed_back}
use Rattle.idl_schema.proofs.making.schema_by.Goals as goal

trees_length : (docs : List FileDoc) → length (file_trees docs) ≡ length docs
trees_length [] = refl
trees_length (d ∷ ds) = ap suc (trees_length ds)

-- what was added to the built-in struct is what the files declare
whole : (docs : List FileDoc) (files : List FileTree) (begun built : Declarations) → files ≡ file_trees docs → begun ≡ built_in → built ≡ with_share begun (files_shares files 0 (firsts begun) (file_trees docs)) →
    with_files built (length docs) ≡ declarations_of (file_trees docs)
unfolding declarations_of
whole docs files begun built f b e =
    let trees = file_trees docs in
    ap (λ (d : Declarations). with_files d (length docs))
    (e ∙ ap (λ (d : Declarations). with_share d (files_shares files 0 (firsts d) trees)) b ∙ ap (λ (fs : List FileTree). with_share built_in (files_shares fs 0 (firsts built_in) trees)) f)
    ∙ ap (λ n. with_files (with_share built_in (files_shares trees 0 (firsts built_in) trees)) n) (sym (trees_length docs))

if_ok : (r : Result Declarations NoSchema) (a b : Declarations) → a ≡ b → IfOk r (λ s. s ≡ a) → IfOk r (λ s. s ≡ b)
if_ok (Ok s) a b e h = h ∙ e
if_ok (Err x) a b e h = tt

ok_unless : (r : Result Declarations NoSchema) (x : NoSchema) → IsOk r → IsOkUnless r x
ok_unless (Ok s) x h = tt
ok_unless (Err y) x h = absurd cc

pub returns-clause-exact : goal.returns-clause-exact
returns-clause-exact c =
    let built = whole c.args.names.now.files.now _ c.in_ok-builder.builder c.add_files.new.builder c.in_ok-index.ensures c.in_ok-builder.ensures c.in_ok-add_files.ensures.exact in
    if_ok c.finished.result _ _ built c.finished.ensures.exact

pub returns-clause-unless : goal.returns-clause-unless
returns-clause-unless c stand =
    let docs = c.args.names.now.files.now in
    let built = whole docs _ c.in_ok-builder.builder c.add_files.new.builder c.in_ok-index.ensures c.in_ok-builder.ensures c.in_ok-add_files.ensures.exact in
    ok_unless c.finished.result _ (c.finished.ensures.closed (closed_back c.add_files.new.builder (length docs) (subst IsClosed (sym built) stand.closed)))
