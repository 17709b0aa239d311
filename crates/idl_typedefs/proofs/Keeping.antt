-- Links that are kept.
use Rattle.std.proofs.Common.{◌≡◌, ℕ, zero, suc, List, [], ◌∷◌, ◌++◌, Option, Some, None}
use Rattle.std.specs.Prelude.{slice_get}
use Rattle.idl_names.specs.Files.{FileTree}
use Rattle.idl_typedefs.specs.declared.typedefs.AliasLink.{AliasLink}
use Rattle.idl_typedefs.specs.AliasLinks.{AreAliasLinks}

got_before : (links : List (Option AliasLink)) (i : ℕ) (link : AliasLink) → slice_get (links ++ None ∷ []) i ≡ Some (Some link) → slice_get links i ≡ Some (Some link)
got_before [] zero link e = absurd (cc)
got_before [] (suc i) link e = absurd (cc)
got_before (x ∷ xs) zero link e = e
got_before (x ∷ xs) (suc i) link e = got_before xs i link e

pub none_kept : (files : List FileTree) → AreAliasLinks files []
none_kept files i link e = absurd (cc)

pub none_pushed : (files : List FileTree) (links : List (Option AliasLink)) → AreAliasLinks files links → AreAliasLinks files (links ++ None ∷ [])
none_pushed files links kept i link e = kept i link (got_before links i link e)
