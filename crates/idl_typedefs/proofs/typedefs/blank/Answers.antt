use Rattle.std.proofs.Common.{List, Option, sym, subst}
use Rattle.idl_typedefs.specs.declared.typedefs.AliasLink.{AliasLink}
use Rattle.idl_typedefs.specs.AliasLinks.{AreAliasLinks}
use Rattle.idl_typedefs.proofs.Keeping.{none_kept, none_pushed}
use Rattle.idl_typedefs.proofs.typedefs.blank.Goals as goal

pub links-init : goal.links-init
links-init c = λ files. subst (λ (hs : List (Option AliasLink)). AreAliasLinks files hs) (sym c.new-links.ensures.items) (none_kept files)

pub links-preserved : goal.links-preserved
links-preserved c = λ files. subst (λ (hs : List (Option AliasLink)). AreAliasLinks files hs) (sym c.in_ok-push.ensures.items) (none_pushed files c.links.links.items (c.links.invariant files))
