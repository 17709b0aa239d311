-- Tables can have what files declare in which nothing is refused.
use Rattle.std.proofs.Common.{refl, sym, List, None}
use Rattle.idl_names.specs.Files.{FileTree}
use Rattle.idl_schema.specs.Schema.{declarations_of}
use Rattle.idl_schema.specs.Stands.{CanStand}
use Rattle.idl_resolve.specs.Refused.{IsFirst}
use Rattle.idl_resolve.proofs.Kept.{rules_kept}
use Rattle.idl_laws.specs.LookUps.{AreDotless}
use Rattle.idl_laws.proofs.Apart.{names_apart}
use Rattle.idl_laws.proofs.Closed.{closed}

pub can_stand : (files : List FileTree) → IsFirst files None → AreDotless files → CanStand (declarations_of files)
can_stand files lawful dotless = record {
  closed = closed files lawful.0 lawful.1.0 lawful.1.1 (declarations_of files) refl;
  apart = names_apart files dotless (rules_kept files lawful.0 None (sym lawful.1.1) refl);
}
