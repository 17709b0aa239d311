use Rattle.std.proofs.Common.{◌∙◌, ap, sym, List, Option}
use Rattle.std.specs.Prelude.{slice_get}
use Rattle.idl_typedefs.specs.declared.typedefs.AliasLink.{AliasLink}
use Rattle.idl_typedefs.proofs.Reaching.{from_link}
use Rattle.idl_typedefs.proofs.typedefs.Typedefs.link.Goals as goal

pub returns-in-Some-Some : goal.returns-in-Some-Some
returns-in-Some-Some c =
    let link = c.in-Some-Some.link in
    record {
      first = c.link_from.ensures.first;
      link = λ files kept.
          let found = rw c.in-Some-Some.field-0-is at c.in-Some-Some.ensures in
          let there = ap (λ (hs : List (Option AliasLink)). slice_get hs c.place.result) (sym c.as_slice.ensures.value) ∙ sym found in
          from_link files c.args.spot link c.link_from.result (kept c.place.result link there) c.link_from.ensures.same c.link_from.ensures.first;
    }
