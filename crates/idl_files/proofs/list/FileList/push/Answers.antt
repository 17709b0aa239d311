use Rattle.std.proofs.Common.{◌≡◌, ◌<◌, ◌++◌, ◌∷◌, [], None, List, length, length-append, sym, ◌∙◌, ap, subst, arith}
use Rattle.idl_names.specs.Files.{file_trees}
use Rattle.idl_names.specs.declared.documents.FileDoc.{FileDoc}
use Rattle.idl_files.specs.Listing.{place_of}
use Rattle.idl_files.proofs.Placing.{names_pushed}
use Rattle.idl_files.proofs.list.FileList.push.Goals as goal
use Rattle.std.proofs.lemmas.Grind.{common_steps}

pub invariant_of-self-2 : goal.invariant_of-self-2
invariant_of-self-2 c =
    let f : FileDoc = record { name = c.args.name; document = c.args.document; includes = c.new.result } in
    let pushed : c.push_reserved.new.self.items ≡ c.self.inside.docs.items ++ f ∷ [] = c.push_reserved.ensures.items ∙ ap (λ (xs : List FileDoc). xs ++ f ∷ []) c.in_ok-reserve.ensures.items in
    let fresh = subst (λ (xs : List FileDoc). place_of c.args.name (file_trees xs) ≡ None) (sym c.self.view_is) c.requires.new in
    let room = subst (λ (xs : List FileDoc). length xs < 256) (sym c.self.view_is) c.requires.room in (
      names_pushed c.self.inside.names.keys c.insert.new.self.keys c.in_ok-key.key c.self.inside.docs.items c.push_reserved.new.self.items f c.in_ok-insert.ensures.keys
          (c.in_ok-key.ensures.items ∙ c.as_slice.ensures) c.self.invariant.0 fresh pushed,
      omega (arith, room, ap length pushed, length-append c.self.inside.docs.items (f ∷ [])),
    )

pub returns : goal.returns
returns c = grind (arith, common_steps)
