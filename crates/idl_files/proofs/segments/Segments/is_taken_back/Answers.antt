use Rattle.std.proofs.Common.{arith, ◌≡◌, ◌&&◌, ◌-◌, List, ℕ, Some, length, slice_get, sym, ◌∙◌, ap}
use Rattle.idl_files.specs.Names.{ends_plain, is_plain}
use Rattle.idl_files.proofs.Cutting.{last_plain}
use Rattle.idl_files.proofs.segments.Segments.is_taken_back.Goals as goal
use Rattle.std.proofs.lemmas.Grind.{common_steps}

pub returns-in-Some : goal.returns-in-Some
returns-in-Some c =
    let same : c.deref.result.now ≡ c.args.self.now = c.deref.ensures.value ∙ c.self.view_is in
    let last : Some c.in-Some.last.now ≡ slice_get c.args.self.now (length c.args.self.now - 1) = c.in-Some.ensures.value ∙ ap (λ (xs : List (List ℕ)). slice_get xs (length xs - 1)) same in
    c.is_plain.ensures
    ∙ ap is_plain c.as_slice.ensures
    ∙ sym (last_plain c.args.self.now c.in-Some.last.now (sym last))
    ∙ ap (λ t. t && ends_plain c.args.self.now) (sym c.if-not-is_up.false ∙ c.is_up.ensures)

pub returns-in-None : goal.returns-in-None
returns-in-None c = grind (arith, common_steps)
