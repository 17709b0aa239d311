use Rattle.std.proofs.Common.{arith, sym, ◌∙◌, w16}
use Rattle.std.proofs.lemmas.Int.{to_z-of_z}
use Rattle.type_tables.proofs.Places.{place_at}
use Rattle.type_tables.proofs.fields.numbered.Goals as goal

pub returns-then-is_at : goal.returns-then-is_at
returns-then-is_at c =
    let same = to_z-of_z w16 c.args.id c.ranges.id in
    place_at c.args.id c.args.places.now _ _ c.requires (omega arith) (rw same at (sym c.is_at.ensures ∙ c.if-is_at.true))
