use Rattle.std.proofs.Common.{◌≡◌, ◌↔◌, ◌∙◌, IsTrue, Contains, List, ℤ, get_or, rules, subst, sym, w32}
use Rattle.std.proofs.lemmas.Int.{to_z-of_z}
use Rattle.type_tables.proofs.Looked.{members_at}
use Rattle.type_tables.proofs.schema.Schema.member.Goals as goal

pub returns : goal.returns
returns c =
    let enums = c.args.self.now.enums in
    let e = c.args.e.0 in
    let one = c.index.result.now in
    let here : one ≡ get_or enums e one = search rules in
    let given = rw (to_z-of_z w32 c.args.value c.ranges.value) at c.contains.ensures in
    subst (λ (members : List ℤ). IsTrue c.contains.result ↔ Contains members c.args.value) (here ∙ sym (members_at enums e one c.requires)) given
