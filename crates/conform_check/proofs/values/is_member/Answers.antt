use Rattle.std.proofs.Common.{◌≡◌, ℤ, List, Bool, true, false, sym, refl}
use Rattle.std.specs.Prelude.{◌↔◌, Contains, IsTrue}
use Rattle.std.specs.List.{list_any}
use Rattle.std.specs.Int.{w32}
use Rattle.std.proofs.lemmas.Int.{to_z-of_z}
use Rattle.std.specs.Ordering.{int_eq}
use Rattle.type_tables.specs.Structs.{members_of}
use Rattle.conform_check.proofs.Ids.{stands_is, is_standing}
use Rattle.conform_check.proofs.values.is_member.Goals as goal

told : (answer : Bool) (n : ℤ) (ns : List ℤ) → (IsTrue answer ↔ Contains ns n) → answer ≡ list_any (λ m. int_eq m n) ns
told true n ns is = sym (is_standing n ns (is.0 refl))
told false n ns is = by (list_any (λ m. int_eq m n) ns) refl
  where
    by : (b : Bool) → list_any (λ m. int_eq m n) ns ≡ b → false ≡ list_any (λ m. int_eq m n) ns
    by true e = absurd (cc (is.1 (stands_is n ns e)))
    by false e = sym e

pub returns : goal.returns
returns c = told c.member.result c.args.number (members_of c.args.schema.now.enums c.args.e.0) (rw (to_z-of_z w32 c.args.number c.ranges.number) at c.member.ensures)
