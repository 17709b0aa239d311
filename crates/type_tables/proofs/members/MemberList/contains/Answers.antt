use Rattle.std.proofs.Common.{◌↔◌, IsTrue, Contains, List, ℤ, length, subst, w32}
use Rattle.std.proofs.lemmas.Int.{to_z-of_z}
use Rattle.std.specs.List.Sorted.{IsBinarySearchResult, IsSearchInRange}
use Rattle.std.specs.Ordering.{int_cmp}
use Rattle.type_tables.proofs.Searching.{found}
use Rattle.type_tables.proofs.members.MemberList.contains.Goals as goal

pub returns : goal.returns
returns c =
    let z = c.args.value in
    let r = c.binary_search.result in
    let bound = subst (λ (xs : List ℤ). IsSearchInRange r (length xs)) c.deref.ensures.value c.binary_search.ensures.bound in
    let given = rw (to_z-of_z w32 z c.ranges.value) at c.binary_search.ensures.position in
    let place = subst (λ (xs : List ℤ). IsBinarySearchResult (λ y. int_cmp y z) xs r) c.deref.ensures.value given in
    subst (λ (xs : List ℤ). IsTrue c.is_ok.result ↔ Contains xs z) c.self.view_is
    (found c.self.inside.list.items c.self.inside.sorted.items z r c.is_ok.result c.self.invariant bound place c.is_ok.ensures.value)
