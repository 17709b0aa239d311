use Rattle.std.proofs.Common.{rules}
use Rattle.std.proofs.lemmas.List.Sorted.{answers_always}
use Rattle.mio_edge.proofs.Searching.{search_finds, search_misses}
use Rattle.mio_edge.proofs.table.Table.search.Goals as goal

pub returns-clause-here : goal.returns-clause-here
returns-clause-here g c =
    let by_key = c.binary_search_by_key.ensures.position (λ entry. entry.number) (answers_always _ _ _ (λ f a r f' called. search rules)) in
    search_finds c.args.self.now.entries.items c.deref.result.now c.args.number c.binary_search_by_key.result c.ok.result c.deref.ensures.value c.ok.ensures.value c.binary_search_by_key.ensures.bound by_key

pub returns-clause-none : goal.returns-clause-none
returns-clause-none g c = λ rises none.
    let by_key = c.binary_search_by_key.ensures.position (λ entry. entry.number) (answers_always _ _ _ (λ f a r f' called. search rules)) in
    search_misses c.args.self.now.entries.items c.deref.result.now c.args.number c.binary_search_by_key.result c.ok.result c.deref.ensures.value c.ok.ensures.value by_key rises none
