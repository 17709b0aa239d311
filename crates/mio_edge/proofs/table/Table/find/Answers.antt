use Rattle.mio_edge.proofs.Searching.{found_entry}
use Rattle.mio_edge.proofs.table.Table.find.Goals as goal

pub returns-2 : goal.returns-2
returns-2 g c = λ world told. found_entry c.args.self.now.entries.items c.deref.result.now c.args.number c.in_ok-at.at c.in_ok-entry.entry.now told.0.rising c.in_ok-at.ensures.here c.deref.ensures.value c.in_ok-entry.ensures.lookup.1
