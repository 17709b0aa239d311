use Rattle.std.proofs.Common.{rules, refl, sym, ◌+◌, ◌++◌, take, drop, length, ap}
use Rattle.edge_memory.specs.Streams.{StreamState}
use Rattle.edge_memory.specs.contracts.stream.MemStream.{the_view}
use Rattle.edge_memory.proofs.Moved.{moved_on}
use Rattle.edge_memory.proofs.Reading.{read_on}
use Rattle.edge_memory.proofs.stream.MemStreamStream.receive.Goals as goal

pub returns-clause-moves : goal.returns-clause-moves
returns-clause-moves c =
    let bytes = c.self.inside.arrived.items in
    let place = c.self.inside.place in
    let n = c.min-count.result in
    let a = c.args.self.now in
    read_on a (the_view (record c.self.inside { place = place + n })) bytes (c.copy_from_slice.new.self ++ drop n c.args.into.now) place n (length c.args.into.now)
    (sym (ap (λ (s : StreamState). s.wire.received) c.self.view_is)) (sym (ap (λ (s : StreamState). s.ahead) c.self.view_is))
    (ap (λ (s : StreamState). record (s.wire) { received = take (place + n) bytes }) c.self.view_is) refl
    (moved_on bytes c.copy_from_slice.new.self _ place n (search rules) (search rules))
