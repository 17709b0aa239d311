use Rattle.std.proofs.Common.{rules, refl, ◌++◌, take, drop, ap, subst}
use Rattle.gate_memory.specs.Link.{LinkState}
use Rattle.gate_hub.specs.Hubs.{LinkReads}
use Rattle.gate_memory.proofs.Moved.{moved_on}
use Rattle.gate_memory.proofs.Links.{read_told}
use Rattle.gate_memory.proofs.link.MemLink.read.Goals as goal

pub returns-clause-told : goal.returns-clause-told
returns-clause-told c =
    let bytes = c.self.inside.arrived.items in
    let place = c.self.inside.place in
    let n = c.min-count.result in
    subst (λ (s : LinkState). LinkReads (c.copy_from_slice.new.self ++ drop c.min-count.result c.args.into.now) c.got-2.result s.told c.got-2.new.self.told) c.self.view_is
    (read_told _ bytes place n _ (record { received = take place bytes; sent = c.self.inside.sent.items; ended = c.self.inside.ended; last_read = c.self.inside.last_read; last_write = c.self.inside.last_write }) _ c.got-2.ensures.result (ap (λ s. s.told) c.got-2.ensures.kept) c.if-self.false refl
    (moved_on bytes c.copy_from_slice.new.self _ place n (search rules) (search rules)))
