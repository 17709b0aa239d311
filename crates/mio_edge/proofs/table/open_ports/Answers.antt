use Rattle.std.proofs.Common.{arith, ◌+◌, ◌∷◌, [], length, ap, ◌∙◌, subst, sym}
use Rattle.std.proofs.lemmas.List.{length-append}
use Rattle.mio_edge.specs.Sessions.{PortsTell, new_links}
use Rattle.mio_edge.proofs.Sessions.{one_more_new}
use Rattle.mio_edge.proofs.table.open_ports.Goals as goal
use Rattle.std.proofs.lemmas.Grind.{common_steps}

pub loop-preserved : goal.loop-preserved
loop-preserved g c = record {
  new = subst (λ xs. PortsTell g.S.Stream.tells xs new_links) (sym c.in_ok-push.ensures.items) (one_more_new g.S.Stream.tells c.loop.ports.items c.in_ok-open.field-0 c.in_ok-open.ensures c.loop.invariant.new);
  count = ap length c.in_ok-push.ensures.items ∙ (length-append c.loop.ports.items (c.in_ok-open.field-0 ∷ []) ∙ ap (λ n. n + 1) c.loop.invariant.count);
}

pub loop-init : goal.loop-init
loop-init g c = grind (arith, common_steps)
