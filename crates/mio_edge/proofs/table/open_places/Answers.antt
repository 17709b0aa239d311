use Rattle.std.proofs.Common.{◌+◌, ◌∷◌, [], length, sym, ap, ◌∙◌, subst, arith}
use Rattle.std.specs.List.{slice_get}
use Rattle.std.proofs.lemmas.List.{length-append}
use Rattle.mio_edge.specs.Tables.{SpareTells}
use Rattle.mio_edge.proofs.Tables.{spare_pushed}
use Rattle.mio_edge.proofs.table.open_places.Goals as goal

pub loop-init : goal.loop-init
loop-init g c = record {
  spare = λ n. subst (λ xs. SpareTells g.S.Stream.tells (slice_get xs n)) (sym c.in_ok-spare.ensures.items) tt;
  count = ap length c.in_ok-spare.ensures.items;
}

pub loop-preserved : goal.loop-preserved
loop-preserved g c = record {
  spare = λ n. spare_pushed g.S.Stream.tells c.loop.spare.items _ c.in_ok-open_ports.field-0 c.in_ok-push.ensures.items c.in_ok-open_ports.ensures.new n c.loop.invariant.spare;
  count = ap length c.in_ok-push.ensures.items ∙ (length-append c.loop.spare.items (c.in_ok-open_ports.field-0 ∷ []) ∙ ap (λ n. n + 1) c.loop.invariant.count);
}

pub returns : goal.returns
returns g c = record { spare = c.loop.invariant.spare; count = omega (arith, c.loop.invariant.count) }
