use Rattle.std.proofs.Common.{sym, arith}
use Rattle.std.proofs.lemmas.List.{length-take-le}
use Rattle.peer_addresses.proofs.Labels.{place_within}
use Rattle.peer_addresses.proofs.name.name_in.Goals as goal

pub slice_bounds-result-end : goal.slice_bounds-result-end
slice_bounds-result-end c = sym (length-take-le c.place-at.result c.args.word.now (omega (arith, place_within 58 c.args.word.now, c.place-at.ensures)))
