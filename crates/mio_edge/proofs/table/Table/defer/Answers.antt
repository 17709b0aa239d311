use Rattle.std.proofs.Common.{sym, refl}
use Rattle.slab.specs.Slab.{with_value}
use Rattle.mio_edge.specs.Sessions.{new_links}
use Rattle.mio_edge.proofs.Standing.{still_kept}
use Rattle.mio_edge.proofs.Tables.{attached, still_idle}
use Rattle.mio_edge.proofs.Closing.{others_put}
use Rattle.mio_edge.specs.Connecting.{WaitsForWrite}
use Rattle.mio_edge.proofs.Places.{each_at}
use Rattle.mio_edge.proofs.Numbered.{below_put}
use Rattle.mio_edge.proofs.table.Table.defer.Goals as goal

pub returns-in-Some : goal.returns-in-Some
returns-in-Some g c =
    let t = g.S.Stream.tells in
    let sessions = c.args.self.now.sessions in record {
      prepared = λ k ready. attached t c.args.self.now (record c.args.self.now { sessions = with_value sessions c.args.place c.defer.new.self }) c.args.place k c.in-Some.session.now c.defer.new.self (sym c.in-Some.ensures.value) refl refl c.defer.ensures.still (c.defer.ensures.keeps new_links) ready;
      idle = still_idle t sessions c.args.place c.in-Some.session.now c.defer.new.self (sym c.in-Some.ensures.value) c.defer.ensures.still;
      keeps = still_kept t c.args.self.now c.args.place c.in-Some.session.now c.defer.new.self (sym c.in-Some.ensures.value) c.defer.ensures.still c.defer.ensures.keeps;
      turns = record { ready = refl; behind = refl; entries = refl };
      same = refl;
      below = below_put sessions c.args.place c.in-Some.session.now c.defer.new.self (sym c.in-Some.ensures.value) c.defer.ensures.still.number;
      deferred = each_at (λ port. WaitsForWrite port) sessions c.args.place c.in-Some.session.now c.defer.new.self (sym c.in-Some.ensures.value) c.defer.ensures.deferred;
      others = others_put sessions c.args.place c.in-Some.session.now c.defer.new.self (sym c.in-Some.ensures.value);
    }
