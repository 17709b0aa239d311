use Rattle.std.proofs.Common.{◌≡◌}
use Rattle.mio_edge.specs.Closing.{WindsUp, TellsItsEnd}
use Rattle.mio_edge.specs.declared.port.Rest.TheVariants as ending
use Rattle.mio_edge.proofs.Sessions.{HaveMoved}
use Rattle.mio_edge.proofs.Each.{FirstAre}
use Rattle.mio_edge.proofs.Closing.{FirstSettled, FirstFlushed}
use Rattle.mio_edge.proofs.session.wind_up_all.Given as goal

-- the ports so far have gone on, tell their end where they hold nothing, hold nothing that their streams may take now, and nothing that a stream takes at all where none has more to do
abbrev pub invariant-loop-port : goal.invariant-loop-port
invariant-loop-port g l = record {
  sends : HaveMoved (WindsUp g.S.Stream.tells) l.port-index l.fn.ports l.ports;
  gone : l.rest ≡ ending.Gone → FirstSettled l.port-index l.ports;
  sent : FirstFlushed l.port-index l.ports;
  told : FirstAre (λ port. TellsItsEnd port) l.port-index l.ports;
}
