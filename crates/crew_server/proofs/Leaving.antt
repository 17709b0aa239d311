-- What a worker did stays so while it tells the others that it has ended.
use Rattle.std.proofs.Common.{◌≡◌, ◌≤◌, false, sym, subst}
use Rattle.std.specs.Prelude.{is_some}
use Rattle.gate_fan.specs.Fans.{Later}
use Rattle.gate_fan.specs.declared.fan.Fan.{Ghosts as Fan}
use Rattle.gate_hub.specs.declared.hub.Hub.{Ghosts as Hub}
use Rattle.gate_io.specs.declared.byte_streams.Sink.{Ghosts as Sink}
use Rattle.gate_words.specs.Peers.{is_http}
use Rattle.gate_words.specs.declared.routing.Routing.{Routing}
use Rattle.gate_words.specs.declared.serving.Serving.{Serving}
use Rattle.gate_serve.specs.Serving.{WaitsLater, LinkFaultsLater}
use Rattle.gate_start.specs.declared.start.Start.{Start}
use Rattle.crew_exit.specs.declared.Exit.{Ghosts as Exit}
use Rattle.crew_server.specs.Workers.{Leaves}
use Rattle.crew_server.specs.Serving.{ServesPart, Works}
use Rattle.crew_server.specs.Routing.{RoutesPart, Routes}
use Rattle.crew_server.specs.declared.worker.Worker.{Worker}

pub works : {H O X : Type 0} (outputs : Sink O) (hubs : Hub H) (exits : Exit X) (s : Serving) (start : Start) (w mid w' : Worker H O X)
    → w' ≡ record mid { exit = w'.exit } → ServesPart outputs hubs s start w mid → Leaves exits w' → outputs.faults w.output ≤ outputs.faults mid.output
    → (hubs.counts w.hub).faults ≤ (hubs.counts mid.hub).faults → (is_http s.front ≡ false → WaitsLater hubs w.hub mid.hub)
    → (is_http s.front ≡ false → is_some s.unframed ≡ false → LinkFaultsLater hubs w.hub mid.hub) → Works outputs hubs exits s start w w'
works {H} {O} {X} outputs hubs exits s start w mid w' same serves leaves written failed waited linked = record {
  serves = subst (λ (v : Worker H O X). ServesPart outputs hubs s start w v) (sym same) serves;
  leaves = leaves;
  output_later = subst (λ (v : Worker H O X). outputs.faults w.output ≤ outputs.faults v.output) (sym same) written;
  hub_faults = subst (λ (v : Worker H O X). (hubs.counts w.hub).faults ≤ (hubs.counts v.hub).faults) (sym same) failed;
  hub_waits = subst (λ (v : Worker H O X). is_http s.front ≡ false → WaitsLater hubs w.hub v.hub) (sym same) waited;
  hub_links = subst (λ (v : Worker H O X). is_http s.front ≡ false → is_some s.unframed ≡ false → LinkFaultsLater hubs w.hub v.hub) (sym same) linked;
}

pub routes : {G O X : Type 0} (outputs : Sink O) (fans : Fan G) (exits : Exit X) (r : Routing) (start : Start) (w mid w' : Worker G O X)
    → w' ≡ record mid { exit = w'.exit } → RoutesPart outputs fans r start w mid → Leaves exits w' → outputs.faults w.output ≤ outputs.faults mid.output
    → Later (fans.counts w.hub) (fans.counts mid.hub) → Routes outputs fans exits r start w w'
routes {G} {O} {X} outputs fans exits r start w mid w' same routed leaves written counted = record {
  routes = subst (λ (v : Worker G O X). RoutesPart outputs fans r start w v) (sym same) routed;
  leaves = leaves;
  output_later = subst (λ (v : Worker G O X). outputs.faults w.output ≤ outputs.faults v.output) (sym same) written;
  fan_later = subst (λ (v : Worker G O X). Later (fans.counts w.hub) (fans.counts v.hub)) (sym same) counted;
}
