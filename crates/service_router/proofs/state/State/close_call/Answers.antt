use Rattle.std.proofs.Common.{◌≡◌, suc, ◌∙◌, ap}
use Rattle.std.specs.Vec.{with_item}
use Rattle.circular_buffer.specs.Buffer.{Buffer as Ring}
use Rattle.service_router.specs.declared.call.OpenCall.{OpenCall}
use Rattle.service_router.specs.declared.state.State.{State}
use Rattle.service_router.specs.Standing.{Inbox, silent}
use Rattle.service_router.specs.Inboxes.{without_frame}
use Rattle.service_router.specs.Working.{inbox_in}
use Rattle.service_router.proofs.Ports.{read_at}
use Rattle.service_router.proofs.state.State.close_call.Goals as goal

pub returns : goal.returns
returns c =
    let s = c.args.self.now in
    let u = c.args.target in
    let there : c.take_frame.new.self ≡ without_frame (inbox_in (suc u) s) = c.take_frame.ensures ∙ ap without_frame (read_at s.ports.items u c.index_mut.result.now (silent 0) c.requires.known c.index_mut.ensures.value) in
    record {
      closed = ap (λ (b : Inbox). let t : State = record s { ports = with_item s.ports u b; calls = c.pop_front.new.self } in t) there
          ∙ ap (λ (r : Ring OpenCall). let t : State = record s { ports = with_item s.ports u (without_frame (inbox_in (suc u) s)); calls = r } in t) c.pop_front.ensures.items;
    }
