use Rattle.std.proofs.Common.{◌≡◌, length, drop, arith, ap, ◌∙◌}
use Rattle.std.proofs.lemmas.List.{length-drop}
use Rattle.circular_buffer.specs.Buffer.{Buffer as Ring}
use Rattle.session_core.specs.declared.judge.Call.{Call}
use Rattle.session_core.proofs.Keeping.{rooms_behind}
use Rattle.session_core.proofs.state.State.close_call.Goals as goal

pub returns-clause-ready : goal.returns-clause-ready
returns-clause-ready c = λ limit max_calls r.
    let calls : c.pop_front.new.self.items ≡ drop 1 c.args.self.now.calls.items = ap (λ (b : Ring Call). b.items) c.pop_front.ensures.items in
    record {
      client = r.client;
      upstream = rooms_behind limit c.args.self.now.upstream c.take_frame.new.self c.take_frame.ensures r.upstream;
      small = r.small;
      capacity = ap (λ (b : Ring Call). b.capacity) c.pop_front.ensures.items ∙ r.capacity;
      some = r.some;
      few = r.few;
      calls_within = omega (arith, ap length calls, length-drop 1 c.args.self.now.calls.items, r.calls_within);
    }
