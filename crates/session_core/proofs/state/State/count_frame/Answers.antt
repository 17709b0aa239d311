use Rattle.session_core.proofs.Keeping.{rooms_behind}
use Rattle.session_core.proofs.state.State.count_frame.Goals as goal

pub returns-clause-ready : goal.returns-clause-ready
returns-clause-ready c = λ limit max_calls r. record {
  client = rooms_behind limit c.args.self.now.client c.take_frame.new.self c.take_frame.ensures r.client;
  upstream = r.upstream;
  small = r.small;
  capacity = r.capacity;
  some = r.some;
  few = r.few;
  calls_within = r.calls_within;
}
