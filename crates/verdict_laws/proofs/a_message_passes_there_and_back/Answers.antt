use Rattle.verdict_laws.proofs.Round.{always_round, always_held, held_round}
use Rattle.verdict_laws.proofs.a_message_passes_there_and_back.Goals as goal

pub returns : goal.returns
returns c = record {
  always = λ d route from to s source target. always_round d route from to s.message s.frame s.spelled s.shallow source target;
  holds = λ d route from to s source target. always_held d route from to s.message s.frame s.spelled source target;
  held = λ d route from to s is holds. held_round d route from to s.message s.frame s.spelled s.shallow is.0 is.1 holds;
}
