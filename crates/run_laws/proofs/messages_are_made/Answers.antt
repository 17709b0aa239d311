use Rattle.run_laws.proofs.Complete.{messages_made}
use Rattle.run_laws.proofs.messages_are_made.Goals as goal

pub returns : goal.returns
returns c = messages_made
