use Rattle.json_laws.proofs.FirstBad.{first_is_one}
use Rattle.json_laws.proofs.Told.{stays_same, first_tells}
use Rattle.json_laws.proofs.the_first_byte_tells.Goals as goal

pub returns : goal.returns
returns c = record { tells = first_tells; one = first_is_one; stays = λ k bytes f short bad deep more. stays_same k bytes more f short bad deep }
