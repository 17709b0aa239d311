use Rattle.type_walk.specs.Positions.{start}
use Rattle.json_laws.proofs.Either.{read_or_refused, never_both, one_fault as fault_is_one, one_reading as reading_is_one, refused_spells_none}
use Rattle.json_laws.proofs.each_frame_is_read_or_refused.Goals as goal

pub returns : goal.returns
returns c = record {
  outcome = λ k bytes. read_or_refused (start k.declared k.body) bytes;
  apart = λ k bytes f r refused. never_both (start k.declared k.body) bytes r.0 r.1 f r.2 refused;
  one_fault = λ k bytes f g r q. fault_is_one (start k.declared k.body) bytes f g r q;
  one_reading = λ k bytes h i xs ys r q. reading_is_one (start k.declared k.body) bytes h i xs ys r q;
  none = λ k bytes f r m shallow spelled. refused_spells_none k.declared k.body m bytes f r spelled shallow;
}
