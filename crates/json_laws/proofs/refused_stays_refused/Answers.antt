use Rattle.std.proofs.Common.{◌++◌}
use Rattle.type_walk.specs.Positions.{start}
use Rattle.json_laws.proofs.Either.{refused_spells_none}
use Rattle.json_laws.proofs.Staying.{refused_stays, front_is_cut}
use Rattle.json_laws.proofs.Cut.{cut_at_end}
use Rattle.json_laws.proofs.refused_stays_refused.Goals as goal

pub returns : goal.returns
returns c = record {
  stays = λ k bytes more f bad. refused_stays more (start k.declared k.body) bytes f bad.0 bad.1;
  none = λ k bytes more f bad m shallow spelled. (let r = refused_stays more (start k.declared k.body) bytes f bad.0 bad.1 in refused_spells_none k.declared k.body m (bytes ++ more) r.0 r.1 spelled shallow);
  front = front_is_cut;
  cut = λ k bytes f. cut_at_end (start k.declared k.body) bytes f;
}
