use Rattle.compact_laws.proofs.Staying.{refused_stays}
use Rattle.compact_laws.proofs.refused_stays_refused.Goals as goal

pub returns : goal.returns
returns c = record {
  refused = λ bytes more f are refused other. (refused_stays bytes more f are refused other).0;
  none = λ bytes more f are refused other. (refused_stays bytes more f are refused other).1;
}
