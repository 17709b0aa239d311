use Rattle.std.proofs.Common.{arith, ap}
use Rattle.session_judge.specs.Setting.{Setting}
use Rattle.gate_serve.proofs.serve.serve_started.Goals as goal

pub new-judges-requires-clause-limit : goal.new-judges-requires-clause-limit
new-judges-requires-clause-limit g c = omega (arith, c.requires.limit)

pub new-judges-requires-clause-service : goal.new-judges-requires-clause-service
new-judges-requires-clause-service g c = c.requires.service

pub serve-requires : goal.serve-requires
serve-requires g c =
    let longest = ap (λ (setting : Setting). setting.longest) c.new-judges.ensures in
    record {
      good = record {
        small = omega (arith, c.requires.limit);
        some = omega (arith, c.requires.some);
        few = omega (arith, c.requires.few);
        serves = omega (arith, longest);
      };
    }
