use Rattle.std.specs.Prelude.{◌++◌}
use Rattle.json_text_laws.proofs.Refused.{text_refuses, none_good}
use Rattle.json_text_laws.proofs.refused_strings_stay_refused.Goals as goal

pub returns : goal.returns
returns c bytes more place e = let stays = text_refuses bytes more place e in (stays, none_good (bytes ++ more) place stays)
