use Rattle.check_laws.proofs.Texts.{walk_is_held}
use Rattle.check_laws.proofs.files_are_their_texts.Goals as goal

pub returns : goal.returns
returns c = walk_is_held
