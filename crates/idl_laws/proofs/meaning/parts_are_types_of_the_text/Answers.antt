use Rattle.idl_laws.proofs.PartsMeant.{parts_are_meant}
use Rattle.idl_laws.proofs.meaning.parts_are_types_of_the_text.Goals as goal

pub returns : goal.returns
returns c = parts_are_meant
