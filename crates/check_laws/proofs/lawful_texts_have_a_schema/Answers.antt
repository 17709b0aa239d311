use Rattle.check_laws.proofs.Schemas.{have_tables}
use Rattle.check_laws.proofs.lawful_texts_have_a_schema.Goals as goal

pub returns : goal.returns
returns c = have_tables
