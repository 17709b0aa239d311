use Rattle.json_text_laws.proofs.BlobLaw.{blob_judged}
use Rattle.json_text_laws.proofs.base64_is_judged.Goals as goal

pub returns : goal.returns
returns c = blob_judged
