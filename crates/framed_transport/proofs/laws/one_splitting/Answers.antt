use Rattle.framed_transport.proofs.Splitting.{one_splitting}
use Rattle.framed_transport.proofs.laws.one_splitting.Goals as goal

pub returns : goal.returns
returns c = λ limit bytes small a b. one_splitting limit bytes a.frames b.frames a.rest b.rest small a.splits b.splits
