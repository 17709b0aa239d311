use Rattle.std.proofs.lemmas.List.Elements.{All-head, All-tail}
use Rattle.line_transport.specs.Cuts.{IsMessage}
use Rattle.line_transport.proofs.Spanning.{cut_back, last_cut_back}
use Rattle.line_transport.proofs.laws.lines_are_cut_back.Goals as goal

pub returns-clause-whole : goal.returns-clause-whole
returns-clause-whole c = cut_back

pub returns-clause-last : goal.returns-clause-last
returns-clause-last c = λ limit lines last all. last_cut_back limit lines last (All-tail (IsMessage limit) last lines all) (All-head (IsMessage limit) last lines all)
