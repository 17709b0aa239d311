use Rattle.unframed_laws.proofs.CompactFronts as fronts
use Rattle.unframed_laws.proofs.a_compact_front_is_found_by_the_grammar.Goals as goal

pub returns : goal.returns
returns c = record { whole = fronts.whole_spells; is_whole = fronts.is_whole; cut = fronts.cut_stands; is_cut = fronts.is_cut; bad = fronts.bad_stands; is_bad = λ front are fault. fronts.is_bad front fault.0 are fault.1 fault.2 fault.3 }
