use Rattle.compact_laws.proofs.Inner.{none_with_part, refused_there, inside_none}
use Rattle.compact_laws.proofs.a_part_at_fault_begins_no_message.Goals as goal

pub returns : goal.returns
returns c = record {
  behind = λ bytes place part p bad. none_with_part bytes p.are place part p.within p.shallow p.called bad.0 bad.1;
  refused = λ bytes place part p none. refused_there bytes p.are place part p.within p.shallow p.called none;
  inside = λ bytes place later part p i. inside_none bytes p.are place later p.shallow i.after i.within part p.called i.before_end;
}
