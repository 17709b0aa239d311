-- What is shown of a frame, from its parts.
use Rattle.std.proofs.Common.{◌≡◌, ℕ, List, ◌++◌, Ok, Err, refl}
use Rattle.protocol_traits.specs.declared.fault.Fault.{Fault}
use Rattle.protocol_traits.specs.Heads.{Header}
use Rattle.protocol_traits.specs.Steps.{Step, told}
use Rattle.type_walk.specs.Positions.{Position}
use Rattle.translate_verdicts.specs.Body.{Source, Going, Ended}
use Rattle.message_show.specs.declared.checking.Checked.TheVariants as checked
use Rattle.message_show.specs.Line.{line_end}
use Rattle.message_show.specs.Shown.{Place, Line, closed, after_body, after_head, shown_by, IsChecked, HasLine}

pub closed_whole : {S : Type 0} (bytes : List ℕ) (step : Step S (Unit {0})) (u : Unit {0}) → Ok u ≡ told step → IsChecked checked.Message (closed bytes step)
closed_whole bytes (Ok x) u e = tt
closed_whole bytes (Err f) u e = absurd (cc)

pub closed_fault : {S : Type 0} (bytes : List ℕ) (step : Step S (Unit {0})) (f : Fault) → Err f ≡ told step → IsChecked (checked.Refused f) (closed bytes step)
closed_fault bytes (Ok x) f e = absurd (cc)
closed_fault bytes (Err g) f e = cc

module _ {S : Type 0} (source : Source S) (start : Header → Position) (frame : List ℕ) where
  pub shown_err : (f : Fault) → source.reads_head (source.begun frame) ≡ Err f → shown_by source start frame ≡ after_head source start (Err f)
  unfolding shown_by
  shown_err f e = rw e refl

  pub shown_ok : (header : Header) (new : S) → source.reads_head (source.begun frame) ≡ Ok (header, new) → shown_by source start frame ≡ after_head source start (Ok (header, new))
  unfolding shown_by
  shown_ok header new e = rw e refl

line_of : {S : Type 0} (bytes : List ℕ) (step : Step S (Unit {0})) → HasLine (closed bytes step) → closed bytes step ≡ Line (bytes ++ line_end)
line_of bytes (Ok x) has = refl
line_of bytes (Err f) has = absurd has

-- a body that has a line was read to its end
pub read_whole : {S : Type 0} (source : Source S) (ended : Ended S Position Place) → HasLine (after_body source ended)
    → (g : Going S Position Place) × (ended ≡ Ok g) × (after_body source ended ≡ Line (g.bytes ++ line_end))
read_whole source (Ok g) has = (g, refl, line_of g.bytes (source.reads_end g.reader) has)
read_whole source (Err f) has = absurd has
