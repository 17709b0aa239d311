-- What was written once a line is at its end.
use Rattle.std.proofs.Common.{◌≡◌, ℕ, List, [], ◌++◌, length, take, Bool, true, false, Option, Some, Ok, arith, refl, sym, ◌∙◌, ap, subst, length-append}
use Rattle.std.specs.Prelude.{not}
use Rattle.std.proofs.lemmas.List.{append-nil}
use Rattle.std.proofs.Math.Seq.{take-append_seam}
use Rattle.std.specs.Io.KnownBytes.{Appends}
use Rattle.protocol_traits.specs.Heads.{Header}
use Rattle.type_walk.specs.Positions.{Position}
use Rattle.translate_verdicts.specs.Body.{Source, Going}
use Rattle.gate_io.specs.Fronts.{AppendsFront}
use Rattle.message_show.specs.Line.{head_text, line_end}
use Rattle.message_show.specs.Pieces.{Waiting, Output, Told, output}
use Rattle.message_show.specs.declared.checking.Checked.TheVariants as checked
use Rattle.message_show.specs.declared.showing.Shown.{Shown}
use Rattle.message_show.specs.declared.showing.Shown.TheVariants as shown_as
use Rattle.message_show.specs.Shown.{Place, Showing, Line, Refused, Unread, body_from, shown_by, IsChecked, IsLine, IsShown, IsLeft, HasLine}
use Rattle.gate_io.proofs.Streams.{appends_none}
use Rattle.message_show.proofs.Frames.{shown_ok, read_whole}

pub is_whole : (broken : Bool) → true ≡ not broken → broken ≡ false
is_whole true e = absurd (cc)
is_whole false e = refl

pub is_broken : (broken : Bool) → false ≡ not broken → broken ≡ true
is_broken true e = refl
is_broken false e = absurd (cc)

-- nothing waits any more
pub all_written : (from now : Output) (line : Waiting) (text : List ℕ) → line.broken ≡ false → line.bytes ≡ [] → Told from now line text → Appends from.written now.written text
all_written from now line text free none h =
    let all : h.sent ≡ text = sym (h.whole ∙ (ap (λ (xs : List ℕ). h.sent ++ xs) (h.waits free ∙ none) ∙ append-nil h.sent)) in
    subst (Appends from.written now.written) all h.written

pub front_written : (from now : Output) (line : Waiting) (text : List ℕ) → Told from now line text → AppendsFront from.written now.written text
front_written from now line text h =
    let front : h.sent ≡ take (length h.sent) text = sym (ap (take (length h.sent)) h.whole ∙ take-append_seam h.sent h.rest) in
    (length h.sent, omega (arith, ap length h.whole, length-append h.sent h.rest), subst (Appends from.written now.written) front h.written)

-- a frame that has a line, whose body was told
pub line_told : {S : Type 0} (source : Source S) (start : Header → Position) (frame : List ℕ) (header : Header) (new : S) (from now : Output) (line : Waiting)
    → source.reads_head (source.begun frame) ≡ Ok (header, new) → HasLine (shown_by source start frame)
    → ((end : Going S Position Place) → body_from source new (start header) (head_text header) ≡ Ok end → Told from now line (end.bytes ++ line_end))
    → (text : List ℕ) × (shown_by source start frame ≡ Line text) × Told from now line text
line_told source start frame header new from now line e has body =
    let is = shown_ok source start frame header new e in
    let read = read_whole source (body_from source new (start header) (head_text header)) (rw is at has) in
    (read.0.bytes ++ line_end, is ∙ read.2, body read.0 read.1)

-- what was told where nothing is written waits whole
pub unsent : (f n : ℕ) (line : Waiting) (text : List ℕ) → line.broken ≡ false → Told (output (Some []) f) (output (Some []) n) line text → (now : Output) → Told now now line text
unsent f n line text free h now =
    let none : h.sent ≡ [] = sym h.written in
    record {
      sent = [];
      rest = text;
      whole = refl;
      written = appends_none now.written;
      waits = λ free. h.whole ∙ (ap (λ (xs : List ℕ). xs ++ h.rest) none ∙ h.waits free);
      later = omega arith;
      cause = λ broken. absurd (cc);
    }

-- a frame that is a message has a line
pub has_text : (showing : Showing) → IsChecked checked.Message showing → (text : List ℕ) × IsLine showing text
has_text (Line text) is = (text, refl)
has_text (Refused f) is = absurd is
has_text (Unread f) is = absurd is

pub has_line : (showing : Showing) → IsChecked checked.Message showing → HasLine showing
has_line (Line text) is = tt
has_line (Refused f) is = absurd is
has_line (Unread f) is = absurd is

pub has_text_of : (showing : Showing) → HasLine showing → (text : List ℕ) × IsLine showing text
has_text_of (Line text) is = (text, refl)
has_text_of (Refused f) is = absurd is
has_text_of (Unread f) is = absurd is

pub line_of_text : (a b : List ℕ) → Line a ≡ Line b → a ≡ b
line_of_text a b e = cc e

-- what is written of a line leaves nothing to say of the output
pub left_written : {O : Type 0} (answer : Shown) (old new : Option (List ℕ)) (showing : Showing) → HasLine showing → IsShown answer old new showing → (a b : O) → IsLeft answer a b
left_written shown_as.Passed old new showing has is a b = tt
left_written shown_as.WriteFault old new showing has is a b = tt
left_written (shown_as.Refused f) old new (Line text) has is a b = absurd is
left_written (shown_as.Refused f) old new (Refused g) has is a b = absurd has
left_written (shown_as.Refused f) old new (Unread g) has is a b = absurd has
left_written (shown_as.Unread f) old new (Line text) has is a b = absurd is
left_written (shown_as.Unread f) old new (Refused g) has is a b = absurd has
left_written (shown_as.Unread f) old new (Unread g) has is a b = absurd has
