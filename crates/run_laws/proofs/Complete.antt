-- What a command does where nothing fails.
use Rattle.std.proofs.Common.{◌≡◌, ℕ, ◌^◌, ◌<◌, ◌⊎◌, inl, inr, List, [], ◌∷◌, ◌++◌, length, true, false, Option, None, Some, arith, refl, sym, ◌∙◌, ap, subst, length-append}
use Rattle.std.specs.Io.KnownBytes.{Consumes, IsAtEnd}
use Rattle.std.proofs.lemmas.List.{append-nil}
use Rattle.gate_base.specs.Causes.{Rose}
use Rattle.line_transport.specs.Cuts.{Cuts, CutsAll, at_end}
use Rattle.line_transport.specs.Front.{front}
use Rattle.line_transport.specs.declared.transport.Transport.{Transport}
use Rattle.line_transport.specs.declared.transport.Transport.TheVariants.{Frames}
use Rattle.line_transport.proofs.Spanning.{one_cutting, at_end_on, cuts_longer, nothing_exceeds}
use Rattle.gate_words.specs.declared.command.Drilling.{Drilling}
use Rattle.gate_start.specs.Starting.{SaysLast}
use Rattle.gate_start.specs.Writing.{Tells}
use Rattle.gate_start.specs.Streams.{Streams}
use Rattle.gate_start.specs.declared.status.Ending.{Ending}
use Rattle.gate_start.specs.declared.status.Ending.TheVariants as endings
use Rattle.gate_start.specs.declared.status.Ending.TheVariants.{Done, OutOfMemory}
use Rattle.gate_streams.specs.Terms.{Terms}
use Rattle.gate_streams.specs.Drilling.{Drills, Whole, Unwritten, Unreported, NoMemory}
use Rattle.gate_streams.specs.Handling.{any_refused}
use Rattle.gate_streams.specs.Progress.{IsStreamLine}
use Rattle.gate_streams.specs.Outcome.{CoversAll, EndsWithinAFrame, StopsWith, HasFailed, WriteFailed, Streamed}
use Rattle.gate_streams.specs.declared.stream.Broken.{Broken}
use Rattle.gate_streams.specs.declared.stream.Broken.TheVariants as streams
use Rattle.gate_streams.specs.declared.stream.TheConstants.{MOST_BYTES}

-- what was read is the whole input where its end was met
all_read : (a b : Option (List ℕ)) (bytes read : List ℕ) → a ≡ Some bytes → Consumes a b read → IsAtEnd b → read ≡ bytes
all_read None b bytes read e p q = absurd (cc)
all_read (Some x) None bytes read e p q = absurd p
all_read (Some x) (Some y) bytes read e p q =
    let same : x ≡ bytes = cc in
    sym (append-nil read) ∙ (ap (λ t. read ++ t) (sym q) ∙ (sym p ∙ same))

-- what was read is a front of the input
front_read : (a b : Option (List ℕ)) (bytes read : List ℕ) → a ≡ Some bytes → Consumes a b read → (left : List ℕ) × (bytes ≡ read ++ left)
front_read None b bytes read e p = absurd (cc)
front_read (Some x) None bytes read e p = absurd p
front_read (Some x) (Some y) bytes read e p = (let same : x ≡ bytes = cc in (y, sym same ∙ p))

none_refused : (k : Terms) (a b : Streams) (bytes : List ℕ) (frames : List (List ℕ)) → k.limit < 2 ^ 31 → a.left ≡ Some bytes → CutsAll k.input k.limit bytes frames → any_refused k frames ≡ false → CoversAll k a b true → ⊥
none_refused k a b bytes frames small told cuts passed c =
    let same : c.0 ≡ bytes = all_read a.left b.left bytes c.0 told c.2.consumed c.5 in
    let one = one_cutting k.input k.limit (at_end k.input bytes) c.1 frames [] [] small (subst (λ (xs : List ℕ). CutsAll k.input k.limit xs c.1) same c.3) cuts in
    let wrong : true ≡ false = sym c.4 ∙ (ap (any_refused k) one.0 ∙ passed) in
    cc

no_line : (t : Transport) (limit frames : ℕ) (rest line : List ℕ) → rest ≡ [] → IsStreamLine t limit frames rest line → ⊥
unfolding IsStreamLine
no_line t limit frames rest line none (inl over) = nothing_exceeds t limit rest over.0 none over.1
no_line t limit frames rest line none (inr part) = part.2 none

-- frames that end with their last one
frames_end : (t : Transport) (limit : ℕ) (bytes rest : List ℕ) (xs ys : List (List ℕ)) → t ≡ Frames → limit < 2 ^ 31 → Cuts t limit bytes xs rest → CutsAll t limit bytes ys → rest ≡ []
frames_end t limit bytes rest xs ys e small c all =
    let framed : Cuts t limit bytes ys [] = subst (λ (u : Transport). Cuts t limit (at_end u bytes) ys []) e all in
    (one_cutting t limit bytes xs ys rest [] small c framed).1

nothing_left : (rest left : List ℕ) → rest ++ left ≡ [] → rest ≡ []
nothing_left [] left e = refl
nothing_left (x ∷ rest) left e = absurd (cc)

ends_at_a_frame : (k : Terms) (a b : Streams) (bytes : List ℕ) (frames : List (List ℕ)) → k.limit < 2 ^ 31 → a.left ≡ Some bytes → CutsAll k.input k.limit bytes frames → EndsWithinAFrame k a b → ⊥
ends_at_a_frame k a b bytes frames small told cuts (read, others, rest, line, c, is_cut, is, inr ends) =
    let same : read ≡ bytes = all_read a.left b.left bytes read told c.consumed ends.1 in
    no_line k.input k.limit (length others) rest line (frames_end k.input k.limit bytes rest others frames ends.0 small (subst (λ (xs : List ℕ). Cuts k.input k.limit xs others rest) same is_cut) cuts) is
ends_at_a_frame k a b bytes frames small told cuts (read, others, rest, line, c, is_cut, is, inl over) =
    let more = front_read a.left b.left bytes read told c.consumed in
    let whole : read ++ at_end k.input more.0 ≡ at_end k.input bytes = sym (at_end_on k.input read more.0) ∙ ap (at_end k.input) (sym more.1) in
    let longer : Cuts k.input k.limit (at_end k.input bytes) others (rest ++ at_end k.input more.0) =
    subst (λ (xs : List ℕ). Cuts k.input k.limit xs others (rest ++ at_end k.input more.0)) whole (cuts_longer k.input k.limit read rest (at_end k.input more.0) others over.0 is_cut over.1) in
    let one = one_cutting k.input k.limit (at_end k.input bytes) others frames (rest ++ at_end k.input more.0) [] small longer cuts in
    nothing_exceeds k.input k.limit rest over.0 (nothing_left rest (at_end k.input more.0) one.1) over.1

too_few : (k : Terms) (a b : Streams) (text bytes : List ℕ) → a.left ≡ Some bytes → length bytes < MOST_BYTES → StopsWith k a b text (λ n. n ≡ MOST_BYTES) → ⊥
too_few k a b text bytes told few s =
    let more = front_read a.left b.left bytes s.0 told s.4.consumed in
    omega (arith, s.7, few, ap length more.1, length-append s.0 more.0)

no_write : (broken : Broken) (a b : Streams) → HasFailed broken a b → (WriteFailed a b → ⊥) → ⊥
no_write streams.Output a b h whole = whole (inl h)
no_write streams.Report a b h whole = whole (inr h)

pub good_stream : (k : Terms) (a b : Streams) (ending : Ending) (bytes : List ℕ) (frames : List (List ℕ)) → k.limit < 2 ^ 31 → Streamed k a b ending → a.left ≡ Some bytes → length bytes < MOST_BYTES → CutsAll k.input k.limit bytes frames → any_refused k frames ≡ false → (Rose a.input_faults b.input_faults → ⊥) → (WriteFailed a b → ⊥) → (ending ≡ Done) ⊎ (ending ≡ OutOfMemory)
good_stream k a b endings.Done bytes frames small c told few cuts passed no_read_fault no_write_fault = inl refl
good_stream k a b endings.Refused bytes frames small c told few cuts passed no_read_fault no_write_fault = absurd (none_refused k a b bytes frames small told cuts passed c)
good_stream k a b endings.StreamFault bytes frames small c told few cuts passed no_read_fault no_write_fault = absurd (ends_at_a_frame k a b bytes frames small told cuts c)
good_stream k a b endings.ReadFault bytes frames small c told few cuts passed no_read_fault no_write_fault = absurd (no_read_fault c.0)
good_stream k a b endings.WriteFault bytes frames small c told few cuts passed no_read_fault no_write_fault = absurd (no_write c.0 a b c.1 no_write_fault)
good_stream k a b endings.BudgetSpent bytes frames small c told few cuts passed no_read_fault no_write_fault = absurd (too_few k a b _ bytes told few c)
good_stream k a b endings.OutOfMemory bytes frames small c told few cuts passed no_read_fault no_write_fault = inr refl
good_stream k a b endings.Usage bytes frames small c told few cuts passed no_read_fault no_write_fault = absurd c
good_stream k a b endings.FileFault bytes frames small c told few cuts passed no_read_fault no_write_fault = absurd c
good_stream k a b endings.HubFault bytes frames small c told few cuts passed no_read_fault no_write_fault = absurd c

-- ---- one text, and messages

done_or_failed : (ending : Ending) (before now : ℕ) (Made : Type 0) → ((ending ≡ endings.Done) × Made) ⊎ ((ending ≡ endings.WriteFault) × Rose before now) → (Rose before now → ⊥) → (ending ≡ endings.Done) ⊎ (ending ≡ OutOfMemory)
done_or_failed ending before now Made (inl done) no_fault = inl done.0
done_or_failed ending before now Made (inr failed) no_fault = absurd (no_fault failed.1)

pub text_written : (text : List ℕ) (a b : Streams) (ending : Ending) → Tells text a b ending ⊎ SaysLast OutOfMemory a b ending → (Rose a.output_faults b.output_faults → ⊥) → (ending ≡ Done) ⊎ (ending ≡ OutOfMemory)
text_written text a b ending (inl t) no_fault = done_or_failed ending a.output_faults b.output_faults _ t.ends no_fault
text_written text a b ending (inr s) no_fault = inr s.is

pub messages_made : (k : Drilling) (a b : Streams) (ending : Ending) → Drills k a b ending → (WriteFailed a b → ⊥) → (ending ≡ Done) ⊎ (ending ≡ OutOfMemory)
messages_made k a b ending (Whole e left written reported) no_fault = inl e
messages_made k a b ending (Unwritten e left front same rose) no_fault = absurd (no_fault (inl rose))
messages_made k a b ending (Unreported e left written front rose) no_fault = absurd (no_fault (inr rose))
messages_made k a b ending (NoMemory s) no_fault = inr s.is
