-- What came of one frame.
use Rattle.std.proofs.Common.{◌≡◌, ℕ, ◌+◌, ◌*◌, ◌≤◌, List, [], ◌++◌, length, take, length-append, arith, refl, sym, ◌∙◌, ap, subst, Option, Some, Bool, true, false, Ok, Err}
use Rattle.std.proofs.lemmas.List.{append-nil, take_at}
use Rattle.std.specs.Io.KnownBytes.{Appends}
use Rattle.gate_io.specs.Buffer.{Buffer}
use Rattle.protocol_traits.specs.declared.fault.Fault.{Fault}
use Rattle.line_transport.specs.Cuts.{sent}
use Rattle.line_transport.specs.declared.transport.Transport.{Transport}
use Rattle.message_show.specs.declared.showing.Shown.TheVariants as shown_as
use Rattle.message_show.specs.Shown.{Showing, Line, IsShown, HasLine}
use Rattle.message_show.specs.Shown as showing
use Rattle.conform_check.specs.declared.step.Step.{Step}
use Rattle.conform_check.specs.declared.breach.Breach.{Breach}
use Rattle.conform_check.specs.declared.breach.Checked.TheVariants as checked
use Rattle.conform_check.specs.Checking.{Finding, IsChecked, broken}
use Rattle.conform_check.specs.Checking as findings
use Rattle.gate_io.specs.Fronts.{AppendsFront, Flushed}
use Rattle.gate_io.proofs.Streams.{appends_on, then_front, front_of_more, wait_more}
use Rattle.translate_verdicts.specs.declared.verdict.Verdict.{Verdict}
use Rattle.translate_verdicts.specs.declared.verdict.Verdict.TheVariants as verdicts
use Rattle.translate_verdicts.specs.declared.verdict.Cause.{Cause}
use Rattle.translate_verdicts.specs.declared.verdict.Cause.TheVariants.{Grammar}
use Rattle.translate_verdicts.specs.declared.verdict.HeadInfo.{HeadInfo}
use Rattle.translate_verdicts.specs.Texts.{cause_text, place_of}
use Rattle.gate_streams.specs.declared.task.Doing.{Doing}
use Rattle.gate_streams.specs.declared.task.Doing.TheVariants.{Convert, Show, Conform}
use Rattle.gate_streams.specs.declared.frame.Treatment.TheVariants as treatment
use Rattle.gate_streams.specs.declared.frame.WriteFault.{WriteFault}
use Rattle.gate_streams.specs.Lines.{refusal_text}
use Rattle.gate_streams.specs.Handling.{Treated, Passes, Fails, Meets, Breaks, by_verdict, sent_by, as_line, as_found, is_passed, bytes_for, line_for}
use Rattle.gate_streams.specs.Working.{Treats, IsHandled, HasRoom, IsRoomy}

-- ---- what a treatment comes to

with_bytes : (b : Buffer) (xs ys : List ℕ) → xs ≡ ys → record b { bytes = b.bytes ++ xs } ≡ record b { bytes = b.bytes ++ ys }
with_bytes b xs ys e = ap (λ (t : List ℕ). let made : Buffer = record b { bytes = b.bytes ++ t } in made) e

nothing_more : (b : Buffer) (xs : List ℕ) → xs ≡ [] → b ≡ record b { bytes = b.bytes ++ xs }
nothing_more b xs e = ap (λ (t : List ℕ). let made : Buffer = record b { bytes = t } in made) (sym (append-nil b.bytes)) ∙ with_bytes b [] xs (sym e)

nothing_gathers : (w w' : Option (List ℕ)) (p p' : List ℕ) → w' ≡ w → p' ≡ p → Flushed w (p ++ []) w' p'
nothing_gathers w w' p p' e f =
    subst (λ (v : Option (List ℕ)). Flushed w (p ++ []) v p') (sym e) (wait_more w p p' [] (f ∙ sym (append-nil p)))

pub passed_is_handled : (number : ℕ) (t : Treated) (w w' : Option (List ℕ)) (p p' : List ℕ) (told : Buffer) → Treats treatment.Passed t w p w' p' → IsHandled number (Ok true) t w p told w' p' told
passed_is_handled number (Passes bytes) w w' p p' told h = (refl, h, nothing_more told [] refl)
passed_is_handled number (Fails cause) w w' p p' told h = absurd h
passed_is_handled number Meets w w' p p' told h = absurd h
passed_is_handled number (Breaks b) w w' p p' told h = absurd h

pub refused_is_handled : (number : ℕ) (t : Treated) (cause : Cause) (w w' : Option (List ℕ)) (p p' : List ℕ) (told told' : Buffer) → told' ≡ record told { bytes = told.bytes ++ refusal_text number (place_of cause) (cause_text cause) }
    → Treats (treatment.Refused cause) t w p w' p' → IsHandled number (Ok false) t w p told w' p' told'
refused_is_handled number (Passes bytes) cause w w' p p' told told' e h = absurd h
refused_is_handled number (Fails own) cause w w' p p' told told' e h =
    (refl, nothing_gathers w w' p p' h.1 h.2, e ∙ with_bytes told _ _ (ap (λ c. refusal_text number (place_of c) (cause_text c)) h.0))
refused_is_handled number Meets cause w w' p p' told told' e h = absurd h
refused_is_handled number (Breaks b) cause w w' p p' told told' e h = absurd h

pub broken_is_handled : (number : ℕ) (t : Treated) (fault : WriteFault) (w w' : Option (List ℕ)) (p p' : List ℕ) (told told' : Buffer) → Treats treatment.WriteFault t w p w' p' → IsHandled number (Err fault) t w p told w' p' told'
broken_is_handled number (Passes bytes) fault w w' p p' told told' h = h
broken_is_handled number (Fails cause) fault w w' p p' told told' h = absurd h
broken_is_handled number Meets fault w w' p p' told told' h = absurd h
broken_is_handled number (Breaks b) fault w w' p p' told told' h = absurd h

-- ---- what was found of a frame

pub found_meets : (path : List Step) (f : Finding) → IsChecked checked.Meets path f → as_found f ≡ Meets
found_meets path findings.Meets h = refl
found_meets path (findings.Breaks b) h = absurd h
found_meets path (findings.Refused g) h = absurd h
found_meets path (findings.Unread g) h = absurd h

pub found_breaks : (breach : Breach) (path : List Step) (f : Finding) → IsChecked (checked.Broken breach) path f → as_found f ≡ Breaks (broken breach path)
found_breaks breach path findings.Meets h = absurd h
found_breaks breach path (findings.Breaks b) h = ap Breaks h
found_breaks breach path (findings.Refused g) h = absurd h
found_breaks breach path (findings.Unread g) h = absurd h

pub found_refused : (fault : Fault) (path : List Step) (f : Finding) → IsChecked (checked.Refused fault) path f → as_found f ≡ Fails (Grammar fault)
found_refused fault path findings.Meets h = absurd h
found_refused fault path (findings.Breaks b) h = absurd h
found_refused fault path (findings.Refused g) h = ap (λ x. Fails (Grammar x)) (sym h.0)
found_refused fault path (findings.Unread g) h = absurd h

pub found_unread : (fault : Fault) (path : List Step) (f : Finding) → IsChecked (checked.Unread fault) path f → as_found f ≡ Fails (Grammar fault)
found_unread fault path findings.Meets h = absurd h
found_unread fault path (findings.Breaks b) h = absurd h
found_unread fault path (findings.Refused g) h = absurd h
found_unread fault path (findings.Unread g) h = ap (λ x. Fails (Grammar x)) (sym h.0)

-- a line was appended, or none
pub laid : (b b' : Buffer) (xs ys : List ℕ) → b' ≡ record b { bytes = b.bytes ++ xs } → ys ≡ xs → b' ≡ record b { bytes = b.bytes ++ ys }
laid b b' xs ys e f = e ∙ with_bytes b xs ys (sym f)

pub unlaid : (b : Buffer) (xs : List ℕ) → xs ≡ [] → b ≡ record b { bytes = b.bytes ++ xs }
unlaid b xs e = nothing_more b xs e

-- what was checked is handled
pub checked_is_handled : (number : ℕ) (t : Treated) (passed : Bool) (w : Option (List ℕ)) (page page' told told' : Buffer) → passed ≡ is_passed t → page' ≡ record page { bytes = page.bytes ++ bytes_for number t }
    → told' ≡ record told { bytes = told.bytes ++ line_for number t } → IsHandled number (Ok passed) t w page.bytes told w page'.bytes told'
checked_is_handled number t passed w page page' told told' e f h = (e, wait_more w page.bytes page'.bytes (bytes_for number t) (ap (λ (b : Buffer). b.bytes) f), h)

-- ---- a translation

pub translation_passed : (t : Transport) (v : Verdict) (bytes : List ℕ) (info : HeadInfo) (w : Option (List ℕ)) (p p' : List ℕ) → v ≡ verdicts.Passed info → p' ≡ p ++ sent_by t v bytes → Treats treatment.Passed (by_verdict t v bytes) w p w p'
translation_passed t (verdicts.Passed own) bytes info w p p' e f = wait_more w p p' (sent t bytes) f
translation_passed t (verdicts.Refused own cause) bytes info w p p' e f = absurd (cc)
translation_passed t (verdicts.Unread fault) bytes info w p p' e f = absurd (cc)

pub translation_refused : (t : Transport) (v : Verdict) (bytes : List ℕ) (info : HeadInfo) (cause : Cause) (w : Option (List ℕ)) (p p' : List ℕ) → v ≡ verdicts.Refused info cause → p' ≡ p ++ sent_by t v bytes → Treats (treatment.Refused cause) (by_verdict t v bytes) w p w p'
translation_refused t (verdicts.Passed own) bytes info cause w p p' e f = absurd (cc)
translation_refused t (verdicts.Refused own other) bytes info cause w p p' e f = (let same : cause ≡ other = cc in (same, refl, f ∙ append-nil p))
translation_refused t (verdicts.Unread fault) bytes info cause w p p' e f = absurd (cc)

pub translation_unread : (t : Transport) (v : Verdict) (bytes : List ℕ) (fault : Fault) (w : Option (List ℕ)) (p p' : List ℕ) → v ≡ verdicts.Unread fault → p' ≡ p ++ sent_by t v bytes → Treats (treatment.Refused (Grammar fault)) (by_verdict t v bytes) w p w p'
translation_unread t (verdicts.Passed own) bytes fault w p p' e f = absurd (cc)
translation_unread t (verdicts.Refused own other) bytes fault w p p' e f = absurd (cc)
translation_unread t (verdicts.Unread own) bytes fault w p p' e f = (let same : fault ≡ own = cc in (ap Grammar same, refl, f ∙ append-nil p))

-- ---- a line on the page

pub page_passed : (t : Showing) (w : Option (List ℕ)) (p p' : List ℕ) → IsShown shown_as.Passed (Some p) (Some p') t → Treats treatment.Passed (as_line t) w p w p'
page_passed (Line text) w p p' h = wait_more w p p' text h
page_passed (showing.Refused fault) w p p' h = absurd h
page_passed (showing.Unread fault) w p p' h = absurd h

pub page_refused : (t : Showing) (fault : Fault) (w : Option (List ℕ)) (p p' : List ℕ) → IsShown (shown_as.Refused fault) (Some p) (Some p') t → Treats (treatment.Refused (Grammar fault)) (as_line t) w p w p'
page_refused (Line text) fault w p p' h = absurd h
page_refused (showing.Refused own) fault w p p' h = (ap Grammar h.0, refl, h.1)
page_refused (showing.Unread own) fault w p p' h = absurd h

pub page_unread : (t : Showing) (fault : Fault) (w : Option (List ℕ)) (p p' : List ℕ) → IsShown (shown_as.Unread fault) (Some p) (Some p') t → Treats (treatment.Refused (Grammar fault)) (as_line t) w p w p'
page_unread (Line text) fault w p p' h = absurd h
page_unread (showing.Refused own) fault w p p' h = absurd h
page_unread (showing.Unread own) fault w p p' h = (ap Grammar h.0, refl, h.1)

-- the page was too small: what waited before stands at its front
pub page_longer : (t : Showing) (p p' : List ℕ) → IsShown shown_as.WriteFault (Some p) (Some p') t → length p ≤ length p'
page_longer (Line text) p p' h = omega (arith, ap length h.2, length-append p (take h.0 text))
page_longer (showing.Refused own) p p' h = absurd h
page_longer (showing.Unread own) p p' h = absurd h

pub page_cut : (t : Showing) (p p' : List ℕ) (mark : ℕ) → mark ≡ length p → IsShown shown_as.WriteFault (Some p) (Some p') t → take mark p' ≡ p
page_cut (Line text) p p' mark e h = ap (take mark) h.2 ∙ take_at p (take h.0 text) mark (sym e)
page_cut (showing.Refused own) p p' mark e h = absurd h
page_cut (showing.Unread own) p p' mark e h = absurd h

pub page_line : (t : Showing) (p p' : List ℕ) → IsShown shown_as.WriteFault (Some p) (Some p') t → HasLine t
page_line (Line text) p p' h = tt
page_line (showing.Refused own) p p' h = absurd h
page_line (showing.Unread own) p p' h = absurd h

-- ---- a line behind the page

all_flushed : (w w' w'' : Option (List ℕ)) (p p' text : List ℕ) → p' ≡ [] → Appends w w' p → Appends w' w'' text → Flushed w (p ++ text) w'' p'
all_flushed w w' w'' p p' text none f g = (p ++ text, appends_on w w' w'' p text f g, sym (ap (λ t. (p ++ text) ++ t) none ∙ append-nil (p ++ text)))

pub long_passed : (t : Showing) (w w' w'' : Option (List ℕ)) (p p' : List ℕ) → p' ≡ [] → Appends w w' p → IsShown shown_as.Passed w' w'' t → Treats treatment.Passed (as_line t) w p w'' p'
long_passed (Line text) w w' w'' p p' none f h = all_flushed w w' w'' p p' text none f h
long_passed (showing.Refused own) w w' w'' p p' none f h = absurd h
long_passed (showing.Unread own) w w' w'' p p' none f h = absurd h

pub long_broken : (t : Showing) (w w' w'' : Option (List ℕ)) (p p' : List ℕ) → Appends w w' p → IsShown shown_as.WriteFault w' w'' t → Treats treatment.WriteFault (as_line t) w p w'' p'
long_broken (Line text) w w' w'' p p' f h = then_front w w' w'' p text f h
long_broken (showing.Refused own) w w' w'' p p' f h = absurd h
long_broken (showing.Unread own) w w' w'' p p' f h = absurd h

-- the page could not be written
pub page_broken : (t : Showing) (w w' : Option (List ℕ)) (p p' : List ℕ) → HasLine t → AppendsFront w w' p → Treats treatment.WriteFault (as_line t) w p w' p'
page_broken (Line text) w w' p p' line f = front_of_more w w' p text f
page_broken (showing.Refused own) w w' p p' line f = absurd line
page_broken (showing.Unread own) w w' p p' line f = absurd line

pub not_refused : {X : Type 0} (t : Showing) (fault : Fault) (w w' : Option (List ℕ)) → HasLine t → IsShown (shown_as.Refused fault) w w' t → X
not_refused (Line text) fault w w' line h = absurd h
not_refused (showing.Refused own) fault w w' line h = absurd line
not_refused (showing.Unread own) fault w w' line h = absurd line

pub not_unread : {X : Type 0} (t : Showing) (fault : Fault) (w w' : Option (List ℕ)) → HasLine t → IsShown (shown_as.Unread fault) w w' t → X
not_unread (Line text) fault w w' line h = absurd h
not_unread (showing.Refused own) fault w w' line h = absurd line
not_unread (showing.Unread own) fault w w' line h = absurd line

-- ---- the room of a page

pub has_room : (doing : Doing) (limit n room : ℕ) (page : Buffer) → n ≤ limit → limit ≤ 16384000 → IsRoomy doing limit room → page.room ≡ room → (24 * n + 260 ≤ room → length page.bytes + (24 * n + 260) ≤ page.room) → HasRoom doing n page
has_room (Convert from to) limit n room page within small roomy same fits = (fits (omega (arith, roomy)), omega (arith, roomy, same))
has_room (Show from) limit n room page within small roomy same fits = tt
has_room (Conform from) limit n room page within small roomy same fits = fits (omega (arith, roomy))
