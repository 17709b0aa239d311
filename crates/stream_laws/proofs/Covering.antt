-- What a stream gives, from its clause.
use Rattle.std.proofs.Common.{◌≡◌, ℕ, ◌+◌, ◌≤◌, Bool, true, false, cond, List, [], ◌∷◌, ◌++◌, length, append_assoc, arith, Option, None, Some, refl, ap, ◌∙◌, sym, subst}
use Rattle.std.specs.Prelude.{⊤, not, ◌||◌, IfSome, IsSome}
use Rattle.std.specs.List.{All, flat_map}
use Rattle.std.proofs.lemmas.List.Elements.{All-nil, All-cons, All-head, All-tail}
use Rattle.std.specs.Io.KnownBytes.{Consumes}
use Rattle.type_tables.specs.declared.declared.ServiceId.{ServiceId}
use Rattle.type_tables.specs.Declarations.{Declarations}
use Rattle.protocol_traits.specs.declared.proto.Proto.{Proto}
use Rattle.protocol_traits.specs.declared.proto.Proto.TheVariants as protocols
use Rattle.translate_verdicts.specs.declared.route.Route.TheVariants.{ByName}
use Rattle.translate_verdicts.specs.declared.verdict.Cause.TheVariants.{Grammar}
use Rattle.protocol_pairs.specs.Pairs.{answered}
use Rattle.line_transport.specs.Cuts.{sent, IsPiece, is_counted, messages_of, Spans, CutsAll, at_end}
use Rattle.line_transport.specs.Lines.{ended}
use Rattle.line_transport.specs.declared.transport.Transport.{Transport}
use Rattle.line_transport.specs.declared.transport.Transport.TheVariants.{Frames, Lines}
use Rattle.message_show.specs.Shown.{Showing, shown}
use Rattle.gate_base.specs.Bytes.{AreBytes}
use Rattle.binary_laws.proofs.Inverse.{bytes_front}
use Rattle.verdict_laws.specs.Spellings.{SpellsBy, IsShort}
use Rattle.session_laws.specs.Saying.{FaultBy, SpellsHead}
use Rattle.session_laws.proofs.Fates.{IsSaidBy, ByMessage, ByCause, ByFault, said_by}
use Rattle.session_laws.proofs.Existing.{frame_bytes}
use Rattle.show_laws.specs.Showings.{IsShowing, ShowsMessage, TellsFault, TellsNoHeader}
use Rattle.conform_check.specs.Checking.{Finding}
use Rattle.conform_laws.specs.Checkings.{IsChecking, MessageIsMet, MessageBreaks}
use Rattle.conform_laws.specs.Checkings as checkings
use Rattle.gate_streams.specs.declared.task.Doing.TheVariants.{Convert, Show, Conform}
use Rattle.gate_streams.specs.Findings.{finding}
use Rattle.gate_streams.specs.Handling.{Treated, Passes, Fails, Meets, Breaks, translated, as_line, as_found, treated, treated_by, is_passed, bytes_for, line_for, output_of, outputs, line_of, lines, any_refused}
use Rattle.gate_start.specs.Streams.{Streams}
use Rattle.gate_streams.specs.Outcome.{Covers, StopsWith, Streamed}
use Rattle.gate_streams.specs.declared.stream.TheConstants.{MOST_BYTES}
use Rattle.gate_start.specs.declared.status.Ending.{Ending}
use Rattle.gate_start.specs.declared.status.Ending.TheVariants as endings
use Rattle.gate_streams.specs.Terms.{Terms, judged_by, shown_by, found_by}
use Rattle.stream_laws.specs.Covering.{passage_of, IsLow, IsConverted, IsWritten, IsReported, IsListed, HasLine, HasFault, IsConformed, IsMet, IsBroken, IsFaulty, GiveInOrder, CoversBy, GivesSome, GivesBy}

-- what is read of a source that tells what is left of it consists of bytes
pub are_read : {source : Option (List ℕ)} (left now : Option (List ℕ)) → IfSome source AreBytes → left ≡ source → IsSome left → (read : List ℕ) → Consumes left now read → AreBytes read
are_read None now are same told read c = absurd (cc)
are_read (Some x) None are same told read c = absurd c
are_read (Some x) (Some y) are same told read c = (bytes_front read y (subst AreBytes c (subst (λ l. IfSome l AreBytes) (sym same) are))).0

-- what is written and reported of one frame by the program
abbrev Holds : (ℕ → List ℕ → List ℕ → List ℕ → Type 0) → ℕ → List ℕ → Treated → Type 0
Holds Each number frame t = Each number frame (bytes_for number t) (line_for number t)

-- ---- one frame that is converted

-- a frame within a low limit is short
pub short_frame : (from : Proto) (limit : ℕ) (frame : List ℕ) → IsLow from limit → length frame ≤ limit → IsShort from frame
short_frame protocols.Binary limit frame low within = tt
short_frame protocols.Compact limit frame low within = tt
short_frame protocols.Json limit frame low within = omega (arith, low, within)

module _ (k : Terms) (from to : Proto) (doing : k.doing ≡ Convert from to) (number : ℕ) (frame : List ℕ) (are : AreBytes frame) (short : IsShort from frame) where
  by_said : IsSaidBy (passage_of k from to) (answered from from frame) frame (judged_by k from to frame) → Holds (IsConverted k.output (passage_of k from to)) number frame (translated k.output (judged_by k from to frame))
  by_said (ByMessage m out says e) = subst (λ j. Holds (IsConverted k.output (passage_of k from to)) number frame (translated k.output j)) (sym e) (IsWritten m out says.0 says.1 says.2 says.3 refl refl)
  by_said (ByCause h cause says e) = subst (λ j. Holds (IsConverted k.output (passage_of k from to)) number frame (translated k.output j)) (sym e) (IsReported cause says.1 refl refl)
  by_said (ByFault f says e) = subst (λ j. Holds (IsConverted k.output (passage_of k from to)) number frame (translated k.output j)) (sym e) (IsReported (Grammar f) says.1 refl refl)

  pub converted : Holds (IsConverted k.output (passage_of k from to)) number frame (treated k frame)
  converted = subst (λ d. Holds (IsConverted k.output (passage_of k from to)) number frame (treated_by k d frame)) (sym doing) (by_said (said_by (passage_of k from to) frame are short))

-- ---- one frame that is shown

-- the law of what is shown
abbrev pub IsShowLaw : Type 0
IsShowLaw = (d : Declarations) (service : Option ServiceId) (protocol : Proto) (frame : List ℕ) → AreBytes frame → IsShort protocol frame
    → IsShowing (SpellsHead protocol) (SpellsBy d (ByName service) protocol) (λ l f. FaultBy (record { declarations = d; route = ByName service; from = protocol; to = protocol; teller = protocol }) protocol l f) d service frame (shown d service protocol frame)

module _ (law : IsShowLaw) (k : Terms) (from : Proto) (doing : k.doing ≡ Show from) (number : ℕ) (frame : List ℕ) (are : AreBytes frame) (short : IsShort from frame) where
  by_showing : (s : Showing) → IsShowing (SpellsHead from) (SpellsBy k.declarations (ByName k.service) from) (λ l f. FaultBy (passage_of k from from) from l f) k.declarations k.service frame s → Holds (IsListed k (passage_of k from from)) number frame (as_line s)
  by_showing s (ShowsMessage m spells deep e) = subst (λ x. Holds (IsListed k (passage_of k from from)) number frame (as_line x)) (sym e) (HasLine m spells deep refl refl)
  by_showing s (TellsFault header front rest f laid head stands e) = subst (λ x. Holds (IsListed k (passage_of k from from)) number frame (as_line x)) (sym e) (HasFault f stands refl refl)
  by_showing s (TellsNoHeader f none stands e) = subst (λ x. Holds (IsListed k (passage_of k from from)) number frame (as_line x)) (sym e) (HasFault f stands refl refl)

  pub listed : Holds (IsListed k (passage_of k from from)) number frame (treated k frame)
  listed = subst (λ d. Holds (IsListed k (passage_of k from from)) number frame (treated_by k d frame)) (sym doing) (by_showing (shown_by k from frame) (law k.declarations k.service from frame are short))

-- ---- one frame that is checked

-- the law of what is found
abbrev pub IsCheckLaw : Type 0
IsCheckLaw = (d : Declarations) (service : Option ServiceId) (protocol : Proto) (frame : List ℕ) → AreBytes frame → IsShort protocol frame
    → IsChecking (SpellsHead protocol) (SpellsBy d (ByName service) protocol) (λ l f. FaultBy (record { declarations = d; route = ByName service; from = protocol; to = protocol; teller = protocol }) protocol l f) d service frame (finding d service protocol frame)

module _ (law : IsCheckLaw) (k : Terms) (from : Proto) (doing : k.doing ≡ Conform from) (number : ℕ) (frame : List ℕ) (are : AreBytes frame) (short : IsShort from frame) where
  by_checking : (f : Finding) → IsChecking (SpellsHead from) (SpellsBy k.declarations (ByName k.service) from) (λ l g. FaultBy (passage_of k from from) from l g) k.declarations k.service frame f → Holds (IsConformed k (passage_of k from from)) number frame (as_found f)
  by_checking f (MessageIsMet m spells deep meets e) = subst (λ x. Holds (IsConformed k (passage_of k from from)) number frame (as_found x)) (sym e) (IsMet m spells deep meets refl refl)
  by_checking f (MessageBreaks m b spells deep breaks first e) = subst (λ x. Holds (IsConformed k (passage_of k from from)) number frame (as_found x)) (sym e) (IsBroken m b spells deep breaks first refl refl)
  by_checking f (checkings.TellsFault header front rest g laid head stands e) = subst (λ x. Holds (IsConformed k (passage_of k from from)) number frame (as_found x)) (sym e) (IsFaulty g stands refl refl)
  by_checking f (checkings.TellsNoHeader g none stands e) = subst (λ x. Holds (IsConformed k (passage_of k from from)) number frame (as_found x)) (sym e) (IsFaulty g stands refl refl)

  pub conformed : Holds (IsConformed k (passage_of k from from)) number frame (treated k frame)
  conformed = subst (λ d. Holds (IsConformed k (passage_of k from from)) number frame (treated_by k d frame)) (sym doing) (by_checking (found_by k from frame) (law k.declarations k.service from frame are short))

-- ---- all frames of a stream

no_line : (number : ℕ) (t : Treated) → is_passed t ≡ true → line_for number t ≡ []
no_line number (Passes bytes) e = refl
no_line number (Fails cause) e = absurd (cc)
no_line number Meets e = refl
no_line number (Breaks b) e = absurd (cc)

both_false : (a b : Bool) → (not a || b) ≡ false → (a ≡ true) × (b ≡ false)
both_false true b e = (refl, e)
both_false false b e = absurd (cc)

nothing_reported : (k : Terms) (before : ℕ) (frames : List (List ℕ)) → any_refused k frames ≡ false → lines k before frames ≡ []
nothing_reported k before [] none = refl
nothing_reported k before (frame ∷ frames) none =
    let parts = both_false (is_passed (treated k frame)) (any_refused k frames) none in
    ap (λ l. l ++ lines k (before + 1) frames) (no_line (before + 1) (treated k frame) parts.0) ∙ nothing_reported k (before + 1) frames parts.1

-- a piece on the stream consists of bytes
piece_bytes : (t : Transport) (piece rest : List ℕ) → AreBytes (sent t piece ++ rest) → AreBytes piece × AreBytes rest
unfolding ended
piece_bytes Frames piece rest are = frame_bytes piece rest are
piece_bytes Lines piece rest are = (let parts = bytes_front (ended piece) rest are in ((bytes_front piece (10 ∷ []) parts.0).0, parts.1))

bytes_on : (xs ys : List ℕ) → AreBytes xs → AreBytes ys → AreBytes (xs ++ ys)
bytes_on [] ys a b = b
bytes_on (x ∷ xs) ys a b = (a.0, bytes_on xs ys a.1 b)

-- and so does what is read, with the LF that the last line lacks
ended_bytes : (t : Transport) (read : List ℕ) → AreBytes read → AreBytes (at_end t read)
unfolding ended
ended_bytes Frames read are = are
ended_bytes Lines read are = bytes_on read (10 ∷ []) are (omega arith, tt)

module _ (k : Terms) (Each : ℕ → List ℕ → List ℕ → List ℕ → Type 0) (each : (number : ℕ) (frame : List ℕ) → AreBytes frame → length frame ≤ k.limit → Holds Each number frame (treated k frame)) where
  -- frames of bytes
  abbrev Are : List (List ℕ) → Type 0
  Are [] = ⊤
  Are (frame ∷ frames) = AreBytes frame × Are frames

  abbrev Within : List ℕ → Type 0
  Within frame = length frame ≤ k.limit

  all_give : (before : ℕ) (frames : List (List ℕ)) → Are frames → All Within frames → GiveInOrder Each before frames (outputs k before frames) (lines k before frames)
  all_give before [] are within = (refl, refl)
  all_give before (frame ∷ frames) are within = (
    output_of k (before + 1) frame,
    outputs k (before + 1) frames,
    line_of k (before + 1) frame,
    lines k (before + 1) frames,
    each (before + 1) frame are.0 (All-head Within frame frames within),
    all_give (before + 1) frames are.1 (All-tail Within frame frames within),
    refl,
    refl,
  )

  pieces_are : (t : Transport) (pieces : List (List ℕ)) (rest : List ℕ) → AreBytes (flat_map (sent t) pieces ++ rest) → Are pieces
  pieces_are t [] rest are = tt
  pieces_are t (x ∷ pieces) rest are =
      let one = piece_bytes t x (flat_map (sent t) pieces ++ rest) (subst AreBytes (append_assoc (sent t x) (flat_map (sent t) pieces) rest) are) in
      (one.0, pieces_are t pieces rest one.1)

  kept_are : (b : Bool) (x : List ℕ) (xs : List (List ℕ)) → AreBytes x → Are xs → Are (cond b (x ∷ xs) xs)
  kept_are true x xs first are = (first, are)
  kept_are false x xs first are = are

  counted_are : (t : Transport) (pieces : List (List ℕ)) → Are pieces → Are (messages_of t pieces)
  counted_are Frames pieces are = are
  counted_are Lines [] are = are
  counted_are Lines (x ∷ pieces) are = kept_are (is_counted x) x (messages_of Lines pieces) are.0 (counted_are Lines pieces are.1)

  kept_within : (b : Bool) (x : List ℕ) (xs : List (List ℕ)) → Within x → All Within xs → All Within (cond b (x ∷ xs) xs)
  kept_within true x xs first all = All-cons Within x xs first all
  kept_within false x xs first all = all

  counted_within : (t : Transport) (pieces : List (List ℕ)) → All (IsPiece t k.limit) pieces → All Within (messages_of t pieces)
  counted_within Frames pieces all = all
  counted_within Lines [] all = All-nil Within
  counted_within Lines (x ∷ pieces) all =
      kept_within (is_counted x) x (messages_of Lines pieces) (All-head (IsPiece Lines k.limit) x pieces all).within (counted_within Lines pieces (All-tail (IsPiece Lines k.limit) x pieces all))

  -- what is read gives so, however it is cut
  abbrev covers : (a b : Streams) (read : List ℕ) (frames : List (List ℕ)) (line bytes rest : List ℕ) → AreBytes bytes → Spans k.input k.limit bytes frames rest → Covers k a b read frames line → CoversBy Each a b read frames line
  covers a b read frames line bytes rest are s c = record {
    consumed = c.consumed;
    out = outputs k 0 frames;
    told = lines k 0 frames;
    give = all_give 0 frames (subst Are (sym s.messages_are) (counted_are k.input s.pieces (pieces_are k.input s.pieces rest (subst AreBytes s.whole are))))
        (subst (All Within) (sym s.messages_are) (counted_within k.input s.pieces s.each));
    written = c.written;
    reported = c.reported;
  }

  all_covered : (a b : Streams) (read : List ℕ) (frames : List (List ℕ)) → AreBytes read → CutsAll k.input k.limit read frames → Covers k a b read frames [] → CoversBy Each a b read frames []
  all_covered a b read frames are cuts c = covers a b read frames [] (at_end k.input read) [] (ended_bytes k.input read are) cuts.spans c

  some_covered : (a b : Streams) (text : List ℕ) (Many : ℕ → Type 0) → ((read : List ℕ) → Consumes a.left b.left read → AreBytes read) → StopsWith k a b text Many → GivesSome Each k a b
  some_covered a b text Many bytes x = (x.0, x.1, x.2, x.3, covers a b x.0 x.1 x.3 x.0 x.2 (bytes x.0 x.4.consumed) x.5.spans x.4, x.5)

  -- what is read of the input consists of bytes
  pub by_ending : (a b : Streams) (ending : Ending) → ((read : List ℕ) → Consumes a.left b.left read → AreBytes read) → Streamed k a b ending → GivesBy Each k a b ending
  unfolding all_covered
  by_ending a b endings.Done bytes x = (x.0, x.1, all_covered a b x.0 x.1 (bytes x.0 x.2.consumed) x.3 x.2, x.3, nothing_reported k 0 x.1 x.4, x.5)
  by_ending a b endings.Refused bytes x = (x.0, x.1, all_covered a b x.0 x.1 (bytes x.0 x.2.consumed) x.3 x.2, x.3, x.5)
  by_ending a b endings.StreamFault bytes x = (x.0, x.1, x.2, x.3, covers a b x.0 x.1 x.3 x.0 x.2 (bytes x.0 x.4.consumed) x.5.spans x.4, x.5, x.6, x.7)
  by_ending a b endings.ReadFault bytes x = some_covered a b _ (λ n. ⊤) bytes x.1
  by_ending a b endings.BudgetSpent bytes x = some_covered a b _ (λ n. n ≡ MOST_BYTES) bytes x
  by_ending a b endings.OutOfMemory bytes x = some_covered a b _ (λ n. n ≡ 0) bytes x
  by_ending a b endings.WriteFault bytes x = tt
  by_ending a b endings.Usage bytes x = absurd x
  by_ending a b endings.FileFault bytes x = absurd x
  by_ending a b endings.HubFault bytes x = absurd x
