-- What each frame gives, and what all of them give.
use Rattle.std.proofs.Common.{◌≡◌, ℕ, ◌+◌, true, false, List, [], ◌∷◌, refl, ap, ◌∙◌, sym, inl, inr}
use Rattle.thrift_value.specs.Trees.{Message}
use Rattle.protocol_traits.specs.declared.fault.Fault.{Fault}
use Rattle.protocol_traits.specs.declared.proto.Proto.{Proto}
use Rattle.protocol_traits.specs.declared.proto.Proto.TheVariants as protocols
use Rattle.type_tables.specs.Declarations.{Declarations}
use Rattle.translate_verdicts.specs.declared.route.Route.{Route}
use Rattle.translate_verdicts.specs.declared.route.Route.TheVariants.{ByName}
use Rattle.protocol_traits.specs.Heads.{Header}
use Rattle.translate_verdicts.specs.Judged.{Judged}
use Rattle.line_transport.specs.Cuts.{sent}
use Rattle.line_transport.specs.declared.transport.Transport.{Transport}
use Rattle.gate_base.specs.Bytes.{AreBytes}
use Rattle.verdict_laws.specs.Bars.{Spot}
use Rattle.verdict_laws.specs.Rounds.{plain_in}
use Rattle.verdict_laws.specs.Spellings.{SpellsBy, IsShort}
use Rattle.verdict_laws.specs.Verdicts.{IsPlain, IsVerdict}
use Rattle.verdict_laws.specs.Verdicts.IsVerdict.{Passes, IsBarred, IsFaulty, IsUnread}
use Rattle.verdict_laws.proofs.Faulted.{binary_told, compact_told, json_told}
use Rattle.verdict_laws.proofs.Round.{held_round}
use Rattle.gate_streams.specs.declared.task.Doing.TheVariants.{Convert}
use Rattle.gate_streams.specs.Handling.{translated, treated_by, is_passed, bytes_for, output_of, outputs}
use Rattle.gate_streams.specs.Terms.{Terms, judged_by}
use Rattle.stream_laws.specs.Streams.{Gives, GiveAll, AreFrames}

-- what is written of a frame, by its verdict
written : (k : Terms) (from to : Proto) (number : ℕ) (frame : List ℕ) → k.doing ≡ Convert from to → output_of k number frame ≡ bytes_for number (translated k.output (judged_by k from to frame))
written k from to number frame e = ap (λ doing. bytes_for number (treated_by k doing frame)) e

is_plain : (to : Proto) (d : Declarations) (route : Route) (m : Message) (bytes : List ℕ) → IsPlain to d route m bytes → bytes ≡ plain_in to d route m
is_plain protocols.Binary d route m bytes e = e
is_plain protocols.Compact d route m bytes e = e
is_plain protocols.Json d route m bytes e = e

no_pass : (t : Transport) (j : Judged) (i : Judged) → j ≡ i → is_passed (translated t i) ≡ false → (p : Judged) → j ≡ p → is_passed (translated t p) ≡ true → ⊥
no_pass t j i a none p b some = let wrong : false ≡ true = sym none ∙ ap (λ x. is_passed (translated t x)) (sym a ∙ b) ∙ some in absurd (cc)

module _ (k : Terms) (from to : Proto) (number : ℕ) (frame : List ℕ) (are : AreBytes frame) (short : IsShort from frame) (doing : k.doing ≡ Convert from to) where
  -- a frame that is refused carries none
  none_given : (i : Judged) → judged_by k from to frame ≡ i → is_passed (translated k.output i) ≡ false → bytes_for number (translated k.output i) ≡ [] → Gives k from to frame (output_of k number frame)
  none_given i e none empty =
      inr (
        (λ m c. no_pass k.output (judged_by k from to frame) i e none _ (held_round k.declarations (ByName k.service) from to m frame c.spells c.shallow are short c.holds).goes refl),
        written k from to number frame doing ∙ ap (λ x. bytes_for number (translated k.output x)) e ∙ empty,
      )

  by_verdict : (SpellsHead : Header → List ℕ → Type 0) (FaultAt : List ℕ → Fault → Type 0) (Place : Message → List ℕ → Spot → ℕ → Type 0)
      → IsVerdict SpellsHead (SpellsBy k.declarations (ByName k.service) from) FaultAt Place k.declarations (ByName k.service) to frame (judged_by k from to frame) → Gives k from to frame (output_of k number frame)
  by_verdict SpellsHead FaultAt Place (Passes m bytes spells deep holds plain e) =
      inl (
        m,
        record { spells = spells; shallow = deep; holds = holds },
        written k from to number frame doing ∙ ap (λ x. bytes_for number (translated k.output x)) e ∙ ap (sent k.output) (is_plain to k.declarations (ByName k.service) m bytes plain),
      )
  by_verdict SpellsHead FaultAt Place (IsBarred m spot place bar spells deep first at e) = none_given _ e refl refl
  by_verdict SpellsHead FaultAt Place (IsFaulty header front rest f laid head stands e) = none_given _ e refl refl
  by_verdict SpellsHead FaultAt Place (IsUnread f none stands e) = none_given _ e refl refl

given : (k : Terms) (from to : Proto) (number : ℕ) (frame : List ℕ) → AreBytes frame → IsShort from frame → k.doing ≡ Convert from to → Gives k from to frame (output_of k number frame)
given k protocols.Binary to number frame are short doing = by_verdict k protocols.Binary to number frame are short doing _ _ _ (binary_told k.declarations (ByName k.service) to frame are)
given k protocols.Compact to number frame are short doing = by_verdict k protocols.Compact to number frame are short doing _ _ _ (compact_told k.declarations (ByName k.service) to frame are)
given k protocols.Json to number frame are short doing = by_verdict k protocols.Json to number frame are short doing _ _ _ (json_told k.declarations (ByName k.service) to frame short)

pub all_given : (k : Terms) (from to : Proto) (before : ℕ) (frames : List (List ℕ)) → AreFrames from frames → k.doing ≡ Convert from to → GiveAll k from to frames (outputs k before frames)
all_given k from to before [] are doing = refl
all_given k from to before (frame ∷ frames) are doing =
    (output_of k (before + 1) frame, outputs k (before + 1) frames, given k from to (before + 1) frame are.0 are.1 doing, all_given k from to (before + 1) frames are.2 doing, refl)
