-- Each side was sent a front of what the other's frames give.
use Rattle.std.proofs.Common.{◌≡◌, ℕ, ◌<◌, ◌^◌, List, length, map, slice_get, ap, ◌∙◌, sym, subst}
use Rattle.protocol_traits.specs.Heads.{Header}
use Rattle.session_core.specs.Standing.{Standing, History}
use Rattle.session_core.specs.Stands as session
use Rattle.session_core.specs.Fits.{Fits}
use Rattle.session_core.specs.declared.judge.ClientJudged.TheVariants as client
use Rattle.session_core.specs.declared.judge.UpstreamJudged.TheVariants as upstream
use Rattle.session_core.specs.declared.outcome.Halt.{Halt}
use Rattle.session_core.proofs.Greatest.{StandsAtFront}
use Rattle.session_core.proofs.Fronts.{fronts}
use Rattle.session_judge.specs.Setting.{Setting}
use Rattle.session_judge.specs.Rules.{rules_of}
use Rattle.gate_base.specs.Bytes.{AreBytes}
use Rattle.session_laws.specs.Saying.{Said}
use Rattle.session_laws.specs.Exchange.{Ends, done, calls, EndsUpstream}
use Rattle.session_laws.specs.Carrying.{Carries}
use Rattle.session_laws.proofs.Fates.{IsFate, Opens, Goes, IsAnswered, IsDropped, Halts}
use Rattle.session_laws.proofs.Replies.{kept, IsReplyFate, Answers, HaltsReply}
use Rattle.session_laws.proofs.Listing.{calls_are, onward_is, back_is}
use Rattle.session_laws.proofs.Placing.{all_at, get_map, get_here, say_at, reply_at}
use Rattle.session_laws.proofs.Existing.{IsSplit, AllOfClient, AllOfUpstream, all_of_client, all_of_upstream}

-- a frame that halts the client by the rules ends it
pub halts_is : (s : Setting) (x : List ℕ) (a : Said) (h : Halt) → IsFate s x a → (rules_of s).judged x ≡ client.Halts h → done s a ≡ Ends h
halts_is s x a h (Opens g out j o d p) e = let wrong = sym j ∙ e in absurd (cc)
halts_is s x a h (Goes out j o d p) e = let wrong = sym j ∙ e in absurd (cc)
halts_is s x a h (IsAnswered cause answer j o d p) e = let wrong = sym j ∙ e in absurd (cc)
halts_is s x a h (IsDropped cause j d p) e = let wrong = sym j ∙ e in absurd (cc)
halts_is s x a h (Halts g j d p) e = let same : client.Halts g ≡ client.Halts h = sym j ∙ e in d ∙ ap Ends (cc)

pub reply_halts_is : (s : Setting) (call : Header) (y : List ℕ) (r : Said) (h : Halt) → IsReplyFate s call y r → (rules_of s).replied (kept s call) y ≡ upstream.Halts h → EndsUpstream r h
reply_halts_is s call y r h (Answers refused v e none) is = let wrong = sym v ∙ is in absurd (cc)
reply_halts_is s call y r h (HaltsReply k v e ends) is = let same : upstream.Halts k ≡ upstream.Halts h = sym v ∙ is in subst (EndsUpstream r) (cc) ends

module _ (s : Setting) (limit : ℕ) (law : StandsAtFront) (small : limit < 2 ^ 31) where
  pub client_is : (bytes : List ℕ) (c : AllOfClient s limit law small bytes) → session.IsAllOfClient (rules_of s) limit bytes c.are.frames
  client_is bytes c = record {
    rest = c.are.rest;
    taken = c.are.taken;
    passes = λ early late x h e j.
        let a = say_at (IsFate s) c.are.frames c.asked (length early) x c.fated (ap (λ t. slice_get t (length early)) e ∙ get_here early late x) in
        all_at (λ b. (k : Halt) → done s b ≡ Ends k → ⊥) c.asked (length early) a.0 c.are.going a.1 h (halts_is s x a.0 h a.2 j);
    last = c.ends;
  }

  pub upstream_is : (bytes : List ℕ) (frames : List (List ℕ)) (asked : List Said) (u : AllOfUpstream s limit law small (calls s asked) bytes) → session.calls_of (rules_of s) frames ≡ map (kept s) (calls s asked)
      → session.IsAllOfUpstream (rules_of s) limit (session.calls_of (rules_of s) frames) bytes u.are.frames
  upstream_is bytes frames asked u same = record {
    rest = u.are.rest;
    taken = u.are.taken;
    passes = λ early late y call h e at j.
        let r = reply_at (IsReplyFate s) (calls s asked) u.are.frames u.replied (length early) y u.fated (ap (λ t. slice_get t (length early)) e ∙ get_here early late y) in
        let m = get_map (kept s) (calls s asked) (length early) call (sym (ap (λ t. slice_get t (length early)) same) ∙ at) in
        let this : m.0 ≡ r.0 = cc in
        all_at (λ q. (k : Halt) → EndsUpstream q k → ⊥) u.replied (length early) r.1 u.are.going r.3 h
        (reply_halts_is s r.0 y r.1 h r.4 (ap (λ c. (rules_of s).replied (kept s c) y) (sym this) ∙ (ap (λ c. (rules_of s).replied c y) (sym m.2) ∙ j)));
    last = λ frame behind call e at.
        let m = get_map (kept s) (calls s asked) (length u.are.frames) call (sym (ap (λ t. slice_get t (length u.are.frames)) same) ∙ at) in
        let x = u.ends frame behind m.0 e m.1 in
        (x.0, ap (λ c. (rules_of s).replied c frame) m.2 ∙ x.1);
  }

  -- all frames of both sides, and what was sent of what they give
  pub record Both (h : History) : Type 0 where
    pub client : AllOfClient s limit law small h.from_client
    pub upstream : AllOfUpstream s limit law small (calls s client.asked) h.from_upstream

  pub both : IsSplit → (h : History) → AreBytes h.from_client → AreBytes h.from_upstream → Both h
  both split h client upstream =
      let c = all_of_client s limit law small split h.from_client client in
      record { client = c; upstream = all_of_upstream s limit law small split (calls s c.asked) h.from_upstream upstream }

  abbrev pub carried : (max_calls : ℕ) (h : History) (t : Standing) → Both h → Fits (rules_of s) limit max_calls h t → Carries s limit h
  carried max_calls h t b fits =
      let xs = b.client.are.frames in
      let ys = b.upstream.are.frames in
      let sent = fronts law (rules_of s) limit max_calls h t xs ys small fits (client_is h.from_client b.client) (upstream_is h.from_upstream xs b.client.asked b.upstream (calls_are s xs b.client.asked b.client.fated)) in
      record {
        asked = b.client.asked;
        replied = b.upstream.replied;
        client = b.client.are;
        upstream = b.upstream.are;
        to_upstream = subst (session.IsFrontOf h.to_upstream) (onward_is s xs b.client.asked b.client.fated) sent.1;
        to_client = subst (session.IsFrontOf h.to_client) (back_is s xs b.client.asked ys b.upstream.replied b.client.fated b.upstream.fated) sent.0;
      }
