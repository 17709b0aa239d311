-- Each side's bytes are frames up to the first that ends it.
use Rattle.std.proofs.Common.{◌≡◌, ℕ, ◌<◌, ◌≤◌, ◌^◌, List, [], ◌∷◌, ◌++◌, length, true, false, Some, slice_get, refl, ap, ◌∙◌, sym, subst, append_assoc, arith}
use Rattle.std.specs.List.{All, flat_map}
use Rattle.std.specs.Int.{to_be_bytes, w32}
use Rattle.std.proofs.lemmas.List.Elements.{All-nil, All-cons, All-head, All-tail}
use Rattle.protocol_traits.specs.Heads.{Header}
use Rattle.framed_transport.specs.Frames.{framed, Splitting}
use Rattle.framed_transport.specs.Front.{Whole, front, is_whole}
use Rattle.session_core.specs.declared.outcome.Halt.{Halt}
use Rattle.session_core.specs.declared.judge.ClientJudged.TheVariants as client
use Rattle.session_core.specs.declared.judge.UpstreamJudged.TheVariants as upstream
use Rattle.session_core.proofs.Greatest.{StandsAtFront}
use Rattle.session_judge.specs.Setting.{Setting}
use Rattle.session_judge.specs.Rules.{rules_of}
use Rattle.gate_base.specs.Bytes.{AreBytes}
use Rattle.binary_laws.proofs.Inverse.{bytes_front}
use Rattle.session_laws.specs.Saying.{Said, Says}
use Rattle.session_laws.specs.Exchange.{Done, Waits, Tells, Ends, done, calls, asking, replying, EndsUpstream}
use Rattle.session_laws.specs.Exchange as exchange
use Rattle.session_laws.specs.Streaming.{ClientHalts, UpstreamHalts, IsAsked, IsReplied}
use Rattle.session_laws.proofs.Fates.{IsFate, Opens, Goes, IsAnswered, IsDropped, Halts, fate}
use Rattle.session_laws.proofs.Replies.{kept, IsReplyFate, Answers, HaltsReply, reply_fate}
use Rattle.session_laws.proofs.Listing.{Fated, RepliesFated}

-- each stream of bytes is frames and a rest that begins with none
abbrev pub IsSplit : Type 0
IsSplit = (limit : ℕ) (bytes : List ℕ) → limit < 2 ^ 31 → AreBytes bytes → Splitting limit bytes

-- the first frame of a stream, and what is behind it
pub frame_bytes : (x more : List ℕ) → AreBytes (framed x ++ more) → AreBytes x × AreBytes more
unfolding framed
frame_bytes x more are =
    let parts = bytes_front (framed x) more are in
    ((bytes_front (to_be_bytes w32 (length x)) x parts.0).1, parts.1)

same_frame : (x y more behind : List ℕ) → Whole x more ≡ Whole y behind → x ≡ y
same_frame x y more behind e = cc

joined : (x rest more : List ℕ) (frames : List (List ℕ)) (bytes : List ℕ) → bytes ≡ flat_map framed frames ++ rest → more ≡ framed x ++ bytes → more ≡ flat_map framed (x ∷ frames) ++ rest
joined x rest more frames bytes e f = f ∙ (ap (λ t. framed x ++ t) e ∙ sym (append_assoc (framed x) (flat_map framed frames) rest))

module _ (s : Setting) (limit : ℕ) (law : StandsAtFront) (small : limit < 2 ^ 31) where
  -- ---- the client

  pub record AllOfClient (bytes : List ℕ) : Type 0 where
    pub asked : List Said
    pub are : IsAsked s limit bytes asked
    pub fated : Fated s are.frames asked
    pub ends : (frame behind : List ℕ) → front limit are.rest ≡ Whole frame behind → (h : Halt) × ((rules_of s).judged frame ≡ client.Halts h)

  no_frame : (rest : List ℕ) → is_whole (front limit rest) ≡ false → AllOfClient rest
  no_frame rest none = record {
    asked = [];
    are = record {
      frames = [];
      rest = rest;
      taken = record { each = All-nil (λ frame. length frame ≤ limit); whole = refl };
      say = tt;
      going = All-nil (λ a. (h : Halt) → done s a ≡ Ends h → ⊥);
      last = λ frame behind e. let wrong : false ≡ true = sym none ∙ ap is_whole e in absurd (cc);
    };
    fated = tt;
    ends = λ frame behind e. let wrong : false ≡ true = sym none ∙ ap is_whole e in absurd (cc);
  }

  -- the first frame ends the client
  stops : (x bytes : List ℕ) (a : Said) (h : Halt) → length x ≤ limit → Says (asking s) x a → (rules_of s).judged x ≡ client.Halts h → done s a ≡ Ends h → AllOfClient (framed x ++ bytes)
  stops x bytes a h within says halts ends = record {
    asked = [];
    are = record {
      frames = [];
      rest = framed x ++ bytes;
      taken = record { each = All-nil (λ frame. length frame ≤ limit); whole = refl };
      say = tt;
      going = All-nil (λ b. (k : Halt) → done s b ≡ Ends k → ⊥);
      last = λ frame behind e. (h, subst (λ y. ClientHalts s y h) (same_frame x frame bytes behind (sym (law limit x bytes small within) ∙ e)) (a, says, ends));
    };
    fated = tt;
    ends = λ frame behind e. (h, subst (λ y. (rules_of s).judged y ≡ client.Halts h) (same_frame x frame bytes behind (sym (law limit x bytes small within) ∙ e)) halts);
  }

  -- or it goes on
  goes_on : (x bytes : List ℕ) (a : Said) → length x ≤ limit → Says (asking s) x a → IsFate s x a → ((h : Halt) → done s a ≡ Ends h → ⊥) → AllOfClient bytes → AllOfClient (framed x ++ bytes)
  goes_on x bytes a within says is none all = record {
    asked = a ∷ all.asked;
    are = record {
      frames = x ∷ all.are.frames;
      rest = all.are.rest;
      taken = record { each = All-cons (λ frame. length frame ≤ limit) x all.are.frames within all.are.taken.each; whole = joined x all.are.rest (framed x ++ bytes) all.are.frames bytes all.are.taken.whole refl };
      say = (says, all.are.say);
      going = All-cons (λ b. (h : Halt) → done s b ≡ Ends h → ⊥) a all.asked none all.are.going;
      last = all.are.last;
    };
    fated = (is, all.fated);
    ends = all.ends;
  }

  by_fate : (x bytes : List ℕ) (a : Said) → length x ≤ limit → Says (asking s) x a → IsFate s x a → AllOfClient bytes → AllOfClient (framed x ++ bytes)
  by_fate x bytes a within says (Opens h out j o d p) all = goes_on x bytes a within says (Opens h out j o d p) (λ k e. let wrong : Waits h ≡ Ends k = sym d ∙ e in absurd (cc)) all
  by_fate x bytes a within says (Goes out j o d p) all = goes_on x bytes a within says (Goes out j o d p) (λ k e. let wrong : exchange.Passes ≡ Ends k = sym d ∙ e in absurd (cc)) all
  by_fate x bytes a within says (IsAnswered cause answer j o d p) all = goes_on x bytes a within says (IsAnswered cause answer j o d p) (λ k e. let wrong : Tells answer ≡ Ends k = sym d ∙ e in absurd (cc)) all
  by_fate x bytes a within says (IsDropped cause j d p) all = goes_on x bytes a within says (IsDropped cause j d p) (λ k e. let wrong : exchange.Passes ≡ Ends k = sym d ∙ e in absurd (cc)) all
  by_fate x bytes a within says (Halts h j d p) all = stops x bytes a h within says j d

  client_from : (xs : List (List ℕ)) (rest : List ℕ) → All (λ frame. length frame ≤ limit) xs → AreBytes (flat_map framed xs ++ rest) → is_whole (front limit rest) ≡ false → AllOfClient (flat_map framed xs ++ rest)
  client_from [] rest each are none = no_frame rest none
  client_from (x ∷ xs) rest each are none =
      let laid : (framed x ++ flat_map framed xs) ++ rest ≡ framed x ++ (flat_map framed xs ++ rest) = append_assoc (framed x) (flat_map framed xs) rest in
      let parts = frame_bytes x (flat_map framed xs ++ rest) (subst AreBytes laid are) in
      let within = All-head (λ frame. length frame ≤ limit) x xs each in
      let f = fate s x parts.0 (omega (arith, within, small)) in
      subst AllOfClient (sym laid) (by_fate x (flat_map framed xs ++ rest) f.0 within f.1 f.2
      (client_from xs rest (All-tail (λ frame. length frame ≤ limit) x xs each) parts.1 none))

  pub all_of_client : IsSplit → (bytes : List ℕ) → AreBytes bytes → AllOfClient bytes
  all_of_client split bytes are =
      let parts = split limit bytes small are in
      subst AllOfClient (sym parts.splits.whole) (client_from parts.frames parts.rest parts.splits.each (subst AreBytes parts.splits.whole are) parts.splits.no_more)

  -- ---- the upstream

  pub record AllOfUpstream (hs : List Header) (bytes : List ℕ) : Type 0 where
    pub replied : List Said
    pub are : IsReplied s limit hs bytes replied
    pub fated : RepliesFated s hs are.frames replied
    pub ends : (frame behind : List ℕ) (call : Header) → front limit are.rest ≡ Whole frame behind → slice_get hs (length are.frames) ≡ Some call → (h : Halt) × ((rules_of s).replied (kept s call) frame ≡ upstream.Halts h)

  -- no call waits for the next frame, or there is none
  none_replies : (hs : List Header) (bytes : List ℕ) → ((frame behind : List ℕ) (call : Header) → front limit bytes ≡ Whole frame behind → slice_get hs 0 ≡ Some call → (h : Halt) × UpstreamHalts s call frame h × ((rules_of s).replied (kept s call) frame ≡ upstream.Halts h)) → AllOfUpstream hs bytes
  none_replies hs bytes last = record {
    replied = [];
    are = record {
      frames = [];
      rest = bytes;
      taken = record { each = All-nil (λ frame. length frame ≤ limit); whole = refl };
      say = tt;
      going = All-nil (λ r. (h : Halt) → EndsUpstream r h → ⊥);
      last = λ frame behind call e at. let x = last frame behind call e at in (x.0, x.1);
    };
    fated = tt;
    ends = λ frame behind call e at. let x = last frame behind call e at in (x.0, x.2);
  }

  replies_on : (call : Header) (hs : List Header) (y bytes : List ℕ) (r : Said) → length y ≤ limit → Says (replying s call) y r → IsReplyFate s call y r → ((h : Halt) → EndsUpstream r h → ⊥) → AllOfUpstream hs bytes → AllOfUpstream (call ∷ hs) (framed y ++ bytes)
  replies_on call hs y bytes r within says is none all = record {
    replied = r ∷ all.replied;
    are = record {
      frames = y ∷ all.are.frames;
      rest = all.are.rest;
      taken = record { each = All-cons (λ frame. length frame ≤ limit) y all.are.frames within all.are.taken.each; whole = joined y all.are.rest (framed y ++ bytes) all.are.frames bytes all.are.taken.whole refl };
      say = (says, all.are.say);
      going = All-cons (λ q. (h : Halt) → EndsUpstream q h → ⊥) r all.replied none all.are.going;
      last = all.are.last;
    };
    fated = (is, all.fated);
    ends = all.ends;
  }

  by_reply : (call : Header) (hs : List Header) (y bytes : List ℕ) (r : Said) → length y ≤ limit → Says (replying s call) y r → IsReplyFate s call y r → AllOfUpstream hs bytes → AllOfUpstream (call ∷ hs) (framed y ++ bytes)
  by_reply call hs y bytes r within says (Answers refused v e none) all = replies_on call hs y bytes r within says (Answers refused v e none) none all
  by_reply call hs y bytes r within says (HaltsReply h v e ends) all =
      none_replies (call ∷ hs) (framed y ++ bytes) (λ frame behind other whole at.
      let same : call ≡ other = cc in
      let this = same_frame y frame bytes behind (sym (law limit y bytes small within) ∙ whole) in (
        h,
        subst (λ c. UpstreamHalts s c frame h) same (subst (λ z. UpstreamHalts s call z h) this (r, says, ends)),
        subst (λ c. (rules_of s).replied (kept s c) frame ≡ upstream.Halts h) same (subst (λ z. (rules_of s).replied (kept s call) z ≡ upstream.Halts h) this v),
      ))

  upstream_from : (hs : List Header) (ys : List (List ℕ)) (rest : List ℕ) → All (λ frame. length frame ≤ limit) ys → AreBytes (flat_map framed ys ++ rest) → is_whole (front limit rest) ≡ false → AllOfUpstream hs (flat_map framed ys ++ rest)
  upstream_from hs [] rest each are none = none_replies hs rest (λ frame behind call e at. let wrong : false ≡ true = sym none ∙ ap is_whole e in absurd (cc))
  upstream_from [] (y ∷ ys) rest each are none = none_replies [] _ (λ frame behind call e at. absurd (cc))
  upstream_from (call ∷ hs) (y ∷ ys) rest each are none =
      let laid : (framed y ++ flat_map framed ys) ++ rest ≡ framed y ++ (flat_map framed ys ++ rest) = append_assoc (framed y) (flat_map framed ys) rest in
      let parts = frame_bytes y (flat_map framed ys ++ rest) (subst AreBytes laid are) in
      let within = All-head (λ frame. length frame ≤ limit) y ys each in
      let f = reply_fate s call y parts.0 (omega (arith, within, small)) in
      subst (AllOfUpstream (call ∷ hs)) (sym laid) (by_reply call hs y (flat_map framed ys ++ rest) f.0 within f.1 f.2
      (upstream_from hs ys rest (All-tail (λ frame. length frame ≤ limit) y ys each) parts.1 none))

  pub all_of_upstream : IsSplit → (hs : List Header) (bytes : List ℕ) → AreBytes bytes → AllOfUpstream hs bytes
  all_of_upstream split hs bytes are =
      let parts = split limit bytes small are in
      subst (AllOfUpstream hs) (sym parts.splits.whole) (upstream_from hs parts.frames parts.rest parts.splits.each (subst AreBytes parts.splits.whole are) parts.splits.no_more)
