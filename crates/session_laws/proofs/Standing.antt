-- The frames of both sides that were taken, counted.
use Rattle.std.proofs.Common.{◌≡◌, ℕ, zero, suc, ◌<◌, ◌≤◌, ◌^◌, inl, inr, List, [], ◌∷◌, ◌++◌, length, length-append, take, drop, map, None, Some, slice_get, refl, ap, ◌∙◌, sym, subst, append_assoc, arith}
use Rattle.std.specs.List.{flat_map}
use Rattle.std.proofs.lemmas.List.{length-map, length-take, take-append-drop}
use Rattle.std.proofs.lemmas.List.Elements.{All-take}
use Rattle.std.proofs.lemmas.Grind.{flat_map-append}
use Rattle.protocol_traits.specs.Heads.{Header}
use Rattle.framed_transport.specs.Frames.{framed}
use Rattle.session_core.specs.Standing.{Standing, History}
use Rattle.session_core.specs.Stands as session
use Rattle.session_core.specs.Fits.{Fits}
use Rattle.session_core.specs.Ends.{IsAtRest}
use Rattle.session_core.specs.declared.judge.Call.{Call}
use Rattle.session_core.specs.declared.judge.ClientJudged.TheVariants as client
use Rattle.session_core.specs.declared.outcome.Halt.{Halt}
use Rattle.session_core.proofs.Greatest.{StandsAtFront, Compared, compared, all_due}
use Rattle.session_judge.specs.Setting.{Setting}
use Rattle.session_judge.specs.Rules.{rules_of}
use Rattle.translate_verdicts.specs.declared.verdict.Cause.{Cause}
use Rattle.session_laws.specs.Saying.{Said}
use Rattle.session_laws.specs.Exchange.{Waits, Tells, Ends, opened, done, calls, onward, back, EndsUpstream}
use Rattle.session_laws.specs.Exchange as exchange
use Rattle.session_laws.specs.Carrying.{IsStand, IsComplete}
use Rattle.session_laws.proofs.Fates.{IsFate, Opens, Goes, IsAnswered, IsDropped, Halts}
use Rattle.session_laws.proofs.Replies.{kept, IsReplyFate}
use Rattle.session_laws.proofs.Listing.{RepliesFated, calls_are, onward_is, back_is}
use Rattle.session_laws.proofs.Placing.{all_at, get_map, get_here, take_here, split_at, get_some, take_get, take_twice, say_at, said_at, say_take, say_length, reply_at, reply_take, reply_fewer, reply_length}
use Rattle.session_laws.proofs.Carrying.{halts_is, reply_halts_is, Both}

-- a refused call is answered
tells_is : (s : Setting) (x : List ℕ) (a : Said) (cause : Cause) → IsFate s x a → (rules_of s).judged x ≡ client.Refused cause → (answer : List ℕ) × (done s a ≡ Tells answer)
tells_is s x a cause (Opens g out j o d p) e = let wrong = sym j ∙ e in absurd (cc)
tells_is s x a cause (Goes out j o d p) e = let wrong = sym j ∙ e in absurd (cc)
tells_is s x a cause (IsAnswered c answer j o d p) e = (answer, d)
tells_is s x a cause (IsDropped other j d p) e = let wrong = sym j ∙ e in absurd (cc)
tells_is s x a cause (Halts g j d p) e = let wrong = sym j ∙ e in absurd (cc)

is_refused : (s : Setting) (x : List ℕ) (a : Said) (answer : List ℕ) → IsFate s x a → done s a ≡ Tells answer → (cause : Cause) × ((rules_of s).judged x ≡ client.Refused cause)
is_refused s x a answer (Opens g out j o d p) e = let wrong : Waits g ≡ Tells answer = sym d ∙ e in absurd (cc)
is_refused s x a answer (Goes out j o d p) e = let wrong : exchange.Passes ≡ Tells answer = sym d ∙ e in absurd (cc)
is_refused s x a answer (IsAnswered cause told j o d p) e = (cause, j)
is_refused s x a answer (IsDropped cause j d p) e = let wrong : exchange.Passes ≡ Tells answer = sym d ∙ e in absurd (cc)
is_refused s x a answer (Halts g j d p) e = let wrong : Ends g ≡ Tells answer = sym d ∙ e in absurd (cc)

get_longer : {X : Type 0} (xs more : List X) (k : ℕ) (x : X) → slice_get xs k ≡ Some x → slice_get (xs ++ more) k ≡ Some x
get_longer [] more k x e = absurd (cc)
get_longer (y ∷ xs) more zero x e = e
get_longer (y ∷ xs) more (suc k) x e = get_longer xs more k x e

calls_join : (s : Setting) (said bs : List Said) → calls s (said ++ bs) ≡ calls s said ++ calls s bs
calls_join s [] bs = refl
calls_join s (a ∷ said) bs = ap (λ t. opened (done s a) ++ t) (calls_join s said bs) ∙ sym (append_assoc (opened (done s a)) (calls s said) (calls s bs))

-- the calls of the first frames, and of all
calls_front : (s : Setting) (said : List Said) (n : ℕ) → calls s said ≡ calls s (take n said) ++ calls s (drop n said)
calls_front s said n = ap (calls s) (sym (take-append-drop n said)) ∙ calls_join s (take n said) (drop n said)

pub taken_front : (limit n : ℕ) (bytes : List ℕ) (frames : List (List ℕ)) (rest : List ℕ) → session.IsTaken limit bytes frames rest → session.IsTaken limit bytes (take n frames) (flat_map framed (drop n frames) ++ rest)
taken_front limit n bytes frames rest taken = record {
  each = All-take (λ frame. length frame ≤ limit) n frames taken.each;
  whole =
      taken.whole ∙ (ap (λ t. flat_map framed t ++ rest) (sym (take-append-drop n frames))
      ∙ (ap (λ t. t ++ rest) (flat_map-append framed (take n frames) (drop n frames)) ∙ append_assoc (flat_map framed (take n frames)) (flat_map framed (drop n frames)) rest));
}

module _ (s : Setting) (limit max_calls : ℕ) (law : StandsAtFront) (small : limit < 2 ^ 31) (h : History) (b : Both s limit law small h) where
  abbrev xs_all : List (List ℕ)
  xs_all = b.client.are.frames

  abbrev ys_all : List (List ℕ)
  ys_all = b.upstream.are.frames

  abbrev asked : List Said
  asked = b.client.asked

  abbrev replied : List Said
  replied = b.upstream.replied

  long : length xs_all ≡ length asked
  long = say_length (IsFate s) xs_all asked b.client.fated

  long_replied : length ys_all ≡ length replied
  long_replied = reply_length (IsReplyFate s) (calls s asked) ys_all replied b.upstream.fated

  -- the calls of the first frames, by the rules and by what they say
  calls_taken : (n : ℕ) → session.calls_of (rules_of s) (take n xs_all) ≡ map (kept s) (calls s (take n asked))
  calls_taken n = calls_are s (take n xs_all) (take n asked) (say_take (IsFate s) n xs_all asked b.client.fated)

  count_taken : (n : ℕ) → length (session.calls_of (rules_of s) (take n xs_all)) ≡ length (calls s (take n asked))
  count_taken n = ap length (calls_taken n) ∙ length-map (calls s (take n asked)) (kept s)

  fate_at : (k : ℕ) (x : List ℕ) → slice_get xs_all k ≡ Some x → (a : Said) × (slice_get asked k ≡ Some a) × IsFate s x a
  fate_at k x e = say_at (IsFate s) xs_all asked k x b.client.fated e

  -- ---- a stand by numbers is one by frames

  module _ (k l : ℕ) (stand : IsStand s max_calls asked replied k l) where
    inside : (early late : List (List ℕ)) (x : List ℕ) → take k xs_all ≡ early ++ x ∷ late → length early < k
    inside early late x e = omega (arith, ap length e, length-append early (x ∷ late), length-take k xs_all)

    here : (early late : List (List ℕ)) (x : List ℕ) → take k xs_all ≡ early ++ x ∷ late → slice_get xs_all (length early) ≡ Some x
    here early late x e = sym (take_get xs_all k (length early) (inside early late x e)) ∙ (ap (λ t. slice_get t (length early)) e ∙ get_here early late x)

    front_is : (early late : List (List ℕ)) (x : List ℕ) → take k xs_all ≡ early ++ x ∷ late → early ≡ take (length early) xs_all
    front_is early late x e =
        let n = length early in
        sym (take_here early (x ∷ late)) ∙ (ap (take n) (sym e) ∙ take_twice xs_all k n (omega (arith, inside early late x e)))

    count_is : (early late : List (List ℕ)) (x : List ℕ) → take k xs_all ≡ early ++ x ∷ late → length (session.calls_of (rules_of s) early) ≡ length (calls s (take (length early) asked))
    count_is early late x e = ap (λ t. length (session.calls_of (rules_of s) t)) (front_is early late x e) ∙ count_taken (length early)

    replies_long : length (take l ys_all) ≡ l
    replies_long = omega (arith, length-take l ys_all, stand.some_replied, long_replied)

    here_replied : (early late : List (List ℕ)) (y : List ℕ) → take l ys_all ≡ early ++ y ∷ late → slice_get ys_all (length early) ≡ Some y
    here_replied early late y e =
        let some : length early < l = omega (arith, ap length e, length-append early (y ∷ late), length-take l ys_all) in
        sym (take_get ys_all l (length early) some) ∙ (ap (λ t. slice_get t (length early)) e ∙ get_here early late y)

    -- the call in a place of the first frames is that in the same place of all
    call_is : (n : ℕ) (call : Call) → slice_get (session.calls_of (rules_of s) (take k xs_all)) n ≡ Some call → (g : Header) × (slice_get (calls s asked) n ≡ Some g) × (call ≡ kept s g)
    call_is n call e =
        let m = get_map (kept s) (calls s (take k asked)) n call (sym (ap (λ t. slice_get t n) (calls_taken k)) ∙ e) in
        (m.0, ap (λ t. slice_get t n) (calls_front s asked k) ∙ get_longer (calls s (take k asked)) (calls s (drop k asked)) n m.0 m.1, m.2)

    pub lawful : session.IsLawful (rules_of s) max_calls (take k xs_all) (take l ys_all)
    lawful = record {
      passes = λ early late x g e j.
          let a = fate_at (length early) x (here early late x e) in
          all_at (λ c. (i : Halt) → done s c ≡ Ends i → ⊥) asked (length early) a.0 b.client.are.going a.1 g (halts_is s x a.0 g a.2 j);
      few = λ early late x e. omega (arith, count_is early late x e, stand.few (length early) (inside early late x e), replies_long);
      in_turn = λ early late x cause e j.
          let a = fate_at (length early) x (here early late x e) in
          let tells = tells_is s x a.0 cause a.2 j in
          omega (arith, count_is early late x e, stand.in_turn (length early) a.0 tells.0 (inside early late x e) a.1 tells.1, replies_long);
      paired = omega (arith, replies_long, count_taken k, stand.paired);
      replies = λ early late y call g e at j.
          let r = reply_at (IsReplyFate s) (calls s asked) ys_all replied (length early) y b.upstream.fated (here_replied early late y e) in
          let c = call_is (length early) call at in
          let same : c.0 ≡ r.0 = cc in
          all_at (λ q. (i : Halt) → EndsUpstream q i → ⊥) replied (length early) r.1 b.upstream.are.going r.3 g
          (reply_halts_is s r.0 y r.1 g r.4 (ap (λ c. (rules_of s).replied (kept s c) y) (sym same) ∙ (ap (λ c. (rules_of s).replied c y) (sym c.2) ∙ j)));
    }

    abbrev pub frames_stand : session.Stand (rules_of s) limit max_calls h.from_client h.from_upstream
    frames_stand = record {
      xs = take k xs_all;
      ys = take l ys_all;
      client_rest = flat_map framed (drop k xs_all) ++ b.client.are.rest;
      upstream_rest = flat_map framed (drop l ys_all) ++ b.upstream.are.rest;
      lawful = lawful;
      client = taken_front limit k h.from_client xs_all b.client.are.rest b.client.are.taken;
      upstream = taken_front limit l h.from_upstream ys_all b.upstream.are.rest b.upstream.are.taken;
    }

    pub counts : (length (take k xs_all) ≡ k) × (length (take l ys_all) ≡ l)
    counts = (omega (arith, length-take k xs_all, stand.some_asked, long), replies_long)

  -- ---- and a stand by frames is one by numbers

  module _ (st : session.Stand (rules_of s) limit max_calls h.from_client h.from_upstream) where
    abbrev pub i : ℕ
    i = length st.xs

    abbrev pub j : ℕ
    j = length st.ys

    client_more : Compared limit xs_all st.xs b.client.are.rest → (more : List (List ℕ)) × (xs_all ≡ st.xs ++ more)
    client_more (inl (more, e)) = (more, e)
    client_more (inr (x, more, behind, e, w)) = let ends = b.client.ends x behind w in absurd (st.lawful.passes xs_all more x ends.0 e ends.1)

    xs_more : (more : List (List ℕ)) × (xs_all ≡ st.xs ++ more)
    xs_more = client_more (compared limit h.from_client xs_all st.xs b.client.are.rest st.client_rest law small b.client.are.taken st.client)

    pub xs_are : st.xs ≡ take i xs_all
    xs_are = sym (take_here st.xs xs_more.0) ∙ ap (take i) (sym xs_more.1)

    pub calls_are_taken : session.calls_of (rules_of s) st.xs ≡ map (kept s) (calls s (take i asked))
    calls_are_taken = ap (session.calls_of (rules_of s)) xs_are ∙ calls_taken i

    upstream_more : Compared limit ys_all st.ys b.upstream.are.rest → (more : List (List ℕ)) × (ys_all ≡ st.ys ++ more)
    upstream_more (inl (more, e)) = (more, e)
    upstream_more (inr (y, more, behind, e, w)) =
        let n = length ys_all in
        let some : n < length (session.calls_of (rules_of s) st.xs) = omega (arith, st.lawful.paired, ap length e, length-append ys_all (y ∷ more)) in
        let c = get_some (session.calls_of (rules_of s) st.xs) n some in
        let g = get_map (kept s) (calls s (take i asked)) n c.0 (sym (ap (λ q. slice_get q n) calls_are_taken) ∙ c.1) in
        let at : slice_get (calls s asked) n ≡ Some g.0 = ap (λ q. slice_get q n) (calls_front s asked i) ∙ get_longer (calls s (take i asked)) (calls s (drop i asked)) n g.0 g.1 in
        let ends = b.upstream.ends y behind g.0 w at in
        absurd (st.lawful.replies ys_all more y c.0 ends.0 e c.1 (ap (λ q. (rules_of s).replied q y) g.2 ∙ ends.1))

    ys_more : (more : List (List ℕ)) × (ys_all ≡ st.ys ++ more)
    ys_more = upstream_more (compared limit h.from_upstream ys_all st.ys b.upstream.are.rest st.upstream_rest law small b.upstream.are.taken st.upstream)

    pub ys_are : st.ys ≡ take j ys_all
    ys_are = sym (take_here st.ys ys_more.0) ∙ ap (take j) (sym ys_more.1)

    -- what stands before a frame that was taken
    before : (n : ℕ) (x : List ℕ) → n < i → slice_get xs_all n ≡ Some x → (early : List (List ℕ)) × (late : List (List ℕ)) × (st.xs ≡ early ++ x ∷ late) × (early ≡ take n xs_all)
    before n x lt e =
        let r = split_at st.xs n x (ap (λ q. slice_get q n) xs_are ∙ (take_get xs_all i n lt ∙ e)) in
        (take n st.xs, r.0, r.1, ap (take n) xs_are ∙ take_twice xs_all i n (omega (arith, lt)))

    pub numbers_stand : IsStand s max_calls asked replied i j
    numbers_stand = record {
      some_asked = omega (arith, long, ap length xs_more.1, length-append st.xs xs_more.0);
      some_replied = omega (arith, long_replied, ap length ys_more.1, length-append st.ys ys_more.0);
      few = λ n lt.
          let x = get_some xs_all n (omega (arith, lt, ap length xs_more.1, length-append st.xs xs_more.0)) in
          let at = before n x.0 lt x.1 in
          omega (arith, st.lawful.few at.0 at.1 x.0 at.2, ap (λ q. length (session.calls_of (rules_of s) q)) at.3, count_taken n);
      in_turn = λ n a answer lt e d.
          let x = said_at (IsFate s) xs_all asked n a b.client.fated e in
          let cause = is_refused s x.0 a answer x.2 d in
          let at = before n x.0 lt x.1 in
          omega (arith, st.lawful.in_turn at.0 at.1 x.0 cause.0 at.2 cause.1, ap (λ q. length (session.calls_of (rules_of s) q)) at.3, count_taken n);
      paired = omega (arith, st.lawful.paired, ap length calls_are_taken, length-map (calls s (take i asked)) (kept s));
    }

    pub onward_taken : session.onward (rules_of s) st.xs ≡ flat_map framed (onward s (take i asked))
    onward_taken = ap (session.onward (rules_of s)) xs_are ∙ onward_is s (take i xs_all) (take i asked) (say_take (IsFate s) i xs_all asked b.client.fated)

    replies_taken : RepliesFated s (calls s (take i asked)) (take j ys_all) (take j replied)
    replies_taken =
        reply_fewer (IsReplyFate s) (calls s (take i asked)) (calls s (drop i asked)) (take j ys_all) (take j replied)
        (omega (arith, st.lawful.paired, ap length calls_are_taken, length-map (calls s (take i asked)) (kept s), ap length ys_are))
        (subst (λ hs. RepliesFated s hs (take j ys_all) (take j replied)) (calls_front s asked i) (reply_take (IsReplyFate s) j (calls s asked) ys_all replied b.upstream.fated))

    pub back_taken : session.back (rules_of s) st.xs st.ys ≡ flat_map framed (back s (take i asked) (take j replied))
    back_taken =
        ap (λ q. session.back (rules_of s) q st.ys) xs_are ∙ (ap (session.back (rules_of s) (take i xs_all)) ys_are
        ∙ back_is s (take i xs_all) (take i asked) (take j ys_all) (take j replied) (say_take (IsFate s) i xs_all asked b.client.fated) replies_taken)

  -- ---- a session at rest that owes nothing

  pub completed : (t : Standing) → 0 < max_calls → Fits (rules_of s) limit max_calls h t → IsAtRest (rules_of s) limit max_calls t None → t.to_client ≡ [] → t.to_upstream ≡ [] → IsComplete s max_calls asked replied h
  completed t some f rest client upstream =
      let due = all_due law (rules_of s) limit max_calls h t small some f rest client upstream in
      record {
        i = length due.at.xs;
        j = length due.at.ys;
        sent = record { stand = numbers_stand due.at; to_upstream = due.calls ∙ onward_taken due.at; to_client = due.answers ∙ back_taken due.at };
        greatest = λ k l stand.
            let more = due.greatest (frames_stand k l stand) in
            let n = counts k l stand in
            (omega (arith, more.0, n.0), omega (arith, more.1, n.1));
      }
