-- Why a session ended, by what its frames say.
use Rattle.std.proofs.Common.{◌≡◌, ℕ, ℤ, ◌+◌, ◌-◌, ◌<◌, ◌≤◌, ◌^◌, List, [], ◌∷◌, ◌++◌, length, take, drop, map, Bool, true, false, nat_lt, if◌then◌else◌, Some, slice_get, refl, ap, ◌∙◌, sym, subst, arith, length-take}
use Rattle.std.specs.List.{flat_map}
use Rattle.std.proofs.lemmas.Bool.Decides.{nat_tests}
use Rattle.std.specs.Int.{from_be_bytes, cast_signed, w32}
use Rattle.std.proofs.lemmas.List.{append-nil, length-map, length-drop, take-append-drop}
use Rattle.protocol_traits.specs.Heads.{Header}
use Rattle.framed_transport.specs.Frames.{framed}
use Rattle.framed_transport.specs.Front.{Part, Whole, Large, front}
use Rattle.session_core.specs.Standing.{Standing, History}
use Rattle.session_core.specs.Stands as session
use Rattle.session_core.specs.Fits.{Fits, told}
use Rattle.session_core.specs.Steps.{outcome_of}
use Rattle.session_core.specs.declared.judge.Call.{Call}
use Rattle.session_core.specs.declared.outcome.Halt.{Halt}
use Rattle.session_core.specs.declared.outcome.Outcome.{Outcome}
use Rattle.session_core.specs.declared.outcome.Outcome.TheVariants as outcome
use Rattle.session_core.proofs.Fitting.{get_dropped}
use Rattle.session_core.proofs.Greatest.{StandsAtFront}
use Rattle.session_judge.specs.Setting.{Setting}
use Rattle.session_judge.specs.Rules.{rules_of}
use Rattle.gate_base.specs.Bytes.{AreBytes}
use Rattle.binary_laws.proofs.Inverse.{bytes_front}
use Rattle.session_laws.specs.Exchange.{calls}
use Rattle.session_laws.specs.Streaming.{ClientHalts, UpstreamHalts}
use Rattle.session_laws.specs.Carrying.{Halted, ByFrame, ByLength, WithinAFrame, Why, ByClient, ByUpstream, WithoutUpstream, AtTheEnd, WithOneMore, IsEnded}
use Rattle.session_laws.proofs.Fates.{fate}
use Rattle.session_laws.proofs.Replies.{kept, reply_fate}
use Rattle.session_laws.proofs.Placing.{get_map}
use Rattle.session_laws.proofs.Carrying.{Both, carried, halts_is, reply_halts_is}
use Rattle.session_laws.proofs.Standing.{numbers_stand, xs_are, ys_are, calls_are_taken, onward_taken, back_taken}
use Rattle.session_laws.proofs.Ending.{ClientHaltsBy, UpstreamHaltsBy, WhyBy, ClientBy, UpstreamBy, GoneBy, CleanBy, MoreBy, over_by}

-- ---- the frame at the front of bytes is bytes

bytes_taken : (n : ℕ) (bytes : List ℕ) → AreBytes bytes → AreBytes (take n bytes)
bytes_taken n bytes are = (bytes_front (take n bytes) (drop n bytes) (subst AreBytes (sym (take-append-drop n bytes)) are)).0

bytes_dropped : (n : ℕ) (bytes : List ℕ) → AreBytes bytes → AreBytes (drop n bytes)
bytes_dropped n bytes are = (bytes_front (take n bytes) (drop n bytes) (subst AreBytes (sym (take-append-drop n bytes)) are)).1

whole_by : (short large cut : Bool) (z : ℤ) (inner outer frame behind : List ℕ) → (if short then Part else if large then Large z else if cut then Part else Whole inner outer) ≡ Whole frame behind → inner ≡ frame
whole_by true large cut z inner outer frame behind e = absurd (cc)
whole_by false true cut z inner outer frame behind e = absurd (cc)
whole_by false false true z inner outer frame behind e = absurd (cc)
whole_by false false false z inner outer frame behind e = cc

frame_of : (limit : ℕ) (bytes frame behind : List ℕ) → front limit bytes ≡ Whole frame behind → AreBytes bytes → AreBytes frame
unfolding front
frame_of limit bytes frame behind e are =
    subst AreBytes
    (whole_by (nat_lt (length bytes) 4) (nat_lt limit (from_be_bytes w32 (take 4 bytes))) (nat_lt (length bytes - 4) (from_be_bytes w32 (take 4 bytes))) (cast_signed w32 (from_be_bytes w32 (take 4 bytes)))
    (take (from_be_bytes w32 (take 4 bytes)) (drop 4 bytes)) (drop (from_be_bytes w32 (take 4 bytes)) (drop 4 bytes)) frame behind e)
    (bytes_taken (from_be_bytes w32 (take 4 bytes)) (drop 4 bytes) (bytes_dropped 4 bytes are))

-- and no longer than the limit
within_by : (short cut large : Bool) (limit n : ℕ) (z : ℤ) (inner outer frame behind : List ℕ) → nat_lt limit n ≡ large → length inner ≤ n
    → (if short then Part else if large then Large z else if cut then Part else Whole inner outer) ≡ Whole frame behind → length frame ≤ limit
within_by true cut large limit n z inner outer frame behind few most e = absurd (cc)
within_by false cut true limit n z inner outer frame behind few most e = absurd (cc)
within_by false true false limit n z inner outer frame behind few most e = absurd (cc)
within_by false false false limit n z inner outer frame behind few most e =
    let same : inner ≡ frame = cc in
    let size = ap length same in
    grind (arith, nat_tests)

small_of : (limit : ℕ) → limit < 2 ^ 31 → (bytes frame behind : List ℕ) → front limit bytes ≡ Whole frame behind → length frame < 2 ^ 31
unfolding front
small_of limit small bytes frame behind e =
    let n = from_be_bytes w32 (take 4 bytes) in
    let within = within_by (nat_lt (length bytes) 4) (nat_lt (length bytes - 4) n) (nat_lt limit n) limit n (cast_signed w32 n) (take n (drop 4 bytes)) (drop n (drop 4 bytes)) frame behind refl (omega (arith, length-take n (drop 4 bytes))) e in
    omega (arith, within, small)

rest_bytes : (limit : ℕ) (bytes : List ℕ) (frames : List (List ℕ)) (rest : List ℕ) → session.IsTaken limit bytes frames rest → AreBytes bytes → AreBytes rest
rest_bytes limit bytes frames rest taken are = (bytes_front (flat_map framed frames) rest (subst AreBytes taken.whole are)).1

halted_too : (F G : List ℕ → Halt → Type 0) (limit : ℕ) (rest : List ℕ) (ended : Bool) (x : Halt) → ((frame behind : List ℕ) (y : Halt) → front limit rest ≡ Whole frame behind → F frame y → G frame y) → Halted F limit rest ended x → Halted G limit rest ended x
halted_too F G limit rest ended x same (ByFrame frame behind y e f) = ByFrame frame behind y e (same frame behind y e f)
halted_too F G limit rest ended x same (ByLength n e) = ByLength n e
halted_too F G limit rest ended x same (WithinAFrame a b c) = WithinAFrame a b c

none_due : (sent due whole : List ℕ) → due ≡ [] → sent ++ due ≡ whole → sent ≡ whole
none_due sent due whole e h = sym (append-nil sent) ∙ (ap (λ b. sent ++ b) (sym e) ∙ h)

next_is : (n m : ℕ) → n ≡ told m → told (n + 1) ≡ told (m + 1)
next_is n m e = omega (arith, e)

module _ (s : Setting) (limit max_calls : ℕ) (law : StandsAtFront) (small : limit < 2 ^ 31) (h : History) (b : Both s limit law small h)
    (client : AreBytes h.from_client) (upstream : AreBytes h.from_upstream) (t : Standing) (f : Fits (rules_of s) limit max_calls h t) where
  abbrev st : session.Stand (rules_of s) limit max_calls h.from_client h.from_upstream
  st = record { xs = f.xs; ys = f.ys; client_rest = t.client; upstream_rest = t.upstream; lawful = f.lawful; client = f.client; upstream = f.upstream }

  abbrev i : ℕ
  i = length f.xs

  abbrev j : ℕ
  j = length f.ys

  abbrev opened : List Header
  opened = calls s (take i b.client.asked)

  calls_by : session.calls_of (rules_of s) f.xs ≡ map (kept s) opened
  calls_by = calls_are_taken s limit max_calls law small h b st

  open_count : length t.calls ≡ length opened - j
  open_count = omega (arith, ap length f.calls, length-drop j (session.calls_of (rules_of s) f.xs), ap length calls_by, length-map opened (kept s))

  all_answered : t.calls ≡ [] → length opened ≡ j
  all_answered none = omega (arith, open_count, ap length none, f.lawful.paired, ap length calls_by, length-map opened (kept s))

  client_halts : (x : Halt) → Halted (ClientHaltsBy (rules_of s)) limit t.client t.client_ended x → Halted (ClientHalts s) limit t.client h.client_ended x
  client_halts x halted =
      subst (λ e. Halted (ClientHalts s) limit t.client e x) f.client_ended
      (halted_too (ClientHaltsBy (rules_of s)) (ClientHalts s) limit t.client t.client_ended x
      (λ frame behind y e halts. let z = fate s frame (frame_of limit t.client frame behind e (rest_bytes limit h.from_client f.xs t.client f.client client)) (small_of limit small t.client frame behind e) in (z.0, z.1, halts_is s frame z.0 y z.2 halts)) halted)

  upstream_halts : (call : Call) (g : Header) (x : Halt) → call ≡ kept s g → Halted (UpstreamHaltsBy (rules_of s) call) limit t.upstream t.upstream_ended x → Halted (UpstreamHalts s g) limit t.upstream h.upstream_ended x
  upstream_halts call g x same halted =
      subst (λ e. Halted (UpstreamHalts s g) limit t.upstream e x) f.upstream_ended
      (halted_too (UpstreamHaltsBy (rules_of s) call) (UpstreamHalts s g) limit t.upstream t.upstream_ended x
      (λ frame behind y e halts.
      let z = reply_fate s g frame (frame_of limit t.upstream frame behind e (rest_bytes limit h.from_upstream f.ys t.upstream f.upstream upstream)) (small_of limit small t.upstream frame behind e) in
      (z.0, z.1, reply_halts_is s g frame z.0 y z.2 (ap (λ c. (rules_of s).replied c frame) (sym same) ∙ halts))) halted)

  next_call : (call : Call) (rest : List Call) → t.calls ≡ call ∷ rest → (g : Header) × (slice_get opened j ≡ Some g) × (call ≡ kept s g)
  next_call call rest e = get_map (kept s) opened j call (sym (ap (λ q. slice_get q j) calls_by) ∙ get_dropped (session.calls_of (rules_of s) f.xs) j call rest (sym f.calls ∙ e))

  why_is : (o : Outcome) → WhyBy (rules_of s) limit t o → Why s limit h opened i j t.client t.upstream o
  why_is o (ClientBy x none halted) =
      subst (λ n. Why s limit h opened i j t.client t.upstream (outcome.ClientFault n x)) (sym (next_is t.taken i f.taken)) (ByClient x (all_answered none) (client_halts x halted))
  why_is o (UpstreamBy call rest x e halted) =
      let g = next_call call rest e in
      subst (λ n. Why s limit h opened i j t.client t.upstream (outcome.UpstreamFault n x)) (sym (next_is t.answered j f.answered)) (ByUpstream g.0 x g.1 (upstream_halts call g.0 x g.2 halted))
  why_is o (GoneBy call rest e ended none) =
      subst (λ n. Why s limit h opened i j t.client t.upstream (outcome.UpstreamEnded n)) (sym open_count)
      (WithoutUpstream (omega (arith, open_count, ap length e)) (sym f.upstream_ended ∙ ended) none)
  why_is o (CleanBy none ended empty part) = AtTheEnd (all_answered none) (sym f.client_ended ∙ ended) empty part
  why_is o (MoreBy none ended empty part) =
      subst (λ n. Why s limit h opened i j t.client t.upstream (outcome.Unsolicited (told (t.answered + 1)) n)) (sym f.answered)
      (subst (λ n. Why s limit h opened i j t.client t.upstream (outcome.Unsolicited n (told j))) (sym (next_is t.answered j f.answered)) (WithOneMore (all_answered none) (sym f.client_ended ∙ ended) empty part))

  -- a session with an outcome of its own
  pub ended : (o : Outcome) → 0 < max_calls → outcome_of (rules_of s) limit max_calls t ≡ Some o → IsEnded s limit max_calls h (carried s limit law small max_calls h t b f) o
  ended o some e =
      let over = over_by (rules_of s) limit max_calls t o some e in
      record {
        i = i;
        j = j;
        client_rest = t.client;
        upstream_rest = t.upstream;
        client = subst (λ xs. session.IsTaken limit h.from_client xs t.client) (xs_are s limit max_calls law small h b st) f.client;
        upstream = subst (λ ys. session.IsTaken limit h.from_upstream ys t.upstream) (ys_are s limit max_calls law small h b st) f.upstream;
        sent = record {
          stand = numbers_stand s limit max_calls law small h b st;
          to_upstream = none_due h.to_upstream t.to_upstream (session.onward (rules_of s) f.xs) over.upstream f.to_upstream ∙ onward_taken s limit max_calls law small h b st;
          to_client = none_due h.to_client t.to_client (session.back (rules_of s) f.xs f.ys) over.client f.to_client ∙ back_taken s limit max_calls law small h b st;
        };
        why = why_is o over.why;
      }
