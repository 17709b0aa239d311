-- What is refused for what trails a message has a whole message before the fault.
use Rattle.std.proofs.Common.{◌≡◌, ℕ, ◌+◌, ◌<◌, ◌≤◌, ◌^◌, false, List, [], ◌∷◌, ◌++◌, length, drop, refl, ap, ◌∙◌, sym, subst, arith, ◌⊎◌, inl, inr, length-append, length-drop}
use Rattle.std.specs.Prelude.{◌==◌}
use Rattle.std.proofs.lemmas.Bool.Decides.{nat_tests}
use Rattle.thrift_value.specs.Items.{Item}
use Rattle.protocol_traits.specs.declared.fault.Fault.{Fault}
use Rattle.protocol_traits.specs.declared.fault.Reason.TheVariants as reasons
use Rattle.protocol_traits.specs.declared.nest.Slot.{Slot}
use Rattle.protocol_traits.specs.Heads.{Header}
use Rattle.type_tables.specs.declared.declared.Ty.{Ty}
use Rattle.type_tables.specs.Declarations.{Declarations}
use Rattle.type_walk.specs.declared.levels.Level.{Level}
use Rattle.type_walk.specs.Positions.{Position, hint_of, start}
use Rattle.json_text.specs.Scan.{is_white}
use Rattle.json_text_laws.proofs.Parts.{Apart, append_more, cut_len, parted}
use Rattle.json_protocol.specs.declared.opening.Opening.{Opening}
use Rattle.json_protocol.specs.declared.opening.Opening.TheVariants as openings
use Rattle.json_protocol.specs.Scan.{gap, further, mark_at}
use Rattle.json_protocol.specs.Reading.{State, begun, rest, reads}
use Rattle.json_protocol.specs.Head.{reads_head, end_scan, reads_end}
use Rattle.json_protocol.specs.Grammar.{Tokens, Laid, mark}
use Rattle.json_laws.specs.Fronts.{head_tokens, BeginsToken, levels_behind, opening_behind, body_nest}
use Rattle.json_laws.specs.Stated.{Known, IsRefused}
use Rattle.json_laws.specs.Faults.{IsSort, TrailsAt}
use Rattle.json_laws.specs.Reads.{Reads}
use Rattle.json_laws.specs.Refused.{behind, Refuses}
use Rattle.json_laws.proofs.Marks.{white_is, here, cut, begins_some}
use Rattle.json_laws.proofs.Trees.{tokens_append}
use Rattle.json_laws.proofs.Spelled.{At}
use Rattle.json_laws.proofs.Levels.{Ends}
use Rattle.json_laws.proofs.Inverse.{is_read, are_white, mark_behind}
use Rattle.json_laws.proofs.Either.{is_bad}
use Rattle.json_laws.proofs.HeadBack.{head_back}
use Rattle.json_laws.proofs.Sound.{is_step, begun_back}
use Rattle.json_laws.proofs.Stepping.{Stand}
use Rattle.json_laws.proofs.Fronting.{led_body}
use Rattle.json_laws.proofs.Named.{AreNamed}
use Rattle.json_laws.proofs.Cut.{Cuts, further_mark}
use Rattle.json_laws.proofs.Closing.{tied_long}
use Rattle.json_laws.proofs.Completing.{laid_join, Struck, Strikes, same_fault, no_read, bound_fault, either_fault, Shown, same_reason, mark_cut}
use Rattle.json_laws.proofs.ItemsCut.{by_side}
use Rattle.json_laws.proofs.Viable.{Goes, DeepAt, item_goes, reads_fault, ended_fault, begun_fault_of, head_goes, header_long}

abbrev Trails : Fault → Type 0
Trails f = f.reason ≡ reasons.Trailing

-- what trails a message strikes no token
no_token : (f : Fault) (bytes left token : List ℕ) → Trails f → Struck f bytes left token → ⊥
no_token f bytes left token t (inl (cut, more)) = let wrong = sym t ∙ cut in absurd (cc)
no_token f bytes left token t (inr b) = absurd (subst (λ r. IsSort r token) t b.sort)

no_strike : (n : ℕ) (bytes : List ℕ) (f : Fault) (tokens : Tokens) → Trails f → Strikes n bytes f tokens → ⊥
no_strike n bytes f tokens t s = no_token f bytes s.left s.token t s.struck

-- the bracket and whitespace, and then a byte that is none
record Trailed (bytes : List ℕ) (place : ℕ) : Type 0 where
  front : List ℕ
  left : List ℕ
  is : bytes ≡ front ++ left
  laid : Laid (mark 93 ∷ []) front
  begins : BeginsToken left
  place_is : place ≡ length front

behind_bracket : (bytes : List ℕ) (x : Unit {0}) (n : ℕ) → further 0 (mark_at 93) bytes ≡ is_read (x, n) → (n + gap (drop n bytes) == length bytes) ≡ false → Trailed bytes (n + gap (drop n bytes))
behind_bracket bytes x n e ends =
    let left = drop n bytes in
    let most : n ≤ length bytes = subst (Cuts (length bytes)) e (further_mark 93 0 bytes (omega arith)) in
    let c = cut (mark 93 ∷ []) bytes left (mark_behind 93 0 bytes x n e left ([] ∷ []) (here left)) in
    let p = parted is_white left in
    let long : gap left ≡ length p.front = ap gap p.joined ∙ cut_len is_white p.front p.rest p.all p.apart in
    let size : n ≡ length c.0 = omega (arith, most, ap length c.1, length-append c.0 left, length-drop n bytes) in
    let whole : length bytes ≡ (n + gap left) + length p.rest = omega (arith, size, long, ap length c.1, length-append c.0 left, ap length p.joined, length-append p.front p.rest) in
    record {
      front = c.0 ++ p.front;
      left = p.rest;
      is = c.1 ∙ ap (λ l. c.0 ++ l) p.joined ∙ sym (append_more c.0 p.front p.rest);
      laid = laid_join (mark 93 ∷ []) [] c.0 p.front c.2 (are_white p.front p.all);
      begins = of_rest p.rest whole p.apart;
      place_is = omega (arith, size, long, length-append c.0 p.front);
    }
  where
    of_rest : (r : List ℕ) → length bytes ≡ (n + gap (drop n bytes)) + length r → Apart is_white r → BeginsToken r
    of_rest [] whole apart = absurd (grind (arith, nat_tests))
    of_rest (y ∷ r) whole apart = λ white. (let wrong = sym (white_is y white) ∙ apart in absurd (cc))

-- ---- the end of a message

end_trails : (s : State) (f : Fault) → reads_end s ≡ is_bad f → Trails f → (g : Fault) × Trailed (rest s) g.place × Shown s.place g f
unfolding reads_end end_scan
end_trails s f e t =
    let g = ended_fault s (end_scan (rest s)) f e in
    let same = sym (same_reason s.place g.0 f g.2) ∙ t in (
      g.0,
      (by_side (bound_fault (further 0 (mark_at 93) (rest s)) _ g.0 g.1)
          (λ h. absurd (no_strike 0 (rest s) g.0 (mark 93 ∷ []) same (mark_cut 93 0 (rest s) g.0 h)))
          (λ a. by_side (either_fault (a.0.1 + gap (drop a.0.1 (rest s)) == length (rest s)) _ _ g.0 a.2)
          (λ h. absurd (no_read _ g.0 h.1))
          (λ h. subst (Trailed (rest s)) (ap (λ (y : Fault). y.place) (same_fault {X = Unit {0}} (record { place = a.0.1 + gap (drop a.0.1 (rest s)); reason = reasons.Trailing }) g.0 h.1)) (behind_bracket (rest s) a.0.0 a.0.1 a.1 h.0)))),
      g.2,
    )

-- ---- a whole frame

-- where no level is open
at_end : (d : Declarations) (nest : List Slot) (opening : Opening) (p : Position) (levels : List Level) (tys : List Ty) → nest ≡ [] → Stand d p nest opening levels tys → Ends d 256 opening nest tys [] (mark 93 ∷ [])
at_end d [] opening p levels [] none s = (refl, refl)
at_end d [] opening p levels (ty ∷ tys) none s = let long = tied_long d [] levels (ty ∷ tys) s.tied in absurd (omega (arith, long))
at_end d (slot ∷ up) opening p levels tys none s = let wrong = none in absurd (cc)

module _ (k : Known) (bytes : List ℕ) (f : Fault) (small : length bytes < 2 ^ 31) (t : Trails f) where
  no_item : (s : State) (p : Position) (nest : List Slot) (opening : Opening) (levels : List Level) (tys : List Ty) → At s nest opening (rest s) → Stand k.declared p nest opening levels tys → AreNamed nest → length nest ≤ 256 → length (rest s) + 10 < 2 ^ 31
      → (s.nest ≡ [] → ⊥) → reads s (hint_of p) ≡ is_bad f → ⊥
  no_item s p [] opening levels tys a stand named most room some e = some a.open_levels
  no_item s p (slot ∷ up) opening levels tys a stand named most room some e =
      let g = reads_fault s p (slot ∷ up) opening (rest s) f a e in
      let same : Trails g.0 = sym (same_reason s.place g.0 f g.2) ∙ t in
      by_depth g.0 same (item_goes k.declared slot up opening p levels tys (rest s) g.0 stand named most room g.1)
    where
      by_depth : (g : Fault) → Trails g → Goes k.declared opening (slot ∷ up) tys (rest s) g ⊎ DeepAt k.declared slot up opening (rest s) g → ⊥
      by_depth g same (inl c) = no_strike 0 (rest s) g c.tokens same c.strikes
      by_depth g same (inr deep) = let wrong = sym same ∙ deep.reason in absurd (cc)

  body_trails : (h : Header) (items : List Item) (first last : State) → reads_head (begun bytes) ≡ is_step (h, first) → Reads (start k.declared k.body) first items last → Refuses (behind (start k.declared k.body) items) last f → TrailsAt k bytes f.place
  body_trails h items first last headed_is body_read refuses =
      let b = begun_back bytes h first headed_is in
      let r = head_back bytes (h, b.0) b.1 b.2 in
      let l = led_body k.declared 256 (omega arith) k.body bytes first last items b.0 b.1 small b.3 body_read in
      let left = rest last in
      let tokens = head_tokens h.mtype r.name r.seq l.tokens in
      let x = cut tokens bytes left (r.lies left (l.tokens ++ ([] ∷ [])) (l.lies left ([] ∷ []) (here left))) in
      let room : length left + 10 < 2 ^ 31 = omega (arith, small, header_long h.mtype h.name r.name h.seq r.seq l.tokens x.0 r.text r.int x.2, ap length x.1, length-append x.0 left) in
      let nest = levels_behind body_nest items in
      let opening = opening_behind openings.Body items in
      let p = behind (start k.declared k.body) items in
      let frame_is : last.frame ≡ bytes = l.frame_is ∙ ap (λ (n : State). n.frame) b.3 in
      by_call (no_item last p nest opening l.levels l.types l.at l.stand (l.named tt) l.most room) (λ none e. (
      let g = end_trails last f e t in
      let y = g.1 in
      let w = l.onward [] (mark 93 ∷ []) (at_end k.declared nest opening p l.levels l.types (sym l.at.open_levels ∙ none) l.stand) in
      let m = w.one.2 in
      let whole : l.tokens ++ (mark 93 ∷ []) ≡ mark 123 ∷ (m.inner ++ (mark 125 ∷ mark 93 ∷ [])) =
      w.laid ∙ ap (λ z. z ++ w.back) (w.one.1 ∙ ap (λ z. mark 123 ∷ z) m.laid) ∙ ap (λ z. (mark 123 ∷ (m.inner ++ mark 125 ∷ [])) ++ z) w.two.1 ∙ ap (λ z. mark 123 ∷ z) (tokens_append m.inner (mark 125 ∷ []) (mark 93 ∷ [])) in
      let laid : Laid (head_tokens h.mtype r.name r.seq (l.tokens ++ (mark 93 ∷ []))) (x.0 ++ y.front) = laid_join tokens (mark 93 ∷ []) x.0 y.front x.2 y.laid in
      let place_is : f.place ≡ last.place + (g.0).place = ap (λ (q : Fault). q.place) g.2 in
      let some = begins_some y.left y.begins in
      record {
        message = record { name = h.name; mtype = h.mtype; seq = h.seq; body = m.ms };
        shallow = omega (arith, m.deep);
        front = x.0 ++ y.front;
        left = y.left;
        spelled = (r.name, r.seq, m.inner, r.text, r.int, r.fits, m.are, m.spells, subst (λ z. Laid (head_tokens h.mtype r.name r.seq z) (x.0 ++ y.front)) whole laid);
        is = x.1 ∙ ap (λ z. x.0 ++ z) y.is ∙ sym (append_more x.0 y.front y.left);
        begins = y.begins;
        place_is = place_is ∙ placed last bytes x.0 y.front y.left (g.0).place frame_is x.1 y.is y.place_is some;
      }
      )) refuses
    where
      by_call : ((last.nest ≡ [] → ⊥) → reads last (hint_of (behind (start k.declared k.body) items)) ≡ is_bad f → ⊥) → (last.nest ≡ [] → reads_end last ≡ is_bad f → TrailsAt k bytes f.place) → Refuses (behind (start k.declared k.body) items) last f → TrailsAt k bytes f.place
      by_call items_go ends_go (inl (some, e)) = absurd (items_go some e)
      by_call items_go ends_go (inr (none, e)) = ends_go none e

      placed : (s : State) (b front more left : List ℕ) (n : ℕ) → s.frame ≡ b → b ≡ front ++ rest s → rest s ≡ more ++ left → n ≡ length more → 1 ≤ length left → s.place + n ≡ length (front ++ more)
      placed s b front more left n frame_is is is_rest at some =
          omega (arith, ap length frame_is, ap length is, length-append front (rest s), ap length is_rest, length-append more left, at, some, length-append front more, length-drop s.place s.frame)

  pub trails : IsRefused k bytes f → TrailsAt k bytes f.place
  trails (inl e) =
      let g = begun_fault_of bytes f e in
      let same : Trails g.0 = sym (same_reason 0 g.0 f g.2) ∙ t in
      let h = head_goes k.declared k.body bytes g.0 g.1 in
      absurd (no_strike 0 bytes g.0 h.tokens same h.strikes)
  trails (inr (h, items, first, last, head, body_read, refuses)) = body_trails h items first last head body_read refuses
