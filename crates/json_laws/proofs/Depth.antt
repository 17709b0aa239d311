-- What is refused as too deep has a value called for there, inside 256 levels.
use Rattle.std.proofs.Common.{◌≡◌, ℕ, suc, ◌+◌, ◌<◌, ◌≤◌, ◌^◌, true, List, [], ◌∷◌, ◌++◌, length, drop, Some, ap, ◌∙◌, sym, subst, arith, ◌⊎◌, inl, inr, length-append, length-drop}
use Rattle.std.specs.Prelude.{zero}
use Rattle.thrift_value.specs.declared.kind.Kind.{Kind}
use Rattle.thrift_value.specs.declared.kind.Kind.TheVariants as kinds
use Rattle.thrift_value.specs.Items.{Item}
use Rattle.protocol_traits.specs.declared.fault.Fault.{Fault}
use Rattle.protocol_traits.specs.declared.fault.Reason.TheVariants as reasons
use Rattle.protocol_traits.specs.declared.nest.Slot.{Slot}
use Rattle.protocol_traits.specs.declared.nest.Slot.TheVariants as slots
use Rattle.protocol_traits.specs.Heads.{Header}
use Rattle.type_tables.specs.declared.declared.Ty.{Ty}
use Rattle.type_walk.specs.declared.levels.Level.{Level}
use Rattle.type_walk.specs.Positions.{Position, start}
use Rattle.json_text_laws.proofs.Parts.{append_more}
use Rattle.json_protocol.specs.declared.opening.Opening.{Opening}
use Rattle.json_protocol.specs.declared.opening.Opening.TheVariants as openings
use Rattle.json_protocol.specs.Values.{opens}
use Rattle.json_protocol.specs.Reading.{State, begun, rest}
use Rattle.json_protocol.specs.Head.{reads_head}
use Rattle.json_protocol.specs.Grammar.{Tokens, Laid, mark}
use Rattle.binary_laws.proofs.Walking.{CallsFor}
use Rattle.json_laws.specs.Fronts.{head_tokens, leading, levels_behind, opening_behind, body_nest, BeginsToken}
use Rattle.json_laws.specs.Stated.{Known, IsRefused}
use Rattle.json_laws.specs.Faults.{IsSort, called_kind, IsLevel, DeepStands}
use Rattle.json_laws.specs.Reads.{Reads}
use Rattle.json_laws.specs.Refused.{behind, Refuses}
use Rattle.json_laws.proofs.Marks.{here, cut}
use Rattle.json_laws.proofs.Spelled.{At}
use Rattle.json_laws.proofs.HeadBack.{head_back}
use Rattle.json_laws.proofs.Sound.{is_step, begun_back}
use Rattle.json_laws.proofs.Stepping.{Stand}
use Rattle.json_laws.proofs.Fronting.{led_body}
use Rattle.json_laws.proofs.Named.{AreNamed}
use Rattle.json_laws.proofs.Cut.{Cuts, leads_cut}
use Rattle.json_laws.proofs.Completing.{laid_join, flat, Struck, Strikes, Shown, same_reason}
use Rattle.json_laws.proofs.Viable.{Goes, DeepAt, lead_solid, solid_there, called_leads, marks_lead, laid_long, reads_fault, item_goes, end_goes, begun_fault_of, head_goes, header_long}

abbrev IsDeep : Fault → Type 0
IsDeep f = f.reason ≡ reasons.TooDeep

-- no token is struck there
no_strike : (n : ℕ) (bytes : List ℕ) (f : Fault) (tokens : Tokens) → IsDeep f → Strikes n bytes f tokens → ⊥
no_strike n bytes f tokens t s = of_struck s.struck
  where
    of_struck : Struck f bytes s.left s.token → ⊥
    of_struck (inl (cut, more)) = let wrong = sym t ∙ cut in absurd (cc)
    of_struck (inr b) = absurd (subst (λ r. IsSort r s.token) t b.sort)

-- ---- levels

kind_there : (slot : Slot) (up : List Slot) (k : Kind) → CallsFor (slot ∷ up) k → called_kind (slot ∷ up) ≡ Some k
kind_there (slots.Fields last) up k c = absurd c
kind_there (slots.Value kind id) up k c = ap Some c
kind_there (slots.Elements kind zero) up k c = absurd (let some = c.1 in omega arith)
kind_there (slots.Elements kind (suc n)) up k c = ap Some c.0
kind_there (slots.Keys key value zero) up k c = absurd (let some = c.1 in omega arith)
kind_there (slots.Keys key value (suc n)) up k c = ap Some c.0
kind_there (slots.Values key value left) up k c = ap Some c

level_of : (k : Kind) → opens k ≡ true → IsLevel k
level_of kinds.Struct e = tt
level_of kinds.Map e = tt
level_of kinds.Set e = tt
level_of kinds.List e = tt
level_of kinds.Bool e = absurd (cc)
level_of kinds.I8 e = absurd (cc)
level_of kinds.I16 e = absurd (cc)
level_of kinds.I32 e = absurd (cc)
level_of kinds.I64 e = absurd (cc)
level_of kinds.Double e = absurd (cc)
level_of kinds.Str e = absurd (cc)
level_of kinds.Uuid e = absurd (cc)

-- a mark at least leads to a value
marks_some : (slot : Slot) (up : List Slot) (opening : Opening) (k : Kind) → CallsFor (slot ∷ up) k → 1 ≤ length (flat (leading opening (slot ∷ up) []))
marks_some (slots.Fields last) up opening k c = absurd c
marks_some (slots.Value kind id) up opening k c = omega arith
marks_some (slots.Elements kind left) up opening k c = omega arith
marks_some (slots.Keys key value left) up openings.Old k c = omega arith
marks_some (slots.Keys key value left) up openings.New k c = omega arith
marks_some (slots.Keys key value left) up openings.Body k c = omega arith
marks_some (slots.Values key value left) up opening k c = omega arith

-- the marks that lead to the value, and what stands behind them
record Led (nest : List Slot) (opening : Opening) (bytes : List ℕ) (place : ℕ) : Type 0 where
  kind : Kind
  called : called_kind nest ≡ Some kind
  level : IsLevel kind
  front : List ℕ
  left : List ℕ
  laid : Laid (leading opening nest []) front
  is : bytes ≡ front ++ left
  begins : 1 ≤ length left → BeginsToken left
  place_is : place ≡ length front
  some : 1 ≤ length front
  full : 256 ≤ length nest

module _ (k : Known) where
  led_to : (slot : Slot) (up : List Slot) (opening : Opening) (bytes : List ℕ) (g : Fault) → DeepAt k.declared slot up opening bytes g → Led (slot ∷ up) opening bytes g.place
  led_to slot up opening bytes g d =
      let left = drop d.place bytes in
      let leads = marks_lead (slot ∷ up) opening bytes d.place (called_leads slot up opening d.kind bytes d.place d.calls d.lead) in
      let c = cut (leading opening (slot ∷ up) []) bytes left (leads left [] [] (here left)) in
      let most : d.place ≤ length bytes = subst (Cuts (length bytes)) d.lead (leads_cut opening slot bytes) in
      let size : d.place ≡ length c.0 = omega (arith, most, ap length c.1, length-append c.0 left, length-drop d.place bytes) in
      record {
        kind = d.kind;
        called = kind_there slot up d.kind d.calls;
        level = level_of d.kind d.level;
        front = c.0;
        left = left;
        laid = c.2;
        is = c.1;
        begins = solid_there left (lead_solid opening slot bytes d.place d.lead);
        place_is = d.there ∙ size;
        some = omega (arith, marks_some slot up opening d.kind d.calls, laid_long (leading opening (slot ∷ up) []) c.0 c.2);
        full = d.deep;
      }

  -- ---- the call that is refused

  refused_deep : (nest : List Slot) (opening : Opening) (p : Position) (levels : List Level) (tys : List Ty) (s : State) (f : Fault) → IsDeep f → At s nest opening (rest s) → Stand k.declared p nest opening levels tys → AreNamed nest → length nest ≤ 256
      → length (rest s) + 10 < 2 ^ 31 → Refuses p s f → (g : Fault) × Led nest opening (rest s) g.place × Shown s.place g f
  refused_deep [] opening p levels tys s f t a stand named most room (inl (some, e)) = absurd (some a.open_levels)
  refused_deep nest opening p levels tys s f t a stand named most room (inr (none, e)) =
      let g = end_goes k.declared s f e (λ r. (let wrong = sym t ∙ r in absurd (cc))) in
      absurd (no_strike 0 (rest s) g.0 (mark 93 ∷ []) (sym (same_reason s.place g.0 f g.2) ∙ t) g.1)
  refused_deep (slot ∷ up) opening p levels tys s f t a stand named most room (inl (some, e)) =
      let g = reads_fault s p (slot ∷ up) opening (rest s) f a e in
      by_depth g.0 g.2 (item_goes k.declared slot up opening p levels tys (rest s) g.0 stand named most room g.1)
    where
      by_depth : (g : Fault) → Shown s.place g f → Goes k.declared opening (slot ∷ up) tys (rest s) g ⊎ DeepAt k.declared slot up opening (rest s) g → (g : Fault) × Led (slot ∷ up) opening (rest s) g.place × Shown s.place g f
      by_depth g shown (inl c) = absurd (no_strike 0 (rest s) g c.tokens (sym (same_reason s.place g f shown) ∙ t) c.strikes)
      by_depth g shown (inr d) = (g, led_to slot up opening (rest s) g d, shown)

placed : (s : State) (b front more left : List ℕ) (n : ℕ) → s.frame ≡ b → b ≡ front ++ rest s → rest s ≡ more ++ left → n ≡ length more → 1 ≤ length more → s.place + n ≡ length (front ++ more)
placed s b front more left n frame_is is is_rest at some =
    omega (arith, ap length frame_is, ap length is, length-append front (rest s), ap length is_rest, length-append more left, at, some, length-append front more, length-drop s.place s.frame)

-- ---- a whole frame

body_deep : (k : Known) (bytes : List ℕ) (f : Fault) (h : Header) (items : List Item) (first last : State) → length bytes < 2 ^ 31 → IsDeep f → reads_head (begun bytes) ≡ is_step (h, first)
    → Reads (start k.declared k.body) first items last → Refuses (behind (start k.declared k.body) items) last f → DeepStands k bytes f.place
body_deep k bytes f h items first last small t headed_is body_read refuses =
    let b = begun_back bytes h first headed_is in
    let r = head_back bytes (h, b.0) b.1 b.2 in
    let l = led_body k.declared 256 (omega arith) k.body bytes first last items b.0 b.1 small b.3 body_read in
    let left = rest last in
    let tokens = head_tokens h.mtype r.name r.seq l.tokens in
    let x = cut tokens bytes left (r.lies left (l.tokens ++ ([] ∷ [])) (l.lies left ([] ∷ []) (here left))) in
    let room : length left + 10 < 2 ^ 31 = omega (arith, small, header_long h.mtype h.name r.name h.seq r.seq l.tokens x.0 r.text r.int x.2, ap length x.1, length-append x.0 left) in
    let nest = levels_behind body_nest items in
    let opening = opening_behind openings.Body items in
    let g = refused_deep k nest opening (behind (start k.declared k.body) items) l.levels l.types last f t l.at l.stand (l.named tt) l.most room refuses in
    let y = g.1 in
    let frame_is : last.frame ≡ bytes = l.frame_is ∙ ap (λ (n : State). n.frame) b.3 in
    let there : f.place ≡ last.place + (g.0).place = ap (λ (q : Fault). q.place) g.2 in
    let most = l.most in
    record {
      header = h;
      items = items;
      name = r.name;
      seq = r.seq;
      tokens = l.tokens;
      text = r.text;
      int = r.int;
      leads = l.leads;
      full = omega (arith, y.full, most);
      kind = y.kind;
      called = y.called;
      level = y.level;
      front = x.0 ++ y.front;
      left = y.left;
      laid = laid_join tokens (leading opening nest []) x.0 y.front x.2 y.laid;
      is = x.1 ∙ ap (λ z. x.0 ++ z) y.is ∙ sym (append_more x.0 y.front y.left);
      begins = y.begins;
      place_is = there ∙ placed last bytes x.0 y.front y.left (g.0).place frame_is x.1 y.is y.place_is y.some;
    }

pub deep_stands : (k : Known) (bytes : List ℕ) (f : Fault) → length bytes < 2 ^ 31 → IsDeep f → IsRefused k bytes f → DeepStands k bytes f.place
deep_stands k bytes f small t (inl e) =
    let g = begun_fault_of bytes f e in
    let h = head_goes k.declared k.body bytes g.0 g.1 in
    absurd (no_strike 0 bytes g.0 h.tokens (sym (same_reason 0 g.0 f g.2) ∙ t) h.strikes)
deep_stands k bytes f small t (inr (h, items, first, last, head, body_read, refuses)) = body_deep k bytes f h items first last small t head body_read refuses
