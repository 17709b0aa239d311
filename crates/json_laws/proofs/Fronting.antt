-- What stands before a header's end, before the name and before a value that is read.
use Rattle.std.proofs.Common.{◌≡◌, ℕ, suc, ◌+◌, ◌<◌, ◌≤◌, ◌^◌, List, [], ◌∷◌, ◌++◌, length, drop, Option, refl, ap, ◌∙◌, sym, subst, arith, length-drop}
use Rattle.std.proofs.lemmas.List.{drop-drop}
use Rattle.thrift_value.specs.Items.{Item}
use Rattle.thrift_value.specs.Trees.{Message, no_members}
use Rattle.protocol_traits.specs.declared.nest.Slot.{Slot}
use Rattle.protocol_traits.specs.Follow.{after}
use Rattle.protocol_traits.specs.Heads.{Header}
use Rattle.type_tables.specs.declared.declared.StructId.{StructId}
use Rattle.type_tables.specs.declared.declared.Ty.{Ty}
use Rattle.type_tables.specs.Declarations.{Declarations}
use Rattle.type_walk.specs.declared.levels.Level.{Level}
use Rattle.type_walk.specs.Positions.{Position, hint_of, in_struct, start}
use Rattle.type_walk.specs.Positions.{after as position_after}
use Rattle.json_protocol.specs.declared.opening.Opening.{Opening}
use Rattle.json_protocol.specs.declared.opening.Opening.TheVariants as openings
use Rattle.json_protocol.specs.Laws.{was_read}
use Rattle.json_protocol.specs.Reading.{State, begun, rest, opening_after, reads}
use Rattle.json_protocol.specs.Head.{reads_head}
use Rattle.json_protocol.specs.Grammar.{Tokens, mark}
use Rattle.json_laws.specs.Positions.{body_of}
use Rattle.json_laws.specs.Fronts.{head_tokens, SpellsHeader, leading, Leads, levels_behind, opening_behind, body_nest, IsOfValue, BeginsToken, NameStands, ValueStands, SpellsByItems}
use Rattle.json_laws.specs.Reads.{Reads, IsRead}
use Rattle.json_laws.specs.Refused.{behind}
use Rattle.json_laws.proofs.Marks.{Lies, laid_lies, here, cut, cut_at, begins_some}
use Rattle.json_laws.proofs.Trees.{tokens_append}
use Rattle.json_laws.proofs.Spelled.{At, at_onward, head_read, head_is, headed_state}
use Rattle.json_laws.proofs.Levels.{Ends}
use Rattle.json_laws.proofs.Named.{AreNamed, named_after}
use Rattle.json_laws.proofs.Stepping.{Stand}
use Rattle.json_laws.proofs.Steps.{lead_append, stepped}
use Rattle.json_laws.proofs.HeadBack.{head_back, name_back, end_scanned}
use Rattle.json_laws.proofs.Sound.{is_step, reads_back, begun_back, body_stand, end_back, lies_laid}

-- ---- headers

-- a header that is read stands at the front
pub header_stands : (frame : List ℕ) (h : Header) (first : State) → reads_head (begun frame) ≡ is_step (h, first) → (before : List ℕ) × (left : List ℕ) × (frame ≡ before ++ left) × SpellsHeader h before
header_stands frame h first e =
    let b = begun_back frame h first e in
    let r = head_back frame (h, b.0) b.1 b.2 in
    let left = drop b.1 frame in
    let c = cut (head_tokens h.mtype r.name r.seq []) frame left (r.lies left ([] ∷ []) (here left)) in
    (c.0, left, c.1, (r.name, r.seq, r.text, r.int, r.fits, c.2))

-- a header that stands at the front is read
pub header_again : (frame before left : List ℕ) (h : Header) → frame ≡ before ++ left → SpellsHeader h before → (first : State) × (reads_head (begun frame) ≡ is_step (h, first))
header_again frame before left h is (name, seq, text, int, fits, laid) =
    let m : Message = record { name = h.name; mtype = h.mtype; seq = h.seq; body = no_members } in
    let l = laid_lies (head_tokens h.mtype name seq []) before left laid in
    let r = head_read (l.0 ++ left) m name seq [] (before ++ left) text int fits l.2 in
    (headed_state (before ++ left) r.place r.past, ap (λ b. reads_head (begun b)) is ∙ head_is (before ++ left) m r.place r.past r.read)

pub name_stands : (frame : List ℕ) (h : Header) (first : State) → reads_head (begun frame) ≡ is_step (h, first) → NameStands h.name frame first.value
name_stands frame h first e =
    let b = begun_back frame h first e in
    let value : b.0 ≡ first.value = omega (arith, ap (λ (s : State). s.value) b.3) in
    subst (NameStands h.name frame) value (name_back frame (h, b.0) b.1 b.2)

-- ---- items one behind another

module _ (d : Declarations) (limit : ℕ) (least : 256 ≤ limit) where
  -- these items stand behind one another up to what is left
  pub record Led (before : List Item) (p : Position) (nest : List Slot) (opening : Opening) (tys : List Ty) (bytes : List ℕ) (s mid : State) : Type 0 where
    pub tokens : Tokens
    pub leads : Leads p nest opening before tokens
    pub lies : (tail : List ℕ) (more : Tokens) → Lies tail more (rest mid) → Lies tail (tokens ++ more) bytes
    pub levels : List Level
    pub types : List Ty
    pub stand : Stand d (behind p before) (levels_behind nest before) (opening_behind opening before) levels types
    pub at : At mid (levels_behind nest before) (opening_behind opening before) (rest mid)
    pub most : length (levels_behind nest before) ≤ 256
    pub frame_is : mid.frame ≡ s.frame
    pub small : length (rest mid) < 2 ^ 31
    pub named : AreNamed nest → AreNamed (levels_behind nest before)
    pub onward : (items : List Item) (rest : Tokens) → Ends d limit (opening_behind opening before) (levels_behind nest before) types items rest → Ends d limit opening nest tys (before ++ items) (tokens ++ rest)

  led : (before : List Item) (s mid : State) (p : Position) (nest : List Slot) (opening : Opening) (levels : List Level) (tys : List Ty) (bytes : List ℕ) → At s nest opening bytes → Stand d p nest opening levels tys → length nest ≤ 256
      → length bytes < 2 ^ 31 → Reads p s before mid → Led before p nest opening tys bytes s mid
  led [] s mid p nest opening levels tys bytes a stand most small r =
      let left : rest mid ≡ bytes = ap rest (sym r) ∙ a.left in
      record {
        tokens = [];
        leads = refl;
        lies = (λ tail more h. subst (Lies tail more) left h);
        levels = levels;
        types = tys;
        stand = stand;
        at = record { open_levels = ap (λ (x : State). x.nest) (sym r) ∙ a.open_levels; begins = ap (λ (x : State). x.opening) (sym r) ∙ a.begins; left = refl };
        most = most;
        frame_is = ap (λ (x : State). x.frame) (sym r);
        small = subst (λ b. length b < 2 ^ 31) (sym left) small;
        named = (λ h. h);
        onward = (λ items rest e. e);
      }
  led (item ∷ items) s mid p [] opening levels tys bytes a stand most small (next, step, more) = let x = reads_back s p [] opening bytes item next a step in absurd (cc)
  led (item ∷ items) s mid p (slot ∷ up) opening levels tys bytes a stand most small (next, step, more) =
      let x = reads_back s p (slot ∷ up) opening bytes item next a step in
      let w = was_read (slot ∷ up) slot (suc (length up)) opening (hint_of p) bytes item x.0 x.1 most small refl refl (sym x.2) in
      let t = stepped d limit least slot up opening p levels tys bytes item x.0 x.1 stand w.sized most x.2 in
      let at = subst (λ n. At n (after item (slot ∷ up)) (opening_after item) (drop x.1 bytes)) (sym x.3) (at_onward s (slot ∷ up) opening bytes item x.0 x.1 a) in
      let less : length (drop x.1 bytes) < 2 ^ 31 = omega (arith, length-drop x.1 bytes, small) in
      let r = led items next mid (position_after p item) (after item (slot ∷ up)) (opening_after item) t.levels t.types (drop x.1 bytes) at t.stand w.deep less more in
      record {
        tokens = t.tokens ++ r.tokens;
        leads = (t.tokens, r.tokens, t.spells, r.leads, refl);
        lies = (λ tail later h. subst (λ z. Lies tail z bytes) (sym (tokens_append t.tokens r.tokens later)) (t.lies tail (r.tokens ++ later) (r.lies tail later h)));
        levels = r.levels;
        types = r.types;
        stand = r.stand;
        at = r.at;
        most = r.most;
        frame_is = r.frame_is ∙ ap (λ (n : State). n.frame) x.3;
        small = r.small;
        named = (λ h. r.named (named_after (hint_of p) opening (slot ∷ up) item t.tokens h t.spells));
        onward = (λ others rest e. subst (Ends d limit opening (slot ∷ up) tys (item ∷ (items ++ others))) (sym (tokens_append t.tokens r.tokens rest)) (t.onward (items ++ others) (r.tokens ++ rest) (r.onward others rest e)));
      }

  -- from the beginning of a body on
  pub led_body : (body : Option StructId) (frame : List ℕ) (first mid : State) (before : List Item) (place past : ℕ) → length frame < 2 ^ 31 → first ≡ headed_state frame place past → Reads (start d body) first before mid
      → Led before (start d body) body_nest openings.Body (body_of body ∷ []) (drop past frame) first mid
  led_body body frame first mid before place past small is body_read =
      let from = drop past frame in
      let same : 0 + past ≡ past = omega arith in
      let at : At first body_nest openings.Body from = subst (λ s. At s body_nest openings.Body from) (sym is) (record { open_levels = refl; begins = refl; left = ap (λ n. drop n frame) same }) in
      let less : length from < 2 ^ 31 = omega (arith, small, length-drop past frame) in
      led before first mid (start d body) body_nest openings.Body (in_struct (body_of body) ∷ []) (body_of body ∷ []) from at (body_stand d body) (omega arith) less body_read

  -- the first token of a value behind the items and their marks
  record ValueLed (p : Position) (nest : List Slot) (opening : Opening) (mid next : State) : Type 0 where
    start : ℕ
    left : List ℕ
    left_is : left ≡ drop start (rest mid)
    lies : Lies left (leading opening nest [] ++ ([] ∷ [])) (rest mid)
    some : 1 ≤ length left
    begins : BeginsToken left
    place : next.value ≡ mid.place + start

  value_led : (nest : List Slot) (opening : Opening) (p : Position) (levels : List Level) (tys : List Ty) (mid next : State) (item : Item) → At mid nest opening (rest mid) → Stand d p nest opening levels tys → length nest ≤ 256
      → length (rest mid) < 2 ^ 31 → reads mid (hint_of p) ≡ is_step (item, next) → IsOfValue item → ValueLed p nest opening mid next
  value_led [] opening p levels tys mid next item a stand most small step v = let x = reads_back mid p [] opening (rest mid) item next a step in absurd (cc)
  value_led (slot ∷ up) opening p levels tys mid next item a stand most small step v =
      let x = reads_back mid p (slot ∷ up) opening (rest mid) item next a step in
      let w = was_read (slot ∷ up) slot (suc (length up)) opening (hint_of p) (rest mid) item x.0 x.1 most small refl refl (sym x.2) in
      let t = stepped d limit least slot up opening p levels tys (rest mid) item x.0 x.1 stand w.sized most x.2 in
      let there = t.value v in
      let left = drop x.0 (rest mid) in
      record {
        start = x.0;
        left = left;
        left_is = refl;
        lies = subst (λ z. Lies left z (rest mid)) (sym (lead_append opening (slot ∷ up) [] ([] ∷ []))) (there.0 left [] [] (here left));
        some = begins_some left there.1;
        begins = there.1;
        place = ap (λ (n : State). n.value) x.3;
      }

-- ---- a whole message

-- what is read is spelled item by item
pub items_stand : (d : Declarations) (body : Option StructId) (frame : List ℕ) (h : Header) (items : List Item) → length frame < 2 ^ 31 → IsRead (start d body) frame h items → SpellsByItems (start d body) h items frame
items_stand d body frame h items small (first, last, headed, body_read, none, ends) =
    let b = begun_back frame h first headed in
    let r = head_back frame (h, b.0) b.1 b.2 in
    let l = led_body d 256 (omega arith) body frame first last items b.0 b.1 small b.3 body_read in
    let e = end_back last last (rest last) refl ends in
    let w = end_scanned (rest last) tt e.0 e.1 in
    let lies = r.lies w.0 (l.tokens ++ (mark 93 ∷ [])) (l.lies w.0 (mark 93 ∷ []) w.2) in
    record { name = r.name; seq = r.seq; tokens = l.tokens; text = r.text; int = r.int; leads = l.leads; laid = lies_laid w.0 (head_tokens h.mtype r.name r.seq (l.tokens ++ (mark 93 ∷ []))) frame w.1 lies }

-- ---- a value of a frame

-- the value that is read behind these items stands where the reader says
pub value_stands : (d : Declarations) (body : Option StructId) (frame : List ℕ) (h : Header) (first mid next : State) (before : List Item) (item : Item) → length frame < 2 ^ 31 → reads_head (begun frame) ≡ is_step (h, first)
    → Reads (start d body) first before mid → reads mid (hint_of (behind (start d body) before)) ≡ is_step (item, next) → IsOfValue item → ValueStands (start d body) h before frame next.value
value_stands d body frame h first mid next before item small headed body_read step v =
    let b = begun_back frame h first headed in
    let r = head_back frame (h, b.0) b.1 b.2 in
    let l = led_body d 256 (omega arith) body frame first mid before b.0 b.1 small b.3 body_read in
    let nest = levels_behind body_nest before in
    let opening = opening_behind openings.Body before in
    let x = value_led d 256 (omega arith) nest opening (behind (start d body) before) l.levels l.types mid next item l.at l.stand l.most l.small step v in
    let marks = leading opening nest [] in
    let whole = r.lies x.left (l.tokens ++ (marks ++ ([] ∷ []))) (l.lies x.left (marks ++ ([] ∷ [])) x.lies) in
    let tokens = head_tokens h.mtype r.name r.seq (l.tokens ++ marks) in
    let joined = subst (λ z. Lies x.left (head_tokens h.mtype r.name r.seq z) frame) (sym (tokens_append l.tokens marks ([] ∷ []))) whole in
    let c = cut tokens frame x.left joined in
    let own : mid.frame ≡ frame = l.frame_is ∙ ap (λ (s : State). s.frame) b.3 in
    let left_is : x.left ≡ drop next.value frame = x.left_is ∙ drop-drop x.start mid.place mid.frame ∙ ap (λ f. drop (mid.place + x.start) f) own ∙ ap (λ n. drop n frame) (sym x.place) in
    record {
      name = r.name;
      seq = r.seq;
      tokens = l.tokens;
      front = c.0;
      rest = x.left;
      text = r.text;
      int = r.int;
      leads = l.leads;
      laid = c.2;
      is = c.1;
      begins = x.begins;
      place_is = cut_at frame c.0 x.left next.value c.1 left_is x.some;
    }
