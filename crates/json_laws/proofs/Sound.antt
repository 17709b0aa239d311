-- A frame that is read is spelled as a message.
use Rattle.std.proofs.Common.{◌≡◌, ℕ, suc, pos, ◌+◌, ◌<◌, ◌≤◌, ◌^◌, List, [], ◌∷◌, ◌++◌, length, drop, Option, Ok, Err, refl, ap, ◌∙◌, sym, subst, arith, length-drop}
use Rattle.std.proofs.lemmas.List.{append-nil}
use Rattle.thrift_value.specs.Items.{Item}
use Rattle.thrift_value.specs.Trees.{Message, Members, items_of_members, depth_of_members}
use Rattle.protocol_traits.specs.declared.fault.Fault.{Fault}
use Rattle.protocol_traits.specs.declared.nest.Slot.{Slot}
use Rattle.protocol_traits.specs.declared.nest.Slot.TheVariants as slots
use Rattle.protocol_traits.specs.Heads.{Header}
use Rattle.protocol_traits.specs.Stack.{first_of}
use Rattle.protocol_traits.specs.Steps.{Step}
use Rattle.protocol_traits.specs.Follow.{after}
use Rattle.type_tables.specs.declared.declared.StructId.{StructId}
use Rattle.type_tables.specs.declared.declared.Ty.{Ty}
use Rattle.type_tables.specs.Declarations.{Declarations}
use Rattle.type_walk.specs.declared.levels.Level.{Level}
use Rattle.type_walk.specs.Positions.{Position, hint_of, in_struct, start}
use Rattle.type_walk.specs.Positions.{after as position_after}
use Rattle.json_text.specs.Grammar.{AreWhite}
use Rattle.json_protocol.specs.declared.opening.Opening.{Opening}
use Rattle.json_protocol.specs.declared.opening.Opening.TheVariants as openings
use Rattle.json_protocol.specs.Scan.{Scan}
use Rattle.json_protocol.specs.Laws.{was_read}
use Rattle.json_protocol.specs.Reading.{State, begun, rest, scan_at, opening_after, moved, reads}
use Rattle.json_protocol.specs.Head.{head_at, headed, reads_head, end_scan, ended, reads_end}
use Rattle.json_protocol.specs.Writing.{type_digit}
use Rattle.json_protocol.specs.Grammar.{Tokens, Laid, mark, SpellsMessage}
use Rattle.binary_laws.specs.Reads.{header_of_message}
use Rattle.json_laws.specs.Positions.{declared_of, body_of}
use Rattle.json_laws.specs.Reads.{Reads, IsRead}
use Rattle.json_laws.proofs.Marks.{Lies}
use Rattle.json_laws.proofs.Places.{start_is}
use Rattle.json_laws.proofs.Trees.{tokens_append}
use Rattle.json_laws.proofs.Spelled.{At, onward, at_onward, headed_state}
use Rattle.json_laws.proofs.Inverse.{is_read}
use Rattle.json_laws.proofs.HeadBack.{head_back, end_scanned}
use Rattle.json_laws.proofs.Levels.{Ends}
use Rattle.json_laws.proofs.Stepping.{answer, Stand}
use Rattle.json_laws.proofs.Steps.{stepped}

-- ---- answers

abbrev pub is_step : {X : Type 0} → X × State → Step State X
is_step p = Ok p

abbrev gave : {X : Type 0} → X × State → Step State X → X × State
gave d (Ok p) = p
gave d (Err f) = d

pub same_step : {X : Type 0} → (x y : X) (s t : State) → is_step (x, s) ≡ is_step (y, t) → (x ≡ y) × (s ≡ t)
same_step {X} x y s t e = (ap (λ (r : Step State X). (gave (x, s) r).0) e, ap (λ (r : Step State X). (gave (x, s) r).1) e)

pub no_step : {X : Type 0} → (f : Fault) (x : X × State) → Err f ≡ is_step x → ⊥
no_step f x e = absurd (cc)

moved_back : (s : State) (scan : Scan (Item × ℕ)) (item : Item) (next : State) → moved s scan ≡ is_step (item, next) → (start : ℕ) × (taken : ℕ) × (scan ≡ answer ((item, start), taken)) × (next ≡ onward s item start taken)
moved_back s (Ok x) item next e =
    let same = same_step x.0.0 item (onward s x.0.0 x.0.1 x.1) next e in
    (x.0.1, x.1, ap (λ i. answer ((i, x.0.1), x.1)) same.0, sym same.1 ∙ ap (λ i. onward s i x.0.1 x.1) same.0)
moved_back s (Err f) item next e = absurd (no_step _ (item, next) e)

pub reads_back : (s : State) (p : Position) (nest : List Slot) (opening : Opening) (bytes : List ℕ) (item : Item) (next : State) → At s nest opening bytes → reads s (hint_of p) ≡ is_step (item, next)
    → (start : ℕ) × (taken : ℕ) × (scan_at (length nest) opening (hint_of p) (first_of nest) bytes ≡ answer ((item, start), taken)) × (next ≡ onward s item start taken)
unfolding reads
reads_back s p nest opening bytes item next a e =
    let m = moved_back s (scan_at (length s.nest) s.opening (hint_of p) (first_of s.nest) (rest s)) item next e in (
      m.0,
      m.1,
      ap (λ n. scan_at (length n) opening (hint_of p) (first_of n) bytes) (sym a.open_levels) ∙ ap (λ o. scan_at (length s.nest) o (hint_of p) (first_of s.nest) bytes) (sym a.begins)
          ∙ ap (λ b. scan_at (length s.nest) s.opening (hint_of p) (first_of s.nest) b) (sym a.left) ∙ m.2,
      m.3,
    )

ended_back : (s : State) (scan : Scan (Unit {0})) (t : State) → ended s scan ≡ is_step (tt, t) → (past : ℕ) × (scan ≡ is_read (tt, past))
ended_back s (Ok x) t e = (x.1, refl)
ended_back s (Err f) t e = absurd (no_step _ (tt, t) e)

pub end_back : (s t : State) (bytes : List ℕ) → rest s ≡ bytes → reads_end s ≡ is_step (tt, t) → (past : ℕ) × (end_scan bytes ≡ is_read (tt, past))
unfolding reads_end
end_back s t bytes left e = let r = ended_back s (end_scan (rest s)) t e in (r.0, ap end_scan (sym left) ∙ r.1)

-- ---- item after item

module _ (d : Declarations) where
  -- the tokens that stand before the end, whatever whitespace stands behind it
  record Spelled (nest : List Slot) (opening : Opening) (tys : List Ty) (bytes : List ℕ) (items : List Item) : Type 0 where
    white : List ℕ
    are : AreWhite white
    tokens : Tokens
    lies : Lies white tokens bytes
    ends : Ends d 256 opening nest tys items tokens

  last_ends : (opening : Opening) (nest : List Slot) (levels : List Level) (tys : List Ty) (p : Position) → nest ≡ [] → Stand d p nest opening levels tys → Ends d 256 opening nest tys [] (mark 93 ∷ [])
  last_ends opening [] [] [] p none s = (refl, refl)
  last_ends opening [] [] (ty ∷ tys) p none s = absurd s.tied
  last_ends opening [] (level ∷ levels) tys p none s = absurd s.tied
  last_ends opening (slot ∷ up) levels tys p none s = absurd (cc)

  sound : (items : List Item) (s last : State) (p : Position) (nest : List Slot) (opening : Opening) (levels : List Level) (tys : List Ty) (bytes : List ℕ) → At s nest opening bytes → Stand d p nest opening levels tys → length nest ≤ 256
      → length bytes < 2 ^ 31 → Reads p s items last → last.nest ≡ [] → reads_end last ≡ is_step (tt, last) → Spelled nest opening tys bytes items
  sound [] s last p nest opening levels tys bytes a stand most small r none end =
      let e = end_back s s bytes a.left (subst (λ x. reads_end x ≡ is_step (tt, x)) (sym r) end) in
      let w = end_scanned bytes tt e.0 e.1 in
      record { white = w.0; are = w.1; tokens = mark 93 ∷ []; lies = w.2; ends = last_ends opening nest levels tys p (sym a.open_levels ∙ ap (λ (x : State). x.nest) r ∙ none) stand }
  sound (item ∷ items) s last p [] opening levels tys bytes a stand most small (next, step, more) none end =
      let x = reads_back s p [] opening bytes item next a step in absurd (cc)
  sound (item ∷ items) s last p (slot ∷ up) opening levels tys bytes a stand most small (next, step, more) none end =
      let x = reads_back s p (slot ∷ up) opening bytes item next a step in
      let w = was_read (slot ∷ up) slot (suc (length up)) opening (hint_of p) bytes item x.0 x.1 most small refl refl (sym x.2) in
      let t = stepped d 256 (omega arith) slot up opening p levels tys bytes item x.0 x.1 stand w.sized most x.2 in
      let at = subst (λ n. At n (after item (slot ∷ up)) (opening_after item) (drop x.1 bytes)) (sym x.3) (at_onward s (slot ∷ up) opening bytes item x.0 x.1 a) in
      let less : length (drop x.1 bytes) < 2 ^ 31 = omega (arith, length-drop x.1 bytes, small) in
      let r = sound items next last (position_after p item) (after item (slot ∷ up)) (opening_after item) t.levels t.types (drop x.1 bytes) at t.stand w.deep less more none end in
      record { white = r.white; are = r.are; tokens = t.tokens ++ r.tokens; lies = t.lies r.white r.tokens r.lies; ends = t.onward items r.tokens r.ends }

-- ---- a whole frame

pub lies_laid : (white : List ℕ) (tokens : Tokens) (bytes : List ℕ) → AreWhite white → Lies white tokens bytes → Laid tokens bytes
lies_laid white [] bytes are lies = subst AreWhite (sym lies) are
lies_laid white (token ∷ more) bytes are (gap, rest, is, white_too, lies) = (gap, rest, is, white_too, lies_laid white more rest are lies)

headed_back : (s : State) (scan : Scan (Header × ℕ)) (h : Header) (first : State) → headed s scan ≡ is_step (h, first)
    → (place : ℕ) × (past : ℕ) × (scan ≡ is_read ((h, place), past)) × (first ≡ record { frame = s.frame; place = s.place + past; value = s.place + place; nest = slots.Fields (pos 0) ∷ []; opening = openings.Body })
headed_back s (Ok x) h first e = let same = same_step x.0.0 h _ first e in (x.0.1, x.1, ap (λ k. is_read ((k, x.0.1), x.1)) same.0, sym same.1)
headed_back s (Err f) h first e = absurd (no_step _ (h, first) e)

pub begun_back : (bytes : List ℕ) (h : Header) (first : State) → reads_head (begun bytes) ≡ is_step (h, first) → (place : ℕ) × (past : ℕ) × (head_at bytes ≡ is_read ((h, place), past)) × (first ≡ headed_state bytes place past)
unfolding reads_head
begun_back bytes h first e = headed_back (begun bytes) (head_at bytes) h first e

abbrev message_of : Header → Members → Message
message_of h ms = record { name = h.name; mtype = h.mtype; seq = h.seq; body = ms }

pub body_stand : (d : Declarations) (body : Option StructId) → Stand d (start d body) (slots.Fields (pos 0) ∷ []) openings.Body (in_struct (body_of body) ∷ []) (body_of body ∷ [])
body_stand d body = record { tied = (refl, tt); at = start_is d body; fresh = tt }

pub read_spelled : (d : Declarations) (body : Option StructId) (bytes : List ℕ) (h : Header) (items : List Item) → length bytes < 2 ^ 31 → IsRead (start d body) bytes h items
    → (m : Message) × (h ≡ header_of_message m) × (items ≡ items_of_members m.body) × (depth_of_members m.body < 256) × SpellsMessage (declared_of d) (body_of body) m bytes
read_spelled d body bytes h items small (first, last, head, body_read, none, end) =
    let b = begun_back bytes h first head in
    let past = b.1 in
    let r = head_back bytes (h, b.0) past b.2 in
    let same : 0 + past ≡ past = omega arith in
    let at : At (headed_state bytes b.0 past) (slots.Fields (pos 0) ∷ []) openings.Body (drop past bytes) = record { open_levels = refl; begins = refl; left = ap (λ n. drop n bytes) same } in
    let less : length (drop past bytes) < 2 ^ 31 = omega (arith, length-drop past bytes, small) in
    let s = sound d items first last (start d body) (slots.Fields (pos 0) ∷ []) openings.Body (in_struct (body_of body) ∷ []) (body_of body ∷ []) (drop past bytes)
    (subst (λ x. At x (slots.Fields (pos 0) ∷ []) openings.Body (drop past bytes)) (sym b.3) at) (body_stand d body) (omega arith) less body_read none end in
    let e = s.ends in
    let f = e.one.2 in
    let close = mark 93 ∷ [] in
    let tokens : s.tokens ≡ mark 123 ∷ (f.inner ++ (mark 125 ∷ mark 93 ∷ [])) =
    e.laid ∙ ap (λ l. l ++ e.back) (e.one.1 ∙ ap (λ l. mark 123 ∷ l) f.laid) ∙ ap (λ l. (mark 123 ∷ (f.inner ++ mark 125 ∷ [])) ++ l) e.two.1 ∙ ap (λ l. mark 123 ∷ l) (tokens_append f.inner (mark 125 ∷ []) close) in (
      message_of h f.ms,
      refl,
      e.is ∙ ap (λ l. e.first ++ l) e.two.0 ∙ items_nil e.first ∙ f.is,
      omega (arith, f.deep),
      (
        r.name,
        r.seq,
        f.inner,
        r.text,
        r.int,
        r.fits,
        f.are,
        f.spells,
        lies_laid s.white (mark 91 ∷ mark 49 ∷ mark 44 ∷ r.name ∷ mark 44 ∷ type_digit h.mtype ∷ mark 44 ∷ r.seq ∷ mark 44 ∷ mark 123 ∷ (f.inner ++ (mark 125 ∷ mark 93 ∷ []))) bytes s.are
            (subst (λ t. Lies s.white (mark 91 ∷ mark 49 ∷ mark 44 ∷ r.name ∷ mark 44 ∷ type_digit h.mtype ∷ mark 44 ∷ r.seq ∷ mark 44 ∷ t) bytes) tokens (r.lies s.white s.tokens s.lies)),
      ),
    )
  where
    items_nil : (xs : List Item) → xs ++ [] ≡ xs
    items_nil xs = append-nil xs
