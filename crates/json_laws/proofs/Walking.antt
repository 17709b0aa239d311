-- Whole values, item by item, as steps of the position, of the open levels and of the bytes that are left.
use Rattle.std.proofs.Common.{◌≡◌, ℕ, ℤ, suc, ◌+◌, ◌<◌, Bool, true, false, List, [], ◌∷◌, ◌++◌, length, drop, Some, Ok, refl, ◌∙◌, subst, arith}
use Rattle.std.specs.Prelude.{nat_le, ◌==◌, ◌&&◌, if◌then◌else◌, FitsSigned}
use Rattle.std.specs.Int.{w16}
use Rattle.std.proofs.lemmas.Bool.Decides.{nat_tests}
use Rattle.std.proofs.lemmas.List.{drop-drop}
use Rattle.thrift_value.specs.declared.kind.Kind.{Kind}
use Rattle.thrift_value.specs.Items.{Item, field, stop, end}
use Rattle.protocol_traits.specs.declared.fault.Reason.TheVariants as reasons
use Rattle.protocol_traits.specs.declared.nest.Slot.{Slot}
use Rattle.protocol_traits.specs.declared.nest.Slot.TheVariants as slots
use Rattle.protocol_traits.specs.declared.proto.Hint.{Hint}
use Rattle.protocol_traits.specs.Stack.{first_of}
use Rattle.protocol_traits.specs.Follow.{spent, after}
use Rattle.type_tables.specs.declared.declared.Ty.{Ty}
use Rattle.type_tables.specs.Declarations.{Declarations}
use Rattle.type_walk.specs.declared.levels.Level.{Level}
use Rattle.type_walk.specs.Positions.{Position, hint_at, hint_of, passed, standing}
use Rattle.type_walk.specs.Positions.{after as position_after}
use Rattle.json_text.specs.Scan.{is_white}
use Rattle.json_text.specs.Grammar.{SpellsInt}
use Rattle.json_protocol.specs.declared.opening.Opening.{Opening}
use Rattle.json_protocol.specs.declared.opening.Opening.TheVariants as openings
use Rattle.json_protocol.specs.Scan.{Scan, fault, gap}
use Rattle.json_protocol.specs.Values.{end_at, opens, value_at, value_in}
use Rattle.json_protocol.specs.Reading.{lead_by, lead_pairs, lead_fields, lead_key, lead_at, fields_at, item_in, scan_at, opening_after}
use Rattle.json_protocol.specs.Writing.{quoted, is_key}
use Rattle.json_protocol.specs.Grammar.{Tokens, mark, IsNamed, name_token, comma}
use Rattle.binary_laws.proofs.Walking.{CallsFor}
use Rattle.json_laws.specs.Fronts.{leading, field_leading, is_first}
use Rattle.json_laws.proofs.Marks.{Lies, IsSolid, IsWord, Found, IsReady, front, ahead, found_mark}
use Rattle.json_laws.proofs.Items.{first_found, next_found, first_stop, next_stop, end_word}
use Rattle.json_laws.proofs.Places.{at_type}

-- how deep the reader believes to be in so many levels: as deep as they are, or at the top, where nothing is too deep
abbrev pub IsShallow : (ℕ → ℕ) → ℕ → Type 0
IsShallow level bound = (k : ℕ) → k < bound → level k < 256

module _ (tail : List ℕ) where
  -- the marks are read, and the first token of the item stands there
  pub record Led (scan : List ℕ → Scan (Unit {0})) (bytes token : List ℕ) (more : Tokens) : Type 0 where
    pub place : ℕ
    pub read : scan bytes ≡ Ok (tt, place)
    pub ready : IsReady tail token more (drop place bytes)

  lead_one : (m : ℕ) (bytes token : List ℕ) (more : Tokens) → is_white m ≡ false → IsSolid token → Lies tail (mark m ∷ token ∷ more) bytes → Led (lead_by m) bytes token more
  lead_one m bytes token more white solid lies =
      let f = found_mark tail m 0 bytes (token ∷ more) white lies in
      let a = ahead tail f.past bytes token more solid f.left in
      record { place = f.past + gap (drop f.past bytes); read = rw (f.read) refl; ready = a.ready }

  lead_two : (bytes token : List ℕ) (more : Tokens) → IsSolid token → Lies tail (mark 44 ∷ mark 123 ∷ token ∷ more) bytes → Led lead_pairs bytes token more
  unfolding lead_pairs
  lead_two bytes token more solid lies =
      let f = found_mark tail 44 0 bytes (mark 123 ∷ token ∷ more) refl lies in
      let g = found_mark tail 123 f.past bytes (token ∷ more) refl f.left in
      let a = ahead tail g.past bytes token more solid g.left in
      record { place = g.past + gap (drop g.past bytes); read = rw (f.read, g.read) refl; ready = a.ready }

  ready_there : (bytes token : List ℕ) (more : Tokens) → IsSolid token → Lies tail (token ∷ more) bytes → IsReady tail token more (drop (gap bytes) bytes)
  ready_there bytes token more solid lies =
      let same : 0 + gap (drop 0 bytes) ≡ gap bytes = omega arith in
      subst (λ k. IsReady tail token more (drop k bytes)) same (ahead tail 0 bytes token more solid lies).ready

  lead_none : (bytes token : List ℕ) (more : Tokens) → IsSolid token → Lies tail (token ∷ more) bytes → Led (λ b. Ok (tt, gap b)) bytes token more
  lead_none bytes token more solid lies = record { place = gap bytes; read = refl; ready = ready_there bytes token more solid lies }

  -- a value is called for, and its first token stands there
  pub record Called (depth : ℕ) (nest : List Slot) (opening : Opening) (kind : Kind) (bytes token : List ℕ) (more : Tokens) : Type 0 where
    pub place : ℕ
    pub ready : IsReady tail token more (drop place bytes)
    pub reads : (hint : Hint) (item : Item) (past : ℕ) → value_in depth (is_key (first_of nest)) hint kind (drop place bytes) ≡ Ok (item, past) → scan_at depth opening hint (first_of nest) bytes ≡ Ok ((item, place), place + past)

  more_left : (left : ℕ) → 0 < left → (left == 0) ≡ false
  more_left left some = grind (arith, nat_tests)

  pub called : (depth : ℕ) (nest : List Slot) (opening : Opening) (kind : Kind) (bytes token : List ℕ) (more : Tokens) → CallsFor nest kind → IsSolid token → Lies tail (leading opening nest (token ∷ more)) bytes
      → Called depth nest opening kind bytes token more
  unfolding lead_at lead_key item_in
  called depth [] opening kind bytes token more c solid lies = absurd c
  called depth (slots.Fields last ∷ up) opening kind bytes token more c solid lies = absurd c
  called depth (slots.Value k id ∷ up) opening kind bytes token more c solid lies =
      let l = lead_one 58 bytes token more refl solid lies in
      record { place = l.place; ready = l.ready; reads = (λ hint item past e. rw (l.read, c, e) refl) }
  called depth (slots.Elements k left ∷ up) opening kind bytes token more c solid lies =
      let l = lead_one 44 bytes token more refl solid lies in
      record { place = l.place; ready = l.ready; reads = (λ hint item past e. rw (more_left left c.1, l.read, more_left left c.1, c.0, e) refl) }
  called depth (slots.Keys key value left ∷ up) openings.Old kind bytes token more c solid lies =
      let l = lead_one 44 bytes token more refl solid lies in
      record { place = l.place; ready = l.ready; reads = (λ hint item past e. rw (more_left left c.1, l.read, more_left left c.1, c.0, e) refl) }
  called depth (slots.Keys key value left ∷ up) openings.New kind bytes token more c solid lies =
      let l = lead_two bytes token more solid lies in
      record { place = l.place; ready = l.ready; reads = (λ hint item past e. rw (more_left left c.1, l.read, more_left left c.1, c.0, e) refl) }
  called depth (slots.Keys key value left ∷ up) openings.Body kind bytes token more c solid lies =
      let l = lead_two bytes token more solid lies in
      record { place = l.place; ready = l.ready; reads = (λ hint item past e. rw (more_left left c.1, l.read, more_left left c.1, c.0, e) refl) }
  called depth (slots.Values key value left ∷ up) opening kind bytes token more c solid lies =
      let l = lead_one 58 bytes token more refl solid lies in
      record { place = l.place; ready = l.ready; reads = (λ hint item past e. rw (l.read, c, e) refl) }

  -- a field or a stop is called for
  field_led : (opening : Opening) (bytes token : List ℕ) (more : Tokens) → IsSolid token → Lies tail (field_leading opening (token ∷ more)) bytes → Led (lead_fields opening) bytes token more
  unfolding lead_fields
  field_led openings.Body bytes token more solid lies = let l = lead_one 123 bytes token more refl solid lies in record { place = l.place; read = l.read; ready = l.ready }
  field_led openings.New bytes token more solid lies = let l = lead_none bytes token more solid lies in record { place = l.place; read = l.read; ready = l.ready }
  field_led openings.Old bytes token more solid lies = let l = lead_one 125 bytes token more refl solid lies in record { place = l.place; read = l.read; ready = l.ready }

  field_reads : (depth : ℕ) (opening : Opening) (hint : Hint) (last : ℤ) (bytes : List ℕ) (item : Item) (place past : ℕ) → lead_fields opening bytes ≡ Ok (tt, place) → fields_at opening (drop place bytes) ≡ Ok (item, past)
      → scan_at depth opening hint (Some (slots.Fields last)) bytes ≡ Ok ((item, place), place + past)
  unfolding lead_at item_in
  field_reads depth opening hint last bytes item place past lead e = rw (lead, e) refl

  -- ---- walks

  -- item after item, up to these levels and tokens
  abbrev pub Walks : (ℕ → ℕ) → Position → List Slot → Opening → List ℕ → List Item → Position → List Slot → Tokens → Type 0
  Walks level p nest opening bytes [] last up more = (p ≡ last) × (nest ≡ up) × (opening ≡ openings.Old) × Lies tail more bytes
  Walks level p nest opening bytes (item ∷ items) last up more =
      (place : ℕ) × (taken : ℕ) × (scan_at (level (length nest)) opening (hint_of p) (first_of nest) bytes ≡ Ok ((item, place), taken))
      × Walks level (position_after p item) (after item nest) (opening_after item) (drop taken bytes) items last up more

  pub walks_append : (xs ys : List Item) (level : ℕ → ℕ) (p : Position) (nest : List Slot) (opening : Opening) (bytes : List ℕ) (mid : Position) (between : List Slot) (others : Tokens) (last : Position) (up : List Slot) (more : Tokens)
      → Walks level p nest opening bytes xs mid between others → ((rest : List ℕ) → Lies tail others rest → Walks level mid between openings.Old rest ys last up more) → Walks level p nest opening bytes (xs ++ ys) last up more
  walks_append [] ys level p nest opening bytes mid between others last up more w v = rw (w.0, w.1, w.2) (v bytes w.3)
  walks_append (x ∷ xs) ys level p nest opening bytes mid between others last up more w v =
      (w.0, w.1, w.2, walks_append xs ys level (position_after p x) (after x nest) (opening_after x) (drop w.1 bytes) mid between others last up more w.3 v)

  pub opened : (depth : ℕ) (key : Bool) (hint : Hint) (kind : Kind) (bytes : List ℕ) → depth < 256 → value_in depth key hint kind bytes ≡ value_at key hint kind bytes
  unfolding value_in
  opened depth key hint kind bytes h = let t : nat_le 256 depth ≡ false = grind (arith, nat_tests) in rw t (shut (opens kind))
    where
      shut : (b : Bool) → (if b && false then fault 0 reasons.TooDeep else value_at key hint kind bytes) ≡ value_at key hint kind bytes
      shut true = refl
      shut false = refl

  flat : (depth : ℕ) (key : Bool) (hint : Hint) (kind : Kind) (bytes : List ℕ) → opens kind ≡ false → value_in depth key hint kind bytes ≡ value_at key hint kind bytes
  unfolding value_in
  flat depth key hint kind bytes h = rw h refl

  module _ (level : ℕ → ℕ) (d : Declarations) (up : List Level) (ty : Ty) (nest : List Slot) (opening : Opening) (bytes : List ℕ) where
    -- an item that is a whole value
    pub one : (kind : Kind) (item : Item) (token : List ℕ) (more : Tokens) → CallsFor nest kind → opens kind ≡ false → IsSolid token → Lies tail (leading opening nest (token ∷ more)) bytes
        → IsWord tail more (value_at (is_key (first_of nest)) (hint_at ty) kind) token item → position_after (at_type d up ty) item ≡ standing d (passed up) → after item nest ≡ spent nest → opening_after item ≡ openings.Old
        → Walks level (at_type d up ty) nest opening bytes (item ∷ []) (standing d (passed up)) (spent nest) more
    one kind item token more c not solid lies word p a o =
        let x = called (level (length nest)) nest opening kind bytes token more c solid lies in
        let f = front tail (value_at (is_key (first_of nest)) (hint_at ty) kind) token more (drop x.place bytes) item word x.ready in
        let read = flat (level (length nest)) (is_key (first_of nest)) (hint_at ty) kind (drop x.place bytes) not ∙ f.read in
        (x.place, x.place + f.past, x.reads (hint_at ty) item f.past read, (p, a, o, subst (Lies tail more) (drop-drop f.past x.place bytes) f.left))

    -- an item that opens a level
    pub begins : (kind : Kind) (item : Item) (items : List Item) (token : List ℕ) (others more : Tokens) (last : Position) (over : List Slot) (ends : Tokens) → CallsFor nest kind → level (length nest) < 256 → IsSolid token
        → Lies tail (leading opening nest (token ∷ others)) bytes → ((b : List ℕ) → IsReady tail token others b → Found tail (value_at (is_key (first_of nest)) (hint_at ty) kind) b item more)
        → ((rest : List ℕ) → Lies tail more rest → Walks level (position_after (at_type d up ty) item) (after item nest) (opening_after item) rest items last over ends)
        → Walks level (at_type d up ty) nest opening bytes (item ∷ items) last over ends
    begins kind item items token others more last over ends c few solid lies find go =
        let x = called (level (length nest)) nest opening kind bytes token others c solid lies in
        let f = find (drop x.place bytes) x.ready in
        let read = opened (level (length nest)) (is_key (first_of nest)) (hint_at ty) kind (drop x.place bytes) few ∙ f.read in
        (x.place, x.place + f.past, x.reads (hint_at ty) item f.past read, go (drop (x.place + f.past) bytes) (subst (Lies tail more) (drop-drop f.past x.place bytes) f.left))

  -- the end of a list or a set
  pub ended : (level : ℕ → ℕ) (d : Declarations) (held : Level) (outer : List Level) (kind : Kind) (up : List Slot) (opening : Opening) (bytes : List ℕ) (more : Tokens) → Lies tail (mark 93 ∷ more) bytes
      → Walks level (standing d (held ∷ outer)) (slots.Elements kind 0 ∷ up) opening bytes (end ∷ []) (standing d outer) up more
  unfolding lead_at item_in
  ended level d held outer kind up opening bytes more lies =
      let f = front tail end_at (mark 93) more (drop (gap bytes) bytes) end (end_word tail more) (ready_there bytes (mark 93) more refl lies) in
      (gap bytes, gap bytes + f.past, rw (f.read) refl, (refl, refl, refl, subst (Lies tail more) (drop-drop f.past (gap bytes) bytes) f.left))

  -- the end of a map with pairs
  pub ended_pairs : (level : ℕ → ℕ) (d : Declarations) (held : Level) (outer : List Level) (key value : Kind) (up : List Slot) (bytes : List ℕ) (more : Tokens) → Lies tail (mark 125 ∷ mark 93 ∷ more) bytes
      → Walks level (standing d (held ∷ outer)) (slots.Keys key value 0 ∷ up) openings.Old bytes (end ∷ []) (standing d outer) up more
  unfolding lead_at item_in
  ended_pairs level d held outer key value up bytes more lies =
      let l = lead_one 125 bytes (mark 93) more refl refl lies in
      let f = front tail end_at (mark 93) more (drop l.place bytes) end (end_word tail more) l.ready in
      (l.place, l.place + f.past, rw (l.read, f.read) refl, (refl, refl, refl, subst (Lies tail more) (drop-drop f.past l.place bytes) f.left))

  stop_word : (opening : Opening) (more : Tokens) → IsWord tail more (fields_at opening) (mark 125) stop
  stop_word openings.Body more = first_stop tail more
  stop_word openings.New more = first_stop tail more
  stop_word openings.Old more = next_stop tail more

  -- the end of a struct
  pub stopped : (level : ℕ → ℕ) (d : Declarations) (held : Level) (outer : List Level) (last : ℤ) (up : List Slot) (opening : Opening) (bytes : List ℕ) (more : Tokens) → Lies tail (field_leading opening (mark 125 ∷ more)) bytes
      → Walks level (standing d (held ∷ outer)) (slots.Fields last ∷ up) opening bytes (stop ∷ []) (standing d outer) up more
  stopped level d held outer last up opening bytes more lies =
      let l = field_led opening bytes (mark 125) more refl lies in
      let f = front tail (fields_at opening) (mark 125) more (drop l.place bytes) stop (stop_word opening more) l.ready in (
        l.place,
        l.place + f.past,
        field_reads (level (suc (length up))) opening (hint_of (standing d (held ∷ outer))) last bytes stop l.place f.past l.read f.read,
        (refl, refl, refl, subst (Lies tail more) (drop-drop f.past l.place bytes) f.left),
      )

  -- a field, and what follows the colon behind it
  field_walks_by : (level : ℕ → ℕ) (d : Declarations) (held : Level) (outer : List Level) (last : ℤ) (up : List Slot) (opening : Opening) (bytes token : List ℕ) (others more : Tokens) (id : ℤ) (kind : Kind) (items : List Item)
      (end_at : Position) (over : List Slot) (ends : Tokens) → IsSolid token → Lies tail (field_leading opening (token ∷ others)) bytes → ((b : List ℕ) → IsReady tail token others b → Found tail (fields_at opening) b (field id kind) more)
      → ((rest : List ℕ) → Lies tail more rest → Walks level (position_after (standing d (held ∷ outer)) (field id kind)) (slots.Value kind id ∷ up) openings.Old rest items end_at over ends)
      → Walks level (standing d (held ∷ outer)) (slots.Fields last ∷ up) opening bytes (field id kind ∷ items) end_at over ends
  field_walks_by level d held outer last up opening bytes token others more id kind items end_at over ends solid lies find go =
      let l = field_led opening bytes token others solid lies in
      let f = find (drop l.place bytes) l.ready in (
        l.place,
        l.place + f.past,
        field_reads (level (suc (length up))) opening (hint_of (standing d (held ∷ outer))) last bytes (field id kind) l.place f.past l.read f.read,
        go (drop (l.place + f.past) bytes) (subst (Lies tail more) (drop-drop f.past l.place bytes) f.left),
      )

  pub field_walks : (level : ℕ → ℕ) (d : Declarations) (held : Level) (outer : List Level) (last : ℤ) (up : List Slot) (opening : Opening) (bytes digits : List ℕ) (more : Tokens) (id : ℤ) (kind : Kind) (items : List Item)
      (end_at : Position) (over : List Slot) (ends : Tokens) → SpellsInt id digits → FitsSigned w16 id → IsNamed kind
      → Lies tail (field_leading opening (comma (is_first opening) ++ (quoted digits ∷ mark 58 ∷ mark 123 ∷ name_token kind ∷ more))) bytes
      → ((rest : List ℕ) → Lies tail more rest → Walks level (position_after (standing d (held ∷ outer)) (field id kind)) (slots.Value kind id ∷ up) openings.Old rest items end_at over ends)
      → Walks level (standing d (held ∷ outer)) (slots.Fields last ∷ up) opening bytes (field id kind ∷ items) end_at over ends
  field_walks level d held outer last up openings.Body bytes digits more id kind items end_at over ends spells fits named lies go =
      field_walks_by level d held outer last up openings.Body bytes (quoted digits) (mark 58 ∷ mark 123 ∷ name_token kind ∷ more) more id kind items end_at over ends refl lies (λ b ready. first_found tail id kind digits more b spells fits named ready) go
  field_walks level d held outer last up openings.New bytes digits more id kind items end_at over ends spells fits named lies go =
      field_walks_by level d held outer last up openings.New bytes (quoted digits) (mark 58 ∷ mark 123 ∷ name_token kind ∷ more) more id kind items end_at over ends refl lies (λ b ready. first_found tail id kind digits more b spells fits named ready) go
  field_walks level d held outer last up openings.Old bytes digits more id kind items end_at over ends spells fits named lies go =
      field_walks_by level d held outer last up openings.Old bytes (mark 44) (quoted digits ∷ mark 58 ∷ mark 123 ∷ name_token kind ∷ more) more id kind items end_at over ends refl lies (λ b ready. next_found tail id kind digits more b spells fits named ready) go
