-- One item that is read, by the level that calls for it.
use Rattle.std.proofs.Common.{◌≡◌, ℕ, ℤ, suc, ◌+◌, ◌≤◌, true, false, List, [], ◌∷◌, ◌++◌, length, drop, Some, Ok, refl, ap, ◌∙◌, sym, subst, arith, ◌⊎◌, inl, inr}
use Rattle.std.specs.Prelude.{◌==◌, if◌then◌else◌}
use Rattle.std.proofs.lemmas.Bool.Decides.{nat_tests}
use Rattle.thrift_value.specs.declared.kind.Kind.{Kind}
use Rattle.thrift_value.specs.Items.{Item, field, stop, end}
use Rattle.thrift_value.specs.Trees.{no_members, no_trees, no_pairs}
use Rattle.protocol_traits.specs.declared.nest.Slot.{Slot}
use Rattle.protocol_traits.specs.declared.nest.Slot.TheVariants as slots
use Rattle.protocol_traits.specs.Stack.{first_of}
use Rattle.protocol_traits.specs.Follow.{spent, after}
use Rattle.protocol_traits.specs.Room.{IsSized}
use Rattle.type_tables.specs.declared.declared.Ty.{Ty}
use Rattle.type_tables.specs.Declarations.{Declarations}
use Rattle.type_walk.specs.declared.levels.Level.{Level}
use Rattle.type_walk.specs.Positions.{Position, under, hint_at, hint_of, field_type, standing}
use Rattle.type_walk.specs.Positions.{after as position_after}
use Rattle.json_text_laws.proofs.Choices.{either_way}
use Rattle.json_protocol.specs.declared.opening.Opening.{Opening}
use Rattle.json_protocol.specs.declared.opening.Opening.TheVariants as openings
use Rattle.json_protocol.specs.Scan.{gap}
use Rattle.json_protocol.specs.Values.{end_at, value_in}
use Rattle.json_protocol.specs.Reading.{lead_by, lead_key, lead_at, fields_at, item_in, scan_at, opening_after}
use Rattle.json_protocol.specs.Writing.{quoted, is_key}
use Rattle.json_protocol.specs.Grammar.{Tokens, mark, comma, name_token}
use Rattle.binary_laws.proofs.Walking.{CallsFor, length-spent}
use Rattle.json_laws.specs.Positions.{field_of, element_of, key_of, value_of}
use Rattle.json_laws.proofs.Marks.{Lies, solid_begins}
use Rattle.json_laws.proofs.Places.{IsOf, under_of, field_place, at_type}
use Rattle.json_laws.specs.Fronts.{leading, field_leading, is_first, SpellsValue, SpellsItem, IsOfValue, BeginsToken}
use Rattle.json_laws.proofs.Trees.{tokens_append}
use Rattle.json_laws.proofs.Inverse.{is_read}
use Rattle.json_laws.proofs.ItemsBack.{StopRead, FieldRead, first_back, next_back, end_back}
use Rattle.json_laws.proofs.Levels.{Level as Held, Ends, value_type, with_value, with_field}
use Rattle.json_laws.proofs.Begun.{Leaf, Opened, value_next}
use Rattle.json_laws.proofs.Solid.{value_solid}
use Rattle.json_laws.proofs.Stepping.{Leads, one_lead, no_lead, field_lead, answer, led_back, moved_on, called_back, value_past, Stand, outer_stand, spent_tied, new_stand}

pub lead_append : (opening : Opening) (nest : List Slot) (a b : Tokens) → leading opening nest a ++ b ≡ leading opening nest (a ++ b)
lead_append opening [] a b = refl
lead_append opening (slots.Fields last ∷ up) a b = refl
lead_append opening (slots.Value k id ∷ up) a b = refl
lead_append opening (slots.Elements k left ∷ up) a b = refl
lead_append openings.Body (slots.Keys k v left ∷ up) a b = refl
lead_append openings.New (slots.Keys k v left ∷ up) a b = refl
lead_append openings.Old (slots.Keys k v left ∷ up) a b = refl
lead_append opening (slots.Values k v left ∷ up) a b = refl

field_append : (opening : Opening) (a b : Tokens) → field_leading opening a ++ b ≡ field_leading opening (a ++ b)
field_append openings.Body a b = refl
field_append openings.New a b = refl
field_append openings.Old a b = refl

-- behind the marks that lead to a value stands its first token
abbrev pub StandsAt : Opening → List Slot → List ℕ → ℕ → Type 0
StandsAt opening nest bytes start = Leads (leading opening nest) bytes start × BeginsToken (drop start bytes)

module _ (d : Declarations) (limit : ℕ) (least : 256 ≤ limit) where
  -- the tokens of one item, where the walk stands behind it, and what the levels held before it
  pub record Stepped (p : Position) (nest : List Slot) (opening : Opening) (tys : List Ty) (bytes : List ℕ) (item : Item) (start taken : ℕ) : Type 0 where
    pub tokens : Tokens
    pub spells : SpellsItem (hint_of p) opening nest item tokens
    pub value : IsOfValue item → StandsAt opening nest bytes start
    pub lies : (tail : List ℕ) (more : Tokens) → Lies tail more (drop taken bytes) → Lies tail (tokens ++ more) bytes
    pub levels : List Level
    pub types : List Ty
    pub stand : Stand d (position_after p item) (after item nest) (opening_after item) levels types
    pub onward : (items : List Item) (rest : Tokens) → Ends d limit (opening_after item) (after item nest) types items rest → Ends d limit opening nest tys (item ∷ items) (tokens ++ rest)

  same_stand : (p q : Position) (m n : List Slot) (a b : Opening) (levels : List Level) (tys : List Ty) → p ≡ q → m ≡ n → a ≡ b → Stand d p m a levels tys → Stand d q n b levels tys
  same_stand p q m n a b levels tys e f g s = subst (λ x. Stand d x n b levels tys) e (subst (λ x. Stand d p x b levels tys) f (subst (λ x. Stand d p m x levels tys) g s))

  same_ends : (m n : List Slot) (a b : Opening) (tys : List Ty) (items : List Item) (rest : Tokens) → m ≡ n → a ≡ b → Ends d limit a m tys items rest → Ends d limit b n tys items rest
  same_ends m n a b tys items rest f g e = subst (λ x. Ends d limit b x tys items rest) f (subst (λ x. Ends d limit x m tys items rest) g e)

  -- ---- a value

  module _ (nest : List Slot) (opening : Opening) (p : Position) (levels : List Level) (tys : List Ty) (bytes : List ℕ) (item : Item) (start taken : ℕ) (k : Kind) where
    own_at : (first : List ℕ) (others : Tokens) → p ≡ at_type d levels (value_type d nest tys) → SpellsValue (is_key (first_of nest)) (hint_at (value_type d nest tys)) item (first ∷ others)
        → SpellsValue (is_key (first_of nest)) (hint_of p) item (first ∷ others)
    own_at first others at own = subst (λ h. SpellsValue (is_key (first_of nest)) h item (first ∷ others)) (sym (ap hint_of at)) own

    by_leaf : (first : List ℕ) (others : Tokens) → CallsFor nest k → Stand d p nest opening levels tys → p ≡ at_type d levels (value_type d nest tys)
        → ((tail : List ℕ) (more : Tokens) → Lies tail more (drop taken bytes) → Lies tail (leading opening nest (first ∷ (others ++ more))) bytes)
        → SpellsValue (is_key (first_of nest)) (hint_at (value_type d nest tys)) item (first ∷ others) → StandsAt opening nest bytes start
        → Leaf d limit (length nest) (is_key (first_of nest)) (value_type d nest tys) k item (first ∷ others) → Stepped p nest opening tys bytes item start taken
    by_leaf first others c s at lies own there leaf =
        let sp = spent_tied d nest levels tys k c s.tied in
        let moved : position_after p item ≡ standing d sp.new = ap (λ q. position_after q item) at ∙ leaf.moves levels ∙ ap (standing d) sp.is in
        record {
          tokens = leading opening nest (first ∷ others);
          spells = inr (inr (inr (first ∷ others, own_at first others at own, refl)));
          value = λ v. there;
          lies = (λ tail more h. subst (λ t. Lies tail t bytes) (sym (lead_append opening nest (first ∷ others) more)) (lies tail more h));
          levels = sp.new;
          types = tys;
          stand = same_stand (standing d sp.new) (position_after p item) (spent nest) (after item nest) openings.Old (opening_after item) sp.new tys (sym moved) (sym (leaf.spends nest)) (sym leaf.old) (outer_stand d (spent nest) sp.new tys sp.tied);
          onward = (λ items rest e.
              let e2 = same_ends (after item nest) (spent nest) (opening_after item) openings.Old tys items rest (leaf.spends nest) leaf.old e in
              subst (Ends d limit opening nest tys (item ∷ items)) (sym (lead_append opening nest (first ∷ others) rest)) (with_value d limit opening nest tys k (item ∷ []) items (first ∷ others) rest c leaf.tree e2));
        }

    by_opened : (first : List ℕ) (others : Tokens) → CallsFor nest k → Stand d p nest opening levels tys → p ≡ at_type d levels (value_type d nest tys)
        → ((tail : List ℕ) (more : Tokens) → Lies tail more (drop taken bytes) → Lies tail (leading opening nest (first ∷ (others ++ more))) bytes)
        → SpellsValue (is_key (first_of nest)) (hint_at (value_type d nest tys)) item (first ∷ others) → StandsAt opening nest bytes start
        → Opened d limit (length nest) (is_key (first_of nest)) (value_type d nest tys) k item (first ∷ others) → Stepped p nest opening tys bytes item start taken
    by_opened first others c s at lies own there o =
        let sp = spent_tied d nest levels tys k c s.tied in
        let vty = value_type d nest tys in
        let moved : position_after p item ≡ standing d (o.level ∷ sp.new) = ap (λ q. position_after q item) at ∙ o.moves levels ∙ ap (λ l. standing d (o.level ∷ l)) sp.is in
        record {
          tokens = leading opening nest (first ∷ others);
          spells = inr (inr (inr (first ∷ others, own_at first others at own, refl)));
          value = λ v. there;
          lies = (λ tail more h. subst (λ t. Lies tail t bytes) (sym (lead_append opening nest (first ∷ others) more)) (lies tail more h));
          levels = o.level ∷ sp.new;
          types = vty ∷ tys;
          stand = same_stand (standing d (o.level ∷ sp.new)) (position_after p item) (o.slot ∷ spent nest) (after item nest) openings.New (opening_after item) (o.level ∷ sp.new) (vty ∷ tys) (sym moved) (sym (o.adds nest)) (sym o.new)
              (new_stand d o.slot (spent nest) o.level sp.new vty tys o.tied o.good sp.tied);
          onward = (λ items rest e.
              let b = same_ends (after item nest) (o.slot ∷ spent nest) (opening_after item) openings.New (vty ∷ tys) items rest (o.adds nest) o.new e in
              let one = subst (λ n. Held d limit openings.New vty o.slot (suc n) b.first b.front) (length-spent nest) b.one in
              let whole = with_value d limit opening nest tys k (item ∷ b.first) b.second ((first ∷ others) ++ b.front) b.back c (o.tree b.first b.front one) b.two in
              let laid : leading opening nest (((first ∷ others) ++ b.front) ++ b.back) ≡ leading opening nest (first ∷ others) ++ rest =
              ap (leading opening nest) (tokens_append (first ∷ others) b.front b.back ∙ ap (λ l. (first ∷ others) ++ l) (sym b.laid)) ∙ sym (lead_append opening nest (first ∷ others) rest) in
              subst (Ends d limit opening nest tys (item ∷ items)) laid (subst (λ l. Ends d limit opening nest tys (item ∷ l) (leading opening nest (((first ∷ others) ++ b.front) ++ b.back))) (sym b.is) whole));
        }

    value_step : CallsFor nest k → Stand d p nest opening levels tys → p ≡ at_type d levels (value_type d nest tys) → IsOf (value_type d nest tys) k → IsSized item → length nest ≤ 256
        → scan_at (length nest) opening (hint_of p) (first_of nest) bytes ≡ answer ((item, start), taken) → Stepped p nest opening tys bytes item start taken
    value_step c s at of sized most e =
        let vty = value_type d nest tys in
        let key = is_key (first_of nest) in
        let x = called_back nest opening (hint_of p) k bytes item start taken c e in
        let read = subst (λ h. value_in (length nest) key h k (drop x.place bytes) ≡ is_read (item, x.inner)) (ap hint_of at) x.read in
        let y = value_past (length nest) key (hint_at vty) k (drop x.place bytes) item x.inner read in
        let v = value_next d limit (length nest) key vty least most (drop x.place bytes) item x.inner k of sized y.0 y.1 in
        let lies : (tail : List ℕ) (more : Tokens) → Lies tail more (drop taken bytes) → Lies tail (leading opening nest (v.first ∷ (v.others ++ more))) bytes =
        λ tail more h. x.leads tail v.first (v.others ++ more) (v.lies tail more (moved_on tail more bytes x.place x.inner taken x.sum h)) in
        let solid = value_solid key (hint_at vty) item v.first v.others v.spells in
        let there : StandsAt opening nest bytes start = (
          subst (Leads (leading opening nest) bytes) x.begins x.leads,
          subst (λ n. BeginsToken (drop n bytes)) x.begins (subst BeginsToken (sym v.stands) (solid_begins v.first v.rest solid)),
        ) in
        by_next v.first v.others lies v.spells there v.next
      where
        by_next : (first : List ℕ) (others : Tokens) → ((tail : List ℕ) (more : Tokens) → Lies tail more (drop taken bytes) → Lies tail (leading opening nest (first ∷ (others ++ more))) bytes)
            → SpellsValue (is_key (first_of nest)) (hint_at (value_type d nest tys)) item (first ∷ others) → StandsAt opening nest bytes start
            → Leaf d limit (length nest) (is_key (first_of nest)) (value_type d nest tys) k item (first ∷ others) ⊎ Opened d limit (length nest) (is_key (first_of nest)) (value_type d nest tys) k item (first ∷ others) → Stepped p nest opening tys bytes item start taken
        by_next first others lies own there (inl leaf) = by_leaf first others c s at lies own there leaf
        by_next first others lies own there (inr o) = by_opened first others c s at lies own there o

  -- ---- the end of a container

  elements_end : (k : Kind) (left : ℕ) (up : List Slot) (opening : Opening) (p : Position) (level : Level) (levels : List Level) (ty : Ty) (tys : List Ty) (bytes : List ℕ) (item : Item) (start taken : ℕ)
      → (left == 0) ≡ true → Stand d p (slots.Elements k left ∷ up) opening (level ∷ levels) (ty ∷ tys) → suc (length up) ≤ 256
      → scan_at (suc (length up)) opening (hint_of p) (Some (slots.Elements k left)) bytes ≡ answer ((item, start), taken) → Stepped p (slots.Elements k left ∷ up) opening (ty ∷ tys) bytes item start taken
  unfolding lead_at item_in
  elements_end k left up opening p level levels ty tys bytes item start taken none s most e =
      let nest = slots.Elements k left ∷ up in
      let l = led_back (suc (length up)) opening (hint_of p) (slots.Elements k left) bytes item start taken e in
      let leads = no_lead bytes tt l.place (subst (λ b. (if b then Ok (tt, gap bytes) else lead_by 44 bytes) ≡ is_read (tt, l.place)) none l.lead) in
      let r = end_back (drop l.place bytes) item l.inner (subst (λ b. (if b then end_at (drop l.place bytes) else value_in (suc (length up)) false (hint_of p) k (drop l.place bytes)) ≡ is_read (item, l.inner)) none l.read) in
      let zero_left : 0 ≡ left = grind (arith, nat_tests) in
      subst (λ i. Stepped p nest opening (ty ∷ tys) bytes i start taken) (sym r.0) (record {
        tokens = mark 93 ∷ [];
        spells = inr (inr (inl (refl, refl)));
        value = λ v. absurd v;
        lies = (λ tail more h. leads tail (mark 93) more (r.1 tail more (moved_on tail more bytes l.place l.inner taken l.sum h)));
        levels = levels;
        types = tys;
        stand = same_stand (standing d levels) (position_after p end) up up openings.Old openings.Old levels tys (sym (ap (λ q. position_after q end) s.at)) refl refl (outer_stand d up levels tys s.tied.1);
        onward = (λ items rest b. record {
          first = end ∷ [];
          second = items;
          front = mark 93 ∷ [];
          back = rest;
          one = record { ts = no_trees; count = zero_left; are = tt; inner = []; spells = refl; laid = refl; is = refl; deep = omega arith };
          two = b;
          is = refl;
          laid = refl;
        });
      })

  pairs_end : (k v : Kind) (left : ℕ) (up : List Slot) (p : Position) (level : Level) (levels : List Level) (ty : Ty) (tys : List Ty) (bytes : List ℕ) (item : Item) (start taken : ℕ)
      → (left == 0) ≡ true → Stand d p (slots.Keys k v left ∷ up) openings.Old (level ∷ levels) (ty ∷ tys) → suc (length up) ≤ 256
      → scan_at (suc (length up)) openings.Old (hint_of p) (Some (slots.Keys k v left)) bytes ≡ answer ((item, start), taken) → Stepped p (slots.Keys k v left ∷ up) openings.Old (ty ∷ tys) bytes item start taken
  unfolding lead_at item_in
  pairs_end k v left up p level levels ty tys bytes item start taken none s most e =
      let nest = slots.Keys k v left ∷ up in
      let l = led_back (suc (length up)) openings.Old (hint_of p) (slots.Keys k v left) bytes item start taken e in
      let leads = one_lead 125 bytes tt l.place (subst (λ b. (if b then lead_by 125 bytes else lead_key openings.Old bytes) ≡ is_read (tt, l.place)) none l.lead) in
      let r = end_back (drop l.place bytes) item l.inner (subst (λ b. (if b then end_at (drop l.place bytes) else value_in (suc (length up)) true (hint_of p) k (drop l.place bytes)) ≡ is_read (item, l.inner)) none l.read) in
      let zero_left : 0 ≡ left = grind (arith, nat_tests) in
      subst (λ i. Stepped p nest openings.Old (ty ∷ tys) bytes i start taken) (sym r.0) (record {
        tokens = mark 125 ∷ mark 93 ∷ [];
        spells = inr (inr (inl (refl, refl)));
        value = λ v. absurd v;
        lies = (λ tail more h. leads tail (mark 93) more (r.1 tail more (moved_on tail more bytes l.place l.inner taken l.sum h)));
        levels = levels;
        types = tys;
        stand = same_stand (standing d levels) (position_after p end) up up openings.Old openings.Old levels tys (sym (ap (λ q. position_after q end) s.at)) refl refl (outer_stand d up levels tys s.tied.1);
        onward = (λ items rest b. record {
          first = end ∷ [];
          second = items;
          front = mark 125 ∷ mark 93 ∷ [];
          back = rest;
          one = (mark 125 ∷ mark 93 ∷ [], refl, record { ps = no_pairs; count = zero_left; are = tt; inner = []; spells = refl; laid = refl; is = refl; deep = omega arith });
          two = b;
          is = refl;
          laid = refl;
        });
      })

  -- ---- fields

  fields_back : (opening : Opening) (bytes : List ℕ) (item : Item) (taken : ℕ) → fields_at opening bytes ≡ is_read (item, taken) → StopRead item bytes taken ⊎ FieldRead (is_first opening) item bytes taken
  fields_back openings.Body bytes item taken e = first_back bytes item taken e
  fields_back openings.New bytes item taken e = first_back bytes item taken e
  fields_back openings.Old bytes item taken e = next_back bytes item taken e

  field_leads : (opening : Opening) (bytes : List ℕ) (place : ℕ) → Leads (field_leading opening) bytes place → (tail digits : List ℕ) (others : Tokens)
      → Lies tail (comma (is_first opening) ++ (quoted digits ∷ others)) (drop place bytes) → Lies tail (field_leading opening (comma (is_first opening) ++ (quoted digits ∷ others))) bytes
  field_leads openings.Body bytes place leads tail digits others h = leads tail (quoted digits) others h
  field_leads openings.New bytes place leads tail digits others h = leads tail (quoted digits) others h
  field_leads openings.Old bytes place leads tail digits others h = leads tail (mark 44) (quoted digits ∷ others) h

  module _ (last : ℤ) (up : List Slot) (opening : Opening) (p : Position) (level : Level) (levels : List Level) (ty : Ty) (tys : List Ty) (bytes : List ℕ) (item : Item) (start place inner taken : ℕ) (sum : place + inner ≡ taken)
      (leads : Leads (field_leading opening) bytes place) (s : Stand d p (slots.Fields last ∷ up) opening (level ∷ levels) (ty ∷ tys)) (most : suc (length up) ≤ 256) where
    stop_step : StopRead item (drop place bytes) inner → Stepped p (slots.Fields last ∷ up) opening (ty ∷ tys) bytes item start taken
    stop_step r = subst (λ i. Stepped p (slots.Fields last ∷ up) opening (ty ∷ tys) bytes i start taken) (sym r.is) (record {
      tokens = field_leading opening (mark 125 ∷ []);
      spells = inr (inl (refl, refl));
      value = λ v. absurd v;
      lies = (λ tail more h. subst (λ t. Lies tail t bytes) (sym (field_append opening (mark 125 ∷ []) more)) (leads tail (mark 125) more (r.lies tail more (moved_on tail more bytes place inner taken sum h))));
      levels = levels;
      types = tys;
      stand = same_stand (standing d levels) (position_after p stop) up up openings.Old openings.Old levels tys (sym (ap (λ q. position_after q stop) s.at)) refl refl (outer_stand d up levels tys s.tied.1);
      onward = (λ items rest b. record {
        first = stop ∷ [];
        second = items;
        front = field_leading opening (mark 125 ∷ []);
        back = rest;
        one = (mark 125 ∷ [], refl, record { ms = no_members; are = tt; inner = []; spells = refl; laid = refl; is = refl; deep = omega arith });
        two = b;
        is = refl;
        laid = refl;
      });
    })

    field_step : FieldRead (is_first opening) item (drop place bytes) inner → Stepped p (slots.Fields last ∷ up) opening (ty ∷ tys) bytes item start taken
    field_step f =
        let first = comma (is_first opening) in
        let head = quoted f.digits ∷ mark 58 ∷ mark 123 ∷ name_token f.kind ∷ [] in
        let at : position_after p (field f.id f.kind) ≡ at_type d (level ∷ levels) (under (field_of d ty f.id) f.kind) =
        ap (λ q. position_after q (field f.id f.kind)) s.at ∙ ap (λ z. at_type d (level ∷ levels) (field_type d (Some z) f.id f.kind)) s.tied.0 ∙ ap (at_type d (level ∷ levels)) (field_place d ty f.id f.kind) in
        subst (λ i. Stepped p (slots.Fields last ∷ up) opening (ty ∷ tys) bytes i start taken) (sym f.is) (record {
          tokens = field_leading opening (first ++ head);
          spells = inl (f.id, f.kind, f.digits, refl, f.spells, f.named, refl);
          value = λ v. absurd v;
          lies = (λ tail more h.
              subst (λ t. Lies tail t bytes) (sym (field_append opening (first ++ head) more ∙ ap (field_leading opening) (tokens_append first head more)))
              (field_leads opening bytes place leads tail f.digits (mark 58 ∷ mark 123 ∷ name_token f.kind ∷ more) (f.lies tail more (moved_on tail more bytes place inner taken sum h))));
          levels = level ∷ levels;
          types = ty ∷ tys;
          stand = record { tied = s.tied; at = at; fresh = tt };
          onward = (λ items rest b. record {
            first = field f.id f.kind ∷ b.first;
            second = b.second;
            front = field_leading opening (first ++ (head ++ b.front));
            back = b.back;
            one = with_field d limit opening (suc (length up)) ty f.id f.kind f.digits f.spells f.fits f.named b.first b.front b.one;
            two = b.two;
            is = ap (λ l. field f.id f.kind ∷ l) b.is;
            laid =
                ap (λ l. field_leading opening (first ++ head) ++ l) b.laid ∙ sym (tokens_append (field_leading opening (first ++ head)) b.front b.back)
                ∙ ap (λ l. l ++ b.back) (field_append opening (first ++ head) b.front ∙ ap (field_leading opening) (tokens_append first head b.front));
          });
        })

  -- ---- one step

  pub stepped : (slot : Slot) (up : List Slot) (opening : Opening) (p : Position) (levels : List Level) (tys : List Ty) (bytes : List ℕ) (item : Item) (start taken : ℕ) → Stand d p (slot ∷ up) opening levels tys → IsSized item → suc (length up) ≤ 256
      → scan_at (suc (length up)) opening (hint_of p) (Some slot) bytes ≡ answer ((item, start), taken) → Stepped p (slot ∷ up) opening tys bytes item start taken
  unfolding lead_at item_in
  stepped slot up opening p [] tys bytes item start taken s sized most e = absurd s.tied
  stepped slot up opening p (level ∷ levels) [] bytes item start taken s sized most e = absurd s.tied
  stepped (slots.Fields last) up opening p (level ∷ levels) (ty ∷ tys) bytes item start taken s sized most e =
      let l = led_back (suc (length up)) opening (hint_of p) (slots.Fields last) bytes item start taken e in
      by_field l.place l.inner l.sum (field_lead opening bytes tt l.place l.lead) (fields_back opening (drop l.place bytes) item l.inner l.read)
    where
      by_field : (place inner : ℕ) → place + inner ≡ taken → Leads (field_leading opening) bytes place → StopRead item (drop place bytes) inner ⊎ FieldRead (is_first opening) item (drop place bytes) inner → Stepped p (slots.Fields last ∷ up) opening (ty ∷ tys) bytes item start taken
      by_field place inner sum leads (inl r) = stop_step last up opening p level levels ty tys bytes item start place inner taken sum leads s most r
      by_field place inner sum leads (inr f) = field_step last up opening p level levels ty tys bytes item start place inner taken sum leads s most f
  stepped (slots.Value k id) up opening p (level ∷ levels) (ty ∷ tys) bytes item start taken s sized most e =
      value_step (slots.Value k id ∷ up) opening p (level ∷ levels) (ty ∷ tys) bytes item start taken k refl s s.at (under_of (field_of d ty id) k) sized most e
  stepped (slots.Values k v left) up opening p (level ∷ levels) (ty ∷ tys) bytes item start taken s sized most e =
      value_step (slots.Values k v left ∷ up) opening p (level ∷ levels) (ty ∷ tys) bytes item start taken v refl s s.at (under_of (value_of d ty) v) sized most e
  stepped (slots.Elements k left) up opening p (level ∷ levels) (ty ∷ tys) bytes item start taken s sized most e = by_left (either_way (left == 0))
    where
      by_left : ((left == 0) ≡ true) ⊎ ((left == 0) ≡ false) → Stepped p (slots.Elements k left ∷ up) opening (ty ∷ tys) bytes item start taken
      by_left (inl none) = elements_end k left up opening p level levels ty tys bytes item start taken none s most e
      by_left (inr some) = value_step (slots.Elements k left ∷ up) opening p (level ∷ levels) (ty ∷ tys) bytes item start taken k (refl, grind (arith, nat_tests)) s s.at (under_of (element_of d ty) k) sized most e
  stepped (slots.Keys k v left) up opening p (level ∷ levels) (ty ∷ tys) bytes item start taken s sized most e = by_left (either_way (left == 0))
    where
      by_opening : (o : Opening) → (left == 0) ≡ true → Stand d p (slots.Keys k v left ∷ up) o (level ∷ levels) (ty ∷ tys) → scan_at (suc (length up)) o (hint_of p) (Some (slots.Keys k v left)) bytes ≡ answer ((item, start), taken)
          → Stepped p (slots.Keys k v left ∷ up) o (ty ∷ tys) bytes item start taken
      by_opening openings.Old none t h = pairs_end k v left up p level levels ty tys bytes item start taken none t most h
      by_opening openings.New none t h = let some = t.fresh in absurd (grind (arith, nat_tests))
      by_opening openings.Body none t h = let some = t.fresh in absurd (grind (arith, nat_tests))

      by_left : ((left == 0) ≡ true) ⊎ ((left == 0) ≡ false) → Stepped p (slots.Keys k v left ∷ up) opening (ty ∷ tys) bytes item start taken
      by_left (inl none) = by_opening opening none s e
      by_left (inr some) = value_step (slots.Keys k v left ∷ up) opening p (level ∷ levels) (ty ∷ tys) bytes item start taken k (refl, grind (arith, nat_tests)) s s.at (under_of (key_of d ty) k) sized most e
