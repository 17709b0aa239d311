-- What one value's scan has read is a value of the grammar, or the begin of one.
use Rattle.std.proofs.Common.{◌≡◌, ℕ, zero, suc, pos, negsuc, ◌<◌, ◌≤◌, Bool, true, List, [], ◌∷◌, ◌++◌, drop, refl, ap, ◌∙◌, sym, subst, arith, ◌⊎◌, inl, inr}
use Rattle.std.specs.Prelude.{int_lt}
use Rattle.std.specs.Fmt.{decimal}
use Rattle.thrift_value.specs.declared.kind.Kind.{Kind}
use Rattle.thrift_value.specs.declared.kind.Kind.TheVariants as kinds
use Rattle.thrift_value.specs.Items.{Item, bool_value, i8_value, i16_value, i32_value, i64_value, text, number_text, unknown_text, struct_begin, empty_map, map_begin, set_begin, list_begin}
use Rattle.thrift_value.specs.Trees.{truth, whole_8, whole_16, whole_32, whole_64, characters, loose_number, loose_text, structure, mapping_of_none, mapping, collection, sequence, count_of_trees, count_of_pairs}
use Rattle.protocol_traits.specs.declared.nest.Slot.{Slot}
use Rattle.protocol_traits.specs.declared.nest.Slot.TheVariants as slots
use Rattle.protocol_traits.specs.declared.proto.Hint.{Hint}
use Rattle.protocol_traits.specs.declared.proto.Hint.TheVariants as hints
use Rattle.protocol_traits.specs.declared.fault.Reason.TheVariants as reasons
use Rattle.protocol_traits.specs.Follow.{spent, after}
use Rattle.protocol_traits.specs.Room.{IsSized}
use Rattle.type_tables.specs.declared.declared.Ty.{Ty}
use Rattle.type_tables.specs.Declarations.{Declarations}
use Rattle.type_walk.specs.declared.levels.Level.{Level}
use Rattle.type_walk.specs.Positions.{under, hint_at, in_struct, in_map, in_set, in_list, passed, standing}
use Rattle.type_walk.specs.Positions.{after as position_after}
use Rattle.json_text.specs.Grammar.{SpellsText, SpellsBlob}
use Rattle.json_protocol.specs.declared.opening.Opening.TheVariants as openings
use Rattle.json_protocol.specs.Scan.{mark_at}
use Rattle.json_protocol.specs.Words.{whole_in, double_in, text_in, blob_in, string_in}
use Rattle.json_protocol.specs.Values.{i16_low, bool_at, i8_at, i16_at, i32_at, i64_at, double_at, struct_at, sequence_at, list_at, set_at, map_head_at, map_then, map_at, opens, value_at}
use Rattle.json_protocol.specs.Reading.{opening_after}
use Rattle.json_protocol.specs.Writing.{number, flag}
use Rattle.json_protocol.specs.Grammar.{Tokens, mark, name_token, IsStringToken, IsLooseToken, IsDoubleToken}
use Rattle.json_laws.specs.Positions.{element_of, key_of, value_of}
use Rattle.json_laws.specs.Fronts.{SpellsValue}
use Rattle.json_laws.proofs.Marks.{Lies}
use Rattle.json_laws.proofs.Places.{IsOf, Holds, list_holds, set_holds, HoldsPairs, map_holds, at_type}
use Rattle.json_laws.proofs.Inverse.{is_read, same_read, no_fault, bound, Token, token_lies, mark_back}
use Rattle.json_laws.proofs.WordsBack.{IsWhole, whole_back, text_back, blob_back, double_back}
use Rattle.json_laws.proofs.ItemsBack.{range_flag, range_8, range_16, range_32, range_64, mark_first, flag_digits, sequence_back, MapHeadRead, map_head_back, no_pairs_back}
use Rattle.json_laws.proofs.Levels.{IsTree, Level as Held}

module _ (d : Declarations) where
  -- the level that the walk keeps belongs to the slot and to the type that stands there
  abbrev pub TiedOne : Slot → Level → Ty → Type 0
  TiedOne (slots.Fields last) level ty = level ≡ in_struct ty
  TiedOne (slots.Value k id) level ty = level ≡ in_struct ty
  TiedOne (slots.Elements k left) level ty = Holds level (under (element_of d ty) k)
  TiedOne (slots.Keys k v left) level ty = (values : Level) × HoldsPairs level values (under (key_of d ty) k) (under (value_of d ty) v)
  TiedOne (slots.Values k v left) level ty = (keys : Level) × HoldsPairs keys level (under (key_of d ty) k) (under (value_of d ty) v)

  -- a level that has just begun calls for no value of a field, and a map has a pair
  abbrev pub IsGood : Slot → Type 0
  IsGood (slots.Keys k v left) = 1 ≤ left
  IsGood (slots.Value k id) = ⊥
  IsGood slot = Unit {0}

  module _ (limit depth : ℕ) (key : Bool) (ty : Ty) where
    -- a whole value
    pub record Leaf (k : Kind) (item : Item) (tokens : Tokens) : Type 0 where
      pub spends : (nest : List Slot) → after item nest ≡ spent nest
      pub old : opening_after item ≡ openings.Old
      pub moves : (outer : List Level) → position_after (at_type d outer ty) item ≡ standing d (passed outer)
      pub tree : IsTree d limit depth key ty k (item ∷ []) tokens

    -- one that opens a level and is whole with what that holds
    pub record Opened (k : Kind) (item : Item) (tokens : Tokens) : Type 0 where
      pub slot : Slot
      pub level : Level
      pub adds : (nest : List Slot) → after item nest ≡ slot ∷ spent nest
      pub new : opening_after item ≡ openings.New
      pub moves : (outer : List Level) → position_after (at_type d outer ty) item ≡ standing d (level ∷ passed outer)
      pub tied : TiedOne slot level ty
      pub good : IsGood slot
      pub tree : (mine : List Item) (a : Tokens) → Held d limit openings.New ty slot (suc depth) mine a → IsTree d limit depth key ty k (item ∷ mine) (tokens ++ a)

    pub record ValueRead (k : Kind) (bytes : List ℕ) (item : Item) (taken : ℕ) : Type 0 where
      pub first : List ℕ
      pub others : Tokens
      pub lies : (tail : List ℕ) (more : Tokens) → Lies tail more (drop taken bytes) → Lies tail (first ∷ (others ++ more)) bytes
      pub next : Leaf k item (first ∷ others) ⊎ Opened k item (first ∷ others)
      pub spells : SpellsValue key (hint_at ty) item (first ∷ others)
      pub rest : List ℕ
      pub stands : bytes ≡ first ++ rest

    turned : (k : Kind) (bytes : List ℕ) (i item : Item) (n taken : ℕ) → (i ≡ item) × (n ≡ taken) → ValueRead k bytes i n → ValueRead k bytes item taken
    turned k bytes i item n taken e r = subst (λ x. ValueRead k bytes x taken) e.0 (subst (ValueRead k bytes i) e.1 r)

    one : (k : Kind) (bytes : List ℕ) (item : Item) (taken : ℕ) (Is : List ℕ → Type 0) (t : Token bytes taken Is) → Leaf k item (t.token ∷ []) → SpellsValue key (hint_at ty) item (t.token ∷ []) → ValueRead k bytes item taken
    one k bytes item taken Is t leaf spells =
        record { first = t.token; others = []; lies = (λ tail more lies. token_lies tail bytes taken Is t more lies); next = inl leaf; spells = spells; rest = t.rest; stands = t.laid }

    -- ---- values with no level

    module _ (least : 256 ≤ limit) (most : depth ≤ 256) (bytes : List ℕ) (item : Item) (taken : ℕ) where
      bool_next : bool_at key bytes ≡ is_read (item, taken) → ValueRead kinds.Bool bytes item taken
      unfolding bool_at
      bool_next e =
          let a = bound (whole_in key reasons.BadBool (pos 0) (pos 1) bytes) _ (item, taken) e in
          let z = a.0.0 in
          let b = int_lt (pos 0) z in
          let t = whole_back key reasons.BadBool (pos 0) (pos 1) z bytes a.0.1 range_flag a.1 in
          let token : t.token ≡ number key (flag b) = t.is.2 ∙ ap (number key) (flag_digits z t.is.0 t.is.1) in
          turned kinds.Bool bytes (bool_value b) item a.0.1 taken (same_read (bool_value b) item a.0.1 taken a.2) (one kinds.Bool bytes (bool_value b) a.0.1 (IsWhole key (pos 0) (pos 1) z) t (record {
            spends = λ nest. refl;
            old = refl;
            moves = λ outer. refl;
            tree = record { t = truth b; kind = refl; value = tt; spells = ap (λ k. k ∷ []) token; is = refl; deep = omega arith };
          }) (ap (λ k. k ∷ []) token))

      i8_next : IsSized item → i8_at key bytes ≡ is_read (item, taken) → ValueRead kinds.I8 bytes item taken
      unfolding i8_at
      i8_next sized e =
          let a = bound (whole_in key reasons.BadNumber (negsuc 127) (pos 127) bytes) _ (item, taken) e in
          let z = a.0.0 in
          let same = same_read (i8_value z) item a.0.1 taken a.2 in
          let t = whole_back key reasons.BadNumber (negsuc 127) (pos 127) z bytes a.0.1 range_8 a.1 in
          turned kinds.I8 bytes (i8_value z) item a.0.1 taken same (one kinds.I8 bytes (i8_value z) a.0.1 (IsWhole key (negsuc 127) (pos 127) z) t (record {
            spends = λ nest. refl;
            old = refl;
            moves = λ outer. refl;
            tree = record { t = whole_8 z; kind = refl; value = subst IsSized (sym same.0) sized; spells = (t.is.0, t.is.1.spells, ap (λ k. k ∷ []) t.is.2); is = refl; deep = omega arith };
          }) (t.is.0, t.is.1.spells, ap (λ k. k ∷ []) t.is.2))

      i16_next : IsSized item → i16_at key bytes ≡ is_read (item, taken) → ValueRead kinds.I16 bytes item taken
      unfolding i16_at
      i16_next sized e =
          let a = bound (whole_in key reasons.BadNumber i16_low (pos 32767) bytes) _ (item, taken) e in
          let z = a.0.0 in
          let same = same_read (i16_value z) item a.0.1 taken a.2 in
          let t = whole_back key reasons.BadNumber i16_low (pos 32767) z bytes a.0.1 range_16 a.1 in
          turned kinds.I16 bytes (i16_value z) item a.0.1 taken same (one kinds.I16 bytes (i16_value z) a.0.1 (IsWhole key i16_low (pos 32767) z) t (record {
            spends = λ nest. refl;
            old = refl;
            moves = λ outer. refl;
            tree = record { t = whole_16 z; kind = refl; value = subst IsSized (sym same.0) sized; spells = (t.is.0, t.is.1.spells, ap (λ k. k ∷ []) t.is.2); is = refl; deep = omega arith };
          }) (t.is.0, t.is.1.spells, ap (λ k. k ∷ []) t.is.2))

      i32_next : IsSized item → i32_at key bytes ≡ is_read (item, taken) → ValueRead kinds.I32 bytes item taken
      unfolding i32_at
      i32_next sized e =
          let a = bound (whole_in key reasons.BadNumber (negsuc 2147483647) (pos 2147483647) bytes) _ (item, taken) e in
          let z = a.0.0 in
          let same = same_read (i32_value z) item a.0.1 taken a.2 in
          let t = whole_back key reasons.BadNumber (negsuc 2147483647) (pos 2147483647) z bytes a.0.1 range_32 a.1 in
          turned kinds.I32 bytes (i32_value z) item a.0.1 taken same (one kinds.I32 bytes (i32_value z) a.0.1 (IsWhole key (negsuc 2147483647) (pos 2147483647) z) t (record {
            spends = λ nest. refl;
            old = refl;
            moves = λ outer. refl;
            tree = record { t = whole_32 z; kind = refl; value = subst IsSized (sym same.0) sized; spells = (t.is.0, t.is.1.spells, ap (λ k. k ∷ []) t.is.2); is = refl; deep = omega arith };
          }) (t.is.0, t.is.1.spells, ap (λ k. k ∷ []) t.is.2))

      i64_next : IsSized item → i64_at key bytes ≡ is_read (item, taken) → ValueRead kinds.I64 bytes item taken
      unfolding i64_at
      i64_next sized e =
          let a = bound (whole_in key reasons.BadNumber (negsuc 9223372036854775807) (pos 9223372036854775807) bytes) _ (item, taken) e in
          let z = a.0.0 in
          let same = same_read (i64_value z) item a.0.1 taken a.2 in
          let t = whole_back key reasons.BadNumber (negsuc 9223372036854775807) (pos 9223372036854775807) z bytes a.0.1 range_64 a.1 in
          turned kinds.I64 bytes (i64_value z) item a.0.1 taken same (one kinds.I64 bytes (i64_value z) a.0.1 (IsWhole key (negsuc 9223372036854775807) (pos 9223372036854775807) z) t (record {
            spends = λ nest. refl;
            old = refl;
            moves = λ outer. refl;
            tree = record { t = whole_64 z; kind = refl; value = subst IsSized (sym same.0) sized; spells = (t.is.0, t.is.1.spells, ap (λ k. k ∷ []) t.is.2); is = refl; deep = omega arith };
          }) (t.is.0, t.is.1.spells, ap (λ k. k ∷ []) t.is.2))

      double_next : double_at key bytes ≡ is_read (item, taken) → ValueRead kinds.Double bytes item taken
      unfolding double_at
      double_next e =
          let a = bound (double_in key bytes) _ (item, taken) e in
          let digits = a.0.0 in
          let t = double_back key bytes digits a.0.1 a.1 in
          turned kinds.Double bytes (number_text digits) item a.0.1 taken (same_read (number_text digits) item a.0.1 taken a.2) (one kinds.Double bytes (number_text digits) a.0.1 (λ k. IsDoubleToken key digits (k ∷ [])) t (record {
            spends = λ nest. refl;
            old = refl;
            moves = λ outer. refl;
            tree = record { t = loose_number digits; kind = refl; value = tt; spells = t.is; is = refl; deep = omega arith };
          }) t.is)

      string_next : (hint : Hint) → hint_at ty ≡ hint → IsSized item → string_in hint bytes ≡ is_read (item, taken) → ValueRead kinds.Str bytes item taken
      unfolding string_in
      string_next hints.Text is sized e =
          let a = bound (text_in bytes) _ (item, taken) e in
          let m = a.0.0 in
          let same = same_read (text m) item a.0.1 taken a.2 in
          let t = text_back bytes m a.0.1 a.1 in
          turned kinds.Str bytes (text m) item a.0.1 taken same (one kinds.Str bytes (text m) a.0.1 (SpellsText m) t (record {
            spends = λ nest. refl;
            old = refl;
            moves = λ outer. refl;
            tree = record { t = characters m; kind = refl; value = subst IsSized (sym same.0) sized; spells = subst (λ h. IsStringToken h m (t.token ∷ [])) (sym is) (t.token, t.is, refl); is = refl; deep = omega arith };
          }) (subst (λ h. IsStringToken h m (t.token ∷ [])) (sym is) (t.token, t.is, refl)))
      string_next hints.Blob is sized e =
          let a = bound (blob_in bytes) _ (item, taken) e in
          let m = a.0.0 in
          let same = same_read (text m) item a.0.1 taken a.2 in
          let t = blob_back bytes m a.0.1 a.1 in
          turned kinds.Str bytes (text m) item a.0.1 taken same (one kinds.Str bytes (text m) a.0.1 (SpellsBlob m) t (record {
            spends = λ nest. refl;
            old = refl;
            moves = λ outer. refl;
            tree = record { t = characters m; kind = refl; value = subst IsSized (sym same.0) sized; spells = subst (λ h. IsStringToken h m (t.token ∷ [])) (sym is) (t.token, t.is, refl); is = refl; deep = omega arith };
          }) (subst (λ h. IsStringToken h m (t.token ∷ [])) (sym is) (t.token, t.is, refl)))
      string_next hints.Unknown is sized e =
          let a = bound (text_in bytes) _ (item, taken) e in
          let m = a.0.0 in
          let same = same_read (unknown_text m) item a.0.1 taken a.2 in
          let t = text_back bytes m a.0.1 a.1 in
          turned kinds.Str bytes (unknown_text m) item a.0.1 taken same (one kinds.Str bytes (unknown_text m) a.0.1 (SpellsText m) t (record {
            spends = λ nest. refl;
            old = refl;
            moves = λ outer. refl;
            tree = record { t = loose_text m; kind = refl; value = subst IsSized (sym same.0) sized; spells = subst (λ h. IsLooseToken h m (t.token ∷ [])) (sym is) (t.token, t.is, refl); is = refl; deep = omega arith };
          }) (subst (λ h. IsLooseToken h m (t.token ∷ [])) (sym is) (t.token, t.is, refl)))

      -- ---- values that open a level

      struct_next : struct_at bytes ≡ is_read (item, taken) → ValueRead kinds.Struct bytes item taken
      unfolding struct_at
      struct_next e =
          let a = bound (mark_at 123 bytes) _ (item, taken) e in
          let brace = mark_back 123 bytes a.0.0 a.0.1 a.1 in
          turned kinds.Struct bytes struct_begin item a.0.1 taken (same_read struct_begin item a.0.1 taken a.2) (record {
            first = mark 123;
            others = [];
            lies = (λ tail more lies. mark_first 123 bytes a.0.0 a.0.1 a.1 tail more lies);
            spells = refl;
            rest = brace.rest;
            stands = brace.laid ∙ ap (λ t. t ++ brace.rest) brace.is;
            next = inr (record {
              slot = slots.Fields (pos 0);
              level = in_struct ty;
              adds = λ nest. refl;
              new = refl;
              moves = λ outer. refl;
              tied = refl;
              good = tt;
              tree = (λ mine b held. let f = held.2 in
                  record { t = structure f.ms; kind = refl; value = f.are; spells = (f.inner, f.spells, ap (λ l. mark 123 ∷ l) (held.1 ∙ f.laid)); is = ap (λ l. struct_begin ∷ l) f.is; deep = omega (arith, f.deep) });
            });
          })

      set_next : IsOf ty kinds.Set → set_at bytes ≡ is_read (item, taken) → ValueRead kinds.Set bytes item taken
      unfolding set_at
      set_next of e =
          let a = bound (sequence_at bytes) _ (item, taken) e in
          let k = a.0.0.0 in
          let n = a.0.0.1 in
          let s = sequence_back bytes a.0.0 a.0.1 a.1 in
          turned kinds.Set bytes (set_begin k n) item a.0.1 taken (same_read (set_begin k n) item a.0.1 taken a.2) (record {
            first = mark 91;
            others = name_token k ∷ mark 44 ∷ decimal n ∷ [];
            lies = s.lies;
            spells = (s.named, refl);
            rest = s.rest;
            stands = s.stands;
            next = inr (record {
              slot = slots.Elements k n;
              level = in_set d ty k;
              adds = λ nest. refl;
              new = refl;
              moves = λ outer. refl;
              tied = set_holds d ty k of;
              good = tt;
              tree = (λ mine b held. let small = s.small in let count = held.count in
                  record {
                    t = collection k held.ts;
                    kind = refl;
                    value = (omega arith, held.are);
                    spells = (held.inner, s.named, held.spells, ap (λ j. mark 91 ∷ name_token k ∷ mark 44 ∷ decimal j ∷ b) (sym count) ∙ ap (λ l. mark 91 ∷ name_token k ∷ mark 44 ∷ decimal (count_of_trees held.ts) ∷ l) held.laid);
                    is = ap (λ j. set_begin k j ∷ mine) (sym count) ∙ ap (λ l. set_begin k (count_of_trees held.ts) ∷ l) held.is;
                    deep = omega (arith, held.deep);
                  });
            });
          })

      list_next : IsOf ty kinds.List → list_at bytes ≡ is_read (item, taken) → ValueRead kinds.List bytes item taken
      unfolding list_at
      list_next of e =
          let a = bound (sequence_at bytes) _ (item, taken) e in
          let k = a.0.0.0 in
          let n = a.0.0.1 in
          let s = sequence_back bytes a.0.0 a.0.1 a.1 in
          turned kinds.List bytes (list_begin k n) item a.0.1 taken (same_read (list_begin k n) item a.0.1 taken a.2) (record {
            first = mark 91;
            others = name_token k ∷ mark 44 ∷ decimal n ∷ [];
            lies = s.lies;
            spells = (s.named, refl);
            rest = s.rest;
            stands = s.stands;
            next = inr (record {
              slot = slots.Elements k n;
              level = in_list d ty k;
              adds = λ nest. refl;
              new = refl;
              moves = λ outer. refl;
              tied = list_holds d ty k of;
              good = tt;
              tree = (λ mine b held. let small = s.small in let count = held.count in
                  record {
                    t = sequence k held.ts;
                    kind = refl;
                    value = (omega arith, held.are);
                    spells = (held.inner, s.named, held.spells, ap (λ j. mark 91 ∷ name_token k ∷ mark 44 ∷ decimal j ∷ b) (sym count) ∙ ap (λ l. mark 91 ∷ name_token k ∷ mark 44 ∷ decimal (count_of_trees held.ts) ∷ l) held.laid);
                    is = ap (λ j. list_begin k j ∷ mine) (sym count) ∙ ap (λ l. list_begin k (count_of_trees held.ts) ∷ l) held.is;
                    deep = omega (arith, held.deep);
                  });
            });
          })

      -- a map by its size
      map_by : (k v : Kind) (n at : ℕ) → depth < 256 → MapHeadRead k v n bytes at → map_then bytes k v n at ≡ is_read (item, taken) → ValueRead kinds.Map bytes item taken
      map_by k v zero at few m e =
          let x = no_pairs_back at bytes item taken e in
          turned kinds.Map bytes empty_map item taken taken (sym x.0, refl) (record {
            first = mark 91;
            others = name_token k ∷ mark 44 ∷ name_token v ∷ mark 44 ∷ decimal 0 ∷ mark 44 ∷ mark 123 ∷ mark 125 ∷ mark 93 ∷ [];
            lies = (λ tail more lies. m.lies tail (mark 44 ∷ mark 123 ∷ mark 125 ∷ mark 93 ∷ more) (x.1 tail more lies));
            spells = (k, v, m.named, m.other, refl);
            rest = m.rest;
            stands = m.stands;
            next = inl (record {
              spends = λ nest. refl;
              old = refl;
              moves = λ outer. refl;
              tree = record { t = mapping_of_none; kind = refl; value = tt; spells = (k, v, m.named, m.other, refl); is = refl; deep = omega arith };
            });
          })
      map_by k v (suc n) at few m e =
          turned kinds.Map bytes (map_begin k v (suc n)) item at taken (same_read (map_begin k v (suc n)) item at taken e) (record {
            first = mark 91;
            others = name_token k ∷ mark 44 ∷ name_token v ∷ mark 44 ∷ decimal (suc n) ∷ [];
            lies = m.lies;
            spells = (m.named, m.other, refl);
            rest = m.rest;
            stands = m.stands;
            next = inr (record {
              slot = slots.Keys k v (suc n);
              level = in_map d ty k v;
              adds = λ nest. refl;
              new = refl;
              moves = λ outer. refl;
              tied = map_holds d ty k v;
              good = omega arith;
              tree = (λ mine b held. let p = held.2 in let small = m.small in let count = p.count in
                  record {
                    t = mapping k v p.ps;
                    kind = refl;
                    value = (omega arith, omega arith, p.are);
                    spells = (
                      p.inner,
                      m.named,
                      m.other,
                      p.spells,
                      ap (λ j. mark 91 ∷ name_token k ∷ mark 44 ∷ name_token v ∷ mark 44 ∷ decimal j ∷ b) (sym count)
                          ∙ ap (λ l. mark 91 ∷ name_token k ∷ mark 44 ∷ name_token v ∷ mark 44 ∷ decimal (count_of_pairs p.ps) ∷ l) (held.1 ∙ ap (λ l. mark 44 ∷ mark 123 ∷ l) p.laid),
                    );
                    is = ap (λ j. map_begin k v j ∷ mine) (sym count) ∙ ap (λ l. map_begin k v (count_of_pairs p.ps) ∷ l) p.is;
                    deep = omega (arith, p.deep);
                  });
            });
          })

      map_next : depth < 256 → map_at bytes ≡ is_read (item, taken) → ValueRead kinds.Map bytes item taken
      unfolding map_at
      map_next few e =
          let a = bound (map_head_at bytes) _ (item, taken) e in
          map_by a.0.0.0.0 a.0.0.0.1 a.0.0.1 a.0.1 few (map_head_back bytes a.0.0 a.0.1 a.1) a.2

      -- ---- a value by its kind

      pub value_next : (k : Kind) → IsOf ty k → IsSized item → (opens k ≡ true → depth < 256) → value_at key (hint_at ty) k bytes ≡ is_read (item, taken) → ValueRead k bytes item taken
      unfolding value_at
      value_next kinds.Bool of sized few e = bool_next e
      value_next kinds.I8 of sized few e = i8_next sized e
      value_next kinds.I16 of sized few e = i16_next sized e
      value_next kinds.I32 of sized few e = i32_next sized e
      value_next kinds.I64 of sized few e = i64_next sized e
      value_next kinds.Double of sized few e = double_next e
      value_next kinds.Str of sized few e = string_next (hint_at ty) refl sized e
      value_next kinds.Struct of sized few e = struct_next e
      value_next kinds.Map of sized few e = map_next (few refl) e
      value_next kinds.Set of sized few e = set_next of e
      value_next kinds.List of sized few e = list_next of e
      value_next kinds.Uuid of sized few e = absurd (no_fault (record { place = 0; reason = reasons.BadKind }) (item, taken) e)
