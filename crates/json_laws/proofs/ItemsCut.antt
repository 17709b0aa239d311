-- An item that a fault strikes: it begins an item of the grammar, up to the token that is struck.
use Rattle.std.proofs.Common.{◌≡◌, ℕ, ℤ, zero, suc, pos, negsuc, ◌+◌, ◌<◌, ◌≤◌, ◌≤ℤ◌, ◌^◌, Bool, true, false, List, [], ◌∷◌, ◌++◌, length, drop, refl, ap, ◌∙◌, sym, subst, arith, ◌⊎◌, inl, inr}
use Rattle.std.specs.Prelude.{nat_lt, int_lt, ◌==◌, FitsSigned}
use Rattle.std.specs.Int.{w8, w16, w64}
use Rattle.std.specs.Fmt.{decimal}
use Rattle.std.proofs.lemmas.Bool.Decides.{nat_tests}
use Rattle.thrift_value.specs.declared.kind.Kind.{Kind}
use Rattle.thrift_value.specs.declared.kind.Kind.TheVariants as kinds
use Rattle.thrift_value.specs.Items.{Item}
use Rattle.thrift_value.specs.Trees.{Tree, truth, whole_8, whole_16, whole_32, whole_64, characters, loose_number, loose_text, structure, mapping_of_none, collection, sequence, no_members, no_trees, kind_of, depth_of, IsValue}
use Rattle.protocol_traits.specs.declared.fault.Fault.{Fault}
use Rattle.protocol_traits.specs.declared.fault.Reason.TheVariants as reasons
use Rattle.protocol_traits.specs.declared.proto.Hint.{Hint}
use Rattle.protocol_traits.specs.declared.proto.Hint.TheVariants as hints
use Rattle.type_tables.specs.declared.declared.Ty.{Ty}
use Rattle.type_tables.specs.Declarations.{Declarations}
use Rattle.type_walk.specs.Positions.{hint_at}
use Rattle.json_text.specs.Scan.{is_white}
use Rattle.json_text_laws.proofs.Parts.{Apart}
use Rattle.json_text.specs.Grammar.{SpellsInt, SpellsText, SpellsBlob}
use Rattle.json_text_laws.proofs.Completed.{no_blob}
use Rattle.json_protocol.specs.Scan.{fault, further, mark_at}
use Rattle.json_protocol.specs.Words.{kind_at, int_in, quoted_int_in, whole_in, double_in, text_in, blob_in, string_in}
use Rattle.json_protocol.specs.Values.{i16_low, field_at, first_at, next_at, bool_at, i8_at, i16_at, i32_at, i64_at, double_at, struct_at, size_in, sequence_at, list_at, set_at, map_head_at, no_pairs_at, map_then, map_at, value_at}
use Rattle.json_protocol.specs.Writing.{flag, quoted, number}
use Rattle.json_protocol.specs.Grammar.{Tokens, mark, comma, name_token, IsNamed, map_tokens, IsStringToken, IsLooseToken, Spells}
use Rattle.json_laws.specs.Positions.{declared_of}
use Rattle.json_laws.proofs.Marks.{Lies}
use Rattle.json_laws.proofs.Inverse.{is_read, is_fault, Token, token_lies, Carries, mark_behind}
use Rattle.json_laws.proofs.WordsBack.{IsInt, IsQuoted, quoted_back}
use Rattle.json_laws.proofs.HeadBack.{fits_32}
use Rattle.json_laws.proofs.ItemsBack.{range_flag, range_8, range_16, range_32, range_64, range_size, fits_16, flag_digits, kind_behind, mark_first, MapHeadRead, map_head_back}
use Rattle.json_laws.specs.Faults.{IsSort}
use Rattle.json_laws.proofs.Completing.{Struck, Strikes, strikes_more, strikes_here, behind_goes, no_read, bound_fault, either_fault, Shown, shown_strikes, bad_here, unlike_mark, cut_here, StrikesOne, word_cut, further_cut, mark_struck, mark_cut}
use Rattle.json_laws.proofs.Items.{flag_in}
use Rattle.json_laws.proofs.Words.{in_16, decimal_in}
use Rattle.json_laws.proofs.WordsCut.{Fresh, int_absent, quoted_absent, whole_absent, Sorts, SomeInt, int_one, quoted_cut, SomeWhole, whole_cut, SomeName, kind_cut, SomeDouble, double_cut, StringStrike, text_cut, blob_cut}

-- one of two
pub by_side : {A B C : Type 0} → A ⊎ B → (A → C) → (B → C) → C
by_side (inl a) f g = f a
by_side (inr b) f g = g b

pub past_mark : (m n : ℕ) (bytes : List ℕ) (f : Fault) (x : Unit {0}) (past : ℕ) (tokens : Tokens) → further n (mark_at m) bytes ≡ is_read (x, past) → Strikes past bytes f tokens → Strikes n bytes f (mark m ∷ tokens)
past_mark m n bytes f x past tokens e s = behind_goes n past (mark m ∷ []) tokens bytes f (mark_behind m n bytes x past e) s

past_kind : (n : ℕ) (bytes : List ℕ) (f : Fault) (kind : Kind) (past : ℕ) (tokens : Tokens) → further n kind_at bytes ≡ is_read (kind, past) → Strikes past bytes f tokens → Strikes n bytes f (name_token kind ∷ tokens)
past_kind n bytes f kind past tokens e s = behind_goes n past (name_token kind ∷ []) tokens bytes f (kind_behind n bytes kind past e).1 s

named_behind : (n : ℕ) (bytes : List ℕ) (kind : Kind) (past : ℕ) → further n kind_at bytes ≡ is_read (kind, past) → IsNamed kind
named_behind n bytes kind past e = (kind_behind n bytes kind past e).0

pub at_mark : (m n : ℕ) (bytes : List ℕ) (f : Fault) (tokens : Tokens) → further n (mark_at m) bytes ≡ is_fault f → Strikes n bytes f (mark m ∷ tokens)
at_mark m n bytes f tokens e = strikes_more n bytes f (mark m ∷ []) tokens (mark_cut m n bytes f e)

-- a kind's name is struck, with these tokens behind it
at_kind : (n : ℕ) (bytes : List ℕ) (f : Fault) (tokens : Tokens) → further n kind_at bytes ≡ is_fault f → (kind : Kind) × IsNamed kind × Strikes n bytes f (name_token kind ∷ tokens)
at_kind n bytes f tokens e = of_name (word_cut kind_at SomeName n bytes f kind_cut e)
  where
    of_name : (token : List ℕ) × SomeName token × Strikes n bytes f (token ∷ []) → (kind : Kind) × IsNamed kind × Strikes n bytes f (name_token kind ∷ tokens)
    of_name (token, (kind, names), s) = (kind, names.1, strikes_more n bytes f (name_token kind ∷ []) tokens (subst (λ k. Strikes n bytes f (k ∷ [])) names.0 s))

-- right there
first_mark : (m : ℕ) (bytes : List ℕ) (f : Fault) (x : Unit {0}) (past : ℕ) (tokens : Tokens) → mark_at m bytes ≡ is_read (x, past) → Strikes past bytes f tokens → Strikes 0 bytes f (mark m ∷ tokens)
first_mark m bytes f x past tokens e s = behind_goes 0 past (mark m ∷ []) tokens bytes f (λ tail more lies. mark_first m bytes x past e tail more lies) s

none_there : (m : ℕ) (bytes : List ℕ) (f : Fault) (tokens : Tokens) → Apart is_white bytes → mark_at m bytes ≡ is_fault f → Strikes 0 bytes f (mark m ∷ tokens)
none_there m bytes f tokens solid e = strikes_more 0 bytes f (mark m ∷ []) tokens (strikes_here 0 bytes f (mark m) solid (mark_struck m bytes f e))

-- ---- fields

pub record FieldGoes (first : Bool) (bytes : List ℕ) (f : Fault) : Type 0 where
  pub id : ℤ
  pub kind : Kind
  pub digits : List ℕ
  pub spells : SpellsInt id digits
  pub fits : FitsSigned w16 id
  pub named : IsNamed kind
  pub strikes : Strikes 0 bytes f (comma first ++ (quoted digits ∷ mark 58 ∷ mark 123 ∷ name_token kind ∷ []))

-- behind the id
abbrev KindGoes : ℕ → List ℕ → Fault → Type 0
KindGoes n bytes f = (kind : Kind) × IsNamed kind × Strikes n bytes f (mark 58 ∷ mark 123 ∷ name_token kind ∷ [])

sorts_id : Sorts reasons.BadId (IsQuoted (SomeInt i16_low (pos 32767)))
sorts_id = record { plain = (λ left. refl); sort = of_token }
  where
    of_token : (token : List ℕ) → IsQuoted (SomeInt i16_low (pos 32767)) token → IsSort reasons.BadId token
    of_token token (digits, (z, is), same) = (z, digits, is.spells, same)

no_id : Fresh reasons.BadId (quoted_int_in reasons.BadId i16_low (pos 32767)) (IsQuoted (SomeInt i16_low (pos 32767)))
no_id bytes f e token is other rest (id, digits, spells, fits, same) stands =
    quoted_absent reasons.BadId i16_low (pos 32767) id bytes f digits rest e (in_16 id digits spells fits) (stands ∙ ap (λ t. t ++ rest) same)

field_cut : (bytes : List ℕ) (f : Fault) → Apart is_white bytes → field_at bytes ≡ is_fault f → FieldGoes true bytes f
unfolding field_at
field_cut bytes f solid e =
    by_side (bound_fault (quoted_int_in reasons.BadId i16_low (pos 32767) bytes) _ f e)
    (λ h. of_token (quoted_cut reasons.BadId i16_low (pos 32767) range_16 sorts_id no_id bytes f h))
    (λ a. of_read a.0.0 a.0.1 (quoted_back reasons.BadId i16_low (pos 32767) a.0.0 bytes a.0.1 range_16 a.1)
    (by_side (bound_fault (further a.0.1 (mark_at 58) bytes) _ f a.2)
    (λ h. (kinds.I8, refl, at_mark 58 a.0.1 bytes f (mark 123 ∷ name_token kinds.I8 ∷ []) h))
    (λ b. by_side (bound_fault (further b.0.1 (mark_at 123) bytes) _ f b.2)
    (λ h. (kinds.I8, refl, past_mark 58 a.0.1 bytes f b.0.0 b.0.1 (mark 123 ∷ name_token kinds.I8 ∷ []) b.1 (at_mark 123 b.0.1 bytes f (name_token kinds.I8 ∷ []) h)))
    (λ c. by_side (bound_fault (further c.0.1 kind_at bytes) _ f c.2)
    (λ h. let k = at_kind c.0.1 bytes f [] h in
    (k.0, k.1, past_mark 58 a.0.1 bytes f b.0.0 b.0.1 (mark 123 ∷ name_token k.0 ∷ []) b.1 (past_mark 123 b.0.1 bytes f c.0.0 c.0.1 (name_token k.0 ∷ []) c.1 k.2)))
    (λ k. absurd (no_read _ f k.2))))))
  where
    of_token : (token : List ℕ) × IsQuoted (SomeInt i16_low (pos 32767)) token × Struck f bytes bytes token → FieldGoes true bytes f
    of_token (token, (digits, (z, is), same), s) = record {
      id = z;
      kind = kinds.I8;
      digits = digits;
      spells = is.spells;
      fits = fits_16 z is.least is.most;
      named = refl;
      strikes = strikes_more 0 bytes f (quoted digits ∷ []) (mark 58 ∷ mark 123 ∷ name_token kinds.I8 ∷ []) (subst (λ k. Strikes 0 bytes f (k ∷ [])) same (strikes_here 0 bytes f token solid s));
    }

    of_read : (z : ℤ) (past : ℕ) → Token bytes past (IsQuoted (IsInt i16_low (pos 32767) z)) → KindGoes past bytes f → FieldGoes true bytes f
    of_read z past token (kind, named, s) =
        let word = token.is.1 in
        let carries : Carries 0 (quoted token.is.0 ∷ []) bytes past = λ tail more lies. subst (λ q. Lies tail (q ∷ more) bytes) token.is.2 (token_lies tail bytes past (IsQuoted (IsInt i16_low (pos 32767) z)) token more lies) in
        record {
          id = z;
          kind = kind;
          digits = token.is.0;
          spells = word.spells;
          fits = fits_16 z word.least word.most;
          named = named;
          strikes = behind_goes 0 past (quoted token.is.0 ∷ []) (mark 58 ∷ mark 123 ∷ name_token kind ∷ []) bytes f carries s;
        }

-- the brace behind the last field is struck, or a field is
abbrev pub FieldsCut : Bool → List ℕ → Fault → Type 0
FieldsCut first bytes f = Strikes 0 bytes f (mark 125 ∷ []) ⊎ FieldGoes first bytes f

nothing_left : (f : Fault) → fault {X = Item} 0 reasons.Truncated ≡ is_fault f → Strikes 0 [] f (mark 125 ∷ [])
nothing_left f e = strikes_here 0 [] f (mark 125) tt (cut_here {X = Item} 0 f [] (mark 125) (mark 125) refl e)

no_brace : (x : ℕ) (bytes : List ℕ) (f : Fault) → Apart is_white (x ∷ bytes) → (x == 125) ≡ false → fault {X = Item} 0 reasons.BadToken ≡ is_fault f → Strikes 0 (x ∷ bytes) f (mark 125 ∷ [])
no_brace x bytes f solid other e = strikes_here 0 (x ∷ bytes) f (mark 125) solid (bad_here {X = Item} reasons.BadToken f (x ∷ bytes) (mark 125) (refl, unlike_mark x 125 bytes other) (125, refl) (omega arith) e)

pub first_cut : (bytes : List ℕ) (f : Fault) → Apart is_white bytes → first_at bytes ≡ is_fault f → FieldsCut true bytes f
unfolding first_at
first_cut [] f solid e = inl (nothing_left f e)
first_cut (x ∷ bytes) f solid e =
    by_side (either_fault (nat_lt (length (x ∷ bytes)) 1) _ _ f e)
    (λ h. absurd (let none = h.0 in grind (arith, nat_tests)))
    (λ h. by_side (either_fault (x == 125) _ _ f h.1)
    (λ g. absurd (no_read _ f g.1))
    (λ g. by_side (either_fault (x == 34) (field_at (x ∷ bytes)) (fault 0 reasons.BadToken) f g.1)
    (λ k. inr (field_cut (x ∷ bytes) f solid k.1))
    (λ k. inl (no_brace x bytes f solid g.0 k.1))))

pub next_cut : (bytes : List ℕ) (f : Fault) → Apart is_white bytes → next_at bytes ≡ is_fault f → FieldsCut false bytes f
unfolding next_at
next_cut [] f solid e = inl (nothing_left f e)
next_cut (x ∷ bytes) f solid e =
    by_side (either_fault (nat_lt (length (x ∷ bytes)) 1) _ _ f e)
    (λ h. absurd (let none = h.0 in grind (arith, nat_tests)))
    (λ h. by_side (either_fault (x == 125) _ _ f h.1)
    (λ g. absurd (no_read _ f g.1))
    (λ g. by_side (either_fault (x == 44) (further 1 field_at (x ∷ bytes)) (fault 0 reasons.BadToken) f g.1)
    (λ k. inr (behind_comma k.0 (further_cut field_at 1 (x ∷ bytes) f k.1)))
    (λ k. inl (no_brace x bytes f solid g.0 k.1))))
  where
    behind_comma : (x == 44) ≡ true → (at : ℕ) × (g : Fault) × (field_at (drop at (x ∷ bytes)) ≡ is_fault g) × Shown at g f × Apart is_white (drop at (x ∷ bytes)) × ((tokens : Tokens) → Strikes at (x ∷ bytes) f tokens → Strikes 1 (x ∷ bytes) f tokens) → FieldGoes false (x ∷ bytes) f
    behind_comma h (at, g, scan, shown, solid_too, back) =
        let is : x ≡ 44 = grind (arith, nat_tests) in
        let k = field_cut (drop at (x ∷ bytes)) g solid_too scan in
        let tokens = quoted k.digits ∷ mark 58 ∷ mark 123 ∷ name_token k.kind ∷ [] in
        let carries : Carries 0 (mark 44 ∷ []) (x ∷ bytes) 1 = λ tail more lies. ([], bytes, ap (λ y. y ∷ bytes) is, tt, lies) in
        record {
          id = k.id;
          kind = k.kind;
          digits = k.digits;
          spells = k.spells;
          fits = k.fits;
          named = k.named;
          strikes = behind_goes 0 1 (mark 44 ∷ []) tokens (x ∷ bytes) f carries (back tokens (shown_strikes at g f (x ∷ bytes) tokens shown k.strikes));
        }

-- ---- sizes, lists, sets and maps

no_size : Fresh reasons.BadSize (int_in reasons.BadSize (pos 0) (pos 2147483647)) (λ t. t ≡ decimal 0)
no_size bytes f e token is other rest (n, small, same) ends stands =
    int_absent reasons.BadSize (pos 0) (pos 2147483647) (pos n) bytes f (decimal n) rest e (decimal_in n small) ends (stands ∙ ap (λ t. t ++ rest) same)

size_strikes : StrikesOne size_in (λ token. token ≡ decimal 0)
size_strikes bytes f e =
    by_side (bound_fault (int_in reasons.BadSize (pos 0) (pos 2147483647) bytes) _ f e)
    (λ h. int_one reasons.BadSize (pos 0) (pos 2147483647) (decimal 0) range_size (grind (arith, nat_tests)) (λ left. refl) (0, refl) no_size bytes f h)
    (λ a. absurd (no_read _ f a.2))

at_size : (n : ℕ) (bytes : List ℕ) (f : Fault) (tokens : Tokens) → further n size_in bytes ≡ is_fault f → Strikes n bytes f (decimal 0 ∷ tokens)
at_size n bytes f tokens e =
    let w = word_cut size_in (λ token. token ≡ decimal 0) n bytes f size_strikes e in
    strikes_more n bytes f (decimal 0 ∷ []) tokens (subst (λ k. Strikes n bytes f (k ∷ [])) w.1 w.2)

abbrev EmptySequence : List ℕ → Fault → Type 0
EmptySequence bytes f = (kind : Kind) × IsNamed kind × Strikes 0 bytes f (mark 91 ∷ name_token kind ∷ mark 44 ∷ decimal 0 ∷ mark 93 ∷ [])

sequence_cut : (bytes : List ℕ) (f : Fault) → Apart is_white bytes → sequence_at bytes ≡ is_fault f → EmptySequence bytes f
unfolding sequence_at
sequence_cut bytes f solid e =
    by_side (bound_fault (mark_at 91 bytes) _ f e)
    (λ h. (kinds.I8, refl, none_there 91 bytes f (name_token kinds.I8 ∷ mark 44 ∷ decimal 0 ∷ mark 93 ∷ []) solid h))
    (λ a. by_side (bound_fault (further a.0.1 kind_at bytes) _ f a.2)
    (λ h. let rest = mark 44 ∷ decimal 0 ∷ mark 93 ∷ [] in
    let k = at_kind a.0.1 bytes f rest h in
    (k.0, k.1, first_mark 91 bytes f a.0.0 a.0.1 (name_token k.0 ∷ rest) a.1 k.2))
    (λ b. let own = name_token b.0.0 in
    let rest = mark 44 ∷ decimal 0 ∷ mark 93 ∷ [] in
    let named = named_behind a.0.1 bytes b.0.0 b.0.1 b.1 in
    let front = λ (s : Strikes b.0.1 bytes f rest). first_mark 91 bytes f a.0.0 a.0.1 (own ∷ rest) a.1 (past_kind a.0.1 bytes f b.0.0 b.0.1 rest b.1 s) in
    by_side (bound_fault (further b.0.1 (mark_at 44) bytes) _ f b.2)
    (λ h. (b.0.0, named, front (at_mark 44 b.0.1 bytes f (decimal 0 ∷ mark 93 ∷ []) h)))
    (λ c. by_side (bound_fault (further c.0.1 size_in bytes) _ f c.2)
    (λ h. (b.0.0, named, front (past_mark 44 b.0.1 bytes f c.0.0 c.0.1 (decimal 0 ∷ mark 93 ∷ []) c.1 (at_size c.0.1 bytes f (mark 93 ∷ []) h))))
    (λ s. absurd (no_read _ f s.2)))))

-- what stands behind the size of a map without pairs
abbrev no_pairs : Tokens
no_pairs = mark 44 ∷ mark 123 ∷ mark 125 ∷ mark 93 ∷ []

no_pairs_cut : (at : ℕ) (bytes : List ℕ) (f : Fault) → no_pairs_at at bytes ≡ is_fault f → Strikes at bytes f no_pairs
unfolding no_pairs_at
no_pairs_cut at bytes f e =
    by_side (bound_fault (further at (mark_at 44) bytes) _ f e)
    (λ h. at_mark 44 at bytes f (mark 123 ∷ mark 125 ∷ mark 93 ∷ []) h)
    (λ a. past_mark 44 at bytes f a.0.0 a.0.1 (mark 123 ∷ mark 125 ∷ mark 93 ∷ []) a.1 (by_side (bound_fault (further a.0.1 (mark_at 123) bytes) _ f a.2)
    (λ h. at_mark 123 a.0.1 bytes f (mark 125 ∷ mark 93 ∷ []) h)
    (λ b. past_mark 123 a.0.1 bytes f b.0.0 b.0.1 (mark 125 ∷ mark 93 ∷ []) b.1 (by_side (bound_fault (further b.0.1 (mark_at 125) bytes) _ f b.2)
    (λ h. at_mark 125 b.0.1 bytes f (mark 93 ∷ []) h)
    (λ c. past_mark 125 b.0.1 bytes f c.0.0 c.0.1 (mark 93 ∷ []) c.1 (by_side (bound_fault (further c.0.1 (mark_at 93) bytes) _ f c.2)
    (λ h. at_mark 93 c.0.1 bytes f [] h)
    (λ g. absurd (no_read _ f g.2))))))))

abbrev EmptyMap : List ℕ → Fault → Type 0
EmptyMap bytes f = (k : Kind) × (v : Kind) × IsNamed k × IsNamed v × Strikes 0 bytes f (map_tokens k v 0 ++ (mark 125 ∷ mark 93 ∷ []))

map_head_cut : (bytes : List ℕ) (f : Fault) → Apart is_white bytes → map_head_at bytes ≡ is_fault f → EmptyMap bytes f
unfolding map_head_at
map_head_cut bytes f solid e =
    by_side (bound_fault (mark_at 91 bytes) _ f e)
    (λ h. (kinds.I8, kinds.I8, refl, refl, none_there 91 bytes f (name_token kinds.I8 ∷ mark 44 ∷ name_token kinds.I8 ∷ mark 44 ∷ decimal 0 ∷ no_pairs) solid h))
    (λ a. by_side (bound_fault (further a.0.1 kind_at bytes) _ f a.2)
    (λ h. let rest = mark 44 ∷ name_token kinds.I8 ∷ mark 44 ∷ decimal 0 ∷ no_pairs in
    let k = at_kind a.0.1 bytes f rest h in
    (k.0, kinds.I8, k.1, refl, first_mark 91 bytes f a.0.0 a.0.1 (name_token k.0 ∷ rest) a.1 k.2))
    (λ b. let named = named_behind a.0.1 bytes b.0.0 b.0.1 b.1 in
    let front = λ (tokens : Tokens) (s : Strikes b.0.1 bytes f tokens). first_mark 91 bytes f a.0.0 a.0.1 (name_token b.0.0 ∷ tokens) a.1 (past_kind a.0.1 bytes f b.0.0 b.0.1 tokens b.1 s) in
    by_side (bound_fault (further b.0.1 (mark_at 44) bytes) _ f b.2)
    (λ h. let rest = name_token kinds.I8 ∷ mark 44 ∷ decimal 0 ∷ no_pairs in (b.0.0, kinds.I8, named, refl, front (mark 44 ∷ rest) (at_mark 44 b.0.1 bytes f rest h)))
    (λ c. by_side (bound_fault (further c.0.1 kind_at bytes) _ f c.2)
    (λ h. let rest = mark 44 ∷ decimal 0 ∷ no_pairs in
    let v = at_kind c.0.1 bytes f rest h in
    (b.0.0, v.0, named, v.1, front (mark 44 ∷ name_token v.0 ∷ rest) (past_mark 44 b.0.1 bytes f c.0.0 c.0.1 (name_token v.0 ∷ rest) c.1 v.2)))
    (λ g. let other = named_behind c.0.1 bytes g.0.0 g.0.1 g.1 in
    let second = λ (tokens : Tokens) (s : Strikes g.0.1 bytes f tokens).
    front (mark 44 ∷ name_token g.0.0 ∷ tokens) (past_mark 44 b.0.1 bytes f c.0.0 c.0.1 (name_token g.0.0 ∷ tokens) c.1 (past_kind c.0.1 bytes f g.0.0 g.0.1 tokens g.1 s)) in
    by_side (bound_fault (further g.0.1 (mark_at 44) bytes) _ f g.2)
    (λ h. (b.0.0, g.0.0, named, other, second (mark 44 ∷ decimal 0 ∷ no_pairs) (at_mark 44 g.0.1 bytes f (decimal 0 ∷ no_pairs) h)))
    (λ k. by_side (bound_fault (further k.0.1 size_in bytes) _ f k.2)
    (λ h. (b.0.0, g.0.0, named, other, second (mark 44 ∷ decimal 0 ∷ no_pairs) (past_mark 44 g.0.1 bytes f k.0.0 k.0.1 (decimal 0 ∷ no_pairs) k.1 (at_size k.0.1 bytes f no_pairs h))))
    (λ s. absurd (no_read _ f s.2)))))))

map_cut : (bytes : List ℕ) (f : Fault) → Apart is_white bytes → map_at bytes ≡ is_fault f → EmptyMap bytes f
unfolding map_at
map_cut bytes f solid e =
    by_side (bound_fault (map_head_at bytes) _ f e)
    (λ h. map_head_cut bytes f solid h)
    (λ m. by_size m.0.0.0.0 m.0.0.0.1 m.0.0.1 m.0.1 (map_head_back bytes m.0.0 m.0.1 m.1) m.2)
  where
    by_size : (k v : Kind) (n at : ℕ) → MapHeadRead k v n bytes at → map_then bytes k v n at ≡ is_fault f → EmptyMap bytes f
    by_size k v zero at m h = (k, v, m.named, m.other, behind_goes 0 at (mark 91 ∷ name_token k ∷ mark 44 ∷ name_token v ∷ mark 44 ∷ decimal 0 ∷ []) no_pairs bytes f m.lies (no_pairs_cut at bytes f h))
    by_size k v (suc n) at m h = absurd (no_read _ f h)

-- ---- values

module _ (d : Declarations) (key : Bool) (ty : Ty) where
  -- a small value
  pub record SmallValue (k : Kind) : Type 0 where
    pub t : Tree
    pub kind : kind_of t ≡ k
    pub value : IsValue t
    pub flat : depth_of t ≤ 1
    pub tokens : Tokens
    pub spells : Spells (declared_of d) key ty t tokens

  -- of which a fault strikes a token
  pub record ValueGoes (k : Kind) (bytes : List ℕ) (f : Fault) : Type 0 where
    pub small : SmallValue k
    pub strikes : Strikes 0 bytes f small.tokens

  of_whole : (low high : ℤ) (k : Kind) (bytes : List ℕ) (f : Fault) (whole : ℤ → Tree) → ((z : ℤ) → kind_of (whole z) ≡ k) → ((z : ℤ) (digits : List ℕ) → IsInt low high z digits → IsValue (whole z) × (depth_of (whole z) ≤ 1) × Spells (declared_of d) key ty (whole z) (number key digits ∷ []))
      → Apart is_white bytes → (token : List ℕ) × SomeWhole key low high token × Struck f bytes bytes token → ValueGoes k bytes f
  of_whole low high k bytes f whole kind good solid (token, (digits, z, is, same), s) =
      let v = good z digits is in
      record { small = record { t = whole z; kind = kind z; value = v.0; flat = v.1; tokens = number key digits ∷ []; spells = v.2 }; strikes = subst (λ k. Strikes 0 bytes f (k ∷ [])) same (strikes_here 0 bytes f token solid s) }

  sorts_number : (low high : ℤ) → Sorts reasons.BadNumber (SomeWhole key low high)
  sorts_number low high = record { plain = (λ left. refl); sort = of_token }
    where
      of_token : (token : List ℕ) → SomeWhole key low high token → IsSort reasons.BadNumber token
      of_token token (digits, z, is, same) = inl (key, z, digits, is.spells, same)

  sorts_bool : Sorts reasons.BadBool (SomeWhole key (pos 0) (pos 1))
  sorts_bool = record { plain = (λ left. refl); sort = of_token }
    where
      of_token : (token : List ℕ) → SomeWhole key (pos 0) (pos 1) token → IsSort reasons.BadBool token
      of_token token (digits, z, is, same) = (key, int_lt (pos 0) z, same ∙ ap (number key) (flag_digits z digits is))

  -- the quotes tell whether it is a key
  abbrev first_of : List ℕ → ℕ
  first_of [] = 0
  first_of (x ∷ xs) = x

  flag_digit : (b : Bool) → 48 ≤ first_of (flag b)
  flag_digit true = omega arith
  flag_digit false = omega arith

  same_key : (a b : Bool) (c d : Bool) → number a (flag c) ≡ number b (flag d) → a ≡ b
  same_key true true c d e = refl
  same_key false false c d e = refl
  same_key true false c d e = let same : 34 ≡ first_of (flag d) = ap first_of e in absurd (omega (arith, same, flag_digit d))
  same_key false true c d e = let same : first_of (flag c) ≡ 34 = ap first_of e in absurd (omega (arith, same, flag_digit c))

  no_bool : Fresh reasons.BadBool (whole_in key reasons.BadBool (pos 0) (pos 1)) (SomeWhole key (pos 0) (pos 1))
  no_bool bytes f e token (digits, z, is, laid) own (a, at) other rest (b, same) ends stands =
      let keys : own ≡ key = same_key own key a (int_lt (pos 0) z) (sym at ∙ laid ∙ ap (number key) (flag_digits z digits is)) in
      let i = flag_in [] b in
      whole_absent key reasons.BadBool (pos 0) (pos 1) i.0 bytes f (flag b) rest e i.1 ends (stands ∙ ap (λ t. t ++ rest) (same ∙ ap (λ k. number k (flag b)) keys))

  bool_cut : (bytes : List ℕ) (f : Fault) → Apart is_white bytes → bool_at key bytes ≡ is_fault f → ValueGoes kinds.Bool bytes f
  unfolding bool_at
  bool_cut bytes f solid e =
      by_side (bound_fault (whole_in key reasons.BadBool (pos 0) (pos 1) bytes) _ f e)
      (λ h. of_whole (pos 0) (pos 1) kinds.Bool bytes f (λ z. truth (int_lt (pos 0) z)) (λ z. refl) (λ z digits is. (tt, omega arith, ap (λ w. number key w ∷ []) (flag_digits z digits is)))
      solid (whole_cut key reasons.BadBool (pos 0) (pos 1) range_flag sorts_bool no_bool bytes f h))
      (λ a. absurd (no_read _ f a.2))

  fits_8 : (z : ℤ) → negsuc 127 ≤ℤ z → z ≤ℤ pos 127 → FitsSigned w8 z
  fits_8 z a b = record { sfits = grind (arith, nat_tests) }

  fits_64 : (z : ℤ) → negsuc 9223372036854775807 ≤ℤ z → z ≤ℤ pos 9223372036854775807 → FitsSigned w64 z
  fits_64 z a b = record { sfits = grind (arith, nat_tests) }

  i8_cut : (bytes : List ℕ) (f : Fault) → Apart is_white bytes → i8_at key bytes ≡ is_fault f → ValueGoes kinds.I8 bytes f
  unfolding i8_at
  i8_cut bytes f solid e =
      by_side (bound_fault (whole_in key reasons.BadNumber (negsuc 127) (pos 127) bytes) _ f e)
      (λ h. of_whole (negsuc 127) (pos 127) kinds.I8 bytes f whole_8 (λ z. refl) (λ z digits is. (fits_8 z is.least is.most, omega arith, (digits, is.spells, refl)))
      solid (whole_cut key reasons.BadNumber (negsuc 127) (pos 127) range_8 (sorts_number (negsuc 127) (pos 127)) (λ b g h token is. tt) bytes f h))
      (λ a. absurd (no_read _ f a.2))

  i16_cut : (bytes : List ℕ) (f : Fault) → Apart is_white bytes → i16_at key bytes ≡ is_fault f → ValueGoes kinds.I16 bytes f
  unfolding i16_at
  i16_cut bytes f solid e =
      by_side (bound_fault (whole_in key reasons.BadNumber i16_low (pos 32767) bytes) _ f e)
      (λ h. of_whole i16_low (pos 32767) kinds.I16 bytes f whole_16 (λ z. refl) (λ z digits is. (fits_16 z is.least is.most, omega arith, (digits, is.spells, refl)))
      solid (whole_cut key reasons.BadNumber i16_low (pos 32767) range_16 (sorts_number i16_low (pos 32767)) (λ b g h token is. tt) bytes f h))
      (λ a. absurd (no_read _ f a.2))

  i32_cut : (bytes : List ℕ) (f : Fault) → Apart is_white bytes → i32_at key bytes ≡ is_fault f → ValueGoes kinds.I32 bytes f
  unfolding i32_at
  i32_cut bytes f solid e =
      by_side (bound_fault (whole_in key reasons.BadNumber (negsuc 2147483647) (pos 2147483647) bytes) _ f e)
      (λ h. of_whole (negsuc 2147483647) (pos 2147483647) kinds.I32 bytes f whole_32 (λ z. refl) (λ z digits is. (fits_32 z is.least is.most, omega arith, (digits, is.spells, refl)))
      solid (whole_cut key reasons.BadNumber (negsuc 2147483647) (pos 2147483647) range_32 (sorts_number (negsuc 2147483647) (pos 2147483647)) (λ b g h token is. tt) bytes f h))
      (λ a. absurd (no_read _ f a.2))

  i64_cut : (bytes : List ℕ) (f : Fault) → Apart is_white bytes → i64_at key bytes ≡ is_fault f → ValueGoes kinds.I64 bytes f
  unfolding i64_at
  i64_cut bytes f solid e =
      by_side (bound_fault (whole_in key reasons.BadNumber (negsuc 9223372036854775807) (pos 9223372036854775807) bytes) _ f e)
      (λ h. of_whole (negsuc 9223372036854775807) (pos 9223372036854775807) kinds.I64 bytes f whole_64 (λ z. refl) (λ z digits is. (fits_64 z is.least is.most, omega arith, (digits, is.spells, refl)))
      solid (whole_cut key reasons.BadNumber (negsuc 9223372036854775807) (pos 9223372036854775807) range_64 (sorts_number (negsuc 9223372036854775807) (pos 9223372036854775807)) (λ b g h token is. tt) bytes f h))
      (λ a. absurd (no_read _ f a.2))

  double_goes : (bytes : List ℕ) (f : Fault) → Apart is_white bytes → double_at key bytes ≡ is_fault f → ValueGoes kinds.Double bytes f
  unfolding double_at
  double_goes bytes f solid e = by_side (bound_fault (double_in key bytes) _ f e) (λ h. of_token (double_cut key bytes f h)) (λ a. absurd (no_read _ f a.2))
    where
      of_token : (token : List ℕ) × SomeDouble key token × Struck f bytes bytes token → ValueGoes kinds.Double bytes f
      of_token (token, (digits, is), s) = record { small = record { t = loose_number digits; kind = refl; value = tt; flat = omega arith; tokens = token ∷ []; spells = is }; strikes = strikes_here 0 bytes f token solid s }

  -- a string as it is declared
  of_string : (bytes : List ℕ) (f : Fault) (Is : List ℕ → List ℕ → Type 0) (string : List ℕ → Tree) → ((m : List ℕ) → kind_of (string m) ≡ kinds.Str) → ((m : List ℕ) → length m < 2 ^ 31 → IsValue (string m)) → ((m : List ℕ) → depth_of (string m) ≤ 1)
      → ((m token : List ℕ) → Is m token → Spells (declared_of d) key ty (string m) (token ∷ [])) → length bytes + 10 < 2 ^ 31 → Apart is_white bytes → StringStrike f bytes Is → ValueGoes kinds.Str bytes f
  of_string bytes f Is string kind value flat spells room solid g =
      let long = g.long in
      record { small = record { t = string g.meant; kind = kind g.meant; value = value g.meant (omega arith); flat = flat g.meant; tokens = g.token ∷ []; spells = spells g.meant g.token g.spells }; strikes = strikes_here 0 bytes f g.token solid g.struck }

  string_cut : (hint : Hint) (bytes : List ℕ) (f : Fault) → hint_at ty ≡ hint → length bytes + 10 < 2 ^ 31 → Apart is_white bytes → string_in hint bytes ≡ is_fault f → ValueGoes kinds.Str bytes f
  unfolding string_in
  string_cut hints.Text bytes f is room solid e =
      by_side (bound_fault (text_in bytes) _ f e)
      (λ h. of_string bytes f SpellsText characters (λ m. refl) (λ m l. l) (λ m. omega arith) (λ m token s. subst (λ k. IsStringToken k m (token ∷ [])) (sym is) (token, s, refl)) room solid (text_cut bytes f h))
      (λ a. absurd (no_read _ f a.2))
  string_cut hints.Blob bytes f is room solid e =
      by_side (bound_fault (blob_in bytes) _ f e)
      (λ h. of_string bytes f SpellsBlob characters (λ m. refl) (λ m l. l) (λ m. omega arith) (λ m token s. subst (λ k. IsStringToken k m (token ∷ [])) (sym is) (token, s, refl)) room solid (blob_cut bytes f h))
      (λ a. absurd (no_read _ f a.2))
  string_cut hints.Unknown bytes f is room solid e =
      by_side (bound_fault (text_in bytes) _ f e)
      (λ h. of_string bytes f SpellsText loose_text (λ m. refl) (λ m l. l) (λ m. omega arith) (λ m token s. subst (λ k. IsLooseToken k m (token ∷ [])) (sym is) (token, s, refl)) room solid (text_cut bytes f h))
      (λ a. absurd (no_read _ f a.2))

  struct_cut : (bytes : List ℕ) (f : Fault) → Apart is_white bytes → struct_at bytes ≡ is_fault f → ValueGoes kinds.Struct bytes f
  unfolding struct_at
  struct_cut bytes f solid e =
      by_side (bound_fault (mark_at 123 bytes) _ f e)
      (λ h. record { small = record { t = structure no_members; kind = refl; value = tt; flat = omega arith; tokens = mark 123 ∷ mark 125 ∷ []; spells = ([], refl, refl) }; strikes = none_there 123 bytes f (mark 125 ∷ []) solid h })
      (λ a. absurd (no_read _ f a.2))

  set_cut : (bytes : List ℕ) (f : Fault) → Apart is_white bytes → set_at bytes ≡ is_fault f → ValueGoes kinds.Set bytes f
  unfolding set_at
  set_cut bytes f solid e =
      by_side (bound_fault (sequence_at bytes) _ f e)
      (λ h. let s = sequence_cut bytes f solid h in
      record { small = record { t = collection s.0 no_trees; kind = refl; value = (omega arith, tt); flat = omega arith; tokens = mark 91 ∷ name_token s.0 ∷ mark 44 ∷ decimal 0 ∷ mark 93 ∷ []; spells = ([], s.1, refl, refl) }; strikes = s.2 })
      (λ a. absurd (no_read _ f a.2))

  list_cut : (bytes : List ℕ) (f : Fault) → Apart is_white bytes → list_at bytes ≡ is_fault f → ValueGoes kinds.List bytes f
  unfolding list_at
  list_cut bytes f solid e =
      by_side (bound_fault (sequence_at bytes) _ f e)
      (λ h. let s = sequence_cut bytes f solid h in
      record { small = record { t = sequence s.0 no_trees; kind = refl; value = (omega arith, tt); flat = omega arith; tokens = mark 91 ∷ name_token s.0 ∷ mark 44 ∷ decimal 0 ∷ mark 93 ∷ []; spells = ([], s.1, refl, refl) }; strikes = s.2 })
      (λ a. absurd (no_read _ f a.2))

  map_goes : (bytes : List ℕ) (f : Fault) → EmptyMap bytes f → ValueGoes kinds.Map bytes f
  map_goes bytes f (k, v, named, other, s) =
      record { small = record { t = mapping_of_none; kind = refl; value = tt; flat = omega arith; tokens = map_tokens k v 0 ++ (mark 125 ∷ mark 93 ∷ []); spells = (k, v, named, other, refl) }; strikes = s }

  pub value_cut : (k : Kind) (bytes : List ℕ) (f : Fault) → IsNamed k → length bytes + 10 < 2 ^ 31 → Apart is_white bytes → value_at key (hint_at ty) k bytes ≡ is_fault f → ValueGoes k bytes f
  unfolding value_at
  value_cut kinds.Bool bytes f named room solid e = bool_cut bytes f solid e
  value_cut kinds.I8 bytes f named room solid e = i8_cut bytes f solid e
  value_cut kinds.I16 bytes f named room solid e = i16_cut bytes f solid e
  value_cut kinds.I32 bytes f named room solid e = i32_cut bytes f solid e
  value_cut kinds.I64 bytes f named room solid e = i64_cut bytes f solid e
  value_cut kinds.Double bytes f named room solid e = double_goes bytes f solid e
  value_cut kinds.Str bytes f named room solid e = string_cut (hint_at ty) bytes f refl room solid e
  value_cut kinds.Struct bytes f named room solid e = struct_cut bytes f solid e
  value_cut kinds.Map bytes f named room solid e = map_goes bytes f (map_cut bytes f solid e)
  value_cut kinds.Set bytes f named room solid e = set_cut bytes f solid e
  value_cut kinds.List bytes f named room solid e = list_cut bytes f solid e
  value_cut kinds.Uuid bytes f named room solid e = absurd (cc)

  -- ---- the least value of a kind

  empty_string : (hint : Hint) → hint_at ty ≡ hint → SmallValue kinds.Str
  empty_string hints.Text is = record { t = characters []; kind = refl; value = omega arith; flat = omega arith; tokens = (34 ∷ 34 ∷ []) ∷ []; spells = subst (λ h. IsStringToken h [] ((34 ∷ 34 ∷ []) ∷ [])) (sym is) (34 ∷ 34 ∷ [], ([], tt, refl, refl), refl) }
  empty_string hints.Blob is = record { t = characters []; kind = refl; value = omega arith; flat = omega arith; tokens = (34 ∷ 34 ∷ []) ∷ []; spells = subst (λ h. IsStringToken h [] ((34 ∷ 34 ∷ []) ∷ [])) (sym is) (34 ∷ 34 ∷ [], no_blob, refl) }
  empty_string hints.Unknown is = record { t = loose_text []; kind = refl; value = omega arith; flat = omega arith; tokens = (34 ∷ 34 ∷ []) ∷ []; spells = subst (λ h. IsLooseToken h [] ((34 ∷ 34 ∷ []) ∷ [])) (sym is) (34 ∷ 34 ∷ [], ([], tt, refl, refl), refl) }

  -- each kind with a name has one
  small : (t : Tree) (tokens : Tokens) → IsValue t → depth_of t ≤ 1 → Spells (declared_of d) key ty t tokens → SmallValue (kind_of t)
  small t tokens value flat spells = record { t = t; kind = refl; value = value; flat = flat; tokens = tokens; spells = spells }

  pub least : (k : Kind) → IsNamed k → SmallValue k
  least kinds.Bool named = small (truth false) (number key (48 ∷ []) ∷ []) tt (omega arith) refl
  least kinds.I8 named = small (whole_8 (pos 0)) (number key (48 ∷ []) ∷ []) (fits_8 (pos 0) (grind (arith, nat_tests)) (grind (arith, nat_tests))) (omega arith) (48 ∷ [], inl (refl, refl), refl)
  least kinds.I16 named = small (whole_16 (pos 0)) (number key (48 ∷ []) ∷ []) (fits_16 (pos 0) (grind (arith, nat_tests)) (grind (arith, nat_tests))) (omega arith) (48 ∷ [], inl (refl, refl), refl)
  least kinds.I32 named = small (whole_32 (pos 0)) (number key (48 ∷ []) ∷ []) (fits_32 (pos 0) (grind (arith, nat_tests)) (grind (arith, nat_tests))) (omega arith) (48 ∷ [], inl (refl, refl), refl)
  least kinds.I64 named = small (whole_64 (pos 0)) (number key (48 ∷ []) ∷ []) (fits_64 (pos 0) (grind (arith, nat_tests)) (grind (arith, nat_tests))) (omega arith) (48 ∷ [], inl (refl, refl), refl)
  least kinds.Double named = small (loose_number (48 ∷ [])) (number key (48 ∷ []) ∷ []) tt (omega arith) (inl (([], 48 ∷ [], [], [], refl, inl refl, inl refl, inl refl, inl refl), refl))
  least kinds.Str named = empty_string (hint_at ty) refl
  least kinds.Struct named = small (structure no_members) (mark 123 ∷ mark 125 ∷ []) tt (omega arith) ([], refl, refl)
  least kinds.Map named = small mapping_of_none (map_tokens kinds.I8 kinds.I8 0 ++ (mark 125 ∷ mark 93 ∷ [])) tt (omega arith) (kinds.I8, kinds.I8, refl, refl, refl)
  least kinds.Set named = small (collection kinds.I8 no_trees) (mark 91 ∷ name_token kinds.I8 ∷ mark 44 ∷ decimal 0 ∷ mark 93 ∷ []) (omega arith, tt) (omega arith) ([], refl, refl, refl)
  least kinds.List named = small (sequence kinds.I8 no_trees) (mark 91 ∷ name_token kinds.I8 ∷ mark 44 ∷ decimal 0 ∷ mark 93 ∷ []) (omega arith, tt) (omega arith) ([], refl, refl, refl)
  least kinds.Uuid named = absurd (cc)
