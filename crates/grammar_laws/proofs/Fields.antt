-- Fields are read as they are derived, with so many levels for types and values.
use Rattle.std.proofs.Common.{◌≡◌, ◌∙◌, ap, sym, subst, refl, ℕ, ℤ, pos, ◌+◌, List, [], ◌∷◌, ◌++◌, Bool, true, false, ◌&&◌, not, if◌then◌else◌, Option, Some, None, Ok, Err, ◌⊎◌, inl, inr, arith}
use Rattle.std.proofs.Math.Path.{fun_ext}
use Rattle.idl_document.specs.declared.document.Asked.{Asked}
use Rattle.idl_document.specs.declared.document.Asked.TheVariants as asks
use Rattle.idl_document.specs.declared.document.Name.{Name}
use Rattle.idl_document.specs.Item.{ValueItem}
use Rattle.idl_document.specs.Trees.{FieldTree, TypeTree}
use Rattle.idl_parser.specs.declared.fault.Fault.TheVariants as faults
use Rattle.grammar_laws.proofs.Lexicon.{Lexeme}
use Rattle.grammar_laws.proofs.Lexicon as words
use Rattle.idl_parser.specs.Fields.{NamedPresetTree, asked_at, field_at, fields_in, given_at, has_dot, last_preset_at, name_at, named_preset_at, one_field, preset_at, tail_at, typed_at}
use Rattle.idl_parser.specs.Grammar.{Declares, DerivesAsked, DerivesFields, DerivesId, DerivesPreset, DerivesType, DerivesValue, Is, MayMark, Means, Notes, Separator}
use Rattle.idl_parser.specs.Lexemes.{Scan, mark_at, onward, stands, stands_by}
use Rattle.idl_parser.specs.Marks.{most_levels}
use Rattle.idl_parser.specs.Notes.{not_closed, notes_at}
use Rattle.idl_parser.specs.Run.{listed, run}
use Rattle.idl_parser.specs.Seen.{Seen}
use Rattle.idl_parser.specs.Types.{type_at}
use Rattle.idl_parser.specs.Values.{value_at}
use Rattle.grammar_laws.specs.Depth.{field_deep, fields_deep, first_of, items_deep, preset_deep, type_deep}
use Rattle.grammar_laws.proofs.Chains.{chain2, chain3, chain4, last}
use Rattle.grammar_laws.proofs.Choices.{Either, choice, choice_reads, chosen, either_barred}
use Rattle.grammar_laws.proofs.TokenKinds.{Kind, among, both_barred, free, int_kind, is_kind, kind, mark_kind, name_kind, nothing_barred, word_kind}
use Rattle.grammar_laws.proofs.Lists.{append_more}
use Rattle.grammar_laws.proofs.Many.{Many, no_more, one_more}
use Rattle.grammar_laws.proofs.Notes.{IsNotes, IsSeparator, MayGiven, both_by, if_chosen, list_reads, may_part, may_reads, notes_reads, opens_by, plain_bar, round_kinds, sep_at, sep_barred, sep_reads, separators, unclosed}
use Rattle.grammar_laws.proofs.Reading.{IsNone, IsToken, Part, Reads, Viewed, as_reads, moved, none_reads, ok_same, same_reads, shallow, token, token_by, token_reads, view_reads}
use Rattle.grammar_laws.proofs.Singles.{IsLone, int_is, is_of, is_of_kinds, is_one, keyword_is, mark_is, mark_reads, name_is, opened_is, sample, some_lone, stands_kind, unit_is, word, word_reads}
use Rattle.grammar_laws.proofs.Steps.{Both, step, step_reads}
use Rattle.grammar_laws.proofs.Types.{first_none, some_both, some_type, type_barred, type_kinds, type_reads}
use Rattle.grammar_laws.proofs.Values.{some_value, value_kinds, value_reads}

-- ---- names

abbrev is_plain : Seen → Bool
is_plain s = is_kind name_kind (kind s.lexeme) && not (has_dot s.word)

abbrev pub name_view : Seen → Name
name_view s = record { at = s.at; text = s.word }

and_true : (a b : Bool) → (a && b) ≡ true → (a ≡ true) × (b ≡ true)
and_true true b e = (refl, e)
and_true false b e = absurd (cc)

not_is : (b : Bool) → not b ≡ true → b ≡ false
not_is true e = absurd (cc)
not_is false e = refl

abbrev pub name_kinds : List Kind
name_kinds = name_kind ∷ []

abbrev pub some_declared : (n : Name) × (tokens : List Seen) × Declares n tokens
some_declared = (name_view (sample words.Word), sample words.Word ∷ [], Declares.name (name_view (sample words.Word)) (sample words.Word ∷ []) (Means.name (sample words.Word) refl) refl)

module _ (edge : ℕ) where
  name_by_dot : (s : Seen) (b : Bool) → (if b then Err (faults.Syntax s.at) else Ok (name_view s, 1)) ≡ moved 0 name_view (token_by (not b) s)
  name_by_dot s true = refl
  name_by_dot s false = refl

  name_by_form : (at : ℕ) (l : Lexeme) (w : List ℕ) (ss : List Seen) →
      name_at edge (record { at = at; lexeme = l; word = w } ∷ ss) ≡ moved 0 name_view (token edge is_plain (record { at = at; lexeme = l; word = w } ∷ ss))
  unfolding name_at
  name_by_form at words.Word w ss = name_by_dot (record { at = at; lexeme = words.Word; word = w }) (has_dot w)
  name_by_form at l w ss = refl

  name_same : (xs : List Seen) → name_at edge xs ≡ moved 0 name_view (token edge is_plain xs)
  unfolding name_at
  name_same [] = refl
  name_same (s ∷ ss) = name_by_form s.at s.lexeme s.word ss

  name_to : (s : Seen) (tokens : List Seen) → IsToken is_plain s tokens → Declares (name_view s) tokens
  name_to s tokens d =
      let both = and_true (is_kind name_kind (kind s.lexeme)) (not (has_dot s.word)) d.0 in
      Declares.name (name_view s) tokens (subst (λ (ts : List Seen). Means (name_view s) ts) (sym d.1) (Means.name s (name_is s.lexeme both.0))) (not_is (has_dot s.word) both.1)

  name_from : (n : Name) (tokens : List Seen) → Declares n tokens → Viewed name_view (IsToken is_plain) n tokens
  name_from _ _ (Declares.name n tokens m dotless) = by n tokens m dotless
    where
      by : (n : Name) (tokens : List Seen) → Means n tokens → has_dot n.text ≡ false → Viewed name_view (IsToken is_plain) n tokens
      by _ _ (Means.name s e) dotless = record {
        value = s;
        seen = refl;
        derives = (ap (λ (l : Lexeme). is_kind name_kind (kind l) && not (has_dot s.word)) e ∙ ap not dotless, refl);
      }

  pub name_reads : Reads edge Declares shallow (name_at edge) false name_kinds nothing_barred
  name_reads =
      as_reads edge (IsToken is_plain) Declares shallow shallow (token edge is_plain) (name_at edge) name_view false name_kinds nothing_barred name_same name_to name_from (λ x tokens d. refl)
      (token_reads edge is_plain name_kinds (λ s e. (and_true (is_kind name_kind (kind s.lexeme)) (not (has_dot s.word)) e).0))

-- ---- ids

abbrev int_lexeme : Lexeme
int_lexeme = words.Int (pos 0)

abbrev int_kinds : List Kind
int_kinds = int_kind ∷ []

abbrev int_in : Lexeme → ℤ
int_in (words.Int z) = z
int_in l = pos 0

abbrev id_view : Seen × Unit {0} → Option (ℕ × ℤ)
id_view t = Some (t.0.at, int_in t.0.lexeme)

module _ (edge : ℕ) where
  abbrev id_part : Part (Option (ℕ × ℤ))
  id_part = may_part edge int_lexeme (mark_at 58 edge) id_view None

  id_by_form : (at : ℕ) (l : Lexeme) (w : List ℕ) (ss : List Seen) → given_at edge (record { at = at; lexeme = l; word = w } ∷ ss) ≡ id_part (record { at = at; lexeme = l; word = w } ∷ ss)
  unfolding given_at
  id_by_form at (words.Int z) w ss =
      last 1 (mark_at 58 edge ss) (λ u. Some (at, z)) ∙ opened_is edge int_kinds (mark_at 58 edge) id_view (record { at = at; lexeme = words.Int z; word = w }) ss refl
  id_by_form at l w ss = refl

  id_same : (xs : List Seen) → given_at edge xs ≡ id_part xs
  unfolding given_at
  id_same [] = refl
  id_same (s ∷ ss) = id_by_form s.at s.lexeme s.word ss

  id_to : (o : Option (ℕ × ℤ)) (tokens : List Seen) → MayGiven edge int_lexeme (mark_at 58 edge) id_view None (IsLone (words.Mark 58)) o tokens → DerivesId o tokens
  id_to o tokens (inl v) =
      let z = int_is v.value.0.lexeme v.derives.left.0 in
      let whole : tokens ≡ v.value.0 ∷ v.derives.back = v.derives.joined ∙ ap (λ (f : List Seen). f ++ v.derives.back) v.derives.left.1 in
      let is : o ≡ Some (v.value.0.at, z.0) = v.seen ∙ ap (λ (l : Lexeme). let r : Option (ℕ × ℤ) = Some (v.value.0.at, int_in l) in r) z.1 in
      subst (λ (u : Option (ℕ × ℤ)). DerivesId u tokens) (sym is) (subst (DerivesId (Some (v.value.0.at, z.0))) (sym whole) (DerivesId.given v.value.0 z.0 v.derives.back z.1 v.derives.right))
  id_to o tokens (inr d) = subst (λ (u : Option (ℕ × ℤ)). DerivesId u tokens) (sym d.0) (subst (DerivesId None) (sym d.1) DerivesId.missing)

  id_from : (o : Option (ℕ × ℤ)) (tokens : List Seen) → DerivesId o tokens → MayGiven edge int_lexeme (mark_at 58 edge) id_view None (IsLone (words.Mark 58)) o tokens
  id_from _ _ DerivesId.missing = inr (refl, refl)
  id_from _ _ (DerivesId.given s z colon e c) = inl (record {
    value = (s, tt);
    seen = sym (ap (λ (l : Lexeme). let r : Option (ℕ × ℤ) = Some (s.at, int_in l) in r) e);
    derives = record { front = s ∷ []; back = colon; left = (ap (λ (l : Lexeme). among int_kinds (kind l)) e, refl); right = c; joined = refl };
  })

  id_reads : Reads edge DerivesId shallow (given_at edge) true int_kinds (plain_bar int_kinds)
  id_reads =
      same_reads edge (MayGiven edge int_lexeme (mark_at 58 edge) id_view None (IsLone (words.Mark 58))) DerivesId shallow id_part (given_at edge) true int_kinds (plain_bar int_kinds) id_same id_to id_from
      (may_reads edge int_lexeme (mark_at 58 edge) id_view None (IsLone (words.Mark 58)) shallow shallow false (mark_kind 58 ∷ []) nothing_barred (some_lone (words.Mark 58)) refl refl (λ t tokens d. refl) (mark_reads edge 58))

-- ---- required or optional

abbrev required_kinds : List Kind
required_kinds = word_kind words.Required ∷ []

abbrev optional_kinds : List Kind
optional_kinds = word_kind words.Optional ∷ []

abbrev asked_kinds : List Kind
asked_kinds = word_kind words.Required ∷ word_kind words.Optional ∷ []

abbrev asked_barred : Kind → Bool
asked_barred = either_barred true required_kinds nothing_barred (plain_bar optional_kinds)

module _ (edge : ℕ) where
  abbrev required_part : Part Asked
  required_part xs = moved 0 (λ s. asks.Required) (word edge required_kinds xs)

  abbrev optional_part : Part Asked
  optional_part xs = moved 0 (λ s. asks.Optional) (word edge optional_kinds xs)

  abbrev default_part : Part Asked
  default_part xs = Ok (asks.Default, 0)

  abbrev asked_part : Part Asked
  asked_part = choice required_kinds required_part (choice optional_kinds optional_part default_part)

  abbrev AskedForm : Asked → List Seen → Type 0
  AskedForm = Either (Viewed (λ s. asks.Required) (IsToken (is_of_kinds required_kinds))) (Either (Viewed (λ s. asks.Optional) (IsToken (is_of_kinds optional_kinds))) (IsNone asks.Default))

  asked_by_form : (at : ℕ) (l : Lexeme) (w : List ℕ) (ss : List Seen) → asked_at (record { at = at; lexeme = l; word = w } ∷ ss) ≡ asked_part (record { at = at; lexeme = l; word = w } ∷ ss)
  unfolding asked_at
  asked_by_form at (words.Reserved words.Required) w ss = refl
  asked_by_form at (words.Reserved words.Optional) w ss = refl
  asked_by_form at l w ss = refl

  asked_same : (xs : List Seen) → asked_at xs ≡ asked_part xs
  unfolding asked_at
  asked_same [] = refl
  asked_same (s ∷ ss) = asked_by_form s.at s.lexeme s.word ss

  asked_is : (a b : Asked) (tokens : List Seen) → a ≡ b → DerivesAsked b tokens → DerivesAsked a tokens
  asked_is a b tokens e d = subst (λ (x : Asked). DerivesAsked x tokens) (sym e) d

  asked_to : (a : Asked) (tokens : List Seen) → AskedForm a tokens → DerivesAsked a tokens
  asked_to a tokens (inl v) =
      asked_is a asks.Required tokens v.seen (DerivesAsked.required tokens (is_of (words.Reserved words.Required) v.value tokens (keyword_is words.Required v.value.lexeme refl v.derives.0) v.derives.1))
  asked_to a tokens (inr (inl v)) =
      asked_is a asks.Optional tokens v.seen (DerivesAsked.optional tokens (is_of (words.Reserved words.Optional) v.value tokens (keyword_is words.Optional v.value.lexeme refl v.derives.0) v.derives.1))
  asked_to a tokens (inr (inr d)) = asked_is a asks.Default tokens d.0 (subst (DerivesAsked asks.Default) (sym d.1) DerivesAsked.missing)

  asked_from : (a : Asked) (tokens : List Seen) → DerivesAsked a tokens → AskedForm a tokens
  asked_from _ _ DerivesAsked.missing = inr (inr (refl, refl))
  asked_from _ _ (DerivesAsked.required word w) =
      let o = is_one (words.Reserved words.Required) word w in
      inl (record { value = o.seen; seen = refl; derives = (ap (λ (l : Lexeme). among required_kinds (kind l)) o.says, o.whole) })
  asked_from _ _ (DerivesAsked.optional word w) =
      let o = is_one (words.Reserved words.Optional) word w in
      inr (inl (record { value = o.seen; seen = refl; derives = (ap (λ (l : Lexeme). among optional_kinds (kind l)) o.says, o.whole) }))

  asked_reads : Reads edge DerivesAsked shallow asked_at true asked_kinds asked_barred
  asked_reads =
      same_reads edge AskedForm DerivesAsked shallow asked_part asked_at true asked_kinds asked_barred asked_same asked_to asked_from
      (choice_reads edge (Viewed (λ s. asks.Required) (IsToken (is_of_kinds required_kinds))) (Either (Viewed (λ s. asks.Optional) (IsToken (is_of_kinds optional_kinds))) (IsNone asks.Default)) shallow
      required_part (choice optional_kinds optional_part default_part) true required_kinds optional_kinds nothing_barred (plain_bar optional_kinds) refl
      (view_reads edge (IsToken (is_of_kinds required_kinds)) shallow shallow (word edge required_kinds) (λ s. asks.Required) false required_kinds nothing_barred (λ x tokens d. refl) (word_reads edge required_kinds))
      (choice_reads edge (Viewed (λ s. asks.Optional) (IsToken (is_of_kinds optional_kinds))) (IsNone asks.Default) shallow optional_part default_part true optional_kinds [] nothing_barred nothing_barred refl
      (view_reads edge (IsToken (is_of_kinds optional_kinds)) shallow shallow (word edge optional_kinds) (λ s. asks.Optional) false optional_kinds nothing_barred (λ x tokens d. refl) (word_reads edge optional_kinds))
      (none_reads edge asks.Default shallow refl)))

-- ---- a type, and a mark & where it stands

abbrev amp_kinds : List Kind
amp_kinds = mark_kind 38 ∷ []

abbrev IsAmp : Unit {0} → List Seen → Type 0
IsAmp u tokens = MayMark 38 tokens

abbrev amp_at : Part (Unit {0})
amp_at xs = Ok (tt, if stands 38 xs then 1 else 0)

module _ (edge : ℕ) where
  abbrev amp_given : Part (Unit {0})
  amp_given xs = moved 0 (λ s. tt) (word edge amp_kinds xs)

  abbrev amp_none : Part (Unit {0})
  amp_none xs = Ok (tt, 0)

  abbrev AmpForm : Unit {0} → List Seen → Type 0
  AmpForm = Either (Viewed (λ s. tt) (IsToken (is_of_kinds amp_kinds))) (IsNone tt)

  amp_by : (s : Seen) (a b : Bool) → a ≡ b → (let r : Scan (Unit {0}) = Ok (tt, if a then 1 else 0) in r) ≡ chosen b (moved 0 (λ s. tt) (token_by b s)) (Ok (tt, 0))
  amp_by s true true e = refl
  amp_by s true false e = absurd (cc)
  amp_by s false true e = absurd (cc)
  amp_by s false false e = refl

  amp_same : (xs : List Seen) → amp_at xs ≡ choice amp_kinds amp_given amp_none xs
  unfolding stands
  amp_same [] = refl
  amp_same (s ∷ ss) = amp_by s (stands_by 38 s.lexeme) (is_kind (mark_kind 38) (kind s.lexeme)) (stands_kind edge 38 s.lexeme)

  amp_to : (u : Unit {0}) (tokens : List Seen) → AmpForm u tokens → IsAmp u tokens
  amp_to u tokens (inl v) = MayMark.there 38 tokens (is_of (words.Mark 38) v.value tokens (mark_is 38 v.value.lexeme v.derives.0) v.derives.1)
  amp_to u tokens (inr d) = subst (MayMark 38) (sym d.1) (MayMark.missing 38)

  amp_by_mark : (c : ℕ) (tokens : List Seen) → MayMark c tokens → (tokens ≡ []) ⊎ Is (words.Mark c) tokens
  amp_by_mark _ _ (MayMark.missing c) = inl refl
  amp_by_mark _ _ (MayMark.there c tokens d) = inr d

  amp_from : (u : Unit {0}) (tokens : List Seen) → IsAmp u tokens → AmpForm u tokens
  amp_from u tokens d = by (amp_by_mark 38 tokens d)
    where
      by : (tokens ≡ []) ⊎ Is (words.Mark 38) tokens → AmpForm u tokens
      by (inl e) = inr (unit_is u, e)
      by (inr m) = let o = is_one (words.Mark 38) tokens m in inl (record { value = o.seen; seen = unit_is u; derives = (ap (λ (l : Lexeme). among amp_kinds (kind l)) o.says, o.whole) })

  amp_reads : Reads edge IsAmp shallow amp_at true amp_kinds (plain_bar amp_kinds)
  amp_reads =
      same_reads edge AmpForm IsAmp shallow (choice amp_kinds amp_given amp_none) amp_at true amp_kinds (plain_bar amp_kinds) amp_same amp_to amp_from
      (choice_reads edge (Viewed (λ s. tt) (IsToken (is_of_kinds amp_kinds))) (IsNone tt) shallow amp_given amp_none true amp_kinds [] nothing_barred nothing_barred refl
      (view_reads edge (IsToken (is_of_kinds amp_kinds)) shallow shallow (word edge amp_kinds) (λ s. tt) false amp_kinds nothing_barred (λ x tokens d. refl) (word_reads edge amp_kinds))
      (none_reads edge tt shallow refl))

-- ---- notes and a separator

abbrev pub IsTail : Unit {0} → List Seen → Type 0
IsTail = Viewed (λ t. tt) (Both IsNotes IsSeparator)

abbrev pub tail_kinds : List Kind
tail_kinds = mark_kind 40 ∷ mark_kind 44 ∷ mark_kind 59 ∷ []

abbrev pub tail_barred : Kind → Bool
tail_barred = both_barred true (plain_bar round_kinds) sep_barred

abbrev pub some_tail : (u : Unit {0}) × (tokens : List Seen) × IsTail u tokens
some_tail = (tt, [], record { value = (tt, tt); seen = refl; derives = record { front = []; back = []; left = Notes.missing; right = Separator.none; joined = refl } })

pub tail_reads : (edge : ℕ) → Reads edge IsTail shallow (tail_at edge) true tail_kinds tail_barred
unfolding tail_at
tail_reads edge =
    as_reads edge (Both IsNotes IsSeparator) IsTail shallow shallow (step (notes_at edge) sep_at) (tail_at edge) (λ t. tt) true tail_kinds tail_barred (λ xs. chain2 (notes_at edge) sep_at (λ t. tt) xs)
    (λ x tokens d. record { value = x; seen = refl; derives = d }) (λ z tokens v. v) (λ x tokens d. refl)
    (step_reads edge IsNotes IsSeparator shallow shallow (notes_at edge) sep_at true true round_kinds separators (plain_bar round_kinds) sep_barred refl (tt, [], Separator.none) refl (notes_reads edge) (sep_reads edge))

-- ---- presets

abbrev preset_kinds : List Kind
preset_kinds = mark_kind 61 ∷ []

abbrev preset_view : Seen × List ValueItem → Option (List ValueItem)
preset_view t = Some t.1

abbrev LastPreset : Option (List ValueItem) → List Seen → Type 0
LastPreset = Viewed (λ t. t.0) (Both DerivesPreset IsTail)

abbrev named_view : Name × Option (List ValueItem) → NamedPresetTree
named_view t = record { name = t.0; preset = t.1 }

abbrev NamedPreset : NamedPresetTree → List Seen → Type 0
NamedPreset = Viewed named_view (Both Declares LastPreset)

abbrev Typed : TypeTree → List Seen → Type 0
Typed = Viewed (λ t. t.0) (Both DerivesType IsAmp)

abbrev field_view : Option (ℕ × ℤ) × (Asked × (TypeTree × NamedPresetTree)) → FieldTree
field_view t = record { id = t.0; asked = t.1.0; ty = t.1.1.0; name = t.1.1.1.name; preset = t.1.1.1.preset }

abbrev IsField : FieldTree → List Seen → Type 0
IsField = Viewed field_view (Both DerivesId (Both DerivesAsked (Both Typed NamedPreset)))

abbrev OneField : List FieldTree → List Seen → Type 0
OneField = Viewed (λ f. f ∷ []) IsField

abbrev last_kinds : List Kind
last_kinds = preset_kinds ++ tail_kinds

abbrev last_barred : Kind → Bool
last_barred = both_barred true (plain_bar preset_kinds) tail_barred

abbrev named_barred : Kind → Bool
named_barred = both_barred true nothing_barred last_barred

abbrev pub field_kinds : List Kind
field_kinds = int_kinds ++ (asked_kinds ++ type_kinds)

pub listed_moved : {X : Type 0} (r : Scan X) → listed r ≡ moved 0 (λ x. x ∷ []) r
listed_moved (Ok x) = let none : x.1 ≡ 0 + x.1 = omega arith in ok_same (x.0 ∷ []) (x.0 ∷ []) x.1 (0 + x.1) refl none
listed_moved (Err f) = refl

module _ (edge levels : ℕ) where
  abbrev pub preset_part : Part (Option (List ValueItem))
  preset_part = may_part edge (words.Mark 61) (value_at levels edge) preset_view None

  preset_to : (o : Option (List ValueItem)) (tokens : List Seen) → MayGiven edge (words.Mark 61) (value_at levels edge) preset_view None DerivesValue o tokens → DerivesPreset o tokens
  preset_to o tokens (inl v) =
      let b = opens_by (words.Mark 61) DerivesValue v.value tokens (mark_is 61) v.derives in
      subst (λ (u : Option (List ValueItem)). DerivesPreset u tokens) (sym v.seen) (subst (DerivesPreset (Some v.value.1)) (sym b.joined) (DerivesPreset.given v.value.1 (v.value.0 ∷ []) b.back b.opens b.right))
  preset_to o tokens (inr d) = subst (λ (u : Option (List ValueItem)). DerivesPreset u tokens) (sym d.0) (subst (DerivesPreset None) (sym d.1) DerivesPreset.missing)

  preset_from : (o : Option (List ValueItem)) (tokens : List Seen) → DerivesPreset o tokens → MayGiven edge (words.Mark 61) (value_at levels edge) preset_view None DerivesValue o tokens
  preset_from _ _ DerivesPreset.missing = inr (refl, refl)
  preset_from _ _ (DerivesPreset.given v equal value m d) =
      let o = is_one (words.Mark 61) equal m in
      inl (record { value = (o.seen, v); seen = refl; derives = both_by (words.Mark 61) DerivesValue o.seen v equal value refl o.says o.whole d })

  preset_reads : Reads edge DerivesPreset (preset_deep levels) preset_part true preset_kinds (plain_bar preset_kinds)
  preset_reads =
      same_reads edge (MayGiven edge (words.Mark 61) (value_at levels edge) preset_view None DerivesValue) DerivesPreset (preset_deep levels) preset_part preset_part true preset_kinds (plain_bar preset_kinds) (λ xs. refl)
      preset_to preset_from
      (may_reads edge (words.Mark 61) (value_at levels edge) preset_view None DerivesValue (items_deep levels) (preset_deep levels) false value_kinds nothing_barred some_value refl refl (λ t tokens d. refl) (value_reads edge levels))

  abbrev pub last_preset_part : Part (Option (List ValueItem))
  last_preset_part xs = moved 0 (λ t. t.0) (step preset_part (tail_at edge) xs)

  last_preset_reads : Reads edge LastPreset (preset_deep levels) last_preset_part true last_kinds last_barred
  last_preset_reads =
      view_reads edge (Both DerivesPreset IsTail) (λ t. first_of (preset_deep levels t.0) None) (preset_deep levels) (step preset_part (tail_at edge)) (λ t. t.0) true last_kinds last_barred
      (λ x tokens d. first_none (preset_deep levels x.0))
      (step_reads edge DerivesPreset IsTail (preset_deep levels) shallow preset_part (tail_at edge) true true preset_kinds tail_kinds (plain_bar preset_kinds) tail_barred refl some_tail refl preset_reads (tail_reads edge))

  abbrev some_last : (o : Option (List ValueItem)) × (tokens : List Seen) × LastPreset o tokens
  some_last =
      let both = some_both DerivesPreset IsTail (None, [], DerivesPreset.missing) some_tail in
      (both.0.0, both.1, record { value = both.0; seen = refl; derives = both.2 })

  abbrev pub named_preset_part : Part NamedPresetTree
  named_preset_part xs = moved 0 named_view (step (name_at edge) last_preset_part xs)

  named_preset_reads : Reads edge NamedPreset (λ p. preset_deep levels p.preset) named_preset_part false name_kinds named_barred
  named_preset_reads =
      view_reads edge (Both Declares LastPreset) (λ t. preset_deep levels t.1) (λ p. preset_deep levels p.preset) (step (name_at edge) last_preset_part) named_view false name_kinds named_barred
      (λ x tokens d. refl)
      (step_reads edge Declares LastPreset shallow (preset_deep levels) (name_at edge) last_preset_part false true name_kinds last_kinds nothing_barred last_barred refl some_last refl (name_reads edge) last_preset_reads)

  abbrev some_named : (p : NamedPresetTree) × (tokens : List Seen) × NamedPreset p tokens
  some_named =
      let both = some_both Declares LastPreset some_declared some_last in
      (record { name = both.0.0; preset = both.0.1 }, both.1, record { value = both.0; seen = refl; derives = both.2 })

  abbrev typed_barred : Kind → Bool
  typed_barred = both_barred true type_barred (plain_bar amp_kinds)

  abbrev pub typed_part : Part TypeTree
  typed_part xs = moved 0 (λ t. t.0) (step (type_at levels edge) amp_at xs)

  typed_reads : Reads edge Typed (type_deep levels) typed_part false type_kinds typed_barred
  typed_reads =
      view_reads edge (Both DerivesType IsAmp) (λ t. first_of (type_deep levels t.0) None) (type_deep levels) (step (type_at levels edge) amp_at) (λ t. t.0) false type_kinds typed_barred
      (λ x tokens d. first_none (type_deep levels x.0))
      (step_reads edge DerivesType IsAmp (type_deep levels) shallow (type_at levels edge) amp_at false true type_kinds amp_kinds type_barred (plain_bar amp_kinds) refl (tt, [], MayMark.missing 38) refl (type_reads edge levels)
      (amp_reads edge))

  abbrev some_typed : (ty : TypeTree) × (tokens : List Seen) × Typed ty tokens
  some_typed =
      let both = some_both DerivesType IsAmp some_type (tt, [], MayMark.missing 38) in
      (both.0.0, both.1, record { value = both.0; seen = refl; derives = both.2 })

  abbrev pub field_part : Part FieldTree
  field_part xs = moved 0 field_view (step (given_at edge) (step asked_at (step typed_part named_preset_part)) xs)

  typed_named_reads : Reads edge (Both Typed NamedPreset) (λ t. first_of (type_deep levels t.0) (preset_deep levels t.1.preset)) (step typed_part named_preset_part) false type_kinds named_barred
  typed_named_reads =
      step_reads edge Typed NamedPreset (type_deep levels) (λ p. preset_deep levels p.preset) typed_part named_preset_part false false type_kinds name_kinds typed_barred named_barred refl some_named refl typed_reads named_preset_reads

  asked_named_reads : Reads edge (Both DerivesAsked (Both Typed NamedPreset)) (λ t. first_of (type_deep levels t.1.0) (preset_deep levels t.1.1.preset)) (step asked_at (step typed_part named_preset_part)) false
      (asked_kinds ++ type_kinds) named_barred
  asked_named_reads =
      step_reads edge DerivesAsked (Both Typed NamedPreset) shallow (λ t. first_of (type_deep levels t.0) (preset_deep levels t.1.preset)) asked_at (step typed_part named_preset_part) true false asked_kinds type_kinds asked_barred
      named_barred refl (some_both Typed NamedPreset some_typed some_named) refl (asked_reads edge) typed_named_reads

  field_reads : Reads edge IsField (field_deep levels) field_part false field_kinds named_barred
  field_reads =
      view_reads edge (Both DerivesId (Both DerivesAsked (Both Typed NamedPreset))) (λ t. first_of (type_deep levels t.1.1.0) (preset_deep levels t.1.1.1.preset)) (field_deep levels)
      (step (given_at edge) (step asked_at (step typed_part named_preset_part))) field_view false field_kinds named_barred (λ x tokens d. refl)
      (step_reads edge DerivesId (Both DerivesAsked (Both Typed NamedPreset)) shallow (λ t. first_of (type_deep levels t.1.0) (preset_deep levels t.1.1.preset)) (given_at edge)
      (step asked_at (step typed_part named_preset_part)) true false int_kinds (asked_kinds ++ type_kinds) (plain_bar int_kinds) named_barred refl
      (some_both DerivesAsked (Both Typed NamedPreset) (asks.Default, [], DerivesAsked.missing) (some_both Typed NamedPreset some_typed some_named)) refl (id_reads edge) asked_named_reads)

  abbrev pub one_field_part : Part (List FieldTree)
  one_field_part xs = moved 0 (λ f. f ∷ []) (field_part xs)

  one_field_reads : Reads edge OneField (fields_deep levels) one_field_part false field_kinds named_barred
  one_field_reads =
      view_reads edge IsField (field_deep levels) (fields_deep levels) field_part (λ f. f ∷ []) false field_kinds named_barred (λ x tokens d. sym (first_none (field_deep levels x))) field_reads

-- ---- a list of fields

-- the lists of one field and of those behind it
field_tokens : (id asked ty reference name preset notes separator rest typed tail named last behind inner front tokens : List Seen) → tail ≡ notes ++ separator → last ≡ preset ++ tail → named ≡ name ++ last →
    typed ≡ ty ++ reference → inner ≡ typed ++ named → behind ≡ asked ++ inner → front ≡ id ++ behind → tokens ≡ front ++ rest →
    tokens ≡ id ++ asked ++ ty ++ reference ++ name ++ preset ++ notes ++ separator ++ rest
field_tokens id asked ty reference name preset notes separator rest typed tail named last behind inner front tokens e1 e2 e3 e4 e5 e6 e7 e8 =
    let shape : (id ++ (asked ++ ((ty ++ reference) ++ (name ++ (preset ++ (notes ++ separator)))))) ++ rest ≡ id ++ asked ++ ty ++ reference ++ name ++ preset ++ notes ++ separator ++ rest = simp append_more in
    e8 ∙ ap (λ (f : List Seen). f ++ rest) (e7 ∙ ap (λ (f : List Seen). id ++ f) (e6 ∙ ap (λ (f : List Seen). asked ++ f) (e5 ∙ ap (λ (f : List Seen). f ++ named) e4
    ∙ ap (λ (f : List Seen). (ty ++ reference) ++ f) (e3 ∙ ap (λ (f : List Seen). name ++ f) (e2 ∙ ap (λ (f : List Seen). preset ++ f) e1))))) ∙ shape

fields_to : (fs : List FieldTree) (tokens : List Seen) → Many OneField fs tokens → DerivesFields fs tokens
fields_to _ _ (no_more fs tokens e none) = subst (λ (v : List FieldTree). DerivesFields v tokens) (sym e) (subst (DerivesFields []) (sym none) DerivesFields.none)
fields_to _ _ (one_more f fs all front back tokens d m e split) =
    let rest = fields_to fs back m in
    let field = d.derives in
    let a = field.derives in
    let b = a.right in
    let c = b.right in
    let typed = c.left in
    let named = c.right in
    let last = named.derives.right in
    let tail = last.derives.right in
    let is : field_view field.value ≡ record { id = field.value.0; asked = field.value.1.0; ty = typed.value.0; name = named.value.0; preset = last.value.0 } =
    ap (λ (t : TypeTree). field_view (field.value.0, (field.value.1.0, (t, field.value.1.1.1)))) typed.seen
    ∙ ap (λ (p : NamedPresetTree). field_view (field.value.0, (field.value.1.0, (typed.value.0, p)))) named.seen
    ∙ ap (λ (p : Option (List ValueItem)). field_view (field.value.0, (field.value.1.0, (typed.value.0, record { name = named.value.0; preset = p })))) last.seen in
    let whole = field_tokens a.front b.front typed.derives.front typed.derives.back named.derives.front last.derives.front tail.derives.front tail.derives.back back c.front last.derives.back c.back named.derives.back
    a.back b.back front tokens tail.derives.joined last.derives.joined named.derives.joined typed.derives.joined c.joined b.joined a.joined split in
    let tree : FieldTree = record { id = field.value.0; asked = field.value.1.0; ty = typed.value.0; name = named.value.0; preset = last.value.0 } in
    let all_is : all ≡ tree ∷ fs = e ∙ ap (λ (v : List FieldTree). v ++ fs) (d.seen ∙ ap (λ (x : FieldTree). x ∷ []) (field.seen ∙ is)) in
    subst (λ (v : List FieldTree). DerivesFields v tokens) (sym all_is)
    (subst (DerivesFields (tree ∷ fs)) (sym whole)
    (DerivesFields.more tree fs a.front b.front typed.derives.front typed.derives.back named.derives.front last.derives.front tail.derives.front tail.derives.back back a.left b.left typed.derives.left typed.derives.right
    named.derives.left last.derives.left tail.derives.left tail.derives.right rest))

fields_from : (fs : List FieldTree) (tokens : List Seen) → DerivesFields fs tokens → Many OneField fs tokens
fields_from _ _ DerivesFields.none = no_more [] [] refl refl
fields_from _ _ (DerivesFields.more f fs id asked ty reference name preset notes separator rest di da dt dr dn dp nt sep others) =
    let last : LastPreset f.preset (preset ++ (notes ++ separator)) = record {
      value = (f.preset, tt);
      seen = refl;
      derives = record {
        front = preset;
        back = notes ++ separator;
        left = dp;
        right = record { value = (tt, tt); seen = refl; derives = record { front = notes; back = separator; left = nt; right = sep; joined = refl } };
        joined = refl;
      };
    } in
    let named : NamedPreset (record { name = f.name; preset = f.preset }) (name ++ (preset ++ (notes ++ separator))) = record {
      value = (f.name, f.preset);
      seen = refl;
      derives = record { front = name; back = preset ++ (notes ++ separator); left = dn; right = last; joined = refl };
    } in
    let typed : Typed f.ty (ty ++ reference) = record { value = (f.ty, tt); seen = refl; derives = record { front = ty; back = reference; left = dt; right = dr; joined = refl } } in
    let whole : List Seen = id ++ (asked ++ ((ty ++ reference) ++ (name ++ (preset ++ (notes ++ separator))))) in
    let field : IsField f whole = record {
      value = (f.id, (f.asked, (f.ty, record { name = f.name; preset = f.preset })));
      seen = refl;
      derives = record {
        front = id;
        back = asked ++ ((ty ++ reference) ++ (name ++ (preset ++ (notes ++ separator))));
        left = di;
        right = record {
          front = asked;
          back = (ty ++ reference) ++ (name ++ (preset ++ (notes ++ separator)));
          left = da;
          right = record { front = ty ++ reference; back = name ++ (preset ++ (notes ++ separator)); left = typed; right = named; joined = refl };
          joined = refl;
        };
        joined = refl;
      };
    } in
    let shape : id ++ asked ++ ty ++ reference ++ name ++ preset ++ notes ++ separator ++ rest ≡ (id ++ (asked ++ ((ty ++ reference) ++ (name ++ (preset ++ (notes ++ separator)))))) ++ rest = sym (simp append_more) in
    one_more (f ∷ []) fs (f ∷ fs) (id ++ (asked ++ ((ty ++ reference) ++ (name ++ (preset ++ (notes ++ separator)))))) rest (id ++ asked ++ ty ++ reference ++ name ++ preset ++ notes ++ separator ++ rest)
    (record { value = f; seen = refl; derives = field }) (fields_from fs rest others) refl shape

module _ (edge levels c : ℕ) where
  abbrev pub fields_part : Part (List FieldTree)
  fields_part xs = run (not_closed c) (one_field_part edge levels) edge xs 0

  pub fields_read : free field_kinds (is_kind (mark_kind c)) ≡ true → named_barred (mark_kind c) ≡ false → Reads edge DerivesFields (fields_deep levels) fields_part true field_kinds (unclosed c)
  fields_read apart closing =
      same_reads edge (Many OneField) DerivesFields (fields_deep levels) fields_part fields_part true field_kinds (unclosed c) (λ xs. refl) fields_to fields_from
      (list_reads edge c (one_field_part edge levels) OneField (fields_deep levels) field_kinds named_barred apart refl closing refl
      (λ y ys tokens d. ap (λ (v : List FieldTree). fields_deep levels (v ++ ys)) d.seen ∙ ap (λ (o : Option ℕ). first_of o (fields_deep levels ys)) (first_none (field_deep levels d.value))
      ∙ ap (λ (v : List FieldTree). first_of (fields_deep levels v) (fields_deep levels ys)) (sym d.seen))
      (one_field_reads edge levels))

-- ---- as they are scanned

module _ (edge : ℕ) where
  preset_is : preset_at edge ≡ preset_part edge most_levels
  unfolding preset_at stands
  preset_is = fun_ext by
    where
      by : (xs : List Seen) → preset_at edge xs ≡ preset_part edge most_levels xs
      by [] = refl
      by (s ∷ ss) =
          if_chosen (stands_by 61 s.lexeme) (is_kind (mark_kind 61) (kind s.lexeme)) (onward 1 (value_at most_levels edge ss) λ value n. Ok (Some value, n))
          (moved 0 preset_view (step (word edge preset_kinds) (value_at most_levels edge) (s ∷ ss))) (Ok (None, 0)) (stands_kind edge 61 s.lexeme)
          (λ e. last 1 (value_at most_levels edge ss) (λ v. Some v) ∙ opened_is edge preset_kinds (value_at most_levels edge) preset_view s ss e)

  last_preset_is : last_preset_at edge ≡ last_preset_part edge most_levels
  unfolding last_preset_at
  last_preset_is = fun_ext by
    where
      by : (xs : List Seen) → last_preset_at edge xs ≡ last_preset_part edge most_levels xs
      by xs = chain2 (preset_at edge) (tail_at edge) (λ t. t.0) xs ∙ ap (λ (p : Part (Option (List ValueItem))). moved 0 (λ t. t.0) (step p (tail_at edge) xs)) preset_is

  named_preset_is : named_preset_at edge ≡ named_preset_part edge most_levels
  unfolding named_preset_at
  named_preset_is = fun_ext by
    where
      by : (xs : List Seen) → named_preset_at edge xs ≡ named_preset_part edge most_levels xs
      by xs =
          chain2 (name_at edge) (last_preset_at edge) named_view xs
          ∙ ap (λ (p : Part (Option (List ValueItem))). moved 0 named_view (step (name_at edge) p xs)) last_preset_is

  typed_is : typed_at edge ≡ typed_part edge most_levels
  unfolding typed_at
  typed_is = fun_ext by
    where
      by : (xs : List Seen) → typed_at edge xs ≡ typed_part edge most_levels xs
      by xs = chain2 (type_at most_levels edge) amp_at (λ t. t.0) xs

  field_is : field_at edge ≡ field_part edge most_levels
  unfolding field_at
  field_is = fun_ext by
    where
      by : (xs : List Seen) → field_at edge xs ≡ field_part edge most_levels xs
      by xs =
          chain4 (given_at edge) asked_at (typed_at edge) (named_preset_at edge) field_view xs
          ∙ ap (λ (p : Part TypeTree). moved 0 field_view (step (given_at edge) (step asked_at (step p (named_preset_at edge))) xs)) typed_is
          ∙ ap (λ (p : Part NamedPresetTree). moved 0 field_view (step (given_at edge) (step asked_at (step (typed_part edge most_levels) p)) xs)) named_preset_is

  one_field_is : one_field edge ≡ one_field_part edge most_levels
  one_field_is = fun_ext by
    where
      by : (xs : List Seen) → one_field edge xs ≡ one_field_part edge most_levels xs
      by xs = listed_moved (field_at edge xs) ∙ ap (λ (p : Part FieldTree). moved 0 (λ f. f ∷ []) (p xs)) field_is

-- ---- fields between two marks

module _ (edge levels opening c : ℕ) where
  abbrev pub fields_rest : Part (List FieldTree × Unit {0})
  fields_rest = step (fields_part edge levels c) (mark_at c edge)

  abbrev pub between_part : Part (List FieldTree)
  between_part xs = moved 0 (λ t. t.1.0) (step (mark_at opening edge) fields_rest xs)

abbrev pub IsBetween : ℕ → ℕ → List FieldTree → List Seen → Type 0
IsBetween opening c = Viewed (λ t. t.1.0) (Both (IsLone (words.Mark opening)) (Both DerivesFields (IsLone (words.Mark c))))

abbrev pub some_between : (opening c : ℕ) → (fs : List FieldTree) × (tokens : List Seen) × IsBetween opening c fs tokens
some_between opening c =
    let both = some_both (IsLone (words.Mark opening)) (Both DerivesFields (IsLone (words.Mark c))) (some_lone (words.Mark opening))
    (some_both DerivesFields (IsLone (words.Mark c)) ([], [], DerivesFields.none) (some_lone (words.Mark c))) in
    (both.0.1.0, both.1, record { value = both.0; seen = refl; derives = both.2 })

module _ (edge levels opening c : ℕ) where
  pub between_reads : free field_kinds (is_kind (mark_kind c)) ≡ true → named_barred (mark_kind c) ≡ false → free (mark_kind c ∷ []) (unclosed c) ≡ true →
      Reads edge (IsBetween opening c) (fields_deep levels) (between_part edge levels opening c) false (mark_kind opening ∷ []) nothing_barred
  between_reads apart closing ends =
      view_reads edge (Both (IsLone (words.Mark opening)) (Both DerivesFields (IsLone (words.Mark c)))) (λ t. first_of (fields_deep levels t.1.0) None) (fields_deep levels)
      (step (mark_at opening edge) (fields_rest edge levels opening c)) (λ t. t.1.0) false (mark_kind opening ∷ []) nothing_barred (λ x tokens d. first_none (fields_deep levels x.1.0))
      (step_reads edge (IsLone (words.Mark opening)) (Both DerivesFields (IsLone (words.Mark c))) shallow (λ t. first_of (fields_deep levels t.0) None) (mark_at opening edge) (fields_rest edge levels opening c) false false
      (mark_kind opening ∷ []) (field_kinds ++ mark_kind c ∷ []) nothing_barred nothing_barred refl
      (some_both DerivesFields (IsLone (words.Mark c)) ([], [], DerivesFields.none) (some_lone (words.Mark c))) refl (mark_reads edge opening)
      (step_reads edge DerivesFields (IsLone (words.Mark c)) (fields_deep levels) shallow (fields_part edge levels c) (mark_at c edge) true false field_kinds (mark_kind c ∷ []) (unclosed c) nothing_barred ends
      (some_lone (words.Mark c)) refl (fields_read edge levels c apart closing) (mark_reads edge c)))

module _ (edge opening c : ℕ) where
  pub between_is : fields_in opening c edge ≡ between_part edge most_levels opening c
  unfolding fields_in
  between_is = fun_ext by
    where
      by : (xs : List Seen) → fields_in opening c edge xs ≡ between_part edge most_levels opening c xs
      by xs =
          chain3 (mark_at opening edge) (λ ts. run (not_closed c) (one_field edge) edge ts 0) (mark_at c edge) (λ t. t.1.0) xs
          ∙ ap (λ (o : Part (List FieldTree)). moved 0 (λ t. t.1.0) (step (mark_at opening edge) (step (λ ts. run (not_closed c) o edge ts 0) (mark_at c edge)) xs)) (one_field_is edge)
