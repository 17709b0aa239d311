-- Values are read as they are derived.
use Rattle.std.proofs.Common.{◌≡◌, ◌∙◌, ap, sym, subst, refl, ℕ, ℤ, pos, zero, suc, List, [], ◌∷◌, ◌++◌, drop, Bool, true, false, ◌==◌, Option, Some, None, Ok, Err, inl, inr, arith, append_assoc}
use Rattle.std.proofs.lemmas.Bool.Decides.{nat_tests}
use Rattle.idl_document.specs.Item.{ValueItem, whole, double, literal, named, list_begin, list_end, map_begin, map_end}
use Rattle.idl_parser.specs.declared.fault.Fault.TheVariants as faults
use Rattle.grammar_laws.proofs.Lexicon.{Lexeme}
use Rattle.grammar_laws.proofs.Lexicon as words
use Rattle.idl_parser.specs.Grammar.{DerivesPairs, DerivesValue, DerivesValues, Separator}
use Rattle.idl_parser.specs.Lexemes.{Scan, lexeme_of, mark_at, offset_of, onward}
use Rattle.idl_parser.specs.Notes.{not_closed}
use Rattle.idl_parser.specs.Run.{run}
use Rattle.idl_parser.specs.Seen.{Seen}
use Rattle.idl_parser.specs.Values.{Inner, element_of, key_at, list_of, map_of, opened, pair_of, pairs_of, value_at, value_by}
use Rattle.grammar_laws.specs.Depth.{first_of, items_deep}
use Rattle.grammar_laws.proofs.Chains.{chain2, goes_on, last}
use Rattle.grammar_laws.proofs.Choices.{Either, choice, choice_reads, chosen}
use Rattle.grammar_laws.proofs.TokenKinds.{Kind, among, both_barred, double_kind, int_kind, kind, literal_kind, mark_kind, name_kind, nothing_barred}
use Rattle.grammar_laws.proofs.Lists.{append_more}
use Rattle.grammar_laws.proofs.Many.{Many, no_more, one_more}
use Rattle.grammar_laws.proofs.Notes.{IsSeparator, both_by, chosen_if, list_reads, opens_by, sep_at, sep_barred, sep_reads, separators, unclosed}
use Rattle.grammar_laws.proofs.Reading.{IsToken, Never, Part, Reads, Viewed, as_reads, fails, moved, nested_by, nests, same_reads, shallow, too_deep, view_reads}
use Rattle.grammar_laws.proofs.Singles.{IsLone, double_is, int_is, is_of_kinds, literal_is, mark_is, mark_reads, name_is, opened_is, sample, some_lone, word, word_reads}
use Rattle.grammar_laws.proofs.Steps.{Both, step, step_reads}
use Rattle.grammar_laws.proofs.Types.{opens_some, first_none, some_both, view_offset, view_starts}

first_both : (a b c : Option ℕ) → first_of (first_of a b) c ≡ first_of a (first_of b c)
first_both None b c = refl
first_both (Some at) b c = refl

-- ---- the levels of a value are closed again

-- behind its items the same levels are left
abbrev Joins : List ValueItem → Type 0
Joins v = (levels : ℕ) (rest : List ValueItem) → items_deep levels (v ++ rest) ≡ first_of (items_deep levels v) (items_deep levels rest)

-- brackets round some items
round_list : (items : List ValueItem) → Joins items → (levels : ℕ) → items_deep levels (items ++ list_end ∷ []) ≡ items_deep levels items
round_list items join levels = join levels (list_end ∷ []) ∙ sym (first_none (items_deep levels items))

round_map : (items : List ValueItem) → Joins items → (levels : ℕ) → items_deep levels (items ++ map_end ∷ []) ≡ items_deep levels items
round_map items join levels = join levels (map_end ∷ []) ∙ sym (first_none (items_deep levels items))

list_joins : (at : ℕ) (items : List ValueItem) → Joins items → Joins (list_begin at ∷ (items ++ list_end ∷ []))
list_joins at items join zero rest = refl
list_joins at items join (suc levels) rest =
    ap (items_deep levels) (append_assoc items (list_end ∷ []) rest) ∙ join levels (list_end ∷ rest)
    ∙ ap (λ (o : Option ℕ). first_of o (items_deep (suc levels) rest)) (sym (round_list items join levels))

map_joins : (at : ℕ) (items : List ValueItem) → Joins items → Joins (map_begin at ∷ (items ++ map_end ∷ []))
map_joins at items join zero rest = refl
map_joins at items join (suc levels) rest =
    ap (items_deep levels) (append_assoc items (map_end ∷ []) rest) ∙ join levels (map_end ∷ rest)
    ∙ ap (λ (o : Option ℕ). first_of o (items_deep (suc levels) rest)) (sym (round_map items join levels))

both_join : (v w : List ValueItem) → Joins v → Joins w → Joins (v ++ w)
both_join v w a b levels rest =
    ap (items_deep levels) (append_assoc v w rest) ∙ a levels (w ++ rest) ∙ ap (first_of (items_deep levels v)) (b levels rest)
    ∙ sym (first_both (items_deep levels v) (items_deep levels w) (items_deep levels rest))
    ∙ ap (λ (o : Option ℕ). first_of o (items_deep levels rest)) (sym (a levels w))

mutual
  value_joins : (v : List ValueItem) (tokens : List Seen) → DerivesValue v tokens → Joins v
  value_joins _ _ (DerivesValue.int s z e) = λ levels rest. refl
  value_joins _ _ (DerivesValue.number s e) = λ levels rest. refl
  value_joins _ _ (DerivesValue.text s e) = λ levels rest. refl
  value_joins _ _ (DerivesValue.name s e) = λ levels rest. refl
  value_joins _ _ (DerivesValue.listed s items inside closing e d c) = list_joins s.at items (values_join items inside d)
  value_joins _ _ (DerivesValue.mapped s items inside closing e d c) = map_joins s.at items (pairs_join items inside d)

  values_join : (vs : List ValueItem) (tokens : List Seen) → DerivesValues vs tokens → Joins vs
  values_join _ _ DerivesValues.no_value = λ levels rest. refl
  values_join _ _ (DerivesValues.one_value v vs value separator rest d s more) = both_join v vs (value_joins v value d) (values_join vs rest more)

  pairs_join : (vs : List ValueItem) (tokens : List Seen) → DerivesPairs vs tokens → Joins vs
  pairs_join _ _ DerivesPairs.no_pair = λ levels rest. refl
  pairs_join _ _ (DerivesPairs.one_pair k v vs key colon value separator rest dk c dv s more) =
      both_join (k ++ v) vs (both_join k v (value_joins k key dk) (value_joins v value dv)) (pairs_join vs rest more)

-- ---- relations

abbrev int_kinds : List Kind
int_kinds = int_kind ∷ []

abbrev double_kinds : List Kind
double_kinds = double_kind ∷ []

abbrev literal_kinds : List Kind
literal_kinds = literal_kind ∷ []

abbrev name_kinds : List Kind
name_kinds = name_kind ∷ []

abbrev square_kinds : List Kind
square_kinds = mark_kind 91 ∷ []

abbrev curly_kinds : List Kind
curly_kinds = mark_kind 123 ∷ []

abbrev pub value_kinds : List Kind
value_kinds = int_kind ∷ double_kind ∷ literal_kind ∷ name_kind ∷ mark_kind 91 ∷ mark_kind 123 ∷ []

abbrev element_barred : Kind → Bool
element_barred = both_barred true nothing_barred sep_barred

-- a value, and a separator where one stands
abbrev Element : List ValueItem → List Seen → Type 0
Element = Viewed (λ t. t.0) (Both DerivesValue IsSeparator)

abbrev Key : List ValueItem → List Seen → Type 0
Key = Viewed (λ t. t.0) (Both DerivesValue (IsLone (words.Mark 58)))

abbrev Pair : List ValueItem → List Seen → Type 0
Pair = Viewed (λ t. t.0 ++ t.1) (Both Key Element)

abbrev ListRest : List ValueItem × Unit {0} → List Seen → Type 0
ListRest = Both DerivesValues (IsLone (words.Mark 93))

abbrev MapRest : List ValueItem × Unit {0} → List Seen → Type 0
MapRest = Both DerivesPairs (IsLone (words.Mark 125))

abbrev int_in : Lexeme → ℤ
int_in (words.Int z) = z
int_in l = pos 0

abbrev int_view : Seen → List ValueItem
int_view s = whole s.at (int_in s.lexeme) ∷ []

abbrev double_view : Seen → List ValueItem
double_view s = double s.at s.word ∷ []

abbrev literal_view : Seen → List ValueItem
literal_view s = literal s.at s.word ∷ []

abbrev name_view : Seen → List ValueItem
name_view s = named s.at s.word ∷ []

abbrev list_view : Seen × (List ValueItem × Unit {0}) → List ValueItem
list_view t = list_begin t.0.at ∷ (t.1.0 ++ list_end ∷ [])

abbrev map_view : Seen × (List ValueItem × Unit {0}) → List ValueItem
map_view t = map_begin t.0.at ∷ (t.1.0 ++ map_end ∷ [])

abbrev IntForm : List ValueItem → List Seen → Type 0
IntForm = Viewed int_view (IsToken (is_of_kinds int_kinds))

abbrev DoubleForm : List ValueItem → List Seen → Type 0
DoubleForm = Viewed double_view (IsToken (is_of_kinds double_kinds))

abbrev LiteralForm : List ValueItem → List Seen → Type 0
LiteralForm = Viewed literal_view (IsToken (is_of_kinds literal_kinds))

abbrev NameForm : List ValueItem → List Seen → Type 0
NameForm = Viewed name_view (IsToken (is_of_kinds name_kinds))

abbrev ListForm : List ValueItem → List Seen → Type 0
ListForm = Viewed list_view (Both (IsToken (is_of_kinds square_kinds)) ListRest)

abbrev MapForm : List ValueItem → List Seen → Type 0
MapForm = Viewed map_view (Both (IsToken (is_of_kinds curly_kinds)) MapRest)

abbrev IsForm : List ValueItem → List Seen → Type 0
IsForm = Either IntForm (Either DoubleForm (Either LiteralForm (Either NameForm (Either ListForm (Either MapForm Never)))))

abbrev pub some_value : (v : List ValueItem) × (tokens : List Seen) × DerivesValue v tokens
some_value = (double 0 [] ∷ [], sample words.Double ∷ [], DerivesValue.number (sample words.Double) refl)

abbrev some_element : (v : List ValueItem) × (tokens : List Seen) × Element v tokens
some_element =
    let both = some_both DerivesValue IsSeparator some_value (tt, [], Separator.none) in
    (both.0.0, both.1, record { value = both.0; seen = refl; derives = both.2 })

abbrev some_list_rest : (t : List ValueItem × Unit {0}) × (tokens : List Seen) × ListRest t tokens
some_list_rest = some_both DerivesValues (IsLone (words.Mark 93)) ([], [], DerivesValues.no_value) (some_lone (words.Mark 93))

abbrev some_map_rest : (t : List ValueItem × Unit {0}) × (tokens : List Seen) × MapRest t tokens
some_map_rest = some_both DerivesPairs (IsLone (words.Mark 125)) ([], [], DerivesPairs.no_pair) (some_lone (words.Mark 125))

-- ---- lists of elements and of pairs

elements_to : (vs : List ValueItem) (tokens : List Seen) → Many Element vs tokens → DerivesValues vs tokens
elements_to _ _ (no_more vs tokens e none) = subst (λ (v : List ValueItem). DerivesValues v tokens) (sym e) (subst (DerivesValues []) (sym none) DerivesValues.no_value)
elements_to _ _ (one_more v vs all front back tokens d m e split) =
    let rest = elements_to vs back m in
    let b = d.derives in
    let whole : tokens ≡ b.front ++ b.back ++ back = split ∙ ap (λ (f : List Seen). f ++ back) b.joined in
    let is : all ≡ d.value.0 ++ vs = e ∙ ap (λ (u : List ValueItem). u ++ vs) d.seen in
    subst (λ (u : List ValueItem). DerivesValues u tokens) (sym is) (subst (DerivesValues (d.value.0 ++ vs)) (sym whole) (DerivesValues.one_value d.value.0 vs b.front b.back back b.left b.right rest))

elements_from : (vs : List ValueItem) (tokens : List Seen) → DerivesValues vs tokens → Many Element vs tokens
elements_from _ _ DerivesValues.no_value = no_more [] [] refl refl
elements_from _ _ (DerivesValues.one_value v vs value separator rest d s more) =
    one_more v vs (v ++ vs) (value ++ separator) rest (value ++ separator ++ rest)
    (record { value = (v, tt); seen = refl; derives = record { front = value; back = separator; left = d; right = s; joined = refl } }) (elements_from vs rest more) refl refl

pairs_to : (vs : List ValueItem) (tokens : List Seen) → Many Pair vs tokens → DerivesPairs vs tokens
pairs_to _ _ (no_more vs tokens e none) = subst (λ (v : List ValueItem). DerivesPairs v tokens) (sym e) (subst (DerivesPairs []) (sym none) DerivesPairs.no_pair)
pairs_to _ _ (one_more v vs all front back tokens d m e split) =
    let rest = pairs_to vs back m in
    let b = d.derives in
    let k = b.left.derives in
    let w = b.right.derives in
    let shape : ((k.front ++ k.back) ++ (w.front ++ w.back)) ++ back ≡ k.front ++ k.back ++ w.front ++ w.back ++ back = simp append_more in
    let whole : tokens ≡ k.front ++ k.back ++ w.front ++ w.back ++ back =
    split ∙ ap (λ (f : List Seen). f ++ back) (b.joined ∙ ap (λ (f : List Seen). f ++ b.back) k.joined ∙ ap (λ (f : List Seen). (k.front ++ k.back) ++ f) w.joined) ∙ shape in
    let is : all ≡ b.left.value.0 ++ b.right.value.0 ++ vs =
    e ∙ ap (λ (u : List ValueItem). u ++ vs) (d.seen ∙ ap (λ (u : List ValueItem). u ++ d.value.1) b.left.seen ∙ ap (λ (u : List ValueItem). b.left.value.0 ++ u) b.right.seen) in
    subst (λ (u : List ValueItem). DerivesPairs u tokens) (sym is)
    (subst (DerivesPairs (b.left.value.0 ++ b.right.value.0 ++ vs)) (sym whole)
    (DerivesPairs.one_pair b.left.value.0 b.right.value.0 vs k.front k.back w.front w.back back k.left k.right w.left w.right rest))

pairs_from : (vs : List ValueItem) (tokens : List Seen) → DerivesPairs vs tokens → Many Pair vs tokens
pairs_from _ _ DerivesPairs.no_pair = no_more [] [] refl refl
pairs_from _ _ (DerivesPairs.one_pair k v vs key colon value separator rest dk c dv s more) =
    let shape : key ++ colon ++ value ++ separator ++ rest ≡ ((key ++ colon) ++ (value ++ separator)) ++ rest = sym (simp append_more) in
    one_more (k ++ v) vs (k ++ v ++ vs) ((key ++ colon) ++ (value ++ separator)) rest (key ++ colon ++ value ++ separator ++ rest)
    (record {
      value = (k, v);
      seen = refl;
      derives = record {
        front = key ++ colon;
        back = value ++ separator;
        left = record { value = (k, tt); seen = refl; derives = record { front = key; back = colon; left = dk; right = c; joined = refl } };
        right = record { value = (v, tt); seen = refl; derives = record { front = value; back = separator; left = dv; right = s; joined = refl } };
        joined = refl;
      };
    }) (pairs_from vs rest more) refl shape

element_joins : (v : List ValueItem) (tokens : List Seen) → Element v tokens → Joins v
element_joins v tokens d = subst Joins (sym d.seen) (value_joins d.value.0 d.derives.front d.derives.left)

pair_joins : (v : List ValueItem) (tokens : List Seen) → Pair v tokens → Joins v
pair_joins v tokens d =
    let b = d.derives in
    subst Joins (sym d.seen) (both_join d.value.0 d.value.1 (subst Joins (sym b.left.seen) (value_joins b.left.value.0 b.left.derives.front b.left.derives.left)) (element_joins d.value.1 b.back b.right))

module _ (edge : ℕ) where
  -- for an inner value that is read so, with so many levels below it
  module _ (levels : ℕ) (inner : Inner) (r : Reads edge DerivesValue (items_deep levels) inner false value_kinds nothing_barred) where
    element_reads : Reads edge Element (items_deep levels) (element_of inner) false value_kinds element_barred
    unfolding element_of
    element_reads =
        as_reads edge (Both DerivesValue IsSeparator) Element (λ t. first_of (items_deep levels t.0) None) (items_deep levels) (step inner sep_at) (element_of inner) (λ t. t.0) false value_kinds element_barred
        (λ xs. chain2 inner sep_at (λ t. t.0) xs) (λ x tokens d. record { value = x; seen = refl; derives = d }) (λ z tokens v. v) (λ x tokens d. first_none (items_deep levels x.0))
        (step_reads edge DerivesValue IsSeparator (items_deep levels) shallow inner sep_at false true value_kinds separators nothing_barred sep_barred refl (tt, [], Separator.none) refl r (sep_reads edge))

    key_reads : Reads edge Key (items_deep levels) (key_at inner edge) false value_kinds nothing_barred
    unfolding key_at
    key_reads =
        as_reads edge (Both DerivesValue (IsLone (words.Mark 58))) Key (λ t. first_of (items_deep levels t.0) None) (items_deep levels) (step inner (mark_at 58 edge)) (key_at inner edge) (λ t. t.0) false value_kinds nothing_barred
        (λ xs. chain2 inner (mark_at 58 edge) (λ t. t.0) xs) (λ x tokens d. record { value = x; seen = refl; derives = d }) (λ z tokens v. v) (λ x tokens d. first_none (items_deep levels x.0))
        (step_reads edge DerivesValue (IsLone (words.Mark 58)) (items_deep levels) shallow inner (mark_at 58 edge) false false value_kinds (mark_kind 58 ∷ []) nothing_barred nothing_barred refl (some_lone (words.Mark 58)) refl r
        (mark_reads edge 58))

    key_joins : (v : List ValueItem) (tokens : List Seen) → Key v tokens → Joins v
    key_joins v tokens d = subst Joins (sym d.seen) (value_joins d.value.0 d.derives.front d.derives.left)

    pair_reads : Reads edge Pair (items_deep levels) (pair_of inner edge) false value_kinds element_barred
    unfolding pair_of
    pair_reads =
        as_reads edge (Both Key Element) Pair (λ t. first_of (items_deep levels t.0) (items_deep levels t.1)) (items_deep levels) (step (key_at inner edge) (element_of inner)) (pair_of inner edge) (λ t. t.0 ++ t.1) false value_kinds
        element_barred (λ xs. chain2 (key_at inner edge) (element_of inner) (λ t. t.0 ++ t.1) xs) (λ x tokens d. record { value = x; seen = refl; derives = d }) (λ z tokens v. v)
        (λ x tokens d. key_joins x.0 d.front d.left levels x.1)
        (step_reads edge Key Element (items_deep levels) (items_deep levels) (key_at inner edge) (element_of inner) false false value_kinds value_kinds nothing_barred element_barred refl some_element refl key_reads element_reads)

    abbrev elements : Part (List ValueItem)
    elements xs = run (not_closed 93) (element_of inner) edge xs 0

    elements_read : Reads edge DerivesValues (items_deep levels) elements true value_kinds (unclosed 93)
    elements_read =
        same_reads edge (Many Element) DerivesValues (items_deep levels) elements elements true value_kinds (unclosed 93) (λ xs. refl) elements_to elements_from
        (list_reads edge 93 (element_of inner) Element (items_deep levels) value_kinds element_barred refl refl refl refl (λ y ys tokens d. element_joins y tokens d levels ys) element_reads)

    pairs_read : Reads edge DerivesPairs (items_deep levels) (pairs_of inner edge) true value_kinds (unclosed 125)
    pairs_read =
        same_reads edge (Many Pair) DerivesPairs (items_deep levels) (λ xs. run (not_closed 125) (pair_of inner edge) edge xs 0) (pairs_of inner edge) true value_kinds (unclosed 125) (λ xs. refl) pairs_to pairs_from
        (list_reads edge 125 (pair_of inner edge) Pair (items_deep levels) value_kinds element_barred refl refl refl refl (λ y ys tokens d. pair_joins y tokens d levels ys) pair_reads)

    abbrev list_rest : Part (List ValueItem × Unit {0})
    list_rest = step elements (mark_at 93 edge)

    abbrev map_rest : Part (List ValueItem × Unit {0})
    map_rest = step (pairs_of inner edge) (mark_at 125 edge)

    abbrev rest_deep : List ValueItem × Unit {0} → Option ℕ
    rest_deep t = first_of (items_deep levels t.0) None

    list_rest_reads : Reads edge ListRest rest_deep list_rest false (value_kinds ++ mark_kind 93 ∷ []) nothing_barred
    list_rest_reads =
        step_reads edge DerivesValues (IsLone (words.Mark 93)) (items_deep levels) shallow elements (mark_at 93 edge) true false value_kinds (mark_kind 93 ∷ []) (unclosed 93) nothing_barred refl (some_lone (words.Mark 93)) refl
        elements_read (mark_reads edge 93)

    map_rest_reads : Reads edge MapRest rest_deep map_rest false (value_kinds ++ mark_kind 125 ∷ []) nothing_barred
    map_rest_reads =
        step_reads edge DerivesPairs (IsLone (words.Mark 125)) (items_deep levels) shallow (pairs_of inner edge) (mark_at 125 edge) true false value_kinds (mark_kind 125 ∷ []) (unclosed 125) nothing_barred refl
        (some_lone (words.Mark 125)) refl pairs_read (mark_reads edge 125)

    list_is : (s : Seen) (ss : List Seen) → among square_kinds (kind s.lexeme) ≡ true → list_of inner edge (s ∷ ss) ≡ moved 0 list_view (step (word edge square_kinds) list_rest (s ∷ ss))
    unfolding list_of
    list_is s ss e =
        goes_on 1 elements (mark_at 93 edge) (λ t. list_begin s.at ∷ (t.0 ++ list_end ∷ []))
        (λ items n. onward n (mark_at 93 edge (drop n (s ∷ ss))) λ u n. Ok (list_begin s.at ∷ (items ++ list_end ∷ []), n)) (s ∷ ss)
        (λ items m. last m (mark_at 93 edge (drop m (s ∷ ss))) (λ u. list_begin s.at ∷ (items ++ list_end ∷ [])))
        ∙ opened_is edge square_kinds list_rest list_view s ss e

    map_is : (s : Seen) (ss : List Seen) → among curly_kinds (kind s.lexeme) ≡ true → map_of inner edge (s ∷ ss) ≡ moved 0 map_view (step (word edge curly_kinds) map_rest (s ∷ ss))
    unfolding map_of
    map_is s ss e =
        goes_on 1 (pairs_of inner edge) (mark_at 125 edge) (λ t. map_begin s.at ∷ (t.0 ++ map_end ∷ []))
        (λ items n. onward n (mark_at 125 edge (drop n (s ∷ ss))) λ u n. Ok (map_begin s.at ∷ (items ++ map_end ∷ []), n)) (s ∷ ss)
        (λ items m. last m (mark_at 125 edge (drop m (s ∷ ss))) (λ u. map_begin s.at ∷ (items ++ map_end ∷ [])))
        ∙ opened_is edge curly_kinds map_rest map_view s ss e

    abbrev list_part : Part (List ValueItem)
    list_part xs = moved 0 list_view (step (word edge square_kinds) list_rest xs)

    abbrev map_part : Part (List ValueItem)
    map_part xs = moved 0 map_view (step (word edge curly_kinds) map_rest xs)

    list_part_reads : Reads edge ListForm (items_deep (suc levels)) list_part false square_kinds nothing_barred
    list_part_reads =
        view_reads edge (Both (IsToken (is_of_kinds square_kinds)) ListRest) (λ t. rest_deep t.1) (items_deep (suc levels)) (step (word edge square_kinds) list_rest) list_view false square_kinds nothing_barred
        (λ x tokens d. round_list x.1.0 (values_join x.1.0 d.right.front d.right.left) levels ∙ first_none (items_deep levels x.1.0))
        (step_reads edge (IsToken (is_of_kinds square_kinds)) ListRest shallow rest_deep (word edge square_kinds) list_rest false false square_kinds (value_kinds ++ mark_kind 93 ∷ []) nothing_barred nothing_barred refl
        some_list_rest refl (word_reads edge square_kinds) list_rest_reads)

    map_part_reads : Reads edge MapForm (items_deep (suc levels)) map_part false curly_kinds nothing_barred
    map_part_reads =
        view_reads edge (Both (IsToken (is_of_kinds curly_kinds)) MapRest) (λ t. rest_deep t.1) (items_deep (suc levels)) (step (word edge curly_kinds) map_rest) map_view false curly_kinds nothing_barred
        (λ x tokens d. round_map x.1.0 (pairs_join x.1.0 d.right.front d.right.left) levels ∙ first_none (items_deep levels x.1.0))
        (step_reads edge (IsToken (is_of_kinds curly_kinds)) MapRest shallow rest_deep (word edge curly_kinds) map_rest false false curly_kinds (value_kinds ++ mark_kind 125 ∷ []) nothing_barred nothing_barred refl
        some_map_rest refl (word_reads edge curly_kinds) map_rest_reads)

  -- ---- forms

  abbrev int_part : Part (List ValueItem)
  int_part xs = moved 0 int_view (word edge int_kinds xs)

  abbrev double_part : Part (List ValueItem)
  double_part xs = moved 0 double_view (word edge double_kinds xs)

  abbrev literal_part : Part (List ValueItem)
  literal_part xs = moved 0 literal_view (word edge literal_kinds xs)

  abbrev name_part : Part (List ValueItem)
  name_part xs = moved 0 name_view (word edge name_kinds xs)

  abbrev fault_part : Part (List ValueItem)
  fault_part xs = Err (faults.Syntax (offset_of edge xs))

  module _ (l m : Part (List ValueItem)) where
    abbrev form_part : Part (List ValueItem)
    form_part = choice int_kinds int_part (choice double_kinds double_part (choice literal_kinds literal_part (choice name_kinds name_part (choice square_kinds l (choice curly_kinds m fault_part)))))

    mark_by : (xs : List Seen) (a b : Bool) (x y : Scan (List ValueItem)) → (a ≡ true → x ≡ l xs) → (b ≡ true → y ≡ m xs) →
        chosen_if a x (chosen_if b y (fault_part xs)) ≡ chosen a (l xs) (chosen b (m xs) (fault_part xs))
    mark_by xs true b x y el em = el refl
    mark_by xs false true x y el em = em refl
    mark_by xs false false x y el em = refl

    form_is : (levels : ℕ) (inner : Inner) →
        ((t : Seen) (ss : List Seen) → among square_kinds (kind t.lexeme) ≡ true → opened levels (list_of inner edge (t ∷ ss)) edge (t ∷ ss) ≡ l (t ∷ ss)) →
        ((t : Seen) (ss : List Seen) → among curly_kinds (kind t.lexeme) ≡ true → opened levels (map_of inner edge (t ∷ ss)) edge (t ∷ ss) ≡ m (t ∷ ss)) →
        (xs : List Seen) → value_by levels inner (lexeme_of xs) edge xs ≡ form_part xs
    form_is levels inner el em [] = refl
    form_is levels inner el em (t ∷ ss) = by t.at t.lexeme t.word
      where
        by : (at : ℕ) (lexeme : Lexeme) (w : List ℕ) → value_by levels inner lexeme edge (record { at = at; lexeme = lexeme; word = w } ∷ ss) ≡ form_part (record { at = at; lexeme = lexeme; word = w } ∷ ss)
        by at (words.Int z) w = refl
        by at words.Double w = refl
        by at words.Literal w = refl
        by at words.Word w = refl
        by at (words.Mark mark) w =
            let here : Seen = record { at = at; lexeme = words.Mark mark; word = w } in
            mark_by (here ∷ ss) (mark == 91) (mark == 123) (opened levels (list_of inner edge (here ∷ ss)) edge (here ∷ ss)) (opened levels (map_of inner edge (here ∷ ss)) edge (here ∷ ss)) (el here ss) (em here ss)
        by at lexeme w = refl

    form_reads : (levels : ℕ) → Reads edge ListForm (items_deep levels) l false square_kinds nothing_barred → Reads edge MapForm (items_deep levels) m false curly_kinds nothing_barred →
        Reads edge IsForm (items_deep levels) form_part false value_kinds nothing_barred
    form_reads levels rl rm =
        choice_reads edge IntForm (Either DoubleForm (Either LiteralForm (Either NameForm (Either ListForm (Either MapForm Never))))) (items_deep levels) int_part
        (choice double_kinds double_part (choice literal_kinds literal_part (choice name_kinds name_part (choice square_kinds l (choice curly_kinds m fault_part))))) false int_kinds
        (double_kind ∷ literal_kind ∷ name_kind ∷ mark_kind 91 ∷ mark_kind 123 ∷ []) nothing_barred nothing_barred refl
        (view_reads edge (IsToken (is_of_kinds int_kinds)) shallow (items_deep levels) (word edge int_kinds) int_view false int_kinds nothing_barred (λ x tokens d. refl) (word_reads edge int_kinds))
        (choice_reads edge DoubleForm (Either LiteralForm (Either NameForm (Either ListForm (Either MapForm Never)))) (items_deep levels) double_part
        (choice literal_kinds literal_part (choice name_kinds name_part (choice square_kinds l (choice curly_kinds m fault_part)))) false double_kinds
        (literal_kind ∷ name_kind ∷ mark_kind 91 ∷ mark_kind 123 ∷ []) nothing_barred nothing_barred refl
        (view_reads edge (IsToken (is_of_kinds double_kinds)) shallow (items_deep levels) (word edge double_kinds) double_view false double_kinds nothing_barred (λ x tokens d. refl) (word_reads edge double_kinds))
        (choice_reads edge LiteralForm (Either NameForm (Either ListForm (Either MapForm Never))) (items_deep levels) literal_part
        (choice name_kinds name_part (choice square_kinds l (choice curly_kinds m fault_part))) false literal_kinds (name_kind ∷ mark_kind 91 ∷ mark_kind 123 ∷ []) nothing_barred nothing_barred refl
        (view_reads edge (IsToken (is_of_kinds literal_kinds)) shallow (items_deep levels) (word edge literal_kinds) literal_view false literal_kinds nothing_barred (λ x tokens d. refl) (word_reads edge literal_kinds))
        (choice_reads edge NameForm (Either ListForm (Either MapForm Never)) (items_deep levels) name_part (choice square_kinds l (choice curly_kinds m fault_part)) false name_kinds
        (mark_kind 91 ∷ mark_kind 123 ∷ []) nothing_barred nothing_barred refl
        (view_reads edge (IsToken (is_of_kinds name_kinds)) shallow (items_deep levels) (word edge name_kinds) name_view false name_kinds nothing_barred (λ x tokens d. refl) (word_reads edge name_kinds))
        (choice_reads edge ListForm (Either MapForm Never) (items_deep levels) l (choice curly_kinds m fault_part) false square_kinds (mark_kind 123 ∷ []) nothing_barred nothing_barred refl rl
        (choice_reads edge MapForm Never (items_deep levels) m fault_part false curly_kinds [] nothing_barred nothing_barred refl rm (fails edge (items_deep levels)))))))

  value_at_by : (v w : List ValueItem) (ts us : List Seen) → v ≡ w → ts ≡ us → DerivesValue w us → DerivesValue v ts
  value_at_by v w ts us e f d = subst (λ (z : List ValueItem). DerivesValue z ts) (sym e) (subst (DerivesValue w) (sym f) d)

  value_to : (v : List ValueItem) (tokens : List Seen) → IsForm v tokens → DerivesValue v tokens
  value_to v tokens (inl x) =
      let z = int_is x.value.lexeme x.derives.0 in
      value_at_by v (whole x.value.at z.0 ∷ []) tokens (x.value ∷ []) (x.seen ∙ ap (λ (l : Lexeme). whole x.value.at (int_in l) ∷ []) z.1) x.derives.1 (DerivesValue.int x.value z.0 z.1)
  value_to v tokens (inr (inl x)) = value_at_by v (double_view x.value) tokens (x.value ∷ []) x.seen x.derives.1 (DerivesValue.number x.value (double_is x.value.lexeme x.derives.0))
  value_to v tokens (inr (inr (inl x))) = value_at_by v (literal_view x.value) tokens (x.value ∷ []) x.seen x.derives.1 (DerivesValue.text x.value (literal_is x.value.lexeme x.derives.0))
  value_to v tokens (inr (inr (inr (inl x)))) = value_at_by v (name_view x.value) tokens (x.value ∷ []) x.seen x.derives.1 (DerivesValue.name x.value (name_is x.value.lexeme x.derives.0))
  value_to v tokens (inr (inr (inr (inr (inl x))))) =
      let o = opens_by (words.Mark 91) ListRest x.value tokens (mark_is 91) x.derives in
      value_at_by v (list_view x.value) tokens (x.value.0 ∷ (o.right.front ++ o.right.back)) x.seen (o.joined ∙ ap (λ (f : List Seen). x.value.0 ∷ f) o.right.joined)
      (DerivesValue.listed x.value.0 x.value.1.0 o.right.front o.right.back o.says o.right.left o.right.right)
  value_to v tokens (inr (inr (inr (inr (inr (inl x)))))) =
      let o = opens_by (words.Mark 123) MapRest x.value tokens (mark_is 123) x.derives in
      value_at_by v (map_view x.value) tokens (x.value.0 ∷ (o.right.front ++ o.right.back)) x.seen (o.joined ∙ ap (λ (f : List Seen). x.value.0 ∷ f) o.right.joined)
      (DerivesValue.mapped x.value.0 x.value.1.0 o.right.front o.right.back o.says o.right.left o.right.right)
  value_to v tokens (inr (inr (inr (inr (inr (inr d)))))) = absurd d

  value_from : (v : List ValueItem) (tokens : List Seen) → DerivesValue v tokens → IsForm v tokens
  value_from _ _ (DerivesValue.int s z e) = inl (record { value = s; seen = sym (ap (λ (l : Lexeme). whole s.at (int_in l) ∷ []) e); derives = (ap (λ (l : Lexeme). among int_kinds (kind l)) e, refl) })
  value_from _ _ (DerivesValue.number s e) = inr (inl (record { value = s; seen = refl; derives = (ap (λ (l : Lexeme). among double_kinds (kind l)) e, refl) }))
  value_from _ _ (DerivesValue.text s e) = inr (inr (inl (record { value = s; seen = refl; derives = (ap (λ (l : Lexeme). among literal_kinds (kind l)) e, refl) })))
  value_from _ _ (DerivesValue.name s e) = inr (inr (inr (inl (record { value = s; seen = refl; derives = (ap (λ (l : Lexeme). among name_kinds (kind l)) e, refl) }))))
  value_from _ _ (DerivesValue.listed s items inside closing e d c) = inr (inr (inr (inr (inl (record {
    value = (s, (items, tt));
    seen = refl;
    derives = both_by (words.Mark 91) ListRest s (items, tt) (s ∷ []) (inside ++ closing) refl e refl (record { front = inside; back = closing; left = d; right = c; joined = refl });
  })))))
  value_from _ _ (DerivesValue.mapped s items inside closing e d c) = inr (inr (inr (inr (inr (inl (record {
    value = (s, (items, tt));
    seen = refl;
    derives = both_by (words.Mark 123) MapRest s (items, tt) (s ∷ []) (inside ++ closing) refl e refl (record { front = inside; back = closing; left = d; right = c; joined = refl });
  }))))))

  -- ---- with no level left, and with some

  nested_there : (ks : List Kind) (t : Seen) → among ks (kind t.lexeme) ≡ true → (let r : Scan (List ValueItem) = Err (faults.Nested t.at) in r) ≡ nested_by (among ks (kind t.lexeme)) t.at
  nested_there ks t e = sym (ap (λ (b : Bool). let r : Scan (List ValueItem) = nested_by b t.at in r) e)

  none_left : Reads edge DerivesValue (items_deep 0) (value_at 0 edge) false value_kinds nothing_barred
  unfolding value_at
  none_left =
      same_reads edge IsForm DerivesValue (items_deep 0) (form_part (too_deep edge square_kinds) (too_deep edge curly_kinds)) (value_at 0 edge) false value_kinds nothing_barred
      (form_is (too_deep edge square_kinds) (too_deep edge curly_kinds) 0 fault_part (λ t ss e. nested_there square_kinds t e) (λ t ss e. nested_there curly_kinds t e)) value_to value_from
      (form_reads (too_deep edge square_kinds) (too_deep edge curly_kinds) 0
      (nests edge ListForm (items_deep 0) square_kinds nothing_barred refl (view_starts edge square_kinds list_view ListRest)
      (λ x front rest v. ap (items_deep 0) v.seen ∙ ap (λ (n : ℕ). Some n) (view_offset edge square_kinds list_view ListRest x front rest v))
      (opens_some edge square_kinds list_view ListRest (items_deep 0) some_list_rest))
      (nests edge MapForm (items_deep 0) curly_kinds nothing_barred refl (view_starts edge curly_kinds map_view MapRest)
      (λ x front rest v. ap (items_deep 0) v.seen ∙ ap (λ (n : ℕ). Some n) (view_offset edge curly_kinds map_view MapRest x front rest v))
      (opens_some edge curly_kinds map_view MapRest (items_deep 0) some_map_rest)))

  opened_some : (levels : ℕ) (scan : Scan (List ValueItem)) (tokens : List Seen) → opened (suc levels) scan edge tokens ≡ scan
  opened_some levels scan tokens = grind (arith, nat_tests)

  some_left : (levels : ℕ) → Reads edge DerivesValue (items_deep levels) (value_at levels edge) false value_kinds nothing_barred →
      Reads edge DerivesValue (items_deep (suc levels)) (value_at (suc levels) edge) false value_kinds nothing_barred
  unfolding value_at
  some_left levels r =
      let inner : Inner = value_at levels edge in
      same_reads edge IsForm DerivesValue (items_deep (suc levels)) (form_part (list_part levels inner r) (map_part levels inner r)) (value_at (suc levels) edge) false value_kinds nothing_barred
      (form_is (list_part levels inner r) (map_part levels inner r) (suc levels) inner
      (λ t ss e. opened_some levels (list_of inner edge (t ∷ ss)) (t ∷ ss) ∙ list_is levels inner r t ss e)
      (λ t ss e. opened_some levels (map_of inner edge (t ∷ ss)) (t ∷ ss) ∙ map_is levels inner r t ss e)) value_to value_from
      (form_reads (list_part levels inner r) (map_part levels inner r) (suc levels) (list_part_reads levels inner r) (map_part_reads levels inner r))

  pub value_reads : (levels : ℕ) → Reads edge DerivesValue (items_deep levels) (value_at levels edge) false value_kinds nothing_barred
  value_reads zero = none_left
  value_reads (suc levels) = some_left levels (value_reads levels)
