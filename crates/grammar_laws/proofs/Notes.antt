-- Separators, notes and other parts that have no meaning.
use Rattle.std.proofs.Common.{◌≡◌, ◌∙◌, ap, sym, subst, refl, ℕ, suc, ◌+◌, List, [], ◌∷◌, ◌++◌, drop, Bool, true, false, ◌==◌, ◌||◌, not, if◌then◌else◌, Option, None, Ok, Err, ◌⊎◌, inl, inr, arith}
use Rattle.grammar_laws.proofs.Lexicon.{Lexeme}
use Rattle.grammar_laws.proofs.Lexicon as words
use Rattle.grammar_laws.proofs.Lexicon.{Keyword}
use Rattle.idl_parser.specs.Cpp.{cpp_at, equal_at, id_at, literal_at}
use Rattle.idl_parser.specs.Grammar.{Cpp, Equals, Is, NoteList, Notes, Separator}
use Rattle.idl_parser.specs.Lexemes.{Scan, lexeme_of, mark_at, onward, sep_len, stands, stands_by}
use Rattle.idl_parser.specs.Notes.{note_at, notes_at, not_closed, nothing, one_note}
use Rattle.idl_parser.specs.Run.{run}
use Rattle.idl_parser.specs.Seen.{Seen}
use Rattle.grammar_laws.specs.Depth.{first_of}
use Rattle.grammar_laws.proofs.Chains.{chain3, goes_on, last}
use Rattle.grammar_laws.proofs.Choices.{Either, choice, choice_reads, chosen, either_barred}
use Rattle.grammar_laws.proofs.TokenKinds.{Kind, among, both_barred, free, free_is, free_nothing, is_kind, kind, kind_is, literal_kind, mark_kind, name_kind, nothing_barred, word_kind}
use Rattle.grammar_laws.proofs.Lists.{Same, append_more, same_lexeme}
use Rattle.grammar_laws.proofs.Many.{Many, many_reads, no_more, one_more}
use Rattle.grammar_laws.proofs.Reading.{IsNone, IsToken, Part, Reads, Viewed, as_reads, moved, none_reads, ok_same, same_reads, shallow, view_reads}
use Rattle.grammar_laws.proofs.Singles.{IsLone, id_reads, is_of, is_of_kinds, is_one, keyword_is, literal_reads, mark_is, mark_reads, means_name, name_means, opened_is, some_lone, stands_kind, unit_is, word, word_reads}
use Rattle.grammar_laws.proofs.Steps.{Both, step, step_reads}

-- what a list up to a closing mark bars
abbrev pub unclosed : ℕ → Kind → Bool
unclosed c k = not (is_kind (mark_kind c) k)

pub unclosed_same : (c n : ℕ) (xs ys : List Seen) → Same (suc n) xs ys → not_closed c xs ≡ not_closed c ys
unfolding stands
unclosed_same c n xs ys alike = ap (λ (l : Lexeme). not (stands_by c l)) (same_lexeme n xs ys alike)

pub unclosed_is : (c : ℕ) (xs : List Seen) → unclosed c (kind (lexeme_of xs)) ≡ false → not_closed c xs ≡ false
unfolding stands
unclosed_is c xs e = ap not (stands_kind 0 c (lexeme_of xs)) ∙ e

pub unclosed_goes : (c : ℕ) (s : Seen) (rest : List Seen) → unclosed c (kind s.lexeme) ≡ true → not_closed c (s ∷ rest) ≡ true
unfolding stands
unclosed_goes c s rest e = ap not (stands_kind 0 c s.lexeme) ∙ e

-- ---- separators

abbrev pub separators : List Kind
separators = mark_kind 44 ∷ mark_kind 59 ∷ []

abbrev pub sep_barred : Kind → Bool
sep_barred = either_barred true separators nothing_barred nothing_barred

abbrev pub sep_at : Part (Unit {0})
sep_at xs = Ok (tt, sep_len xs)

abbrev pub IsSeparator : Unit {0} → List Seen → Type 0
IsSeparator u tokens = Separator tokens

module _ (edge : ℕ) where
  abbrev sep_given : Part (Unit {0})
  sep_given xs = moved 0 (λ s. tt) (word edge separators xs)

  abbrev sep_none : Part (Unit {0})
  sep_none xs = Ok (tt, 0)

  abbrev sep_by : Bool → Bool → Scan (Unit {0})
  sep_by a b = Ok (tt, if a then 1 else if b then 1 else 0)

  sep_mark : (at m : ℕ) (w : List ℕ) (a b : Bool) → (m == 44) ≡ a → (m == 59) ≡ b → (ss : List Seen) →
      sep_at (record { at = at; lexeme = words.Mark m; word = w } ∷ ss) ≡ choice separators sep_given sep_none (record { at = at; lexeme = words.Mark m; word = w } ∷ ss)
  unfolding sep_len stands
  sep_mark at m w true b e f ss = rw e refl
  sep_mark at m w false true e f ss = rw (e, f) refl
  sep_mark at m w false false e f ss = rw (e, f) refl

  sep_by_form : (at : ℕ) (l : Lexeme) (w : List ℕ) (ss : List Seen) →
      sep_at (record { at = at; lexeme = l; word = w } ∷ ss) ≡ choice separators sep_given sep_none (record { at = at; lexeme = l; word = w } ∷ ss)
  unfolding sep_len stands
  sep_by_form at (words.Mark m) w ss = sep_mark at m w (m == 44) (m == 59) refl refl ss
  sep_by_form at l w ss = refl

  sep_same : (xs : List Seen) → sep_at xs ≡ choice separators sep_given sep_none xs
  unfolding sep_len stands
  sep_same [] = refl
  sep_same (s ∷ ss) = sep_by_form s.at s.lexeme s.word ss

  separator_of : (l : Lexeme) → among separators (kind l) ≡ true → (l ≡ words.Mark 44) ⊎ (l ≡ words.Mark 59)
  separator_of l e = by (is_kind (mark_kind 44) (kind l)) refl e
    where
      by : (b : Bool) → is_kind (mark_kind 44) (kind l) ≡ b → (b || is_kind (mark_kind 59) (kind l)) ≡ true → (l ≡ words.Mark 44) ⊎ (l ≡ words.Mark 59)
      by true f g = inl (mark_is 44 l f)
      by false f g = inr (mark_is 59 l g)

  separated : (s : Seen) (tokens : List Seen) → (s.lexeme ≡ words.Mark 44) ⊎ (s.lexeme ≡ words.Mark 59) → tokens ≡ s ∷ [] → Separator tokens
  separated s tokens (inl e) f = Separator.comma tokens (is_of (words.Mark 44) s tokens e f)
  separated s tokens (inr e) f = Separator.semicolon tokens (is_of (words.Mark 59) s tokens e f)

  sep_to : (u : Unit {0}) (tokens : List Seen) → Either (Viewed (λ s. tt) (IsToken (is_of_kinds separators))) (IsNone tt) u tokens → IsSeparator u tokens
  sep_to u tokens (inl v) = separated v.value tokens (separator_of v.value.lexeme v.derives.0) v.derives.1
  sep_to u tokens (inr d) = subst Separator (sym d.1) Separator.none

  sep_from : (u : Unit {0}) (tokens : List Seen) → IsSeparator u tokens → Either (Viewed (λ s. tt) (IsToken (is_of_kinds separators))) (IsNone tt) u tokens
  sep_from u _ Separator.none = inr (unit_is u, refl)
  sep_from u _ (Separator.comma tokens d) = let o = is_one (words.Mark 44) tokens d in inl (record { value = o.seen; seen = unit_is u; derives = (ap (λ (k : Lexeme). among separators (kind k)) o.says, o.whole) })
  sep_from u _ (Separator.semicolon tokens d) = let o = is_one (words.Mark 59) tokens d in inl (record { value = o.seen; seen = unit_is u; derives = (ap (λ (k : Lexeme). among separators (kind k)) o.says, o.whole) })

  pub sep_reads : Reads edge IsSeparator shallow sep_at true separators sep_barred
  sep_reads =
      same_reads edge (Either (Viewed (λ s. tt) (IsToken (is_of_kinds separators))) (IsNone tt)) IsSeparator shallow (choice separators sep_given sep_none) sep_at true separators sep_barred sep_same sep_to sep_from
      (choice_reads edge (Viewed (λ s. tt) (IsToken (is_of_kinds separators))) (IsNone tt) shallow sep_given sep_none true separators [] nothing_barred nothing_barred refl
      (view_reads edge (IsToken (is_of_kinds separators)) shallow shallow (word edge separators) (λ s. tt) false separators nothing_barred (λ x tokens d. refl) (word_reads edge separators))
      (none_reads edge tt shallow refl))

  -- ---- what opens with a word or a mark and may be missing

  -- the rest behind a first token of this kind, or nothing
  module _ {Y Z : Type 0} (l : Lexeme) (rest : Part Y) (g : Seen × Y → Z) (z : Z) where
    abbrev pub given_part : Part Z
    given_part xs = moved 0 g (step (word edge (kind l ∷ [])) rest xs)

    abbrev pub no_part : Part Z
    no_part xs = Ok (z, 0)

    abbrev pub may_part : Part Z
    may_part = choice (kind l ∷ []) given_part no_part

    abbrev pub MayGiven : (Y → List Seen → Type 0) → Z → List Seen → Type 0
    MayGiven E = Either (Viewed g (Both (IsToken (is_of_kinds (kind l ∷ []))) E)) (IsNone z)

    pub may_reads : (E : Y → List Seen → Type 0) (dy : Y → Option ℕ) (dz : Z → Option ℕ) (null : Bool) (firsts : List Kind) (bar : Kind → Bool) → (some : (y : Y) × (tokens : List Seen) × E y tokens) → dy some.0 ≡ None →
        dz z ≡ None → ((t : Seen × Y) (tokens : List Seen) → Both (IsToken (is_of_kinds (kind l ∷ []))) E t tokens → dz (g t) ≡ dy t.1) → Reads edge E dy rest null firsts bar →
        Reads edge (MayGiven E) dz may_part true (kind l ∷ []) (either_barred true (kind l ∷ []) (both_barred null nothing_barred bar) nothing_barred)
    may_reads E dy dz null firsts bar some flat none deep r =
        choice_reads edge (Viewed g (Both (IsToken (is_of_kinds (kind l ∷ []))) E)) (IsNone z) dz given_part no_part true (kind l ∷ []) [] (both_barred null nothing_barred bar) nothing_barred refl
        (view_reads edge (Both (IsToken (is_of_kinds (kind l ∷ []))) E) (λ t. first_of None (dy t.1)) dz (step (word edge (kind l ∷ [])) rest) g false (kind l ∷ []) (both_barred null nothing_barred bar) deep
        (step_reads edge (IsToken (is_of_kinds (kind l ∷ []))) E shallow dy (word edge (kind l ∷ [])) rest false null (kind l ∷ []) firsts nothing_barred bar (free_nothing firsts) some flat
        (word_reads edge (kind l ∷ [])) r))
        (none_reads edge z dz none)

abbrev pub chosen_if : {X : Type 0} → Bool → Scan X → Scan X → Scan X
chosen_if b x y = if b then x else y

pub if_chosen : {X : Type 0} (b c : Bool) (x y z : Scan X) → b ≡ c → (c ≡ true → x ≡ y) → chosen_if b x z ≡ chosen c y z
if_chosen true true x y z e f = f refl
if_chosen true false x y z e f = absurd (cc)
if_chosen false true x y z e f = absurd (cc)
if_chosen false false x y z e f = refl

-- it begins with this lexeme
pub record Opens {Y : Type 0} (l : Lexeme) (E : Y → List Seen → Type 0) (s : Seen) (y : Y) (tokens : List Seen) : Type 0 where
  pub back : List Seen
  pub says : s.lexeme ≡ l
  pub opens : Is l (s ∷ [])
  pub right : E y back
  pub joined : tokens ≡ (s ∷ []) ++ back

pub opens_by : {Y : Type 0} (l : Lexeme) (E : Y → List Seen → Type 0) (t : Seen × Y) (tokens : List Seen) → ((k : Lexeme) → is_kind (kind l) (kind k) ≡ true → k ≡ l) →
    Both (IsToken (is_of_kinds (kind l ∷ []))) E t tokens → Opens l E t.0 t.1 tokens
opens_by l E t tokens only b = record {
  back = b.back;
  says = only t.0.lexeme b.left.0;
  opens = is_of l t.0 (t.0 ∷ []) (only t.0.lexeme b.left.0) refl;
  right = b.right;
  joined = b.joined ∙ ap (λ (u : List Seen). u ++ b.back) b.left.1;
}

pub both_by : {Y : Type 0} (l : Lexeme) (E : Y → List Seen → Type 0) (s : Seen) (y : Y) (front back : List Seen) → is_kind (kind l) (kind l) ≡ true → s.lexeme ≡ l → front ≡ s ∷ [] → E y back →
    Both (IsToken (is_of_kinds (kind l ∷ []))) E (s, y) (front ++ back)
both_by l E s y front back itself says is e = record { front = front; back = back; left = (ap (λ (k : Lexeme). is_kind (kind l) (kind k)) says ∙ itself, is); right = e; joined = refl }

pub both_at : {Y : Type 0} (l : Lexeme) (E : Y → List Seen → Type 0) (t : Seen × Y) {ts us : List Seen} → ts ≡ us → Both (IsToken (is_of_kinds (kind l ∷ []))) E t us → Both (IsToken (is_of_kinds (kind l ∷ []))) E t ts
both_at l E t e b = record { front = b.front; back = b.back; left = b.left; right = b.right; joined = e ∙ b.joined }

-- ---- a list up to a closing mark

pub closes_not : (c : ℕ) (firsts : List Kind) → free firsts (is_kind (mark_kind c)) ≡ true → (s : Seen) (rest : List Seen) → among firsts (kind s.lexeme) ≡ true → not_closed c (s ∷ rest) ≡ true
closes_not c firsts apart s rest e = unclosed_goes c s rest (ap not (free_is firsts (is_kind (mark_kind c)) (kind s.lexeme) apart e))

not_false : (b : Bool) → not b ≡ false → b ≡ true
not_false true e = refl
not_false false e = absurd (cc)

pub list_reads : {Y : Type 0} (edge c : ℕ) (one : Part (List Y)) (D : List Y → List Seen → Type 0) (deep : List Y → Option ℕ) (firsts : List Kind) (bar : Kind → Bool) →
    free firsts (is_kind (mark_kind c)) ≡ true → free firsts bar ≡ true → bar (mark_kind c) ≡ false → deep [] ≡ None →
    ((y ys : List Y) (tokens : List Seen) → D y tokens → deep (y ++ ys) ≡ first_of (deep y) (deep ys)) → Reads edge D deep one false firsts bar →
    Reads edge (Many D) deep (λ xs. run (not_closed c) one edge xs 0) true firsts (unclosed c)
list_reads edge c one D deep firsts bar closes apart closing none both r =
    many_reads edge (not_closed c) one D deep firsts bar r (closes_not c firsts closes) (unclosed_same c) none both (unclosed c) apart
    (λ rest e. (unclosed_is c rest e, ap bar (sym (kind_is (mark_kind c) (kind (lexeme_of rest)) (not_false (is_kind (mark_kind c) (kind (lexeme_of rest))) e))) ∙ closing))

-- ---- `cpp_type` and a literal, `=` and a literal

abbrev pub IsCpp : Unit {0} → List Seen → Type 0
IsCpp u tokens = Cpp tokens

abbrev pub IsEquals : Unit {0} → List Seen → Type 0
IsEquals u tokens = Equals tokens

abbrev pub cpp_lexeme : Lexeme
cpp_lexeme = words.Reserved words.CppType

abbrev pub cpp_kinds : List Kind
cpp_kinds = word_kind words.CppType ∷ []

abbrev pub plain_bar : List Kind → Kind → Bool
plain_bar ks = either_barred true ks nothing_barred nothing_barred

abbrev pub equals_kinds : List Kind
equals_kinds = mark_kind 61 ∷ []

abbrev some_literal : (y : Unit {0}) × (tokens : List Seen) × IsLone words.Literal y tokens
some_literal = some_lone words.Literal

module _ (edge : ℕ) where
  cpp_by_form : (at : ℕ) (l : Lexeme) (w : List ℕ) (ss : List Seen) →
      cpp_at edge (record { at = at; lexeme = l; word = w } ∷ ss) ≡ may_part edge cpp_lexeme (literal_at edge) (λ t. tt) tt (record { at = at; lexeme = l; word = w } ∷ ss)
  unfolding cpp_at
  cpp_by_form at (words.Reserved words.CppType) w ss =
      last 1 (literal_at edge ss) (λ u. tt) ∙ opened_is edge cpp_kinds (literal_at edge) (λ t. tt) (record { at = at; lexeme = words.Reserved words.CppType; word = w }) ss refl
  cpp_by_form at l w ss = refl

  cpp_same : (xs : List Seen) → cpp_at edge xs ≡ may_part edge cpp_lexeme (literal_at edge) (λ t. tt) tt xs
  unfolding cpp_at
  cpp_same [] = refl
  cpp_same (s ∷ ss) = cpp_by_form s.at s.lexeme s.word ss

  cpp_to : (u : Unit {0}) (tokens : List Seen) → MayGiven edge cpp_lexeme (literal_at edge) (λ t. tt) tt (IsLone words.Literal) u tokens → IsCpp u tokens
  cpp_to u tokens (inl v) =
      let o = opens_by cpp_lexeme (IsLone words.Literal) v.value tokens (λ k. keyword_is words.CppType k refl) v.derives in
      subst Cpp (sym o.joined) (Cpp.given (v.value.0 ∷ []) o.back o.opens o.right)
  cpp_to u tokens (inr d) = subst Cpp (sym d.1) Cpp.missing

  cpp_from : (u : Unit {0}) (tokens : List Seen) → IsCpp u tokens → MayGiven edge cpp_lexeme (literal_at edge) (λ t. tt) tt (IsLone words.Literal) u tokens
  cpp_from u _ Cpp.missing = inr (unit_is u, refl)
  cpp_from u _ (Cpp.given word text w t) =
      let o = is_one cpp_lexeme word w in
      inl (record { value = (o.seen, tt); seen = unit_is u; derives = both_by cpp_lexeme (IsLone words.Literal) o.seen tt word text refl o.says o.whole t })

  pub cpp_reads : Reads edge IsCpp shallow (cpp_at edge) true cpp_kinds (plain_bar cpp_kinds)
  cpp_reads =
      same_reads edge (MayGiven edge cpp_lexeme (literal_at edge) (λ t. tt) tt (IsLone words.Literal)) IsCpp shallow (may_part edge cpp_lexeme (literal_at edge) (λ t. tt) tt) (cpp_at edge) true cpp_kinds (plain_bar cpp_kinds)
      cpp_same cpp_to cpp_from
      (may_reads edge cpp_lexeme (literal_at edge) (λ t. tt) tt (IsLone words.Literal) shallow shallow false (literal_kind ∷ []) nothing_barred some_literal refl refl (λ t tokens d. refl) (literal_reads edge))

  equal_same : (xs : List Seen) → equal_at edge xs ≡ may_part edge (words.Mark 61) (literal_at edge) (λ t. tt) tt xs
  unfolding equal_at stands
  equal_same [] = refl
  equal_same (s ∷ ss) =
      if_chosen (stands_by 61 s.lexeme) (is_kind (mark_kind 61) (kind s.lexeme)) (onward 1 (literal_at edge ss) λ u n. Ok (tt, n)) (moved 0 (λ t. tt) (step (word edge equals_kinds) (literal_at edge) (s ∷ ss)))
      (Ok (tt, 0)) (stands_kind edge 61 s.lexeme) (λ e. last 1 (literal_at edge ss) (λ u. tt) ∙ opened_is edge equals_kinds (literal_at edge) (λ t. tt) s ss e)

  equal_to : (u : Unit {0}) (tokens : List Seen) → MayGiven edge (words.Mark 61) (literal_at edge) (λ t. tt) tt (IsLone words.Literal) u tokens → IsEquals u tokens
  equal_to u tokens (inl v) =
      let o = opens_by (words.Mark 61) (IsLone words.Literal) v.value tokens (mark_is 61) v.derives in
      subst Equals (sym o.joined) (Equals.given (v.value.0 ∷ []) o.back o.opens o.right)
  equal_to u tokens (inr d) = subst Equals (sym d.1) Equals.missing

  equal_from : (u : Unit {0}) (tokens : List Seen) → IsEquals u tokens → MayGiven edge (words.Mark 61) (literal_at edge) (λ t. tt) tt (IsLone words.Literal) u tokens
  equal_from u _ Equals.missing = inr (unit_is u, refl)
  equal_from u _ (Equals.given equal text w t) =
      let o = is_one (words.Mark 61) equal w in
      inl (record { value = (o.seen, tt); seen = unit_is u; derives = both_by (words.Mark 61) (IsLone words.Literal) o.seen tt equal text refl o.says o.whole t })

  pub equal_reads : Reads edge IsEquals shallow (equal_at edge) true equals_kinds (plain_bar equals_kinds)
  equal_reads =
      same_reads edge (MayGiven edge (words.Mark 61) (literal_at edge) (λ t. tt) tt (IsLone words.Literal)) IsEquals shallow (may_part edge (words.Mark 61) (literal_at edge) (λ t. tt) tt) (equal_at edge) true equals_kinds
      (plain_bar equals_kinds) equal_same equal_to equal_from
      (may_reads edge (words.Mark 61) (literal_at edge) (λ t. tt) tt (IsLone words.Literal) shallow shallow false (literal_kind ∷ []) nothing_barred some_literal refl refl (λ t tokens d. refl) (literal_reads edge))

-- ---- notes

abbrev pub IsNote : Unit {0} → List Seen → Type 0
IsNote = Viewed (λ t. tt) (Both (IsLone words.Word) (Both IsEquals IsSeparator))

abbrev pub IsNoteList : List (Unit {0}) → List Seen → Type 0
IsNoteList us tokens = (us ≡ []) × NoteList tokens

abbrev pub IsNotes : Unit {0} → List Seen → Type 0
IsNotes u tokens = Notes tokens

abbrev note_barred : Kind → Bool
note_barred = both_barred true nothing_barred (both_barred true (plain_bar equals_kinds) sep_barred)

abbrev pub round_kinds : List Kind
round_kinds = mark_kind 40 ∷ []

abbrev pub name_kinds : List Kind
name_kinds = name_kind ∷ []

module _ (edge : ℕ) where
  abbrev some_tail : (y : Unit {0} × Unit {0}) × (tokens : List Seen) × Both IsEquals IsSeparator y tokens
  some_tail = ((tt, tt), [], record { front = []; back = []; left = Equals.missing; right = Separator.none; joined = refl })

  note_reads : Reads edge IsNote shallow (note_at edge) false name_kinds note_barred
  unfolding note_at
  note_reads =
      as_reads edge (Both (IsLone words.Word) (Both IsEquals IsSeparator)) IsNote shallow shallow (step (id_at edge) (step (equal_at edge) sep_at)) (note_at edge) (λ t. tt) false name_kinds note_barred
      (λ xs. chain3 (id_at edge) (equal_at edge) sep_at (λ t. tt) xs) (λ x tokens d. record { value = x; seen = refl; derives = d }) (λ z tokens v. v) (λ x tokens d. refl)
      (step_reads edge (IsLone words.Word) (Both IsEquals IsSeparator) shallow shallow (id_at edge) (step (equal_at edge) sep_at) false true name_kinds (equals_kinds ++ separators) nothing_barred
      (both_barred true (plain_bar equals_kinds) sep_barred) refl some_tail refl (id_reads edge)
      (step_reads edge IsEquals IsSeparator shallow shallow (equal_at edge) sep_at true true equals_kinds separators (plain_bar equals_kinds) sep_barred refl (tt, [], Separator.none) refl (equal_reads edge) (sep_reads edge)))

  nothing_moved : (r : Scan (Unit {0})) → nothing r ≡ moved 0 (λ u. let us : List (Unit {0}) = [] in us) r
  nothing_moved (Ok x) = let none : x.1 ≡ 0 + x.1 = omega arith in ok_same [] [] x.1 (0 + x.1) refl none
  nothing_moved (Err f) = refl

  abbrev IsOneNote : List (Unit {0}) → List Seen → Type 0
  IsOneNote = Viewed (λ u. []) IsNote

  one_note_reads : Reads edge IsOneNote shallow (one_note edge) false name_kinds note_barred
  one_note_reads =
      as_reads edge IsNote IsOneNote shallow shallow (note_at edge) (one_note edge) (λ u. []) false name_kinds note_barred (λ xs. nothing_moved (note_at edge xs))
      (λ x tokens d. record { value = x; seen = refl; derives = d }) (λ z tokens v. v) (λ x tokens d. refl) note_reads

  list_to : (us : List (Unit {0})) (tokens : List Seen) → Many IsOneNote us tokens → IsNoteList us tokens
  list_to _ _ (no_more us tokens e none) = (e, subst NoteList (sym none) NoteList.none)
  list_to _ _ (one_more u us all front back tokens d m e split) =
      let rest = list_to us back m in
      let note = d.derives.derives in
      let n = name_means note.front note.left in
      let tail = note.right in
      let whole : tokens ≡ note.front ++ tail.front ++ tail.back ++ back =
      split ∙ ap (λ (f : List Seen). f ++ back) (note.joined ∙ ap (λ (f : List Seen). note.front ++ f) tail.joined)
      ∙ ap (λ (f : List Seen). f ++ back) (sym (append_more note.front tail.front tail.back)) in
      (e ∙ ap (λ (v : List (Unit {0})). v ++ us) d.seen ∙ rest.0, subst NoteList (sym whole) (NoteList.more n.0 note.front tail.front tail.back back n.1 tail.left tail.right rest.1))

  list_by : (tokens : List Seen) → NoteList tokens → Many IsOneNote [] tokens
  list_by _ NoteList.none = no_more [] [] refl refl
  list_by _ (NoteList.more n name equal separator rest m q s others) =
      let note : IsNote tt (name ++ (equal ++ separator)) = record {
        value = (tt, (tt, tt));
        seen = refl;
        derives = record { front = name; back = equal ++ separator; left = means_name n name m; right = record { front = equal; back = separator; left = q; right = s; joined = refl }; joined = refl };
      } in
      one_more [] [] [] (name ++ (equal ++ separator)) rest (name ++ equal ++ separator ++ rest) (record { value = tt; seen = refl; derives = note }) (list_by rest others) refl
      (ap (λ (f : List Seen). f ++ rest) (append_more name equal separator))

  list_from : (us : List (Unit {0})) (tokens : List Seen) → IsNoteList us tokens → Many IsOneNote us tokens
  list_from us tokens d = subst (λ (v : List (Unit {0})). Many IsOneNote v tokens) (sym d.0) (list_by tokens d.1)

  abbrev note_run : Part (List (Unit {0}))
  note_run xs = run (not_closed 41) (one_note edge) edge xs 0

  note_list_reads : Reads edge IsNoteList shallow note_run true name_kinds (unclosed 41)
  note_list_reads =
      same_reads edge (Many IsOneNote) IsNoteList shallow note_run note_run true name_kinds (unclosed 41) (λ xs. refl) list_to list_from
      (list_reads edge 41 (one_note edge) IsOneNote shallow name_kinds note_barred refl refl refl refl (λ y ys tokens d. refl) one_note_reads)

  abbrev note_rest : Part (List (Unit {0}) × Unit {0})
  note_rest = step note_run (mark_at 41 edge)

  abbrev IsNoteRest : List (Unit {0}) × Unit {0} → List Seen → Type 0
  IsNoteRest = Both IsNoteList (IsLone (words.Mark 41))

  close_token : List Seen
  close_token = record { at = 0; lexeme = words.Mark 41; word = [] } ∷ []

  some_close : IsLone (words.Mark 41) tt close_token
  unfolding close_token
  some_close = Is.one (record { at = 0; lexeme = words.Mark 41; word = [] })

  note_rest_reads : Reads edge IsNoteRest shallow note_rest false (name_kind ∷ mark_kind 41 ∷ []) nothing_barred
  note_rest_reads =
      step_reads edge IsNoteList (IsLone (words.Mark 41)) shallow shallow note_run (mark_at 41 edge) true false name_kinds (mark_kind 41 ∷ []) (unclosed 41) nothing_barred refl (tt, close_token, some_close) refl
      note_list_reads (mark_reads edge 41)

  abbrev some_note_rest : (y : List (Unit {0}) × Unit {0}) × (tokens : List Seen) × IsNoteRest y tokens
  some_note_rest = (([], tt), close_token, record { front = []; back = close_token; left = (refl, NoteList.none); right = some_close; joined = refl })

  notes_same : (xs : List Seen) → notes_at edge xs ≡ may_part edge (words.Mark 40) note_rest (λ t. tt) tt xs
  unfolding notes_at stands
  notes_same [] = refl
  notes_same (s ∷ ss) =
      if_chosen (stands_by 40 s.lexeme) (is_kind (mark_kind 40) (kind s.lexeme))
      (onward 1 (note_run ss) λ u n. onward n (mark_at 41 edge (drop n (s ∷ ss))) λ u n. Ok (tt, n)) (moved 0 (λ t. tt) (step (word edge round_kinds) note_rest (s ∷ ss))) (Ok (tt, 0))
      (stands_kind edge 40 s.lexeme)
      (λ e. goes_on 1 note_run (mark_at 41 edge) (λ t. tt) (λ u n. onward n (mark_at 41 edge (drop n (s ∷ ss))) λ u n. Ok (tt, n)) (s ∷ ss) (λ x m. last m (mark_at 41 edge (drop m (s ∷ ss))) (λ u. tt))
      ∙ opened_is edge round_kinds note_rest (λ t. tt) s ss e)

  notes_to : (u : Unit {0}) (tokens : List Seen) → MayGiven edge (words.Mark 40) note_rest (λ t. tt) tt IsNoteRest u tokens → IsNotes u tokens
  notes_to u tokens (inl v) =
      let o = opens_by (words.Mark 40) IsNoteRest v.value tokens (mark_is 40) v.derives in
      subst Notes (sym (o.joined ∙ ap (λ (f : List Seen). (v.value.0 ∷ []) ++ f) o.right.joined ∙ sym (append_more (v.value.0 ∷ []) o.right.front o.right.back))) (Notes.given (v.value.0 ∷ []) o.right.front o.right.back o.opens o.right.left.1 o.right.right)
  notes_to u tokens (inr d) = subst Notes (sym d.1) Notes.missing

  notes_from : (u : Unit {0}) (tokens : List Seen) → IsNotes u tokens → MayGiven edge (words.Mark 40) note_rest (λ t. tt) tt IsNoteRest u tokens
  notes_from u _ Notes.missing = inr (unit_is u, refl)
  notes_from u _ (Notes.given opening inside closing w list t) =
      let o = is_one (words.Mark 40) opening w in
      let both = both_by (words.Mark 40) IsNoteRest o.seen ([], tt) opening (inside ++ closing) refl o.says o.whole (record { front = inside; back = closing; left = (refl, list); right = t; joined = refl }) in
      inl (record { value = (o.seen, ([], tt)); seen = unit_is u; derives = both_at (words.Mark 40) IsNoteRest (o.seen, ([], tt)) (append_more opening inside closing) both })

  pub notes_reads : Reads edge IsNotes shallow (notes_at edge) true round_kinds (plain_bar round_kinds)
  notes_reads =
      same_reads edge (MayGiven edge (words.Mark 40) note_rest (λ t. tt) tt IsNoteRest) IsNotes shallow (may_part edge (words.Mark 40) note_rest (λ t. tt) tt) (notes_at edge) true round_kinds (plain_bar round_kinds)
      notes_same notes_to notes_from
      (may_reads edge (words.Mark 40) note_rest (λ t. tt) tt IsNoteRest shallow shallow false (name_kind ∷ mark_kind 41 ∷ []) nothing_barred some_note_rest refl refl (λ t tokens d. refl) note_rest_reads)
