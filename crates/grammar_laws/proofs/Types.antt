-- Types are read as they are derived.
use Rattle.std.proofs.Common.{◌≡◌, ◌∙◌, ap, sym, subst, refl, ℕ, zero, suc, List, [], ◌∷◌, ◌++◌, drop, Bool, true, false, Option, Some, None, Ok, Err, inl, inr, arith}
use Rattle.std.proofs.lemmas.Bool.Decides.{nat_tests}
use Rattle.idl_document.specs.declared.document.BaseWord.{BaseWord}
use Rattle.idl_document.specs.declared.document.BaseWord.TheVariants as bases
use Rattle.idl_document.specs.Trees.{TypeTree, base_at, named_at, map_at, set_at, list_at}
use Rattle.idl_parser.specs.declared.fault.Fault.TheVariants as faults
use Rattle.grammar_laws.proofs.Lexicon.{Lexeme}
use Rattle.grammar_laws.proofs.Lexicon as words
use Rattle.grammar_laws.proofs.Lexicon.{Keyword}
use Rattle.idl_parser.specs.Cpp.{cpp_at}
use Rattle.idl_parser.specs.Grammar.{Cpp, DerivesType, Is, Notes}
use Rattle.idl_parser.specs.Lexemes.{Scan, mark_at, offset_of, onward}
use Rattle.idl_parser.specs.Notes.{notes_at}
use Rattle.idl_parser.specs.Seen.{Seen}
use Rattle.idl_parser.specs.Types.{Inner, element_of, form_at, list_of, map_of, opened, opening_at, set_of, type_at, type_by, type_until}
use Rattle.grammar_laws.specs.Depth.{first_of, type_deep}
use Rattle.grammar_laws.proofs.Chains.{chain2, goes_on, last, onward_moved}
use Rattle.grammar_laws.proofs.Choices.{Either, choice, choice_reads, either_barred}
use Rattle.grammar_laws.proofs.TokenKinds.{Kind, among, base_kind, both_barred, free, kind, mark_kind, name_kind, nothing_barred, word_kind}
use Rattle.grammar_laws.proofs.Lists.{append_more}
use Rattle.grammar_laws.proofs.Notes.{IsCpp, IsNotes, both_by, cpp_kinds, cpp_reads, notes_reads, opens_by, plain_bar, round_kinds}
use Rattle.grammar_laws.proofs.Reading.{Begun, IsStart, IsToken, Never, Part, Reads, Viewed, as_reads, fails, moved, nested_by, nests, same_reads, shallow, too_deep, view_reads}
use Rattle.grammar_laws.proofs.Singles.{IsLone, base_is, is_of_kinds, keyword_is, mark_reads, name_is, opened_is, sample, some_lone, word, word_reads}
use Rattle.grammar_laws.proofs.Steps.{Both, step, step_reads}

pub first_none : (o : Option ℕ) → o ≡ first_of o None
first_none None = refl
first_none (Some at) = refl

abbrev base_word : Lexeme → BaseWord
base_word (words.Reserved (words.Base word)) = word
base_word l = bases.Bool

abbrev base_kinds : List Kind
base_kinds = base_kind ∷ []

abbrev name_kinds : List Kind
name_kinds = name_kind ∷ []

abbrev map_kinds : List Kind
map_kinds = word_kind words.Map ∷ []

abbrev set_kinds : List Kind
set_kinds = word_kind words.Set ∷ []

abbrev list_kinds : List Kind
list_kinds = word_kind words.ListWord ∷ []

abbrev pub type_kinds : List Kind
type_kinds = base_kind ∷ name_kind ∷ word_kind words.Map ∷ word_kind words.Set ∷ word_kind words.ListWord ∷ []

abbrev list_barred : Kind → Bool
list_barred = both_barred true nothing_barred (plain_bar cpp_kinds)

abbrev form_barred : Kind → Bool
form_barred = either_barred false base_kinds nothing_barred (either_barred false name_kinds nothing_barred (either_barred false map_kinds nothing_barred (either_barred false set_kinds nothing_barred
    (either_barred false list_kinds list_barred nothing_barred))))

-- what may not stand behind a type
abbrev pub type_barred : Kind → Bool
type_barred = both_barred true form_barred (plain_bar round_kinds)

abbrev IsOpening : Unit {0} × Unit {0} → List Seen → Type 0
IsOpening = Both IsCpp (IsLone (words.Mark 60))

-- a type, and a mark behind it
abbrev Until : ℕ → TypeTree → List Seen → Type 0
Until c = Viewed (λ t. t.0) (Both DerivesType (IsLone (words.Mark c)))

abbrev MapRest : (Unit {0} × Unit {0}) × (TypeTree × TypeTree) → List Seen → Type 0
MapRest = Both IsOpening (Both (Until 44) (Until 62))

abbrev SetRest : (Unit {0} × Unit {0}) × TypeTree → List Seen → Type 0
SetRest = Both IsOpening (Until 62)

abbrev ListRest : ((Unit {0} × Unit {0}) × TypeTree) × Unit {0} → List Seen → Type 0
ListRest = Both SetRest IsCpp

abbrev base_view : Seen → TypeTree
base_view s = base_at s.at (base_word s.lexeme)

abbrev name_view : Seen → TypeTree
name_view s = named_at s.at s.word

abbrev map_view : Seen × ((Unit {0} × Unit {0}) × (TypeTree × TypeTree)) → TypeTree
map_view t = map_at t.0.at t.1.1.0 t.1.1.1

abbrev set_view : Seen × ((Unit {0} × Unit {0}) × TypeTree) → TypeTree
set_view t = set_at t.0.at t.1.1

abbrev list_view : Seen × (((Unit {0} × Unit {0}) × TypeTree) × Unit {0}) → TypeTree
list_view t = list_at t.0.at t.1.0.1

abbrev BaseForm : TypeTree → List Seen → Type 0
BaseForm = Viewed base_view (IsToken (is_of_kinds base_kinds))

abbrev NameForm : TypeTree → List Seen → Type 0
NameForm = Viewed name_view (IsToken (is_of_kinds name_kinds))

abbrev MapForm : TypeTree → List Seen → Type 0
MapForm = Viewed map_view (Both (IsToken (is_of_kinds map_kinds)) MapRest)

abbrev SetForm : TypeTree → List Seen → Type 0
SetForm = Viewed set_view (Both (IsToken (is_of_kinds set_kinds)) SetRest)

abbrev ListForm : TypeTree → List Seen → Type 0
ListForm = Viewed list_view (Both (IsToken (is_of_kinds list_kinds)) ListRest)

-- a type without its notes
abbrev IsForm : TypeTree → List Seen → Type 0
IsForm = Either BaseForm (Either NameForm (Either MapForm (Either SetForm (Either ListForm Never))))

-- some of both
abbrev pub some_both : {X Y : Type 0} (D : X → List Seen → Type 0) (E : Y → List Seen → Type 0) → ((x : X) × (tokens : List Seen) × D x tokens) → ((y : Y) × (tokens : List Seen) × E y tokens) →
    (t : X × Y) × (tokens : List Seen) × Both D E t tokens
some_both D E a b = ((a.0, b.0), a.1 ++ b.1, record { front = a.1; back = b.1; left = a.2; right = b.2; joined = refl })

abbrev pub some_type : (ty : TypeTree) × (tokens : List Seen) × DerivesType ty tokens
some_type = (named_at 0 [], sample words.Word ∷ [], DerivesType.name (sample words.Word) [] refl Notes.missing)

abbrev some_until : (c : ℕ) → (ty : TypeTree) × (tokens : List Seen) × Until c ty tokens
some_until c =
    let both = some_both DerivesType (IsLone (words.Mark c)) some_type (some_lone (words.Mark c)) in
    (both.0.0, both.1, record { value = both.0; seen = refl; derives = both.2 })

abbrev some_cpp : (u : Unit {0}) × (tokens : List Seen) × IsCpp u tokens
some_cpp = (tt, [], Cpp.missing)

abbrev pub some_notes : (u : Unit {0}) × (tokens : List Seen) × IsNotes u tokens
some_notes = (tt, [], Notes.missing)

abbrev some_opening : (t : Unit {0} × Unit {0}) × (tokens : List Seen) × IsOpening t tokens
some_opening = some_both IsCpp (IsLone (words.Mark 60)) some_cpp (some_lone (words.Mark 60))

module _ (edge : ℕ) where
  abbrev opening_part : Part (Unit {0} × Unit {0})
  opening_part = step (cpp_at edge) (mark_at 60 edge)

  opening_reads : Reads edge IsOpening shallow opening_part false (word_kind words.CppType ∷ mark_kind 60 ∷ []) nothing_barred
  opening_reads =
      step_reads edge IsCpp (IsLone (words.Mark 60)) shallow shallow (cpp_at edge) (mark_at 60 edge) true false cpp_kinds (mark_kind 60 ∷ []) (plain_bar cpp_kinds) nothing_barred refl (some_lone (words.Mark 60)) refl
      (cpp_reads edge) (mark_reads edge 60)

  opening_is : (s : Seen) (ss : List Seen) → opening_at edge (s ∷ ss) ≡ moved 1 (λ t. tt) (opening_part ss)
  unfolding opening_at
  opening_is s ss =
      goes_on 1 (cpp_at edge) (mark_at 60 edge) (λ t. tt) (λ u n. onward n (mark_at 60 edge (drop n (s ∷ ss))) λ u n. Ok (tt, n)) (s ∷ ss) (λ x m. last m (mark_at 60 edge (drop m (s ∷ ss))) (λ u. tt))

  -- for an inner type that is read so, with so many levels below it
  module _ (levels : ℕ) (inner : Inner) (r : Reads edge DerivesType (type_deep levels) inner false type_kinds type_barred) where
    until_reads : (c : ℕ) → free (mark_kind c ∷ []) type_barred ≡ true → Reads edge (Until c) (type_deep levels) (type_until c inner edge) false type_kinds nothing_barred
    unfolding type_until
    until_reads c apart =
        as_reads edge (Both DerivesType (IsLone (words.Mark c))) (Until c) (λ t. first_of (type_deep levels t.0) None) (type_deep levels) (step inner (mark_at c edge)) (type_until c inner edge) (λ t. t.0) false type_kinds
        nothing_barred (λ xs. chain2 inner (mark_at c edge) (λ t. t.0) xs) (λ x tokens d. record { value = x; seen = refl; derives = d }) (λ z tokens v. v) (λ x tokens d. first_none (type_deep levels x.0))
        (step_reads edge DerivesType (IsLone (words.Mark c)) (type_deep levels) shallow inner (mark_at c edge) false false type_kinds (mark_kind c ∷ []) type_barred nothing_barred apart (some_lone (words.Mark c)) refl r
        (mark_reads edge c))

    abbrev map_rest : Part ((Unit {0} × Unit {0}) × (TypeTree × TypeTree))
    map_rest = step opening_part (step (type_until 44 inner edge) (type_until 62 inner edge))

    abbrev set_rest : Part ((Unit {0} × Unit {0}) × TypeTree)
    set_rest = step opening_part (type_until 62 inner edge)

    abbrev list_rest : Part (((Unit {0} × Unit {0}) × TypeTree) × Unit {0})
    list_rest = step set_rest (cpp_at edge)

    abbrev map_deep : (Unit {0} × Unit {0}) × (TypeTree × TypeTree) → Option ℕ
    map_deep t = first_of (type_deep levels t.1.0) (type_deep levels t.1.1)

    abbrev set_deep : (Unit {0} × Unit {0}) × TypeTree → Option ℕ
    set_deep t = type_deep levels t.1

    abbrev list_deep : ((Unit {0} × Unit {0}) × TypeTree) × Unit {0} → Option ℕ
    list_deep t = first_of (type_deep levels t.0.1) None

    abbrev opening_kinds : List Kind
    opening_kinds = word_kind words.CppType ∷ mark_kind 60 ∷ []

    map_rest_reads : Reads edge MapRest map_deep map_rest false opening_kinds nothing_barred
    map_rest_reads =
        step_reads edge IsOpening (Both (Until 44) (Until 62)) shallow (λ t. first_of (type_deep levels t.0) (type_deep levels t.1)) opening_part (step (type_until 44 inner edge) (type_until 62 inner edge)) false false
        opening_kinds type_kinds nothing_barred nothing_barred refl (some_both (Until 44) (Until 62) (some_until 44) (some_until 62)) refl opening_reads
        (step_reads edge (Until 44) (Until 62) (type_deep levels) (type_deep levels) (type_until 44 inner edge) (type_until 62 inner edge) false false type_kinds type_kinds nothing_barred nothing_barred refl (some_until 62) refl
        (until_reads 44 refl) (until_reads 62 refl))

    set_rest_reads : Reads edge SetRest set_deep set_rest false opening_kinds nothing_barred
    set_rest_reads =
        step_reads edge IsOpening (Until 62) shallow (type_deep levels) opening_part (type_until 62 inner edge) false false opening_kinds type_kinds nothing_barred nothing_barred refl (some_until 62) refl opening_reads
        (until_reads 62 refl)

    list_rest_reads : Reads edge ListRest list_deep list_rest false opening_kinds list_barred
    list_rest_reads =
        step_reads edge SetRest IsCpp set_deep shallow set_rest (cpp_at edge) false true opening_kinds cpp_kinds nothing_barred (plain_bar cpp_kinds) refl some_cpp refl set_rest_reads (cpp_reads edge)

    -- the parts behind the words, as they are scanned
    map_is : (s : Seen) (ss : List Seen) → among map_kinds (kind s.lexeme) ≡ true → map_of inner edge (s ∷ ss) ≡ moved 0 map_view (step (word edge map_kinds) map_rest (s ∷ ss))
    unfolding map_of
    map_is s ss e =
        ap (λ r. onward 0 r (λ u n. onward n (type_until 44 inner edge (drop n (s ∷ ss))) λ key n. onward n (type_until 62 inner edge (drop n (s ∷ ss))) λ value n. Ok (map_at s.at key value, n))) (opening_is s ss)
        ∙ onward_moved 1 (λ t. tt) (opening_part ss) (λ u n. onward n (type_until 44 inner edge (drop n (s ∷ ss))) λ key n. onward n (type_until 62 inner edge (drop n (s ∷ ss))) λ value n. Ok (map_at s.at key value, n))
        ∙ goes_on 1 opening_part (step (type_until 44 inner edge) (type_until 62 inner edge)) (λ t. map_at s.at t.1.0 t.1.1)
        (λ u n. onward n (type_until 44 inner edge (drop n (s ∷ ss))) λ key n. onward n (type_until 62 inner edge (drop n (s ∷ ss))) λ value n. Ok (map_at s.at key value, n)) (s ∷ ss)
        (λ x m. goes_on m (type_until 44 inner edge) (type_until 62 inner edge) (λ t. map_at s.at t.0 t.1)
        (λ key n. onward n (type_until 62 inner edge (drop n (s ∷ ss))) λ value n. Ok (map_at s.at key value, n)) (s ∷ ss)
        (λ key k. last k (type_until 62 inner edge (drop k (s ∷ ss))) (λ value. map_at s.at key value)))
        ∙ opened_is edge map_kinds map_rest map_view s ss e

    element_is : (s : Seen) (ss : List Seen) → element_of inner edge (s ∷ ss) ≡ moved 1 (λ t. t.1) (set_rest ss)
    unfolding element_of
    element_is s ss =
        ap (λ r. onward 0 r (λ u n. onward n (type_until 62 inner edge (drop n (s ∷ ss))) λ element n. Ok (element, n))) (opening_is s ss)
        ∙ onward_moved 1 (λ t. tt) (opening_part ss) (λ u n. onward n (type_until 62 inner edge (drop n (s ∷ ss))) λ element n. Ok (element, n))
        ∙ goes_on 1 opening_part (type_until 62 inner edge) (λ t. t.1) (λ u n. onward n (type_until 62 inner edge (drop n (s ∷ ss))) λ element n. Ok (element, n)) (s ∷ ss)
        (λ x m. last m (type_until 62 inner edge (drop m (s ∷ ss))) (λ element. element))

    set_is : (s : Seen) (ss : List Seen) → among set_kinds (kind s.lexeme) ≡ true → set_of inner edge (s ∷ ss) ≡ moved 0 set_view (step (word edge set_kinds) set_rest (s ∷ ss))
    unfolding set_of
    set_is s ss e =
        ap (λ r. onward 0 r (λ element n. Ok (set_at s.at element, n))) (element_is s ss)
        ∙ onward_moved 1 (λ t. t.1) (set_rest ss) (λ element n. Ok (set_at s.at element, n))
        ∙ last 1 (set_rest ss) (λ t. set_at s.at t.1)
        ∙ opened_is edge set_kinds set_rest set_view s ss e

    list_is : (s : Seen) (ss : List Seen) → among list_kinds (kind s.lexeme) ≡ true → list_of inner edge (s ∷ ss) ≡ moved 0 list_view (step (word edge list_kinds) list_rest (s ∷ ss))
    unfolding list_of
    list_is s ss e =
        ap (λ r. onward 0 r (λ element n. onward n (cpp_at edge (drop n (s ∷ ss))) λ u n. Ok (list_at s.at element, n))) (element_is s ss)
        ∙ onward_moved 1 (λ t. t.1) (set_rest ss) (λ element n. onward n (cpp_at edge (drop n (s ∷ ss))) λ u n. Ok (list_at s.at element, n))
        ∙ goes_on 1 set_rest (cpp_at edge) (λ t. list_at s.at t.0.1) (λ t n. onward n (cpp_at edge (drop n (s ∷ ss))) λ u n. Ok (list_at s.at t.1, n)) (s ∷ ss)
        (λ t m. last m (cpp_at edge (drop m (s ∷ ss))) (λ u. list_at s.at t.1))
        ∙ opened_is edge list_kinds list_rest list_view s ss e

  -- ---- forms

  abbrev base_part : Part TypeTree
  base_part xs = moved 0 base_view (word edge base_kinds xs)

  abbrev name_part : Part TypeTree
  name_part xs = moved 0 name_view (word edge name_kinds xs)

  abbrev fault_part : Part TypeTree
  fault_part xs = Err (faults.Syntax (offset_of edge xs))

  module _ (m s l : Part TypeTree) where
    abbrev form_part : Part TypeTree
    form_part = choice base_kinds base_part (choice name_kinds name_part (choice map_kinds m (choice set_kinds s (choice list_kinds l fault_part))))

    form_is : (levels : ℕ) (inner : Inner) →
        ((t : Seen) (ss : List Seen) → t.lexeme ≡ words.Reserved words.Map → opened levels (map_of inner edge (t ∷ ss)) edge (t ∷ ss) ≡ m (t ∷ ss)) →
        ((t : Seen) (ss : List Seen) → t.lexeme ≡ words.Reserved words.Set → opened levels (set_of inner edge (t ∷ ss)) edge (t ∷ ss) ≡ s (t ∷ ss)) →
        ((t : Seen) (ss : List Seen) → t.lexeme ≡ words.Reserved words.ListWord → opened levels (list_of inner edge (t ∷ ss)) edge (t ∷ ss) ≡ l (t ∷ ss)) →
        (xs : List Seen) → form_at levels inner edge xs ≡ form_part xs
    unfolding form_at
    form_is levels inner em es el [] = refl
    form_is levels inner em es el (t ∷ ss) = by t.at t.lexeme t.word
      where
        by : (at : ℕ) (lexeme : Lexeme) (w : List ℕ) → form_at levels inner edge (record { at = at; lexeme = lexeme; word = w } ∷ ss) ≡ form_part (record { at = at; lexeme = lexeme; word = w } ∷ ss)
        by at (words.Reserved (words.Base word)) w = refl
        by at words.Word w = refl
        by at (words.Reserved words.Map) w = em (record { at = at; lexeme = words.Reserved words.Map; word = w }) ss refl
        by at (words.Reserved words.Set) w = es (record { at = at; lexeme = words.Reserved words.Set; word = w }) ss refl
        by at (words.Reserved words.ListWord) w = el (record { at = at; lexeme = words.Reserved words.ListWord; word = w }) ss refl
        by at lexeme w = refl

    form_reads : (levels : ℕ) → Reads edge MapForm (type_deep levels) m false map_kinds nothing_barred → Reads edge SetForm (type_deep levels) s false set_kinds nothing_barred →
        Reads edge ListForm (type_deep levels) l false list_kinds list_barred → Reads edge IsForm (type_deep levels) form_part false type_kinds form_barred
    form_reads levels rm rs rl =
        choice_reads edge BaseForm (Either NameForm (Either MapForm (Either SetForm (Either ListForm Never)))) (type_deep levels) base_part
        (choice name_kinds name_part (choice map_kinds m (choice set_kinds s (choice list_kinds l fault_part)))) false base_kinds
        (name_kind ∷ word_kind words.Map ∷ word_kind words.Set ∷ word_kind words.ListWord ∷ []) nothing_barred
        (either_barred false name_kinds nothing_barred (either_barred false map_kinds nothing_barred (either_barred false set_kinds nothing_barred (either_barred false list_kinds list_barred nothing_barred)))) refl
        (view_reads edge (IsToken (is_of_kinds base_kinds)) shallow (type_deep levels) (word edge base_kinds) base_view false base_kinds nothing_barred (λ x tokens d. refl) (word_reads edge base_kinds))
        (choice_reads edge NameForm (Either MapForm (Either SetForm (Either ListForm Never))) (type_deep levels) name_part
        (choice map_kinds m (choice set_kinds s (choice list_kinds l fault_part))) false name_kinds
        (word_kind words.Map ∷ word_kind words.Set ∷ word_kind words.ListWord ∷ []) nothing_barred
        (either_barred false map_kinds nothing_barred (either_barred false set_kinds nothing_barred (either_barred false list_kinds list_barred nothing_barred))) refl
        (view_reads edge (IsToken (is_of_kinds name_kinds)) shallow (type_deep levels) (word edge name_kinds) name_view false name_kinds nothing_barred (λ x tokens d. refl) (word_reads edge name_kinds))
        (choice_reads edge MapForm (Either SetForm (Either ListForm Never)) (type_deep levels) m (choice set_kinds s (choice list_kinds l fault_part)) false map_kinds
        (word_kind words.Set ∷ word_kind words.ListWord ∷ []) nothing_barred (either_barred false set_kinds nothing_barred (either_barred false list_kinds list_barred nothing_barred)) refl rm
        (choice_reads edge SetForm (Either ListForm Never) (type_deep levels) s (choice list_kinds l fault_part) false set_kinds (word_kind words.ListWord ∷ []) nothing_barred
        (either_barred false list_kinds list_barred nothing_barred) refl rs
        (choice_reads edge ListForm Never (type_deep levels) l fault_part false list_kinds [] list_barred nothing_barred refl rl (fails edge (type_deep levels))))))

  -- ---- a form and its notes

  map_tokens : (s : Seen) (cpp opening key comma value closing notes head k v front tokens : List Seen) → head ≡ cpp ++ opening → k ≡ key ++ comma → v ≡ value ++ closing → front ≡ s ∷ (head ++ (k ++ v)) → tokens ≡ front ++ notes →
      tokens ≡ s ∷ (cpp ++ opening ++ key ++ comma ++ value ++ closing ++ notes)
  map_tokens s cpp opening key comma value closing notes head k v front tokens e1 e2 e3 e4 e5 =
      let shape : (s ∷ ((cpp ++ opening) ++ ((key ++ comma) ++ (value ++ closing)))) ++ notes ≡ s ∷ (cpp ++ opening ++ key ++ comma ++ value ++ closing ++ notes) = simp append_more in
      e5 ∙ ap (λ (f : List Seen). f ++ notes) (e4 ∙ ap (λ (f : List Seen). s ∷ (f ++ (k ++ v))) e1 ∙ ap (λ (f : List Seen). s ∷ ((cpp ++ opening) ++ (f ++ v))) e2
      ∙ ap (λ (f : List Seen). s ∷ ((cpp ++ opening) ++ ((key ++ comma) ++ f))) e3) ∙ shape

  set_tokens : (s : Seen) (cpp opening element closing notes head e front tokens : List Seen) → head ≡ cpp ++ opening → e ≡ element ++ closing → front ≡ s ∷ (head ++ e) → tokens ≡ front ++ notes →
      tokens ≡ s ∷ (cpp ++ opening ++ element ++ closing ++ notes)
  set_tokens s cpp opening element closing notes head e front tokens e1 e2 e3 e4 =
      let shape : (s ∷ ((cpp ++ opening) ++ (element ++ closing))) ++ notes ≡ s ∷ (cpp ++ opening ++ element ++ closing ++ notes) = simp append_more in
      e4 ∙ ap (λ (f : List Seen). f ++ notes) (e3 ∙ ap (λ (f : List Seen). s ∷ (f ++ e)) e1 ∙ ap (λ (f : List Seen). s ∷ ((cpp ++ opening) ++ f)) e2) ∙ shape

  list_tokens : (s : Seen) (cpp opening element closing behind notes head e set front tokens : List Seen) → head ≡ cpp ++ opening → e ≡ element ++ closing → set ≡ head ++ e → front ≡ s ∷ (set ++ behind) → tokens ≡ front ++ notes →
      tokens ≡ s ∷ (cpp ++ opening ++ element ++ closing ++ behind ++ notes)
  list_tokens s cpp opening element closing behind notes head e set front tokens e1 e2 e3 e4 e5 =
      let shape : (s ∷ (((cpp ++ opening) ++ (element ++ closing)) ++ behind)) ++ notes ≡ s ∷ (cpp ++ opening ++ element ++ closing ++ behind ++ notes) = simp append_more in
      e5 ∙ ap (λ (f : List Seen). f ++ notes) (e4 ∙ ap (λ (f : List Seen). s ∷ (f ++ behind)) (e3 ∙ ap (λ (f : List Seen). f ++ e) e1 ∙ ap (λ (f : List Seen). (cpp ++ opening) ++ f) e2)) ∙ shape

  derives_at : (x y : TypeTree) (ts us : List Seen) → x ≡ y → ts ≡ us → DerivesType y us → DerivesType x ts
  derives_at x y ts us e f d = subst (λ (z : TypeTree). DerivesType z ts) (sym e) (subst (DerivesType y) (sym f) d)

  type_to : (t : TypeTree × Unit {0}) (tokens : List Seen) → Both IsForm IsNotes t tokens → DerivesType t.0 tokens
  type_to t tokens b = by b.left
    where
      by : IsForm t.0 b.front → DerivesType t.0 tokens
      by (inl v) =
          let word = base_is v.value.lexeme v.derives.0 in
          derives_at t.0 (base_at v.value.at word.0) tokens (v.value ∷ b.back) (v.seen ∙ ap (λ (l : Lexeme). base_at v.value.at (base_word l)) word.1)
          (b.joined ∙ ap (λ (f : List Seen). f ++ b.back) v.derives.1) (DerivesType.base v.value word.0 b.back word.1 b.right)
      by (inr (inl v)) =
          derives_at t.0 (named_at v.value.at v.value.word) tokens (v.value ∷ b.back) v.seen (b.joined ∙ ap (λ (f : List Seen). f ++ b.back) v.derives.1)
          (DerivesType.name v.value b.back (name_is v.value.lexeme v.derives.0) b.right)
      by (inr (inr (inl v))) =
          let o = opens_by (words.Reserved words.Map) MapRest v.value b.front (λ k. keyword_is words.Map k refl) v.derives in
          let k = o.right.right.left in
          let w = o.right.right.right in
          derives_at t.0 (map_at v.value.0.at k.value.0 w.value.0) tokens
          (v.value.0 ∷ (o.right.left.front ++ o.right.left.back ++ k.derives.front ++ k.derives.back ++ w.derives.front ++ w.derives.back ++ b.back))
          (v.seen ∙ ap (λ (x : TypeTree). map_at v.value.0.at x v.value.1.1.1) k.seen ∙ ap (map_at v.value.0.at k.value.0) w.seen)
          (map_tokens v.value.0 o.right.left.front o.right.left.back k.derives.front k.derives.back w.derives.front w.derives.back b.back o.right.front o.right.right.front o.right.right.back b.front tokens
          o.right.left.joined k.derives.joined w.derives.joined
          (o.joined ∙ ap (λ (f : List Seen). v.value.0 ∷ f) (o.right.joined ∙ ap (λ (f : List Seen). o.right.front ++ f) o.right.right.joined)) b.joined)
          (DerivesType.map v.value.0 k.value.0 w.value.0 o.right.left.front o.right.left.back k.derives.front k.derives.back w.derives.front w.derives.back b.back o.says o.right.left.left o.right.left.right
          k.derives.left k.derives.right w.derives.left w.derives.right b.right)
      by (inr (inr (inr (inl v)))) =
          let o = opens_by (words.Reserved words.Set) SetRest v.value b.front (λ k. keyword_is words.Set k refl) v.derives in
          let e = o.right.right in
          derives_at t.0 (set_at v.value.0.at e.value.0) tokens (v.value.0 ∷ (o.right.left.front ++ o.right.left.back ++ e.derives.front ++ e.derives.back ++ b.back))
          (v.seen ∙ ap (set_at v.value.0.at) e.seen)
          (set_tokens v.value.0 o.right.left.front o.right.left.back e.derives.front e.derives.back b.back o.right.front o.right.back b.front tokens o.right.left.joined e.derives.joined
          (o.joined ∙ ap (λ (f : List Seen). v.value.0 ∷ f) o.right.joined) b.joined)
          (DerivesType.set v.value.0 e.value.0 o.right.left.front o.right.left.back e.derives.front e.derives.back b.back o.says o.right.left.left o.right.left.right e.derives.left e.derives.right b.right)
      by (inr (inr (inr (inr (inl v))))) =
          let o = opens_by (words.Reserved words.ListWord) ListRest v.value b.front (λ k. keyword_is words.ListWord k refl) v.derives in
          let z = o.right.left in
          let e = z.right in
          derives_at t.0 (list_at v.value.0.at e.value.0) tokens (v.value.0 ∷ (z.left.front ++ z.left.back ++ e.derives.front ++ e.derives.back ++ o.right.back ++ b.back))
          (v.seen ∙ ap (list_at v.value.0.at) e.seen)
          (list_tokens v.value.0 z.left.front z.left.back e.derives.front e.derives.back o.right.back b.back z.front z.back o.right.front b.front tokens z.left.joined e.derives.joined z.joined
          (o.joined ∙ ap (λ (f : List Seen). v.value.0 ∷ f) o.right.joined) b.joined)
          (DerivesType.list v.value.0 e.value.0 z.left.front z.left.back e.derives.front e.derives.back o.right.back b.back o.says z.left.left z.left.right e.derives.left e.derives.right o.right.right b.right)
      by (inr (inr (inr (inr (inr d))))) = absurd d

  until_by : (c : ℕ) (ty : TypeTree) (inside closing : List Seen) → DerivesType ty inside → Is (words.Mark c) closing → Until c ty (inside ++ closing)
  until_by c ty inside closing d m = record { value = (ty, tt); seen = refl; derives = record { front = inside; back = closing; left = d; right = m; joined = refl } }

  type_from : (ty : TypeTree) (tokens : List Seen) → DerivesType ty tokens → Viewed (λ t. t.0) (Both IsForm IsNotes) ty tokens
  type_from _ _ (DerivesType.base s word notes e n) = record {
    value = (base_at s.at word, tt);
    seen = refl;
    derives = record {
      front = s ∷ [];
      back = notes;
      left = inl (record { value = s; seen = sym (ap (λ (l : Lexeme). base_at s.at (base_word l)) e); derives = (ap (λ (l : Lexeme). among base_kinds (kind l)) e, refl) });
      right = n;
      joined = refl;
    };
  }
  type_from _ _ (DerivesType.name s notes e n) = record {
    value = (named_at s.at s.word, tt);
    seen = refl;
    derives = record {
      front = s ∷ [];
      back = notes;
      left = inr (inl (record { value = s; seen = refl; derives = (ap (λ (l : Lexeme). among name_kinds (kind l)) e, refl) }));
      right = n;
      joined = refl;
    };
  }
  type_from _ _ (DerivesType.map s k v cpp opening key comma value closing notes e c o dk m dv z n) = record {
    value = (map_at s.at k v, tt);
    seen = refl;
    derives = record {
      front = s ∷ ((cpp ++ opening) ++ ((key ++ comma) ++ (value ++ closing)));
      back = notes;
      left = inr (inr (inl (record {
        value = (s, ((tt, tt), (k, v)));
        seen = refl;
        derives = both_by (words.Reserved words.Map) MapRest s ((tt, tt), (k, v)) (s ∷ []) ((cpp ++ opening) ++ ((key ++ comma) ++ (value ++ closing))) refl e refl (record {
          front = cpp ++ opening;
          back = (key ++ comma) ++ (value ++ closing);
          left = record { front = cpp; back = opening; left = c; right = o; joined = refl };
          right = record { front = key ++ comma; back = value ++ closing; left = until_by 44 k key comma dk m; right = until_by 62 v value closing dv z; joined = refl };
          joined = refl;
        });
      })));
      right = n;
      joined = sym (map_tokens s cpp opening key comma value closing notes (cpp ++ opening) (key ++ comma) (value ++ closing) (s ∷ ((cpp ++ opening) ++ ((key ++ comma) ++ (value ++ closing)))) _ refl refl refl refl refl);
    };
  }
  type_from _ _ (DerivesType.set s k cpp opening element closing notes e c o d z n) = record {
    value = (set_at s.at k, tt);
    seen = refl;
    derives = record {
      front = s ∷ ((cpp ++ opening) ++ (element ++ closing));
      back = notes;
      left = inr (inr (inr (inl (record {
        value = (s, ((tt, tt), k));
        seen = refl;
        derives = both_by (words.Reserved words.Set) SetRest s ((tt, tt), k) (s ∷ []) ((cpp ++ opening) ++ (element ++ closing)) refl e refl (record {
          front = cpp ++ opening;
          back = element ++ closing;
          left = record { front = cpp; back = opening; left = c; right = o; joined = refl };
          right = until_by 62 k element closing d z;
          joined = refl;
        });
      }))));
      right = n;
      joined = sym (set_tokens s cpp opening element closing notes (cpp ++ opening) (element ++ closing) (s ∷ ((cpp ++ opening) ++ (element ++ closing))) _ refl refl refl refl);
    };
  }
  type_from _ _ (DerivesType.list s k cpp opening element closing behind notes e c o d z b n) = record {
    value = (list_at s.at k, tt);
    seen = refl;
    derives = record {
      front = s ∷ (((cpp ++ opening) ++ (element ++ closing)) ++ behind);
      back = notes;
      left = inr (inr (inr (inr (inl (record {
        value = (s, (((tt, tt), k), tt));
        seen = refl;
        derives = both_by (words.Reserved words.ListWord) ListRest s (((tt, tt), k), tt) (s ∷ []) (((cpp ++ opening) ++ (element ++ closing)) ++ behind) refl e refl (record {
          front = (cpp ++ opening) ++ (element ++ closing);
          back = behind;
          left = record {
            front = cpp ++ opening;
            back = element ++ closing;
            left = record { front = cpp; back = opening; left = c; right = o; joined = refl };
            right = until_by 62 k element closing d z;
            joined = refl;
          };
          right = b;
          joined = refl;
        });
      })))));
      right = n;
      joined = sym (list_tokens s cpp opening element closing behind notes (cpp ++ opening) (element ++ closing) ((cpp ++ opening) ++ (element ++ closing)) (s ∷ (((cpp ++ opening) ++ (element ++ closing)) ++ behind)) _ refl refl refl refl refl);
    };
  }

  by_reads : (levels : ℕ) (inner : Inner) (m s l : Part TypeTree) → ((xs : List Seen) → form_at levels inner edge xs ≡ form_part m s l xs) →
      Reads edge IsForm (type_deep levels) (form_part m s l) false type_kinds form_barred → Reads edge DerivesType (type_deep levels) (type_by levels inner edge) false type_kinds type_barred
  unfolding type_by
  by_reads levels inner m s l same r =
      as_reads edge (Both IsForm IsNotes) DerivesType (λ t. first_of (type_deep levels t.0) None) (type_deep levels) (step (form_at levels inner edge) (notes_at edge)) (type_by levels inner edge) (λ t. t.0) false type_kinds type_barred
      (λ xs. chain2 (form_at levels inner edge) (notes_at edge) (λ t. t.0) xs) type_to type_from (λ x tokens d. first_none (type_deep levels x.0))
      (step_reads edge IsForm IsNotes (type_deep levels) shallow (form_at levels inner edge) (notes_at edge) false true type_kinds round_kinds form_barred (plain_bar round_kinds) refl some_notes refl
      (same_reads edge IsForm IsForm (type_deep levels) (form_part m s l) (form_at levels inner edge) false type_kinds form_barred same (λ x tokens d. d) (λ x tokens d. d) r) (notes_reads edge))

  -- ---- with no level left, and with some

  pub view_starts : {Y Z : Type 0} (ks : List Kind) (g : Seen × Y → Z) (E : Y → List Seen → Type 0) (z : Z) (front : List Seen) → Viewed g (Both (IsToken (is_of_kinds ks)) E) z front → IsStart false ks front
  view_starts ks g E z front v = subst (IsStart false ks) (sym (v.derives.joined ∙ ap (λ (f : List Seen). f ++ v.derives.back) v.derives.left.1)) v.derives.left.0

  pub view_offset : {Y Z : Type 0} (ks : List Kind) (g : Seen × Y → Z) (E : Y → List Seen → Type 0) (z : Z) (front rest : List Seen) (v : Viewed g (Both (IsToken (is_of_kinds ks)) E) z front) →
      v.value.0.at ≡ offset_of edge (front ++ rest)
  view_offset ks g E z front rest v =
      sym (ap (λ (f : List Seen). offset_of edge (f ++ rest)) (v.derives.joined ∙ ap (λ (f : List Seen). f ++ v.derives.back) v.derives.left.1))

  -- what a kind opens, and what that may be
  pub opens_some : {Y Z : Type 0} (ks : List Kind) (g : Seen × Y → Z) (E : Y → List Seen → Type 0) (deep : Z → Option ℕ) → ((y : Y) × (tokens : List Seen) × E y tokens) → (s : Seen) → among ks (kind s.lexeme) ≡ true →
      Begun edge (Viewed g (Both (IsToken (is_of_kinds ks)) E)) deep false (s ∷ [])
  opens_some ks g E deep some s e = record {
    value = g (s, some.0);
    rest = some.1;
    derives = record { value = (s, some.0); seen = refl; derives = record { front = s ∷ []; back = some.1; left = (e, refl); right = some.2; joined = refl } };
    fits = tt;
  }

  nested_there : (ks : List Kind) (t : Seen) (l : Lexeme) → t.lexeme ≡ l → among ks (kind l) ≡ true → (let r : Scan TypeTree = Err (faults.Nested t.at) in r) ≡ nested_by (among ks (kind t.lexeme)) t.at
  nested_there ks t l e f = sym (ap (λ (b : Bool). let r : Scan TypeTree = nested_by b t.at in r) (ap (λ (k : Lexeme). among ks (kind k)) e ∙ f))

  none_left : Reads edge DerivesType (type_deep 0) (type_at 0 edge) false type_kinds type_barred
  unfolding type_at
  none_left =
      by_reads 0 fault_part (too_deep edge map_kinds) (too_deep edge set_kinds) (too_deep edge list_kinds)
      (form_is (too_deep edge map_kinds) (too_deep edge set_kinds) (too_deep edge list_kinds) 0 fault_part (λ t ss e. nested_there map_kinds t (words.Reserved words.Map) e refl)
      (λ t ss e. nested_there set_kinds t (words.Reserved words.Set) e refl) (λ t ss e. nested_there list_kinds t (words.Reserved words.ListWord) e refl))
      (form_reads (too_deep edge map_kinds) (too_deep edge set_kinds) (too_deep edge list_kinds) 0
      (nests edge MapForm (type_deep 0) map_kinds nothing_barred refl (view_starts map_kinds map_view MapRest)
      (λ x front rest v. ap (type_deep 0) v.seen ∙ ap (λ (n : ℕ). Some n) (view_offset map_kinds map_view MapRest x front rest v))
      (opens_some map_kinds map_view MapRest (type_deep 0) (some_both IsOpening (Both (Until 44) (Until 62)) some_opening (some_both (Until 44) (Until 62) (some_until 44) (some_until 62)))))
      (nests edge SetForm (type_deep 0) set_kinds nothing_barred refl (view_starts set_kinds set_view SetRest)
      (λ x front rest v. ap (type_deep 0) v.seen ∙ ap (λ (n : ℕ). Some n) (view_offset set_kinds set_view SetRest x front rest v))
      (opens_some set_kinds set_view SetRest (type_deep 0) (some_both IsOpening (Until 62) some_opening (some_until 62))))
      (nests edge ListForm (type_deep 0) list_kinds list_barred refl (view_starts list_kinds list_view ListRest)
      (λ x front rest v. ap (type_deep 0) v.seen ∙ ap (λ (n : ℕ). Some n) (view_offset list_kinds list_view ListRest x front rest v))
      (opens_some list_kinds list_view ListRest (type_deep 0) (some_both SetRest IsCpp (some_both IsOpening (Until 62) some_opening (some_until 62)) some_cpp))))

  opened_some : (levels : ℕ) (scan : Scan TypeTree) (tokens : List Seen) → opened (suc levels) scan edge tokens ≡ scan
  opened_some levels scan tokens = grind (arith, nat_tests)

  some_left : (levels : ℕ) → Reads edge DerivesType (type_deep levels) (type_at levels edge) false type_kinds type_barred → Reads edge DerivesType (type_deep (suc levels)) (type_at (suc levels) edge) false type_kinds type_barred
  unfolding type_at
  some_left levels r =
      let inner : Inner = type_at levels edge in
      by_reads (suc levels) inner (λ xs. moved 0 map_view (step (word edge map_kinds) (map_rest levels inner r) xs)) (λ xs. moved 0 set_view (step (word edge set_kinds) (set_rest levels inner r) xs))
      (λ xs. moved 0 list_view (step (word edge list_kinds) (list_rest levels inner r) xs))
      (form_is (λ xs. moved 0 map_view (step (word edge map_kinds) (map_rest levels inner r) xs)) (λ xs. moved 0 set_view (step (word edge set_kinds) (set_rest levels inner r) xs))
      (λ xs. moved 0 list_view (step (word edge list_kinds) (list_rest levels inner r) xs)) (suc levels) inner
      (λ t ss e. opened_some levels (map_of inner edge (t ∷ ss)) (t ∷ ss) ∙ map_is levels inner r t ss (ap (λ (l : Lexeme). among map_kinds (kind l)) e))
      (λ t ss e. opened_some levels (set_of inner edge (t ∷ ss)) (t ∷ ss) ∙ set_is levels inner r t ss (ap (λ (l : Lexeme). among set_kinds (kind l)) e))
      (λ t ss e. opened_some levels (list_of inner edge (t ∷ ss)) (t ∷ ss) ∙ list_is levels inner r t ss (ap (λ (l : Lexeme). among list_kinds (kind l)) e)))
      (form_reads (λ xs. moved 0 map_view (step (word edge map_kinds) (map_rest levels inner r) xs)) (λ xs. moved 0 set_view (step (word edge set_kinds) (set_rest levels inner r) xs))
      (λ xs. moved 0 list_view (step (word edge list_kinds) (list_rest levels inner r) xs)) (suc levels)
      (view_reads edge (Both (IsToken (is_of_kinds map_kinds)) MapRest) (λ t. map_deep levels inner r t.1) (type_deep (suc levels)) (step (word edge map_kinds) (map_rest levels inner r)) map_view false map_kinds nothing_barred
      (λ x tokens d. refl)
      (step_reads edge (IsToken (is_of_kinds map_kinds)) MapRest shallow (map_deep levels inner r) (word edge map_kinds) (map_rest levels inner r) false false map_kinds (opening_kinds levels inner r) nothing_barred nothing_barred refl
      (some_both IsOpening (Both (Until 44) (Until 62)) some_opening (some_both (Until 44) (Until 62) (some_until 44) (some_until 62))) refl (word_reads edge map_kinds) (map_rest_reads levels inner r)))
      (view_reads edge (Both (IsToken (is_of_kinds set_kinds)) SetRest) (λ t. set_deep levels inner r t.1) (type_deep (suc levels)) (step (word edge set_kinds) (set_rest levels inner r)) set_view false set_kinds nothing_barred
      (λ x tokens d. refl)
      (step_reads edge (IsToken (is_of_kinds set_kinds)) SetRest shallow (set_deep levels inner r) (word edge set_kinds) (set_rest levels inner r) false false set_kinds (opening_kinds levels inner r) nothing_barred nothing_barred refl
      (some_both IsOpening (Until 62) some_opening (some_until 62)) refl (word_reads edge set_kinds) (set_rest_reads levels inner r)))
      (view_reads edge (Both (IsToken (is_of_kinds list_kinds)) ListRest) (λ t. list_deep levels inner r t.1) (type_deep (suc levels)) (step (word edge list_kinds) (list_rest levels inner r)) list_view false list_kinds list_barred
      (λ x tokens d. first_none (type_deep levels x.1.0.1))
      (step_reads edge (IsToken (is_of_kinds list_kinds)) ListRest shallow (list_deep levels inner r) (word edge list_kinds) (list_rest levels inner r) false false list_kinds (opening_kinds levels inner r) nothing_barred list_barred refl
      (some_both SetRest IsCpp (some_both IsOpening (Until 62) some_opening (some_until 62)) some_cpp) refl (word_reads edge list_kinds) (list_rest_reads levels inner r))))

  pub type_reads : (levels : ℕ) → Reads edge DerivesType (type_deep levels) (type_at levels edge) false type_kinds type_barred
  type_reads zero = none_left
  type_reads (suc levels) = some_left levels (type_reads levels)
