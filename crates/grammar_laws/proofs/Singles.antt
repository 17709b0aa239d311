-- Single tokens.
use Rattle.std.proofs.Common.{◌≡◌, ◌∙◌, ap, sym, subst, refl, ℕ, ℤ, ◌+◌, List, [], ◌∷◌, get_or, Bool, true, false, if◌then◌else◌, Option, Some, None, Ok, Err, arith}
use Rattle.idl_document.specs.declared.document.BaseWord.{BaseWord}
use Rattle.idl_document.specs.declared.document.Name.{Name}
use Rattle.idl_parser.specs.declared.fault.Fault.TheVariants as faults
use Rattle.grammar_laws.proofs.Lexicon.{Lexeme}
use Rattle.grammar_laws.proofs.Lexicon as words
use Rattle.grammar_laws.proofs.Lexicon.{Keyword}
use Rattle.idl_parser.specs.Cpp.{id_at, literal_at}
use Rattle.idl_parser.specs.Grammar.{Is, one, Means}
use Rattle.idl_parser.specs.Lexemes.{Scan, mark_at, stands, stands_by}
use Rattle.idl_parser.specs.Seen.{Seen}
use Rattle.grammar_laws.proofs.TokenKinds.{Kind, among, base_kind, double_kind, int_kind, is_kind, kind, literal_kind, mark_kind, name_kind, nothing_barred, number_is, number_itself, rank, word_kind}
use Rattle.grammar_laws.proofs.Reading.{IsToken, Part, Reads, as_reads, moved, ok_same, shallow, token, token_by, token_reads}
use Rattle.grammar_laws.proofs.Steps.{step, step_by, step_end}

-- ---- which lexeme is of a kind

table : List (Option Keyword)
table = None ∷ Some words.Map ∷ Some words.Set ∷ Some words.ListWord ∷ Some words.CppType ∷ Some words.Void ∷ Some words.Oneway ∷ Some words.Throws ∷ Some words.Extends
    ∷ Some words.Required ∷ Some words.Optional ∷ Some words.Include ∷ Some words.CppInclude ∷ Some words.Namespace ∷ Some words.Const ∷ Some words.Typedef
    ∷ Some words.Enum ∷ Some words.Struct ∷ Some words.Union ∷ Some words.Exception ∷ Some words.Service ∷ []

-- a keyword that no other has the rank of
abbrev pub alone : Keyword → Option Keyword
alone (words.Base word) = None
alone word = Some word

by_rank : (k : Keyword) → get_or table (rank k) None ≡ alone k
unfolding table
by_rank (words.Base word) = refl
by_rank words.Map = refl
by_rank words.Set = refl
by_rank words.ListWord = refl
by_rank words.CppType = refl
by_rank words.Void = refl
by_rank words.Oneway = refl
by_rank words.Throws = refl
by_rank words.Extends = refl
by_rank words.Required = refl
by_rank words.Optional = refl
by_rank words.Include = refl
by_rank words.CppInclude = refl
by_rank words.Namespace = refl
by_rank words.Const = refl
by_rank words.Typedef = refl
by_rank words.Enum = refl
by_rank words.Struct = refl
by_rank words.Union = refl
by_rank words.Exception = refl
by_rank words.Service = refl

alone_is : (k word : Keyword) → alone k ≡ Some word → k ≡ word
alone_is (words.Base w) word e = absurd (cc)
alone_is k word e = cc

-- the keyword of this rank
pub keyword_is : (word : Keyword) (l : Lexeme) → alone word ≡ Some word → is_kind (word_kind word) (kind l) ≡ true → l ≡ words.Reserved word
keyword_is word words.End lone e = absurd (cc)
keyword_is word words.Word lone e = absurd (cc)
keyword_is word (words.Int z) lone e = absurd (cc)
keyword_is word words.Double lone e = absurd (cc)
keyword_is word words.Literal lone e = absurd (cc)
keyword_is word (words.Mark m) lone e = absurd (cc)
keyword_is word (words.Reserved k) lone e =
    let same : rank k ≡ rank word = number_is (rank k) (rank word) e in
    ap words.Reserved (alone_is k word (sym (by_rank k) ∙ ap (λ (n : ℕ). get_or table n None) same ∙ by_rank word ∙ lone))

pub mark_is : (c : ℕ) (l : Lexeme) → is_kind (mark_kind c) (kind l) ≡ true → l ≡ words.Mark c
mark_is c words.End e = absurd (cc)
mark_is c words.Word e = absurd (cc)
mark_is c (words.Int z) e = absurd (cc)
mark_is c words.Double e = absurd (cc)
mark_is c words.Literal e = absurd (cc)
mark_is c (words.Reserved k) e = absurd (cc)
mark_is c (words.Mark m) e = ap words.Mark (number_is m c e)

pub literal_is : (l : Lexeme) → is_kind literal_kind (kind l) ≡ true → l ≡ words.Literal
literal_is words.Literal e = refl
literal_is l e = absurd (cc)

pub double_is : (l : Lexeme) → is_kind double_kind (kind l) ≡ true → l ≡ words.Double
double_is words.Double e = refl
double_is l e = absurd (cc)

pub name_is : (l : Lexeme) → is_kind name_kind (kind l) ≡ true → l ≡ words.Word
name_is words.Word e = refl
name_is l e = absurd (cc)

pub int_is : (l : Lexeme) → is_kind int_kind (kind l) ≡ true → (z : ℤ) × (l ≡ words.Int z)
int_is (words.Int z) e = (z, refl)
int_is l e = absurd (cc)

pub base_is : (l : Lexeme) → is_kind base_kind (kind l) ≡ true → (word : BaseWord) × (l ≡ words.Reserved (words.Base word))
base_is (words.Reserved (words.Base word)) e = (word, refl)
base_is l e = absurd (cc)

-- ---- one token

pub unit_is : (u : Unit {0}) → u ≡ tt
unit_is u = refl

pub record IsOne (l : Lexeme) (tokens : List Seen) : Type 0 where
  pub seen : Seen
  pub says : seen.lexeme ≡ l
  pub whole : tokens ≡ seen ∷ []

pub is_one : (l : Lexeme) (tokens : List Seen) → Is l tokens → IsOne l tokens
is_one _ _ (one s) = record { seen = s; says = refl; whole = refl }

pub is_of : (l : Lexeme) (s : Seen) (tokens : List Seen) → s.lexeme ≡ l → tokens ≡ s ∷ [] → Is l tokens
is_of l s tokens e f = subst (λ (ts : List Seen). Is l ts) (sym f) (subst (λ (k : Lexeme). Is k (s ∷ [])) e (one s))

abbrev pub IsLone : Lexeme → Unit {0} → List Seen → Type 0
IsLone l u tokens = Is l tokens

abbrev pub is_of_kinds : List Kind → Seen → Bool
is_of_kinds ks s = among ks (kind s.lexeme)

module _ (edge : ℕ) where
  abbrev pub word : List Kind → Part Seen
  word ks = token edge (is_of_kinds ks)

  pub word_reads : (ks : List Kind) → Reads edge (IsToken (is_of_kinds ks)) shallow (word ks) false ks nothing_barred
  word_reads ks = token_reads edge (is_of_kinds ks) ks (λ s e. e)

  -- behind a token that is known
  pub behind_word : {Y Z : Type 0} (s : Seen) (g : Seen × Y → Z) (r : Scan Y) → moved 1 (λ y. g (s, y)) r ≡ moved 0 g (step_end (s, 1) r)
  behind_word s g (Ok y) = let same : 1 + y.1 ≡ 0 + (1 + y.1) = omega arith in ok_same (g (s, y.0)) (g (s, y.0)) (1 + y.1) (0 + (1 + y.1)) refl same
  behind_word s g (Err f) = refl

  pub opened_is : {Y Z : Type 0} (ks : List Kind) (rest : Part Y) (g : Seen × Y → Z) (s : Seen) (ss : List Seen) → among ks (kind s.lexeme) ≡ true →
      moved 1 (λ y. g (s, y)) (rest ss) ≡ moved 0 g (step (word ks) rest (s ∷ ss))
  opened_is ks rest g s ss e = behind_word s g (rest ss) ∙ sym (ap (λ (b : Bool). moved 0 g (step_by rest (s ∷ ss) (token_by b s))) e)

  -- a token whose kind has one lexeme
  pub lone_reads : (l : Lexeme) (scan : Part (Unit {0})) → ((xs : List Seen) → scan xs ≡ moved 0 (λ s. tt) (word (kind l ∷ []) xs)) →
      ((k : Lexeme) → is_kind (kind l) (kind k) ≡ true → k ≡ l) → is_kind (kind l) (kind l) ≡ true → Reads edge (IsLone l) shallow scan false (kind l ∷ []) nothing_barred
  lone_reads l scan same only itself =
      as_reads edge (IsToken (is_of_kinds (kind l ∷ []))) (IsLone l) shallow shallow (word (kind l ∷ [])) scan (λ s. tt) false (kind l ∷ []) nothing_barred same
      (λ s tokens d. is_of l s tokens (only s.lexeme d.0) d.1)
      (λ u tokens d. let o = is_one l tokens d in record { value = o.seen; seen = unit_is u; derives = (ap (λ (k : Lexeme). is_kind (kind l) (kind k)) o.says ∙ itself, o.whole) })
      (λ x tokens d. refl) (word_reads (kind l ∷ []))

  -- ---- a mark

  pub stands_kind : (c : ℕ) (l : Lexeme) → stands_by c l ≡ is_kind (mark_kind c) (kind l)
  stands_kind c (words.Mark m) = refl
  stands_kind c l = refl

  abbrev one_or : ℕ → Bool → Scan (Unit {0})
  one_or at b = if b then Ok (tt, 1) else Err (faults.Syntax at)

  one_is : (s : Seen) (b : Bool) → one_or s.at b ≡ moved 0 (λ x. tt) (token_by b s)
  one_is s true = refl
  one_is s false = refl

  mark_same : (c : ℕ) (xs : List Seen) → mark_at c edge xs ≡ moved 0 (λ s. tt) (word (mark_kind c ∷ []) xs)
  unfolding mark_at stands
  mark_same c [] = refl
  mark_same c (s ∷ ss) = ap (one_or s.at) (stands_kind c s.lexeme) ∙ one_is s (is_kind (mark_kind c) (kind s.lexeme))

  pub mark_reads : (c : ℕ) → Reads edge (IsLone (words.Mark c)) shallow (mark_at c edge) false (mark_kind c ∷ []) nothing_barred
  mark_reads c = lone_reads (words.Mark c) (mark_at c edge) (mark_same c) (mark_is c) (number_itself c)

  -- ---- a literal, a name

  literal_by_form : (at : ℕ) (l : Lexeme) (w : List ℕ) (ss : List Seen) →
      literal_at edge (record { at = at; lexeme = l; word = w } ∷ ss) ≡ moved 0 (λ s. tt) (word (literal_kind ∷ []) (record { at = at; lexeme = l; word = w } ∷ ss))
  unfolding literal_at
  literal_by_form at words.Literal w ss = refl
  literal_by_form at l w ss = refl

  literal_same : (xs : List Seen) → literal_at edge xs ≡ moved 0 (λ s. tt) (word (literal_kind ∷ []) xs)
  unfolding literal_at
  literal_same [] = refl
  literal_same (s ∷ ss) = literal_by_form s.at s.lexeme s.word ss

  pub literal_reads : Reads edge (IsLone words.Literal) shallow (literal_at edge) false (literal_kind ∷ []) nothing_barred
  literal_reads = lone_reads words.Literal (literal_at edge) literal_same literal_is refl

  id_by_form : (at : ℕ) (l : Lexeme) (w : List ℕ) (ss : List Seen) →
      id_at edge (record { at = at; lexeme = l; word = w } ∷ ss) ≡ moved 0 (λ s. tt) (word (name_kind ∷ []) (record { at = at; lexeme = l; word = w } ∷ ss))
  unfolding id_at
  id_by_form at words.Word w ss = refl
  id_by_form at l w ss = refl

  id_same : (xs : List Seen) → id_at edge xs ≡ moved 0 (λ s. tt) (word (name_kind ∷ []) xs)
  unfolding id_at
  id_same [] = refl
  id_same (s ∷ ss) = id_by_form s.at s.lexeme s.word ss

  pub id_reads : Reads edge (IsLone words.Word) shallow (id_at edge) false (name_kind ∷ []) nothing_barred
  id_reads = lone_reads words.Word (id_at edge) id_same name_is refl

-- ---- a name that is meant

pub name_means : (tokens : List Seen) → Is words.Word tokens → (n : Name) × Means n tokens
name_means tokens d =
    let o = is_one words.Word tokens d in
    (record { at = o.seen.at; text = o.seen.word }, subst (λ (ts : List Seen). Means (record { at = o.seen.at; text = o.seen.word }) ts) (sym o.whole) (Means.name o.seen o.says))

pub means_name : (n : Name) (tokens : List Seen) → Means n tokens → Is words.Word tokens
means_name _ _ (Means.name s e) = is_of words.Word s (s ∷ []) e refl

-- ---- examples of tokens

abbrev pub sample : Lexeme → Seen
sample l = record { at = 0; lexeme = l; word = [] }

abbrev pub some_lone : (l : Lexeme) → (u : Unit {0}) × (tokens : List Seen) × IsLone l u tokens
some_lone l = (tt, sample l ∷ [], one (sample l))
