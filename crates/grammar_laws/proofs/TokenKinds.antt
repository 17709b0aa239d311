-- Kinds of lexemes: with which a part may begin, and which may not stand behind it.
use Rattle.std.proofs.Common.{◌≡◌, ◌∙◌, ap, sym, refl, ℕ, List, [], ◌∷◌, ◌++◌, Bool, true, false, ◌==◌, ◌&&◌, ◌||◌, not, ◌⊎◌, inl, inr, arith}
use Rattle.std.proofs.lemmas.Bool.Decides.{nat_tests}
use Rattle.grammar_laws.proofs.Lexicon.{Lexeme}
use Rattle.grammar_laws.proofs.Lexicon as words
use Rattle.grammar_laws.proofs.Lexicon.{Keyword}

-- all base types are of one kind
abbrev pub rank : Keyword → ℕ
rank (words.Base word) = 0
rank words.Map = 1
rank words.Set = 2
rank words.ListWord = 3
rank words.CppType = 4
rank words.Void = 5
rank words.Oneway = 6
rank words.Throws = 7
rank words.Extends = 8
rank words.Required = 9
rank words.Optional = 10
rank words.Include = 11
rank words.CppInclude = 12
rank words.Namespace = 13
rank words.Const = 14
rank words.Typedef = 15
rank words.Enum = 16
rank words.Struct = 17
rank words.Union = 18
rank words.Exception = 19
rank words.Service = 20

-- the form of a lexeme, and which keyword or mark it is
pub record Kind : Type 0 where
  pub form : ℕ
  pub which : ℕ

abbrev pub kind : Lexeme → Kind
kind words.End = record { form = 0; which = 0 }
kind words.Word = record { form = 1; which = 0 }
kind (words.Int z) = record { form = 2; which = 0 }
kind words.Double = record { form = 3; which = 0 }
kind words.Literal = record { form = 4; which = 0 }
kind (words.Reserved word) = record { form = 5; which = rank word }
kind (words.Mark mark) = record { form = 6; which = mark }

abbrev pub is_kind : Kind → Kind → Bool
is_kind a b = b.form == a.form && b.which == a.which

abbrev pub among : List Kind → Kind → Bool
among [] k = false
among (a ∷ []) k = is_kind a k
among (a ∷ b ∷ ks) k = is_kind a k || among (b ∷ ks) k

-- none of these kinds passes the test
abbrev pub free : List Kind → (Kind → Bool) → Bool
free [] bar = true
free (k ∷ ks) bar = not (bar k) && free ks bar

pub either_way : (b : Bool) → (b ≡ true) ⊎ (b ≡ false)
either_way true = inl refl
either_way false = inr refl

and_both : (a b : Bool) → (a && b) ≡ true → (a ≡ true) × (b ≡ true)
and_both true b e = (refl, e)
and_both false b e = absurd (cc)

or_either : (a b : Bool) → (a || b) ≡ true → (a ≡ true) ⊎ (b ≡ true)
or_either true b e = inl refl
or_either false b e = inr e

pub or_neither : (a b : Bool) → (a || b) ≡ false → (a ≡ false) × (b ≡ false)
or_neither true b e = absurd (cc)
or_neither false b e = (refl, e)

pub not_true : (a : Bool) → not a ≡ true → a ≡ false
not_true true e = absurd (cc)
not_true false e = refl

pub number_is : (a b : ℕ) → (a == b) ≡ true → a ≡ b
number_is a b e = grind (arith, nat_tests)

pub number_itself : (a : ℕ) → (a == a) ≡ true
number_itself a = grind (arith, nat_tests)

pub kind_is : (a b : Kind) → is_kind a b ≡ true → a ≡ b
kind_is a b e =
    let both = and_both (b.form == a.form) (b.which == a.which) e in
    ap (λ (n : ℕ). let k : Kind = record { form = n; which = a.which } in k) (sym (number_is b.form a.form both.0))
    ∙ ap (λ (n : ℕ). let k : Kind = record { form = b.form; which = n } in k) (sym (number_is b.which a.which both.1))

among_either : (a : Kind) (ks : List Kind) (k : Kind) → among (a ∷ ks) k ≡ true → (is_kind a k ≡ true) ⊎ (among ks k ≡ true)
among_either a [] k e = inl e
among_either a (b ∷ ks) k e = or_either (is_kind a k) (among (b ∷ ks) k) e

among_neither : (a : Kind) (ks : List Kind) (k : Kind) → among (a ∷ ks) k ≡ false → (is_kind a k ≡ false) × (among ks k ≡ false)
among_neither a [] k e = (e, refl)
among_neither a (b ∷ ks) k e = or_neither (is_kind a k) (among (b ∷ ks) k) e

among_one : (a : Kind) (ks : List Kind) (k : Kind) → is_kind a k ≡ true → among (a ∷ ks) k ≡ true
among_one a [] k e = e
among_one a (b ∷ ks) k e = ap (λ (t : Bool). t || among (b ∷ ks) k) e

or_true : (a : Bool) → (a || true) ≡ true
or_true true = refl
or_true false = refl

among_more : (a : Kind) (ks : List Kind) (k : Kind) → among ks k ≡ true → among (a ∷ ks) k ≡ true
among_more a [] k e = absurd (cc)
among_more a (b ∷ ks) k e = ap (λ (t : Bool). is_kind a k || t) e ∙ or_true (is_kind a k)

pub free_is : (ks : List Kind) (bar : Kind → Bool) (k : Kind) → free ks bar ≡ true → among ks k ≡ true → bar k ≡ false
free_is [] bar k f e = absurd (cc)
free_is (a ∷ ks) bar k f e = by (free_is ks bar k) (and_both (not (bar a)) (free ks bar) f) (among_either a ks k e)
  where
    by : (free ks bar ≡ true → among ks k ≡ true → bar k ≡ false) → (not (bar a) ≡ true) × (free ks bar ≡ true) → (is_kind a k ≡ true) ⊎ (among ks k ≡ true) → bar k ≡ false
    by rest both (inl h) = ap bar (sym (kind_is a k h)) ∙ not_true (bar a) both.0
    by rest both (inr h) = rest both.1 h

pub among_left : (ks bs : List Kind) (k : Kind) → among ks k ≡ true → among (ks ++ bs) k ≡ true
among_left [] bs k e = absurd (cc)
among_left (a ∷ ks) bs k e = by (among_left ks bs k) (among_either a ks k e)
  where
    by : (among ks k ≡ true → among (ks ++ bs) k ≡ true) → (is_kind a k ≡ true) ⊎ (among ks k ≡ true) → among (a ∷ (ks ++ bs)) k ≡ true
    by rest (inl h) = among_one a (ks ++ bs) k h
    by rest (inr h) = among_more a (ks ++ bs) k (rest h)

pub among_right : (ks bs : List Kind) (k : Kind) → among bs k ≡ true → among (ks ++ bs) k ≡ true
among_right [] bs k e = e
among_right (a ∷ ks) bs k e = among_more a (ks ++ bs) k (among_right ks bs k e)

-- a mark, and what is no such mark
abbrev pub mark_kind : ℕ → Kind
mark_kind mark = record { form = 6; which = mark }

abbrev pub word_kind : Keyword → Kind
word_kind word = record { form = 5; which = rank word }

abbrev pub name_kind : Kind
name_kind = record { form = 1; which = 0 }

abbrev pub int_kind : Kind
int_kind = record { form = 2; which = 0 }

abbrev pub double_kind : Kind
double_kind = record { form = 3; which = 0 }

abbrev pub literal_kind : Kind
literal_kind = record { form = 4; which = 0 }

abbrev pub base_kind : Kind
base_kind = record { form = 5; which = 0 }

abbrev pub nothing_barred : Kind → Bool
nothing_barred k = false

abbrev pub both_barred : Bool → (Kind → Bool) → (Kind → Bool) → Kind → Bool
both_barred true front back k = back k || front k
both_barred false front back k = back k

abbrev pub if_so : Bool → List Kind → List Kind
if_so true ks = ks
if_so false ks = []

pub free_nothing : (ks : List Kind) → free ks nothing_barred ≡ true
free_nothing [] = refl
free_nothing (k ∷ ks) = free_nothing ks
