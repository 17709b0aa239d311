-- The scan of a piece tells the gap or the longest token that stands at the front, or the fault.
use Rattle.std.proofs.Common.{◌≡◌, ℕ, suc, ◌+◌, ◌<◌, ◌≤◌, Bool, true, false, List, [], ◌∷◌, ◌++◌, length, Option, Some, None, Err, refl, sym, ap, ◌∙◌, subst, arith, ◌⊎◌, inl, inr, length-append}
use Rattle.std.specs.Prelude.{nat_lt, ◌==◌, ◌&&◌, ◌||◌}
use Rattle.std.specs.List.{list_all, prefix_len}
use Rattle.std.proofs.lemmas.Bool.{cases_Bool, cond_both, lt-ltb, eq-eqb, eqb-true, and_from, or_left, or_cases, not-false}
use Rattle.idl_lexer.specs.Bytes.{is_letter, is_digit, is_inner, is_mark, is_blank, literal_end, comment_end}
use Rattle.idl_lexer.specs.Grammar.{IsToken, IsQuoted, IsInComment, IsOneLine, IsLineEnd}
use Rattle.idl_lexer.specs.Grammar as grammar
use Rattle.idl_lexer.specs.Pieces.{Scan, begins, closed, slash_at, piece_at}
use Rattle.idl_lexer.specs.declared.token.TokenForm.{TokenForm}
use Rattle.idl_lexer.specs.declared.token.TokenForm.TheVariants as forms
use Rattle.idl_lexer.specs.declared.token.LexReason.TheVariants as reasons
use Rattle.lexis_laws.specs.Cutting.{IsGap}
use Rattle.lexis_laws.specs.Cutting as cuttings
use Rattle.lexis_laws.specs.Faults.{NothingFits, IsOpenComment, IsOpenLiteral, Fails}
use Rattle.lexis_laws.specs.Faults as faults
use Rattle.lexis_laws.proofs.Fronts.{run_cons, when_true, when_false, is_line, Apart, true_false, same_head, same_tail, begins_cons, regroup, run_least, Parted, parted}
use Rattle.lexis_laws.proofs.Literals.{Closed, literal_sound, literal_whole}
use Rattle.lexis_laws.proofs.Comments.{Shut, comment_sound, comment_whole}
use Rattle.lexis_laws.proofs.Firsts.{is_quote, is_number, TokenView, a_word, a_number, a_literal, a_mark, token_view, number_begins, first_is, no_kind, token_kind, slash_no_token, letter_no_number, letter_no_quote, letter_no_mark, mark_no_number, mark_no_quote, quote_no_number, quote_no_letter, quote_no_mark}
use Rattle.lexis_laws.proofs.Longest.{Bound}
use Rattle.lexis_laws.proofs.Right.{Right, GapAt, TokenAt, blanks, a_comment, a_gap, a_token, token_at}
use Rattle.lexis_laws.proofs.Numbers.{number_right, no_literal_by}

-- ---- whitespace, words and marks

-- one byte of the kind, and as many behind it as are of the kind
more_run : (kind : ℕ → Bool) (x : ℕ) (xs : List ℕ) → kind x ≡ true → (p : Parted kind xs) → prefix_len kind (x ∷ xs) ≡ suc (length p.front)
more_run kind x xs is p = run_cons (kind x) (prefix_len kind xs) is ∙ ap suc p.many

blank_right : (x : ℕ) (xs : List ℕ) → is_blank x ≡ true → Parted is_blank xs → GapAt (x ∷ xs) (prefix_len is_blank (x ∷ xs))
blank_right x xs is part = record {
  bytes = x ∷ part.front;
  rest = part.rest;
  joined = ap (λ ys. x ∷ ys) part.joined;
  many = more_run is_blank x xs is part;
  some = subst (λ n. 0 < n) (sym (more_run is_blank x xs is part)) (omega arith);
  gaps = blanks x part.front part.rest is part.all part.apart;
}

letter_inner : (x : ℕ) → is_letter x ≡ true → is_inner x ≡ true
letter_inner x is = or_left (is_letter x || is_digit x) (x == 46) (or_left (is_letter x) (is_digit x) is)

word_bound : (x : ℕ) (xs : List ℕ) → is_letter x ≡ true → Bound (x ∷ xs) (prefix_len is_inner (x ∷ xs))
word_bound x xs is form front rest e token = by_view form front e (token_view form front token)
  where
    by_view : (form : TokenForm) (front : List ℕ) → x ∷ xs ≡ front ++ rest → TokenView form front → length front ≤ prefix_len is_inner (x ∷ xs)
    by_view form front e (a_word b bs l a) =
        subst (λ ys. length (b ∷ bs) ≤ prefix_len is_inner ys) (sym e) (run_least is_inner (b ∷ bs) rest (and_from (is_inner b) (list_all is_inner bs) (letter_inner b l) a))
    by_view form front e (a_number f sign body n) = absurd (true_false (is_number x) (first_is x xs (sign ++ body) rest is_number e (number_begins f sign body n)) (letter_no_number x is))
    by_view form front e (a_literal q bs t i) = absurd (true_false (is_quote x) (ap is_quote (same_head x q xs ((bs ++ q ∷ []) ++ rest) e) ∙ t) (letter_no_quote x is))
    by_view form front e (a_mark m t) = absurd (true_false (is_mark x) (ap is_mark (same_head x m xs rest e) ∙ t) (letter_no_mark x is))

word_right : (x : ℕ) (xs : List ℕ) → is_letter x ≡ true → Parted is_inner xs → TokenAt (x ∷ xs) forms.Word (prefix_len is_inner (x ∷ xs))
word_right x xs is part =
    token_at forms.Word (x ∷ xs) (x ∷ part.front) part.rest (prefix_len is_inner (x ∷ xs)) (ap (λ ys. x ∷ ys) part.joined) (more_run is_inner x xs (letter_inner x is) part)
    (grammar.word x part.front is part.all) (word_bound x xs is) refl

mark_bound : (x : ℕ) (xs : List ℕ) → is_mark x ≡ true → is_letter x ≡ false → Bound (x ∷ xs) 1
mark_bound x xs is letter form front rest e token = by_view form front e (token_view form front token)
  where
    by_view : (form : TokenForm) (front : List ℕ) → x ∷ xs ≡ front ++ rest → TokenView form front → length front ≤ 1
    by_view form front e (a_word b bs l a) = absurd (true_false (is_letter x) (ap is_letter (same_head x b xs (bs ++ rest) e) ∙ l) letter)
    by_view form front e (a_number f sign body n) = absurd (true_false (is_number x) (first_is x xs (sign ++ body) rest is_number e (number_begins f sign body n)) (mark_no_number x is))
    by_view form front e (a_literal q bs t i) = absurd (true_false (is_quote x) (ap is_quote (same_head x q xs ((bs ++ q ∷ []) ++ rest) e) ∙ t) (mark_no_quote x is))
    by_view form front e (a_mark m t) = omega arith

mark_right : (x : ℕ) (xs : List ℕ) → is_mark x ≡ true → is_letter x ≡ false → TokenAt (x ∷ xs) (forms.Mark x) 1
mark_right x xs is letter = token_at (forms.Mark x) (x ∷ xs) (x ∷ []) xs 1 refl refl (grammar.mark x is) (mark_bound x xs is letter) refl

-- ---- comments

line_end : (rest : List ℕ) → Apart is_line rest → IsLineEnd rest
line_end [] apart = grammar.text_ends
line_end (y ∷ ys) apart = subst (λ z. IsLineEnd (z ∷ ys)) (sym (eqb-true y 10 (not-false (y == 10) apart))) (grammar.line_ends ys)

pub hash_right : (xs : List ℕ) → Parted is_line xs → GapAt (35 ∷ xs) (prefix_len is_line (35 ∷ xs))
hash_right xs part = record {
  bytes = 35 ∷ part.front;
  rest = part.rest;
  joined = ap (λ ys. 35 ∷ ys) part.joined;
  many = more_run is_line 35 xs refl part;
  some = subst (λ n. 0 < n) (sym (more_run is_line 35 xs refl part)) (omega arith);
  gaps = a_comment (35 ∷ part.front) part.rest (cuttings.hash part.front part.rest (record { all = part.all }) (line_end part.rest part.apart)) refl;
}

two_slashes : (xs : List ℕ) (part : Parted is_line xs) → prefix_len is_line (47 ∷ 47 ∷ xs) ≡ suc (suc (length part.front))
two_slashes xs part = run_cons true (prefix_len is_line (47 ∷ xs)) refl ∙ ap suc (more_run is_line 47 xs refl part)

pub slashes_right : (xs : List ℕ) → Parted is_line xs → GapAt (47 ∷ 47 ∷ xs) (prefix_len is_line (47 ∷ 47 ∷ xs))
slashes_right xs part = record {
  bytes = 47 ∷ 47 ∷ part.front;
  rest = part.rest;
  joined = ap (λ ys. 47 ∷ 47 ∷ ys) part.joined;
  many = two_slashes xs part;
  some = subst (λ n. 0 < n) (sym (two_slashes xs part)) (omega arith);
  gaps = a_comment (47 ∷ 47 ∷ part.front) part.rest (cuttings.slashes part.front part.rest (record { all = part.all }) (line_end part.rest part.apart)) refl;
}

pub shut_right : (xs : List ℕ) (n : ℕ) → Shut xs n → GapAt (47 ∷ 42 ∷ xs) (2 + n)
shut_right xs n shut = record {
  bytes = 47 ∷ 42 ∷ shut.inside;
  rest = shut.rest;
  joined = ap (λ ys. 47 ∷ 42 ∷ ys) shut.joined;
  many = let many = shut.many in omega (arith, many);
  some = omega arith;
  gaps = a_comment (47 ∷ 42 ∷ shut.inside) shut.rest (cuttings.comment shut.inside shut.rest shut.within) refl;
}

pub open_by : (xs : List ℕ) → comment_end false xs ≡ None → IsOpenComment (47 ∷ 42 ∷ xs)
open_by xs e = faults.open_comment xs (λ inside behind is within.
    let some : None ≡ Some (length inside) = sym e ∙ ap (comment_end false) is ∙ comment_whole inside behind within in absurd (cc))

-- a slash alone
no_first_two : (xs : List ℕ) → Apart (λ b. b == 47) xs → Apart (λ b. b == 42) xs → NothingFits (47 ∷ xs)
no_first_two xs slash star = record {
  some = (λ e. let wrong : suc (length xs) ≡ 0 = ap length e in omega (arith, wrong));
  no_gap = (λ front rest e gap. by_gap front rest e gap);
  no_token = (λ form front rest e token. no_kind form 47 slash_no_token (token_kind form 47 xs front rest e token));
  no_comment = by_comment (47 ∷ xs) refl;
  no_literal = no_literal_by 47 xs (47 ∷ xs) refl refl;
}
  where
    second : (y : ℕ) (ys : List ℕ) → (p : ℕ → Bool) → p y ≡ true → Apart p xs → xs ≡ y ∷ ys → ⊥
    second y ys p is apart e = true_false (p y) is (subst (Apart p) e apart)

    by_gap : (front rest : List ℕ) → 47 ∷ xs ≡ front ++ rest → IsGap front rest → ⊥
    by_gap front rest e (cuttings.whitespace b r is) = true_false (is_blank 47) (ap is_blank (same_head 47 b xs r e) ∙ is) refl
    by_gap front rest e (cuttings.hash line r one ends) = true_false (35 == 47) (eq-eqb 35 47 (sym (same_head 47 35 xs (line ++ r) e))) refl
    by_gap front rest e (cuttings.slashes line r one ends) = second 47 (line ++ r) (λ b. b == 47) refl slash (same_tail 47 47 xs (47 ∷ (line ++ r)) e)
    by_gap front rest e (cuttings.comment inside r within) = second 42 (inside ++ r) (λ b. b == 42) refl star (same_tail 47 47 xs (42 ∷ (inside ++ r)) e)

    by_comment : (bytes : List ℕ) → 47 ∷ xs ≡ bytes → IsOpenComment bytes → ⊥
    by_comment bytes e (faults.open_comment rest never) = second 42 rest (λ b. b == 42) refl star (same_tail 47 47 xs (42 ∷ rest) e)

slash_alone : slash_at (47 ∷ []) ≡ Err reasons.BadByte
unfolding slash_at
slash_alone = refl

-- by whether the end is found
pub by_end : {Q : Type 0} (close : Q → Option ℕ → Scan) (q : Q) (P : Scan → Type 0) (end : Option ℕ)
    → ((n : ℕ) → end ≡ Some n → P (close q (Some n))) → (end ≡ None → P (close q None)) → P (close q end)
by_end close q P (Some n) f g = f n refl
by_end close q P None f g = g refl

second_is : (y z : ℕ) (ys : List ℕ) (t : Bool) → (y == z) ≡ t → (nat_lt 1 (length (47 ∷ y ∷ ys)) && (y == z)) ≡ t
second_is y z ys t e = ap (λ u. u && (y == z)) (lt-ltb 1 (suc (suc (length ys))) (omega arith)) ∙ e

two_slashes_right : (ys : List ℕ) → Right (47 ∷ 47 ∷ ys) (slash_at (47 ∷ 47 ∷ ys))
unfolding slash_at
two_slashes_right ys =
    when_true (Right (47 ∷ 47 ∷ ys)) (nat_lt 1 (length (47 ∷ 47 ∷ ys)) && (47 == 47)) _ _ (second_is 47 47 ys true refl) (a_gap (47 ∷ 47 ∷ ys) _ _ (λ at len. refl) (slashes_right ys (parted is_line ys)))

comment_right : (ys : List ℕ) → Right (47 ∷ 42 ∷ ys) (slash_at (47 ∷ 42 ∷ ys))
unfolding slash_at
comment_right ys =
    when_false (Right (47 ∷ 42 ∷ ys)) (nat_lt 1 (length (47 ∷ 42 ∷ ys)) && (42 == 47)) _ _ (second_is 42 47 ys false refl)
    (when_true (Right (47 ∷ 42 ∷ ys)) (nat_lt 1 (length (47 ∷ 42 ∷ ys)) && (42 == 42)) _ _ (second_is 42 42 ys true refl)
    (by_end (λ q. closed q reasons.UnclosedComment 2) _ (Right (47 ∷ 42 ∷ ys)) (comment_end false ys)
    (λ n e. a_gap (47 ∷ 42 ∷ ys) _ (2 + n) (λ at len. refl) (shut_right ys n (comment_sound ys n e)))
    (λ e. faults.unclosed_comment (47 ∷ 42 ∷ ys) (open_by ys e))))

other_right : (y : ℕ) (ys : List ℕ) → (y == 47) ≡ false → (y == 42) ≡ false → Right (47 ∷ y ∷ ys) (slash_at (47 ∷ y ∷ ys))
unfolding slash_at
other_right y ys e f =
    when_false (Right (47 ∷ y ∷ ys)) (nat_lt 1 (length (47 ∷ y ∷ ys)) && (y == 47)) _ _ (second_is y 47 ys false e)
    (when_false (Right (47 ∷ y ∷ ys)) (nat_lt 1 (length (47 ∷ y ∷ ys)) && (y == 42)) _ _ (second_is y 42 ys false f)
    (faults.bad_byte (47 ∷ y ∷ ys) (no_first_two (y ∷ ys) e f)))

second_right : (y : ℕ) (ys : List ℕ) → ((y == 47) ≡ true) ⊎ ((y == 47) ≡ false) → ((y == 42) ≡ true) ⊎ ((y == 42) ≡ false) → Right (47 ∷ y ∷ ys) (slash_at (47 ∷ y ∷ ys))
second_right y ys (inl e) f = subst (λ z. Right (47 ∷ z ∷ ys) (slash_at (47 ∷ z ∷ ys))) (sym (eqb-true y 47 e)) (two_slashes_right ys)
second_right y ys (inr e) (inl f) = subst (λ z. Right (47 ∷ z ∷ ys) (slash_at (47 ∷ z ∷ ys))) (sym (eqb-true y 42 f)) (comment_right ys)
second_right y ys (inr e) (inr f) = other_right y ys e f

slash_right : (xs : List ℕ) → Right (47 ∷ xs) (slash_at (47 ∷ xs))
slash_right [] = subst (Right (47 ∷ [])) (sym slash_alone) (faults.bad_byte (47 ∷ []) (no_first_two [] tt tt))
slash_right (y ∷ ys) = second_right y ys (cases_Bool (y == 47)) (cases_Bool (y == 42))

-- ---- literals

pub quotes : (x : ℕ) → is_quote x ≡ true → (x ≡ 34) ⊎ (x ≡ 39)
quotes x e = by_test (or_cases (x == 34) (x == 39) e)
  where
    by_test : ((x == 34) ≡ true) ⊎ ((x == 39) ≡ true) → (x ≡ 34) ⊎ (x ≡ 39)
    by_test (inl h) = inl (eqb-true x 34 h)
    by_test (inr h) = inr (eqb-true x 39 h)

pub no_backslash : (x : ℕ) → (x ≡ 34) ⊎ (x ≡ 39) → (92 == x) ≡ false
no_backslash x (inl e) = ap (λ y. 92 == y) e
no_backslash x (inr e) = ap (λ y. 92 == y) e

quoted_token : (x : ℕ) (bytes : List ℕ) → (x ≡ 34) ⊎ (x ≡ 39) → IsQuoted x bytes → IsToken forms.Literal (x ∷ (bytes ++ x ∷ []))
quoted_token x bytes (inl e) q = subst (λ y. IsToken forms.Literal (y ∷ (bytes ++ y ∷ []))) (sym e) (grammar.double_quoted bytes (subst (λ y. IsQuoted y bytes) e q))
quoted_token x bytes (inr e) q = subst (λ y. IsToken forms.Literal (y ∷ (bytes ++ y ∷ []))) (sym e) (grammar.single_quoted bytes (subst (λ y. IsQuoted y bytes) e q))

pub same_end : (o : Option ℕ) (m n : ℕ) → o ≡ Some m → o ≡ Some n → m ≡ n
same_end o m n e f = let both : Some m ≡ Some n = sym e ∙ f in cc

literal_bound : (x : ℕ) (xs : List ℕ) (n : ℕ) → is_quote x ≡ true → literal_end false x xs ≡ Some n → Bound (x ∷ xs) (1 + n)
literal_bound x xs n is found form front rest e token = by_view form front e (token_view form front token)
  where
    by_view : (form : TokenForm) (front : List ℕ) → x ∷ xs ≡ front ++ rest → TokenView form front → length front ≤ 1 + n
    by_view form front e (a_word b bs l a) = absurd (true_false (is_letter x) (ap is_letter (same_head x b xs (bs ++ rest) e) ∙ l) (quote_no_letter x is))
    by_view form front e (a_number f sign body k) = absurd (true_false (is_number x) (first_is x xs (sign ++ body) rest is_number e (number_begins f sign body k)) (quote_no_number x is))
    by_view form front e (a_literal q bs t i) =
        let quote : x ≡ q = same_head x q xs ((bs ++ q ∷ []) ++ rest) e in
        let laid : xs ≡ bs ++ q ∷ rest = same_tail x q xs ((bs ++ q ∷ []) ++ rest) e ∙ regroup bs (q ∷ []) rest in
        let found_there : literal_end false x xs ≡ Some (length bs + 1) =
        ap (λ y. literal_end false y xs) quote ∙ ap (literal_end false q) laid ∙ literal_whole q bs rest (no_backslash q (quotes q t)) i in
        let size = same_end (literal_end false x xs) n (length bs + 1) found found_there in
        let total = length-append bs (q ∷ []) in
        omega (arith, size, total)
    by_view form front e (a_mark m t) = absurd (true_false (is_mark x) (ap is_mark (same_head x m xs rest e) ∙ t) (quote_no_mark x is))

pub closed_right : (x : ℕ) (xs : List ℕ) (n : ℕ) → is_quote x ≡ true → literal_end false x xs ≡ Some n → Closed x xs n → TokenAt (x ∷ xs) forms.Literal (1 + n)
closed_right x xs n is e c =
    let laid : x ∷ xs ≡ (x ∷ (c.bytes ++ x ∷ [])) ++ c.rest = ap (λ ys. x ∷ ys) (c.joined ∙ sym (regroup c.bytes (x ∷ []) c.rest)) in
    let many = c.many in
    let total = length-append c.bytes (x ∷ []) in
    let size : 1 + n ≡ length (x ∷ (c.bytes ++ x ∷ [])) = omega (arith, many, total) in
    token_at forms.Literal (x ∷ xs) (x ∷ (c.bytes ++ x ∷ [])) c.rest (1 + n) laid size (quoted_token x c.bytes (quotes x is) c.quoted) (literal_bound x xs n is e) refl

pub open_literal_by : (x : ℕ) (xs : List ℕ) → is_quote x ≡ true → literal_end false x xs ≡ None → IsOpenLiteral (x ∷ xs)
open_literal_by x xs is e = faults.open_literal x xs (quotes x is) (λ bytes behind laid q.
    let some : None ≡ Some (length bytes + 1) = sym e ∙ ap (literal_end false x) laid ∙ literal_whole x bytes behind (no_backslash x (quotes x is)) q in absurd (cc))

-- ---- any piece

module _ (x : ℕ) (xs : List ℕ) where
  test : (p : ℕ → Bool) (t : Bool) → begins p (x ∷ xs) ≡ t → p x ≡ t
  test p t e = sym (begins_cons p x xs) ∙ e

  pub piece_right : Right (x ∷ xs) (piece_at (x ∷ xs))
  unfolding piece_at
  piece_right =
      cond_both (begins is_blank (x ∷ xs)) _ _ (Right (x ∷ xs)) (λ b. a_gap (x ∷ xs) _ _ (λ at len. refl) (blank_right x xs (test is_blank true b) (parted is_blank xs))) λ b.
      cond_both (begins is_letter (x ∷ xs)) _ _ (Right (x ∷ xs)) (λ l. a_token (x ∷ xs) _ _ forms.Word (λ at len. refl) (word_right x xs (test is_letter true l) (parted is_inner xs))) λ l.
      cond_both (begins is_mark (x ∷ xs)) _ _ (Right (x ∷ xs)) (λ m. a_token (x ∷ xs) _ _ (forms.Mark x) (λ at len. refl) (mark_right x xs (test is_mark true m) (test is_letter false l))) λ m.
      cond_both (begins (λ c. c == 35) (x ∷ xs)) _ _ (Right (x ∷ xs)) (λ h. a_gap (x ∷ xs) _ _ (λ at len. refl) (hash_gap (eqb-true x 35 (test (λ c. c == 35) true h)))) λ h.
      cond_both (begins (λ c. c == 47) (x ∷ xs)) _ _ (Right (x ∷ xs)) (λ s. slash_piece (eqb-true x 47 (test (λ c. c == 47) true s))) λ s.
      cond_both (begins is_quote (x ∷ xs)) _ _ (Right (x ∷ xs)) (λ q. by_end (λ q. closed q reasons.UnclosedLiteral 1) _ (Right (x ∷ xs)) (literal_end false x xs)
      (λ n e. a_token (x ∷ xs) _ (1 + n) forms.Literal (λ at len. refl) (closed_right x xs n (test is_quote true q) e (literal_sound x xs n e)))
      (λ e. faults.unclosed_literal (x ∷ xs) (open_literal_by x xs (test is_quote true q) e))) λ q.
      number_right x xs (record { blank = test is_blank false b; letter = test is_letter false l; mark = test is_mark false m; hash = test (λ c. c == 35) false h; slash = test (λ c. c == 47) false s; quote = test is_quote false q })
    where
      hash_gap : x ≡ 35 → GapAt (x ∷ xs) (prefix_len is_line (x ∷ xs))
      hash_gap e = subst (λ y. GapAt (y ∷ xs) (prefix_len is_line (y ∷ xs))) (sym e) (hash_right xs (parted is_line xs))

      slash_piece : x ≡ 47 → Right (x ∷ xs) (slash_at (x ∷ xs))
      slash_piece e = subst (λ y. Right (y ∷ xs) (slash_at (y ∷ xs))) (sym e) (slash_right xs)
