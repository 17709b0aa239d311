-- A bad byte is told by three bytes, and a big number by its bytes and three behind.
use Rattle.std.proofs.Common.{◌≡◌, ℕ, ℤ, suc, ◌+◌, true, false, List, [], ◌∷◌, ◌++◌, length, take, drop, Option, Some, None, refl, sym, ap, ◌∙◌, subst, arith, length-append, take-append-drop, take-take}
use Rattle.std.specs.List.{list_all}
use Rattle.std.proofs.lemmas.List.{take-append-le}
use Rattle.idl_lexer.specs.Bytes.{is_digit, is_letter, is_mark, is_blank, literal_end, comment_end}
use Rattle.idl_lexer.specs.Grammar.{IsToken, IsSign, IsDigits, IsMantissa, IsExponent, is_in_range}
use Rattle.idl_lexer.specs.Grammar as grammar
use Rattle.idl_lexer.specs.declared.token.Token.{Token}
use Rattle.idl_lexer.specs.declared.token.TokenForm.{TokenForm}
use Rattle.idl_lexer.specs.declared.token.TokenForm.TheVariants as forms
use Rattle.idl_lexer.specs.declared.token.LexReason.{LexReason}
use Rattle.idl_lexer.specs.declared.token.LexReason.TheVariants as reasons
use Rattle.lexis_laws.specs.Cutting.{IsGap, Stands, Cuts}
use Rattle.lexis_laws.specs.Cutting as cuttings
use Rattle.lexis_laws.specs.Faults.{IsOpenComment, IsOpenLiteral, NothingFits, Fails, IsFaultOf, fault_at}
use Rattle.lexis_laws.specs.Faults as faults
use Rattle.lexis_laws.proofs.Fronts.{same_head, same_tail, take_front, drop_front, regroup, is_line, parted}
use Rattle.lexis_laws.proofs.Literals.{literal_sound}
use Rattle.lexis_laws.proofs.Comments.{comment_sound}
use Rattle.lexis_laws.proofs.Firsts.{IsNumber, TokenView, a_word, a_number, a_literal, a_mark, token_view, is_quote, number_sign}
use Rattle.lexis_laws.proofs.Firsts as numbers
use Rattle.lexis_laws.proofs.Numbers.{quote_is}
use Rattle.lexis_laws.proofs.Right.{GapAt}
use Rattle.lexis_laws.proofs.Piece.{hash_right, slashes_right, shut_right, open_by, closed_right, open_literal_by}
use Rattle.lexis_laws.proofs.Cut.{gap_of}
use Rattle.lexis_laws.proofs.Local.{Next, fewer, digits_next, next_more, behind_point, sign_small, stands_so, behind_is, same_behind, no_further}

-- ---- a token has one of three bytes at most at its front

digits_first : (sign digits : List ℕ) → IsSign sign → IsDigits digits → Next (sign ++ digits) 0
digits_first sign digits s d =
    let some = d.some in
    let total = length-append sign digits in
    digits_next sign digits 0 s d (omega (arith, some, total))

pointed_first : (sign front digits : List ℕ) → IsSign sign → list_all is_digit front ≡ true → IsDigits digits → Next (sign ++ (front ++ 46 ∷ digits)) 0
pointed_first sign [] digits s a d =
    let small = sign_small sign s in
    let outer = length-append sign (46 ∷ digits) in
    let inner = length-append sign [] in
    behind_point sign [] digits 0 s refl d (omega (arith, small, inner)) (omega (arith, outer))
pointed_first sign (x ∷ xs) digits s a d =
    subst (λ ys. Next ys 0) (regroup sign (x ∷ xs) (46 ∷ digits)) (next_more (sign ++ (x ∷ xs)) (46 ∷ digits) 0 (digits_first sign (x ∷ xs) s (record { some = omega arith; all = a })))

mantissa_first : (sign mantissa : List ℕ) → IsSign sign → IsMantissa mantissa → Next (sign ++ mantissa) 0
mantissa_first sign mantissa s (grammar.whole digits d) = digits_first sign digits s d
mantissa_first sign mantissa s (grammar.pointed front digits a d) = pointed_first sign front digits s a d

number_first : (form : TokenForm) (sign body : List ℕ) → IsSign sign → IsNumber form sign body → Next (sign ++ body) 0
number_first form sign body i (numbers.decimal s digits z d j) = digits_first s digits i d
number_first form sign body i (numbers.hexadecimal s digits z some all j) =
    subst (λ xs. Next xs 0) (regroup s (48 ∷ []) (120 ∷ digits)) (next_more (s ++ 48 ∷ []) (120 ∷ digits) 0 (digits_first s (48 ∷ []) i (record { some = omega arith; all = refl })))
number_first form sign body i (numbers.pointed s front digits j a d) = pointed_first s front digits i a d
number_first form sign body i (numbers.raised s mantissa exponent j m x) =
    subst (λ xs. Next xs 0) (regroup s mantissa exponent) (next_more (s ++ mantissa) exponent 0 (mantissa_first s mantissa i m))

word_first : (b : ℕ) (bs : List ℕ) → is_letter b ≡ true → Next (b ∷ bs) 0
word_first b bs l = record { size = 1; form = forms.Word; more = omega arith; few = omega arith; within = omega arith; token = grammar.word b [] l refl }

mark_first : (m : ℕ) → is_mark m ≡ true → Next (m ∷ []) 0
mark_first m is = record { size = 1; form = forms.Mark m; more = omega arith; few = omega arith; within = omega arith; token = grammar.mark m is }

-- ---- nothing fits, by three bytes

-- bytes that begin as others do
record Begun (x : ℕ) (xs bytes : List ℕ) (n : ℕ) : Type 0 where
  rest : List ℕ
  joined : bytes ≡ x ∷ rest
  same : take n xs ≡ take n rest

begun : (x : ℕ) (xs bytes : List ℕ) (n : ℕ) → take (suc n) (x ∷ xs) ≡ take (suc n) bytes → Begun x xs bytes n
begun x xs [] n e = absurd (cc)
begun x xs (y ∷ ys) n e = record { rest = ys; joined = ap (λ z. z ∷ ys) (sym (same_head x y (take n xs) (take n ys) e)); same = same_tail x y (take n xs) (take n ys) e }

module _ (bytes : List ℕ) (never : NothingFits bytes) where
  no_gap_at : (text : List ℕ) (n : ℕ) → bytes ≡ text → GapAt text n → ⊥
  no_gap_at text n e g = let gap = gap_of text n g in never.no_gap gap.bytes gap.rest (e ∙ gap.joined_so) gap.is

  no_blank : (b : ℕ) (bs : List ℕ) → is_blank b ≡ true → bytes ≡ b ∷ bs → ⊥
  no_blank b bs is e = never.no_gap (b ∷ []) bs e (cuttings.whitespace b bs is)

  no_hash : (bs : List ℕ) → bytes ≡ 35 ∷ bs → ⊥
  no_hash bs e = no_gap_at (35 ∷ bs) _ e (hash_right bs (parted is_line bs))

  no_slashes : (bs : List ℕ) → bytes ≡ 47 ∷ 47 ∷ bs → ⊥
  no_slashes bs e = no_gap_at (47 ∷ 47 ∷ bs) _ e (slashes_right bs (parted is_line bs))

  no_star : (bs : List ℕ) → bytes ≡ 47 ∷ 42 ∷ bs → ⊥
  no_star bs e = by_comment_end (comment_end false bs) refl
    where
      by_comment_end : (end : Option ℕ) → comment_end false bs ≡ end → ⊥
      by_comment_end (Some n) f = no_gap_at (47 ∷ 42 ∷ bs) (2 + n) e (shut_right bs n (comment_sound bs n f))
      by_comment_end None f = never.no_comment (subst IsOpenComment (sym e) (open_by bs f))

  no_quote : (q : ℕ) (bs : List ℕ) → is_quote q ≡ true → bytes ≡ q ∷ bs → ⊥
  no_quote q bs is e = by_literal_end (literal_end false q bs) refl
    where
      by_literal_end : (end : Option ℕ) → literal_end false q bs ≡ end → ⊥
      by_literal_end (Some n) f =
          let t = closed_right q bs n is f (literal_sound q bs n f) in
          never.no_token forms.Literal t.bytes t.rest (e ∙ t.joined) t.stands.token
      by_literal_end None f = never.no_literal (subst IsOpenLiteral (sym e) (open_literal_by q bs is f))

  -- others with the same three bytes in front
  module _ (other : List ℕ) (same : take 3 other ≡ take 3 bytes) where
    first_so : (x : ℕ) (xs : List ℕ) → other ≡ x ∷ xs → Begun x xs bytes 2
    first_so x xs e = begun x xs bytes 2 (ap (take 3) (sym e) ∙ same)

    second_so : (x y : ℕ) (xs : List ℕ) → other ≡ x ∷ y ∷ xs → (rest : List ℕ) × (bytes ≡ x ∷ y ∷ rest)
    second_so x y xs e =
        let first = first_so x (y ∷ xs) e in
        let second = begun y xs first.rest 1 first.same in
        (second.rest, first.joined ∙ ap (λ ys. x ∷ ys) second.joined)

    other_no_gap : (front rest : List ℕ) → other ≡ front ++ rest → IsGap front rest → ⊥
    other_no_gap front rest e (cuttings.whitespace b r is) = let first = first_so b r e in no_blank b first.rest is first.joined
    other_no_gap front rest e (cuttings.hash line r one ends) = let first = first_so 35 (line ++ r) e in no_hash first.rest first.joined
    other_no_gap front rest e (cuttings.slashes line r one ends) = let two = second_so 47 47 (line ++ r) e in no_slashes two.0 two.1
    other_no_gap front rest e (cuttings.comment inside r within) = let two = second_so 47 42 (inside ++ r) e in no_star two.0 two.1

    other_no_comment : (text : List ℕ) → other ≡ text → IsOpenComment text → ⊥
    other_no_comment text e (faults.open_comment r no_end) = let two = second_so 47 42 r e in no_star two.0 two.1

    other_no_literal : (text : List ℕ) → other ≡ text → IsOpenLiteral text → ⊥
    other_no_literal text e (faults.open_literal q r is no_end) = let first = first_so q r e in no_quote q first.rest (quote_is q is) first.joined

    no_first : (front rest : List ℕ) → other ≡ front ++ rest → Next front 0 → ⊥
    no_first front rest e next =
        let few = next.few in
        let here : take next.size front ≡ take next.size bytes =
        sym (take-append-le next.size front rest next.within) ∙ ap (take next.size) (sym e) ∙ fewer next.size other bytes few same in
        never.no_token next.form (take next.size bytes) (drop next.size bytes) (sym (take-append-drop next.size bytes)) (subst (IsToken next.form) here next.token)

    other_no_token : (form : TokenForm) (front rest : List ℕ) → other ≡ front ++ rest → TokenView form front → ⊥
    other_no_token form front rest e (a_word b bs l all) = no_first (b ∷ bs) rest e (word_first b bs l)
    other_no_token form front rest e (a_number f sign body n) = no_first (sign ++ body) rest e (number_first f sign body (number_sign f sign body n) n)
    other_no_token form front rest e (a_literal q bs t i) = let first = first_so q ((bs ++ q ∷ []) ++ rest) e in no_quote q first.rest t first.joined
    other_no_token form front rest e (a_mark m t) = no_first (m ∷ []) rest e (mark_first m t)

    other_some : other ≡ [] → ⊥
    other_some e = nothing_left bytes (sym same ∙ ap (take 3) e) never.some
      where
        nothing_left : (bs : List ℕ) → take 3 bs ≡ [] → (bs ≡ [] → ⊥) → ⊥
        nothing_left [] f g = g refl
        nothing_left (b ∷ bs) f g = absurd (cc)

    pub nothing_so : NothingFits other
    nothing_so = record {
      some = other_some;
      no_gap = other_no_gap;
      no_token = (λ form front rest e token. other_no_token form front rest e (token_view form front token));
      no_comment = other_no_comment other refl;
      no_literal = other_no_literal other refl;
    }

-- ---- the faults of a text

nothing_of : (bytes : List ℕ) → Fails reasons.BadByte bytes → NothingFits bytes
nothing_of bytes f = by_reason reasons.BadByte bytes refl f
  where
    by_reason : (reason : LexReason) (bs : List ℕ) → reason ≡ reasons.BadByte → Fails reason bs → NothingFits bs
    by_reason reason bs e (faults.bad_byte xs never) = never
    by_reason reason bs e (faults.unclosed_comment xs open_so) = absurd (cc)
    by_reason reason bs e (faults.unclosed_literal xs open_so) = absurd (cc)
    by_reason reason bs e (faults.big_number z xs rest stands out) = absurd (cc)

pub bad_byte_so : (text other : List ℕ) (at : ℕ) → IsFaultOf text (fault_at at reasons.BadByte) → take (at + 3) text ≡ take (at + 3) other → IsFaultOf other (fault_at at reasons.BadByte)
bad_byte_so text other at f e =
    let same : take 3 (drop at other) ≡ take 3 f.rest = sym (same_behind text other at 3 e) ∙ ap (take 3) (behind_is text f.tokens at f.rest f.cut) in
    record {
      tokens = f.tokens;
      rest = drop at other;
      cut = no_further text other f.rest f.tokens at f.cut e;
      fails = faults.bad_byte (drop at other) (nothing_so f.rest (nothing_of f.rest f.fails) (drop at other) same);
    }

-- bytes that begin with these, and with three behind them
split_so : (bytes rest other : List ℕ) → take (length bytes + 3) (bytes ++ rest) ≡ take (length bytes + 3) other → (other ≡ bytes ++ drop (length bytes) other) × (take 3 rest ≡ take 3 (drop (length bytes) other))
split_so bytes rest other e =
    let n = length bytes in
    let front : bytes ≡ take n other =
    sym (take_front bytes rest) ∙ sym (take-take n (n + 3) (bytes ++ rest) (omega arith)) ∙ ap (take n) e ∙ take-take n (n + 3) other (omega arith) in
    (sym (take-append-drop n other) ∙ ap (λ xs. xs ++ drop n other) (sym front), ap (take 3) (sym (drop_front bytes rest)) ∙ same_behind (bytes ++ rest) other n 3 e)

pub big_number_so : (text other bytes rest : List ℕ) (tokens : List Token) (at : ℕ) (z : ℤ) → Cuts 0 text tokens at (bytes ++ rest) → Stands (forms.Int z) bytes rest → is_in_range (forms.Int z) ≡ false
    → take (at + (length bytes + 3)) text ≡ take (at + (length bytes + 3)) other → IsFaultOf other (fault_at at reasons.BigNumber)
big_number_so text other bytes rest tokens at z c s out e =
    let n = length bytes + 3 in
    let behind : take n (bytes ++ rest) ≡ take n (drop at other) = ap (take n) (sym (behind_is text tokens at (bytes ++ rest) c)) ∙ same_behind text other at n e in
    let split = split_so bytes rest (drop at other) behind in
    let three : take (at + 3) text ≡ take (at + 3) other =
    sym (take-take (at + 3) (at + n) text (omega arith)) ∙ ap (take (at + 3)) e ∙ take-take (at + 3) (at + n) other (omega arith) in
    let tail = drop (length bytes) (drop at other) in
    record {
      tokens = tokens;
      rest = drop at other;
      cut = no_further text other (bytes ++ rest) tokens at c three;
      fails = subst (Fails reasons.BigNumber) (sym split.0) (faults.big_number z bytes tail (stands_so (forms.Int z) bytes rest tail s split.1) out);
    }
