-- What is cut is read: each piece of a cutting is the one that is read there, and a fault that stands somewhere is told.
use Rattle.std.proofs.Common.{◌≡◌, ℕ, suc, ◌+◌, ◌<◌, true, false, cond, List, [], ◌∷◌, ◌++◌, length, drop, Option, Some, None, Err, refl, sym, ap, ◌∙◌, subst, arith, ◌⊎◌, inl, inr, length-append}
use Rattle.std.specs.Prelude.{◌==◌}
use Rattle.std.specs.List.{list_all, prefix_len}
use Rattle.std.proofs.lemmas.Bool.{cases_Bool, cond-true, cond-false, and_from, eq-eqb}
use Rattle.idl_lexer.specs.Bytes.{is_blank, is_letter, is_mark, comment_end}
use Rattle.idl_lexer.specs.Grammar.{IsToken, IsQuoted, IsInComment, IsLineEnd, is_in_range}
use Rattle.idl_lexer.specs.Grammar as grammar
use Rattle.idl_lexer.specs.Tokens.{joined, tokens_from}
use Rattle.idl_lexer.specs.declared.token.Token.{Token}
use Rattle.idl_lexer.specs.declared.token.TokenForm.{TokenForm}
use Rattle.idl_lexer.specs.declared.token.TokenForm.TheVariants as forms
use Rattle.idl_lexer.specs.declared.token.LexReason.{LexReason}
use Rattle.idl_lexer.specs.declared.token.LexReason.TheVariants as reasons
use Rattle.idl_lexer.proofs.Reading.{joined_twice}
use Rattle.lexis_laws.specs.Cutting.{IsGap, Stands, Cuts}
use Rattle.lexis_laws.specs.Cutting as cuttings
use Rattle.lexis_laws.specs.Faults.{Fails, IsOpenComment, IsOpenLiteral, NothingFits}
use Rattle.lexis_laws.specs.Faults as faults
use Rattle.lexis_laws.proofs.Fronts.{run_cons, Apart, is_line, true_false, same_head, same_tail, same_front, drop_front, regroup, run_cut}
use Rattle.lexis_laws.proofs.Comments.{comment_whole}
use Rattle.lexis_laws.proofs.Firsts.{is_quote, is_number, TokenView, a_word, a_number, a_literal, a_mark, token_view, number_begins, first_is, NoToken, no_kind, token_kind, blank_no_token, hash_no_token, slash_no_token, quote_no_letter, quote_no_number, quote_no_mark}
use Rattle.lexis_laws.proofs.Numbers.{quote_is}
use Rattle.lexis_laws.proofs.Right.{GapAt, TokenAt, AreGaps, blanks, a_comment}
use Rattle.lexis_laws.proofs.Single.{one_token, token_some}
use Rattle.lexis_laws.proofs.Steps.{joined_none, Step, over_gap, over_token, at_fault, step, token_of}

-- ---- what stands there is one thing

gap_first : (x : ℕ) (xs bytes rest : List ℕ) → x ∷ xs ≡ bytes ++ rest → IsGap bytes rest → NoToken x
gap_first x xs bytes rest e (cuttings.whitespace b r is) = blank_no_token x (ap is_blank (same_head x b xs r e) ∙ is)
gap_first x xs bytes rest e (cuttings.hash line r one ends) = subst NoToken (sym (same_head x 35 xs (line ++ r) e)) hash_no_token
gap_first x xs bytes rest e (cuttings.slashes line r one ends) = subst NoToken (sym (same_head x 47 xs ((47 ∷ line) ++ r) e)) slash_no_token
gap_first x xs bytes rest e (cuttings.comment inside r within) = subst NoToken (sym (same_head x 47 xs ((42 ∷ inside) ++ r) e)) slash_no_token

-- some gaps begin with one
pub record FirstGap (text : List ℕ) : Type 0 where
  pub bytes : List ℕ
  pub rest : List ℕ
  pub joined_so : text ≡ bytes ++ rest
  pub is : IsGap bytes rest

first_gap : (text bytes rest : List ℕ) → text ≡ bytes ++ rest → AreGaps bytes rest → FirstGap text
first_gap text bytes rest e (a_comment bs r gap apart) = record { bytes = bs; rest = r; joined_so = e; is = gap }
first_gap text bytes rest e (blanks b bs r is all apart) = record { bytes = b ∷ []; rest = bs ++ r; joined_so = e; is = cuttings.whitespace b (bs ++ r) is }

pub gap_of : (text : List ℕ) (n : ℕ) → GapAt text n → FirstGap text
gap_of text n g = first_gap text g.bytes g.rest g.joined g.gaps

open_comment_is : (x : ℕ) (xs text : List ℕ) → x ∷ xs ≡ text → IsOpenComment text → x ≡ 47
open_comment_is x xs text t (faults.open_comment r never) = same_head x 47 xs (42 ∷ r) t

open_literal_is : (x : ℕ) (xs text : List ℕ) → x ∷ xs ≡ text → IsOpenLiteral text → is_quote x ≡ true
open_literal_is x xs text t (faults.open_literal q r is never) = ap is_quote (same_head x q xs r t) ∙ quote_is q is

-- a comment that is left open is no gap
open_no_gap : (r bytes rest : List ℕ) → ((inside behind : List ℕ) → r ≡ inside ++ behind → IsInComment inside → ⊥) → 47 ∷ 42 ∷ r ≡ bytes ++ rest → IsGap bytes rest → ⊥
open_no_gap r bytes rest never e (cuttings.whitespace b s is) = true_false (is_blank 47) (ap is_blank (same_head 47 b (42 ∷ r) s e) ∙ is) refl
open_no_gap r bytes rest never e (cuttings.hash line s one ends) = true_false (47 == 35) (eq-eqb 47 35 (same_head 47 35 (42 ∷ r) (line ++ s) e)) refl
open_no_gap r bytes rest never e (cuttings.slashes line s one ends) =
    true_false (42 == 47) (eq-eqb 42 47 (same_head 42 47 r (line ++ s) (same_tail 47 47 (42 ∷ r) (47 ∷ (line ++ s)) e))) refl
open_no_gap r bytes rest never e (cuttings.comment inside s within) = never inside s (same_tail 42 42 r (inside ++ s) (same_tail 47 47 (42 ∷ r) (42 ∷ (inside ++ s)) e)) within

open_comment_no_gap : (text bytes rest : List ℕ) → IsOpenComment text → text ≡ bytes ++ rest → IsGap bytes rest → ⊥
open_comment_no_gap text bytes rest (faults.open_comment r never) e gap = open_no_gap r bytes rest never e gap

-- a literal that is left open is no token
not_open : (q : ℕ) (r rest : List ℕ) (f : TokenForm) (front : List ℕ) → is_quote q ≡ true → ((inner behind : List ℕ) → r ≡ inner ++ q ∷ behind → IsQuoted q inner → ⊥)
    → q ∷ r ≡ front ++ rest → TokenView f front → ⊥
not_open q r rest f front quote never t (a_word b bs l a) = true_false (is_letter q) (ap is_letter (same_head q b r (bs ++ rest) t) ∙ l) (quote_no_letter q quote)
not_open q r rest f front quote never t (a_number g sign body n) = true_false (is_number q) (first_is q r (sign ++ body) rest is_number t (number_begins g sign body n)) (quote_no_number q quote)
not_open q r rest f front quote never t (a_literal p bs k i) =
    let first : p ≡ q = sym (same_head q p r ((bs ++ p ∷ []) ++ rest) t) in
    let laid : r ≡ bs ++ p ∷ rest = same_tail q p r ((bs ++ p ∷ []) ++ rest) t ∙ regroup bs (p ∷ []) rest in
    never bs rest (laid ∙ ap (λ y. bs ++ y ∷ rest) first) (subst (λ y. IsQuoted y bs) first i)
not_open q r rest f front quote never t (a_mark m k) = true_false (is_mark q) (ap is_mark (same_head q m r rest t) ∙ k) (quote_no_mark q quote)

open_literal_no_token : (text front rest : List ℕ) (f : TokenForm) → IsOpenLiteral text → text ≡ front ++ rest → TokenView f front → ⊥
open_literal_no_token text front rest f (faults.open_literal q r is never) e view = not_open q r rest f front (quote_is q is) never e view

no_token_first : (x : ℕ) (xs text bytes rest : List ℕ) (form : TokenForm) → NoToken x → x ∷ xs ≡ text → text ≡ bytes ++ rest → IsToken form bytes → ⊥
no_token_first x xs text bytes rest form none t e token = no_kind form x none (token_kind form x xs bytes rest (t ∙ e) token)

-- the bytes as a first one and the others
record SomeBytes (text : List ℕ) : Type 0 where
  first : ℕ
  others : List ℕ
  is : first ∷ others ≡ text

some_bytes : (text : List ℕ) → 0 < length text → SomeBytes text
some_bytes [] h = absurd (omega (arith, h))
some_bytes (x ∷ xs) h = record { first = x; others = xs; is = refl }

step_there : (text : List ℕ) (at : ℕ) → 0 < length text → Step at text
step_there text at h = let t = some_bytes text h in subst (Step at) t.is (step t.first t.others at)

-- ---- a gap is passed over

gap_some : (bytes rest : List ℕ) → IsGap bytes rest → 0 < length (bytes ++ rest)
gap_some bytes rest (cuttings.whitespace b r is) = omega arith
gap_some bytes rest (cuttings.hash line r one ends) = omega arith
gap_some bytes rest (cuttings.slashes line r one ends) = omega arith
gap_some bytes rest (cuttings.comment inside r within) = omega arith

record Passed (at : ℕ) (text : List ℕ) : Type 0 where
  n : ℕ
  gap : GapAt text n
  read : tokens_from text 0 at ≡ tokens_from gap.rest 0 (at + length gap.bytes)

quote_slash : (x : ℕ) → is_quote x ≡ true → x ≡ 47 → ⊥
quote_slash x q e = true_false (is_quote 47) (ap is_quote (sym e) ∙ q) refl

module _ (x : ℕ) (xs bytes rest : List ℕ) (e : x ∷ xs ≡ bytes ++ rest) (gap : IsGap bytes rest) where
  none : NoToken x
  none = gap_first x xs bytes rest e gap

  no_fault : (reason : LexReason) (text : List ℕ) → x ∷ xs ≡ text → Fails reason text → ⊥
  no_fault reason text t (faults.bad_byte bs never) = never.no_gap bytes rest (sym t ∙ e) gap
  no_fault reason text t (faults.unclosed_comment bs begun) = open_comment_no_gap bs bytes rest begun (sym t ∙ e) gap
  no_fault reason text t (faults.unclosed_literal bs begun) = true_false (is_quote x) (open_literal_is x xs bs t begun) none.quote
  no_fault reason text t (faults.big_number z bs r stands out) = no_token_first x xs (bs ++ r) bs r (forms.Int z) none t refl stands.token

  passed_by : (at : ℕ) (text : List ℕ) → x ∷ xs ≡ text → Step at text → Passed at text
  passed_by at text t (over_gap a ys n g read) = record { n = n; gap = g; read = read }
  passed_by at text t (over_token a ys form n k read) = absurd (no_token_first x xs ys k.bytes k.rest form none t k.joined k.stands.token)
  passed_by at text t (at_fault a ys reason why read) = absurd (no_fault reason ys t why)

gap_step : (bytes rest : List ℕ) (at : ℕ) → IsGap bytes rest → Passed at (bytes ++ rest)
gap_step bytes rest at gap =
    let t = some_bytes (bytes ++ rest) (gap_some bytes rest gap) in
    passed_by t.first t.others bytes rest t.is gap at (bytes ++ rest) t.is (step_there (bytes ++ rest) at (gap_some bytes rest gap))

-- how long the gap is
abbrev closed_len : Option ℕ → ℕ
closed_len None = 0
closed_len (Some n) = 2 + n

abbrev second_len : List ℕ → ℕ
second_len [] = 0
second_len (y ∷ ys) = cond (y == 47) (2 + prefix_len is_line ys) (closed_len (comment_end false ys))

abbrev gap_len : List ℕ → ℕ
gap_len [] = 0
gap_len (x ∷ xs) = cond (is_blank x) (prefix_len is_blank (x ∷ xs)) (cond (x == 35) (prefix_len is_line (x ∷ xs)) (second_len xs))

ends_apart : (rest : List ℕ) → IsLineEnd rest → Apart is_line rest
ends_apart rest grammar.text_ends = tt
ends_apart rest (grammar.line_ends more) = refl

comment_len : (bytes rest : List ℕ) → IsGap bytes rest → Apart is_blank bytes → gap_len (bytes ++ rest) ≡ length bytes
comment_len bytes rest (cuttings.whitespace b r is) apart = absurd (true_false (is_blank b) is apart)
comment_len bytes rest (cuttings.hash line r one ends) apart = run_cut is_line (35 ∷ line) r one.all (ends_apart r ends)
comment_len bytes rest (cuttings.slashes line r one ends) apart =
    let size : 2 + length line ≡ suc (suc (length line)) = omega arith in
    ap (λ n. 2 + n) (run_cut is_line line r one.all (ends_apart r ends)) ∙ size
comment_len bytes rest (cuttings.comment inside r within) apart =
    let size : 2 + length inside ≡ suc (suc (length inside)) = omega arith in
    ap closed_len (comment_whole inside r within) ∙ size

gaps_len : (bytes rest : List ℕ) → AreGaps bytes rest → gap_len (bytes ++ rest) ≡ length bytes
gaps_len bytes rest (a_comment bs r gap apart) = comment_len bs r gap apart
gaps_len bytes rest (blanks b bs r is all apart) =
    cond-true (is_blank b) (prefix_len is_blank (b ∷ (bs ++ r))) _ is ∙ run_cut is_blank (b ∷ bs) r (and_from (is_blank b) (list_all is_blank bs) is all) apart

passed_len : (at : ℕ) (text : List ℕ) (p : Passed at text) → gap_len text ≡ length p.gap.bytes
passed_len at text p = ap gap_len p.gap.joined ∙ gaps_len p.gap.bytes p.gap.rest p.gap.gaps

comment_passed : (bytes rest : List ℕ) (at : ℕ) → IsGap bytes rest → Apart is_blank bytes → tokens_from (bytes ++ rest) 0 at ≡ tokens_from rest 0 (at + length bytes)
comment_passed bytes rest at gap apart =
    let p = gap_step bytes rest at gap in
    let size : length p.gap.bytes ≡ length bytes = sym (passed_len at (bytes ++ rest) p) ∙ comment_len bytes rest gap apart in
    let same = same_front p.gap.bytes bytes p.gap.rest rest size (sym p.gap.joined) in
    p.read ∙ ap (λ xs. tokens_from xs 0 (at + length p.gap.bytes)) same.1 ∙ ap (λ n. tokens_from rest 0 (at + n)) size

-- whitespace is passed over as far as it goes
blank_len : (b : ℕ) (bs : List ℕ) → is_blank b ≡ true → gap_len (b ∷ bs) ≡ suc (prefix_len is_blank bs)
blank_len b bs is = cond-true (is_blank b) (prefix_len is_blank (b ∷ bs)) _ is ∙ run_cons (is_blank b) (prefix_len is_blank bs) is

blanks_here : (b : ℕ) (bs : List ℕ) (at : ℕ) → is_blank b ≡ true → tokens_from (b ∷ bs) 0 at ≡ tokens_from (drop (prefix_len is_blank bs) bs) 0 (at + suc (prefix_len is_blank bs))
blanks_here b bs at is =
    let p = gap_step (b ∷ []) bs at (cuttings.whitespace b bs is) in
    let size : length p.gap.bytes ≡ suc (prefix_len is_blank bs) = sym (passed_len at (b ∷ bs) p) ∙ blank_len b bs is in
    let behind : drop (length p.gap.bytes) (b ∷ bs) ≡ p.gap.rest = ap (drop (length p.gap.bytes)) p.gap.joined ∙ drop_front p.gap.bytes p.gap.rest in
    p.read ∙ ap (λ xs. tokens_from xs 0 (at + length p.gap.bytes)) (sym behind) ∙ ap (λ n. tokens_from (drop n (b ∷ bs)) 0 (at + n)) size

blanks_read : (bytes : List ℕ) (at : ℕ) → tokens_from bytes 0 at ≡ tokens_from (drop (prefix_len is_blank bytes) bytes) 0 (at + prefix_len is_blank bytes)
blanks_read [] at = let here : at ≡ at + 0 = omega arith in ap (tokens_from [] 0) here
blanks_read (b ∷ bs) at = by_test (cases_Bool (is_blank b))
  where
    by_test : (is_blank b ≡ true) ⊎ (is_blank b ≡ false) → tokens_from (b ∷ bs) 0 at ≡ tokens_from (drop (prefix_len is_blank (b ∷ bs)) (b ∷ bs)) 0 (at + prefix_len is_blank (b ∷ bs))
    by_test (inl is) =
        blanks_here b bs at is ∙ ap (λ n. tokens_from (drop n (b ∷ bs)) 0 (at + n)) (sym (run_cons (is_blank b) (prefix_len is_blank bs) is))
    by_test (inr other) =
        let none : prefix_len is_blank (b ∷ bs) ≡ 0 = cond-false (is_blank b) (1 + prefix_len is_blank bs) 0 other in
        let here : at ≡ at + 0 = omega arith in
        ap (tokens_from (b ∷ bs) 0) here ∙ ap (λ k. tokens_from (drop k (b ∷ bs)) 0 (at + k)) (sym none)

blank_passed : (b : ℕ) (rest : List ℕ) (at : ℕ) → is_blank b ≡ true → tokens_from (b ∷ rest) 0 at ≡ tokens_from rest 0 (at + 1)
blank_passed b rest at is =
    let n = prefix_len is_blank rest in
    let same : at + suc n ≡ at + 1 + n = omega arith in
    blanks_here b rest at is ∙ ap (tokens_from (drop n rest) 0) same ∙ sym (blanks_read rest (at + 1))

gap_passed : (bytes rest : List ℕ) (at : ℕ) → IsGap bytes rest → tokens_from (bytes ++ rest) 0 at ≡ tokens_from rest 0 (at + length bytes)
gap_passed bytes rest at (cuttings.whitespace b r is) = blank_passed b r at is
gap_passed bytes rest at (cuttings.hash line r one ends) = comment_passed (35 ∷ line) r at (cuttings.hash line r one ends) refl
gap_passed bytes rest at (cuttings.slashes line r one ends) = comment_passed (47 ∷ 47 ∷ line) r at (cuttings.slashes line r one ends) refl
gap_passed bytes rest at (cuttings.comment inside r within) = comment_passed (47 ∷ 42 ∷ inside) r at (cuttings.comment inside r within) refl

-- ---- where a token stands, it is read, or it is too big

-- the longest token is kept, or told as too big
abbrev TokenRead : ℕ → TokenForm → List ℕ → List ℕ → List ℕ → Type 0
TokenRead at form bytes rest text =
    ((is_in_range form ≡ true) × (tokens_from text 0 at ≡ joined (token_of form at (length bytes) ∷ []) (tokens_from rest 0 (at + length bytes))))
    ⊎ ((is_in_range form ≡ false) × (tokens_from text 0 at ≡ Err (record { offset = at; reason = reasons.BigNumber })))

module _ (x : ℕ) (xs : List ℕ) (form : TokenForm) (bytes rest : List ℕ) (e : x ∷ xs ≡ bytes ++ rest) (s : Stands form bytes rest) where
  no_gap_there : (text : List ℕ) (n : ℕ) → x ∷ xs ≡ text → GapAt text n → ⊥
  no_gap_there text n t g =
      let first = gap_of text n g in
      no_kind form x (gap_first x xs first.bytes first.rest (t ∙ first.joined_so) first.is) (token_kind form x xs bytes rest e s.token)

  kept_so : (at : ℕ) (text : List ℕ) (g : TokenForm) (n : ℕ) (k : TokenAt text g n) → x ∷ xs ≡ text
      → tokens_from text 0 at ≡ joined (token_of g at (length k.bytes) ∷ []) (tokens_from k.rest 0 (at + length k.bytes)) → TokenRead at form bytes rest text
  kept_so at text g n k t read =
      let same = one_token g form k.bytes k.rest bytes rest (sym k.joined ∙ sym t ∙ e) k.stands s in
      inl (
        ap is_in_range (sym same.0) ∙ k.fits,
        read ∙ ap (λ f. joined (token_of f at (length k.bytes) ∷ []) (tokens_from k.rest 0 (at + length k.bytes))) same.0
            ∙ ap (λ ys. joined (token_of form at (length ys) ∷ []) (tokens_from k.rest 0 (at + length ys))) same.1
            ∙ ap (λ ys. joined (token_of form at (length bytes) ∷ []) (tokens_from ys 0 (at + length bytes))) same.2,
      )

  told_so : (at : ℕ) (text : List ℕ) (reason : LexReason) → x ∷ xs ≡ text → tokens_from text 0 at ≡ Err (record { offset = at; reason = reason }) → Fails reason text → TokenRead at form bytes rest text
  told_so at text reason t read (faults.bad_byte bs never) = absurd (never.no_token form bytes rest (sym t ∙ e) s.token)
  told_so at text reason t read (faults.unclosed_comment bs begun) =
      absurd (no_kind form x (subst NoToken (sym (open_comment_is x xs bs t begun)) slash_no_token) (token_kind form x xs bytes rest e s.token))
  told_so at text reason t read (faults.unclosed_literal bs begun) = absurd (open_literal_no_token bs bytes rest form begun (sym t ∙ e) (token_view form bytes s.token))
  told_so at text reason t read (faults.big_number z bs r stands out) =
      let same = one_token (forms.Int z) form bs r bytes rest (sym t ∙ e) stands s in
      inr (ap is_in_range (sym same.0) ∙ out, read)

  token_by : (at : ℕ) (text : List ℕ) → x ∷ xs ≡ text → Step at text → TokenRead at form bytes rest text
  token_by at text t (over_gap a ys n g read) = absurd (no_gap_there ys n t g)
  token_by at text t (over_token a ys g n k read) = kept_so a ys g n k t read
  token_by at text t (at_fault a ys reason why read) = told_so a ys reason t read why

stands_some : (form : TokenForm) (bytes rest : List ℕ) → Stands form bytes rest → 0 < length (bytes ++ rest)
stands_some form bytes rest s = let size = token_some form bytes s.token in let total = length-append bytes rest in omega (arith, size, total)

token_read : (form : TokenForm) (bytes rest : List ℕ) (at : ℕ) → Stands form bytes rest → TokenRead at form bytes rest (bytes ++ rest)
token_read form bytes rest at s =
    let some = stands_some form bytes rest s in
    let t = some_bytes (bytes ++ rest) some in
    token_by t.first t.others form bytes rest t.is s at (bytes ++ rest) t.is (step_there (bytes ++ rest) at some)

token_fits : (at : ℕ) (form : TokenForm) (bytes rest text : List ℕ) → is_in_range form ≡ true → TokenRead at form bytes rest text
    → tokens_from text 0 at ≡ joined (token_of form at (length bytes) ∷ []) (tokens_from rest 0 (at + length bytes))
token_fits at form bytes rest text fits (inl h) = h.1
token_fits at form bytes rest text fits (inr h) = absurd (true_false (is_in_range form) fits h.0)

token_big : (at : ℕ) (form : TokenForm) (bytes rest text : List ℕ) → is_in_range form ≡ false → TokenRead at form bytes rest text → tokens_from text 0 at ≡ Err (record { offset = at; reason = reasons.BigNumber })
token_big at form bytes rest text out (inl h) = absurd (true_false (is_in_range form) h.0 out)
token_big at form bytes rest text out (inr h) = h.1

-- ---- where a fault stands, it is told

abbrev FaultRead : ℕ → LexReason → List ℕ → Type 0
FaultRead at reason text = tokens_from text 0 at ≡ Err (record { offset = at; reason = reason })

nothing_by : (at : ℕ) (text : List ℕ) → NothingFits text → Step at text → FaultRead at reasons.BadByte text
nothing_by at text never (over_gap a ys n g read) = let first = gap_of ys n g in absurd (never.no_gap first.bytes first.rest first.joined_so first.is)
nothing_by at text never (over_token a ys form n k read) = absurd (never.no_token form k.bytes k.rest k.joined k.stands.token)
nothing_by at text never (at_fault a ys reason why read) = by_fault reason ys why never read
  where
    by_fault : (reason : LexReason) (ys : List ℕ) → Fails reason ys → NothingFits ys → FaultRead a reason ys → FaultRead a reasons.BadByte ys
    by_fault reason ys (faults.bad_byte bs other) never read = read
    by_fault reason ys (faults.unclosed_comment bs begun) never read = absurd (never.no_comment begun)
    by_fault reason ys (faults.unclosed_literal bs begun) never read = absurd (never.no_literal begun)
    by_fault reason ys (faults.big_number z bs r stands out) never read = absurd (never.no_token (forms.Int z) bs r refl stands.token)

module _ (x : ℕ) (xs : List ℕ) (begun : IsOpenComment (x ∷ xs)) where
  comment_none : NoToken x
  comment_none = subst NoToken (sym (open_comment_is x xs (x ∷ xs) refl begun)) slash_no_token

  comment_fault : (at : ℕ) (reason : LexReason) (text : List ℕ) → x ∷ xs ≡ text → Fails reason text → FaultRead at reason text → FaultRead at reasons.UnclosedComment text
  comment_fault at reason text t (faults.bad_byte bs never) read = absurd (never.no_comment (subst IsOpenComment t begun))
  comment_fault at reason text t (faults.unclosed_comment bs other) read = read
  comment_fault at reason text t (faults.unclosed_literal bs other) read = absurd (true_false (is_quote x) (open_literal_is x xs bs t other) comment_none.quote)
  comment_fault at reason text t (faults.big_number z bs r stands out) read = absurd (no_token_first x xs (bs ++ r) bs r (forms.Int z) comment_none t refl stands.token)

  comment_by : (at : ℕ) (text : List ℕ) → x ∷ xs ≡ text → Step at text → FaultRead at reasons.UnclosedComment text
  comment_by at text t (over_gap a ys n g read) =
      let first = gap_of ys n g in
      absurd (open_comment_no_gap (x ∷ xs) first.bytes first.rest begun (t ∙ first.joined_so) first.is)
  comment_by at text t (over_token a ys form n k read) = absurd (no_token_first x xs ys k.bytes k.rest form comment_none t k.joined k.stands.token)
  comment_by at text t (at_fault a ys reason why read) = comment_fault a reason ys t why read

module _ (x : ℕ) (xs : List ℕ) (begun : IsOpenLiteral (x ∷ xs)) where
  quote_there : is_quote x ≡ true
  quote_there = open_literal_is x xs (x ∷ xs) refl begun

  literal_fault : (at : ℕ) (reason : LexReason) (text : List ℕ) → x ∷ xs ≡ text → Fails reason text → FaultRead at reason text → FaultRead at reasons.UnclosedLiteral text
  literal_fault at reason text t (faults.bad_byte bs never) read = absurd (never.no_literal (subst IsOpenLiteral t begun))
  literal_fault at reason text t (faults.unclosed_comment bs other) read = absurd (quote_slash x quote_there (open_comment_is x xs bs t other))
  literal_fault at reason text t (faults.unclosed_literal bs other) read = read
  literal_fault at reason text t (faults.big_number z bs r stands out) read =
      absurd (open_literal_no_token (x ∷ xs) bs r (forms.Int z) begun t (token_view (forms.Int z) bs stands.token))

  literal_by : (at : ℕ) (text : List ℕ) → x ∷ xs ≡ text → Step at text → FaultRead at reasons.UnclosedLiteral text
  literal_by at text t (over_gap a ys n g read) =
      let first = gap_of ys n g in
      absurd (true_false (is_quote x) quote_there (gap_first x xs first.bytes first.rest (t ∙ first.joined_so) first.is).quote)
  literal_by at text t (over_token a ys form n k read) = absurd (open_literal_no_token (x ∷ xs) k.bytes k.rest form begun (t ∙ k.joined) (token_view form k.bytes k.stands.token))
  literal_by at text t (at_fault a ys reason why read) = literal_fault a reason ys t why read

nothing_some : (bytes : List ℕ) → NothingFits bytes → 0 < length bytes
nothing_some [] never = absurd (never.some refl)
nothing_some (x ∷ xs) never = omega arith

comment_read : (bytes : List ℕ) (at : ℕ) → IsOpenComment bytes → FaultRead at reasons.UnclosedComment bytes
comment_read bytes at (faults.open_comment rest never) =
    comment_by 47 (42 ∷ rest) (faults.open_comment rest never) at (47 ∷ 42 ∷ rest) refl (step 47 (42 ∷ rest) at)

literal_read : (bytes : List ℕ) (at : ℕ) → IsOpenLiteral bytes → FaultRead at reasons.UnclosedLiteral bytes
literal_read bytes at (faults.open_literal quote rest is never) =
    literal_by quote rest (faults.open_literal quote rest is never) at (quote ∷ rest) refl (step quote rest at)

pub fault_read : (reason : LexReason) (bytes : List ℕ) (at : ℕ) → Fails reason bytes → FaultRead at reason bytes
fault_read reason bytes at (faults.bad_byte bs never) = nothing_by at bs never (step_there bs at (nothing_some bs never))
fault_read reason bytes at (faults.unclosed_comment bs begun) = comment_read bs at begun
fault_read reason bytes at (faults.unclosed_literal bs begun) = literal_read bs at begun
fault_read reason bytes at (faults.big_number z bs rest stands out) = token_big at (forms.Int z) bs rest (bs ++ rest) out (token_read (forms.Int z) bs rest at stands)

-- ---- what is cut is read

pub read_of_cut : (at place : ℕ) (text behind : List ℕ) (tokens : List Token) → Cuts at text tokens place behind → tokens_from text 0 at ≡ joined tokens (tokens_from behind 0 place)
read_of_cut at place text behind tokens (cuttings.here a rest) = sym (joined_none (tokens_from rest 0 a))
read_of_cut at place text behind tokens (cuttings.gap a p bytes rest b ts gap c) = gap_passed bytes rest a gap ∙ read_of_cut (a + length bytes) p rest b ts c
read_of_cut at place text behind tokens (cuttings.token a p form bytes rest b ts s fits c) =
    token_fits a form bytes rest (bytes ++ rest) fits (token_read form bytes rest a s) ∙ ap (joined (token_of form a (length bytes) ∷ [])) (read_of_cut (a + length bytes) p rest b ts c)
    ∙ joined_twice (token_of form a (length bytes) ∷ []) ts (tokens_from b 0 p)
