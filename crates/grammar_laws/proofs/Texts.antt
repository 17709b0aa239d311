-- A text is one thing, and that is what the parser says.
use Rattle.std.proofs.Common.{◌≡◌, ◌∙◌, ap, sym, subst, refl, ℕ, suc, ◌<◌, ◌≤◌, List, ◌++◌, length, take, drop, Option, Some, None, Ok, Err, ◌⊎◌, inl, inr, arith}
use Rattle.std.proofs.lemmas.List.{take-append-drop}
use Rattle.idl_document.specs.Trees.{DocumentTree}
use Rattle.idl_lexer.specs.declared.token.LexFault.{LexFault}
use Rattle.idl_lexer.specs.declared.token.Token.{Token}
use Rattle.idl_lexer.specs.Tokens.{Read, tokens_of}
use Rattle.lexis_laws.proofs.Laws.{fault_of_read, lexes_of_read, read_of_fault, read_of_lexes}
use Rattle.idl_parser.specs.declared.fault.Fault.TheVariants as faults
use Rattle.idl_parser.specs.declared.fault.ParseError.TheVariants as errors
use Rattle.idl_parser.specs.Documents.{Parsed, as_parsed, document_at, parsed, parsed_by}
use Rattle.idl_parser.specs.Grammar.{Derives}
use Rattle.idl_parser.specs.Lexemes.{Scan, offset_of}
use Rattle.idl_parser.specs.Marks.{most_levels}
use Rattle.idl_parser.specs.Seeing.{seen_all}
use Rattle.idl_parser.specs.Seen.{Seen}
use Rattle.grammar_laws.specs.Depth.{document_deep}
use Rattle.grammar_laws.specs.Faults.{Begins, BeginsWithin, IsDepthFault, IsFaultPlace, IsSyntaxFault, at_end, at_token}
use Rattle.grammar_laws.specs.Parsing.{IsRead, IsText}
use Rattle.grammar_laws.proofs.Fronts.{longer, no_fault, one_place, order, shorter_begins}
use Rattle.grammar_laws.proofs.Lists.{append_more}
use Rattle.grammar_laws.proofs.Parsed.{first_depth, first_fault, one_document, parsed_is_derived, parsed_fits}

module _ (edge : ℕ) (tokens : List Seen) where
  -- behind what opens a level too many begins nothing for which the levels are enough
  none_within : (at n : ℕ) (f : IsDepthFault edge tokens at) → suc f.place ≤ n → BeginsWithin most_levels (take n tokens) → ⊥
  none_within at n f less b =
      let more = longer (suc f.place) n tokens less in
      let whole : take n tokens ++ b.0 ≡ take (suc f.place) tokens ++ (more.0 ++ b.0) = ap (λ (xs : List Seen). xs ++ b.0) more.1 ∙ append_more (take (suc f.place) tokens) more.0 b.0 in
      let deep = f.deep (more.0 ++ b.0) b.1 (subst (Derives b.1) whole b.2) in
      no (sym b.3 ∙ deep)
    where
      no : (let o : Option ℕ = None in o) ≡ Some at → ⊥
      no e = cc

  no_document : (at : ℕ) (f : IsDepthFault edge tokens at) (d : DocumentTree) → Derives d tokens → document_deep most_levels d ≡ None → ⊥
  no_document at f d derives fits =
      let deep = f.deep (drop (suc f.place) tokens) d (subst (Derives d) (sym (take-append-drop (suc f.place) tokens)) derives) in
      no (sym fits ∙ deep)
    where
      no : (let o : Option ℕ = None in o) ≡ Some at → ⊥
      no e = cc

  -- no token is refused both ways
  not_before : (n m : ℕ) → n ≤ m → m < length tokens → IsFaultPlace tokens n → Begins (take (suc m) tokens) → ⊥
  not_before n m few there (at_token less b none) opens = none (shorter_begins (suc n) (suc m) tokens (omega (arith, few)) opens)
  not_before n m few there (at_end all b none) opens = omega (arith, few, there, all)

  not_both : (a b : ℕ) → IsSyntaxFault edge tokens a → IsDepthFault edge tokens b → ⊥
  not_both a b f g = by (order f.place g.place)
    where
      by : (f.place ≡ g.place) ⊎ ((f.place < g.place) ⊎ (g.place < f.place)) → ⊥
      by (inl e) = not_before f.place g.place (omega (arith, e)) g.there f.stands g.opens
      by (inr (inl less)) = not_before f.place g.place (omega (arith, less)) g.there f.stands g.opens
      by (inr (inr less)) = none_within b f.place g less f.within

  one_syntax : (a b : ℕ) → IsSyntaxFault edge tokens a → IsSyntaxFault edge tokens b → a ≡ b
  one_syntax a b f g = f.told ∙ ap (λ (n : ℕ). offset_of edge (drop n tokens)) (one_place tokens f.place g.place f.stands g.stands) ∙ sym g.told

  one_depth : (a b : ℕ) → IsDepthFault edge tokens a → IsDepthFault edge tokens b → a ≡ b
  one_depth a b f g = by (order f.place g.place)
    where
      by : (f.place ≡ g.place) ⊎ ((f.place < g.place) ⊎ (g.place < f.place)) → a ≡ b
      by (inl e) = f.told ∙ ap (λ (n : ℕ). offset_of edge (drop n tokens)) e ∙ sym g.told
      by (inr (inl less)) = absurd (none_within a g.place f less g.within)
      by (inr (inr less)) = absurd (none_within b f.place g less f.within)

  one_read : (a b : Parsed) → IsRead edge tokens a → IsRead edge tokens b → a ≡ b
  one_read (Ok d) (Ok e) p q = ap (λ (z : DocumentTree). let r : Parsed = Ok z in r) (one_document tokens d e p.0 q.0)
  one_read (Ok d) (Err (errors.Lex f)) p q = absurd q
  one_read (Ok d) (Err (errors.Syntax at)) p q = absurd (no_fault tokens q.place (d, p.0) q.stands)
  one_read (Ok d) (Err (errors.Nested at)) p q = absurd (no_document at q d p.0 p.1)
  one_read (Ok d) (Err errors.OutOfMemory) p q = absurd q
  one_read (Err (errors.Lex f)) b p q = absurd p
  one_read (Err errors.OutOfMemory) b p q = absurd p
  one_read (Err (errors.Syntax at)) (Ok e) p q = absurd (no_fault tokens p.place (e, q.0) p.stands)
  one_read (Err (errors.Syntax at)) (Err (errors.Lex f)) p q = absurd q
  one_read (Err (errors.Syntax at)) (Err (errors.Syntax to)) p q = ap (λ (n : ℕ). let r : Parsed = Err (errors.Syntax n) in r) (one_syntax at to p q)
  one_read (Err (errors.Syntax at)) (Err (errors.Nested to)) p q = absurd (not_both at to p q)
  one_read (Err (errors.Syntax at)) (Err errors.OutOfMemory) p q = absurd q
  one_read (Err (errors.Nested at)) (Ok e) p q = absurd (no_document at p e q.0 q.1)
  one_read (Err (errors.Nested at)) (Err (errors.Lex f)) p q = absurd q
  one_read (Err (errors.Nested at)) (Err (errors.Syntax to)) p q = absurd (not_both to at q p)
  one_read (Err (errors.Nested at)) (Err (errors.Nested to)) p q = ap (λ (n : ℕ). let r : Parsed = Err (errors.Nested n) in r) (one_depth at to p q)
  one_read (Err (errors.Nested at)) (Err errors.OutOfMemory) p q = absurd q

  -- what the parser says of them
  read_by : (s : Scan DocumentTree) → document_at edge tokens ≡ s → IsRead edge tokens (as_parsed s)
  read_by (Ok x) e = ((parsed_is_derived edge tokens x.0 x.1 e).1, parsed_fits edge tokens x.0 x.1 e)
  read_by (Err (faults.Syntax at)) e = first_fault edge tokens at e
  read_by (Err (faults.Nested at)) e = first_depth edge tokens at e

-- ---- texts

-- it is no lexical fault
abbrev IsOther : List ℕ → List Token → Parsed → Type 0
IsOther text tokens answer = (tokens_of text ≡ Ok tokens) × IsRead (length text) (seen_all text tokens) answer

text_of : (text : List ℕ) (tokens : List Token) (answer : Parsed) → IsOther text tokens answer → IsText text answer
text_of text tokens (Ok d) o = (tokens, lexes_of_read text tokens o.0, o.1)
text_of text tokens (Err (errors.Lex f)) o = absurd o.1
text_of text tokens (Err (errors.Syntax at)) o = (tokens, lexes_of_read text tokens o.0, o.1)
text_of text tokens (Err (errors.Nested at)) o = (tokens, lexes_of_read text tokens o.0, o.1)
text_of text tokens (Err errors.OutOfMemory) o = absurd o.1

parsed_by_tokens : (text : List ℕ) (r : Read) → tokens_of text ≡ r → IsText text (parsed_by text r)
parsed_by_tokens text (Ok tokens) e =
    text_of text tokens (as_parsed (document_at (length text) (seen_all text tokens))) (e, read_by (length text) (seen_all text tokens) (document_at (length text) (seen_all text tokens)) refl)
parsed_by_tokens text (Err f) e = fault_of_read text f e

pub text_is_parsed : (text : List ℕ) → IsText text (parsed text)
unfolding parsed
text_is_parsed text = parsed_by_tokens text (tokens_of text) refl

-- either a lexical fault, or what its tokens are
apart : (text : List ℕ) (answer : Parsed) → IsText text answer → ((f : LexFault) × (answer ≡ Err (errors.Lex f)) × (tokens_of text ≡ Err f)) ⊎ ((tokens : List Token) × IsOther text tokens answer)
apart text (Ok d) t = inr (t.0, (read_of_lexes text t.0 t.1, t.2))
apart text (Err (errors.Lex f)) t = inl (f, refl, read_of_fault text f t)
apart text (Err (errors.Syntax at)) t = inr (t.0, (read_of_lexes text t.0 t.1, t.2))
apart text (Err (errors.Nested at)) t = inr (t.0, (read_of_lexes text t.0 t.1, t.2))
apart text (Err errors.OutOfMemory) t = inr (t.0, (read_of_lexes text t.0 t.1, t.2))

ok_read : (xs ys : List Token) → (let r : Read = Ok xs in r) ≡ Ok ys → xs ≡ ys
ok_read xs ys e = cc

err_read : (f g : LexFault) → (let r : Read = Err f in r) ≡ Err g → f ≡ g
err_read f g e = cc

never_read : (xs : List Token) (f : LexFault) → (let r : Read = Ok xs in r) ≡ Err f → ⊥
never_read xs f e = cc

pub one_answer : (text : List ℕ) (a b : Parsed) → IsText text a → IsText text b → a ≡ b
one_answer text a b p q = by (apart text a p) (apart text b q)
  where
    Apart : Parsed → Type 0
    Apart answer = ((f : LexFault) × (answer ≡ Err (errors.Lex f)) × (tokens_of text ≡ Err f)) ⊎ ((tokens : List Token) × IsOther text tokens answer)

    by : Apart a → Apart b → a ≡ b
    by (inl x) (inl y) = x.1 ∙ ap (λ (f : LexFault). let r : Parsed = Err (errors.Lex f) in r) (err_read x.0 y.0 (sym x.2 ∙ y.2)) ∙ sym y.1
    by (inl x) (inr y) = absurd (never_read y.0 x.0 (sym y.1.0 ∙ x.2))
    by (inr x) (inl y) = absurd (never_read x.0 y.0 (sym x.1.0 ∙ y.2))
    by (inr x) (inr y) =
        let same = ok_read x.0 y.0 (sym x.1.0 ∙ y.1.0) in
        one_read (length text) (seen_all text y.0) a b (subst (λ (ts : List Token). IsRead (length text) (seen_all text ts) a) same x.1.1) y.1.1
