-- What is parsed is what is derived, and the fault is the one that stands there.
use Rattle.std.proofs.Common.{true, ◌≡◌, ◌∙◌, ap, sym, subst, refl, ℕ, zero, suc, ◌<◌, ◌≤◌, List, [], ◌++◌, length, take, Option, Some, None, Ok, Err, ◌⊎◌, inl, inr, arith}
use Rattle.std.proofs.lemmas.List.{take_all}
use Rattle.idl_document.specs.Trees.{DocumentTree}
use Rattle.idl_parser.specs.declared.fault.Fault.{Fault}
use Rattle.idl_parser.specs.declared.fault.Fault.TheVariants as faults
use Rattle.idl_parser.specs.Documents.{document_at}
use Rattle.idl_parser.specs.Grammar.{Derives, DerivesDefinitions, DerivesHeaders}
use Rattle.idl_parser.specs.Lexemes.{Scan}
use Rattle.idl_parser.specs.Marks.{most_levels}
use Rattle.idl_parser.specs.Seen.{Seen}
use Rattle.grammar_laws.specs.Depth.{document_deep}
use Rattle.grammar_laws.specs.Faults.{Begins, BeginsWithin, IsDocument, IsFaultPlace, at_end, at_token}
use Rattle.grammar_laws.specs.Parsing.{DerivesParsed, FaultsLookNoFurther, IsOneDocument, ParsesDerived, RefusesDeeper, TellsFirstDepth, TellsFirstFault, place_of}
use Rattle.grammar_laws.proofs.Deepest.{enough}
use Rattle.grammar_laws.proofs.Documents.{document_all, document_is, document_part, document_reads, document_whole}
use Rattle.grammar_laws.proofs.Lists.{same_front}
use Rattle.grammar_laws.proofs.Reading.{Begun, FaultAt, judged, ok_is}

module _ (edge : ℕ) where
  parsed_by : (tokens : List Seen) → document_at edge tokens ≡ document_part edge most_levels tokens
  parsed_by tokens = ap (λ p. p tokens) (document_is edge)

pub derived_is_parsed : ParsesDerived
derived_is_parsed edge tokens d derives fits =
    parsed_by edge tokens ∙ document_whole edge most_levels d tokens derives ∙ ap (λ (o : Option ℕ). judged o d (length tokens)) fits

pub deeper_is_refused : RefusesDeeper
deeper_is_refused edge tokens d at derives deep =
    parsed_by edge tokens ∙ document_whole edge most_levels d tokens derives ∙ ap (λ (o : Option ℕ). judged o d (length tokens)) deep

pub parsed_is_derived : DerivesParsed
parsed_is_derived edge tokens d n e =
    let read : document_part edge most_levels tokens ≡ Ok (d, n) = sym (parsed_by edge tokens) ∙ e in
    let all = document_all edge most_levels tokens d n read in
    let derives = ((document_reads edge most_levels).sound tokens d n read).1 in
    (all, subst (Derives d) (ap (λ (k : ℕ). take k tokens) all ∙ take_all (length tokens) tokens (omega arith)) derives)

pub parsed_fits : (edge : ℕ) (tokens : List Seen) (d : DocumentTree) (n : ℕ) → document_at edge tokens ≡ Ok (d, n) → document_deep most_levels d ≡ None
parsed_fits edge tokens d n e = ((document_reads edge most_levels).sound tokens d n (sym (parsed_by edge tokens) ∙ e)).2

pub one_document : IsOneDocument
one_document tokens d e derives other =
    let levels = enough d e in
    let read : (let r : Scan DocumentTree = Ok (d, length tokens) in r) ≡ Ok (e, length tokens) =
    ap (λ (o : Option ℕ). judged o d (length tokens)) (sym levels.1) ∙ sym (document_whole 0 levels.0 d tokens derives) ∙ document_whole 0 levels.0 e tokens other ∙ ap (λ (o : Option ℕ). judged o e (length tokens)) levels.2 in
    ap (λ (p : DocumentTree × ℕ). p.0) (ok_is (d, length tokens) (e, length tokens) read)

-- ---- faults

same_place : (f : Fault) → Rattle.grammar_laws.proofs.Reading.place_of f ≡ place_of f
same_place (faults.Syntax at) = refl
same_place (faults.Nested at) = refl

module _ (edge : ℕ) (tokens : List Seen) (f : Fault) (e : document_at edge tokens ≡ Err f) where
  fault : FaultAt edge Derives (document_deep most_levels) (document_part edge most_levels) tokens f
  fault = (document_reads edge most_levels).faults tokens f (sym (parsed_by edge tokens) ∙ e)

  same_behind : (rest : List Seen) → fault.place < length tokens → document_at edge (take (suc fault.place) tokens ++ rest) ≡ Err f
  same_behind rest less = parsed_by edge (take (suc fault.place) tokens ++ rest) ∙ fault.stays (take (suc fault.place) tokens ++ rest) (same_front (suc fault.place) tokens rest less)

pub looks_no_further : FaultsLookNoFurther
looks_no_further edge tokens f e =
    let at = fault edge tokens f e in
    record { place = at.place; within = at.within; told = sym (same_place f) ∙ at.told; same = same_behind edge tokens f e }

-- no tokens are a document
abbrev empty : DocumentTree
empty = record { includes = []; definitions = [] }

empty_is : Derives empty []
empty_is = Derives.document (record { includes = []; definitions = [] }) [] [] DerivesHeaders.none DerivesDefinitions.none

empty_begins : Begins []
empty_begins = ([], (empty, empty_is))

begins : (edge : ℕ) (tokens : List Seen) (n : ℕ) → (n ≡ 0) ⊎ Begun edge Derives (document_deep most_levels) true (take n tokens) → Begins (take n tokens)
begins edge tokens n (inl none) = subst (λ (k : ℕ). Begins (take k tokens)) (sym none) empty_begins
begins edge tokens n (inr b) = (b.rest, (b.value, b.derives))

-- a document is read, or refused for its depth
no_syntax : (o : Option ℕ) (d : DocumentTree) (n at : ℕ) → judged o d n ≡ Err (faults.Syntax at) → ⊥
no_syntax None d n at e = cc
no_syntax (Some deep) d n at e = cc

never_syntax : (edge : ℕ) (tokens : List Seen) (at : ℕ) → IsDocument tokens → document_at edge tokens ≡ Err (faults.Syntax at) → ⊥
never_syntax edge tokens at d e =
    no_syntax (document_deep most_levels d.0) d.0 (length tokens) at (sym (document_whole edge most_levels d.0 tokens d.1) ∙ sym (parsed_by edge tokens) ∙ e)

at_or_behind : (n m : ℕ) → n ≤ m → (n ≡ m) ⊎ (n < m)
at_or_behind zero zero h = inl refl
at_or_behind zero (suc m) h = inr (omega arith)
at_or_behind (suc n) zero h = absurd (omega arith)
at_or_behind (suc n) (suc m) h = by (at_or_behind n m (omega arith))
  where
    by : (n ≡ m) ⊎ (n < m) → (suc n ≡ suc m) ⊎ (suc n < suc m)
    by (inl e) = inl (ap suc e)
    by (inr less) = inr (omega (arith, less))

within : (edge : ℕ) (tokens : List Seen) (n : ℕ) → (n ≡ 0) ⊎ Begun edge Derives (document_deep most_levels) true (take n tokens) → BeginsWithin most_levels (take n tokens)
within edge tokens n (inl none) = subst (λ (k : ℕ). BeginsWithin most_levels (take k tokens)) (sym none) ([], empty, empty_is, refl)
within edge tokens n (inr b) = (b.rest, b.value, b.derives, b.fits)

pub first_fault : TellsFirstFault
first_fault edge tokens at e = record {
  place = place;
  stands = by (at_or_behind place (length tokens) (fault edge tokens (faults.Syntax at) e).within);
  within = within edge tokens place (fault edge tokens (faults.Syntax at) e).begins;
  told = (fault edge tokens (faults.Syntax at) e).told;
}
  where
    place : ℕ
    place = (fault edge tokens (faults.Syntax at) e).place

    begun : Begins (take place tokens)
    begun = begins edge tokens place (fault edge tokens (faults.Syntax at) e).begins

    by : (place ≡ length tokens) ⊎ (place < length tokens) → IsFaultPlace tokens place
    by (inl last) = at_end last (subst Begins (ap (λ (k : ℕ). take k tokens) last ∙ take_all (length tokens) tokens (omega arith)) begun) (λ d. never_syntax edge tokens at d e)
    by (inr less) = at_token less begun (λ b. never_syntax edge (take (suc place) tokens ++ b.0) at b.1 (same_behind edge tokens (faults.Syntax at) e b.0 less))

-- what is refused for its depth is deep there
only_deep : (o : Option ℕ) (d : DocumentTree) (n at : ℕ) → judged o d n ≡ Err (faults.Nested at) → o ≡ Some at
only_deep None d n at e = absurd (no e)
  where
    no : (let r : Scan DocumentTree = Ok (d, n) in r) ≡ Err (faults.Nested at) → ⊥
    no p = cc
only_deep (Some deep) d n at e = cc

pub first_depth : TellsFirstDepth
first_depth edge tokens at e =
    let f = fault edge tokens (faults.Nested at) e in
    let o = f.opens at refl in record {
      place = f.place;
      there = o.0;
      within = within edge tokens f.place f.begins;
      opens = (o.1.rest, (o.1.value, o.1.derives));
      deep = λ rest d derives. only_deep (document_deep most_levels d) d (length (take (suc f.place) tokens ++ rest)) at
          (sym (document_whole edge most_levels d (take (suc f.place) tokens ++ rest) derives) ∙ sym (parsed_by edge (take (suc f.place) tokens ++ rest)) ∙ same_behind edge tokens (faults.Nested at) e rest o.0);
      told = f.told;
    }
