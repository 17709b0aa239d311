-- Documents are read as they are derived.
use Rattle.std.proofs.Common.{◌≡◌, ◌∙◌, ap, sym, subst, refl, ℕ, suc, ◌+◌, ◌≤◌, List, [], ◌∷◌, ◌++◌, length, drop, Bool, true, false, ◌||◌, Option, Some, None, Ok, Err, inl, inr, arith, length-append, length-drop}
use Rattle.std.proofs.Math.Path.{fun_ext}
use Rattle.idl_document.specs.declared.document.Name.{Name}
use Rattle.idl_document.specs.Trees.{DefinitionTree, DocumentTree}
use Rattle.idl_parser.specs.declared.fault.Fault.TheVariants as faults
use Rattle.grammar_laws.proofs.Lexicon.{Lexeme}
use Rattle.grammar_laws.proofs.Lexicon as words
use Rattle.grammar_laws.proofs.Lexicon.{Keyword}
use Rattle.idl_parser.specs.Cpp.{id_at, literal_at}
use Rattle.idl_parser.specs.Declarations.{one_definition}
use Rattle.idl_parser.specs.Documents.{document_at, header_at, include_at, is_header, is_header_by, namespace_at, scope_at, told_at}
use Rattle.idl_parser.specs.Grammar.{Derives, DerivesDefinitions, DerivesHeader, DerivesHeaders, DerivesScope, Separator}
use Rattle.idl_parser.specs.Lexemes.{Scan, is_left, lexeme_of, offset_of, onward, stands, stands_by}
use Rattle.idl_parser.specs.Marks.{most_levels}
use Rattle.idl_parser.specs.Notes.{notes_at}
use Rattle.idl_parser.specs.Run.{run}
use Rattle.idl_parser.specs.Seen.{Seen}
use Rattle.grammar_laws.specs.Depth.{definitions_deep, definition_deep, document_deep, first_of}
use Rattle.grammar_laws.proofs.Chains.{chain2, goes_on, last, onward_moved}
use Rattle.grammar_laws.proofs.Choices.{Either, choice, choice_reads, either_barred}
use Rattle.grammar_laws.proofs.Definitions.{OneDefinition, definition_barred, definition_kinds, definitions_from, definitions_to, one_definition_is, one_definition_part, one_definition_reads}
use Rattle.grammar_laws.proofs.Fields.{name_kinds, name_view}
use Rattle.grammar_laws.proofs.TokenKinds.{Kind, among, both_barred, free, free_is, is_kind, kind, literal_kind, mark_kind, nothing_barred, or_neither, word_kind}
use Rattle.grammar_laws.proofs.Lists.{Same, append_none, drop_front, right4, same_lexeme}
use Rattle.grammar_laws.proofs.Many.{Many, many_ends, many_reads, many_whole, no_more, one_more}
use Rattle.grammar_laws.proofs.Notes.{IsNotes, IsSeparator, both_at, both_by, if_chosen, notes_reads, opens_by, plain_bar, round_kinds, sep_at, sep_barred, sep_reads, separators}
use Rattle.grammar_laws.proofs.Reading.{IsToken, Never, Part, Reads, Viewed, as_reads, fails, judged, moved, ok_is, same_reads, shallow, token_by, view_reads}
use Rattle.grammar_laws.proofs.Singles.{IsLone, id_reads, is_of, is_of_kinds, is_one, keyword_is, literal_is, literal_reads, mark_is, means_name, name_means, opened_is, sample, some_lone, stands_kind, unit_is, word, word_reads}
use Rattle.grammar_laws.proofs.Steps.{Both, Went, step, step_judged, step_reads, went}
use Rattle.grammar_laws.proofs.Types.{first_none, some_both, some_notes}

abbrev kinds_of : Keyword → List Kind
kinds_of k = word_kind k ∷ []

abbrev literal_kinds : List Kind
literal_kinds = literal_kind ∷ []

abbrev star_kinds : List Kind
star_kinds = mark_kind 42 ∷ []

abbrev scope_kinds : List Kind
scope_kinds = star_kinds ++ name_kinds

abbrev note_barred : Kind → Bool
note_barred = both_barred true nothing_barred (plain_bar round_kinds)

-- ---- headers

abbrev path_view : Seen → List Name
path_view s = name_view s ∷ []

abbrev IsPath : List Name → List Seen → Type 0
IsPath = Viewed path_view (IsToken (is_of_kinds literal_kinds))

abbrev ScopeForm : Unit {0} → List Seen → Type 0
ScopeForm = Either (Viewed (λ s. tt) (IsToken (is_of_kinds star_kinds))) (IsLone words.Word)

abbrev IsScope : Unit {0} → List Seen → Type 0
IsScope u tokens = DerivesScope tokens

abbrev SpaceRest : Unit {0} × (Unit {0} × Unit {0}) → List Seen → Type 0
SpaceRest = Both IsScope (Both (IsLone words.Word) IsNotes)

abbrev include_view : Seen × List Name → List Name
include_view t = t.1

abbrev nothing_view : {Y : Type 0} → Seen × Y → List Name
nothing_view t = []

abbrev Branch : {Y : Type 0} → Keyword → (Seen × Y → List Name) → (Y → List Seen → Type 0) → List Name → List Seen → Type 0
Branch k g E = Viewed g (Both (IsToken (is_of_kinds (kinds_of k))) E)

abbrev IncludeForm : List Name → List Seen → Type 0
IncludeForm = Branch words.Include include_view IsPath

abbrev CppForm : List Name → List Seen → Type 0
CppForm = Branch words.CppInclude nothing_view (IsLone words.Literal)

abbrev SpaceForm : List Name → List Seen → Type 0
SpaceForm = Branch words.Namespace nothing_view SpaceRest

abbrev HeaderForm : List Name → List Seen → Type 0
HeaderForm = Either IncludeForm (Either CppForm (Either SpaceForm Never))

abbrev header_kinds : List Kind
header_kinds = word_kind words.Include ∷ word_kind words.CppInclude ∷ word_kind words.Namespace ∷ []

abbrev told_barred : Kind → Bool
told_barred = either_barred false (kinds_of words.Include) nothing_barred (either_barred false (kinds_of words.CppInclude) nothing_barred (either_barred false (kinds_of words.Namespace) note_barred nothing_barred))

abbrev header_barred : Kind → Bool
header_barred = both_barred true told_barred sep_barred

abbrev OneHeader : List Name → List Seen → Type 0
OneHeader = Viewed (λ t. t.0) (Both DerivesHeader IsSeparator)

abbrev some_path : (p : List Name) × (tokens : List Seen) × IsPath p tokens
some_path = (path_view (sample words.Literal), sample words.Literal ∷ [], record { value = sample words.Literal; seen = refl; derives = (refl, refl) })

abbrev some_scope : (u : Unit {0}) × (tokens : List Seen) × IsScope u tokens
some_scope = let n = some_lone words.Word in let m = name_means n.1 n.2 in (tt, n.1, DerivesScope.one m.0 n.1 m.1)

abbrev some_space : (t : Unit {0} × (Unit {0} × Unit {0})) × (tokens : List Seen) × SpaceRest t tokens
some_space = some_both IsScope (Both (IsLone words.Word) IsNotes) some_scope (some_both (IsLone words.Word) IsNotes (some_lone words.Word) some_notes)

module _ (edge : ℕ) where
  path_same : (xs : List Seen) → include_at edge xs ≡ moved 0 path_view (word edge literal_kinds xs)
  unfolding include_at
  path_same [] = refl
  path_same (s ∷ ss) = by s.at s.lexeme s.word
    where
      by : (at : ℕ) (l : Lexeme) (w : List ℕ) → include_at edge (record { at = at; lexeme = l; word = w } ∷ ss) ≡ moved 0 path_view (word edge literal_kinds (record { at = at; lexeme = l; word = w } ∷ ss))
      by at words.Literal w = refl
      by at l w = refl

  path_reads : Reads edge IsPath shallow (include_at edge) false literal_kinds nothing_barred
  path_reads =
      same_reads edge IsPath IsPath shallow (λ xs. moved 0 path_view (word edge literal_kinds xs)) (include_at edge) false literal_kinds nothing_barred path_same (λ x tokens d. d) (λ x tokens d. d)
      (view_reads edge (IsToken (is_of_kinds literal_kinds)) shallow shallow (word edge literal_kinds) path_view false literal_kinds nothing_barred (λ x tokens d. refl) (word_reads edge literal_kinds))

  abbrev star_part : Part (Unit {0})
  star_part xs = moved 0 (λ s. tt) (word edge star_kinds xs)

  scope_same : (xs : List Seen) → scope_at edge xs ≡ choice star_kinds star_part (id_at edge) xs
  unfolding scope_at stands
  scope_same [] = refl
  scope_same (s ∷ ss) =
      if_chosen (stands_by 42 s.lexeme) (is_kind (mark_kind 42) (kind s.lexeme)) (Ok (tt, 1)) (star_part (s ∷ ss)) (id_at edge (s ∷ ss)) (stands_kind edge 42 s.lexeme)
      (λ e. sym (ap (λ (b : Bool). moved 0 (λ s. let u : Unit {0} = tt in u) (token_by b s)) e))

  scope_to : (u : Unit {0}) (tokens : List Seen) → ScopeForm u tokens → IsScope u tokens
  scope_to u tokens (inl v) = DerivesScope.all tokens (is_of (words.Mark 42) v.value tokens (mark_is 42 v.value.lexeme v.derives.0) v.derives.1)
  scope_to u tokens (inr d) = let m = name_means tokens d in DerivesScope.one m.0 tokens m.1

  scope_from : (u : Unit {0}) (tokens : List Seen) → IsScope u tokens → ScopeForm u tokens
  scope_from u _ (DerivesScope.all star m) = let o = is_one (words.Mark 42) star m in inl (record { value = o.seen; seen = unit_is u; derives = (ap (λ (l : Lexeme). among star_kinds (kind l)) o.says, o.whole) })
  scope_from u _ (DerivesScope.one n name m) = inr (means_name n name m)

  scope_reads : Reads edge IsScope shallow (scope_at edge) false scope_kinds nothing_barred
  scope_reads =
      same_reads edge ScopeForm IsScope shallow (choice star_kinds star_part (id_at edge)) (scope_at edge) false scope_kinds nothing_barred scope_same scope_to scope_from
      (choice_reads edge (Viewed (λ s. tt) (IsToken (is_of_kinds star_kinds))) (IsLone words.Word) shallow star_part (id_at edge) false star_kinds name_kinds nothing_barred nothing_barred refl
      (view_reads edge (IsToken (is_of_kinds star_kinds)) shallow shallow (word edge star_kinds) (λ s. tt) false star_kinds nothing_barred (λ x tokens d. refl) (word_reads edge star_kinds)) (id_reads edge))

  abbrev space_rest : Part (Unit {0} × (Unit {0} × Unit {0}))
  space_rest = step (scope_at edge) (step (id_at edge) (notes_at edge))

  space_reads : Reads edge SpaceRest shallow space_rest false scope_kinds note_barred
  space_reads =
      step_reads edge IsScope (Both (IsLone words.Word) IsNotes) shallow shallow (scope_at edge) (step (id_at edge) (notes_at edge)) false false scope_kinds name_kinds nothing_barred note_barred refl
      (some_both (IsLone words.Word) IsNotes (some_lone words.Word) some_notes) refl scope_reads
      (step_reads edge (IsLone words.Word) IsNotes shallow shallow (id_at edge) (notes_at edge) false true name_kinds round_kinds nothing_barred (plain_bar round_kinds) refl some_notes refl (id_reads edge) (notes_reads edge))

  abbrev branch_part : {Y : Type 0} → Keyword → (Seen × Y → List Name) → Part Y → Part (List Name)
  branch_part k g rest xs = moved 0 g (step (word edge (kinds_of k)) rest xs)

  branch_reads : {Y : Type 0} (k : Keyword) (g : Seen × Y → List Name) (E : Y → List Seen → Type 0) (rest : Part Y) (firsts : List Kind) (bar : Kind → Bool) → free firsts nothing_barred ≡ true →
      ((y : Y) × (tokens : List Seen) × E y tokens) → Reads edge E shallow rest false firsts bar → Reads edge (Branch k g E) shallow (branch_part k g rest) false (kinds_of k) bar
  branch_reads k g E rest firsts bar apart some r =
      view_reads edge (Both (IsToken (is_of_kinds (kinds_of k))) E) shallow shallow (step (word edge (kinds_of k)) rest) g false (kinds_of k) bar (λ x tokens d. refl)
      (step_reads edge (IsToken (is_of_kinds (kinds_of k))) E shallow shallow (word edge (kinds_of k)) rest false false (kinds_of k) firsts nothing_barred bar apart some refl (word_reads edge (kinds_of k)) r)

  abbrev fault_part : Part (List Name)
  fault_part xs = Err (faults.Syntax (offset_of edge xs))

  abbrev include_part : Part (List Name)
  include_part = branch_part words.Include include_view (include_at edge)

  abbrev cpp_part : Part (List Name)
  cpp_part = branch_part words.CppInclude nothing_view (literal_at edge)

  abbrev space_part : Part (List Name)
  space_part = branch_part words.Namespace nothing_view space_rest

  abbrev told_part : Part (List Name)
  told_part = choice (kinds_of words.Include) include_part (choice (kinds_of words.CppInclude) cpp_part (choice (kinds_of words.Namespace) space_part fault_part))

  told_reads : Reads edge HeaderForm shallow told_part false header_kinds told_barred
  told_reads =
      choice_reads edge IncludeForm (Either CppForm (Either SpaceForm Never)) shallow include_part (choice (kinds_of words.CppInclude) cpp_part (choice (kinds_of words.Namespace) space_part fault_part)) false
      (kinds_of words.Include) (word_kind words.CppInclude ∷ word_kind words.Namespace ∷ []) nothing_barred
      (either_barred false (kinds_of words.CppInclude) nothing_barred (either_barred false (kinds_of words.Namespace) note_barred nothing_barred)) refl
      (branch_reads words.Include include_view IsPath (include_at edge) literal_kinds nothing_barred refl some_path path_reads)
      (choice_reads edge CppForm (Either SpaceForm Never) shallow cpp_part (choice (kinds_of words.Namespace) space_part fault_part) false (kinds_of words.CppInclude) (word_kind words.Namespace ∷ []) nothing_barred
      (either_barred false (kinds_of words.Namespace) note_barred nothing_barred) refl
      (branch_reads words.CppInclude nothing_view (IsLone words.Literal) (literal_at edge) literal_kinds nothing_barred refl (some_lone words.Literal) (literal_reads edge))
      (choice_reads edge SpaceForm Never shallow space_part fault_part false (kinds_of words.Namespace) [] note_barred nothing_barred refl
      (branch_reads words.Namespace nothing_view SpaceRest space_rest scope_kinds note_barred refl some_space space_reads) (fails edge shallow)))

  header_by : (p q : List Name) (ts us : List Seen) → p ≡ q → ts ≡ us → DerivesHeader q us → DerivesHeader p ts
  header_by p q ts us e f d = subst (λ (z : List Name). DerivesHeader z ts) (sym e) (subst (DerivesHeader q) (sym f) d)

  header_to : (p : List Name) (tokens : List Seen) → HeaderForm p tokens → DerivesHeader p tokens
  header_to p tokens (inl v) =
      let o = opens_by (words.Reserved words.Include) IsPath v.value tokens (λ k. keyword_is words.Include k refl) v.derives in
      let i = o.right in
      header_by p (path_view i.value) tokens ((v.value.0 ∷ []) ++ (i.value ∷ [])) (v.seen ∙ i.seen) (o.joined ∙ ap (λ (f : List Seen). v.value.0 ∷ f) i.derives.1)
      (DerivesHeader.includes (v.value.0 ∷ []) i.value o.opens (literal_is i.value.lexeme i.derives.0))
  header_to p tokens (inr (inl v)) =
      let o = opens_by (words.Reserved words.CppInclude) (IsLone words.Literal) v.value tokens (λ k. keyword_is words.CppInclude k refl) v.derives in
      header_by p [] tokens ((v.value.0 ∷ []) ++ o.back) v.seen o.joined (DerivesHeader.cpp_include (v.value.0 ∷ []) o.back o.opens o.right)
  header_to p tokens (inr (inr (inl v))) =
      let o = opens_by (words.Reserved words.Namespace) SpaceRest v.value tokens (λ k. keyword_is words.Namespace k refl) v.derives in
      let n = o.right.right in
      let m = name_means n.front n.left in
      header_by p [] tokens ((v.value.0 ∷ []) ++ o.right.front ++ n.front ++ n.back) v.seen
      (o.joined ∙ ap (λ (f : List Seen). v.value.0 ∷ f) (o.right.joined ∙ ap (λ (f : List Seen). o.right.front ++ f) n.joined) ∙ sym (right4 (v.value.0 ∷ []) o.right.front n.front n.back))
      (DerivesHeader.namespace m.0 (v.value.0 ∷ []) o.right.front n.front n.back o.opens o.right.left m.1 n.right)
  header_to p tokens (inr (inr (inr d))) = absurd d

  header_from : (p : List Name) (tokens : List Seen) → DerivesHeader p tokens → HeaderForm p tokens
  header_from _ _ (DerivesHeader.includes word s w e) =
      let o = is_one (words.Reserved words.Include) word w in
      inl (record {
        value = (o.seen, path_view s);
        seen = refl;
        derives = both_by (words.Reserved words.Include) IsPath o.seen (path_view s) word (s ∷ []) refl o.says o.whole
            (record { value = s; seen = refl; derives = (ap (λ (l : Lexeme). among literal_kinds (kind l)) e, refl) });
      })
  header_from _ _ (DerivesHeader.cpp_include word text w t) =
      let o = is_one (words.Reserved words.CppInclude) word w in
      inr (inl (record { value = (o.seen, tt); seen = refl; derives = both_by (words.Reserved words.CppInclude) (IsLone words.Literal) o.seen tt word text refl o.says o.whole t }))
  header_from _ _ (DerivesHeader.namespace n word scope name notes w s m nt) =
      let o = is_one (words.Reserved words.Namespace) word w in
      inr (inr (inl (record {
        value = (o.seen, (tt, (tt, tt)));
        seen = refl;
        derives = both_at (words.Reserved words.Namespace) SpaceRest (o.seen, (tt, (tt, tt))) (right4 word scope name notes) (both_by (words.Reserved words.Namespace) SpaceRest o.seen (tt, (tt, tt)) word (scope ++ (name ++ notes)) refl o.says o.whole (record {
          front = scope;
          back = name ++ notes;
          left = s;
          right = record { front = name; back = notes; left = means_name n name m; right = nt; joined = refl };
          joined = refl;
        }));
      })))

  abbrev header_part : Part (List Name)
  header_part xs = moved 0 (λ t. t.0) (step told_part sep_at xs)

  header_reads : Reads edge OneHeader shallow header_part false header_kinds header_barred
  header_reads =
      view_reads edge (Both DerivesHeader IsSeparator) shallow shallow (step told_part sep_at) (λ t. t.0) false header_kinds header_barred (λ x tokens d. refl)
      (step_reads edge DerivesHeader IsSeparator shallow shallow told_part sep_at false true header_kinds separators told_barred sep_barred refl (tt, [], Separator.none) refl
      (same_reads edge HeaderForm DerivesHeader shallow told_part told_part false header_kinds told_barred (λ xs. refl) header_to header_from told_reads) (sep_reads edge))

  -- as they are scanned
  space_is : (s : Seen) (ss : List Seen) → namespace_at edge (s ∷ ss) ≡ moved 1 (λ t. tt) (space_rest ss)
  unfolding namespace_at
  space_is s ss =
      goes_on 1 (scope_at edge) (step (id_at edge) (notes_at edge)) (λ t. tt) (λ u n. onward n (id_at edge (drop n (s ∷ ss))) λ u n. onward n (notes_at edge (drop n (s ∷ ss))) λ u n. Ok (tt, n)) (s ∷ ss)
      (λ u m. goes_on m (id_at edge) (notes_at edge) (λ t. tt) (λ u n. onward n (notes_at edge (drop n (s ∷ ss))) λ u n. Ok (tt, n)) (s ∷ ss) (λ u k. last k (notes_at edge (drop k (s ∷ ss))) (λ u. tt)))

  told_is : told_at edge ≡ told_part
  unfolding told_at
  told_is = fun_ext by
    where
      by_form : (at : ℕ) (l : Lexeme) (w : List ℕ) (ss : List Seen) → told_at edge (record { at = at; lexeme = l; word = w } ∷ ss) ≡ told_part (record { at = at; lexeme = l; word = w } ∷ ss)
      by_form at (words.Reserved words.Include) w ss =
          last 1 (include_at edge ss) (λ p. p) ∙ opened_is edge (kinds_of words.Include) (include_at edge) include_view (record { at = at; lexeme = words.Reserved words.Include; word = w }) ss refl
      by_form at (words.Reserved words.CppInclude) w ss =
          last 1 (literal_at edge ss) (λ u. let p : List Name = [] in p) ∙ opened_is edge (kinds_of words.CppInclude) (literal_at edge) nothing_view (record { at = at; lexeme = words.Reserved words.CppInclude; word = w }) ss refl
      by_form at (words.Reserved words.Namespace) w ss =
          let s : Seen = record { at = at; lexeme = words.Reserved words.Namespace; word = w } in
          ap (λ (r : Scan (Unit {0})). onward 0 r (λ u n. let o : Scan (List Name) = Ok ([], n) in o)) (space_is s ss)
          ∙ onward_moved 1 (λ t. tt) (space_rest ss) (λ u n. let o : Scan (List Name) = Ok ([], n) in o) ∙ last 1 (space_rest ss) (λ t. let p : List Name = [] in p)
          ∙ opened_is edge (kinds_of words.Namespace) space_rest nothing_view s ss refl
      by_form at l w ss = refl

      by : (xs : List Seen) → told_at edge xs ≡ told_part xs
      by [] = refl
      by (s ∷ ss) = by_form s.at s.lexeme s.word ss

  header_is : header_at edge ≡ header_part
  unfolding header_at
  header_is = fun_ext by
    where
      by : (xs : List Seen) → header_at edge xs ≡ header_part xs
      by xs = chain2 (told_at edge) sep_at (λ t. t.0) xs ∙ ap (λ (p : Part (List Name)). moved 0 (λ t. t.0) (step p sep_at xs)) told_is

headers_to : (ps : List Name) (tokens : List Seen) → Many OneHeader ps tokens → DerivesHeaders ps tokens
headers_to _ _ (no_more ps tokens e none) = subst (λ (v : List Name). DerivesHeaders v tokens) (sym e) (subst (DerivesHeaders []) (sym none) DerivesHeaders.none)
headers_to _ _ (one_more p ps all front back tokens r more e split) =
    let rest = headers_to ps back more in
    let b = r.derives in
    let whole : tokens ≡ b.front ++ b.back ++ back = split ∙ ap (λ (f : List Seen). f ++ back) b.joined in
    let is : all ≡ r.value.0 ++ ps = e ∙ ap (λ (v : List Name). v ++ ps) r.seen in
    subst (λ (v : List Name). DerivesHeaders v tokens) (sym is) (subst (DerivesHeaders (r.value.0 ++ ps)) (sym whole) (DerivesHeaders.more r.value.0 ps b.front b.back back b.left b.right rest))

headers_from : (ps : List Name) (tokens : List Seen) → DerivesHeaders ps tokens → Many OneHeader ps tokens
headers_from _ _ DerivesHeaders.none = no_more [] [] refl refl
headers_from _ _ (DerivesHeaders.more path paths header separator rest r s others) =
    one_more path paths (path ++ paths) (header ++ separator) rest (header ++ separator ++ rest)
    (record { value = (path, tt); seen = refl; derives = record { front = header; back = separator; left = r; right = s; joined = refl } }) (headers_from paths rest others) refl refl

is_header_kind : (l : Lexeme) → is_header_by l ≡ among header_kinds (kind l)
is_header_kind (words.Reserved words.Include) = refl
is_header_kind (words.Reserved words.CppInclude) = refl
is_header_kind (words.Reserved words.Namespace) = refl
is_header_kind l = refl

header_alike : (n : ℕ) (xs ys : List Seen) → Same (suc n) xs ys → is_header xs ≡ is_header ys
unfolding is_header
header_alike n xs ys alike = ap is_header_by (same_lexeme n xs ys alike)

header_goes : (s : Seen) (rest : List Seen) → among header_kinds (kind s.lexeme) ≡ true → is_header (s ∷ rest) ≡ true
unfolding is_header
header_goes s rest e = is_header_kind s.lexeme ∙ e

-- what may not stand behind the headers
abbrev headers_barred : Kind → Bool
headers_barred k = among header_kinds k || header_barred k

headers_stop : (rest : List Seen) → headers_barred (kind (lexeme_of rest)) ≡ false → (is_header rest ≡ false) × (header_barred (kind (lexeme_of rest)) ≡ false)
unfolding is_header
headers_stop rest e =
    let both = or_neither (among header_kinds (kind (lexeme_of rest))) (header_barred (kind (lexeme_of rest))) e in
    (is_header_kind (lexeme_of rest) ∙ both.0, both.1)

left_alike : (n : ℕ) (xs ys : List Seen) → Same (suc n) xs ys → is_left xs ≡ is_left ys
left_alike n [] [] s = refl
left_alike n [] (y ∷ ys) s = absurd s
left_alike n (x ∷ xs) [] s = absurd s
left_alike n (x ∷ xs) (y ∷ ys) s = refl

none_left : (xs : List Seen) → is_left xs ≡ false → xs ≡ []
none_left [] e = refl
none_left (x ∷ xs) e = absurd (cc)

abbrev all_barred : Kind → Bool
all_barred k = true

abbrev document_view : List Name × List DefinitionTree → DocumentTree
document_view t = record { includes = t.0; definitions = t.1 }

abbrev DocumentForm : DocumentTree → List Seen → Type 0
DocumentForm = Viewed document_view (Both DerivesHeaders DerivesDefinitions)

document_to : (d : DocumentTree) (tokens : List Seen) → DocumentForm d tokens → Derives d tokens
document_to d tokens v =
    let b = v.derives in
    subst (λ (z : DocumentTree). Derives z tokens) (sym v.seen) (subst (Derives (document_view v.value)) (sym b.joined) (Derives.document (document_view v.value) b.front b.back b.left b.right))

document_from : (d : DocumentTree) (tokens : List Seen) → Derives d tokens → DocumentForm d tokens
document_from _ _ (Derives.document d headers definitions h ds) =
    record { value = (d.includes, d.definitions); seen = refl; derives = record { front = headers; back = definitions; left = h; right = ds; joined = refl } }

module _ (edge levels : ℕ) where
  abbrev headers_part : Part (List Name)
  headers_part xs = run is_header (header_part edge) edge xs 0

  abbrev definitions_part : Part (List DefinitionTree)
  definitions_part xs = run is_left (one_definition_part edge levels) edge xs 0

  abbrev pub document_part : Part DocumentTree
  document_part xs = moved 0 document_view (step headers_part definitions_part xs)

  headers_reads : Reads edge DerivesHeaders shallow headers_part true header_kinds headers_barred
  headers_reads =
      same_reads edge (Many OneHeader) DerivesHeaders shallow headers_part headers_part true header_kinds headers_barred (λ xs. refl) headers_to headers_from
      (many_reads edge is_header (header_part edge) OneHeader shallow header_kinds header_barred (header_reads edge) header_goes header_alike refl (λ y ys tokens d. refl) headers_barred refl headers_stop)

  both_deep : (y ys : List DefinitionTree) (tokens : List Seen) → OneDefinition y tokens → definitions_deep levels (y ++ ys) ≡ first_of (definitions_deep levels y) (definitions_deep levels ys)
  both_deep y ys tokens d =
      ap (λ (v : List DefinitionTree). definitions_deep levels (v ++ ys)) d.seen ∙ ap (λ (o : Option ℕ). first_of o (definitions_deep levels ys)) (first_none (definition_deep levels d.value))
      ∙ ap (λ (v : List DefinitionTree). first_of (definitions_deep levels v) (definitions_deep levels ys)) (sym d.seen)

  definitions_reads : Reads edge DerivesDefinitions (definitions_deep levels) definitions_part true definition_kinds all_barred
  definitions_reads =
      same_reads edge (Many OneDefinition) DerivesDefinitions (definitions_deep levels) definitions_part definitions_part true definition_kinds all_barred (λ xs. refl) definitions_to definitions_from
      (many_reads edge is_left (one_definition_part edge levels) OneDefinition (definitions_deep levels) definition_kinds definition_barred (one_definition_reads edge levels) (λ s rest e. refl) left_alike refl both_deep all_barred refl
      (λ rest e. absurd (cc)))

  pub document_reads : Reads edge Derives (document_deep levels) document_part true (header_kinds ++ definition_kinds) (both_barred true headers_barred all_barred)
  document_reads =
      as_reads edge (Both DerivesHeaders DerivesDefinitions) Derives (λ t. definitions_deep levels t.1) (document_deep levels) (step headers_part definitions_part) document_part document_view true (header_kinds ++ definition_kinds)
      (both_barred true headers_barred all_barred) (λ xs. refl) (λ x tokens d. document_to (document_view x) tokens (record { value = x; seen = refl; derives = d })) document_from (λ x tokens d. refl)
      (step_reads edge DerivesHeaders DerivesDefinitions shallow (definitions_deep levels) headers_part definitions_part true true header_kinds definition_kinds headers_barred all_barred refl ([], [], DerivesDefinitions.none) refl
      headers_reads definitions_reads)

  definitions_whole : (ds : List DefinitionTree) (tokens : List Seen) → DerivesDefinitions ds tokens → definitions_part (tokens ++ []) ≡ judged (definitions_deep levels ds) ds (length tokens)
  definitions_whole ds tokens d =
      many_whole edge is_left (one_definition_part edge levels) OneDefinition (definitions_deep levels) definition_kinds definition_barred (one_definition_reads edge levels) (λ s rest e. refl) left_alike refl both_deep ds tokens [] refl refl
      refl (definitions_from ds tokens d)

  definitions_free : (ds : List DefinitionTree) (tokens : List Seen) → DerivesDefinitions ds tokens → headers_barred (kind (lexeme_of (tokens ++ []))) ≡ false
  definitions_free ds [] d = refl
  definitions_free ds (s ∷ tokens) d = free_is definition_kinds headers_barred (kind s.lexeme) refl (definitions_reads.starts ds (s ∷ tokens) d)

  judged_view : (o : Option ℕ) (t : List Name × List DefinitionTree) (n : ℕ) → moved 0 document_view (judged o t n) ≡ judged o (document_view t) n
  judged_view None t n = let none : 0 + n ≡ n = omega arith in ap (λ (k : ℕ). let r : Scan DocumentTree = Ok (document_view t, k) in r) none
  judged_view (Some at) t n = refl

  -- what is derived is read, as far as levels are left
  pub document_whole : (d : DocumentTree) (tokens : List Seen) → Derives d tokens → document_part tokens ≡ judged (document_deep levels d) d (length tokens)
  document_whole d tokens derives =
      let v = document_from d tokens derives in
      let b = v.derives in
      let one = headers_reads.whole v.value.0 b.front (b.back ++ []) b.left (definitions_free v.value.1 b.back b.right) in
      let two = ap definitions_part (drop_front b.front (b.back ++ [])) ∙ definitions_whole v.value.1 b.back b.right in
      let split : tokens ≡ b.front ++ (b.back ++ []) = b.joined ∙ ap (λ (f : List Seen). b.front ++ f) (sym (append_none b.back)) in
      let size : length b.front + length b.back ≡ length tokens = sym (ap length b.joined ∙ length-append b.front b.back) in
      ap document_part split
      ∙ ap (moved 0 document_view) (step_judged headers_part definitions_part (b.front ++ (b.back ++ [])) v.value.0 v.value.1 (length b.front) (length b.back) None (definitions_deep levels v.value.1) one two)
      ∙ judged_view (definitions_deep levels v.value.1) v.value (length b.front + length b.back)
      ∙ ap (λ (k : ℕ). judged (definitions_deep levels v.value.1) (document_view v.value) k) size
      ∙ ap (λ (z : DocumentTree). judged (document_deep levels z) z (length tokens)) (sym v.seen)

  -- all tokens are read
  went_all : (xs : List Seen) (t : List Name × List DefinitionTree) (n : ℕ) → n ≤ length xs → Went headers_part definitions_part xs t n → n ≡ length xs
  went_all xs t n within w =
      let none = many_ends edge is_left (one_definition_part edge levels) OneDefinition (definitions_deep levels) definition_kinds definition_barred (one_definition_reads edge levels) (λ s rest e. refl) left_alike refl both_deep
      (drop w.first xs) t.1 w.second w.right in
      let empty = none_left (drop w.second (drop w.first xs)) none in
      let left : length (drop w.second (drop w.first xs)) ≡ 0 = ap length empty in
      let count : n ≡ w.first + w.second = w.count in
      omega (arith, within, left, count, length-drop w.second (drop w.first xs), length-drop w.first xs)

  was_step : (r : Scan (List Name × List DefinitionTree)) (d : DocumentTree) (n : ℕ) → moved 0 document_view r ≡ Ok (d, n) → (t : List Name × List DefinitionTree) × (r ≡ Ok (t, n))
  was_step (Ok x) d n e =
      let same = ap (λ (p : DocumentTree × ℕ). p.1) (ok_is (document_view x.0, 0 + x.1) (d, n) e) in
      let plain : x.1 ≡ n = omega (arith, same) in
      (x.0, ap (λ (k : ℕ). let r : Scan (List Name × List DefinitionTree) = Ok (x.0, k) in r) plain)
  was_step (Err f) d n e = absurd (cc)

  pub document_all : (xs : List Seen) (d : DocumentTree) (n : ℕ) → document_part xs ≡ Ok (d, n) → n ≡ length xs
  document_all xs d n e =
      let was = was_step (step headers_part definitions_part xs) d n e in
      went_all xs was.0 n (document_reads.sound xs d n e).0 (went headers_part definitions_part xs was.0 n was.1)

-- the parser's document
module _ (edge : ℕ) where
  pub document_is : document_at edge ≡ document_part edge most_levels
  unfolding document_at
  document_is = fun_ext by
    where
      by : (xs : List Seen) → document_at edge xs ≡ document_part edge most_levels xs
      by xs =
          chain2 (λ ts. run is_header (header_at edge) edge ts 0) (λ ts. run is_left (one_definition edge) edge ts 0) document_view xs
          ∙ ap (λ (o : Part (List Name)). moved 0 document_view (step (λ ts. run is_header o edge ts 0) (λ ts. run is_left (one_definition edge) edge ts 0) xs)) (header_is edge)
          ∙ ap (λ (o : Part (List DefinitionTree)). moved 0 document_view (step (λ ts. run is_header (header_part edge) edge ts 0) (λ ts. run is_left o edge ts 0) xs)) (one_definition_is edge)
