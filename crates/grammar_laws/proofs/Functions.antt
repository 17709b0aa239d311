-- Methods are read as they are derived.
use Rattle.std.proofs.Common.{◌≡◌, ◌∙◌, ap, sym, subst, refl, ℕ, List, [], ◌∷◌, ◌++◌, Bool, true, false, Option, Some, None, Ok, inl, inr}
use Rattle.std.proofs.Math.Path.{fun_ext}
use Rattle.idl_document.specs.declared.document.Name.{Name}
use Rattle.idl_document.specs.Trees.{FieldTree, FunctionTree, TypeTree}
use Rattle.grammar_laws.proofs.Lexicon.{Lexeme}
use Rattle.grammar_laws.proofs.Lexicon as words
use Rattle.idl_parser.specs.Fields.{body_end_at, fields_in, name_at, tail_at}
use Rattle.idl_parser.specs.Functions.{FieldListsTree, SignatureTree, field_lists_at, function_at, functions_in, last_throws_at, one_function, oneway_at, returns_at, signature_at, throws_at}
use Rattle.idl_parser.specs.Grammar.{Declares, DerivesArguments, DerivesFunctions, DerivesOneway, DerivesReturns, DerivesThrows, DerivesType}
use Rattle.idl_parser.specs.Lexemes.{mark_at}
use Rattle.idl_parser.specs.Marks.{most_levels}
use Rattle.idl_parser.specs.Notes.{not_closed, notes_at}
use Rattle.idl_parser.specs.Run.{run}
use Rattle.idl_parser.specs.Seen.{Seen}
use Rattle.idl_parser.specs.Types.{type_at}
use Rattle.grammar_laws.specs.Depth.{fields_deep, first_of, function_deep, functions_deep, returns_deep, type_deep}
use Rattle.grammar_laws.proofs.Chains.{chain2, chain3, last}
use Rattle.grammar_laws.proofs.Choices.{Either, choice, choice_reads}
use Rattle.grammar_laws.proofs.Fields.{IsBetween, IsTail, between_is, between_part, between_reads, listed_moved, name_kinds, name_reads, some_between, some_declared, some_tail, tail_barred, tail_kinds, tail_reads}
use Rattle.grammar_laws.proofs.TokenKinds.{Kind, among, both_barred, free_nothing, kind, mark_kind, nothing_barred, word_kind}
use Rattle.grammar_laws.proofs.Lists.{append_more}
use Rattle.grammar_laws.proofs.Many.{Many, no_more, one_more}
use Rattle.grammar_laws.proofs.Notes.{IsNotes, MayGiven, both_by, list_reads, may_part, may_reads, notes_reads, opens_by, plain_bar, round_kinds, unclosed}
use Rattle.grammar_laws.proofs.Reading.{IsNone, IsToken, Part, Reads, Viewed, moved, none_both, none_reads, same_reads, shallow, view_reads}
use Rattle.grammar_laws.proofs.Singles.{IsLone, is_of, is_of_kinds, is_one, keyword_is, mark_reads, opened_is, some_lone, word, word_reads}
use Rattle.grammar_laws.proofs.Steps.{Both, step, step_reads}
use Rattle.grammar_laws.proofs.Types.{first_none, some_both, some_notes, some_type, type_barred, type_kinds, type_reads}

-- ---- oneway

abbrev oneway_kinds : List Kind
oneway_kinds = word_kind words.Oneway ∷ []

abbrev oneway_view : Seen → Option ℕ
oneway_view s = Some s.at

module _ (edge : ℕ) where
  abbrev oneway_given : Part (Option ℕ)
  oneway_given xs = moved 0 oneway_view (word edge oneway_kinds xs)

  abbrev oneway_none : Part (Option ℕ)
  oneway_none xs = Ok (None, 0)

  abbrev oneway_part : Part (Option ℕ)
  oneway_part = choice oneway_kinds oneway_given oneway_none

  abbrev OnewayForm : Option ℕ → List Seen → Type 0
  OnewayForm = Either (Viewed oneway_view (IsToken (is_of_kinds oneway_kinds))) (IsNone None)

  oneway_by_form : (at : ℕ) (l : Lexeme) (w : List ℕ) (ss : List Seen) → oneway_at edge (record { at = at; lexeme = l; word = w } ∷ ss) ≡ oneway_part (record { at = at; lexeme = l; word = w } ∷ ss)
  unfolding oneway_at
  oneway_by_form at (words.Reserved words.Oneway) w ss = refl
  oneway_by_form at l w ss = refl

  oneway_same : (xs : List Seen) → oneway_at edge xs ≡ oneway_part xs
  unfolding oneway_at
  oneway_same [] = refl
  oneway_same (s ∷ ss) = oneway_by_form s.at s.lexeme s.word ss

  oneway_to : (o : Option ℕ) (tokens : List Seen) → OnewayForm o tokens → DerivesOneway o tokens
  oneway_to o tokens (inl v) =
      subst (λ (u : Option ℕ). DerivesOneway u tokens) (sym v.seen)
      (subst (DerivesOneway (Some v.value.at)) (sym v.derives.1) (DerivesOneway.given v.value (keyword_is words.Oneway v.value.lexeme refl v.derives.0)))
  oneway_to o tokens (inr d) = subst (λ (u : Option ℕ). DerivesOneway u tokens) (sym d.0) (subst (DerivesOneway None) (sym d.1) DerivesOneway.missing)

  oneway_from : (o : Option ℕ) (tokens : List Seen) → DerivesOneway o tokens → OnewayForm o tokens
  oneway_from _ _ DerivesOneway.missing = inr (refl, refl)
  oneway_from _ _ (DerivesOneway.given s e) = inl (record { value = s; seen = refl; derives = (ap (λ (l : Lexeme). among oneway_kinds (kind l)) e, refl) })

  oneway_reads : Reads edge DerivesOneway shallow (oneway_at edge) true oneway_kinds (plain_bar oneway_kinds)
  oneway_reads =
      same_reads edge OnewayForm DerivesOneway shallow oneway_part (oneway_at edge) true oneway_kinds (plain_bar oneway_kinds) oneway_same oneway_to oneway_from
      (choice_reads edge (Viewed oneway_view (IsToken (is_of_kinds oneway_kinds))) (IsNone None) shallow oneway_given oneway_none true oneway_kinds [] nothing_barred nothing_barred refl
      (view_reads edge (IsToken (is_of_kinds oneway_kinds)) shallow shallow (word edge oneway_kinds) oneway_view false oneway_kinds nothing_barred (λ x tokens d. refl) (word_reads edge oneway_kinds))
      (none_reads edge None shallow refl))

-- ---- what is returned

abbrev void_kinds : List Kind
void_kinds = word_kind words.Void ∷ []

abbrev returns_kinds : List Kind
returns_kinds = void_kinds ++ type_kinds

abbrev void_view : Seen → Option TypeTree
void_view s = None

abbrev some_view : TypeTree → Option TypeTree
some_view t = Some t

abbrev ReturnsForm : Option TypeTree → List Seen → Type 0
ReturnsForm = Either (Viewed void_view (IsToken (is_of_kinds void_kinds))) (Viewed some_view DerivesType)

module _ (edge levels : ℕ) where
  abbrev void_part : Part (Option TypeTree)
  void_part xs = moved 0 void_view (word edge void_kinds xs)

  abbrev some_part : Part (Option TypeTree)
  some_part xs = moved 0 some_view (type_at levels edge xs)

  abbrev returns_part : Part (Option TypeTree)
  returns_part = choice void_kinds void_part some_part

  returns_to : (o : Option TypeTree) (tokens : List Seen) → ReturnsForm o tokens → DerivesReturns o tokens
  returns_to o tokens (inl v) =
      subst (λ (u : Option TypeTree). DerivesReturns u tokens) (sym v.seen)
      (DerivesReturns.void tokens (is_of (words.Reserved words.Void) v.value tokens (keyword_is words.Void v.value.lexeme refl v.derives.0) v.derives.1))
  returns_to o tokens (inr v) = subst (λ (u : Option TypeTree). DerivesReturns u tokens) (sym v.seen) (DerivesReturns.typed v.value tokens v.derives)

  returns_from : (o : Option TypeTree) (tokens : List Seen) → DerivesReturns o tokens → ReturnsForm o tokens
  returns_from _ _ (DerivesReturns.void word w) =
      let o = is_one (words.Reserved words.Void) word w in
      inl (record { value = o.seen; seen = refl; derives = (ap (λ (l : Lexeme). among void_kinds (kind l)) o.says, o.whole) })
  returns_from _ _ (DerivesReturns.typed t ty d) = inr (record { value = t; seen = refl; derives = d })

  returns_reads : Reads edge DerivesReturns (returns_deep levels) returns_part false returns_kinds type_barred
  returns_reads =
      same_reads edge ReturnsForm DerivesReturns (returns_deep levels) returns_part returns_part false returns_kinds type_barred (λ xs. refl) returns_to returns_from
      (choice_reads edge (Viewed void_view (IsToken (is_of_kinds void_kinds))) (Viewed some_view DerivesType) (returns_deep levels) void_part some_part false void_kinds type_kinds nothing_barred type_barred refl
      (view_reads edge (IsToken (is_of_kinds void_kinds)) shallow (returns_deep levels) (word edge void_kinds) void_view false void_kinds nothing_barred (λ x tokens d. refl) (word_reads edge void_kinds))
      (view_reads edge DerivesType (type_deep levels) (returns_deep levels) (type_at levels edge) some_view false type_kinds type_barred (λ x tokens d. refl) (type_reads edge levels)))

-- ---- arguments and what is thrown

abbrev Arguments : List FieldTree → List Seen → Type 0
Arguments = IsBetween 40 41

abbrev throws_lexeme : Lexeme
throws_lexeme = words.Reserved words.Throws

abbrev throws_kinds : List Kind
throws_kinds = word_kind words.Throws ∷ []

abbrev throws_view : Seen × List FieldTree → List FieldTree
throws_view t = t.1

arguments_to : (fs : List FieldTree) (tokens : List Seen) → Arguments fs tokens → DerivesArguments fs tokens
arguments_to fs tokens v =
    let b = v.derives in
    subst (λ (u : List FieldTree). DerivesArguments u tokens) (sym v.seen)
    (subst (DerivesArguments v.value.1.0) (sym (b.joined ∙ ap (λ (f : List Seen). b.front ++ f) b.right.joined ∙ sym (append_more b.front b.right.front b.right.back)))
    (DerivesArguments.fields v.value.1.0 b.front b.right.front b.right.back b.left b.right.left b.right.right))

arguments_from : (fs : List FieldTree) (tokens : List Seen) → DerivesArguments fs tokens → Arguments fs tokens
arguments_from _ _ (DerivesArguments.fields fs opening inside closing o d c) = record {
  value = (tt, (fs, tt));
  seen = refl;
  derives = record { front = opening; back = inside ++ closing; left = o; right = record { front = inside; back = closing; left = d; right = c; joined = refl }; joined = append_more opening inside closing };
}

abbrev LastThrows : List FieldTree → List Seen → Type 0
LastThrows = Viewed (λ t. t.0) (Both DerivesThrows IsTail)

abbrev lists_view : List FieldTree × List FieldTree → FieldListsTree
lists_view t = record { args = t.0; throws = t.1 }

abbrev FieldLists : FieldListsTree → List Seen → Type 0
FieldLists = Viewed lists_view (Both Arguments LastThrows)

abbrev signature_view : Name × FieldListsTree → SignatureTree
signature_view t = record { name = t.0; lists = t.1 }

abbrev Signature : SignatureTree → List Seen → Type 0
Signature = Viewed signature_view (Both Declares FieldLists)

abbrev function_view : Option ℕ × (Option TypeTree × SignatureTree) → FunctionTree
function_view t = record { oneway = t.0; returns = t.1.0; name = t.1.1.name; args = t.1.1.lists.args; throws = t.1.1.lists.throws }

abbrev IsFunction : FunctionTree → List Seen → Type 0
IsFunction = Viewed function_view (Both DerivesOneway (Both DerivesReturns Signature))

abbrev OneFunction : List FunctionTree → List Seen → Type 0
OneFunction = Viewed (λ f. f ∷ []) IsFunction

abbrev last_barred : Kind → Bool
last_barred = both_barred true (plain_bar throws_kinds) tail_barred

abbrev lists_barred : Kind → Bool
lists_barred = both_barred true nothing_barred last_barred

abbrev function_kinds : List Kind
function_kinds = oneway_kinds ++ returns_kinds

abbrev some_throws : (fs : List FieldTree) × (tokens : List Seen) × LastThrows fs tokens
some_throws =
    let both = some_both DerivesThrows IsTail ([], [], DerivesThrows.missing) some_tail in
    (both.0.0, both.1, record { value = both.0; seen = refl; derives = both.2 })

abbrev some_lists : (l : FieldListsTree) × (tokens : List Seen) × FieldLists l tokens
some_lists =
    let both = some_both Arguments LastThrows (some_between 40 41) some_throws in
    (lists_view both.0, both.1, record { value = both.0; seen = refl; derives = both.2 })

abbrev some_signature : (l : SignatureTree) × (tokens : List Seen) × Signature l tokens
some_signature =
    let both = some_both Declares FieldLists some_declared some_lists in
    (signature_view both.0, both.1, record { value = both.0; seen = refl; derives = both.2 })

abbrev some_returns : (o : Option TypeTree) × (tokens : List Seen) × DerivesReturns o tokens
some_returns = (Some some_type.0, some_type.1, DerivesReturns.typed some_type.0 some_type.1 some_type.2)

module _ (edge levels : ℕ) where
  abbrev arguments_part : Part (List FieldTree)
  arguments_part = between_part edge levels 40 41

  arguments_read : Reads edge Arguments (fields_deep levels) arguments_part false round_kinds nothing_barred
  arguments_read = between_reads edge levels 40 41 refl refl refl

  abbrev throws_part : Part (List FieldTree)
  throws_part = may_part edge throws_lexeme arguments_part throws_view []

  throws_to : (fs : List FieldTree) (tokens : List Seen) → MayGiven edge throws_lexeme arguments_part throws_view [] Arguments fs tokens → DerivesThrows fs tokens
  throws_to fs tokens (inl v) =
      let o = opens_by throws_lexeme Arguments v.value tokens (λ k. keyword_is words.Throws k refl) v.derives in
      subst (λ (u : List FieldTree). DerivesThrows u tokens) (sym v.seen)
      (subst (DerivesThrows v.value.1) (sym o.joined) (DerivesThrows.given v.value.1 (v.value.0 ∷ []) o.back o.opens (arguments_to v.value.1 o.back o.right)))
  throws_to fs tokens (inr d) = subst (λ (u : List FieldTree). DerivesThrows u tokens) (sym d.0) (subst (DerivesThrows []) (sym d.1) DerivesThrows.missing)

  throws_from : (fs : List FieldTree) (tokens : List Seen) → DerivesThrows fs tokens → MayGiven edge throws_lexeme arguments_part throws_view [] Arguments fs tokens
  throws_from _ _ DerivesThrows.missing = inr (refl, refl)
  throws_from _ _ (DerivesThrows.given fs word fields w d) =
      let o = is_one throws_lexeme word w in
      inl (record { value = (o.seen, fs); seen = refl; derives = both_by throws_lexeme Arguments o.seen fs word fields refl o.says o.whole (arguments_from fs fields d) })

  throws_read : Reads edge DerivesThrows (fields_deep levels) throws_part true throws_kinds (plain_bar throws_kinds)
  throws_read =
      same_reads edge (MayGiven edge throws_lexeme arguments_part throws_view [] Arguments) DerivesThrows (fields_deep levels) throws_part throws_part true throws_kinds (plain_bar throws_kinds) (λ xs. refl) throws_to throws_from
      (may_reads edge throws_lexeme arguments_part throws_view [] Arguments (fields_deep levels) (fields_deep levels) false round_kinds nothing_barred (some_between 40 41) refl refl (λ t tokens d. refl) arguments_read)

  abbrev last_throws_part : Part (List FieldTree)
  last_throws_part xs = moved 0 (λ t. t.0) (step throws_part (tail_at edge) xs)

  last_throws_read : Reads edge LastThrows (fields_deep levels) last_throws_part true (throws_kinds ++ tail_kinds) last_barred
  last_throws_read =
      view_reads edge (Both DerivesThrows IsTail) (λ t. first_of (fields_deep levels t.0) None) (fields_deep levels) (step throws_part (tail_at edge)) (λ t. t.0) true (throws_kinds ++ tail_kinds) last_barred
      (λ x tokens d. first_none (fields_deep levels x.0))
      (step_reads edge DerivesThrows IsTail (fields_deep levels) shallow throws_part (tail_at edge) true true throws_kinds tail_kinds (plain_bar throws_kinds) tail_barred refl some_tail refl throws_read (tail_reads edge))

  abbrev lists_deep : FieldListsTree → Option ℕ
  lists_deep l = first_of (fields_deep levels l.args) (fields_deep levels l.throws)

  abbrev field_lists_part : Part FieldListsTree
  field_lists_part xs = moved 0 lists_view (step arguments_part last_throws_part xs)

  field_lists_read : Reads edge FieldLists lists_deep field_lists_part false round_kinds lists_barred
  field_lists_read =
      view_reads edge (Both Arguments LastThrows) (λ t. first_of (fields_deep levels t.0) (fields_deep levels t.1)) lists_deep (step arguments_part last_throws_part) lists_view false round_kinds lists_barred (λ x tokens d. refl)
      (step_reads edge Arguments LastThrows (fields_deep levels) (fields_deep levels) arguments_part last_throws_part false true round_kinds (throws_kinds ++ tail_kinds) nothing_barred last_barred refl some_throws refl arguments_read
      last_throws_read)

  abbrev signature_part : Part SignatureTree
  signature_part xs = moved 0 signature_view (step (name_at edge) field_lists_part xs)

  signature_read : Reads edge Signature (λ s. lists_deep s.lists) signature_part false name_kinds lists_barred
  signature_read =
      view_reads edge (Both Declares FieldLists) (λ t. lists_deep t.1) (λ s. lists_deep s.lists) (step (name_at edge) field_lists_part) signature_view false name_kinds lists_barred (λ x tokens d. refl)
      (step_reads edge Declares FieldLists shallow lists_deep (name_at edge) field_lists_part false false name_kinds round_kinds nothing_barred lists_barred refl some_lists refl (name_reads edge) field_lists_read)

  abbrev function_part : Part FunctionTree
  function_part xs = moved 0 function_view (step (oneway_at edge) (step (returns_part edge levels) signature_part) xs)

  function_read : Reads edge IsFunction (function_deep levels) function_part false function_kinds lists_barred
  function_read =
      view_reads edge (Both DerivesOneway (Both DerivesReturns Signature)) (λ t. first_of (returns_deep levels t.1.0) (lists_deep t.1.1.lists)) (function_deep levels)
      (step (oneway_at edge) (step (returns_part edge levels) signature_part)) function_view false function_kinds lists_barred (λ x tokens d. refl)
      (step_reads edge DerivesOneway (Both DerivesReturns Signature) shallow (λ t. first_of (returns_deep levels t.0) (lists_deep t.1.lists)) (oneway_at edge) (step (returns_part edge levels) signature_part) true false
      oneway_kinds returns_kinds (plain_bar oneway_kinds) lists_barred refl (some_both DerivesReturns Signature some_returns some_signature) refl (oneway_reads edge)
      (step_reads edge DerivesReturns Signature (returns_deep levels) (λ s. lists_deep s.lists) (returns_part edge levels) signature_part false false returns_kinds name_kinds type_barred lists_barred refl some_signature refl
      (returns_reads edge levels) signature_read))

  abbrev one_function_part : Part (List FunctionTree)
  one_function_part xs = moved 0 (λ f. f ∷ []) (function_part xs)

  one_function_read : Reads edge OneFunction (functions_deep levels) one_function_part false function_kinds lists_barred
  one_function_read =
      view_reads edge IsFunction (function_deep levels) (functions_deep levels) function_part (λ f. f ∷ []) false function_kinds lists_barred (λ x tokens d. sym (first_none (function_deep levels x))) function_read

-- ---- a list of methods

function_tokens : (oneway returns name args throws notes separator rest tail last lists signature behind front tokens : List Seen) → tail ≡ notes ++ separator → last ≡ throws ++ tail → lists ≡ args ++ last → signature ≡ name ++ lists →
    behind ≡ returns ++ signature → front ≡ oneway ++ behind → tokens ≡ front ++ rest → tokens ≡ oneway ++ returns ++ name ++ args ++ throws ++ notes ++ separator ++ rest
function_tokens oneway returns name args throws notes separator rest tail last lists signature behind front tokens e1 e2 e3 e4 e5 e6 e7 =
    let shape : (oneway ++ (returns ++ (name ++ (args ++ (throws ++ (notes ++ separator)))))) ++ rest ≡ oneway ++ returns ++ name ++ args ++ throws ++ notes ++ separator ++ rest = simp append_more in
    e7 ∙ ap (λ (f : List Seen). f ++ rest) (e6 ∙ ap (λ (f : List Seen). oneway ++ f) (e5 ∙ ap (λ (f : List Seen). returns ++ f) (e4 ∙ ap (λ (f : List Seen). name ++ f) (e3 ∙ ap (λ (f : List Seen). args ++ f)
    (e2 ∙ ap (λ (f : List Seen). throws ++ f) e1))))) ∙ shape

functions_to : (fs : List FunctionTree) (tokens : List Seen) → Many OneFunction fs tokens → DerivesFunctions fs tokens
functions_to _ _ (no_more fs tokens e none) = subst (λ (v : List FunctionTree). DerivesFunctions v tokens) (sym e) (subst (DerivesFunctions []) (sym none) DerivesFunctions.none)
functions_to _ _ (one_more f fs all front back tokens d m e split) =
    let rest = functions_to fs back m in
    let function = d.derives in
    let a = function.derives in
    let b = a.right in
    let signature = b.right in
    let lists = signature.derives.right in
    let last = lists.derives.right in
    let tail = last.derives.right in
    let tree : FunctionTree = record { oneway = function.value.0; returns = function.value.1.0; name = signature.value.0; args = lists.value.0; throws = last.value.0 } in
    let is : function_view function.value ≡ tree =
    ap (λ (s : SignatureTree). function_view (function.value.0, (function.value.1.0, s))) signature.seen
    ∙ ap (λ (l : FieldListsTree). function_view (function.value.0, (function.value.1.0, record { name = signature.value.0; lists = l }))) lists.seen
    ∙ ap (λ (t : List FieldTree). function_view (function.value.0, (function.value.1.0, record { name = signature.value.0; lists = record { args = lists.value.0; throws = t } }))) last.seen in
    let whole = function_tokens a.front b.front signature.derives.front lists.derives.front last.derives.front tail.derives.front tail.derives.back back last.derives.back lists.derives.back signature.derives.back b.back a.back
    front tokens tail.derives.joined last.derives.joined lists.derives.joined signature.derives.joined b.joined a.joined split in
    let all_is : all ≡ tree ∷ fs = e ∙ ap (λ (v : List FunctionTree). v ++ fs) (d.seen ∙ ap (λ (x : FunctionTree). x ∷ []) (function.seen ∙ is)) in
    subst (λ (v : List FunctionTree). DerivesFunctions v tokens) (sym all_is)
    (subst (DerivesFunctions (tree ∷ fs)) (sym whole)
    (DerivesFunctions.more tree fs a.front b.front signature.derives.front lists.derives.front last.derives.front tail.derives.front tail.derives.back back a.left b.left signature.derives.left
    (arguments_to lists.value.0 lists.derives.front lists.derives.left) last.derives.left tail.derives.left tail.derives.right rest))

functions_from : (fs : List FunctionTree) (tokens : List Seen) → DerivesFunctions fs tokens → Many OneFunction fs tokens
functions_from _ _ DerivesFunctions.none = no_more [] [] refl refl
functions_from _ _ (DerivesFunctions.more f fs oneway returns name args throws notes separator rest dw dr dn da dt nt sep others) =
    let last : LastThrows f.throws (throws ++ (notes ++ separator)) = record {
      value = (f.throws, tt);
      seen = refl;
      derives = record {
        front = throws;
        back = notes ++ separator;
        left = dt;
        right = record { value = (tt, tt); seen = refl; derives = record { front = notes; back = separator; left = nt; right = sep; joined = refl } };
        joined = refl;
      };
    } in
    let lists : FieldLists (record { args = f.args; throws = f.throws }) (args ++ (throws ++ (notes ++ separator))) = record {
      value = (f.args, f.throws);
      seen = refl;
      derives = record { front = args; back = throws ++ (notes ++ separator); left = arguments_from f.args args da; right = last; joined = refl };
    } in
    let signature : Signature (record { name = f.name; lists = record { args = f.args; throws = f.throws } }) (name ++ (args ++ (throws ++ (notes ++ separator)))) = record {
      value = (f.name, record { args = f.args; throws = f.throws });
      seen = refl;
      derives = record { front = name; back = args ++ (throws ++ (notes ++ separator)); left = dn; right = lists; joined = refl };
    } in
    let function : IsFunction f (oneway ++ (returns ++ (name ++ (args ++ (throws ++ (notes ++ separator)))))) = record {
      value = (f.oneway, (f.returns, record { name = f.name; lists = record { args = f.args; throws = f.throws } }));
      seen = refl;
      derives = record {
        front = oneway;
        back = returns ++ (name ++ (args ++ (throws ++ (notes ++ separator))));
        left = dw;
        right = record { front = returns; back = name ++ (args ++ (throws ++ (notes ++ separator))); left = dr; right = signature; joined = refl };
        joined = refl;
      };
    } in
    let shape : oneway ++ returns ++ name ++ args ++ throws ++ notes ++ separator ++ rest ≡ (oneway ++ (returns ++ (name ++ (args ++ (throws ++ (notes ++ separator)))))) ++ rest = sym (simp append_more) in
    one_more (f ∷ []) fs (f ∷ fs) (oneway ++ (returns ++ (name ++ (args ++ (throws ++ (notes ++ separator)))))) rest (oneway ++ returns ++ name ++ args ++ throws ++ notes ++ separator ++ rest)
    (record { value = f; seen = refl; derives = function }) (functions_from fs rest others) refl shape

-- ---- the end of a body

abbrev pub IsBodyEnd : Unit {0} → List Seen → Type 0
IsBodyEnd = Viewed (λ t. tt) (Both (IsLone (words.Mark 125)) IsNotes)

abbrev pub close_kinds : List Kind
close_kinds = mark_kind 125 ∷ []

abbrev pub end_barred : Kind → Bool
end_barred = both_barred true nothing_barred (plain_bar round_kinds)

abbrev pub some_end : (u : Unit {0}) × (tokens : List Seen) × IsBodyEnd u tokens
some_end =
    let both = some_both (IsLone (words.Mark 125)) IsNotes (some_lone (words.Mark 125)) some_notes in
    (tt, both.1, record { value = both.0; seen = refl; derives = both.2 })

pub body_end_reads : (edge : ℕ) → Reads edge IsBodyEnd shallow (body_end_at edge) false close_kinds end_barred
unfolding body_end_at
body_end_reads edge =
    same_reads edge IsBodyEnd IsBodyEnd shallow (λ xs. moved 0 (λ t. tt) (step (mark_at 125 edge) (notes_at edge) xs)) (body_end_at edge) false close_kinds end_barred by (λ x tokens d. d) (λ x tokens d. d)
    (view_reads edge (Both (IsLone (words.Mark 125)) IsNotes) shallow shallow (step (mark_at 125 edge) (notes_at edge)) (λ t. tt) false close_kinds end_barred (λ x tokens d. refl)
    (step_reads edge (IsLone (words.Mark 125)) IsNotes shallow shallow (mark_at 125 edge) (notes_at edge) false true close_kinds round_kinds nothing_barred (plain_bar round_kinds) refl some_notes refl (mark_reads edge 125)
    (notes_reads edge)))
  where
    by : (xs : List Seen) → body_end_at edge xs ≡ moved 0 (λ t. tt) (step (mark_at 125 edge) (notes_at edge) xs)
    by xs = chain2 (mark_at 125 edge) (notes_at edge) (λ t. tt) xs

-- ---- methods in curly brackets

abbrev pub open_kinds : List Kind
open_kinds = mark_kind 123 ∷ []

-- a list in curly brackets, and notes
abbrev pub InBody : {Y : Type 0} → (List Y → List Seen → Type 0) → List Y → List Seen → Type 0
InBody D = Viewed (λ t. t.1.0) (Both (IsLone (words.Mark 123)) (Both D IsBodyEnd))

module _ {Y : Type 0} (edge : ℕ) (list : Part (List Y)) where
  abbrev pub body_part : Part (List Y)
  body_part xs = moved 0 (λ t. t.1.0) (step (mark_at 123 edge) (step list (body_end_at edge)) xs)

  abbrev pub some_body : (D : List Y → List Seen → Type 0) → D [] [] → (ys : List Y) × (tokens : List Seen) × InBody D ys tokens
  some_body D none =
      let both = some_both (IsLone (words.Mark 123)) (Both D IsBodyEnd) (some_lone (words.Mark 123)) (some_both D IsBodyEnd ([], [], none) some_end) in
      (both.0.1.0, both.1, record { value = both.0; seen = refl; derives = both.2 })

  pub body_reads : (D : List Y → List Seen → Type 0) (deep : List Y → Option ℕ) (firsts : List Kind) → D [] [] → deep [] ≡ None → Reads edge D deep list true firsts (unclosed 125) →
      Reads edge (InBody D) deep body_part false open_kinds end_barred
  body_reads D deep firsts none flat r =
      view_reads edge (Both (IsLone (words.Mark 123)) (Both D IsBodyEnd)) (λ t. first_of (deep t.1.0) None) deep (step (mark_at 123 edge) (step list (body_end_at edge))) (λ t. t.1.0) false open_kinds end_barred
      (λ x tokens d. first_none (deep x.1.0))
      (step_reads edge (IsLone (words.Mark 123)) (Both D IsBodyEnd) shallow (λ t. first_of (deep t.0) None) (mark_at 123 edge) (step list (body_end_at edge)) false false open_kinds (firsts ++ close_kinds) nothing_barred end_barred
      (free_nothing (firsts ++ close_kinds)) (some_both D IsBodyEnd ([], [], none) some_end) (none_both (deep []) None flat refl) (mark_reads edge 123)
      (step_reads edge D IsBodyEnd deep shallow list (body_end_at edge) true false firsts close_kinds (unclosed 125) end_barred refl some_end refl r (body_end_reads edge)))

module _ (edge levels : ℕ) where
  abbrev function_run : Part (List FunctionTree)
  function_run xs = run (not_closed 125) (one_function_part edge levels) edge xs 0

  function_run_reads : Reads edge DerivesFunctions (functions_deep levels) function_run true function_kinds (unclosed 125)
  function_run_reads =
      same_reads edge (Many OneFunction) DerivesFunctions (functions_deep levels) function_run function_run true function_kinds (unclosed 125) (λ xs. refl) functions_to functions_from
      (list_reads edge 125 (one_function_part edge levels) OneFunction (functions_deep levels) function_kinds lists_barred refl refl refl refl
      (λ y ys tokens d. ap (λ (v : List FunctionTree). functions_deep levels (v ++ ys)) d.seen ∙ ap (λ (o : Option ℕ). first_of o (functions_deep levels ys)) (first_none (function_deep levels d.value))
      ∙ ap (λ (v : List FunctionTree). first_of (functions_deep levels v) (functions_deep levels ys)) (sym d.seen))
      (one_function_read edge levels))

  abbrev pub functions_part : Part (List FunctionTree)
  functions_part = body_part edge function_run

  pub functions_read : Reads edge (InBody DerivesFunctions) (functions_deep levels) functions_part false open_kinds end_barred
  functions_read = body_reads edge function_run DerivesFunctions (functions_deep levels) function_kinds DerivesFunctions.none refl function_run_reads

abbrev pub some_functions : (fs : List FunctionTree) × (tokens : List Seen) × InBody DerivesFunctions fs tokens
some_functions = some_body 0 (λ xs. Ok ([], 0)) DerivesFunctions DerivesFunctions.none

-- ---- as they are scanned

module _ (edge : ℕ) where
  returns_is : returns_at edge ≡ returns_part edge most_levels
  unfolding returns_at
  returns_is = fun_ext by
    where
      by_form : (at : ℕ) (l : Lexeme) (w : List ℕ) (ss : List Seen) → returns_at edge (record { at = at; lexeme = l; word = w } ∷ ss) ≡ returns_part edge most_levels (record { at = at; lexeme = l; word = w } ∷ ss)
      by_form at (words.Reserved words.Void) w ss = refl
      by_form at l w ss = last 0 (type_at most_levels edge (record { at = at; lexeme = l; word = w } ∷ ss)) some_view

      by : (xs : List Seen) → returns_at edge xs ≡ returns_part edge most_levels xs
      by [] = last 0 (type_at most_levels edge []) some_view
      by (s ∷ ss) = by_form s.at s.lexeme s.word ss

  throws_is : throws_at edge ≡ throws_part edge most_levels
  unfolding throws_at
  throws_is = fun_ext by
    where
      by_form : (at : ℕ) (l : Lexeme) (w : List ℕ) (ss : List Seen) → throws_at edge (record { at = at; lexeme = l; word = w } ∷ ss) ≡ throws_part edge most_levels (record { at = at; lexeme = l; word = w } ∷ ss)
      by_form at (words.Reserved words.Throws) w ss =
          last 1 (fields_in 40 41 edge ss) (λ fs. fs) ∙ ap (λ (p : Part (List FieldTree)). moved 1 (λ fs. fs) (p ss)) (between_is edge 40 41)
          ∙ opened_is edge throws_kinds (arguments_part edge most_levels) throws_view (record { at = at; lexeme = words.Reserved words.Throws; word = w }) ss refl
      by_form at l w ss = refl

      by : (xs : List Seen) → throws_at edge xs ≡ throws_part edge most_levels xs
      by [] = refl
      by (s ∷ ss) = by_form s.at s.lexeme s.word ss

  last_throws_is : last_throws_at edge ≡ last_throws_part edge most_levels
  unfolding last_throws_at
  last_throws_is = fun_ext by
    where
      by : (xs : List Seen) → last_throws_at edge xs ≡ last_throws_part edge most_levels xs
      by xs = chain2 (throws_at edge) (tail_at edge) (λ t. t.0) xs ∙ ap (λ (p : Part (List FieldTree)). moved 0 (λ t. t.0) (step p (tail_at edge) xs)) throws_is

  field_lists_is : field_lists_at edge ≡ field_lists_part edge most_levels
  unfolding field_lists_at
  field_lists_is = fun_ext by
    where
      by : (xs : List Seen) → field_lists_at edge xs ≡ field_lists_part edge most_levels xs
      by xs =
          chain2 (fields_in 40 41 edge) (last_throws_at edge) lists_view xs
          ∙ ap (λ (p : Part (List FieldTree)). moved 0 lists_view (step p (last_throws_at edge) xs)) (between_is edge 40 41)
          ∙ ap (λ (p : Part (List FieldTree)). moved 0 lists_view (step (arguments_part edge most_levels) p xs)) last_throws_is

  signature_is : signature_at edge ≡ signature_part edge most_levels
  unfolding signature_at
  signature_is = fun_ext by
    where
      by : (xs : List Seen) → signature_at edge xs ≡ signature_part edge most_levels xs
      by xs = chain2 (name_at edge) (field_lists_at edge) signature_view xs ∙ ap (λ (p : Part FieldListsTree). moved 0 signature_view (step (name_at edge) p xs)) field_lists_is

  function_is : function_at edge ≡ function_part edge most_levels
  unfolding function_at
  function_is = fun_ext by
    where
      by : (xs : List Seen) → function_at edge xs ≡ function_part edge most_levels xs
      by xs =
          chain3 (oneway_at edge) (returns_at edge) (signature_at edge) function_view xs
          ∙ ap (λ (p : Part (Option TypeTree)). moved 0 function_view (step (oneway_at edge) (step p (signature_at edge)) xs)) returns_is
          ∙ ap (λ (p : Part SignatureTree). moved 0 function_view (step (oneway_at edge) (step (returns_part edge most_levels) p) xs)) signature_is

  one_function_is : one_function edge ≡ one_function_part edge most_levels
  one_function_is = fun_ext by
    where
      by : (xs : List Seen) → one_function edge xs ≡ one_function_part edge most_levels xs
      by xs = listed_moved (function_at edge xs) ∙ ap (λ (p : Part FunctionTree). moved 0 (λ f. f ∷ []) (p xs)) function_is

  pub functions_is : functions_in edge ≡ functions_part edge most_levels
  unfolding functions_in
  functions_is = fun_ext by
    where
      by : (xs : List Seen) → functions_in edge xs ≡ functions_part edge most_levels xs
      by xs =
          chain3 (mark_at 123 edge) (λ ts. run (not_closed 125) (one_function edge) edge ts 0) (body_end_at edge) (λ t. t.1.0) xs
          ∙ ap (λ (o : Part (List FunctionTree)). moved 0 (λ t. t.1.0) (step (mark_at 123 edge) (step (λ ts. run (not_closed 125) o edge ts 0) (body_end_at edge)) xs)) one_function_is
