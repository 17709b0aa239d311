-- The members of enums are read as they are derived.
use Rattle.std.proofs.Common.{◌≡◌, ◌∙◌, ap, sym, subst, refl, ℕ, ℤ, pos, List, [], ◌∷◌, ◌++◌, Bool, true, false, Option, Some, None, Ok, inl, inr}
use Rattle.std.proofs.Math.Path.{fun_ext}
use Rattle.idl_document.specs.declared.document.Member.{Member}
use Rattle.idl_document.specs.declared.document.Name.{Name}
use Rattle.grammar_laws.proofs.Lexicon.{Lexeme}
use Rattle.grammar_laws.proofs.Lexicon as words
use Rattle.grammar_laws.proofs.Lexicon.{Keyword}
use Rattle.idl_parser.specs.Declarations.{int_at, member_at, members_in, number_at, one_member}
use Rattle.idl_parser.specs.Fields.{body_end_at, name_at, tail_at}
use Rattle.idl_parser.specs.Grammar.{Declares, DerivesMembers, DerivesNumber}
use Rattle.idl_parser.specs.Lexemes.{mark_at, onward, stands, stands_by}
use Rattle.idl_parser.specs.Notes.{not_closed}
use Rattle.idl_parser.specs.Run.{run}
use Rattle.idl_parser.specs.Seen.{Seen}
use Rattle.grammar_laws.proofs.Chains.{chain3, last}
use Rattle.grammar_laws.proofs.Fields.{IsTail, listed_moved, name_kinds, name_reads, some_tail, tail_barred, tail_kinds, tail_reads}
use Rattle.grammar_laws.proofs.Functions.{InBody, body_part, body_reads, end_barred, open_kinds}
use Rattle.grammar_laws.proofs.TokenKinds.{Kind, among, both_barred, int_kind, is_kind, kind, mark_kind, nothing_barred}
use Rattle.grammar_laws.proofs.Lists.{append_more}
use Rattle.grammar_laws.proofs.Many.{Many, no_more, one_more}
use Rattle.grammar_laws.proofs.Notes.{MayGiven, both_by, if_chosen, list_reads, may_part, may_reads, opens_by, plain_bar, unclosed}
use Rattle.grammar_laws.proofs.Reading.{IsToken, Part, Reads, Viewed, moved, same_reads, shallow, view_reads}
use Rattle.grammar_laws.proofs.Singles.{int_is, is_of_kinds, is_one, mark_is, opened_is, sample, stands_kind, word, word_reads}
use Rattle.grammar_laws.proofs.Steps.{Both, step, step_reads}
use Rattle.grammar_laws.proofs.Types.{some_both}

-- ---- enum members

abbrev int_kinds : List Kind
int_kinds = int_kind ∷ []

abbrev int_in : Lexeme → ℤ
int_in (words.Int z) = z
int_in l = pos 0

abbrev int_view : Seen → ℤ
int_view s = int_in s.lexeme

abbrev IsInt : ℤ → List Seen → Type 0
IsInt = Viewed int_view (IsToken (is_of_kinds int_kinds))

abbrev pub number_kinds : List Kind
number_kinds = mark_kind 61 ∷ []

abbrev number_view : Seen × ℤ → Option ℤ
number_view t = Some t.1

abbrev some_int : (z : ℤ) × (tokens : List Seen) × IsInt z tokens
some_int = (pos 0, sample (words.Int (pos 0)) ∷ [], record { value = sample (words.Int (pos 0)); seen = refl; derives = (refl, refl) })

abbrev member_view : Name × (Option ℤ × Unit {0}) → Member
member_view t = record { name = t.0; value = t.1.0 }

abbrev IsMember : Member → List Seen → Type 0
IsMember = Viewed member_view (Both Declares (Both DerivesNumber IsTail))

abbrev OneMember : List Member → List Seen → Type 0
OneMember = Viewed (λ m. m ∷ []) IsMember

abbrev number_tail_barred : Kind → Bool
number_tail_barred = both_barred true (plain_bar number_kinds) tail_barred

abbrev member_barred : Kind → Bool
member_barred = both_barred true nothing_barred number_tail_barred

module _ (edge : ℕ) where
  int_same : (xs : List Seen) → int_at edge xs ≡ moved 0 int_view (word edge int_kinds xs)
  unfolding int_at
  int_same [] = refl
  int_same (s ∷ ss) = by s.at s.lexeme s.word
    where
      by : (at : ℕ) (l : Lexeme) (w : List ℕ) → int_at edge (record { at = at; lexeme = l; word = w } ∷ ss) ≡ moved 0 int_view (word edge int_kinds (record { at = at; lexeme = l; word = w } ∷ ss))
      by at (words.Int z) w = refl
      by at l w = refl

  int_reads : Reads edge IsInt shallow (int_at edge) false int_kinds nothing_barred
  int_reads =
      same_reads edge IsInt IsInt shallow (λ xs. moved 0 int_view (word edge int_kinds xs)) (int_at edge) false int_kinds nothing_barred int_same (λ x tokens d. d) (λ x tokens d. d)
      (view_reads edge (IsToken (is_of_kinds int_kinds)) shallow shallow (word edge int_kinds) int_view false int_kinds nothing_barred (λ x tokens d. refl) (word_reads edge int_kinds))

  abbrev number_part : Part (Option ℤ)
  number_part = may_part edge (words.Mark 61) (int_at edge) number_view None

  number_same : (xs : List Seen) → number_at edge xs ≡ number_part xs
  unfolding number_at stands
  number_same [] = refl
  number_same (s ∷ ss) =
      if_chosen (stands_by 61 s.lexeme) (is_kind (mark_kind 61) (kind s.lexeme)) (onward 1 (int_at edge ss) λ z n. Ok (Some z, n)) (moved 0 number_view (step (word edge number_kinds) (int_at edge) (s ∷ ss)))
      (Ok (None, 0)) (stands_kind edge 61 s.lexeme) (λ e. last 1 (int_at edge ss) (λ z. Some z) ∙ opened_is edge number_kinds (int_at edge) number_view s ss e)

  number_to : (o : Option ℤ) (tokens : List Seen) → MayGiven edge (words.Mark 61) (int_at edge) number_view None IsInt o tokens → DerivesNumber o tokens
  number_to o tokens (inl v) =
      let b = opens_by (words.Mark 61) IsInt v.value tokens (mark_is 61) v.derives in
      let i = b.right in
      let z = int_is i.value.lexeme i.derives.0 in
      let is : o ≡ Some z.0 = v.seen ∙ ap (λ (y : ℤ). let r : Option ℤ = Some y in r) (i.seen ∙ ap int_in z.1) in
      subst (λ (u : Option ℤ). DerivesNumber u tokens) (sym is)
      (subst (DerivesNumber (Some z.0)) (sym (b.joined ∙ ap (λ (f : List Seen). v.value.0 ∷ f) i.derives.1)) (DerivesNumber.given i.value z.0 (v.value.0 ∷ []) b.opens z.1))
  number_to o tokens (inr d) = subst (λ (u : Option ℤ). DerivesNumber u tokens) (sym d.0) (subst (DerivesNumber None) (sym d.1) DerivesNumber.missing)

  number_from : (o : Option ℤ) (tokens : List Seen) → DerivesNumber o tokens → MayGiven edge (words.Mark 61) (int_at edge) number_view None IsInt o tokens
  number_from _ _ DerivesNumber.missing = inr (refl, refl)
  number_from _ _ (DerivesNumber.given s z equal m e) =
      let o = is_one (words.Mark 61) equal m in
      let i : IsInt z (s ∷ []) = record { value = s; seen = sym (ap int_in e); derives = (ap (λ (l : Lexeme). among int_kinds (kind l)) e, refl) } in
      inl (record { value = (o.seen, z); seen = refl; derives = both_by (words.Mark 61) IsInt o.seen z equal (s ∷ []) refl o.says o.whole i })

  number_reads : Reads edge DerivesNumber shallow (number_at edge) true number_kinds (plain_bar number_kinds)
  number_reads =
      same_reads edge (MayGiven edge (words.Mark 61) (int_at edge) number_view None IsInt) DerivesNumber shallow number_part (number_at edge) true number_kinds (plain_bar number_kinds) number_same number_to number_from
      (may_reads edge (words.Mark 61) (int_at edge) number_view None IsInt shallow shallow false int_kinds nothing_barred some_int refl refl (λ t tokens d. refl) int_reads)

  abbrev member_part : Part Member
  member_part xs = moved 0 member_view (step (name_at edge) (step (number_at edge) (tail_at edge)) xs)

  member_reads : Reads edge IsMember shallow member_part false name_kinds member_barred
  member_reads =
      view_reads edge (Both Declares (Both DerivesNumber IsTail)) shallow shallow (step (name_at edge) (step (number_at edge) (tail_at edge))) member_view false name_kinds member_barred (λ x tokens d. refl)
      (step_reads edge Declares (Both DerivesNumber IsTail) shallow shallow (name_at edge) (step (number_at edge) (tail_at edge)) false true name_kinds (number_kinds ++ tail_kinds) nothing_barred number_tail_barred refl
      (some_both DerivesNumber IsTail (None, [], DerivesNumber.missing) some_tail) refl (name_reads edge)
      (step_reads edge DerivesNumber IsTail shallow shallow (number_at edge) (tail_at edge) true true number_kinds tail_kinds (plain_bar number_kinds) tail_barred refl some_tail refl number_reads (tail_reads edge)))

  abbrev one_member_part : Part (List Member)
  one_member_part xs = moved 0 (λ m. m ∷ []) (member_part xs)

  one_member_reads : Reads edge OneMember shallow one_member_part false name_kinds member_barred
  one_member_reads = view_reads edge IsMember shallow shallow member_part (λ m. m ∷ []) false name_kinds member_barred (λ x tokens d. refl) member_reads

  one_member_is : one_member edge ≡ one_member_part
  unfolding member_at
  one_member_is = fun_ext by
    where
      member_by : (xs : List Seen) → member_at edge xs ≡ member_part xs
      member_by xs = chain3 (name_at edge) (number_at edge) (tail_at edge) member_view xs

      by : (xs : List Seen) → one_member edge xs ≡ one_member_part xs
      by xs = listed_moved (member_at edge xs) ∙ ap (moved 0 (λ m. m ∷ [])) (member_by xs)

member_tokens : (name number notes separator rest tail behind front tokens : List Seen) → tail ≡ notes ++ separator → behind ≡ number ++ tail → front ≡ name ++ behind → tokens ≡ front ++ rest →
    tokens ≡ name ++ number ++ notes ++ separator ++ rest
member_tokens name number notes separator rest tail behind front tokens e1 e2 e3 e4 =
    let shape : (name ++ (number ++ (notes ++ separator))) ++ rest ≡ name ++ number ++ notes ++ separator ++ rest = simp append_more in
    e4 ∙ ap (λ (f : List Seen). f ++ rest) (e3 ∙ ap (λ (f : List Seen). name ++ f) (e2 ∙ ap (λ (f : List Seen). number ++ f) e1)) ∙ shape

members_to : (ms : List Member) (tokens : List Seen) → Many OneMember ms tokens → DerivesMembers ms tokens
members_to _ _ (no_more ms tokens e none) = subst (λ (v : List Member). DerivesMembers v tokens) (sym e) (subst (DerivesMembers []) (sym none) DerivesMembers.none)
members_to _ _ (one_more m ms all front back tokens d more e split) =
    let rest = members_to ms back more in
    let member = d.derives in
    let a = member.derives in
    let tail = a.right.right in
    let whole = member_tokens a.front a.right.front tail.derives.front tail.derives.back back a.right.back a.back front tokens tail.derives.joined a.right.joined a.joined split in
    let tree : Member = record { name = member.value.0; value = member.value.1.0 } in
    let all_is : all ≡ tree ∷ ms = e ∙ ap (λ (v : List Member). v ++ ms) (d.seen ∙ ap (λ (x : Member). x ∷ []) member.seen) in
    subst (λ (v : List Member). DerivesMembers v tokens) (sym all_is)
    (subst (DerivesMembers (tree ∷ ms)) (sym whole) (DerivesMembers.more tree ms a.front a.right.front tail.derives.front tail.derives.back back a.left a.right.left tail.derives.left tail.derives.right rest))

members_from : (ms : List Member) (tokens : List Seen) → DerivesMembers ms tokens → Many OneMember ms tokens
members_from _ _ DerivesMembers.none = no_more [] [] refl refl
members_from _ _ (DerivesMembers.more m ms name number notes separator rest dn dv nt sep others) =
    let member : IsMember m (name ++ (number ++ (notes ++ separator))) = record {
      value = (m.name, (m.value, tt));
      seen = refl;
      derives = record {
        front = name;
        back = number ++ (notes ++ separator);
        left = dn;
        right = record {
          front = number;
          back = notes ++ separator;
          left = dv;
          right = record { value = (tt, tt); seen = refl; derives = record { front = notes; back = separator; left = nt; right = sep; joined = refl } };
          joined = refl;
        };
        joined = refl;
      };
    } in
    let shape : name ++ number ++ notes ++ separator ++ rest ≡ (name ++ (number ++ (notes ++ separator))) ++ rest = sym (simp append_more) in
    one_more (m ∷ []) ms (m ∷ ms) (name ++ (number ++ (notes ++ separator))) rest (name ++ number ++ notes ++ separator ++ rest) (record { value = m; seen = refl; derives = member }) (members_from ms rest others) refl shape

module _ (edge : ℕ) where
  abbrev pub member_run : Part (List Member)
  member_run xs = run (not_closed 125) (one_member_part edge) edge xs 0

  abbrev pub members_part : Part (List Member)
  members_part = body_part edge member_run

  pub members_read : Reads edge (InBody DerivesMembers) shallow members_part false open_kinds end_barred
  members_read =
      body_reads edge member_run DerivesMembers shallow name_kinds DerivesMembers.none refl
      (same_reads edge (Many OneMember) DerivesMembers shallow member_run member_run true name_kinds (unclosed 125) (λ xs. refl) members_to members_from
      (list_reads edge 125 (one_member_part edge) OneMember shallow name_kinds member_barred refl refl refl refl (λ y ys tokens d. refl) (one_member_reads edge)))

  pub members_is : members_in edge ≡ members_part
  unfolding members_in
  members_is = fun_ext by
    where
      by : (xs : List Seen) → members_in edge xs ≡ members_part xs
      by xs =
          chain3 (mark_at 123 edge) (λ ts. run (not_closed 125) (one_member edge) edge ts 0) (body_end_at edge) (λ t. t.1.0) xs
          ∙ ap (λ (o : Part (List Member)). moved 0 (λ t. t.1.0) (step (mark_at 123 edge) (step (λ ts. run (not_closed 125) o edge ts 0) (body_end_at edge)) xs)) (one_member_is edge)
