-- A header that a fault strikes: it begins one of the grammar, up to the token that is struck.
use Rattle.std.proofs.Common.{◌≡◌, ℕ, ℤ, pos, negsuc, ◌+◌, false, List, [], ◌∷◌, ◌++◌, drop, refl, ap, ◌∙◌, sym, subst, arith, inl}
use Rattle.std.specs.Prelude.{int_lt, FitsSigned}
use Rattle.std.specs.Int.{w32}
use Rattle.std.proofs.lemmas.Bool.Decides.{nat_tests}
use Rattle.std.proofs.lemmas.List.{drop-drop}
use Rattle.thrift_value.specs.declared.kind.MessageType.{MessageType}
use Rattle.thrift_value.specs.declared.kind.MessageType.TheVariants as types
use Rattle.protocol_traits.specs.declared.fault.Fault.{Fault}
use Rattle.protocol_traits.specs.declared.fault.Reason.{Reason}
use Rattle.protocol_traits.specs.declared.fault.Reason.TheVariants as reasons
use Rattle.json_text.specs.Scan.{is_white}
use Rattle.json_text_laws.proofs.Parts.{Apart}
use Rattle.json_text.specs.Grammar.{SpellsInt, SpellsText}
use Rattle.json_protocol.specs.Scan.{gap, further, shifted, mark_at}
use Rattle.json_protocol.specs.Words.{int_in, text_in}
use Rattle.json_protocol.specs.Head.{type_of, front_at, back_at, head_at}
use Rattle.json_protocol.specs.Writing.{type_digit}
use Rattle.json_protocol.specs.Grammar.{Tokens, mark}
use Rattle.json_text_laws.specs.Judged.{IsRange}
use Rattle.json_laws.specs.Faults.{IsSort}
use Rattle.json_laws.specs.Fronts.{head_tokens}
use Rattle.json_laws.proofs.Marks.{Lies}
use Rattle.json_laws.proofs.Inverse.{is_read, is_fault, same_read, bound, Carries, Token, token_lies, shifted_back}
use Rattle.json_laws.proofs.WordsBack.{text_back}
use Rattle.json_laws.proofs.ItemsBack.{range_32}
use Rattle.json_laws.proofs.HeadBack.{range_version, range_type, version_digit, type_digits, int_behind, fits_32, front_back}
use Rattle.json_laws.proofs.Completing.{gap_solid, Strikes, strikes_more, strikes_here, behind_goes, no_read, bound_fault, shifted_fault, shown_struck, word_cut, lead_goes}
use Rattle.json_laws.proofs.Spelled.{version_in, type_in}
use Rattle.json_laws.proofs.WordsCut.{Plain, Fresh, int_absent, Sorts, SomeInt, int_cut, int_one, text_cut}
use Rattle.json_laws.proofs.ItemsCut.{by_side, past_mark, at_mark}

-- an integer is struck, of a range without a minus
at_int : (reason : Reason) (low high : ℤ) (token : List ℕ) (n : ℕ) (bytes : List ℕ) (f : Fault) (tokens : Tokens) → IsRange low high → int_lt low (pos 0) ≡ false → Plain reason → IsSort reason token → Fresh reason (int_in reason low high) (λ t. t ≡ token)
    → further n (int_in reason low high) bytes ≡ is_fault f → Strikes n bytes f (token ∷ tokens)
at_int reason low high token n bytes f tokens range more plain sort fresh e =
    let w = word_cut (int_in reason low high) (λ t. t ≡ token) n bytes f (int_one reason low high token range more plain sort fresh) e in
    strikes_more n bytes f (token ∷ []) tokens (subst (λ k. Strikes n bytes f (k ∷ [])) w.1 w.2)

past_token : (n past : ℕ) (token same : List ℕ) (bytes : List ℕ) (f : Fault) (tokens : Tokens) → token ≡ same → Carries n (token ∷ []) bytes past → Strikes past bytes f tokens → Strikes n bytes f (same ∷ tokens)
past_token n past token same bytes f tokens is carries s = subst (λ k. Strikes n bytes f (k ∷ tokens)) is (behind_goes n past (token ∷ []) tokens bytes f carries s)

no_version : Fresh reasons.BadVersion (int_in reasons.BadVersion (pos 1) (pos 1)) (λ t. t ≡ mark 49)
no_version bytes f e token is other rest same ends stands = int_absent reasons.BadVersion (pos 1) (pos 1) (pos 1) bytes f (49 ∷ []) rest e (version_in []) ends (stands ∙ ap (λ t. t ++ rest) same)

no_type : Fresh reasons.BadType (int_in reasons.BadType (pos 1) (pos 4)) (λ t. t ≡ type_digit types.Call)
no_type bytes f e token is other rest (t, same) ends stands =
    let i = type_in [] t in
    int_absent reasons.BadType (pos 1) (pos 4) (pos i.0) bytes f (type_digit t) rest e i.1.0 ends (stands ∙ ap (λ t. t ++ rest) same)

front_cut : (bytes : List ℕ) (f : Fault) (tokens : Tokens) → front_at bytes ≡ is_fault f → Strikes 0 bytes f (mark 91 ∷ mark 49 ∷ mark 44 ∷ tokens)
unfolding front_at
front_cut bytes f tokens e =
    by_side (bound_fault (further 0 (mark_at 91) bytes) _ f e)
    (λ h. at_mark 91 0 bytes f (mark 49 ∷ mark 44 ∷ tokens) h)
    (λ a. past_mark 91 0 bytes f a.0.0 a.0.1 (mark 49 ∷ mark 44 ∷ tokens) a.1 (by_side (bound_fault (further a.0.1 (int_in reasons.BadVersion (pos 1) (pos 1)) bytes) _ f a.2)
    (λ h. at_int reasons.BadVersion (pos 1) (pos 1) (mark 49) a.0.1 bytes f (mark 44 ∷ tokens) range_version (grind (arith, nat_tests)) (λ left. refl) refl no_version h)
    (λ b. let v = int_behind (pos 1) (pos 1) reasons.BadVersion a.0.1 bytes b.0.0 b.0.1 range_version b.1 in
    past_token a.0.1 b.0.1 v.0 (mark 49) bytes f (mark 44 ∷ tokens) (version_digit b.0.0 v.0 v.1) v.2 (by_side (bound_fault (further b.0.1 (mark_at 44) bytes) _ f b.2)
    (λ h. at_mark 44 b.0.1 bytes f tokens h)
    (λ c. absurd (no_read _ f c.2))))))

-- a type and a number, one of whose tokens is struck
record BackGoes (n : ℕ) (bytes : List ℕ) (f : Fault) : Type 0 where
  mtype : MessageType
  seq : ℤ
  digits : List ℕ
  spells : SpellsInt seq digits
  fits : FitsSigned w32 seq
  strikes : Strikes n bytes f (mark 44 ∷ type_digit mtype ∷ mark 44 ∷ digits ∷ mark 44 ∷ [])

pub zero_fits : FitsSigned w32 (pos 0)
zero_fits = fits_32 (pos 0) (grind (arith, nat_tests)) (grind (arith, nat_tests))

sorts_seq : Sorts reasons.BadNumber (SomeInt (negsuc 2147483647) (pos 2147483647))
sorts_seq = record { plain = (λ left. refl); sort = of_token }
  where
    of_token : (token : List ℕ) → SomeInt (negsuc 2147483647) (pos 2147483647) token → IsSort reasons.BadNumber token
    of_token token (z, is) = inl (false, z, token, is.spells, refl)

-- with these before the number
of_type : (n : ℕ) (bytes : List ℕ) (f : Fault) (mtype : MessageType) → Strikes n bytes f (mark 44 ∷ type_digit mtype ∷ mark 44 ∷ (48 ∷ []) ∷ mark 44 ∷ []) → BackGoes n bytes f
of_type n bytes f mtype s = record { mtype = mtype; seq = pos 0; digits = 48 ∷ []; spells = inl (refl, refl); fits = zero_fits; strikes = s }

back_cut : (n : ℕ) (bytes : List ℕ) (f : Fault) → back_at n bytes ≡ is_fault f → BackGoes n bytes f
unfolding back_at
back_cut n bytes f e =
    by_side (bound_fault (further n (mark_at 44) bytes) _ f e)
    (λ h. of_type n bytes f types.Call (at_mark 44 n bytes f (type_digit types.Call ∷ mark 44 ∷ (48 ∷ []) ∷ mark 44 ∷ []) h))
    (λ a. by_side (bound_fault (further a.0.1 (int_in reasons.BadType (pos 1) (pos 4)) bytes) _ f a.2)
    (λ h. of_type n bytes f types.Call (past_mark 44 n bytes f a.0.0 a.0.1 (type_digit types.Call ∷ mark 44 ∷ (48 ∷ []) ∷ mark 44 ∷ []) a.1
    (at_int reasons.BadType (pos 1) (pos 4) (type_digit types.Call) a.0.1 bytes f (mark 44 ∷ (48 ∷ []) ∷ mark 44 ∷ []) range_type (grind (arith, nat_tests)) (λ left. refl) (types.Call, refl) no_type h)))
    (λ b. let v = int_behind (pos 1) (pos 4) reasons.BadType a.0.1 bytes b.0.0 b.0.1 range_type b.1 in
    let front = λ (later : Tokens) (s : Strikes b.0.1 bytes f later).
    past_mark 44 n bytes f a.0.0 a.0.1 (type_digit (type_of b.0.0) ∷ later) a.1 (past_token a.0.1 b.0.1 v.0 (type_digit (type_of b.0.0)) bytes f later (type_digits b.0.0 v.0 v.1) v.2 s) in
    by_side (bound_fault (further b.0.1 (mark_at 44) bytes) _ f b.2)
    (λ h. of_type n bytes f (type_of b.0.0) (front (mark 44 ∷ (48 ∷ []) ∷ mark 44 ∷ []) (at_mark 44 b.0.1 bytes f ((48 ∷ []) ∷ mark 44 ∷ []) h)))
    (λ c. by_side (bound_fault (further c.0.1 (int_in reasons.BadNumber (negsuc 2147483647) (pos 2147483647)) bytes) _ f c.2)
    (λ h. let w = word_cut (int_in reasons.BadNumber (negsuc 2147483647) (pos 2147483647)) (SomeInt (negsuc 2147483647) (pos 2147483647)) c.0.1 bytes f (int_cut reasons.BadNumber (negsuc 2147483647) (pos 2147483647) range_32 sorts_seq (λ b g h token is. tt)) h in
    let z = w.1.0 in
    let is = w.1.1 in
    record {
      mtype = type_of b.0.0;
      seq = z;
      digits = w.0;
      spells = is.spells;
      fits = fits_32 z is.least is.most;
      strikes = front (mark 44 ∷ w.0 ∷ mark 44 ∷ []) (past_mark 44 b.0.1 bytes f c.0.0 c.0.1 (w.0 ∷ mark 44 ∷ []) c.1 (strikes_more c.0.1 bytes f (w.0 ∷ []) (mark 44 ∷ []) w.2));
    })
    (λ k. let s = int_behind (negsuc 2147483647) (pos 2147483647) reasons.BadNumber c.0.1 bytes k.0.0 k.0.1 range_32 k.1 in
    let is = s.1 in
    by_side (bound_fault (further k.0.1 (mark_at 44) bytes) _ f k.2)
    (λ h. record {
      mtype = type_of b.0.0;
      seq = k.0.0;
      digits = s.0;
      spells = is.spells;
      fits = fits_32 k.0.0 is.least is.most;
      strikes = front (mark 44 ∷ s.0 ∷ mark 44 ∷ []) (past_mark 44 b.0.1 bytes f c.0.0 c.0.1 (s.0 ∷ mark 44 ∷ []) c.1 (past_token c.0.1 k.0.1 s.0 s.0 bytes f (mark 44 ∷ []) refl s.2 (at_mark 44 k.0.1 bytes f [] h)));
    })
    (λ g. absurd (no_read _ f g.2))))))

-- no whitespace stands where the name is called for
front_apart : (bytes : List ℕ) (x : Unit {0}) (place : ℕ) → front_at bytes ≡ is_read (x, place) → Apart is_white (drop place bytes)
unfolding front_at
front_apart bytes x place e =
    let a = bound (further 0 (mark_at 91) bytes) _ (x, place) e in
    let b = bound (further a.0.1 (int_in reasons.BadVersion (pos 1) (pos 1)) bytes) _ (x, place) a.2 in
    let c = bound (further b.0.1 (mark_at 44) bytes) _ (x, place) b.2 in
    let same = same_read tt x (c.0.1 + gap (drop c.0.1 bytes)) place c.2 in
    subst (λ n. Apart is_white (drop n bytes)) same.1 (gap_solid c.0.1 bytes)

-- a header, one of whose tokens is struck
pub record HeadGoes (bytes : List ℕ) (f : Fault) : Type 0 where
  pub mtype : MessageType
  pub name : List ℕ
  pub token : List ℕ
  pub seq : ℤ
  pub digits : List ℕ
  pub text : SpellsText name token
  pub int : SpellsInt seq digits
  pub fits : FitsSigned w32 seq
  pub strikes : Strikes 0 bytes f (head_tokens mtype token digits [])

pub head_cut : (bytes : List ℕ) (f : Fault) → head_at bytes ≡ is_fault f → HeadGoes bytes f
unfolding head_at
head_cut bytes f e =
    by_side (bound_fault (front_at bytes) _ f e)
    (λ h. record { mtype = types.Call; name = []; token = 34 ∷ 34 ∷ []; seq = pos 0; digits = 48 ∷ []; text = ([], tt, refl, refl); int = inl (refl, refl); fits = zero_fits; strikes = front_cut bytes f ((34 ∷ 34 ∷ []) ∷ mark 44 ∷ type_digit types.Call ∷ mark 44 ∷ (48 ∷ []) ∷ mark 44 ∷ []) h })
    (λ a. let place = a.0.1 in
    by_side (bound_fault (shifted place (text_in (drop place bytes))) _ f a.2)
    (λ h. let g = shifted_fault place (text_in (drop place bytes)) f h in
    let x = text_cut (drop place bytes) g.0 g.1 in
    let rest = mark 44 ∷ type_digit types.Call ∷ mark 44 ∷ (48 ∷ []) ∷ mark 44 ∷ [] in
    let here = strikes_here place bytes f x.token (front_apart bytes a.0.0 place a.1) (shown_struck place g.0 f bytes (drop place bytes) x.token g.2 x.struck) in
    record { mtype = types.Call; name = x.meant; token = x.token; seq = pos 0; digits = 48 ∷ []; text = x.spells; int = inl (refl, refl); fits = zero_fits; strikes = to_front a.0.0 place (x.token ∷ rest) a.1 (strikes_more place bytes f (x.token ∷ []) rest here) })
    (λ b. let s = shifted_back place (text_in (drop place bytes)) b.0.0 b.0.1 b.1 in
    let x = text_back (drop place bytes) b.0.0 s.0 s.1 in
    by_side (bound_fault (back_at b.0.1 bytes) _ f b.2)
    (λ h. let r = back_cut b.0.1 bytes f h in
    let rest = mark 44 ∷ type_digit r.mtype ∷ mark 44 ∷ r.digits ∷ mark 44 ∷ [] in
    record {
      mtype = r.mtype;
      name = b.0.0;
      token = x.token;
      seq = r.seq;
      digits = r.digits;
      text = x.is;
      int = r.spells;
      fits = r.fits;
      strikes = to_front a.0.0 place (x.token ∷ rest) a.1 (past_token place b.0.1 x.token x.token bytes f rest refl (carried place b.0.1 (SpellsText b.0.0) s.0 s.2 x) r.strikes);
    })
    (λ c. absurd (no_read _ f c.2))))
  where
    to_front : (x : Unit {0}) (place : ℕ) (later : Tokens) → front_at bytes ≡ is_read (x, place) → Strikes place bytes f later → Strikes 0 bytes f (mark 91 ∷ mark 49 ∷ mark 44 ∷ later)
    to_front x place later h s = lead_goes (mark 91 ∷ mark 49 ∷ mark 44 ∷ []) later bytes place f (λ tail token others lies. front_back bytes x place h tail token others lies) s

    carried : (place past : ℕ) (Is : List ℕ → Type 0) (taken : ℕ) → place + taken ≡ past → (x : Token (drop place bytes) taken Is) → Carries place (x.token ∷ []) bytes past
    carried place past Is taken sum x = λ tail more lies. token_lies tail (drop place bytes) taken Is x more (subst (Lies tail more) (ap (λ n. drop n bytes) (sym sum) ∙ sym (drop-drop taken place bytes)) lies)
