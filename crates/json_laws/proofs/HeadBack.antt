-- A header that is read, and the end of a message, are tokens of the grammar.
use Rattle.std.proofs.Common.{◌≡◌, ℕ, ℤ, zero, suc, pos, negsuc, ◌+◌, ◌≤ℤ◌, List, [], ◌∷◌, ◌++◌, length, drop, refl, ap, ◌∙◌, sym, subst, arith, length-append, length-drop}
use Rattle.std.specs.Prelude.{◌==◌, FitsSigned}
use Rattle.std.specs.Int.{w32}
use Rattle.std.proofs.lemmas.Bool.Decides.{nat_tests}
use Rattle.std.proofs.lemmas.Fmt.{decimal_digit}
use Rattle.std.proofs.lemmas.List.{append-nil, drop-drop}
use Rattle.thrift_value.specs.declared.kind.MessageType.{MessageType}
use Rattle.protocol_traits.specs.declared.fault.Reason.{Reason}
use Rattle.protocol_traits.specs.declared.fault.Reason.TheVariants as reasons
use Rattle.protocol_traits.specs.Heads.{Header}
use Rattle.json_text.specs.Grammar.{AreWhite, SpellsInt, SpellsText}
use Rattle.json_text_laws.specs.Judged.{IsRange}
use Rattle.json_protocol.specs.Scan.{gap, further, shifted, mark_at}
use Rattle.json_protocol.specs.Words.{int_in, text_in}
use Rattle.json_protocol.specs.Head.{type_of, front_at, back_at, head_at, end_scan}
use Rattle.json_protocol.specs.Writing.{type_digit}
use Rattle.json_protocol.specs.Grammar.{Tokens, mark}
use Rattle.json_laws.specs.Fronts.{NameStands}
use Rattle.json_laws.proofs.Marks.{Lies, solid_some, here, cut, cut_at}
use Rattle.json_laws.proofs.Words.{text_solid}
use Rattle.json_laws.proofs.Inverse.{is_read, same_read, bound, no_other, gap_white, gap_back, token_lies, Carries, behind, shifted_back, mark_behind}
use Rattle.json_laws.proofs.WordsBack.{IsInt, int_back, text_back}
use Rattle.json_laws.proofs.ItemsBack.{range_32, decimal_of}

pub range_version : IsRange (pos 1) (pos 1)
range_version = record { least = grind (arith, nat_tests); most = grind (arith, nat_tests); one = grind (arith, nat_tests); none = grind (arith, nat_tests); some = grind (arith, nat_tests) }

pub range_type : IsRange (pos 1) (pos 4)
range_type = record { least = grind (arith, nat_tests); most = grind (arith, nat_tests); one = grind (arith, nat_tests); none = grind (arith, nat_tests); some = grind (arith, nat_tests) }

pub version_digit : (z : ℤ) (digits : List ℕ) → IsInt (pos 1) (pos 1) z digits → digits ≡ mark 49
version_digit (pos zero) digits i = let least = i.least in absurd (grind (arith, nat_tests))
version_digit (pos (suc zero)) digits i = decimal_of 1 digits i.spells (omega arith) ∙ decimal_digit 1 (omega arith)
version_digit (pos (suc (suc n))) digits i = let most = i.most in absurd (grind (arith, nat_tests))
version_digit (negsuc n) digits i = let least = i.least in absurd (grind (arith, nat_tests))

pub type_digits : (z : ℤ) (digits : List ℕ) → IsInt (pos 1) (pos 4) z digits → digits ≡ type_digit (type_of z)
type_digits (pos zero) digits i = let least = i.least in absurd (grind (arith, nat_tests))
type_digits (pos (suc zero)) digits i = decimal_of 1 digits i.spells (omega arith) ∙ decimal_digit 1 (omega arith)
type_digits (pos (suc (suc zero))) digits i = decimal_of 2 digits i.spells (omega arith) ∙ decimal_digit 2 (omega arith)
type_digits (pos (suc (suc (suc zero)))) digits i = decimal_of 3 digits i.spells (omega arith) ∙ decimal_digit 3 (omega arith)
type_digits (pos (suc (suc (suc (suc zero))))) digits i = decimal_of 4 digits i.spells (omega arith) ∙ decimal_digit 4 (omega arith)
type_digits (pos (suc (suc (suc (suc (suc n)))))) digits i = let most = i.most in absurd (grind (arith, nat_tests))
type_digits (negsuc n) digits i = let least = i.least in absurd (grind (arith, nat_tests))

-- an integer so many bytes on
pub int_behind : (low high : ℤ) (reason : Reason) (n : ℕ) (bytes : List ℕ) (z : ℤ) (past : ℕ) → IsRange low high → further n (int_in reason low high) bytes ≡ is_read (z, past)
    → (digits : List ℕ) × IsInt low high z digits × Carries n (digits ∷ []) bytes past
int_behind low high reason n bytes z past range e =
    let b = behind (int_in reason low high) n bytes z past (IsInt low high z) (λ c m h. int_back reason low high z c m range h) e in
    (b.token, b.is, b.carries)

pub fits_32 : (z : ℤ) → negsuc 2147483647 ≤ℤ z → z ≤ℤ pos 2147483647 → FitsSigned w32 z
fits_32 z a b = record { sfits = grind (arith, nat_tests) }

-- behind the name
record BackRead (n : ℕ) (bytes : List ℕ) (x : MessageType × ℤ) (past : ℕ) : Type 0 where
  digits : List ℕ
  spells : SpellsInt x.1 digits
  fits : FitsSigned w32 x.1
  lies : (tail : List ℕ) (more : Tokens) → Lies tail more (drop past bytes) → Lies tail (mark 44 ∷ type_digit x.0 ∷ mark 44 ∷ digits ∷ mark 44 ∷ more) (drop n bytes)

back_back : (n : ℕ) (bytes : List ℕ) (x : MessageType × ℤ) (past : ℕ) → back_at n bytes ≡ is_read (x, past) → BackRead n bytes x past
unfolding back_at
back_back n bytes x past e =
    let a = bound (further n (mark_at 44) bytes) _ (x, past) e in
    let b = bound (further a.0.1 (int_in reasons.BadType (pos 1) (pos 4)) bytes) _ (x, past) a.2 in
    let c = bound (further b.0.1 (mark_at 44) bytes) _ (x, past) b.2 in
    let f = bound (further c.0.1 (int_in reasons.BadNumber (negsuc 2147483647) (pos 2147483647)) bytes) _ (x, past) c.2 in
    let g = bound (further f.0.1 (mark_at 44) bytes) _ (x, past) f.2 in
    let same = same_read (type_of b.0.0, f.0.0) x g.0.1 past g.2 in
    let t = int_behind (pos 1) (pos 4) reasons.BadType a.0.1 bytes b.0.0 b.0.1 range_type b.1 in
    let s = int_behind (negsuc 2147483647) (pos 2147483647) reasons.BadNumber c.0.1 bytes f.0.0 f.0.1 range_32 f.1 in
    let read : BackRead n bytes (type_of b.0.0, f.0.0) g.0.1 =
    record {
      digits = s.0;
      spells = s.1.spells;
      fits = fits_32 f.0.0 s.1.least s.1.most;
      lies = (λ tail more lies.
          let third = s.2 tail (mark 44 ∷ more) (mark_behind 44 f.0.1 bytes g.0.0 g.0.1 g.1 tail more lies) in
          let second = mark_behind 44 b.0.1 bytes c.0.0 c.0.1 c.1 tail (s.0 ∷ mark 44 ∷ more) third in
          let first = t.2 tail (mark 44 ∷ s.0 ∷ mark 44 ∷ more) second in
          mark_behind 44 n bytes a.0.0 a.0.1 a.1 tail (type_digit (type_of b.0.0) ∷ mark 44 ∷ s.0 ∷ mark 44 ∷ more) (subst (λ k. Lies tail (k ∷ mark 44 ∷ s.0 ∷ mark 44 ∷ more) (drop a.0.1 bytes)) (type_digits b.0.0 t.0 t.1) first));
    } in
    subst (λ y. BackRead n bytes y past) same.0 (subst (BackRead n bytes (type_of b.0.0, f.0.0)) same.1 read)

-- up to the name
pub front_back : (bytes : List ℕ) (x : Unit {0}) (place : ℕ) → front_at bytes ≡ is_read (x, place) → (tail token : List ℕ) (more : Tokens) → Lies tail (token ∷ more) (drop place bytes) → Lies tail (mark 91 ∷ mark 49 ∷ mark 44 ∷ token ∷ more) bytes
unfolding front_at
front_back bytes x place e tail token more lies =
    let a = bound (further 0 (mark_at 91) bytes) _ (x, place) e in
    let b = bound (further a.0.1 (int_in reasons.BadVersion (pos 1) (pos 1)) bytes) _ (x, place) a.2 in
    let c = bound (further b.0.1 (mark_at 44) bytes) _ (x, place) b.2 in
    let same = same_read tt x (c.0.1 + gap (drop c.0.1 bytes)) place c.2 in
    let v = int_behind (pos 1) (pos 1) reasons.BadVersion a.0.1 bytes b.0.0 b.0.1 range_version b.1 in
    let name = gap_back tail c.0.1 bytes token more (subst (λ n. Lies tail (token ∷ more) (drop n bytes)) (sym same.1) lies) in
    let version = v.2 tail (mark 44 ∷ token ∷ more) (mark_behind 44 b.0.1 bytes c.0.0 c.0.1 c.1 tail (token ∷ more) name) in
    mark_behind 91 0 bytes a.0.0 a.0.1 a.1 tail (mark 49 ∷ mark 44 ∷ token ∷ more) (subst (λ k. Lies tail (k ∷ mark 44 ∷ token ∷ more) (drop a.0.1 bytes)) (version_digit b.0.0 v.0 v.1) version)

pub record HeadRead (h : Header) (bytes : List ℕ) (past : ℕ) : Type 0 where
  pub name : List ℕ
  pub seq : List ℕ
  pub text : SpellsText h.name name
  pub int : SpellsInt h.seq seq
  pub fits : FitsSigned w32 h.seq
  pub lies : (tail : List ℕ) (more : Tokens) → Lies tail more (drop past bytes) → Lies tail (mark 91 ∷ mark 49 ∷ mark 44 ∷ name ∷ mark 44 ∷ type_digit h.mtype ∷ mark 44 ∷ seq ∷ mark 44 ∷ more) bytes

pub head_back : (bytes : List ℕ) (x : Header × ℕ) (past : ℕ) → head_at bytes ≡ is_read (x, past) → HeadRead x.0 bytes past
unfolding head_at
head_back bytes x past e =
    let a = bound (front_at bytes) _ (x, past) e in
    let place = a.0.1 in
    let b = bound (shifted place (text_in (drop place bytes))) _ (x, past) a.2 in
    let c = bound (back_at b.0.1 bytes) _ (x, past) b.2 in
    let h : Header = record { name = b.0.0; mtype = c.0.0.0; seq = c.0.0.1 } in
    let same = same_read (h, place) x c.0.1 past c.2 in
    let s = shifted_back place (text_in (drop place bytes)) b.0.0 b.0.1 b.1 in
    let t = text_back (drop place bytes) b.0.0 s.0 s.1 in
    let r = back_back b.0.1 bytes c.0.0 c.0.1 c.1 in
    let read : HeadRead h bytes c.0.1 =
    record {
      name = t.token;
      seq = r.digits;
      text = t.is;
      int = r.spells;
      fits = r.fits;
      lies = (λ tail more lies.
          let later = mark 44 ∷ type_digit c.0.0.0 ∷ mark 44 ∷ r.digits ∷ mark 44 ∷ more in
          let rest = subst (Lies tail later) (ap (λ n. drop n bytes) (sym s.2) ∙ sym (drop-drop s.0 place bytes)) (r.lies tail more lies) in
          front_back bytes a.0.0 place a.1 tail t.token later (token_lies tail (drop place bytes) s.0 (SpellsText b.0.0) t later rest));
    } in
    subst (λ y. HeadRead y.0 bytes past) same.0 (subst (HeadRead h bytes) same.1 read)

-- the place of the name
pub name_back : (bytes : List ℕ) (x : Header × ℕ) (past : ℕ) → head_at bytes ≡ is_read (x, past) → NameStands x.0.name bytes x.1
unfolding head_at
name_back bytes x past e =
    let a = bound (front_at bytes) _ (x, past) e in
    let place = a.0.1 in
    let b = bound (shifted place (text_in (drop place bytes))) _ (x, past) a.2 in
    let c = bound (back_at b.0.1 bytes) _ (x, past) b.2 in
    let h : Header = record { name = b.0.0; mtype = c.0.0.0; seq = c.0.0.1 } in
    let same = same_read (h, place) x c.0.1 past c.2 in
    let s = shifted_back place (text_in (drop place bytes)) b.0.0 b.0.1 b.1 in
    let t = text_back (drop place bytes) b.0.0 s.0 s.1 in
    let left = drop place bytes in
    let before = cut (mark 91 ∷ mark 49 ∷ mark 44 ∷ []) bytes left (front_back bytes a.0.0 place a.1 left [] [] (here left)) in
    let some = solid_some t.token (text_solid b.0.0 t.token t.is) in
    let stands : NameStands b.0.0 bytes place =
    record {
      front = before.0;
      token = t.token;
      rest = t.rest;
      spells = t.is;
      laid = before.2;
      is = before.1 ∙ ap (λ l. before.0 ++ l) t.laid;
      place_is = cut_at bytes before.0 left place before.1 refl (omega (arith, some, ap length t.laid, length-append t.token t.rest));
    } in
    subst (λ (y : Header × ℕ). NameStands y.0.name bytes y.1) same.0 stands

-- ---- the end

no_bytes : (bytes : List ℕ) → length bytes ≡ 0 → bytes ≡ []
no_bytes [] e = refl
no_bytes (x ∷ bytes) e = absurd (omega arith)

pub end_scanned : (bytes : List ℕ) (x : Unit {0}) (past : ℕ) → end_scan bytes ≡ is_read (x, past) → (white : List ℕ) × AreWhite white × Lies white (mark 93 ∷ []) bytes
unfolding end_scan
end_scanned bytes x past e =
    let a = bound (further 0 (mark_at 93) bytes) _ (x, past) e in
    let n = a.0.1 in
    let left = drop n bytes in
    let t = no_other (n + gap left == length bytes) _ (is_read (tt, length bytes)) (x, past) a.2 in
    let g = gap_white left in
    let all : n + gap left ≡ length bytes = (let h = t.0 in grind (arith, nat_tests)) in
    let none : drop (gap left) left ≡ [] = no_bytes (drop (gap left) left) (ap length (drop-drop (gap left) n bytes) ∙ length-drop (n + gap left) bytes ∙ omega (arith, all)) in
    let white : left ≡ g.0 = g.2 ∙ ap (λ l. g.0 ++ l) none ∙ append-nil g.0 in
    (g.0, g.1, mark_behind 93 0 bytes a.0.0 n a.1 g.0 [] white)
