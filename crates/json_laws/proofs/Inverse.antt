-- What a scan has read are tokens of the grammar: marks, kinds, integers, numbers and strings, with whitespace before them.
use Rattle.std.proofs.Common.{◌≡◌, ℕ, ◌+◌, ◌≤◌, Bool, true, false, cond, List, [], ◌∷◌, ◌++◌, length, drop, Ok, Err, refl, ap, ◌∙◌, sym, subst, arith, ◌⊎◌, inl, inr}
use Rattle.std.specs.Prelude.{nat_lt, ◌==◌, ◌&&◌}
use Rattle.std.proofs.lemmas.Bool.Decides.{nat_tests}
use Rattle.std.proofs.lemmas.List.{drop-drop}
use Rattle.thrift_value.specs.declared.kind.Kind.{Kind}
use Rattle.thrift_value.specs.declared.kind.Kind.TheVariants as kinds
use Rattle.protocol_traits.specs.declared.fault.Fault.{Fault}
use Rattle.protocol_traits.specs.declared.fault.Reason.TheVariants as reasons
use Rattle.json_text.specs.Scan.{is_white}
use Rattle.json_text.specs.Grammar.{IsWhite, AreWhite}
use Rattle.json_text_laws.proofs.Choices.{either_way}
use Rattle.json_text_laws.proofs.Parts.{All, Apart, parted, cut_len, drop_front, append_more}
use Rattle.json_protocol.specs.Scan.{Scan, gap, further, shifted, mark_at, word_end, ◌>>=◌}
use Rattle.json_protocol.specs.Words.{begins_two, begins_three, kind_at, wide_kind_at, large_kind_at}
use Rattle.json_protocol.specs.Grammar.{Tokens, mark, IsNamed, name_token}
use Rattle.json_laws.proofs.Marks.{Lies}

-- ---- answers

abbrev pub is_read : {X : Type 0} → X × ℕ → Scan X
is_read x = Ok x

abbrev pub is_fault : {X : Type 0} → Fault → Scan X
is_fault f = Err f

abbrev got : {X : Type 0} → X × ℕ → Scan X → X × ℕ
got x (Ok y) = y
got x (Err f) = x

pub same_read : {X : Type 0} → (x y : X) (m n : ℕ) → is_read (x, m) ≡ is_read (y, n) → (x ≡ y) × (m ≡ n)
same_read {X} x y m n e = (ap (λ (s : Scan X). (got (x, m) s).0) e, ap (λ (s : Scan X). (got (x, m) s).1) e)

pub no_fault : {X : Type 0} → (f : Fault) (x : X × ℕ) → is_fault f ≡ is_read x → ⊥
no_fault f x e = absurd (cc)

-- two scans in a row
pub bound : {X Y : Type 0} → (scan : Scan X) (go : X × ℕ → Scan Y) (y : Y × ℕ) → (scan >>= go) ≡ is_read y → (x : X × ℕ) × (scan ≡ is_read x) × (go x ≡ is_read y)
bound (Ok x) go y e = (x, refl, e)
bound (Err f) go y e = absurd (no_fault f y e)

-- one of two, by a test
pub either : {X : Type 0} → (b : Bool) (one two : Scan X) (x : X × ℕ) → cond b one two ≡ is_read x → ((b ≡ true) × (one ≡ is_read x)) ⊎ ((b ≡ false) × (two ≡ is_read x))
either true one two x e = inl (refl, e)
either false one two x e = inr (refl, e)

pub past_fault : {X : Type 0} → (b : Bool) (f : Fault) (scan : Scan X) (x : X × ℕ) → cond b (is_fault f) scan ≡ is_read x → (b ≡ false) × (scan ≡ is_read x)
past_fault true f scan x e = absurd (no_fault f x e)
past_fault false f scan x e = (refl, e)

pub no_other : {X : Type 0} → (b : Bool) (f : Fault) (scan : Scan X) (x : X × ℕ) → cond b scan (is_fault f) ≡ is_read x → (b ≡ true) × (scan ≡ is_read x)
no_other true f scan x e = (refl, e)
no_other false f scan x e = absurd (no_fault f x e)

-- ---- whitespace

white_of : (x : ℕ) → is_white x ≡ true → IsWhite x
white_of x e = by_first (either_way (x == 32)) (either_way (x == 9)) (either_way (x == 13))
  where
    by_first : ((x == 32) ≡ true) ⊎ ((x == 32) ≡ false) → ((x == 9) ≡ true) ⊎ ((x == 9) ≡ false) → ((x == 13) ≡ true) ⊎ ((x == 13) ≡ false) → IsWhite x
    by_first (inl t) b c = inl (grind (arith, nat_tests))
    by_first (inr t) (inl u) c = inr (inl (grind (arith, nat_tests)))
    by_first (inr t) (inr u) (inl v) = inr (inr (inl (grind (arith, nat_tests))))
    by_first (inr t) (inr u) (inr v) = inr (inr (inr (grind (arith, nat_tests))))

pub are_white : (xs : List ℕ) → All is_white xs → AreWhite xs
are_white [] h = tt
are_white (x ∷ xs) h = (white_of x h.0, are_white xs h.1)

-- the whitespace that stands at the front
pub gap_white : (bytes : List ℕ) → (white : List ℕ) × AreWhite white × (bytes ≡ white ++ drop (gap bytes) bytes)
gap_white bytes =
    let p = parted is_white bytes in
    let long : gap bytes ≡ length p.front = ap gap p.joined ∙ cut_len is_white p.front p.rest p.all p.apart in
    let rest : drop (gap bytes) bytes ≡ p.rest = ap (λ n. drop n bytes) long ∙ ap (drop (length p.front)) p.joined ∙ drop_front p.front p.rest in
    (p.front, are_white p.front p.all, p.joined ∙ ap (λ r. p.front ++ r) (sym rest))

-- behind it stands none
pub gap_apart : (bytes : List ℕ) → Apart is_white (drop (gap bytes) bytes)
gap_apart bytes =
    let p = parted is_white bytes in
    let long : gap bytes ≡ length p.front = ap gap p.joined ∙ cut_len is_white p.front p.rest p.all p.apart in
    let rest : drop (gap bytes) bytes ≡ p.rest = ap (λ n. drop n bytes) long ∙ ap (drop (length p.front)) p.joined ∙ drop_front p.front p.rest in
    subst (Apart is_white) (sym rest) p.apart

pub white_append : (xs ys : List ℕ) → AreWhite xs → AreWhite ys → AreWhite (xs ++ ys)
white_append [] ys a b = b
white_append (x ∷ xs) ys a b = (a.0, white_append xs ys a.1 b)

-- whitespace before tokens
behind_white : (tail white bytes token : List ℕ) (more : Tokens) → AreWhite white → Lies tail (token ∷ more) bytes → Lies tail (token ∷ more) (white ++ bytes)
behind_white tail white bytes token more are (front, rest, is, white_too, lies) =
    (white ++ front, rest, ap (λ b. white ++ b) is ∙ sym (append_more white front (token ++ rest)), white_append white front are white_too, lies)

pub gap_back : (tail : List ℕ) (n : ℕ) (bytes token : List ℕ) (more : Tokens) → Lies tail (token ∷ more) (drop (n + gap (drop n bytes)) bytes) → Lies tail (token ∷ more) (drop n bytes)
gap_back tail n bytes token more lies =
    let g = gap_white (drop n bytes) in
    let there = subst (Lies tail (token ∷ more)) (sym (drop-drop (gap (drop n bytes)) n bytes)) lies in
    subst (Lies tail (token ∷ more)) (sym g.2) (behind_white tail g.0 (drop (gap (drop n bytes)) (drop n bytes)) token more g.1 there)

-- ---- one token

-- the scan has read this token
pub record Token (bytes : List ℕ) (taken : ℕ) (Is : List ℕ → Type 0) : Type 0 where
  pub token : List ℕ
  pub rest : List ℕ
  pub laid : bytes ≡ token ++ rest
  pub long : taken ≡ length token
  pub is : Is token

-- these tokens stand before what is left
abbrev pub Carries : ℕ → Tokens → List ℕ → ℕ → Type 0
Carries n tokens bytes past = (tail : List ℕ) (more : Tokens) → Lies tail more (drop past bytes) → Lies tail (tokens ++ more) (drop n bytes)

-- so many bytes on, the token stands, with whitespace before it
pub record Behind (n : ℕ) (bytes : List ℕ) (past : ℕ) (Is : List ℕ → Type 0) : Type 0 where
  pub token : List ℕ
  pub is : Is token
  pub carries : Carries n (token ∷ []) bytes past

pub token_lies : (tail bytes : List ℕ) (taken : ℕ) (Is : List ℕ → Type 0) (t : Token bytes taken Is) (more : Tokens) → Lies tail more (drop taken bytes) → Lies tail (t.token ∷ more) bytes
token_lies tail bytes taken Is t more lies =
    let left : drop taken bytes ≡ t.rest = ap (λ n. drop n bytes) t.long ∙ ap (drop (length t.token)) t.laid ∙ drop_front t.token t.rest in
    ([], t.rest, t.laid, tt, subst (Lies tail more) left lies)

pub shifted_back : {X : Type 0} → (n : ℕ) (scan : Scan X) (x : X) (past : ℕ) → shifted n scan ≡ is_read (x, past) → (taken : ℕ) × (scan ≡ is_read (x, taken)) × (n + taken ≡ past)
shifted_back n (Ok y) x past e = let same = same_read y.0 x (n + y.1) past e in (y.1, ap (λ z. Ok (z, y.1)) same.0, same.1)
shifted_back n (Err f) x past e = absurd (no_fault _ (x, past) e)

pub further_back : {X : Type 0} → (scan : List ℕ → Scan X) (n : ℕ) (bytes : List ℕ) (x : X) (past : ℕ) → further n scan bytes ≡ is_read (x, past)
    → (taken : ℕ) × (scan (drop (n + gap (drop n bytes)) bytes) ≡ is_read (x, taken)) × (n + gap (drop n bytes) + taken ≡ past)
further_back scan n bytes x past e = shifted_back (n + gap (drop n bytes)) (scan (drop (n + gap (drop n bytes)) bytes)) x past e

pub behind : {X : Type 0} → (scan : List ℕ → Scan X) (n : ℕ) (bytes : List ℕ) (x : X) (past : ℕ) (Is : List ℕ → Type 0) → ((b : List ℕ) (taken : ℕ) → scan b ≡ is_read (x, taken) → Token b taken Is)
    → further n scan bytes ≡ is_read (x, past) → Behind n bytes past Is
behind scan n bytes x past Is inverse e =
    let at = n + gap (drop n bytes) in
    let s = further_back scan n bytes x past e in
    let t = inverse (drop at bytes) s.0 s.1 in
    record {
      token = t.token;
      is = t.is;
      carries = (λ tail more lies. gap_back tail n bytes t.token more (token_lies tail (drop at bytes) s.0 Is t more (subst (Lies tail more) (ap (λ k. drop k bytes) (sym s.2) ∙ sym (drop-drop s.0 at bytes)) lies)));
    }

-- ---- marks

pub mark_back : (m : ℕ) (b : List ℕ) (x : Unit {0}) (taken : ℕ) → mark_at m b ≡ is_read (x, taken) → Token b taken (λ t. t ≡ mark m)
unfolding mark_at
mark_back m [] x taken e = absurd (no_fault (record { place = 0; reason = reasons.Truncated }) (x, taken) e)
mark_back m (y ∷ b) x taken e =
    let p = past_fault (nat_lt (length (y ∷ b)) 1) _ _ (x, taken) e in
    let q = no_other (y == m) _ (is_read (tt, 1)) (x, taken) p.1 in
    let same : y ≡ m = (let t = q.0 in grind (arith, nat_tests)) in
    record { token = mark m; rest = b; laid = ap (λ z. z ∷ b) same; long = sym (same_read tt x 1 taken q.1).1; is = refl }

pub mark_behind : (m n : ℕ) (bytes : List ℕ) (x : Unit {0}) (past : ℕ) → further n (mark_at m) bytes ≡ is_read (x, past) → Carries n (mark m ∷ []) bytes past
mark_behind m n bytes x past e =
    let b = behind (mark_at m) n bytes x past (λ t. t ≡ mark m) (λ c taken h. mark_back m c x taken h) e in
    λ tail more lies. subst (λ t. Lies tail (t ∷ more) (drop n bytes)) b.is (b.carries tail more lies)

-- ---- kinds

long_enough : (n size : ℕ) → nat_lt n size ≡ false → size ≤ n
long_enough n size e = grind (arith, nat_tests)

-- so many bytes that are these
pub record Prefix (bytes letters : List ℕ) : Type 0 where
  pub rest : List ℕ
  pub laid : bytes ≡ letters ++ rest

same_byte : (x y : ℕ) → (x == y) ≡ true → x ≡ y
same_byte x y e = grind (arith, nat_tests)

both_hold : (a b : Bool) → (a && b) ≡ true → (a ≡ true) × (b ≡ true)
both_hold true true e = (refl, refl)
both_hold true false e = absurd (cc)
both_hold false b e = absurd (cc)

two_there : (bytes : List ℕ) (a b : ℕ) → 4 ≤ length bytes → begins_two bytes a b ≡ true → Prefix bytes (34 ∷ a ∷ b ∷ 34 ∷ [])
two_there [] a b long e = absurd (omega arith)
two_there (w ∷ []) a b long e = absurd (omega arith)
two_there (w ∷ x ∷ []) a b long e = absurd (omega arith)
two_there (w ∷ x ∷ y ∷ []) a b long e = absurd (omega arith)
two_there (w ∷ x ∷ y ∷ z ∷ rest) a b long e =
    let first : w ≡ 34 = grind (arith, nat_tests) in
    let second : x ≡ a = grind (arith, nat_tests) in
    let third : y ≡ b = grind (arith, nat_tests) in
    let last : z ≡ 34 = grind (arith, nat_tests) in
    record { rest = rest; laid = ap (λ k. k ∷ x ∷ y ∷ z ∷ rest) first ∙ ap (λ k. 34 ∷ k ∷ y ∷ z ∷ rest) second ∙ ap (λ k. 34 ∷ a ∷ k ∷ z ∷ rest) third ∙ ap (λ k. 34 ∷ a ∷ b ∷ k ∷ rest) last }

three_there : (bytes : List ℕ) (a b c : ℕ) → 5 ≤ length bytes → begins_three bytes a b c ≡ true → Prefix bytes (34 ∷ a ∷ b ∷ c ∷ 34 ∷ [])
three_there [] a b c long e = absurd (omega arith)
three_there (v ∷ []) a b c long e = absurd (omega arith)
three_there (v ∷ w ∷ []) a b c long e = absurd (omega arith)
three_there (v ∷ w ∷ x ∷ []) a b c long e = absurd (omega arith)
three_there (v ∷ w ∷ x ∷ y ∷ []) a b c long e = absurd (omega arith)
three_there (v ∷ w ∷ x ∷ y ∷ z ∷ rest) a b c long e =
    let first : v ≡ 34 = grind (arith, nat_tests) in
    let second : w ≡ a = grind (arith, nat_tests) in
    let third : x ≡ b = grind (arith, nat_tests) in
    let fourth : y ≡ c = grind (arith, nat_tests) in
    let last : z ≡ 34 = grind (arith, nat_tests) in
    record { rest = rest; laid = ap (λ k. k ∷ w ∷ x ∷ y ∷ z ∷ rest) first ∙ ap (λ k. 34 ∷ k ∷ x ∷ y ∷ z ∷ rest) second ∙ ap (λ k. 34 ∷ a ∷ k ∷ y ∷ z ∷ rest) third ∙ ap (λ k. 34 ∷ a ∷ b ∷ k ∷ z ∷ rest) fourth ∙ ap (λ k. 34 ∷ a ∷ b ∷ c ∷ k ∷ rest) last }

abbrev pub Names : Kind → List ℕ → Type 0
Names kind token = (token ≡ name_token kind) × IsNamed kind

-- a word of so many bytes that is there
ended_by : {X : Type 0} → (bytes : List ℕ) (size taken : ℕ) (x y : X) → word_end bytes size x ≡ is_read (y, taken) → (size ≤ length bytes) × (x ≡ y) × (size ≡ taken)
ended_by bytes size taken x y e =
    let p = past_fault (nat_lt (length bytes) size) _ (is_read (x, size)) (y, taken) e in
    let same = same_read x y size taken p.1 in
    (long_enough (length bytes) size p.0, same.0, same.1)

of_two : (bytes : List ℕ) (a b taken : ℕ) (own kind : Kind) → name_token own ≡ 34 ∷ a ∷ b ∷ 34 ∷ [] → IsNamed own → begins_two bytes a b ≡ true → word_end bytes 4 own ≡ is_read (kind, taken) → Token bytes taken (Names kind)
of_two bytes a b taken own kind name named t e =
    let w = ended_by bytes 4 taken own kind e in
    let p = two_there bytes a b w.0 t in
    record { token = 34 ∷ a ∷ b ∷ 34 ∷ []; rest = p.rest; laid = p.laid; long = sym w.2; is = (sym name ∙ ap (λ k. name_token k) w.1, subst IsNamed w.1 named) }

of_three : (bytes : List ℕ) (a b c taken : ℕ) (own kind : Kind) → name_token own ≡ 34 ∷ a ∷ b ∷ c ∷ 34 ∷ [] → IsNamed own → begins_three bytes a b c ≡ true → word_end bytes 5 own ≡ is_read (kind, taken) → Token bytes taken (Names kind)
of_three bytes a b c taken own kind name named t e =
    let w = ended_by bytes 5 taken own kind e in
    let p = three_there bytes a b c w.0 t in
    record { token = 34 ∷ a ∷ b ∷ c ∷ 34 ∷ []; rest = p.rest; laid = p.laid; long = sym w.2; is = (sym name ∙ ap (λ k. name_token k) w.1, subst IsNamed w.1 named) }

-- this name, or what the next tests tell
or_three : (bytes : List ℕ) (a b c taken : ℕ) (own kind : Kind) (next : Scan Kind) → name_token own ≡ 34 ∷ a ∷ b ∷ c ∷ 34 ∷ [] → IsNamed own → (next ≡ is_read (kind, taken) → Token bytes taken (Names kind))
    → cond (begins_three bytes a b c) (word_end bytes 5 own) next ≡ is_read (kind, taken) → Token bytes taken (Names kind)
or_three bytes a b c taken own kind next name named go e = by_test (either (begins_three bytes a b c) (word_end bytes 5 own) next (kind, taken) e)
  where
    by_test : ((begins_three bytes a b c ≡ true) × (word_end bytes 5 own ≡ is_read (kind, taken))) ⊎ ((begins_three bytes a b c ≡ false) × (next ≡ is_read (kind, taken))) → Token bytes taken (Names kind)
    by_test (inl h) = of_three bytes a b c taken own kind name named h.0 h.1
    by_test (inr h) = go h.1

or_two : (bytes : List ℕ) (a b taken : ℕ) (own kind : Kind) (next : Scan Kind) → name_token own ≡ 34 ∷ a ∷ b ∷ 34 ∷ [] → IsNamed own → (next ≡ is_read (kind, taken) → Token bytes taken (Names kind))
    → cond (begins_two bytes a b) (word_end bytes 4 own) next ≡ is_read (kind, taken) → Token bytes taken (Names kind)
or_two bytes a b taken own kind next name named go e = by_test (either (begins_two bytes a b) (word_end bytes 4 own) next (kind, taken) e)
  where
    by_test : ((begins_two bytes a b ≡ true) × (word_end bytes 4 own ≡ is_read (kind, taken))) ⊎ ((begins_two bytes a b ≡ false) × (next ≡ is_read (kind, taken))) → Token bytes taken (Names kind)
    by_test (inl h) = of_two bytes a b taken own kind name named h.0 h.1
    by_test (inr h) = go h.1

large_back : (bytes : List ℕ) (kind : Kind) (taken : ℕ) → large_kind_at bytes ≡ is_read (kind, taken) → Token bytes taken (Names kind)
unfolding large_kind_at
large_back bytes kind taken e =
    or_three bytes 115 116 114 taken kinds.Str kind _ refl refl
    (or_three bytes 114 101 99 taken kinds.Struct kind _ refl refl
    (or_three bytes 109 97 112 taken kinds.Map kind _ refl refl
    (or_three bytes 115 101 116 taken kinds.Set kind _ refl refl
    (or_three bytes 108 115 116 taken kinds.List kind _ refl refl (λ h. absurd (no_fault _ (kind, taken) h)))))) e

wide_back : (bytes : List ℕ) (kind : Kind) (taken : ℕ) → wide_kind_at bytes ≡ is_read (kind, taken) → Token bytes taken (Names kind)
unfolding wide_kind_at
wide_back bytes kind taken e =
    or_three bytes 105 49 54 taken kinds.I16 kind _ refl refl
    (or_three bytes 105 51 50 taken kinds.I32 kind _ refl refl
    (or_three bytes 105 54 52 taken kinds.I64 kind _ refl refl
    (or_three bytes 100 98 108 taken kinds.Double kind _ refl refl (large_back bytes kind taken)))) e

pub kind_back : (bytes : List ℕ) (kind : Kind) (taken : ℕ) → kind_at bytes ≡ is_read (kind, taken) → Token bytes taken (Names kind)
unfolding kind_at
kind_back bytes kind taken e = or_two bytes 116 102 taken kinds.Bool kind _ refl refl (or_two bytes 105 56 taken kinds.I8 kind _ refl refl (wide_back bytes kind taken)) e
