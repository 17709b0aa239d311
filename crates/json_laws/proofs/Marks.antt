-- Tokens behind whitespace are found by the scans.
use Rattle.std.proofs.Common.{◌≡◌, ℕ, ◌+◌, ◌<◌, ◌≤◌, false, true, List, [], ◌∷◌, ◌++◌, length, drop, Ok, refl, ap, ◌∙◌, sym, subst, arith, inl, inr, length-append, length-drop}
use Rattle.std.proofs.lemmas.Bool.Decides.{nat_tests}
use Rattle.std.proofs.lemmas.List.{drop-drop}
use Rattle.json_text.specs.Scan.{is_white}
use Rattle.json_text.specs.Number.{is_number_byte}
use Rattle.json_text.specs.Grammar.{IsWhite, AreWhite}
use Rattle.json_text_laws.proofs.Parts.{All, Apart, cut_len, drop_front, append_more}
use Rattle.json_protocol.specs.Scan.{Scan, gap, further, shifted, mark_at}
use Rattle.json_protocol.specs.Grammar.{Tokens, Laid, mark}
use Rattle.json_laws.specs.Fronts.{BeginsToken}

-- ---- whitespace

pub white_is : (x : ℕ) → IsWhite x → is_white x ≡ true
white_is x (inl e) = grind (arith, nat_tests)
white_is x (inr (inl e)) = grind (arith, nat_tests)
white_is x (inr (inr (inl e))) = grind (arith, nat_tests)
white_is x (inr (inr (inr e))) = grind (arith, nat_tests)

pub all_white : (white : List ℕ) → AreWhite white → All is_white white
all_white [] h = tt
all_white (x ∷ xs) h = (white_is x h.0, all_white xs h.1)

white_parts : (x : ℕ) → IsWhite x → is_number_byte x ≡ false
white_parts x (inl e) = grind (arith, nat_tests)
white_parts x (inr (inl e)) = grind (arith, nat_tests)
white_parts x (inr (inr (inl e))) = grind (arith, nat_tests)
white_parts x (inr (inr (inr e))) = grind (arith, nat_tests)

-- ---- tokens, and what stands behind them

-- these tokens with whitespace before each, and then this
abbrev pub Lies : List ℕ → Tokens → List ℕ → Type 0
Lies tail [] bytes = bytes ≡ tail
Lies tail (token ∷ more) bytes = (white : List ℕ) × (rest : List ℕ) × (bytes ≡ white ++ (token ++ rest)) × AreWhite white × Lies tail more rest

pub laid_lies : (tokens : Tokens) (bytes more : List ℕ) → Laid tokens bytes → (white : List ℕ) × AreWhite white × Lies (white ++ more) tokens (bytes ++ more)
laid_lies [] bytes more h = (bytes, h, refl)
laid_lies (token ∷ tokens) bytes more (white, rest, is, are, laid) =
    let l = laid_lies tokens rest more laid in
    (l.0, l.1, (white, rest ++ more, ap (λ b. b ++ more) is ∙ append_more white (token ++ rest) more ∙ ap (λ b. white ++ b) (append_more token rest more), are, l.2))

-- the token begins with no whitespace
abbrev pub IsSolid : List ℕ → Type 0
IsSolid [] = ⊥
IsSolid (x ∷ xs) = is_white x ≡ false

pub solid_some : (token : List ℕ) → IsSolid token → 1 ≤ length token
solid_some [] h = absurd h
solid_some (x ∷ xs) h = omega arith

solid_apart : (token rest : List ℕ) → IsSolid token → Apart is_white (token ++ rest)
solid_apart [] rest h = absurd h
solid_apart (x ∷ xs) rest h = h

-- the first token goes on with no number
abbrev pub IsClear : Tokens → Type 0
IsClear [] = ⊥
IsClear ([] ∷ more) = ⊥
IsClear ((x ∷ token) ∷ more) = is_number_byte x ≡ false

pub clear_append : (tokens more : Tokens) → IsClear tokens → IsClear (tokens ++ more)
clear_append [] more h = absurd h
clear_append ([] ∷ tokens) more h = absurd h
clear_append ((x ∷ token) ∷ tokens) more h = h

module _ (tail : List ℕ) where
  pub lies_apart : (tokens : Tokens) (bytes : List ℕ) → IsClear tokens → Lies tail tokens bytes → Apart is_number_byte bytes
  lies_apart [] bytes c l = absurd c
  lies_apart ([] ∷ tokens) bytes c l = absurd c
  lies_apart ((x ∷ token) ∷ tokens) bytes c ([], rest, is, are, more) = subst (Apart is_number_byte) (sym is) c
  lies_apart ((x ∷ token) ∷ tokens) bytes c (w ∷ white, rest, is, are, more) = subst (Apart is_number_byte) (sym is) (white_parts w are.0)

  -- ---- scans

  -- the scan reads this token, with these behind it
  abbrev pub IsWord : {X : Type 0} → Tokens → (List ℕ → Scan X) → List ℕ → X → Type 0
  IsWord more scan token x = (rest : List ℕ) → Lies tail more rest → scan (token ++ rest) ≡ Ok (x, length token)

  -- what the scan finds, and the tokens behind it
  pub record Found {X : Type 0} (scan : List ℕ → Scan X) (bytes : List ℕ) (x : X) (more : Tokens) : Type 0 where
    pub past : ℕ
    pub read : scan bytes ≡ Ok (x, past)
    pub left : Lies tail more (drop past bytes)
    pub within : past ≤ length bytes

  -- the first token stands right there
  abbrev pub IsReady : List ℕ → Tokens → List ℕ → Type 0
  IsReady token more bytes = (rest : List ℕ) × (bytes ≡ token ++ rest) × Lies tail more rest

  pub front : {X : Type 0} → (scan : List ℕ → Scan X) (token : List ℕ) (more : Tokens) (bytes : List ℕ) (x : X) → IsWord more scan token x → IsReady token more bytes → Found scan bytes x more
  front scan token more bytes x word (rest, is, lies) = record {
    past = length token;
    read = ap scan is ∙ word rest lies;
    left = subst (Lies tail more) (sym (ap (drop (length token)) is ∙ drop_front token rest)) lies;
    within = omega (arith, ap length is, length-append token rest);
  }

  -- behind so many bytes and the whitespace that stands there
  pub record Ahead (n : ℕ) (bytes token : List ℕ) (more : Tokens) : Type 0 where
    pub ready : IsReady token more (drop (n + gap (drop n bytes)) bytes)
    pub order : n < length bytes
    pub within : n + gap (drop n bytes) < length bytes

  pub ahead : (n : ℕ) (bytes token : List ℕ) (more : Tokens) → IsSolid token → Lies tail (token ∷ more) (drop n bytes) → Ahead n bytes token more
  ahead n bytes token more solid (white, rest, is, are, lies) =
      let gone : gap (drop n bytes) ≡ length white = ap gap is ∙ cut_len is_white white (token ++ rest) (all_white white are) (solid_apart token rest solid) in
      let here : drop (n + gap (drop n bytes)) bytes ≡ token ++ rest = sym (drop-drop (gap (drop n bytes)) n bytes) ∙ ap (λ k. drop k (drop n bytes)) gone ∙ ap (drop (length white)) is ∙ drop_front white (token ++ rest) in
      let some = solid_some token solid in
      let size : length (drop n bytes) ≡ length white + (length token + length rest) = ap length is ∙ length-append white (token ++ rest) ∙ ap (λ k. length white + k) (length-append token rest) in
      record {
        ready = (rest, here, lies);
        order = omega (arith, size, length-drop n bytes);
        within = omega (arith, size, gone, length-drop n bytes);
      }

  -- what a scan finds there, a scan so many bytes further on finds
  pub on : {X : Type 0} → (scan : List ℕ → Scan X) (n : ℕ) (bytes : List ℕ) (x : X) (more : Tokens) → n + gap (drop n bytes) ≤ length bytes → Found scan (drop (n + gap (drop n bytes)) bytes) x more
      → Found (further n scan) bytes x more
  on scan n bytes x more most f =
      let at = n + gap (drop n bytes) in
      record {
        past = at + f.past;
        read = ap (shifted at) f.read;
        left = subst (Lies tail more) (drop-drop f.past at bytes) f.left;
        within = omega (arith, f.within, length-drop at bytes);
      }

  pub found : {X : Type 0} → (scan : List ℕ → Scan X) (n : ℕ) (bytes token : List ℕ) (more : Tokens) (x : X) → IsWord more scan token x → IsSolid token → Lies tail (token ∷ more) (drop n bytes)
      → Found (further n scan) bytes x more
  found scan n bytes token more x word solid lies =
      let a = ahead n bytes token more solid lies in
      on scan n bytes x more (omega (arith, a.within)) (front scan token more (drop (n + gap (drop n bytes)) bytes) x word a.ready)

  -- ---- marks

  mark_scan : (m : ℕ) (rest : List ℕ) → mark_at m (m ∷ rest) ≡ Ok (tt, 1)
  unfolding mark_at
  mark_scan m rest = grind (arith, nat_tests)

  pub mark_word : (m : ℕ) (more : Tokens) → IsWord more (mark_at m) (mark m) tt
  mark_word m more rest lies = mark_scan m rest

  pub found_mark : (m n : ℕ) (bytes : List ℕ) (more : Tokens) → is_white m ≡ false → Lies tail (mark m ∷ more) (drop n bytes) → Found (further n (mark_at m)) bytes tt more
  found_mark m n bytes more solid lies = found (mark_at m) n bytes (mark m) more tt (mark_word m more) solid lies

-- ---- where tokens end

-- what is left stands right there
pub here : (left : List ℕ) → Lies left ([] ∷ []) left
here left = ([], left, refl, tt, refl)

-- what stands before a place, where these tokens and whitespace stand before it
pub cut : (tokens : Tokens) (bytes left : List ℕ) → Lies left (tokens ++ ([] ∷ [])) bytes → (before : List ℕ) × (bytes ≡ before ++ left) × Laid tokens before
cut [] bytes left (white, rest, is, are, lies) = (white, is ∙ ap (λ r. white ++ r) lies, are)
cut (token ∷ tokens) bytes left (white, rest, is, are, lies) =
    let c = cut tokens rest left lies in
    let joined : white ++ (token ++ (c.0 ++ left)) ≡ (white ++ (token ++ c.0)) ++ left = ap (λ r. white ++ r) (sym (append_more token c.0 left)) ∙ sym (append_more white (token ++ c.0) left) in
    (white ++ (token ++ c.0), is ∙ ap (λ r. white ++ (token ++ r)) c.1 ∙ joined, (white, c.0, refl, are, c.2))

-- it is as long as the place says
pub cut_at : (bytes before left : List ℕ) (place : ℕ) → bytes ≡ before ++ left → left ≡ drop place bytes → 1 ≤ length left → place ≡ length before
cut_at bytes before left place is left_is some = omega (arith, some, ap length is, length-append before left, ap length left_is, length-drop place bytes)

-- a solid token begins with no whitespace
pub solid_begins : (token rest : List ℕ) → IsSolid token → BeginsToken (token ++ rest)
solid_begins [] rest h = absurd h
solid_begins (x ∷ xs) rest h = λ white. (let wrong = sym (white_is x white) ∙ h in absurd (cc))

pub begins_some : (bytes : List ℕ) → BeginsToken bytes → 1 ≤ length bytes
begins_some [] h = absurd h
begins_some (x ∷ xs) h = omega arith

-- what some of the tokens are, with the whitespace before each
pub laid_apart : (a b : Tokens) (bytes : List ℕ) → Laid (a ++ b) bytes → (front : List ℕ) × (rest : List ℕ) × (bytes ≡ front ++ rest) × Laid a front
laid_apart [] b bytes h = ([], bytes, refl, tt)
laid_apart (token ∷ a) b bytes (white, rest, is, are, laid) =
    let r = laid_apart a b rest laid in
    let joined : white ++ (token ++ (r.0 ++ r.1)) ≡ (white ++ (token ++ r.0)) ++ r.1 = ap (λ l. white ++ l) (sym (append_more token r.0 r.1)) ∙ sym (append_more white (token ++ r.0) r.1) in
    (white ++ (token ++ r.0), r.1, is ∙ ap (λ l. white ++ (token ++ l)) r.2 ∙ joined, (white, r.0, refl, are, r.3))
