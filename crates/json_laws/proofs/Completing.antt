-- What a fault strikes: before it stand whole tokens, and a token is called for that the bytes end inside, or that does not begin there.
use Rattle.std.proofs.Common.{◌≡◌, ℕ, ◌+◌, ◌≤◌, Bool, true, false, cond, List, [], ◌∷◌, ◌++◌, length, drop, Ok, Err, refl, ap, ◌∙◌, sym, subst, arith, ◌⊎◌, inl, inr}
use Rattle.std.specs.Prelude.{nat_lt, ◌==◌}
use Rattle.std.proofs.lemmas.Bool.Decides.{nat_tests}
use Rattle.std.proofs.lemmas.List.{drop-drop}
use Rattle.protocol_traits.specs.declared.fault.Fault.{Fault}
use Rattle.protocol_traits.specs.declared.fault.Reason.{Reason}
use Rattle.protocol_traits.specs.declared.fault.Reason.TheVariants as reasons
use Rattle.json_text.specs.Scan.{is_white}
use Rattle.json_text.specs.Grammar.{AreWhite}
use Rattle.json_text_laws.proofs.Parts.{Apart, append_more}
use Rattle.json_protocol.specs.Scan.{Scan, fault, gap, further, shifted, mark_at, ◌>>=◌}
use Rattle.json_protocol.specs.Grammar.{Tokens, Laid, mark}
use Rattle.json_laws.specs.Faults.{IsSort, IsInside, IsUnlike, NoneStands}
use Rattle.json_laws.proofs.Marks.{Lies, here, cut}
use Rattle.json_laws.proofs.Trees.{tokens_append}
use Rattle.json_laws.proofs.Inverse.{is_read, is_fault, white_append, gap_white, gap_apart, Carries}

-- ---- tokens one behind another

laid_white : (white bytes : List ℕ) (tokens : Tokens) → AreWhite white → Laid tokens bytes → Laid tokens (white ++ bytes)
laid_white white bytes [] are laid = white_append white bytes are laid
laid_white white bytes (token ∷ more) are (front, rest, is, white_too, laid) =
    (white ++ front, rest, ap (λ b. white ++ b) is ∙ sym (append_more white front (token ++ rest)), white_append white front are white_too, laid)

pub laid_join : (tokens more : Tokens) (before bytes : List ℕ) → Laid tokens before → Laid more bytes → Laid (tokens ++ more) (before ++ bytes)
laid_join [] more before bytes are later = laid_white before bytes more are later
laid_join (token ∷ tokens) more before bytes (white, rest, is, are, laid) later =
    (white, rest ++ bytes, ap (λ b. b ++ bytes) is ∙ append_more white (token ++ rest) bytes ∙ ap (λ b. white ++ b) (append_more token rest bytes), are, laid_join tokens more rest bytes laid later)

-- with nothing between them
abbrev pub flat : Tokens → List ℕ
flat [] = []
flat (token ∷ tokens) = token ++ flat tokens

pub flat_laid : (tokens : Tokens) → Laid tokens (flat tokens)
flat_laid [] = tt
flat_laid (token ∷ tokens) = ([], flat tokens, refl, tt, flat_laid tokens)

-- ---- what a fault strikes

-- the bytes end there
abbrev pub IsCut : Fault → Type 0
IsCut f = f.reason ≡ reasons.Truncated

-- a token of the fault's sort is called for where this is left, and there the fault stands
pub record IsBadPart (f : Fault) (bytes left token : List ℕ) : Type 0 where
  pub sort : IsSort f.reason token
  pub inside : ℕ
  pub stands : IsInside f.reason left inside
  pub unlike : IsUnlike f.reason left token
  pub there : drop f.place bytes ≡ drop inside left
  pub some : 1 ≤ length (drop inside left)

-- some bytes make what is left a whole word
abbrev pub Goes : (List ℕ → Type 0) → List ℕ → Type 0
Goes Is left = (more : List ℕ) × Is (left ++ more)

abbrev pub Struck : Fault → List ℕ → List ℕ → List ℕ → Type 0
Struck f bytes left token = (IsCut f × ((more : List ℕ) × (left ++ more ≡ token))) ⊎ IsBadPart f bytes left token

-- of these tokens, which stand from this place on, the fault strikes one
pub record Strikes (n : ℕ) (bytes : List ℕ) (f : Fault) (tokens : Tokens) : Type 0 where
  pub before : Tokens
  pub token : List ℕ
  pub later : Tokens
  pub are : tokens ≡ before ++ (token ∷ later)
  pub front : List ℕ
  pub left : List ℕ
  pub laid : Laid before front
  pub is : drop n bytes ≡ front ++ left
  pub solid : Apart is_white left
  pub struck : Struck f bytes left token

pub strikes_more : (n : ℕ) (bytes : List ℕ) (f : Fault) (tokens more : Tokens) → Strikes n bytes f tokens → Strikes n bytes f (tokens ++ more)
strikes_more n bytes f tokens more s =
    record { before = s.before; token = s.token; later = s.later ++ more; are = ap (λ t. t ++ more) s.are ∙ tokens_append s.before (s.token ∷ s.later) more; front = s.front; left = s.left; laid = s.laid; is = s.is; solid = s.solid; struck = s.struck }

-- right there
pub strikes_here : (n : ℕ) (bytes : List ℕ) (f : Fault) (token : List ℕ) → Apart is_white (drop n bytes) → Struck f bytes (drop n bytes) token → Strikes n bytes f (token ∷ [])
strikes_here n bytes f token solid s = record { before = []; token = token; later = []; are = refl; front = []; left = drop n bytes; laid = tt; is = refl; solid = solid; struck = s }

-- behind tokens that were read
pub behind_goes : (n past : ℕ) (tokens later : Tokens) (bytes : List ℕ) (f : Fault) → Carries n tokens bytes past → Strikes past bytes f later → Strikes n bytes f (tokens ++ later)
behind_goes n past tokens later bytes f carries s =
    let left = drop past bytes in
    let c = cut tokens (drop n bytes) left (carries left ([] ∷ []) (here left)) in
    record {
      before = tokens ++ s.before;
      token = s.token;
      later = s.later;
      are = ap (λ t. tokens ++ t) s.are ∙ sym (tokens_append tokens s.before (s.token ∷ s.later));
      front = c.0 ++ s.front;
      left = s.left;
      laid = laid_join tokens s.before c.0 s.front c.2 s.laid;
      is = c.1 ∙ ap (λ l. c.0 ++ l) s.is ∙ sym (append_more c.0 s.front s.left);
      solid = s.solid;
      struck = s.struck;
    }

-- behind marks that lead to a token
pub lead_goes : (marks later : Tokens) (bytes : List ℕ) (place : ℕ) (f : Fault) → ((tail token : List ℕ) (more : Tokens) → Lies tail (token ∷ more) (drop place bytes) → Lies tail (marks ++ (token ∷ more)) bytes) → Strikes place bytes f later → Strikes 0 bytes f (marks ++ later)
lead_goes marks later bytes place f leads s =
    let left = drop place bytes in
    let c = cut marks bytes left (leads left [] [] (here left)) in
    record {
      before = marks ++ s.before;
      token = s.token;
      later = s.later;
      are = ap (λ t. marks ++ t) s.are ∙ sym (tokens_append marks s.before (s.token ∷ s.later));
      front = c.0 ++ s.front;
      left = s.left;
      laid = laid_join marks s.before c.0 s.front c.2 s.laid;
      is = c.1 ∙ ap (λ l. c.0 ++ l) s.is ∙ sym (append_more c.0 s.front s.left);
      solid = s.solid;
      struck = s.struck;
    }

-- whitespace ends there
pub gap_solid : (n : ℕ) (bytes : List ℕ) → Apart is_white (drop (n + gap (drop n bytes)) bytes)
gap_solid n bytes = subst (Apart is_white) (drop-drop (gap (drop n bytes)) n bytes) (gap_apart (drop n bytes))

-- behind whitespace
pub gap_goes : (n : ℕ) (bytes : List ℕ) (f : Fault) (tokens : Tokens) → Strikes (n + gap (drop n bytes)) bytes f tokens → Strikes n bytes f tokens
gap_goes n bytes f tokens s =
    let g = gap_white (drop n bytes) in
    let there : drop (gap (drop n bytes)) (drop n bytes) ≡ s.front ++ s.left = drop-drop (gap (drop n bytes)) n bytes ∙ s.is in
    record {
      before = s.before;
      token = s.token;
      later = s.later;
      are = s.are;
      front = g.0 ++ s.front;
      left = s.left;
      laid = laid_white g.0 s.front s.before g.1 s.laid;
      is = g.2 ∙ ap (λ l. g.0 ++ l) there ∙ sym (append_more g.0 s.front s.left);
      solid = s.solid;
      struck = s.struck;
    }

-- ---- answers

abbrev blamed : {X : Type 0} → Fault → Scan X → Fault
blamed f (Ok x) = f
blamed f (Err g) = g

pub same_fault : {X : Type 0} → (f g : Fault) → is_fault {X = X} f ≡ is_fault g → f ≡ g
same_fault {X} f g e = ap (λ (s : Scan X). blamed f s) e

pub no_read : {X : Type 0} → (x : X × ℕ) (f : Fault) → is_read x ≡ is_fault f → ⊥
no_read x f e = absurd (cc)

pub bound_fault : {X Y : Type 0} → (scan : Scan X) (go : X × ℕ → Scan Y) (f : Fault) → (scan >>= go) ≡ is_fault f → (scan ≡ is_fault f) ⊎ ((x : X × ℕ) × (scan ≡ is_read x) × (go x ≡ is_fault f))
bound_fault (Ok x) go f e = inr (x, refl, e)
bound_fault {X} {Y} (Err g) go f e = inl (ap (λ h. is_fault h) (same_fault {X = Y} g f e))

pub either_fault : {X : Type 0} → (b : Bool) (one two : Scan X) (f : Fault) → cond b one two ≡ is_fault f → ((b ≡ true) × (one ≡ is_fault f)) ⊎ ((b ≡ false) × (two ≡ is_fault f))
either_fault true one two f e = inl (refl, e)
either_fault false one two f e = inr (refl, e)

-- the same so many bytes further on
abbrev pub Shown : ℕ → Fault → Fault → Type 0
Shown n g f = f ≡ record { place = n + g.place; reason = g.reason }

pub shifted_fault : {X : Type 0} → (n : ℕ) (scan : Scan X) (f : Fault) → shifted n scan ≡ is_fault f → (g : Fault) × (scan ≡ is_fault g) × Shown n g f
shifted_fault n (Ok x) f e = absurd (no_read _ f e)
shifted_fault {X} n (Err g) f e = (g, refl, sym (same_fault {X = X} (record { place = n + g.place; reason = g.reason }) f e))

pub same_reason : (n : ℕ) (g f : Fault) → Shown n g f → f.reason ≡ g.reason
same_reason n g f is = ap (λ (h : Fault). h.reason) is

-- a fault behind so many bytes
pub shown_struck : (n : ℕ) (g f : Fault) (bytes left token : List ℕ) → Shown n g f → Struck g (drop n bytes) left token → Struck f bytes left token
shown_struck n g f bytes left token is s = subst (λ h. Struck h bytes left token) (sym is) (of_struck s)
  where
    of_struck : Struck g (drop n bytes) left token → Struck (record { place = n + g.place; reason = g.reason }) bytes left token
    of_struck (inl c) = inl c
    of_struck (inr b) = inr (record { sort = b.sort; inside = b.inside; stands = b.stands; unlike = b.unlike; there = sym (drop-drop g.place n bytes) ∙ b.there; some = b.some })

pub shown_strikes : (n : ℕ) (g f : Fault) (bytes : List ℕ) (tokens : Tokens) → Shown n g f → Strikes 0 (drop n bytes) g tokens → Strikes n bytes f tokens
shown_strikes n g f bytes tokens is s =
    record { before = s.before; token = s.token; later = s.later; are = s.are; front = s.front; left = s.left; laid = s.laid; is = s.is; solid = s.solid; struck = shown_struck n g f bytes s.left s.token is s.struck }

-- what is wrong right there
pub bad_here : {X : Type 0} → (reason : Reason) (f : Fault) (bytes token : List ℕ) → IsInside reason bytes 0 × IsUnlike reason bytes token → IsSort reason token → 1 ≤ length bytes → fault {X = X} 0 reason ≡ is_fault f → Struck f bytes bytes token
bad_here {X} reason f bytes token here sort some e =
    subst (λ g. Struck g bytes bytes token) (same_fault {X = X} (record { place = 0; reason = reason }) f e) (inr (record { sort = sort; inside = 0; stands = here.0; unlike = here.1; there = refl; some = some }))

pub cut_here : {X : Type 0} → (place : ℕ) (f : Fault) (bytes more token : List ℕ) → bytes ++ more ≡ token → fault {X = X} place reasons.Truncated ≡ is_fault f → Struck f bytes bytes token
cut_here {X} place f bytes more token is e = inl (sym (ap (λ (g : Fault). g.reason) (same_fault {X = X} (record { place = place; reason = reasons.Truncated }) f e)), (more, is))

-- ---- scans of one word

-- a scan that is at fault strikes such a word
abbrev pub StrikesOne : {X : Type 0} → (List ℕ → Scan X) → (List ℕ → Type 0) → Type 0
StrikesOne scan Is = (bytes : List ℕ) (f : Fault) → scan bytes ≡ is_fault f → (token : List ℕ) × Is token × Struck f bytes bytes token

pub word_cut : {X : Type 0} → (scan : List ℕ → Scan X) (Is : List ℕ → Type 0) (n : ℕ) (bytes : List ℕ) (f : Fault) → StrikesOne scan Is → further n scan bytes ≡ is_fault f → (token : List ℕ) × Is token × Strikes n bytes f (token ∷ [])
word_cut scan Is n bytes f one e =
    let at = n + gap (drop n bytes) in
    let g = shifted_fault at (scan (drop at bytes)) f e in
    let w = one (drop at bytes) g.0 g.1 in
    (w.0, w.1, gap_goes n bytes f (w.0 ∷ []) (strikes_here at bytes f w.0 (gap_solid n bytes) (shown_struck at g.0 f bytes (drop at bytes) w.0 g.2 w.2)))

-- another scan so many bytes further on
pub further_cut : {X : Type 0} → (scan : List ℕ → Scan X) (n : ℕ) (bytes : List ℕ) (f : Fault) → further n scan bytes ≡ is_fault f → (at : ℕ) × (g : Fault) × (scan (drop at bytes) ≡ is_fault g) × Shown at g f × Apart is_white (drop at bytes) × ((tokens : Tokens) → Strikes at bytes f tokens → Strikes n bytes f tokens)
further_cut scan n bytes f e =
    let at = n + gap (drop n bytes) in
    let g = shifted_fault at (scan (drop at bytes)) f e in
    (at, g.0, g.1, g.2, gap_solid n bytes, λ tokens s. gap_goes n bytes f tokens s)

-- ---- marks

-- another byte stands there
pub unlike_mark : (x m : ℕ) (bytes : List ℕ) → (x == m) ≡ false → NoneStands (λ token. token ≡ mark m) (x ∷ bytes)
unlike_mark x m bytes other token rest is e = let same : x ≡ m = ap (λ l. cells_head l x) (e ∙ ap (λ t. t ++ rest) is) in grind (arith, nat_tests)
  where
    cells_head : List ℕ → ℕ → ℕ
    cells_head [] n = n
    cells_head (y ∷ ys) n = y

pub mark_struck : (m : ℕ) (bytes : List ℕ) (f : Fault) → mark_at m bytes ≡ is_fault f → Struck f bytes bytes (mark m)
unfolding mark_at
mark_struck m [] f e = cut_here {X = Unit {0}} 0 f [] (mark m) (mark m) refl e
mark_struck m (x ∷ bytes) f e = by_some (either_fault (nat_lt (length (x ∷ bytes)) 1) _ _ f e)
  where
    by_mark : (((x == m) ≡ true) × (is_read {X = Unit {0}} (tt, 1) ≡ is_fault f)) ⊎ (((x == m) ≡ false) × (fault {X = Unit {0}} 0 reasons.BadToken ≡ is_fault f)) → Struck f (x ∷ bytes) (x ∷ bytes) (mark m)
    by_mark (inl h) = absurd (no_read (tt, 1) f h.1)
    by_mark (inr h) = bad_here {X = Unit {0}} reasons.BadToken f (x ∷ bytes) (mark m) (refl, unlike_mark x m bytes h.0) (m, refl) (omega arith) h.1

    by_some : ((nat_lt (length (x ∷ bytes)) 1 ≡ true) × (fault {X = Unit {0}} 0 reasons.Truncated ≡ is_fault f)) ⊎ ((nat_lt (length (x ∷ bytes)) 1 ≡ false) × (cond (x == m) (is_read {X = Unit {0}} (tt, 1)) (fault {X = Unit {0}} 0 reasons.BadToken) ≡ is_fault f)) → Struck f (x ∷ bytes) (x ∷ bytes) (mark m)
    by_some (inl h) = absurd (let none = h.0 in grind (arith, nat_tests))
    by_some (inr h) = by_mark (either_fault (x == m) (is_read (tt, 1)) (fault 0 reasons.BadToken) f h.1)

pub mark_cut : (m n : ℕ) (bytes : List ℕ) (f : Fault) → further n (mark_at m) bytes ≡ is_fault f → Strikes n bytes f (mark m ∷ [])
mark_cut m n bytes f e =
    let at = n + gap (drop n bytes) in
    let g = shifted_fault at (mark_at m (drop at bytes)) f e in
    gap_goes n bytes f (mark m ∷ []) (strikes_here at bytes f (mark m) (gap_solid n bytes) (shown_struck at g.0 f bytes (drop at bytes) (mark m) g.2 (mark_struck m (drop at bytes) g.0 g.1)))
