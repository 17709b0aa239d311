-- The turns of a string.
use Rattle.std.proofs.Common.{◌≡◌, ℕ, zero, suc, ◌+◌, ◌-◌, ◌<◌, ◌≤◌, Bool, true, false, cond, List, [], ◌++◌, length, take, drop, refl, sym, ap, ◌∙◌, arith, length-drop, subst}
use Rattle.std.specs.Prelude.{◌==◌, nat_lt, slice_index}
use Rattle.std.proofs.lemmas.Bool.Decides.{nat_tests}
use Rattle.std.proofs.lemmas.List.{append_assoc, append-nil, drop-drop}
use Rattle.std.proofs.lemmas.Grind.{common_steps}
use Rattle.std.specs.List.{prefix_len}
use Rattle.std.specs.Char.{encode_utf8}
use Rattle.std.specs.Str.Lossy.{utf8_valid_len}
use Rattle.json_text.specs.declared.scanned.Scan.{Scan}
use Rattle.json_text.specs.declared.scanned.Scan.TheVariants.{Whole, Short, Bad}
use Rattle.json_text.specs.Scan.{moved}
use Rattle.json_text.specs.Escape.{escape_at}
use Rattle.json_text.specs.Text.{is_plain, behind, escape_then, piece_then, broken, run_then, turn, turns, pieces_at, text_at}
use Rattle.json_text.proofs.Escapes.{taken_some, TakesSome}

abbrev pub Go : Type 0
Go = List ℕ → Scan (List ℕ)

cond_else : {A : Type 0} (b : Bool) (x y z : A) → (b ≡ false → y ≡ z) → cond b x y ≡ cond b x z
cond_else true x y z h = refl
cond_else false x y z h = h refl

cond_then : {A : Type 0} (b : Bool) (x y z : A) → (b ≡ true → x ≡ y) → cond b x z ≡ cond b y z
cond_then true x y z h = h refl
cond_then false x y z h = refl

-- two ways on that agree on what is shorter
abbrev pub Agree : Go → Go → ℕ → Type 0
Agree go more size = (rest : List ℕ) → length rest < size → go rest ≡ more rest

escape_same : (go more : Go) (bytes : List ℕ) (scan : Scan ℕ) → TakesSome scan → 0 < length bytes → Agree go more (length bytes) → escape_then go bytes scan ≡ escape_then more bytes scan
escape_same go more bytes (Whole c n) some long agree = ap (behind _ n) (agree (drop n bytes) (omega (arith, some, length-drop n bytes)))
escape_same go more bytes Short some long agree = refl
escape_same go more bytes (Bad place) some long agree = refl

piece_same : (go more : Go) (bytes : List ℕ) → Agree go more (length bytes) → piece_then go bytes ≡ piece_then more bytes
unfolding piece_then
piece_same go more bytes agree =
    cond_else (nat_lt (length bytes) 1) _ _ _ (λ some. cond_else (slice_index bytes 0 == 34) _ _ _ (λ _.
    cond_then (slice_index bytes 0 == 92) _ _ _ (λ _.
    let long : 0 < length bytes = grind (arith, nat_tests) in
    escape_same go more bytes (escape_at bytes) (taken_some bytes) long agree)))

run_same : (go more : Go) (bytes : List ℕ) (run valid : ℕ) → Agree go more (length bytes) → run_then go bytes run valid ≡ run_then more bytes run valid
unfolding run_then
run_same go more bytes run valid agree =
    cond_then (valid == run) _ _ _ (λ _. ap (behind (take run bytes) run) (piece_same go more (drop run bytes) (λ rest short. agree rest (omega (arith, length-drop run bytes)))))

turns_same : (j k : ℕ) (bytes : List ℕ) → length bytes < j → length bytes < k → turns j bytes ≡ turns k bytes
turns_same zero k bytes p q = absurd (omega arith)
turns_same (suc j) zero bytes p q = absurd (omega arith)
turns_same (suc j) (suc k) bytes p q = run_same (turns j) (turns k) bytes _ _ (λ rest short. turns_same j k rest (omega arith) (omega arith))

-- the pieces of a string are one turn and the pieces of what follows
pub pieces_turn : (bytes : List ℕ) → pieces_at bytes ≡ turn pieces_at bytes
unfolding pieces_at
pieces_turn bytes = run_same (turns (length bytes)) pieces_at bytes _ _ (λ rest short. turns_same (length bytes) (suc (length rest)) rest short (omega arith))

pub behind-behind : (a b : List ℕ) (m n : ℕ) (scan : Scan (List ℕ)) → behind a m (behind b n scan) ≡ behind (a ++ b) (m + n) scan
behind-behind a b m n (Whole text after) = grind (arith, append_assoc {A = ℕ})
behind-behind a b m n Short = refl
behind-behind a b m n (Bad place) = grind arith

pub moved-moved : (m n : ℕ) (scan : Scan (List ℕ)) → moved m (moved n scan) ≡ behind [] (m + n) scan
moved-moved m n (Whole text after) = grind arith
moved-moved m n Short = refl
moved-moved m n (Bad place) = grind arith

-- so far: what stands in the room, and where the string goes on
pub record Going (bytes : List ℕ) (at from count : ℕ) (room : List ℕ) (length_of : ℕ) : Type 0 where
  pub same : moved at (text_at (drop at bytes)) ≡ behind (take count room) from (pieces_at (drop from bytes))
  pub most : from ≤ length bytes
  pub short : count + at + 1 ≤ from
  pub kept : length room ≡ length_of

behind-nothing : (n : ℕ) (scan : Scan (List ℕ)) → behind [] n scan ≡ moved n scan
behind-nothing n (Whole text after) = refl
behind-nothing n Short = refl
behind-nothing n (Bad place) = refl

text_quote : (bytes : List ℕ) → 0 < length bytes → slice_index bytes 0 ≡ 34 → text_at bytes ≡ moved 1 (pieces_at (drop 1 bytes))
unfolding text_at
text_quote bytes some quote = grind (arith, nat_tests)

no_text : (bytes : List ℕ) → 0 < length bytes → (slice_index bytes 0 ≡ 34 → ⊥) → text_at bytes ≡ Bad 0
unfolding text_at
no_text bytes some p = grind (arith, nat_tests)

pub begins : (bytes room : List ℕ) (at : ℕ) → at < length bytes → slice_index bytes at ≡ 34 → Going bytes at (at + 1) 0 room (length room)
begins bytes room at there quote = record {
  same =
      let first : slice_index (drop at bytes) 0 ≡ 34 = grind (arith, common_steps) in
      ap (moved at) (text_quote (drop at bytes) (omega (arith, length-drop at bytes)) first) ∙ moved-moved at 1 _ ∙ ap (λ rest. behind [] (at + 1) (pieces_at rest)) (drop-drop 1 at bytes);
  most = omega arith;
  short = omega arith;
  kept = refl;
}

valid_turn : (bytes : List ℕ) → utf8_valid_len (take (prefix_len is_plain bytes) bytes) ≡ prefix_len is_plain bytes
    → turn pieces_at bytes ≡ behind (take (prefix_len is_plain bytes) bytes) (prefix_len is_plain bytes) (piece_then pieces_at (drop (prefix_len is_plain bytes) bytes))
unfolding run_then
valid_turn bytes valid = grind (arith, nat_tests)

broken_turn : (bytes : List ℕ) → utf8_valid_len (take (prefix_len is_plain bytes) bytes) < prefix_len is_plain bytes
    → turn pieces_at bytes ≡ broken bytes (prefix_len is_plain bytes) (utf8_valid_len (take (prefix_len is_plain bytes) bytes))
unfolding run_then
broken_turn bytes less = grind (arith, nat_tests)

module _ (bytes room : List ℕ) (at from count size stop : ℕ) (going : Going bytes at from count room size) (is : stop ≡ from + prefix_len is_plain (drop from bytes)) where
  ends : prefix_len is_plain (drop from bytes) ≡ stop - from
  ends = omega arith

  turned : moved at (text_at (drop at bytes)) ≡ behind (take count room) from (turn pieces_at (drop from bytes))
  turned = going.same ∙ ap (behind (take count room) from) (pieces_turn (drop from bytes))

  -- a run that is no UTF-8
  pub breaks : utf8_valid_len (take (stop - from) (drop from bytes)) < stop - from
      → moved at (text_at (drop at bytes)) ≡ behind (take count room) from (broken (drop from bytes) (stop - from) (utf8_valid_len (take (stop - from) (drop from bytes))))
  breaks less =
      let P : ℕ → Type 0 = λ n. utf8_valid_len (take n (drop from bytes)) < n in
      turned ∙ ap (behind (take count room) from) (broken_turn (drop from bytes) (subst P (sym ends) less)
      ∙ ap (λ n. broken (drop from bytes) n (utf8_valid_len (take n (drop from bytes)))) ends)

  -- a run that is UTF-8
  pub passes : (new : List ℕ) → utf8_valid_len (take (stop - from) (drop from bytes)) ≡ stop - from → take (count + (stop - from)) new ≡ take count room ++ take (stop - from) (drop from bytes)
      → moved at (text_at (drop at bytes)) ≡ behind (take (count + (stop - from)) new) stop (piece_then pieces_at (drop stop bytes))
  passes new valid written =
      let P : ℕ → Type 0 = λ n. utf8_valid_len (take n (drop from bytes)) ≡ n in
      let far : from + (stop - from) ≡ stop = omega arith in
      let far2 : (stop - from) + from ≡ stop = omega arith in
      turned ∙ ap (behind (take count room) from) (valid_turn (drop from bytes) (subst P (sym ends) valid)
      ∙ ap (λ n. behind (take n (drop from bytes)) n (piece_then pieces_at (drop n (drop from bytes)))) ends)
      ∙ behind-behind (take count room) (take (stop - from) (drop from bytes)) from (stop - from) _
      ∙ ap (λ rest. behind (take count room ++ take (stop - from) (drop from bytes)) (from + (stop - from)) (piece_then pieces_at rest)) (drop-drop (stop - from) from bytes)
      ∙ ap (λ n. behind (take count room ++ take (stop - from) (drop from bytes)) n (piece_then pieces_at (drop n bytes))) far
      ∙ ap (λ front. behind front stop (piece_then pieces_at (drop stop bytes))) (sym written)

-- what stands at the place where a run stops
module _ (bytes : List ℕ) where
  pub at_end : length bytes ≡ 0 → piece_then pieces_at bytes ≡ Short
  unfolding piece_then
  at_end none = grind (arith, nat_tests)

  pub at_quote : 0 < length bytes → slice_index bytes 0 ≡ 34 → piece_then pieces_at bytes ≡ Whole [] 1
  unfolding piece_then
  at_quote some is = grind (arith, nat_tests)

  pub at_escape : 0 < length bytes → slice_index bytes 0 ≡ 92 → piece_then pieces_at bytes ≡ escape_then pieces_at bytes (escape_at bytes)
  unfolding piece_then
  at_escape some is = grind (arith, nat_tests)

  pub at_other : 0 < length bytes → (slice_index bytes 0 ≡ 34 → ⊥) → (slice_index bytes 0 ≡ 92 → ⊥) → piece_then pieces_at bytes ≡ Bad 0
  unfolding piece_then
  at_other some p q = grind (arith, nat_tests)

behind-Whole : (front : List ℕ) (n : ℕ) → behind front n (Whole [] 1) ≡ Whole front (n + 1)
behind-Whole front n = ap (λ f. Whole f (n + 1)) (append-nil front)

first_of_rest : (bytes : List ℕ) (stop : ℕ) → slice_index (drop stop bytes) 0 ≡ slice_index bytes stop
first_of_rest bytes stop = grind (arith, common_steps)

-- what was read up to a stop, and what stands there
module _ (w : Scan (List ℕ)) (front bytes : List ℕ) (stop : ℕ) (pass : w ≡ behind front stop (piece_then pieces_at (drop stop bytes))) where
  pub ended : length bytes ≡ stop → w ≡ Short
  ended e = pass ∙ ap (behind front stop) (at_end (drop stop bytes) (omega (arith, length-drop stop bytes)))

  pub quoted : stop < length bytes → slice_index bytes stop ≡ 34 → w ≡ Whole front (stop + 1)
  quoted there is = pass ∙ ap (behind front stop) (at_quote (drop stop bytes) (omega (arith, length-drop stop bytes)) (first_of_rest bytes stop ∙ is)) ∙ behind-Whole front stop

  pub other : stop < length bytes → (slice_index bytes stop ≡ 34 → ⊥) → (slice_index bytes stop ≡ 92 → ⊥) → w ≡ Bad stop
  other there p q =
      let none : stop + 0 ≡ stop = omega arith in
      pass ∙ ap (behind front stop) (at_other (drop stop bytes) (omega (arith, length-drop stop bytes)) (λ e. p (sym (first_of_rest bytes stop) ∙ e)) (λ e. q (sym (first_of_rest bytes stop) ∙ e))) ∙ ap Bad none

  pub escaped : stop < length bytes → slice_index bytes stop ≡ 92 → (scan : Scan ℕ) → scan ≡ escape_at (drop stop bytes) → w ≡ behind front stop (escape_then pieces_at (drop stop bytes) scan)
  escaped there is scan same = pass ∙ ap (behind front stop) (at_escape (drop stop bytes) (omega (arith, length-drop stop bytes)) (first_of_rest bytes stop ∙ is) ∙ ap (escape_then pieces_at (drop stop bytes)) (sym same))

pub onward : (w : Scan (List ℕ)) (front bytes new : List ℕ) (stop c taken count : ℕ) → w ≡ behind front stop (escape_then pieces_at (drop stop bytes) (Whole c taken)) → take count new ≡ front ++ encode_utf8 c
    → w ≡ behind (take count new) (stop + taken) (pieces_at (drop (stop + taken) bytes))
onward w front bytes new stop c taken count e written =
    e ∙ behind-behind front (encode_utf8 c) stop taken _
    ∙ ap (λ rest. behind (front ++ encode_utf8 c) (stop + taken) (pieces_at rest)) (drop-drop taken stop bytes)
    ∙ ap (λ f. behind f (stop + taken) (pieces_at (drop (stop + taken) bytes))) (sym written)

-- where no string begins
pub nothing_there : (bytes : List ℕ) (at : ℕ) → at ≡ length bytes → moved at (text_at (drop at bytes)) ≡ Short
unfolding text_at
nothing_there bytes at e = let none : length (drop at bytes) ≡ 0 = omega (arith, length-drop at bytes) in grind (arith, nat_tests)

pub no_quote : (bytes : List ℕ) (at : ℕ) → at < length bytes → (slice_index bytes at ≡ 34 → ⊥) → moved at (text_at (drop at bytes)) ≡ Bad at
no_quote bytes at there p =
    let none : at + 0 ≡ at = omega arith in
    ap (moved at) (no_text (drop at bytes) (omega (arith, length-drop at bytes)) (λ e. p (sym (first_of_rest bytes at) ∙ e))) ∙ ap Bad none
