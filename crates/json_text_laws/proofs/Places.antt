-- A string is whole pieces and what stands behind them: a closing quote, a front of a piece, or a fault.
use Rattle.std.proofs.Common.{◌≡◌, ℕ, zero, suc, ◌<◌, Bool, true, false, cond, List, [], ◌∷◌, ◌++◌, length, take, drop, Option, Some, None, refl, sym, ap, ◌∙◌, subst, arith, ◌⊎◌, inl, inr, length-append, length-take}
use Rattle.std.specs.Prelude.{nat_lt, ◌==◌, ◌&&◌}
use Rattle.std.specs.Str.{IsUtf8}
use Rattle.std.specs.Str.Lossy.{utf8_valid_len, utf8_error_len}
use Rattle.std.proofs.lemmas.List.{take-append-drop}
use Rattle.std.proofs.lemmas.Bool.Decides.{nat_tests}
use Rattle.std.proofs.lemmas.Str.{utf8_valid_len_le}
use Rattle.std.proofs.lemmas.List.{append-nil}
use lib.Utf8.{encodes}
use Rattle.json_text.specs.declared.scanned.Scan.{Scan}
use Rattle.json_text.specs.declared.scanned.Scan.TheVariants.{Whole, Short, Bad}
use Rattle.json_text.specs.Escape.{escape_at}
use Rattle.json_text.specs.Text.{is_plain, ends_early, escape_then, piece_then, run_then, pieces_at}
use Rattle.json_text.specs.Grammar.{Piece, piece_spelled, ArePieces, all_spelled}
use Rattle.json_text.proofs.Escapes.{taken_some, TakesSome}
use Rattle.json_text.proofs.Turns.{pieces_turn}
use Rattle.json_text_laws.proofs.Choices.{cond_true, cond_false, either_way}
use Rattle.json_text_laws.proofs.Parts.{All, Apart, parted, cut_len, append_more}
use Rattle.json_text_laws.proofs.Characters.{valid_front}
use Rattle.json_text_laws.proofs.Ends.{valid_behind_all}
use Rattle.json_text_laws.proofs.Strings.{stop_here, escape_on}
use Rattle.json_text_laws.proofs.Read.{plain_pieces, front_all, are_append, spelled_append, escaped, is_eq, both_true}
use Rattle.json_text_laws.proofs.Refused.{turn_by, run_is}
use Rattle.json_text_laws.proofs.Open.{Open, Told, character_open, escape_told}

-- what stands behind whole pieces
abbrev pub Stand : List ℕ → Type 0
Stand rest = ((more : List ℕ) × (rest ≡ 34 ∷ more)) ⊎ ((Open rest × (pieces_at rest ≡ Short)) ⊎ (pieces_at rest ≡ Bad 0))

pub record Fronted (bytes : List ℕ) : Type 0 where
  pub ps : List Piece
  pub rest : List ℕ
  pub are : ArePieces ps
  pub laid : bytes ≡ all_spelled ps ++ rest
  pub stands : Stand rest

further : (ps : List Piece) (spelled bytes : List ℕ) → ArePieces ps → spelled ≡ all_spelled ps → Fronted bytes → Fronted (spelled ++ bytes)
further ps spelled bytes are is f = record {
  ps = ps ++ f.ps;
  rest = f.rest;
  are = are_append ps f.ps are f.are;
  laid =
      ap (λ l. l ++ bytes) is ∙ ap (λ r. all_spelled ps ++ r) f.laid ∙ sym (append_more (all_spelled ps) (all_spelled f.ps) f.rest) ∙ ap (λ l. l ++ f.rest) (sym (spelled_append ps f.ps));
  stands = f.stands;
}

here : (bytes : List ℕ) → Stand bytes → Fronted bytes
here bytes s = record { ps = []; rest = bytes; are = tt; laid = refl; stands = s }

pub nothing_short : pieces_at [] ≡ Short
unfolding pieces_at run_then piece_then utf8_valid_len
nothing_short = refl

no_rest : (run rest : List ℕ) → (length run == length (run ++ rest)) ≡ true → rest ≡ []
no_rest run [] e = refl
no_rest run (x ∷ rest) e = let l = length-append run (x ∷ rest) in absurd (grind (arith, nat_tests))

early_none : (o : Option ℕ) → ends_early o ≡ true → o ≡ None
early_none None e = refl
early_none (Some n) e = absurd (cc)

open_run : (run : List ℕ) → utf8_valid_len run ≡ 0 → ends_early (utf8_error_len (drop (utf8_valid_len run) run)) ≡ true → Open run
open_run run none e = character_open run (early_none (utf8_error_len run) (ap (λ n. ends_early (utf8_error_len (drop n run))) (sym none) ∙ e)) none

piece_by : (x : ℕ) (rest : List ℕ) → piece_then pieces_at (x ∷ rest) ≡ cond (x == 34) (Whole [] 1) (cond (x == 92) (escape_then pieces_at (x ∷ rest) (escape_at (x ∷ rest))) (Bad 0))
unfolding piece_then
piece_by x rest = cond_false (nat_lt (length (x ∷ rest)) 1) Short _ (grind (arith, nat_tests))

abbrev Fronts : ℕ → Type 0
Fronts k = (bytes : List ℕ) → length bytes < k → Fronted bytes

module _ (k : ℕ) (fronts : Fronts k) where
  by_escape : (rest : List ℕ) → length (92 ∷ rest) < suc k → (scan : Scan ℕ) → escape_at (92 ∷ rest) ≡ scan → Told (92 ∷ rest) scan → TakesSome scan → Fronted (92 ∷ rest)
  by_escape rest less (Whole c t) e told some =
      let x = escaped rest c t e in
      let size = ap length x.spells ∙ length-append (piece_spelled x.piece) x.rest in
      let shorter : length x.rest < k = omega (arith, size, x.long, some, less) in
      subst Fronted (sym x.spells) (further (x.piece ∷ []) (piece_spelled x.piece) x.rest (x.is, tt) (sym (append-nil (piece_spelled x.piece))) (fronts x.rest shorter))
  by_escape rest less Short e told some = here (92 ∷ rest) (inr (inl (told, escape_on rest ∙ ap (escape_then pieces_at (92 ∷ rest)) e)))
  by_escape rest less (Bad q) e told some = here (92 ∷ rest) (inr (inr (escape_on rest ∙ ap (escape_then pieces_at (92 ∷ rest)) e ∙ ap Bad told)))

  at_stop : (rest : List ℕ) → length rest < suc k → Apart is_plain rest → Fronted rest
  at_stop [] less apart = here [] (inr (inl (inl refl, nothing_short)))
  at_stop (x ∷ rest) less apart = by_quote (either_way (x == 34)) (either_way (x == 92))
    where
      by_quote : ((x == 34) ≡ true) ⊎ ((x == 34) ≡ false) → ((x == 92) ≡ true) ⊎ ((x == 92) ≡ false) → Fronted (x ∷ rest)
      by_quote (inl e) f = here (x ∷ rest) (inl (rest, ap (λ y. y ∷ rest) (is_eq x 34 e)))
      by_quote (inr e) (inl f) =
          subst (λ y. Fronted (y ∷ rest)) (sym (is_eq x 92 f)) (by_escape rest less (escape_at (92 ∷ rest)) refl (escape_told rest) (taken_some (92 ∷ rest)))
      by_quote (inr e) (inr f) = here (x ∷ rest) (inr (inr (stop_here x rest apart ∙ piece_by x rest ∙ cond_false (x == 34) (Whole [] 1) _ e ∙ cond_false (x == 92) _ (Bad 0) f)))

  -- plain bytes in which no character begins
  at_break : (y : ℕ) (x rest : List ℕ) → All is_plain (y ∷ x) → Apart is_plain rest → utf8_valid_len (y ∷ x) ≡ 0 → Stand ((y ∷ x) ++ rest)
  at_break y x rest all apart none = by_test (either_way ended)
    where
      run : List ℕ
      run = y ∷ x

      ended : Bool
      ended = (length run == length (run ++ rest)) && ends_early (utf8_error_len (drop (utf8_valid_len run) run))

      unlike : (utf8_valid_len run == length run) ≡ false
      unlike = grind (arith, nat_tests)

      told : pieces_at (run ++ rest) ≡ cond ended Short (Bad (utf8_valid_len run))
      told = pieces_turn (run ++ rest) ∙ ap (turn_by pieces_at (run ++ rest)) (cut_len is_plain run rest all apart) ∙ run_is pieces_at run rest ∙ cond_false (utf8_valid_len run == length run) _ _ unlike

      by_test : (ended ≡ true) ⊎ (ended ≡ false) → Stand (run ++ rest)
      by_test (inl e) =
          let parts = both_true (length run == length (run ++ rest)) (ends_early (utf8_error_len (drop (utf8_valid_len run) run))) e in
          let whole : run ++ rest ≡ run = ap (λ r. run ++ r) (no_rest run rest parts.0) ∙ append-nil run in
          inr (inl (subst Open (sym whole) (open_run run none parts.1), told ∙ cond_true ended Short (Bad (utf8_valid_len run)) e))
      by_test (inr e) = inr (inr (told ∙ cond_false ended Short (Bad (utf8_valid_len run)) e ∙ ap Bad none))

  behind_text : (x rest : List ℕ) → length (x ++ rest) < suc k → All is_plain x → Apart is_plain rest → utf8_valid_len x ≡ 0 → Fronted (x ++ rest)
  behind_text [] rest less all apart none = at_stop rest less apart
  behind_text (y ∷ x) rest less all apart none = here ((y ∷ x) ++ rest) (at_break y x rest all apart none)

  one_turn : Fronts (suc k)
  one_turn bytes less = let p = parted is_plain bytes in subst Fronted (sym p.joined) (by_front p.front p.rest (omega (arith, ap length p.joined, less)) p.all p.apart)
    where
      by_front : (front rest : List ℕ) → length (front ++ rest) < suc k → All is_plain front → Apart is_plain rest → Fronted (front ++ rest)
      by_front front rest small all apart =
          let v = utf8_valid_len front in
          let cut = take-append-drop v front in
          let parts = front_all is_plain (take v front) (drop v front) (subst (All is_plain) (sym cut) all) in
          let text = plain_pieces (take v front) (valid_front front) parts.0 in
          let laid : front ++ rest ≡ take v front ++ (drop v front ++ rest) = ap (λ l. l ++ rest) (sym cut) ∙ append_more (take v front) (drop v front) rest in
          let size = ap length laid ∙ length-append (take v front) (drop v front ++ rest) in
          subst Fronted (sym laid) (further text.ps (take v front) (drop v front ++ rest) text.are text.spells
          (behind_text (drop v front) rest (omega (arith, size, small)) parts.1 apart (none_left front (valid_front front))))
        where
          none_left : (l : List ℕ) → IsUtf8 (take (utf8_valid_len l) l) → utf8_valid_len (drop (utf8_valid_len l) l) ≡ 0
          none_left l (cs, (s, is)) =
              let v = utf8_valid_len l in
              let x = drop v l in
              let laid : l ≡ encodes cs ++ x = sym (take-append-drop v l) ∙ ap (λ r. r ++ x) (sym is) in
              let size : length (encodes cs) ≡ v = omega (arith, ap length is, length-take v l, utf8_valid_len_le l) in
              omega (arith, size, ap utf8_valid_len laid, valid_behind_all cs x s)

fronts_below : (k : ℕ) → Fronts k
fronts_below zero bytes less = absurd (omega arith)
fronts_below (suc k) bytes less = one_turn k (fronts_below k) bytes less

pub fronted : (bytes : List ℕ) → Fronted bytes
fronted bytes = fronts_below (suc (length bytes)) bytes (omega arith)
