-- Where the scan of a string is bad, it is bad with more bytes behind.
use Rattle.std.proofs.Common.{◌≡◌, ℕ, zero, suc, ◌+◌, ◌≤◌, Bool, true, false, cond, List, [], ◌∷◌, ◌++◌, length, take, drop, refl, sym, ap, ◌∙◌, arith, ◌⊎◌, inl, inr, length-append, length-take}
use Rattle.std.specs.Prelude.{nat_lt, ◌==◌, ◌&&◌}
use Rattle.std.specs.List.{prefix_len}
use Rattle.std.specs.Char.{encode_utf8}
use Rattle.std.specs.Str.{IsUtf8}
use Rattle.std.specs.Str.Lossy.{utf8_valid_len, utf8_error_len}
use Rattle.std.proofs.lemmas.List.{take-append-drop}
use Rattle.std.proofs.lemmas.Bool.Decides.{nat_tests}
use Rattle.std.proofs.lemmas.Str.{utf8_valid_len_le}
use lib.Utf8.{encodes}
use Rattle.json_text.specs.declared.scanned.Scan.{Scan}
use Rattle.json_text.specs.declared.scanned.Scan.TheVariants.{Whole, Short, Bad}
use Rattle.json_text.specs.Scan.{moved}
use Rattle.json_text.specs.Escape.{escape_at}
use Rattle.json_text.specs.Text.{is_plain, behind, ends_early, escape_then, piece_then, run_then, turns, pieces_at, text_at}
use Rattle.json_text.specs.Laws.{EscapeFits, escape_fits}
use Rattle.json_text.proofs.Turns.{pieces_turn}
use Rattle.json_text_laws.proofs.Choices.{cond_true, cond_false, either_way}
use Rattle.json_text_laws.proofs.Parts.{All, Apart, parted, cut_len, all_append, drop_front, take_front, append_more}
use Rattle.json_text_laws.proofs.Characters.{valid_front}
use Rattle.json_text_laws.proofs.Read.{text_read}
use Rattle.json_text_laws.proofs.Ends.{fault_stays, still_none, valid_behind_all}
use Rattle.json_text_laws.proofs.Stays.{Stays, and_false, escape_stays}
use Rattle.json_text_laws.specs.Judged.{GoodText, NoneGood}

pub was_bad : (front : List ℕ) (n : ℕ) (scan : Scan (List ℕ)) (place : ℕ) → behind front n scan ≡ Bad place → (q : ℕ) × (scan ≡ Bad q) × (n + q ≡ place)
was_bad front n (Whole t a) place e = absurd (cc)
was_bad front n Short place e = absurd (cc)
was_bad front n (Bad q) place e = (q, refl, cc)

pub drop_more : (n : ℕ) (bytes more : List ℕ) → n ≤ length bytes → drop n (bytes ++ more) ≡ drop n bytes ++ more
drop_more zero bytes more h = refl
drop_more (suc n) [] more h = absurd (omega arith)
drop_more (suc n) (x ∷ bytes) more h = drop_more n bytes more (omega arith)

-- a broken run whose fault is no end of the bytes
broken_bad : (b : Bool) (v place : ℕ) → cond {A = Scan (List ℕ)} b Short (Bad v) ≡ Bad place → (b ≡ false) × (v ≡ place)
broken_bad true v place e = absurd (cc)
broken_bad false v place e = (refl, cc)

-- what is UTF-8 of a run stays so where the fault is there
valid_stays : (front more : List ℕ) → ends_early (utf8_error_len (drop (utf8_valid_len front) front)) ≡ false
    → (utf8_valid_len (front ++ more) ≡ utf8_valid_len front) × (ends_early (utf8_error_len (drop (utf8_valid_len front) (front ++ more))) ≡ false)
valid_stays front more fault = by_text (valid_front front)
  where
    v : ℕ
    v = utf8_valid_len front

    x : List ℕ
    x = drop v front

    by_text : IsUtf8 (take v front) → (utf8_valid_len (front ++ more) ≡ v) × (ends_early (utf8_error_len (drop v (front ++ more))) ≡ false)
    by_text (cs, (s, is)) =
        let laid : front ≡ encodes cs ++ x = sym (take-append-drop v front) ∙ ap (λ l. l ++ x) (sym is) in
        let size : length (encodes cs) ≡ v = omega (arith, ap length is, length-take v front, utf8_valid_len_le front) in
        let none : utf8_valid_len x ≡ 0 = omega (arith, size, ap utf8_valid_len laid, valid_behind_all cs x s) in
        let on : front ++ more ≡ encodes cs ++ (x ++ more) = ap (λ l. l ++ more) laid ∙ append_more (encodes cs) x more in (
          ap utf8_valid_len on ∙ valid_behind_all cs (x ++ more) s ∙ omega (arith, size, still_none x more none fault),
          ap (λ l. ends_early (utf8_error_len l)) (drop_more v front more (utf8_valid_len_le front)) ∙ fault_stays x more fault,
        )

abbrev pub Refuses : (List ℕ → Scan (List ℕ)) → Type 0
Refuses go = (bytes more : List ℕ) (place : ℕ) → go bytes ≡ Bad place → pieces_at (bytes ++ more) ≡ Bad place

module _ (go : List ℕ → Scan (List ℕ)) (refuses : Refuses go) where
  escape_refuses : (bytes more : List ℕ) (place : ℕ) (scan longer : Scan ℕ) → EscapeFits (length bytes) scan → Stays scan longer → escape_then go bytes scan ≡ Bad place → escape_then pieces_at (bytes ++ more) longer ≡ Bad place
  escape_refuses bytes more place (Whole c n) longer fits (inl s) e = absurd (cc)
  escape_refuses bytes more place (Whole c n) longer fits (inr s) e =
      let w = was_bad (encode_utf8 c) n (go (drop n bytes)) place e in
      ap (escape_then pieces_at (bytes ++ more)) s
      ∙ ap (behind (encode_utf8 c) n) (ap pieces_at (drop_more n bytes more fits.1) ∙ refuses (drop n bytes) more w.0 w.1) ∙ ap Bad w.2
  escape_refuses bytes more place Short longer fits s e = absurd (cc)
  escape_refuses bytes more place (Bad q) longer fits (inl s) e = absurd (cc)
  escape_refuses bytes more place (Bad q) longer fits (inr s) e = ap (escape_then pieces_at (bytes ++ more)) s ∙ e

  some_byte : (x : ℕ) (rest : List ℕ) → nat_lt (length (x ∷ rest)) 1 ≡ false
  some_byte x rest = grind (arith, nat_tests)

  piece_is : (on : List ℕ → Scan (List ℕ)) (x : ℕ) (rest : List ℕ) → piece_then on (x ∷ rest) ≡ cond (x == 34) (Whole [] 1) (cond (x == 92) (escape_then on (x ∷ rest) (escape_at (x ∷ rest))) (Bad 0))
  unfolding piece_then
  piece_is on x rest = cond_false (nat_lt (length (x ∷ rest)) 1) Short _ (some_byte x rest)

  by_cases : (a b : Bool) (s t : Scan (List ℕ)) (place : ℕ) → (s ≡ Bad place → t ≡ Bad place) → cond a (Whole [] 1) (cond b s (Bad 0)) ≡ Bad place → cond a (Whole [] 1) (cond b t (Bad 0)) ≡ Bad place
  by_cases true b s t place f e = absurd (cc)
  by_cases false true s t place f e = f e
  by_cases false false s t place f e = e

  piece_refuses : (x : ℕ) (rest more : List ℕ) (place : ℕ) → piece_then go (x ∷ rest) ≡ Bad place → piece_then pieces_at (x ∷ (rest ++ more)) ≡ Bad place
  piece_refuses x rest more place e =
      let bytes = x ∷ rest in
      piece_is pieces_at x (rest ++ more)
      ∙ by_cases (x == 34) (x == 92) _ _ place (λ s. escape_refuses bytes more place (escape_at bytes) (escape_at (bytes ++ more)) (escape_fits bytes) (escape_stays bytes more) s) (sym (piece_is go x rest) ∙ e)

  at_end : piece_then go [] ≡ Short
  unfolding piece_then
  at_end = refl

-- one turn: the run, by what stands behind it
abbrev pub turn_by : (List ℕ → Scan (List ℕ)) → List ℕ → ℕ → Scan (List ℕ)
turn_by go bytes r = run_then go bytes r (utf8_valid_len (take r bytes))

abbrev turns_once : (List ℕ → Scan (List ℕ)) → List ℕ → Scan (List ℕ)
turns_once go bytes = turn_by go bytes (prefix_len is_plain bytes)

pub run_is : (go : List ℕ → Scan (List ℕ)) (front rest : List ℕ) → turn_by go (front ++ rest) (length front)
    ≡ cond (utf8_valid_len front == length front) (behind front (length front) (piece_then go rest))
    (cond ((length front == length (front ++ rest)) && ends_early (utf8_error_len (drop (utf8_valid_len front) front))) Short (Bad (utf8_valid_len front)))
unfolding run_then
run_is go front rest =
    ap (λ f. cond (utf8_valid_len f == length front) (behind f (length front) (piece_then go (drop (length front) (front ++ rest))))
    (cond ((length front == length (front ++ rest)) && ends_early (utf8_error_len (drop (utf8_valid_len f) f))) Short (Bad (utf8_valid_len f)))) (take_front front rest)
    ∙ ap (λ l. cond (utf8_valid_len front == length front) (behind front (length front) (piece_then go l))
    (cond ((length front == length (front ++ rest)) && ends_early (utf8_error_len (drop (utf8_valid_len front) front))) Short (Bad (utf8_valid_len front)))) (drop_front front rest)

either_bad : (t : Bool) (a a2 b b2 : Scan (List ℕ)) (place : ℕ) → (a ≡ Bad place → a2 ≡ Bad place) → (b ≡ Bad place → b2 ≡ Bad place) → cond t a b ≡ Bad place → cond t a2 b2 ≡ Bad place
either_bad true a a2 b b2 place f g e = f e
either_bad false a a2 b b2 place f g e = g e

true_and : (a b : Bool) → a ≡ true → (a && b) ≡ false → b ≡ false
true_and true b p e = e
true_and false b p e = absurd (cc)

module _ (go : List ℕ → Scan (List ℕ)) (refuses : Refuses go) (front more : List ℕ) (place : ℕ) (all : All is_plain front) where
  abbrev n : ℕ
  n = length front

  abbrev v : ℕ
  v = utf8_valid_len front

  seam : (x : ℕ) (rest : List ℕ) → (length front == length (front ++ (x ∷ rest))) ≡ false
  seam x rest = let l = length-append front (x ∷ rest) in grind (arith, nat_tests)

  shut : (length front == length (front ++ [])) ≡ true
  shut = let l = length-append front [] in grind (arith, nat_tests)

  fault_bad : (x : ℕ) (rest : List ℕ) → cond {A = Scan (List ℕ)} ((length front == length (front ++ (x ∷ rest))) && ends_early (utf8_error_len (drop v front))) Short (Bad v) ≡ Bad v
  fault_bad x rest = ap (λ t. cond {A = Scan (List ℕ)} (t && ends_early (utf8_error_len (drop v front))) Short (Bad v)) (seam x rest)

  stop_refuses : (x : ℕ) (rest : List ℕ) → is_plain x ≡ false → turns_once go (front ++ (x ∷ rest)) ≡ Bad place → pieces_at ((front ++ (x ∷ rest)) ++ more) ≡ Bad place
  stop_refuses x rest apart e =
      let told = sym (run_is go front (x ∷ rest)) ∙ ap (turn_by go (front ++ (x ∷ rest))) (sym (cut_len is_plain front (x ∷ rest) all apart)) ∙ e in
      let on = front ++ (x ∷ (rest ++ more)) in
      ap pieces_at (append_more front (x ∷ rest) more) ∙ pieces_turn on ∙ ap (turn_by pieces_at on) (cut_len is_plain front (x ∷ (rest ++ more)) all apart) ∙ run_is pieces_at front (x ∷ (rest ++ more))
      ∙ either_bad (v == n) _ _ _ _ place
      (λ h. let w = was_bad front n (piece_then go (x ∷ rest)) place h in ap (behind front n) (piece_refuses go refuses x rest more w.0 w.1) ∙ ap Bad w.2)
      (λ h. fault_bad x (rest ++ more) ∙ sym (fault_bad x rest) ∙ h) told

  open_refuses : (new rest : List ℕ) → more ≡ new ++ rest → All is_plain new → Apart is_plain rest → (v == n) ≡ false → ends_early (utf8_error_len (drop v front)) ≡ false → v ≡ place → pieces_at (front ++ more) ≡ Bad place
  open_refuses new rest laid pass apart less fault is =
      let run = front ++ new in
      let kept = valid_stays front new fault in
      let same = kept.0 in
      let most = utf8_valid_len_le front in
      let long = length-append front new in
      let unlike : (utf8_valid_len run == length run) ≡ false = grind (arith, nat_tests) in
      let still : ends_early (utf8_error_len (drop (utf8_valid_len run) run)) ≡ false = ap (λ k. ends_early (utf8_error_len (drop k run))) same ∙ kept.1 in
      ap pieces_at (ap (λ l. front ++ l) laid ∙ sym (append_more front new rest)) ∙ pieces_turn (run ++ rest)
      ∙ ap (turn_by pieces_at (run ++ rest)) (cut_len is_plain run rest (all_append is_plain front new all pass) apart) ∙ run_is pieces_at run rest
      ∙ cond_false (utf8_valid_len run == length run) _ _ unlike
      ∙ cond_false ((length run == length (run ++ rest)) && ends_early (utf8_error_len (drop (utf8_valid_len run) run))) Short (Bad (utf8_valid_len run)) (and_false _ _ still)
      ∙ ap Bad (same ∙ is)

  end_refuses : turns_once go (front ++ []) ≡ Bad place → pieces_at ((front ++ []) ++ more) ≡ Bad place
  end_refuses e = by_test (either_way (v == n))
    where
      told : cond (v == n) (behind front n (piece_then go [])) (cond ((length front == length (front ++ [])) && ends_early (utf8_error_len (drop v front))) Short (Bad v)) ≡ Bad place
      told = sym (run_is go front []) ∙ ap (turn_by go (front ++ [])) (sym (cut_len is_plain front [] all tt)) ∙ e

      by_test : ((v == n) ≡ true) ⊎ ((v == n) ≡ false) → pieces_at ((front ++ []) ++ more) ≡ Bad place
      by_test (inl h) = let wrong : Short ≡ Bad place = sym (cond_true (v == n) _ _ h ∙ ap (behind front n) (at_end go refuses)) ∙ told in absurd (cc)
      by_test (inr h) =
          let b = broken_bad _ v place (sym (cond_false (v == n) _ _ h) ∙ told) in
          let q = parted is_plain more in
          ap pieces_at (append_more front [] more) ∙ open_refuses q.front q.rest q.joined q.all q.apart h (true_and _ _ shut b.0) b.1

turn_refuses : (go : List ℕ → Scan (List ℕ)) → Refuses go → Refuses (turns_once go)
turn_refuses go refuses bytes more place e =
    let p = parted is_plain bytes in
    ap (λ l. pieces_at (l ++ more)) p.joined ∙ by_rest p.front p.rest p.all p.apart (ap (turns_once go) (sym p.joined) ∙ e)
  where
    by_rest : (front rest : List ℕ) → All is_plain front → Apart is_plain rest → turns_once go (front ++ rest) ≡ Bad place → pieces_at ((front ++ rest) ++ more) ≡ Bad place
    by_rest front [] all apart h = end_refuses go refuses front more place all h
    by_rest front (x ∷ rest) all apart h = stop_refuses go refuses front more place all x rest apart h

turns_refuse : (k : ℕ) → Refuses (turns k)
turns_refuse zero bytes more place e = absurd (cc)
turns_refuse (suc k) bytes more place e = turn_refuses (turns k) (turns_refuse k) bytes more place e

pub pieces_refuse : Refuses pieces_at
unfolding pieces_at
pieces_refuse bytes more place e = turns_refuse (suc (length bytes)) bytes more place e

-- ---- with its opening quote

no_text : text_at [] ≡ Short
unfolding text_at
no_text = refl

some_text : (x : ℕ) (rest : List ℕ) → text_at (x ∷ rest) ≡ cond (x == 34) (moved 1 (pieces_at rest)) (Bad 0)
unfolding text_at
some_text x rest = cond_false (nat_lt (length (x ∷ rest)) 1) Short (cond (x == 34) (moved 1 (pieces_at rest)) (Bad 0)) (grind (arith, nat_tests))

pub moved_bad : (scan : Scan (List ℕ)) (place : ℕ) → moved 1 scan ≡ Bad place → (q : ℕ) × (scan ≡ Bad q) × (1 + q ≡ place)
moved_bad (Whole t a) place e = absurd (cc)
moved_bad Short place e = absurd (cc)
moved_bad (Bad q) place e = (q, refl, cc)

pub text_refuses : (bytes more : List ℕ) (place : ℕ) → text_at bytes ≡ Bad place → text_at (bytes ++ more) ≡ Bad place
text_refuses [] more place e = let wrong : Short ≡ Bad place = sym no_text ∙ e in absurd (cc)
text_refuses (x ∷ rest) more place e =
    some_text x (rest ++ more)
    ∙ either_bad (x == 34) _ _ _ _ place (λ h. let w = moved_bad (pieces_at rest) place h in ap (moved 1) (pieces_refuse rest more w.0 w.1) ∙ ap Bad w.2) (λ h. h) (sym (some_text x rest) ∙ e)

pub none_good : (bytes : List ℕ) (place : ℕ) → text_at bytes ≡ Bad place → NoneGood GoodText bytes
none_good bytes place e m k good = let wrong : Bad place ≡ Whole m k = sym e ∙ text_read bytes m k good in absurd (cc)
