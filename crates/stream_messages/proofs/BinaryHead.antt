-- A header of the Binary protocol, byte by byte.
use Rattle.std.proofs.Common.{◌≡◌, ℕ, zero, suc, ◌+◌, ◌-◌, ◌<◌, ◌≤◌, Bool, true, false, cond, List, [], ◌∷◌, length, take, drop, Ok, Err, refl, arith, sym, ap, ◌∙◌, length-drop}
use Rattle.std.specs.Prelude.{ℤ, Option, Some, None, nat_lt, nat_le, ◌==◌}
use Rattle.std.specs.Int.{w32}
use Rattle.std.proofs.lemmas.Bool.Decides.{nat_tests}
use Rattle.std.proofs.lemmas.List.{drop-drop}
use Rattle.gate_base.specs.Bytes.{AreBytes}
use Rattle.thrift_value.specs.declared.kind.MessageType.{MessageType}
use Rattle.protocol_traits.specs.declared.fault.Fault.{Fault}
use Rattle.protocol_traits.specs.Heads.{Header}
use Rattle.binary_protocol.specs.Codes.{type_of_code}
use Rattle.binary_protocol.specs.Scan.{Scan, cut, shifted, ◌>>=◌, signed_at, size_at, string_at, string_of}
use Rattle.binary_protocol.specs.Heads.{type_of, type_at, seq_at, version_at, strict_at, old_at, head_at}
use Rattle.stream_messages.specs.declared.scan.Wire.{Wire}
use Rattle.stream_messages.specs.declared.parts.Next.TheVariants as next
use Rattle.stream_messages.specs.declared.parts.Part.TheVariants as part
use Rattle.stream_messages.specs.declared.parts.BinaryPart.TheVariants as binary
use Rattle.stream_messages.specs.declared.parts.BinarySized.TheVariants as sizes
use Rattle.stream_messages.specs.Binary as of
use Rattle.stream_messages.specs.Feeding.{Ran, goes, short, wrong, behind, led, run}
use Rattle.stream_messages.proofs.Seen.{faulty, seen_head, is_cut, body_open}
use Rattle.stream_messages.proofs.Runs.{any_law, ran_any, size_law, size_run, first_size}
use Rattle.stream_messages.proofs.BinaryItems.{four}

-- so many bytes further on
abbrev pub later : ℕ → Ran → Ran
later n (goes nest size) = goes nest (size + n)
later n short = short
later n wrong = wrong

later_faulty : (n : ℕ) (f : Fault) (place : ℕ) → faulty (record { place = place; reason = f.reason }) ≡ later n (faulty f)
later_faulty n f place = by_test (is_cut f.reason)
  where
    by_test : (b : Bool) → cond b short wrong ≡ later n (cond b short wrong)
    by_test true = refl
    by_test false = refl

some_law : (wire : Wire) (n : ℕ) (bytes : List ℕ) → 0 < n → run wire bytes (part.Any n) body_open ≡ ran_any n bytes body_open
some_law wire zero bytes h = absurd (omega arith)
some_law wire (suc k) bytes h = any_law wire k bytes body_open

module _ (wire : Wire) where
  -- the sequence number, and the header made of it
  seq_behind : (bytes rest : List ℕ) (at : ℕ) (head : ℤ × ℕ → Header) → drop at bytes ≡ rest
      → seen_head (shifted at (seq_at (drop at bytes)) >>= λ s. Ok (head s, s.1)) ≡ later at (ran_any 4 rest body_open)
  unfolding seq_at
  seq_behind bytes rest at head e = rw e (by_test (nat_lt (length rest) 4))
    where
      by_test : (t : Bool) → seen_head (shifted at (cond t (cut rest) (Ok (signed_at w32 rest, 4))) >>= λ s. Ok (head s, s.1)) ≡ later at (cond t short (goes body_open 4))
      by_test true = refl
      by_test false = let n : at + 4 ≡ 4 + at = omega arith in ap (λ k. goes body_open k) n

  -- ---- the strict form

  name_strict : (b c d e : ℕ) (rest : List ℕ) (mtype : MessageType) (s : Scan ℕ) → ((x : ℕ × ℕ) → s ≡ Ok x → 4 ≤ length rest)
      → seen_head (shifted 4 (string_of rest s) >>= λ n. shifted n.1 (seq_at (drop n.1 (b ∷ c ∷ d ∷ e ∷ rest))) >>= λ s. Ok (record { name = n.0; mtype = mtype; seq = s.0 }, s.1))
      ≡ later 4 (size_run wire sizes.StrictName body_open rest s)
  unfolding of.sized
  name_strict b c d e rest mtype (Err f) h = later_faulty 4 f (4 + f.place)
  name_strict b c d e rest mtype (Ok (n, t)) h =
      let some : (n + 4 == 0) ≡ false = grind (arith, nat_tests) in
      rw some (by_test (h (n, t) refl) (nat_lt (length rest) (n + 4)) refl ∙ ap (λ r. later 4 (behind (behind (behind (behind r))))) (sym (some_law wire (n + 4) (drop 4 rest) (omega arith))))
    where
      by_test : 4 ≤ length rest → (t : Bool) → nat_lt (length rest) (n + 4) ≡ t
          → seen_head (shifted 4 (cond t (cut rest) (Ok (take n (drop 4 rest), n + 4))) >>= λ n. shifted n.1 (seq_at (drop n.1 (b ∷ c ∷ d ∷ e ∷ rest))) >>= λ s. Ok (record { name = n.0; mtype = mtype; seq = s.0 }, s.1))
          ≡ later 4 (behind (behind (behind (behind (ran_any (n + 4) (drop 4 rest) body_open)))))
      by_test long true p = let s : nat_lt (length (drop 4 rest)) (n + 4) ≡ true = let l = length-drop 4 rest in grind (arith, nat_tests) in rw s refl
      by_test long false p =
          seq_behind (b ∷ c ∷ d ∷ e ∷ rest) (drop (n + 4) rest) (4 + (n + 4)) (λ s. record { name = take n (drop 4 rest); mtype = mtype; seq = s.0 }) (ap (λ k. drop k (b ∷ c ∷ d ∷ e ∷ rest)) four_more)
          ∙ by_rest (nat_lt (length (drop (n + 4) rest)) 4) refl
        where
          four_more : 4 + (n + 4) ≡ suc (suc (suc (suc (n + 4))))
          four_more = omega arith

          by_rest : (t : Bool) → nat_lt (length (drop (n + 4) rest)) 4 ≡ t → later (4 + (n + 4)) (cond t short (goes body_open 4)) ≡ later 4 (behind (behind (behind (behind (ran_any (n + 4) (drop 4 rest) body_open)))))
          by_rest true q =
              let s : nat_lt (length (drop 4 rest)) (n + 4) ≡ true = let l = length-drop 4 rest in let m = length-drop (n + 4) rest in grind (arith, nat_tests) in
              rw s refl
          by_rest false q =
              let s : nat_lt (length (drop 4 rest)) (n + 4) ≡ false = let l = length-drop 4 rest in let m = length-drop (n + 4) rest in grind (arith, nat_tests) in
              let m : 4 + (4 + (n + 4)) ≡ n + 4 + 1 + 1 + 1 + 1 + 4 = omega arith in
              rw s (ap (λ k. goes body_open k) m)

  strict_law : (b : ℕ) (more : List ℕ) → AreBytes more → seen_head (strict_at (b ∷ more)) ≡ led (of.on_if (b == 128) binary.Version) body_open (run wire more)
  unfolding strict_at version_at type_at string_at of.step_of
  strict_law b [] are = by_tests (b == 128) refl
    where
      by_tests : (z : Bool) → (b == 128) ≡ z → seen_head (strict_at (b ∷ [])) ≡ led (of.on_if (b == 128) binary.Version) body_open (run wire [])
      by_tests true p = rw p refl
      by_tests false p = rw p refl
  strict_law b (c ∷ []) are = by_tests (b == 128) (c == 1) refl refl
    where
      by_tests : (z y : Bool) → (b == 128) ≡ z → (c == 1) ≡ y → seen_head (strict_at (b ∷ c ∷ [])) ≡ led (of.on_if (b == 128) binary.Version) body_open (run wire (c ∷ []))
      by_tests false y p q = rw p refl
      by_tests true true p q = rw (p, q) refl
      by_tests true false p q = rw (p, q) refl
  strict_law b (c ∷ d ∷ []) are = by_tests (b == 128) (c == 1) refl refl
    where
      by_tests : (z y : Bool) → (b == 128) ≡ z → (c == 1) ≡ y → seen_head (strict_at (b ∷ c ∷ d ∷ [])) ≡ led (of.on_if (b == 128) binary.Version) body_open (run wire (c ∷ d ∷ []))
      by_tests false y p q = rw p refl
      by_tests true true p q = rw (p, q) refl
      by_tests true false p q = rw (p, q) refl
  strict_law b (c ∷ d ∷ e ∷ rest) are = by_tests (grind (arith, nat_tests)) (grind (arith, nat_tests)) (grind (arith, nat_tests)) (b == 128) (c == 1) (type_of_code e) refl refl refl
    where
      named : (more : List ℕ) → AreBytes more → run wire more (part.Binary (binary.Size sizes.StrictName 4 0)) body_open ≡ size_run wire sizes.StrictName body_open more (size_at more)
      named more few = same more ∙ sym (size_law wire sizes.StrictName body_open more few)
        where
          same : (more : List ℕ) → run wire more (part.Binary (binary.Size sizes.StrictName 4 0)) body_open ≡ first_size wire sizes.StrictName body_open more
          same [] = refl
          same (x ∷ more) = refl

      by_tests : nat_lt (suc (suc (suc (suc (length rest))))) 2 ≡ false → nat_lt (suc (suc (suc (suc (length rest))))) 4 ≡ false → nat_lt (suc (length rest)) 1 ≡ false
          → (z y : Bool) (k : Option MessageType) → (b == 128) ≡ z → (c == 1) ≡ y → type_of_code e ≡ k
          → seen_head (strict_at (b ∷ c ∷ d ∷ e ∷ rest)) ≡ led (of.on_if (b == 128) binary.Version) body_open (run wire (c ∷ d ∷ e ∷ rest))
      by_tests two three one false y k p q r = rw p refl
      by_tests two three one true false k p q r = rw (two, p, q) refl
      by_tests two three one true true None p q r = rw (two, three, one, p, q, r) refl
      by_tests two three one true true (Some mtype) p q r =
          rw (two, three, one, p, q, r) (name_strict b c d e rest mtype (size_at rest) (λ x e. (four rest x e).0) ∙ four_behind (size_run wire sizes.StrictName body_open rest (size_at rest))
          ∙ ap (λ r. behind (behind (behind (behind r)))) (sym (named rest are.1.1.1)))
        where
          four_behind : (r : Ran) → later 4 r ≡ behind (behind (behind (behind r)))
          four_behind (goes nest n) = let m : n + 4 ≡ n + 1 + 1 + 1 + 1 = omega arith in ap (λ k. goes nest k) m
          four_behind short = refl
          four_behind wrong = refl

  -- ---- the old form

  type_behind : (bytes rest : List ℕ) (at : ℕ) (name : List ℕ) → drop at bytes ≡ rest
      → seen_head (shifted at (type_at (drop at bytes)) >>= λ t. shifted t.1 (seq_at (drop t.1 bytes)) >>= λ s. Ok (record { name = name; mtype = t.0; seq = s.0 }, s.1))
      ≡ later at (run wire rest (part.Binary binary.OldType) body_open)
  unfolding type_at of.step_of
  type_behind bytes [] at name e = rw e refl
  type_behind bytes (x ∷ rest) at name e = rw e (rw (one_there x rest) (by_type (type_of_code x)))
    where
      one_there : (b : ℕ) (more : List ℕ) → nat_lt (length (b ∷ more)) 1 ≡ false
      one_there b more = grind (arith, nat_tests)

      by_type : (k : Option MessageType)
          → seen_head (shifted at (type_of k) >>= λ t. shifted t.1 (seq_at (drop t.1 bytes)) >>= λ s. Ok (record { name = name; mtype = t.0; seq = s.0 }, s.1))
          ≡ later at (led (of.type_behind k (next.Part (part.Any 4))) body_open (run wire rest))
      by_type None = refl
      by_type (Some mtype) = seq_behind bytes rest (at + 1) (λ s. record { name = name; mtype = mtype; seq = s.0 }) (sym (drop-drop 1 at bytes) ∙ ap (λ l. drop 1 l) e)
          ∙ by_rest (nat_lt (length rest) 4) ∙ ap (λ r. later at (behind r)) (sym (any_law wire 3 rest body_open))
        where
          by_rest : (t : Bool) → later (at + 1) (cond t short (goes body_open 4)) ≡ later at (behind (cond t short (goes body_open 4)))
          by_rest true = refl
          by_rest false = let m : 4 + (at + 1) ≡ 4 + 1 + at = omega arith in ap (λ k. goes body_open k) m

  -- the bytes of the name
  name_run : (k : ℕ) (bytes : List ℕ) → run wire bytes (part.Binary (binary.OldName (suc k))) body_open
      ≡ cond (nat_lt (length bytes) (suc k)) short (later (suc k) (run wire (drop (suc k) bytes) (part.Binary binary.OldType) body_open))
  unfolding of.step_of
  name_run k [] = let t : nat_lt 0 (suc k) ≡ true = grind (arith, nat_tests) in rw t refl
  name_run zero (b ∷ more) =
      let t : nat_lt (suc (length more)) 1 ≡ false = grind (arith, nat_tests) in
      rw t (one_behind (run wire more (part.Binary binary.OldType) body_open))
    where
      one_behind : (r : Ran) → behind r ≡ later 1 r
      one_behind (goes nest n) = refl
      one_behind short = refl
      one_behind wrong = refl
  name_run (suc k) (b ∷ more) =
      let back : suc (suc k) - 1 ≡ suc k = omega arith in
      let some : (suc k == 0) ≡ false = grind (arith, nat_tests) in
      rw (back, some) (ap behind (name_run k more) ∙ by_test (run wire (drop (suc k) more) (part.Binary binary.OldType) body_open) (nat_lt (length more) (suc k)) refl)
    where
      one_later : (r : Ran) → behind (later (suc k) r) ≡ later (suc (suc k)) r
      one_later (goes nest n) = let m : n + suc k + 1 ≡ n + suc (suc k) = omega arith in ap (λ j. goes nest j) m
      one_later short = refl
      one_later wrong = refl

      by_test : (r : Ran) (t : Bool) → nat_lt (length more) (suc k) ≡ t → behind (cond t short (later (suc k) r)) ≡ cond (nat_lt (suc (length more)) (suc (suc k))) short (later (suc (suc k)) r)
      by_test r true e = let s : nat_lt (suc (length more)) (suc (suc k)) ≡ true = grind (arith, nat_tests) in rw s refl
      by_test r false e = let s : nat_lt (suc (length more)) (suc (suc k)) ≡ false = grind (arith, nat_tests) in rw s (one_later r)

  name_old : (bytes : List ℕ) (s : Scan ℕ) → ((x : ℕ × ℕ) → s ≡ Ok x → 4 ≤ length bytes)
      → seen_head (string_of bytes s >>= λ n. shifted n.1 (type_at (drop n.1 bytes)) >>= λ t. shifted t.1 (seq_at (drop t.1 bytes)) >>= λ s. Ok (record { name = n.0; mtype = t.0; seq = s.0 }, s.1))
      ≡ size_run wire sizes.OldName body_open bytes s
  unfolding of.sized
  name_old bytes (Err f) h = refl
  name_old bytes (Ok (zero, t)) h =
      let long : 4 ≤ length bytes = h (zero, t) refl in
      let s : nat_lt (length bytes) (0 + 4) ≡ false = grind (arith, nat_tests) in
      rw s (type_behind bytes (drop 4 bytes) 4 [] refl ∙ four_behind (run wire (drop 4 bytes) (part.Binary binary.OldType) body_open))
    where
      four_behind : (r : Ran) → later 4 r ≡ behind (behind (behind (behind r)))
      four_behind (goes nest n) = let m : n + 4 ≡ n + 1 + 1 + 1 + 1 = omega arith in ap (λ k. goes nest k) m
      four_behind short = refl
      four_behind wrong = refl
  name_old bytes (Ok (suc k, t)) h =
      let some : (suc k == 0) ≡ false = grind (arith, nat_tests) in
      rw some (by_test (h (suc k, t) refl) (nat_lt (length bytes) (suc k + 4)) refl ∙ ap (λ r. behind (behind (behind (behind r)))) (sym (name_run k (drop 4 bytes))))
    where
      again : (r : Ran) → later (suc k + 4) r ≡ behind (behind (behind (behind (later (suc k) r))))
      again (goes nest n) = let m : n + (suc k + 4) ≡ n + suc k + 1 + 1 + 1 + 1 = omega arith in ap (λ j. goes nest j) m
      again short = refl
      again wrong = refl

      by_test : 4 ≤ length bytes → (t : Bool) → nat_lt (length bytes) (suc k + 4) ≡ t
          → seen_head (cond t (cut bytes) (Ok (take (suc k) (drop 4 bytes), suc k + 4)) >>= λ n. shifted n.1 (type_at (drop n.1 bytes)) >>= λ t. shifted t.1 (seq_at (drop t.1 bytes)) >>= λ s. Ok (record { name = n.0; mtype = t.0; seq = s.0 }, s.1))
          ≡ behind (behind (behind (behind (cond (nat_lt (length (drop 4 bytes)) (suc k)) short (later (suc k) (run wire (drop (suc k) (drop 4 bytes)) (part.Binary binary.OldType) body_open))))))
      by_test long true e = let s : nat_lt (length (drop 4 bytes)) (suc k) ≡ true = let l = length-drop 4 bytes in grind (arith, nat_tests) in rw s refl
      by_test long false e =
          let s : nat_lt (length (drop 4 bytes)) (suc k) ≡ false = let l = length-drop 4 bytes in grind (arith, nat_tests) in
          let m : suc k + 4 ≡ 4 + suc k = omega arith in
          let d : drop (suc k + 4) bytes ≡ drop (suc k) (drop 4 bytes) = ap (λ j. drop j bytes) m ∙ sym (drop-drop (suc k) 4 bytes) in
          rw s (type_behind bytes (drop (suc k) (drop 4 bytes)) (suc k + 4) (take (suc k) (drop 4 bytes)) d ∙ again (run wire (drop (suc k) (drop 4 bytes)) (part.Binary binary.OldType) body_open))

  pub head_binary : (bytes : List ℕ) → AreBytes bytes → seen_head (head_at bytes) ≡ run wire bytes (part.Binary binary.Start) body_open
  unfolding head_at old_at string_at of.step_of of.begin
  head_binary [] are = refl
  head_binary (b ∷ more) are = let one : nat_lt (suc (length more)) 1 ≡ false = grind (arith, nat_tests) in rw one (by_form (nat_le 128 b) refl)
    where
      by_form : (t : Bool) → nat_le 128 b ≡ t → seen_head (cond t (strict_at (b ∷ more)) (old_at (b ∷ more)))
          ≡ led (cond (nat_lt b 128) (of.size_of sizes.OldName 4 0 b body_open) (of.on_if (b == 128) binary.Version, body_open)).0 (cond (nat_lt b 128) (of.size_of sizes.OldName 4 0 b body_open) (of.on_if (b == 128) binary.Version, body_open)).1 (run wire more)
      by_form true e = let f : nat_lt b 128 ≡ false = grind (arith, nat_tests) in rw f (strict_law b more are.1)
      by_form false e =
          let f : nat_lt b 128 ≡ true = grind (arith, nat_tests) in
          rw f (name_old (b ∷ more) (size_at (b ∷ more)) (λ x e. (four (b ∷ more) x e).0) ∙ size_law wire sizes.OldName body_open (b ∷ more) are)
