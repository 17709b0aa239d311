-- What is due of bytes that are held: some of a length, and the first of them.
use Rattle.std.proofs.Common.{◌≡◌, ◌⊎◌, inl, inr, ℕ, ◌+◌, ◌-◌, ◌<◌, ◌≤◌, min, List, [], ◌∷◌, ◌++◌, length, take, drop, refl, sym, ap, ◌∙◌, subst, arith, append-nil, length-append}
use Rattle.std.specs.Prelude.{nat_le, Bool, true, false}
use Rattle.std.proofs.lemmas.Bool.Decides.{nat_tests}
use Rattle.std.proofs.lemmas.List.{length-drop, length-take-le, take-append-le, drop-append-le, take_at, drop_at, drop-drop, drop-take, take-take}
use Rattle.std.proofs.Math.Seq.{take-append-add}
use Rattle.std.proofs.lemmas.Slice.{take-put_mid}
use borrow.Rule.Slice.PartMut.{put_mid}
use Rattle.gate_io.specs.Buffer.{Buffer}
use Rattle.gate_io.specs.Tails.{written_over}
use Rattle.gate_io.proofs.Tails.{cut_tail, cut_none}
use Rattle.gate_hub.specs.Hubs.{GotWithin}
use Rattle.gate_hub.specs.declared.hub.LinkGot.{LinkGot}
use Rattle.gate_hub.specs.declared.hub.LinkGot.TheVariants as got
use Rattle.stream_messages.specs.declared.framer.Due.{Due}
use Rattle.stream_messages.specs.declared.framer.Behind.TheVariants as behind
use Rattle.stream_messages.specs.Framing.{FramerState, due_bytes, IsIdle, EndsOpen}
use Rattle.stream_messages.specs.Filling.{Appends, count_of}

pub due_count : (due : Due) (held : List ℕ) → length due.head ≡ 4 → due.head_left ≤ 4 → due.left ≤ length held → length (due_bytes due held) ≡ due.head_left + due.left
due_count due held four head_left left =
    let a = length-append (drop (4 - due.head_left) due.head) (take due.left held) in
    let b = length-drop (4 - due.head_left) due.head in
    let c = length-take-le due.left held left in
    omega (arith, a, b, c, four, head_left)

no_bytes : (l : List ℕ) → length l ≡ 0 → l ≡ []
no_bytes [] e = refl
no_bytes (x ∷ l) e = absurd (omega (arith, e))

pub none_due : (due : Due) (held : List ℕ) → length due.head ≡ 4 → due.head_left ≤ 4 → due.left ≤ length held → due.head_left ≤ 0 → due.left ≤ 0 → due_bytes due held ≡ []
none_due due held four head_left left a b = no_bytes (due_bytes due held) (omega (arith, due_count due held four head_left left, a, b))

pub none_left : (due : Due) (held : List ℕ) → length due.head ≡ 4 → due.head_left ≤ 4 → due.left ≤ length held → due_bytes due held ≡ [] → due.left ≡ 0
none_left due held four head_left left e = omega (arith, due_count due held four head_left left, ap (λ (l : List ℕ). length l) e)

-- two pieces were laid one behind the other
pub laid : (head body into : List ℕ) (k : ℕ) → length head + length body ≤ length into → take (length head + length body) (put_mid (length head) k (head ++ drop (length head) into) body) ≡ head ++ body
laid head body into k within =
    let size : length (head ++ drop (length head) into) ≡ length head + length (drop (length head) into) = length-append head (drop (length head) into) in
    take-put_mid (length head) k (head ++ drop (length head) into) body (length head + length body) refl (omega (arith, size))
    ∙ ap (λ l. l ++ body) (take_at head (drop (length head) into) (length head) refl)

-- as much as has room: the head is whole, or nothing of the others is
pub room_for : (head_left left room h n : ℕ) → h ≡ min head_left room → n ≡ min left (room - h) → (h ≡ head_left) ⊎ (n ≡ 0)
room_for head_left left room h n is count = by (nat_le head_left room) refl
  where
    by : (b : Bool) → nat_le head_left room ≡ b → (h ≡ head_left) ⊎ (n ≡ 0)
    by true e = let le : head_left ≤ room = grind (arith, nat_tests) in inl (omega (arith, is, le))
    by false e = let lt : room < head_left = grind (arith, nat_tests) in inr (omega (arith, is, count, lt))

module _ (due : Due) (held : List ℕ) (four : length due.head ≡ 4) (head_left : due.head_left ≤ 4) (left : due.left ≤ length held) (h n : ℕ) (few : h ≤ due.head_left) (some : n ≤ due.left) where
  head_bytes : List ℕ
  head_bytes = drop (4 - due.head_left) due.head

  head_size : length (drop (4 - due.head_left) due.head) ≡ due.head_left
  head_size = omega (arith, length-drop (4 - due.head_left) due.head, four, head_left)

  pub first_due : (h ≡ due.head_left) ⊎ (n ≡ 0) → take (h + n) (due_bytes due held) ≡ take h (drop (4 - due.head_left) due.head) ++ take n held
  first_due (inl e) =
      let a : h + n ≡ length (drop (4 - due.head_left) due.head) + n = omega (arith, e, head_size) in
      let b : length (drop (4 - due.head_left) due.head) ≡ h = omega (arith, e, head_size) in
      ap (λ k. take k (due_bytes due held)) a
      ∙ (take-append-add (drop (4 - due.head_left) due.head) (take due.left held) n
      ∙ (ap (λ l. drop (4 - due.head_left) due.head ++ l) (take-take n due.left held some)
      ∙ ap (λ l. l ++ take n held) (sym (take_all_of (drop (4 - due.head_left) due.head) h b))))
    where
      take_all_of : (l : List ℕ) (k : ℕ) → length l ≡ k → take k l ≡ l
      take_all_of l k e = ap (λ z. take k z) (sym (append-nil l)) ∙ take_at l [] k e
  first_due (inr e) =
      let a : h + n ≡ h = omega (arith, e) in
      ap (λ k. take k (due_bytes due held)) a
      ∙ (take-append-le h (drop (4 - due.head_left) due.head) (take due.left held) (omega (arith, few, head_size))
      ∙ (sym (append-nil (take h (drop (4 - due.head_left) due.head)))
      ∙ ap (λ k. take h (drop (4 - due.head_left) due.head) ++ take k held) (sym e)))

  pub due_behind : (h ≡ due.head_left) ⊎ (n ≡ 0) → drop (4 - (due.head_left - h)) due.head ++ take (due.left - n) (drop n held) ≡ drop (h + n) (due_bytes due held)
  due_behind (inl e) =
      let none : drop (4 - (due.head_left - h)) due.head ≡ [] = no_bytes (drop (4 - (due.head_left - h)) due.head) (omega (arith, length-drop (4 - (due.head_left - h)) due.head, four, e)) in
      let cut : n + (due.left - n) ≡ due.left = omega (arith, some) in
      ap (λ l. l ++ take (due.left - n) (drop n held)) none
      ∙ (sym (drop-take n (due.left - n) held)
      ∙ (ap (λ k. drop n (take k held)) cut
      ∙ (ap (λ l. drop n l) (sym (drop_at (drop (4 - due.head_left) due.head) (take due.left held) h (omega (arith, e, head_size))))
      ∙ drop-drop n h (due_bytes due held))))
  due_behind (inr e) =
      let same : 4 - (due.head_left - h) ≡ (4 - due.head_left) + h = omega (arith, few, head_left) in
      let all : h + n ≡ h = omega (arith, e) in
      ap (λ k. drop k due.head ++ take (due.left - n) (drop n held)) same
      ∙ (ap (λ l. l ++ take (due.left - n) (drop n held)) (sym (drop-drop h (4 - due.head_left) due.head))
      ∙ (ap (λ k. drop h (drop (4 - due.head_left) due.head) ++ take (due.left - k) (drop k held)) e
      ∙ (ap (λ k. drop h (drop (4 - due.head_left) due.head) ++ take k held) (the_same due.left)
      ∙ (sym (drop-append-le h (drop (4 - due.head_left) due.head) (take due.left held) (omega (arith, few, head_size)))
      ∙ ap (λ k. drop k (due_bytes due held)) (sym all)))))
    where
      the_same : (n : ℕ) → n - 0 ≡ n
      the_same n = omega arith

  pub behind_due : drop (due.left - n) (drop n held) ≡ drop due.left held
  behind_due = let cut : n + (due.left - n) ≡ due.left = omega (arith, some) in drop-drop (due.left - n) n held ∙ ap (λ k. drop k held) cut

-- bytes that were read stand behind those that were held
pub filled : (a b : Buffer) (before into : List ℕ) (answer : LinkGot) → length into ≡ length before → GotWithin into answer
    → b ≡ record a { bytes = take (length a.bytes + count_of answer) (a.bytes ++ written_over before into) } → Appends a b answer into
filled a b before into (got.Bytes n) same within is =
    (within.0, within.1, is ∙ ap (λ (l : List ℕ). record a { bytes = l }) (cut_tail a.bytes before into (take n into) n same refl))
filled a b before into got.NotReady same within is = is ∙ ap (λ (l : List ℕ). record a { bytes = l }) (ap (λ k. take k (a.bytes ++ written_over before into)) (the_same (length a.bytes)) ∙ cut_none a.bytes before into)
  where
    the_same : (n : ℕ) → n + 0 ≡ n
    the_same n = omega arith
filled a b before into got.End same within is = is ∙ ap (λ (l : List ℕ). record a { bytes = l }) (ap (λ k. take k (a.bytes ++ written_over before into)) (the_same (length a.bytes)) ∙ cut_none a.bytes before into)
  where
    the_same : (n : ℕ) → n + 0 ≡ n
    the_same n = omega arith
filled a b before into got.Failed same within is = is ∙ ap (λ (l : List ℕ). record a { bytes = l }) (ap (λ k. take k (a.bytes ++ written_over before into)) (the_same (length a.bytes)) ∙ cut_none a.bytes before into)
  where
    the_same : (n : ℕ) → n + 0 ≡ n
    the_same n = omega arith

pub count_within : (into : List ℕ) (answer : LinkGot) → GotWithin into answer → count_of answer ≤ length into
count_within into (got.Bytes n) within = within.1
count_within into got.NotReady within = omega arith
count_within into got.End within = omega arith
count_within into got.Failed within = omega arith

-- an idle framer has room for more of the message
pub idle_room : (s : FramerState) → IsIdle s → s.behind ≡ behind.Messages → length s.fresh < s.limit
idle_room s idle b = (subst (λ b. EndsOpen s b) b idle.open_end).1

-- where nothing is due, all bytes that are held are fresh
pub all_fresh : (due : Due) (held : List ℕ) → length due.head ≡ 4 → due.head_left ≤ 4 → due.left ≤ length held → due_bytes due held ≡ [] → drop due.left held ≡ held
all_fresh due held four head_left left e = ap (λ k. drop k held) (none_left due held four head_left left e)
