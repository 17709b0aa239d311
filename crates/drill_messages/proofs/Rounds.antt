-- Messages one after another, what was written of them and what waits.
use Rattle.std.proofs.Common.{◌≡◌, ℕ, zero, suc, ◌+◌, ◌-◌, ◌*◌, ◌≤◌, List, [], ◌∷◌, ◌++◌, length, arith, refl, sym, ◌∙◌, ap, subst, Option, add-zero, zero-add, add-one}
use Rattle.std.proofs.Math.Nat.{suc-add}
use Rattle.std.proofs.lemmas.List.{append-nil}
use Rattle.std.specs.Io.KnownBytes.{Appends, append_known}
use Rattle.std.proofs.lemmas.Grind.{flat_map-append}
use Rattle.std.proofs.lemmas.List.Sums.{sum_by_push}
use Rattle.framed_transport.specs.Frames.{framed}
use Rattle.drill_messages.specs.declared.sizes.TheConstants.{MESSAGE_ROOM}
use Rattle.drill_messages.specs.declared.totals.Totals.{Totals}
use Rattle.drill_messages.specs.Messages.{Put, message, behind_message, messages_from, messages}
use Rattle.drill_messages.specs.Outcome.{stream_of, totals_of}
use Rattle.gate_io.specs.Fronts.{AppendsFront, Flushed}
use Rattle.drill_messages.specs.Spellings.{binary_of, compact_of, json_of}
use Rattle.drill_messages.specs.Rooms.{IsWithin, lengths_of, sum_of}
use Rattle.gate_io.proofs.Streams.{appends_on, appends_none, waiting_more, flush_kept, front_of_gathered, front_of_more, all_written, some_wait}

-- the state behind so many messages
abbrev pub behind_messages : ℕ → ℕ → ℕ
behind_messages zero s = s
behind_messages (suc n) s = behind_messages n (behind_message s)

behind_more : (n s : ℕ) → behind_messages (suc n) s ≡ behind_message (behind_messages n s)
behind_more zero s = refl
behind_more (suc n) s = behind_more n (behind_message s)

-- so many messages, and as many more
joined : (n m seq s : ℕ) → messages_from (n + m) seq s ≡ messages_from n seq s ++ messages_from m (seq + n) (behind_messages n s)
joined zero m seq s = ap (λ (k : ℕ). messages_from k seq s) (zero-add m) ∙ ap (λ (k : ℕ). messages_from m k s) (sym (add-zero seq))
joined (suc n) m seq s =
    ap (λ (k : ℕ). messages_from k seq s) (suc-add n m)
    ∙ ap (λ (ms : List Put). message seq s ∷ ms) (joined n m (seq + 1) (behind_message s) ∙ ap (λ (k : ℕ). messages_from n (seq + 1) (behind_message s) ++ messages_from m k (behind_messages n (behind_message s))) (omega arith))

one_more : (n s : ℕ) → messages_from (suc n) 0 s ≡ messages_from n 0 s ++ message n (behind_messages n s) ∷ []
one_more n s =
    ap (λ (k : ℕ). messages_from k 0 s) (sym (add-one n))
    ∙ (joined n 1 0 s ∙ ap (λ (k : ℕ). messages_from n 0 s ++ message k (behind_messages n s) ∷ []) (zero-add n))

-- what one message adds
stream_more : (ms : List Put) (m : Put) → stream_of (ms ++ m ∷ []) ≡ stream_of ms ++ framed (binary_of m)
stream_more ms m = flat_map-append (λ (x : Put). framed (binary_of x)) ms (m ∷ []) ∙ ap (λ (bytes : List ℕ). stream_of ms ++ bytes) (append-nil (framed (binary_of m)))

totals_more : (ms : List Put) (m : Put) → totals_of (ms ++ m ∷ []) ≡ sum_of (totals_of ms) (lengths_of m)
totals_more ms m =
    λ i. record {
      binary = sum_by_push (λ (x : Put). length (binary_of x)) ms m i;
      compact = sum_by_push (λ (x : Put). length (compact_of x)) ms m i;
      json = sum_by_push (λ (x : Put). length (json_of x)) ms m i;
    }

-- so many messages were made: their lengths, the state behind them, and what of their frames was written and waits
pub record Going (seed : ℕ) (before now : Option (List ℕ)) (n : ℕ) (totals : Totals) (state : ℕ) (waiting : List ℕ) : Type 0 where
  pub totals_are : totals ≡ totals_of (messages_from n 0 seed)
  pub state_is : state ≡ behind_messages n seed
  pub gathered : Appends before (append_known now waiting) (stream_of (messages_from n 0 seed))
  pub sent : List ℕ
  pub was_sent : Appends before now sent
  pub within : IsWithin totals (n * MESSAGE_ROOM)

pub going_from : (seed : ℕ) (written : Option (List ℕ)) (waiting : List ℕ) → waiting ≡ [] → Going seed written written 0 (record { binary = 0; compact = 0; json = 0 }) seed waiting
going_from seed written waiting none =
    record {
      totals_are = refl;
      state_is = refl;
      gathered = some_wait written written waiting [] none (appends_none written);
      sent = [];
      was_sent = appends_none written;
      within = record { binary = omega arith; compact = omega arith; json = omega arith };
    }

module _ (seed : ℕ) (before now : Option (List ℕ)) (n : ℕ) (totals : Totals) (state : ℕ) (waiting : List ℕ) (g : Going seed before now n totals state waiting) where
  pub going_flushed : (now' : Option (List ℕ)) (waiting' : List ℕ) → Flushed now waiting now' waiting' → Going seed before now' n totals state waiting'
  going_flushed now' waiting' f =
      record {
        totals_are = g.totals_are;
        state_is = g.state_is;
        gathered = flush_kept before now now' waiting waiting' _ g.gathered f;
        sent = g.sent ++ f.0;
        was_sent = appends_on before now now' g.sent f.0 g.was_sent f.1;
        within = g.within;
      }

  pub going_on : (totals' more : Totals) (state' : ℕ) (waiting' : List ℕ) → waiting' ≡ waiting ++ framed (binary_of (message n state)) → more ≡ lengths_of (message n state)
      → IsWithin more MESSAGE_ROOM → totals' ≡ sum_of totals more → state' ≡ behind_message state → Going seed before now (n + 1) totals' state' waiting'
  going_on totals' more state' waiting' waits long short both next =
      let made : message n state ≡ message n (behind_messages n seed) = ap (message n) g.state_is in
      let all : messages_from (suc n) 0 seed ≡ messages_from n 0 seed ++ message n state ∷ [] =
      one_more n seed ∙ ap (λ (m : Put). messages_from n 0 seed ++ m ∷ []) (sym made) in
      subst (λ (k : ℕ). Going seed before now k totals' state' waiting') (sym (add-one n)) (record {
        totals_are = both ∙ (ap (λ (t : Totals). sum_of t more) g.totals_are ∙ (ap (sum_of (totals_of (messages_from n 0 seed))) long
            ∙ (sym (totals_more (messages_from n 0 seed) (message n state)) ∙ ap totals_of (sym all))));
        state_is = next ∙ (ap behind_message g.state_is ∙ sym (behind_more n seed));
        gathered = subst (λ (bytes : List ℕ). Appends before (append_known now waiting') bytes) (sym (stream_more (messages_from n 0 seed) (message n state)) ∙ ap stream_of (sym all))
            (subst (λ (bytes : List ℕ). Appends before (append_known now bytes) (stream_of (messages_from n 0 seed) ++ framed (binary_of (message n state)))) (sym waits)
            (appends_on before (append_known now waiting) (append_known now (waiting ++ framed (binary_of (message n state)))) _ _ g.gathered (waiting_more now waiting (framed (binary_of (message n state))))));
        sent = g.sent;
        was_sent = g.was_sent;
        within = rw both (record {
          binary = omega (arith, g.within.binary, short.binary);
          compact = omega (arith, g.within.compact, short.compact);
          json = omega (arith, g.within.json, short.json);
        });
      })

  -- the output failed
  pub going_front : (now' : Option (List ℕ)) (count : ℕ) → n ≤ count → AppendsFront now now' waiting → AppendsFront before now' (stream_of (messages seed count))
  unfolding messages
  going_front now' count le f =
      let rest = messages_from (count - n) (0 + n) (behind_messages n seed) in
      let all : messages_from count 0 seed ≡ messages_from n 0 seed ++ rest =
      ap (λ (k : ℕ). messages_from k 0 seed) (omega (arith, le)) ∙ joined n (count - n) 0 seed in
      subst (λ (bytes : List ℕ). AppendsFront before now' bytes) (sym (ap stream_of all ∙ flat_map-append (λ (x : Put). framed (binary_of x)) (messages_from n 0 seed) rest))
      (front_of_more before now' (stream_of (messages_from n 0 seed)) (stream_of rest) (front_of_gathered before now now' waiting g.sent (stream_of (messages_from n 0 seed)) g.was_sent g.gathered f))

  -- all was written
  pub going_done : (now' : Option (List ℕ)) (count : ℕ) → n ≡ count → Appends now now' waiting → (totals ≡ totals_of (messages seed count)) × Appends before now' (stream_of (messages seed count))
  unfolding messages
  going_done now' count e w =
      subst (λ (k : ℕ). (totals ≡ totals_of (messages_from k 0 seed)) × Appends before now' (stream_of (messages_from k 0 seed))) e
      (g.totals_are, all_written before now now' waiting _ g.gathered w)
