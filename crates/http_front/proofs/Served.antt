-- What a call makes of a session's client.
use Rattle.std.proofs.Common.{◌≡◌, ℕ, ◌<◌, Bool, true, false, List, [], ◌++◌, length, take, get_or, Some, refl, sym, ap, ◌∙◌, subst, append-nil}
use Rattle.std.proofs.Math.ListN.{set}
use Rattle.gate_hub.specs.Meaning.{Link, Meaning}
use Rattle.gate_hub.specs.Hubs.{LinkReads, LinkWrites}
use Rattle.gate_hub.specs.declared.hub.LinkGot.{LinkGot}
use Rattle.gate_hub.specs.declared.hub.LinkGot.TheVariants as got
use Rattle.gate_hub.specs.declared.hub.LinkPut.{LinkPut}
use Rattle.gate_hub.specs.declared.hub.LinkPut.TheVariants as put
use Rattle.http_front.specs.declared.answers.Written.{Written}
use Rattle.http_front.specs.declared.answers.Written.TheVariants as written
use Rattle.http_front.specs.declared.slots.Given.{Given}
use Rattle.http_front.specs.declared.slots.Given.TheVariants as given
use Rattle.http_front.specs.declared.slots.Slot.{Slot}
use Rattle.http_front.specs.declared.stage.Stage.TheVariants as stage
use Rattle.http_front.specs.Fronts.{Front, Reading, Fits, is_answered}
use Rattle.http_front.specs.Moving.{Goes, Turns, TurnsGiven, TurnsWritten, carried, PutsOn, WritesOn}
use Rattle.http_front.specs.Slots.{Open, IsAt}
use Rattle.http_front.specs.Serving.{got_bytes, given_bytes, StandsGot, StandsBehind, Serves, GaveIn, MarksIf, WroteIn}
use Rattle.http_front.proofs.Clients.{not_both, not_true, goes_weaker}
use Rattle.http_front.proofs.Handing.{held_waits, unanswered_waits}
use Rattle.http_front.proofs.Places.{put_as_it_was, some_same}
use Rattle.std.specs.List.{slice_get}
use Rattle.std.proofs.lemmas.Option.{slice_get_read}
use Rattle.http_front.specs.Slots.{HasNone}

-- ---- reads

with_none : (r : Reading) (f : Front) (b : Link) (gave wrote : List ℕ) → Fits r f (carried b (gave ++ []) wrote) → Fits r f (carried b gave wrote)
with_none r f b gave wrote x = subst (λ (bytes : List ℕ). Fits r f (carried b bytes wrote)) (append-nil gave) x

serves_got : (r : Reading) (into : List ℕ) (answer : LinkGot) (slot slot' : Slot) → slot'.marked ≡ false → (slot.front.stage ≡ stage.Over → answer ≡ got.End) → StandsGot answer slot'.front
    → (a b : Link) → TurnsGiven r (got_bytes into answer) slot.front slot'.front a b → Serves r slot slot' (LinkReads into answer) a b
serves_got r into (got.Bytes n) slot slot' unmarked over stands a b turns outer w =
    let going : outer.ended ≡ false = not_true outer.ended (λ e. absurd (no_end (over (w.ended e)))) in (
      record outer { received = outer.received ++ take n into; last_read = Some (got.Bytes n) },
      (going, refl),
      record { fits = turns outer.received outer.sent w.fits; ended = λ e. absurd (not_both outer.ended e going); end_told = λ e. absurd (cc); waits = λ e. absurd (cc) },
    )
  where
    no_end : got.Bytes n ≡ got.End → ⊥
    no_end e = cc
serves_got r into got.NotReady slot slot' unmarked over stands a b turns outer w =
    let going : outer.ended ≡ false = not_true outer.ended (λ e. absurd (no_end (over (w.ended e)))) in (
      record outer { last_read = Some got.NotReady },
      (going, refl),
      record {
        fits = with_none r slot'.front b outer.received outer.sent (turns outer.received outer.sent w.fits);
        ended = λ e. absurd (not_both outer.ended e going);
        end_told = λ e. absurd (cc);
        waits = λ e m. stands;
      },
    )
  where
    no_end : got.NotReady ≡ got.End → ⊥
    no_end e = cc
serves_got r into got.End slot slot' unmarked over stands a b turns outer w = (
  record outer { ended = true; last_read = Some got.End },
  refl,
  record { fits = with_none r slot'.front b outer.received outer.sent (turns outer.received outer.sent w.fits); ended = λ e. stands; end_told = λ e. refl; waits = λ e. absurd (cc) },
)
serves_got r into got.Failed slot slot' unmarked over stands a b turns outer w =
    let going : outer.ended ≡ false = not_true outer.ended (λ e. absurd (no_end (over (w.ended e)))) in (
      record outer { last_read = Some got.Failed },
      (going, refl),
      record {
        fits = with_none r slot'.front b outer.received outer.sent (turns outer.received outer.sent w.fits);
        ended = λ e. absurd (not_both outer.ended e going);
        end_told = λ e. absurd (cc);
        waits = λ e. absurd (cc);
      },
    )
  where
    no_end : got.Failed ≡ got.End → ⊥
    no_end e = cc

-- a read of the session that has this slot
pub gave_in : (told told' : Meaning → Type 0) (r : Reading) (k : ℕ) (into : List ℕ) (answer : Given) (a b : Open) (at : ℕ) (slot slot' : Slot) → IsAt a.slots k at slot → slot'.number ≡ k → slot'.marked ≡ false → b ≡ record a { slots = set a.slots at slot' }
    → Goes told told' k (TurnsGiven r (given_bytes into answer) slot.front slot'.front) → (slot.front.stage ≡ stage.Over → answer ≡ given.Got got.End) → StandsBehind answer slot'.front → GaveIn told told' r k into answer a b
gave_in told told' r k into (given.Got answer) a b at slot slot' was number unmarked is goes over stands = record {
  at = at;
  slot = slot;
  slot_after = slot';
  was = was;
  number = number;
  is = is;
  goes = goes_weaker told told' k (TurnsGiven r (got_bytes into answer) slot.front slot'.front) (Serves r slot slot' (LinkReads into answer)) (serves_got r into answer slot slot' unmarked (λ e. same_answer (over e)) stands) goes;
}
  where
    answer_in : Given → LinkGot
    answer_in (given.Got x) = x
    answer_in given.Held = got.End
    answer_in given.Stray = got.End

    same_answer : given.Got answer ≡ given.Got got.End → answer ≡ got.End
    same_answer e = ap answer_in e
gave_in told told' r k into given.Held a b at slot slot' was number unmarked is goes over stands = record {
  at = at;
  slot = slot;
  slot_after = slot';
  was = was;
  number = number;
  is = is;
  goes = goes_weaker told told' k (TurnsGiven r [] slot.front slot'.front) (Serves r slot slot' (LinkReads into got.NotReady)) (serves_got r into got.NotReady slot slot' unmarked (λ e. absurd (no_end (over e))) (held_waits slot'.front.stage slot'.front.input stands)) goes;
}
  where
    no_end : given.Held ≡ given.Got got.End → ⊥
    no_end e = cc
gave_in told told' r k into given.Stray a b at slot slot' was number unmarked is goes over stands = absurd stands

-- ---- writes

serves_put : (r : Reading) (from : List ℕ) (answer : LinkPut) (slot slot' : Slot) → (slot.front.stage ≡ stage.Over → ⊥) → (slot'.marked ≡ false → is_answered slot'.front.stage ≡ false)
    → (told told' : Meaning → Type 0) (k : ℕ) → PutsOn told told' k slot.front slot'.front from answer → Goes told told' k (Serves r slot slot' (LinkWrites from answer))
serves_put r from (put.Took n) slot slot' over marked told told' k puts =
    goes_weaker told told' k (TurnsWritten (take n from) slot.front slot'.front) (Serves r slot slot' (LinkWrites from (put.Took n))) (λ a b turns outer w. (
      record outer { sent = outer.sent ++ take n from; last_write = Some (put.Took n) },
      refl,
      record {
        fits = turns r outer.received outer.sent w.fits;
        ended = λ e. absurd (over (w.ended e));
        end_told = w.end_told;
        waits = λ e m. unanswered_waits slot'.front.stage slot'.front.input (marked m);
      },
    )) puts
serves_put r from put.NotReady slot slot' over marked told told' k puts =
    goes_weaker told told' k (Turns slot.front slot'.front) (Serves r slot slot' (LinkWrites from put.NotReady)) (λ a b turns outer w. (
      record outer { last_write = Some put.NotReady },
      refl,
      record {
        fits = turns r outer.received outer.sent w.fits;
        ended = λ e. absurd (over (w.ended e));
        end_told = w.end_told;
        waits = λ e m. unanswered_waits slot'.front.stage slot'.front.input puts.1;
      },
    )) puts.0
serves_put r from put.Failed slot slot' over marked told told' k puts =
    goes_weaker told told' k (Turns slot.front slot'.front) (Serves r slot slot' (LinkWrites from put.Failed)) (λ a b turns outer w. (
      record outer { last_write = Some put.Failed },
      refl,
      record {
        fits = turns r outer.received outer.sent w.fits;
        ended = λ e. absurd (over (w.ended e));
        end_told = w.end_told;
        waits = λ e m. unanswered_waits slot'.front.stage slot'.front.input puts.1;
      },
    )) puts.0

pub wrote_in : (told told' : Meaning → Type 0) (r : Reading) (k : ℕ) (from : List ℕ) (answer : Written) (a b : Open) (at : ℕ) (slot slot' : Slot) → IsAt a.slots k at slot → slot'.number ≡ slot.number → b ≡ record a { slots = set a.slots at slot' }
    → MarksIf answer slot slot' → WritesOn told told' k slot.front slot'.front from answer → (slot.front.stage ≡ stage.Over → answer ≡ written.Stray) → WroteIn told told' r k from answer a b
wrote_in told told' r k from (written.Put answer) a b at slot slot' was number is marks writes over = record {
  at = at;
  slot = slot;
  slot_after = slot';
  was = was;
  number = number ∙ was.number;
  is = is;
  goes = serves_put r from answer slot slot' (λ e. no_stray (over e)) (λ m. unanswered answer marks writes.1 m) told told' k writes.1;
}
  where
    no_stray : written.Put answer ≡ written.Stray → ⊥
    no_stray e = cc

    unanswered : (answer : LinkPut) → MarksIf (written.Put answer) slot slot' → PutsOn told told' k slot.front slot'.front from answer → slot'.marked ≡ false → is_answered slot'.front.stage ≡ false
    unanswered (put.Took n) marks puts m = sym marks ∙ m
    unanswered put.NotReady marks puts m = puts.1
    unanswered put.Failed marks puts m = puts.1
wrote_in told told' r k from written.Stray a b at slot slot' was number is marks writes over =
    is ∙ (ap (λ (s : Slot). record a { slots = set a.slots at s }) same ∙ ap (λ (xs : List Slot). record a { slots = xs }) (put_as_it_was a.slots at slot was.is))
  where
    same : slot' ≡ slot
    same =
        ap (λ (n : ℕ). record { number = n; marked = slot'.marked; front = slot'.front }) number
        ∙ (ap (λ (m : Bool). record { number = slot.number; marked = m; front = slot'.front }) marks ∙ ap (λ (f : Front). record { number = slot.number; marked = slot.marked; front = f }) writes.0)

-- ---- a slot that was found

pub is_read : (slots : List Slot) (number at : ℕ) (slot found : Slot) → at < length slots → slot ≡ get_or slots at slot → IsAt slots number at found → IsAt slots number at slot
is_read slots number at slot found within read is =
    let got : slice_get slots at ≡ Some slot = slice_get_read slots (length slots) at slot refl within read in
    record { is = got; number = ap (λ (s : Slot). s.number) (some_same (slice_get slots at) slot found got is.is) ∙ is.number }

pub has_found : (slots xs : List Slot) (k at : ℕ) → xs ≡ slots → ((slot : Slot) × IsAt xs k at slot) → HasNone slots k → ⊥
has_found slots xs k at same found none = none at found.0 (subst (λ (xs : List Slot). IsAt xs k at found.0) same found.1)
