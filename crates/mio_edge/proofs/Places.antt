-- Which places of a table are free, and which a closed session gives up.
use Rattle.std.proofs.Common.{◌≡◌, ◌≢◌, ℕ, ◌<◌, List, [], ◌∷◌, ◌++◌, length, Option, None, Some, IsOk, Result, Ok, Err, refl, sym, ap, ◌∙◌, subst, arith}
use Rattle.std.specs.List.{slice_get}
use Rattle.std.specs.Result.{result_ok}
use Rattle.slab.specs.Slab.{Slab, get, with_value}
use Rattle.std.proofs.lemmas.List.{length-append}
use Rattle.mio_edge.specs.Connecting.{ConnectsPort, Connects, EachPortAt, HasPortAt, IsDeferredAt, IsDeferredIn}
use Rattle.mio_edge.specs.Sessions.{EachPort}
use Rattle.mio_edge.specs.declared.port.Port.{Port}
use Rattle.mio_edge.specs.declared.port.Sending.{Sending}
use Rattle.mio_edge.specs.declared.session.Session.{Session}
use Rattle.mio_edge.proofs.Entries.{some_same}
use Rattle.mio_edge.proofs.Turns.{put}

-- an insert that must succeed finds a place
pub refused : {E : Type 0} (Room : Type 0) (r : Result ℕ E) (o : Option ℕ) → o ≡ result_ok r → (Room → IsOk r) → o ≡ None → Room → ⊥
refused {E} Room r o is succeeds none room = by r (sym is ∙ none) (succeeds room)
  where
    by : (r : Result ℕ E) → result_ok r ≡ None → IsOk r → ⊥
    by (Ok n) e ok = absurd (cc)
    by (Err e') e ok = absurd (cc)

pub no_items : {X : Type 0} (xs : List X) → length xs ≡ 0 → xs ≡ []
no_items [] none = refl
no_items (x ∷ xs) none = absurd (omega (arith, none))

-- a list with one more has some
pub some_items : {X : Type 0} (xs ys : List X) (x : X) → ys ≡ xs ++ x ∷ [] → ys ≢ []
some_items xs ys x is none = absurd (omega (arith, ap length (sym is ∙ none), length-append xs (x ∷ [])))

pub no_none : {X : Type 0} (o : Option X) (x : X) → o ≡ Some x → o ≡ None → ⊥
no_none o x is none = by (sym none ∙ is)
  where
    by : None ≡ Some x → ⊥
    by e = absurd (cc)

module _ {S : Type 0} where
  -- the session that was put at a place
  pub put_there : (slab : Slab (Session S)) (place : ℕ) (a b session : Session S) → get slab place ≡ Some a → get (with_value slab place b) place ≡ Some session → b ≡ session
  put_there slab place a b session was is = some_same (get (with_value slab place b) place) b session (put slab place a b was).changed is

  pub each_at : (P : Port S → Type 0) (slab : Slab (Session S)) (place : ℕ) (a b : Session S) → get slab place ≡ Some a → EachPort P b.ports.items → EachPortAt P (with_value slab place b) place
  each_at P slab place a b was each session is = subst (λ (x : Session S). EachPort P x.ports.items) (put_there slab place a b session was is) each

  pub each_free : (P : Port S → Type 0) (slab : Slab (Session S)) (place : ℕ) → get slab place ≡ None → EachPortAt P slab place
  each_free P slab place none session is = absurd (no_none (get slab place) session is none)

  pub port_at : (slab : Slab (Session S)) (place port : ℕ) (a : Session S) → get slab place ≡ Some a → HasPortAt slab place port → port < length a.ports.items
  port_at slab place port a was (session, is, less) = subst (λ (x : Session S). port < length x.ports.items) (some_same (get slab place) session a is was) less

  pub connects_at : (stream : S) (begun : Sending) (slab : Slab (Session S)) (place port : ℕ) (a b : Session S) → get slab place ≡ Some a → ConnectsPort stream begun port a.ports.items b.ports.items → Connects stream begun place port slab (with_value slab place b)
  connects_at stream begun slab place port a b was connects x y is now =
      subst (λ (s : Session S). ConnectsPort stream begun port s.ports.items y.ports.items) (some_same (get slab place) a x was is)
      (subst (λ (s : Session S). ConnectsPort stream begun port a.ports.items s.ports.items) (put_there slab place a b y was now) connects)

  pub connects_none : (stream : S) (begun : Sending) (slab : Slab (Session S)) (place port : ℕ) → get slab place ≡ None → Connects stream begun place port slab slab
  connects_none stream begun slab place port none x y is now = absurd (no_none (get slab place) x is none)

  pub deferred_at : (slab : Slab (Session S)) (place port : ℕ) (a b : Session S) → get slab place ≡ Some a → IsDeferredIn (with_value slab place b) place port → IsDeferredAt (slice_get b.ports.items port)
  deferred_at slab place port a b was (session, is, deferred) = subst (λ (x : Session S). IsDeferredAt (slice_get x.ports.items port)) (sym (put_there slab place a b session was is)) deferred
