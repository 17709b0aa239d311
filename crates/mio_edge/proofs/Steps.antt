-- The turns that the sessions of a table have had, one after another.
use Rattle.std.proofs.Common.{◌≡◌, ◌≢◌, ℕ, ◌⊎◌, inl, inr, List, [], ◌∷◌, ◌++◌, append_assoc, true, None, Some, sym, ap, ◌∙◌, subst}
use Rattle.slab.specs.Slab.{Slab, get, with_value}
use Rattle.mio_edge.specs.Closing.{HoldsFlushed, OthersStay}
use Rattle.mio_edge.specs.Steps.{HadTurns, TakesTurns, StaysShut}
use Rattle.mio_edge.specs.Tables.{IsClosedAt}
use Rattle.mio_edge.specs.Turns.{Has}
use Rattle.mio_edge.specs.declared.session.Session.{Session}
use Rattle.mio_edge.specs.declared.table.Table.{Table}
use Rattle.mio_edge.proofs.Closing.{flushed_none, not_shut}
use Rattle.mio_edge.proofs.Entries.{some_same}
use Rattle.mio_edge.proofs.Sessions.{decide}
use Rattle.mio_edge.proofs.Turns.{has_or, has_either, has_left, has_right, put}

-- nothing was done to the sessions
pub no_turn : {S : Type 0} (a b : Table S) → a.ready.places.items ≡ b.ready.places.items → b.sessions ≡ a.sessions → TakesTurns a b
no_turn {S} a b taken same = (
  [],
  record {
    taken = taken;
    sent = λ place has closed. absurd has;
    shut = λ place closed. inl (subst (λ (slab : Slab (Session S)). IsClosedAt slab place) (sym same) closed);
    free = λ place none. subst (λ (slab : Slab (Session S)). get slab place ≡ None) (sym same) none;
    others = λ place off. ap (λ (slab : Slab (Session S)). get slab place) same;
  },
)

-- the first session has had its turn
pub one_turn : {S : Type 0} (place : ℕ) (a b : Table S) → a.ready.places.items ≡ place ∷ b.ready.places.items → OthersStay place a.sessions b.sessions → StaysShut place a.sessions b.sessions → (IsClosedAt a.sessions place → HoldsFlushed b.sessions place) → TakesTurns a b
one_turn {S} place a b taken others stays sent = (
  place ∷ [],
  record {
    taken = taken;
    sent = λ q has closed. at q has closed;
    shut = λ q closed. shut q (decide q place) closed;
    free = λ q none. free q (decide q place) none;
    others = λ q off. others.at q (λ same. off (inl (sym same)));
  },
)
  where
    at : (q : ℕ) → Has (place ∷ []) q → IsClosedAt a.sessions q → HoldsFlushed b.sessions q
    at q (inl e) closed = subst (λ r. HoldsFlushed b.sessions r) e (sent (subst (λ r. IsClosedAt a.sessions r) (sym e) closed))
    at q (inr none) closed = absurd none

    shut : (q : ℕ) → (q ≡ place) ⊎ (q ≢ place) → IsClosedAt a.sessions q → IsClosedAt b.sessions q ⊎ (get b.sessions q ≡ None)
    shut q (inl e) closed = subst (λ r. IsClosedAt b.sessions r ⊎ (get b.sessions r ≡ None)) (sym e) (stays.shut (subst (λ r. IsClosedAt a.sessions r) e closed))
    shut q (inr off) (session, is, closed) = inl (session, others.at q off ∙ is, closed)

    free : (q : ℕ) → (q ≡ place) ⊎ (q ≢ place) → get a.sessions q ≡ None → get b.sessions q ≡ None
    free q (inl e) none = subst (λ r. get b.sessions r ≡ None) (sym e) (stays.free (subst (λ r. get a.sessions r ≡ None) e none))
    free q (inr off) none = others.at q off ∙ none

-- the sessions are the same: none stands at the place of the first one
pub lost_turn : {S : Type 0} (place : ℕ) (a b : Table S) → a.ready.places.items ≡ place ∷ b.ready.places.items → b.sessions ≡ a.sessions → get a.sessions place ≡ None → TakesTurns a b
lost_turn {S} place a b taken same none =
    one_turn place a b taken (record { at = λ q off. ap (λ (slab : Slab (Session S)). get slab q) same }) (record { shut = λ closed. inr now; free = λ before. now }) (λ closed. flushed_none b.sessions place now)
  where
    now : get b.sessions place ≡ None
    now = ap (λ (slab : Slab (Session S)). get slab place) same ∙ none

-- the first session is open
pub open_turn : {S : Type 0} (place : ℕ) (a b : Table S) (x y : Session S) → a.ready.places.items ≡ place ∷ b.ready.places.items → get a.sessions place ≡ Some x → x.is_open ≡ true → b.sessions ≡ with_value a.sessions place y → TakesTurns a b
open_turn {S} place a b x y taken was is_open now =
    one_turn place a b taken (record { at = λ q off. ap (λ (slab : Slab (Session S)). get slab q) now ∙ (put a.sessions place x y was).others q off })
    (record { shut = λ closed. absurd (not_shut a.sessions place x was is_open closed); free = λ none. absurd (no_session (sym none ∙ was)) })
    (λ closed. absurd (not_shut a.sessions place x was is_open closed))
  where
    no_session : None ≡ Some x → ⊥
    no_session e = absurd (cc)

-- ---- several turns

turns_further : {S : Type 0} (f g : List ℕ) (a b c : Table S) → HadTurns f a b → HadTurns g b c → HadTurns (f ++ g) a c
turns_further {S} f g a b c first second = record {
  taken = first.taken ∙ (ap (λ xs. f ++ xs) second.taken ∙ sym (append_assoc f g c.ready.places.items));
  sent = λ place has closed. sent place (has_or place g) has closed (first.shut place closed);
  shut = λ place closed. shut place (first.shut place closed);
  free = λ place none. second.free place (first.free place none);
  others = λ place off. second.others place (λ has. off (has_right f g place has)) ∙ first.others place (λ has. off (has_left f g place has));
}
  where
    in_first : (place : ℕ) → (Has g place → ⊥) → Has f place ⊎ Has g place → Has f place
    in_first place off (inl has) = has
    in_first place off (inr has) = absurd (off has)

    sent : (place : ℕ) → Has g place ⊎ (Has g place → ⊥) → Has (f ++ g) place → IsClosedAt a.sessions place → IsClosedAt b.sessions place ⊎ (get b.sessions place ≡ None) → HoldsFlushed c.sessions place
    sent place (inl has) both closed (inl still) = second.sent place has still
    sent place (inl has) both closed (inr gone) = flushed_none c.sessions place (second.free place gone)
    sent place (inr off) both closed now =
        let flushed = first.sent place (in_first place off (has_either f g place both)) closed in
        λ session is. flushed session (sym (second.others place off) ∙ is)

    shut : (place : ℕ) → IsClosedAt b.sessions place ⊎ (get b.sessions place ≡ None) → IsClosedAt c.sessions place ⊎ (get c.sessions place ≡ None)
    shut place (inl still) = second.shut place still
    shut place (inr gone) = inr (second.free place gone)

pub turns_on : {S : Type 0} (a b c : Table S) → TakesTurns a b → TakesTurns b c → TakesTurns a c
turns_on a b c (f, first) (g, second) = (f ++ g, turns_further f g a b c first second)

-- ---- the session at one place

-- it is another one, as open as before
pub stays_put : {S : Type 0} (place : ℕ) (slab : Slab (Session S)) (x y : Session S) → get slab place ≡ Some x → y.is_open ≡ x.is_open → StaysShut place slab (with_value slab place y)
stays_put {S} place slab x y was same = record { shut = λ closed. inl (shut closed); free = λ none. absurd (no_session (sym none ∙ was)) }
  where
    no_session : None ≡ Some x → ⊥
    no_session e = absurd (cc)

    shut : IsClosedAt slab place → IsClosedAt (with_value slab place y) place
    shut (session, is, closed) = (y, (put slab place x y was).changed, same ∙ (ap (λ (s : Session S). s.is_open) (some_same (get slab place) x session was is) ∙ closed))

-- it was let go
pub stays_free : {S : Type 0} (place : ℕ) (a b : Slab (Session S)) → get b place ≡ None → StaysShut place a b
stays_free place a b none = record { shut = λ closed. inr none; free = λ before. none }

pub stays_on : {S : Type 0} (place : ℕ) (a b c : Slab (Session S)) → StaysShut place a b → StaysShut place b c → StaysShut place a c
stays_on {S} place a b c first second = record { shut = λ closed. by (first.shut closed); free = λ none. second.free (first.free none) }
  where
    by : IsClosedAt b place ⊎ (get b place ≡ None) → IsClosedAt c place ⊎ (get c place ≡ None)
    by (inl still) = second.shut still
    by (inr gone) = inr (second.free gone)

pub stays_same : {S : Type 0} (place : ℕ) (a : Slab (Session S)) → StaysShut place a a
stays_same place a = record { shut = λ closed. inl closed; free = λ none. none }
