-- The order of turns where sessions are named.
use Rattle.std.proofs.Common.{◌≡◌, ◌≢◌, ℕ, [], ◌∷◌, ◌++◌, false, true≢false, Option, None, Some, inl, inr, sym, ap, ◌∙◌, subst, append_assoc}
use Rattle.std.specs.List.{slice_get}
use Rattle.slab.specs.Slab.{get}
use Rattle.mio_edge.specs.Wire.{Wire}
use Rattle.mio_edge.specs.Sessions.{Links}
use Rattle.mio_edge.specs.Tables.{World, TellsPlace, TableTells}
use Rattle.mio_edge.specs.Turns.{Has}
use Rattle.mio_edge.specs.Order.{MovesUp, AreClosed, InTurn}
use Rattle.mio_edge.specs.Lines.{closed_on, entries_same, moves_up_on, moves_on_further}
use Rattle.mio_edge.specs.declared.session.Session.{Session}
use Rattle.mio_edge.specs.declared.table.Entry.{Entry}
use Rattle.mio_edge.specs.declared.table.Table.{Table}
use Rattle.mio_edge.proofs.Entries.{some_same, place_at}

module _ {S : Type 0} where
  -- and then one is named, if one is
  pub turn_on : (named : Option ℕ) (a b c : Table S) → InTurn None a b → InTurn named b c → InTurn named a c
  turn_on None a b c (f, first) (g, second) = (f ++ g, moves_on_further f g a b c first second)
  turn_on (Some k) a b c (f, first) (g, place, second) = (
    f ++ g,
    place,
    record {
      line = subst (λ zs. MovesUp zs a c) (sym (append_assoc f g (place ∷ []))) (moves_up_on f (g ++ place ∷ []) a b c first.line second.line);
      closed = closed_on f g a.entries.items b.entries.items (entries_same a b first.entries) first.closed second.closed;
      entries = second.entries ∙ first.entries;
      number = second.number;
    },
  )

  -- a place where a session stands that isn't open is of no entry
  pub one_closed : (tells : S → Wire → Type 0) (table : Table S) (place : ℕ) (a : Session S) (world : World) → TableTells tells table world → get table.sessions place ≡ Some a → a.is_open ≡ false → AreClosed (place ∷ []) table.entries.items
  one_closed tells table place a world told was shut = record { none = λ q at e has is. by q at e has is }
    where
      open_there : (e : Entry) (o : Option Links) → TellsPlace tells table.sessions e.number (Some e.place) o → e.place ≡ place → ⊥
      open_there e o (s, is, number, open_is, t) same =
          absurd (true≢false (sym open_is ∙ (ap (λ (x : Session S). x.is_open) (some_same (get table.sessions place) s a (ap (get table.sessions) (sym same) ∙ is) was) ∙ shut)))

      by : (q at : ℕ) (e : Entry) → Has (place ∷ []) q → slice_get table.entries.items at ≡ Some e → e.place ≢ q
      by q at e (inl is_q) is = λ same. open_there e (world e.number) (subst (λ (o : Option ℕ). TellsPlace tells table.sessions e.number o (world e.number)) (place_at 0 table.entries.items at e told.0.rising is).1 (told.0.told e.number)) (same ∙ sym is_q)
      by q at e (inr none) is = absurd none
