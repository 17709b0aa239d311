-- The numbers of a table's sessions once one of them has changed, has come or was let go.
use Rattle.std.proofs.Common.{◌≡◌, ◌≢◌, ℕ, ◌<◌, ◌⊎◌, inl, inr, Option, None, Some, Result, Ok, Err, IfOk, OnErr, sym, ap, ◌∙◌, subst, arith}
use Rattle.std.specs.Result.{result_ok}
use Rattle.slab.specs.Slab.{Slab, Updates, get, with_value}
use Rattle.mio_edge.specs.Closing.{OthersStay}
use Rattle.mio_edge.specs.Numbered.{AreBelow, StayBelow, OthersBelow, StayBelowBeside, AllBelow}
use Rattle.mio_edge.specs.declared.listening.Listening.{Listening}
use Rattle.mio_edge.specs.declared.session.Session.{Session}
use Rattle.mio_edge.proofs.Sessions.{decide}
use Rattle.mio_edge.proofs.Entries.{some_same}
use Rattle.mio_edge.proofs.Turns.{put}

module _ {S : Type 0} where
  no_session : (o : Option (Session S)) (s : Session S) → o ≡ None → o ≡ Some s → ⊥
  no_session o s none is = by (sym none ∙ is)
    where
      by : None ≡ Some s → ⊥
      by e = absurd (cc)

  -- a session has changed, and has its number still
  pub below_put : (slab : Slab (Session S)) (place : ℕ) (a b : Session S) → get slab place ≡ Some a → b.number ≡ a.number → StayBelow slab (with_value slab place b)
  below_put slab place a b was same next below q s is = by (decide q place)
    where
      by : (q ≡ place) ⊎ (q ≢ place) → s.number < next
      by (inl e) =
          let s_is : s ≡ b = some_same (get (with_value slab place b) q) s b is (ap (get (with_value slab place b)) e ∙ (put slab place a b was).changed) in
          let number : s.number ≡ a.number = ap (λ (x : Session S). x.number) s_is ∙ same in
          omega (arith, number, below place a was)
      by (inr off) = below q s (sym ((put slab place a b was).others q off) ∙ is)

  -- a session was let go
  pub below_freed : (a b : Slab (Session S)) (place : ℕ) → Updates a b place None → StayBelow a b
  below_freed a b place updates next below q s is = by (decide q place)
    where
      by : (q ≡ place) ⊎ (q ≢ place) → s.number < next
      by (inl e) = absurd (no_session (get b q) s (ap (get b) e ∙ updates.changed) is)
      by (inr off) = below q s (sym (updates.others q off) ∙ is)

  -- one that had come was let go again
  pub below_gone : (place : ℕ) (a b c : Slab (Session S)) → OthersBelow place a b → OthersStay place b c → get c place ≡ None → StayBelow a c
  below_gone place a b c others stays free next below q s is = by (decide q place)
    where
      by : (q ≡ place) ⊎ (q ≢ place) → s.number < next
      by (inl e) = absurd (no_session (get c q) s (ap (get c) e ∙ free) is)
      by (inr off) = others next q s off below (sym (stays.at q off) ∙ is)

  -- one has come, if there was room
  pub below_inserted : {E : Type 0} (a b : Slab (Session S)) (s : Session S) (r : Result ℕ E) (o : Option ℕ) → o ≡ result_ok r → IfOk r (λ key. Updates a b key (Some s)) → OnErr r (b ≡ record a { capacity = b.capacity }) → StayBelowBeside s.number o a b
  below_inserted {E} a b s r o is updates kept = subst (λ (x : Option ℕ). StayBelowBeside s.number x a b) (sym is) (by r updates kept)
    where
      by : (r : Result ℕ E) → IfOk r (λ key. Updates a b key (Some s)) → OnErr r (b ≡ record a { capacity = b.capacity }) → StayBelowBeside s.number (result_ok r) a b
      by (Ok key) updates kept = ((λ next less below q x is. there next less below q x is (decide q key)), (λ next q x off below is. below q x (sym (updates.others q off) ∙ is)))
        where
          there : (next : ℕ) → s.number < next → AreBelow next a → (q : ℕ) (x : Session S) → get b q ≡ Some x → (q ≡ key) ⊎ (q ≢ key) → x.number < next
          there next less below q x is (inl e) =
              let number : x.number ≡ s.number = ap (λ (y : Session S). y.number) (some_same (get b q) x s is (ap (get b) e ∙ updates.changed)) in
              omega (arith, number, less)
          there next less below q x is (inr off) = below q x (sym (updates.others q off) ∙ is)
      by (Err e) updates kept = λ next below q x is. below q x (sym (ap (λ (y : Slab (Session S)). get y q) kept) ∙ is)

  -- the same behind what left the numbers below those below which they were
  pub then_beside : (k : ℕ) (o : Option ℕ) (a b c : Slab (Session S)) → StayBelow a b → StayBelowBeside k o b c → StayBelowBeside k o a c
  then_beside k None a b c first second = λ next below. second next (first next below)
  then_beside k (Some place) a b c first second =
      ((λ next less below. second.0 next less (first next below)), (λ next q s off below is. second.1 next q s off (first next below) is))

  -- ---- a server that listens

  pub all_below : (next : ℕ) (l : Listening S) → AreBelow next l.table.sessions → AllBelow next (Some l)
  all_below next l below x is = subst (λ (y : Listening S). AreBelow next y.table.sessions) (un_some is) below
    where
      un_some : Some l ≡ Some x → l ≡ x
      un_some e = cc

  pub none_below : (next : ℕ) → AllBelow {S = S} next None
  none_below next x is = absurd (by is)
    where
      by : None ≡ Some x → ⊥
      by e = absurd (cc)

  pub all_stay_below : (next : ℕ) (o : Option (Listening S)) (l l' : Listening S) → o ≡ Some l → AllBelow next o → StayBelow l.table.sessions l'.table.sessions → AllBelow next (Some l')
  all_stay_below next o l l' was below stays = all_below next l' (stays next (below l was))
