-- What sockets tell once the sessions of their listener have moved.
use Rattle.std.proofs.Common.{◌≡◌, ◌≢◌, ℕ, ◌+◌, ◌-◌, ◌^◌, ◌<◌, ◌⊎◌, inl, inr, Option, None, Some, IsSome, refl, sym, ◌∙◌, subst, arith}
use Rattle.mio_edge.specs.Wire.{Wire, Moves, Stays}
use Rattle.mio_edge.specs.Admitting.{IfHere, IfNotHere}
use Rattle.mio_edge.specs.Numbers.{Passes}
use Rattle.mio_edge.specs.Stepping.{AreStepped, ListeningStepped, StayStepped}
use Rattle.mio_edge.specs.Tables.{World, TableTells, TableAnnounces, AtSession, MovesAt, Opens, NamesIfAny}
use Rattle.mio_edge.specs.Worlds.{ListeningTells, SocketsTell}
use Rattle.gate_hub.specs.Meaning.{Link}
use Rattle.mio_edge.specs.declared.listening.Admitted.{Admitted}
use Rattle.mio_edge.specs.declared.listening.Admitted.TheVariants as admitted
use Rattle.mio_edge.specs.declared.listening.Connecting.TheVariants as connecting
use Rattle.mio_edge.specs.declared.listening.Listening.{Listening}
use Rattle.mio_edge.specs.declared.sockets.Sockets.{Sockets}
use Rattle.mio_edge.proofs.Sessions.{decide}

pub listening_moved : {W S : Type 0} (Is : Type 0) (tells : S → Wire → Type 0) (a b : Sockets W S) (l l' : Listening S) → a.serving.listening ≡ Some l → b.serving.listening ≡ Some l' → l'.connecting ≡ l.connecting → Stays (TableTells tells l.table) (TableTells tells l'.table) → StayStepped tells l.table l'.table → b.connecting ≡ a.connecting → b.serving.announced ≡ a.serving.announced
    → Stays (SocketsTell Is tells a) (SocketsTell Is tells b)
listening_moved {W} {S} Is tells a b l l' was now same stays steps at_once announced world told = record {
  is_telling = told.is_telling;
  at_once = at_once ∙ told.at_once;
  sessions = subst (λ (o : Option (Listening S)). ListeningTells tells o world) (sym now) (moved (subst (λ (o : Option (Listening S)). ListeningTells tells o world) was told.sessions));
  below = λ k some. subst (λ (n : ℕ). k < n) (sym announced) (told.below k some);
  stepped = subst (λ (o : Option (Listening S)). ListeningStepped o) (sym now) (steps world (here (subst (λ (o : Option (Listening S)). ListeningTells tells o world) was told.sessions)) (subst (λ (o : Option (Listening S)). ListeningStepped o) was told.stepped));
}
  where
    here : ListeningTells tells (Some l) world → TableTells tells l.table world
    here t = t.1

    moved : ListeningTells tells (Some l) world → ListeningTells tells (Some l') world
    moved t = (same ∙ t.0, stays world t.1)

-- a session has its turn
pub listening_names : {W S : Type 0} (Is : Type 0) (tells : S → Wire → Type 0) (a b : Sockets W S) (l l' : Listening S) (named : Option ℕ) → a.serving.listening ≡ Some l → b.serving.listening ≡ Some l' → l'.connecting ≡ l.connecting → Moves (TableTells tells l.table) (TableTells tells l'.table) (NamesIfAny named) → StayStepped tells l.table l'.table → b.connecting ≡ a.connecting → b.serving.announced ≡ a.serving.announced → Moves (SocketsTell Is tells a) (SocketsTell Is tells b) (NamesIfAny named)
listening_names {W} {S} Is tells a b l l' named was now same moves steps at_once announced world told =
    let old : ListeningTells tells (Some l) world = subst (λ (o : Option (Listening S)). ListeningTells tells o world) was told.sessions in
    let moved = moves world old.1 in (
      moved.0,
      record {
        is_telling = told.is_telling;
        at_once = at_once ∙ told.at_once;
        sessions = subst (λ (o : Option (Listening S)). ListeningTells tells o moved.0) (sym now) (same ∙ old.0, moved.1);
        below = λ k some. subst (λ (n : ℕ). k < n) (sym announced) (below named moved.0 moved.2 k some);
        stepped = subst (λ (o : Option (Listening S)). ListeningStepped o) (sym now) (steps world old.1 (subst (λ (o : Option (Listening S)). ListeningStepped o) was told.stepped));
      },
      moved.2,
    )
  where
    below : (o : Option ℕ) (w : World) → NamesIfAny o world w → (k : ℕ) → IsSome (w k) → k < a.serving.announced
    below None w is k some = told.below k (subst (λ (x : World). IsSome (x k)) is some)
    below (Some j) w names k some = by (decide k j)
      where
        by : (k ≡ j) ⊎ (k ≢ j) → k < a.serving.announced
        by (inl e) = told.below k (subst (λ i. IsSome (world i)) (sym e) (subst (λ o. IsSome o) (sym names.was) refl))
        by (inr off) = told.below k (subst (λ o. IsSome o) (names.others k off) some)

-- a call at a session, where it is connected to all its upstreams at once
pub listening_calls : {W S : Type 0} (Is : Type 0) (tells : S → Wire → Type 0) (a b : Sockets W S) (l l' : Listening S) (k port : ℕ) (Step : Link → Link → Type 0) → a.serving.listening ≡ Some l → b.serving.listening ≡ Some l'
    → (l.connecting ≡ connecting.AtOnce → (l'.connecting ≡ l.connecting) × MovesAt k (TableTells tells l.table) (TableTells tells l'.table) (AtSession k port Step) × StayStepped tells l.table l'.table)
    → b.connecting ≡ a.connecting → b.serving.announced ≡ a.serving.announced → MovesAt k (SocketsTell Is tells a) (SocketsTell Is tells b) (AtSession k port Step)
listening_calls {W} {S} Is tells a b l l' k port Step was now calls at_once announced world told some =
    let old : ListeningTells tells (Some l) world = subst (λ (o : Option (Listening S)). ListeningTells tells o world) was told.sessions in
    let called = calls old.0 in
    let moved = called.1 world old.1 some in (
      moved.0,
      record {
        is_telling = told.is_telling;
        at_once = at_once ∙ told.at_once;
        sessions = subst (λ (o : Option (Listening S)). ListeningTells tells o moved.0) (sym now) (called.0 ∙ old.0, moved.1);
        below = λ j has. subst (λ (n : ℕ). j < n) (sym announced) (below moved.0 moved.2 j (decide j k) has);
        stepped = subst (λ (o : Option (Listening S)). ListeningStepped o) (sym now) (called.2 world old.1 (subst (λ (o : Option (Listening S)). ListeningStepped o) was told.stepped));
      },
      moved.2,
    )
  where
    below : (w : World) → AtSession k port Step world w → (j : ℕ) → (j ≡ k) ⊎ (j ≢ k) → IsSome (w j) → j < a.serving.announced
    below w at j (inl e) has = told.below j (subst (λ (i : ℕ). IsSome (world i)) (sym e) some)
    below w at j (inr off) has = told.below j (subst (λ o. IsSome o) (at.others j off) has)

-- ---- a connection was accepted

opens_as : {W S : Type 0} (Is : Type 0) (tells : S → Wire → Type 0) (a b : Sockets W S) (l l' : Listening S) (k : ℕ) → a.serving.listening ≡ Some l → b.serving.listening ≡ Some l' → l'.connecting ≡ l.connecting
    → (Is → TableAnnounces tells k l.table l'.table) → (AreStepped l.table.sessions → AreStepped l'.table.sessions) → (Shared : Type 0) → Passes Shared a.serving.announced k → b.connecting ≡ a.connecting → b.serving.announced ≡ k + 1 → Moves (SocketsTell Is tells a) (SocketsTell Is tells b) (Opens k)
opens_as {W} {S} Is tells a b l l' k was now same announces steps Shared passes at_once raised world told =
    let old : ListeningTells tells (Some l) world = subst (λ (o : Option (Listening S)). ListeningTells tells o world) was told.sessions in
    let moved = announces told.is_telling world old.1 above in (
      moved.0,
      record {
        is_telling = told.is_telling;
        at_once = at_once ∙ told.at_once;
        sessions = subst (λ (o : Option (Listening S)). ListeningTells tells o moved.0) (sym now) (same ∙ old.0, moved.1);
        below = λ j some. subst (λ (n : ℕ). j < n) (sym raised) (below j (decide j k) (λ off. above j (subst (λ o. IsSome o) (moved.2.others j off) some)));
        stepped = subst (λ (o : Option (Listening S)). ListeningStepped o) (sym now) (steps (subst (λ (o : Option (Listening S)). ListeningStepped o) was told.stepped));
      },
      moved.2,
    )
  where
    above : (j : ℕ) → IsSome (world j) → j < k
    above j some = omega (arith, told.below j some, passes.0)

    below : (j : ℕ) → (j ≡ k) ⊎ (j ≢ k) → (j ≢ k → j < k) → j < k + 1
    below j (inl e) other = omega (arith, e)
    below j (inr off) other = omega (arith, other off)

pub admitted_opens : {W S : Type 0} (Is : Type 0) (tells : S → Wire → Type 0) (Shared : Type 0) (a b : Sockets W S) (l l' : Listening S) (r : Admitted) → a.serving.listening ≡ Some l → b.serving.listening ≡ Some l'
    → l'.connecting ≡ l.connecting → IfHere r (λ k. Is → TableAnnounces tells k l.table l'.table) → (AreStepped l.table.sessions → AreStepped l'.table.sessions) → IfHere r (λ k. Passes Shared a.serving.announced k × (k < 2 ^ 64 - 1)) → b.connecting ≡ a.connecting
    → IfHere r (λ k. b.serving.announced ≡ k + 1) → IfHere r (λ k. Moves (SocketsTell Is tells a) (SocketsTell Is tells b) (Opens k))
admitted_opens Is tells Shared a b l l' (admitted.Here k) was now same announces steps number at_once raised = opens_as Is tells a b l l' k was now same announces steps Shared number.0 at_once raised
admitted_opens Is tells Shared a b l l' admitted.Handed was now same announces steps number at_once raised = tt
admitted_opens Is tells Shared a b l l' admitted.Nothing was now same announces steps number at_once raised = tt

pub admitted_keeps : {W S : Type 0} (Is : Type 0) (tells : S → Wire → Type 0) (a b : Sockets W S) (l l' : Listening S) (r : Admitted) → a.serving.listening ≡ Some l → b.serving.listening ≡ Some l'
    → l'.connecting ≡ l.connecting → IfNotHere r (Stays (TableTells tells l.table) (TableTells tells l'.table)) → (AreStepped l.table.sessions → AreStepped l'.table.sessions) → b.connecting ≡ a.connecting → IfNotHere r (b.serving.announced ≡ a.serving.announced)
    → IfNotHere r (Stays (SocketsTell Is tells a) (SocketsTell Is tells b))
admitted_keeps Is tells a b l l' (admitted.Here k) was now same stays steps at_once announced = tt
admitted_keeps Is tells a b l l' admitted.Handed was now same stays steps at_once announced = listening_moved Is tells a b l l' was now same stays (λ world told. steps) at_once announced
admitted_keeps Is tells a b l l' admitted.Nothing was now same stays steps at_once announced = listening_moved Is tells a b l l' was now same stays (λ world told. steps) at_once announced

-- what follows where it is a session here
pub here_then : (r : Admitted) {P Q : ℕ → Type 0} → ((k : ℕ) → P k → Q k) → IfHere r P → IfHere r Q
here_then (admitted.Here k) on holds = on k holds
here_then admitted.Handed on holds = tt
here_then admitted.Nothing on holds = tt

pub nothing_handed : admitted.Nothing ≡ admitted.Handed → ⊥
nothing_handed e = absurd (cc)
