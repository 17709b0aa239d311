-- What several steps of the sockets towards the next event bring together.
use Rattle.std.proofs.Common.{◌≡◌, ℕ, ◌<◌, ◌≤◌, Option, None, Some, IsSome, Result, Ok, refl, sym, ◌∙◌, subst, arith}
use Rattle.gate_base.specs.Causes.{Rose}
use Rattle.gate_hub.specs.declared.hub.Began.{Began}
use Rattle.gate_hub.specs.declared.hub.Began.TheVariants as began
use Rattle.gate_hub.specs.declared.hub.HubNext.{HubNext}
use Rattle.gate_hub.specs.declared.hub.HubNext.TheVariants as event
use Rattle.mio_edge.specs.Wire.{Wire}
use Rattle.mio_edge.specs.Fixed.{SocketsSame, fixed_on}
use Rattle.mio_edge.specs.Numbers.{Passes, NumbersIfAny}
use Rattle.mio_edge.specs.Places.{AllHaveSent}
use Rattle.mio_edge.specs.Stepping.{ListeningStepped}
use Rattle.mio_edge.specs.Turning.{SocketsTurnIfTold, EventTurn}
use Rattle.mio_edge.specs.Winding.{SocketsWind}
use Rattle.mio_edge.specs.Worlds.{ListeningTells, SocketsStay, SocketsMove, EventMovesIfAny}
use Rattle.mio_edge.specs.declared.serving.Serving.{Serving}
use Rattle.mio_edge.specs.declared.sockets.Sockets.{Sockets}
use Rattle.mio_edge.proofs.Numbers.{passes_same, passes_on, numbers_after}
use Rattle.mio_edge.proofs.Turning.{sockets_turn_on, event_turn_on}
use Rattle.mio_edge.proofs.Winding.{sockets_on}

-- nothing was opened or named between two moments; which sessions are to have a turn is left open
pub record Keeps {W S : Type 0} (Is Shared : Type 0) (tells : S → Wire → Type 0) (a b : Sockets W S) : Type 0 where
  pub keeps : SocketsStay Is tells a b
  pub numbers : Passes Shared a.serving.announced b.serving.announced
  pub accept : b.accept ≡ a.accept
  pub later : a.faults ≤ b.faults
  pub winds : SocketsWind tells a b
  pub same : SocketsSame a b

-- the same, and no open session had its turn
pub record Rests {W S : Type 0} (Is Shared : Type 0) (tells : S → Wire → Type 0) (a b : Sockets W S) : Type 0 where
  pub kept : Keeps Is Shared tells a b
  pub turn : SocketsTurnIfTold Is tells None a b

-- this event came, if one did
pub record Brings {W S : Type 0} (Is Shared : Type 0) (tells : S → Wire → Type 0) (o : Option HubNext) (a b : Sockets W S) : Type 0 where
  pub moves : SocketsMove Is tells (EventMovesIfAny o) a b
  pub numbers : NumbersIfAny Shared o a.serving.announced b.serving.announced
  pub accept : b.accept ≡ a.accept
  pub later : a.faults ≤ b.faults
  pub cause : o ≡ Some event.Failed → Rose a.faults b.faults
  pub winds : SocketsWind tells a b
  pub turn : EventTurn Is tells o a b
  pub same : SocketsSame a b

-- ---- events that aren't one another

pub none_fails : None ≡ Some event.Failed → ⊥
none_fails e = absurd (cc)

pub none_stops : None ≡ Some event.Stopped → ⊥
none_stops e = absurd (cc)

pub opened_fails : (k : ℕ) → Some (event.Opened k) ≡ Some event.Failed → ⊥
opened_fails k e = absurd (cc)

pub opened_stops : (k : ℕ) → Some (event.Opened k) ≡ Some event.Stopped → ⊥
opened_stops k e = absurd (cc)

pub ready_fails : (k : ℕ) → Some (event.Ready k) ≡ Some event.Failed → ⊥
ready_fails k e = absurd (cc)

pub ready_stops : (k : ℕ) → Some (event.Ready k) ≡ Some event.Stopped → ⊥
ready_stops k e = absurd (cc)

pub stop_fails : event.Stopped ≡ event.Failed → ⊥
stop_fails e = absurd (cc)

pub failed_stops : (r : HubNext) → r ≡ event.Failed → r ≡ event.Stopped → ⊥
failed_stops r failed e = absurd (cc)

pub some_failed_stops : (r : HubNext) → r ≡ event.Failed → Some r ≡ Some event.Stopped → ⊥
some_failed_stops r failed e = absurd (cc)

some_stopped_fails : Some event.Stopped ≡ Some event.Failed → ⊥
some_stopped_fails e = absurd (cc)

-- ---- what a start answers

pub failed_begins : began.Failed ≡ began.Done → ⊥
failed_begins e = absurd (cc)

pub unfound_begins : (at : ℕ) → began.NotFound at ≡ began.Done → ⊥
unfound_begins at e = absurd (cc)

pub done_fails : began.Done ≡ began.Failed → ⊥
done_fails e = absurd (cc)

pub done_unfound : (at : ℕ) → began.Done ≡ began.NotFound at → ⊥
done_unfound at e = absurd (cc)

pub failed_unfound : (at : ℕ) → began.Failed ≡ began.NotFound at → ⊥
failed_unfound at e = absurd (cc)

pub unfound_fails : (at : ℕ) → began.NotFound at ≡ began.Failed → ⊥
unfound_fails at e = absurd (cc)

pub not_answered : {E : Type 0} (r : Result Began E) (x y : Began) → r ≡ Ok x → (x ≡ y → ⊥) → r ≡ Ok y → ⊥
not_answered {E} r x y is off other = off (cc)

-- ---- steps

pub rose_later : (a b c : ℕ) → a ≤ b → Rose b c → Rose a c
rose_later a b c later rose = omega (arith, later, rose)

numbers_then : (Shared : Type 0) (o : Option HubNext) (a b c : ℕ) → Passes Shared a b → NumbersIfAny Shared o b c → NumbersIfAny Shared o a c
numbers_then Shared None a b c passes numbers = passes_on Shared a b c passes numbers
numbers_then Shared (Some r) a b c passes numbers = numbers_after Shared r a b c passes numbers

module _ {W S : Type 0} (Is Shared : Type 0) (tells : S → Wire → Type 0) where
  pub keeps_later : (a b : Sockets W S) → SocketsStay Is tells a b → b.serving.announced ≡ a.serving.announced → b.accept ≡ a.accept → a.faults ≤ b.faults → SocketsWind tells a b → SocketsSame a b → Keeps Is Shared tells a b
  keeps_later a b keeps announced accept later winds same =
      record { keeps = keeps; numbers = passes_same Shared a.serving.announced b.serving.announced announced; accept = accept; later = later; winds = winds; same = same }

  pub keeps_all : (a b : Sockets W S) → SocketsStay Is tells a b → b.serving.announced ≡ a.serving.announced → b.accept ≡ a.accept → b.faults ≡ a.faults → SocketsWind tells a b → SocketsSame a b → Keeps Is Shared tells a b
  keeps_all a b keeps announced accept faults winds same = keeps_later a b keeps announced accept (omega (arith, faults)) winds same

  pub rests_all : (a b : Sockets W S) → SocketsStay Is tells a b → b.serving.announced ≡ a.serving.announced → b.accept ≡ a.accept → b.faults ≡ a.faults → SocketsWind tells a b → SocketsTurnIfTold Is tells None a b → SocketsSame a b → Rests Is Shared tells a b
  rests_all a b keeps announced accept faults winds turn same = record { kept = keeps_all a b keeps announced accept faults winds same; turn = turn }

  pub rests_from : (a b : Sockets W S) → SocketsStay Is tells a b → Passes Shared a.serving.announced b.serving.announced → b.accept ≡ a.accept → a.faults ≤ b.faults → SocketsWind tells a b → SocketsTurnIfTold Is tells None a b → SocketsSame a b → Rests Is Shared tells a b
  rests_from a b keeps numbers accept later winds turn same = record { kept = record { keeps = keeps; numbers = numbers; accept = accept; later = later; winds = winds; same = same }; turn = turn }

  pub rests_on : (a b c : Sockets W S) → Rests Is Shared tells a b → Rests Is Shared tells b c → Rests Is Shared tells a c
  rests_on a b c first second = record {
    kept = record {
      keeps = λ world told. second.kept.keeps world (first.kept.keeps world told);
      numbers = passes_on Shared a.serving.announced b.serving.announced c.serving.announced first.kept.numbers second.kept.numbers;
      accept = second.kept.accept ∙ first.kept.accept;
      later = omega (arith, first.kept.later, second.kept.later);
      winds = sockets_on tells a b c first.kept.winds second.kept.winds;
      same = fixed_on a b c first.kept.same second.kept.same;
    };
    turn = sockets_turn_on Is tells None a b c first.kept.keeps first.turn second.turn;
  }

  pub brings_on : (o : Option HubNext) (a b c : Sockets W S) → Rests Is Shared tells a b → Brings Is Shared tells o b c → Brings Is Shared tells o a c
  brings_on o a b c first second = record {
    moves = λ world told. second.moves world (first.kept.keeps world told);
    numbers = numbers_then Shared o a.serving.announced b.serving.announced c.serving.announced first.kept.numbers second.numbers;
    accept = second.accept ∙ first.kept.accept;
    later = omega (arith, first.kept.later, second.later);
    cause = λ failed. rose_later a.faults b.faults c.faults first.kept.later (second.cause failed);
    winds = sockets_on tells a b c first.kept.winds second.winds;
    turn = event_turn_on Is tells o a b c first.kept.keeps first.turn second.turn;
    same = fixed_on a b c first.kept.same second.same;
  }

  pub brings_nothing : (a b : Sockets W S) → Rests Is Shared tells a b → Brings Is Shared tells None a b
  brings_nothing a b rests = record {
    moves = λ world told. (world, rests.kept.keeps world told, refl);
    numbers = rests.kept.numbers;
    accept = rests.kept.accept;
    later = rests.kept.later;
    cause = λ failed. absurd (none_fails failed);
    winds = rests.kept.winds;
    turn = rests.turn;
    same = rests.kept.same;
  }

  pub brings_the_end : (r : HubNext) (a b : Sockets W S) → r ≡ event.Stopped → Keeps Is Shared tells a b → Brings Is Shared tells (Some r) a b
  brings_the_end r a b is kept = subst (λ (e : HubNext). Brings Is Shared tells (Some e) a b) (sym is) (record {
    moves = λ world told. (world, kept.keeps world told, refl);
    numbers = kept.numbers;
    accept = kept.accept;
    later = kept.later;
    cause = λ failed. absurd (some_stopped_fails failed);
    winds = kept.winds;
    turn = tt;
    same = kept.same;
  })

  pub brings_a_fault : (r : HubNext) (a b : Sockets W S) → r ≡ event.Failed → Rose a.faults b.faults → Keeps Is Shared tells a b → Brings Is Shared tells (Some r) a b
  brings_a_fault r a b is rose kept = subst (λ (e : HubNext). Brings Is Shared tells (Some e) a b) (sym is) (record {
    moves = λ world told. (world, kept.keeps world told, refl);
    numbers = kept.numbers;
    accept = kept.accept;
    later = kept.later;
    cause = λ failed. rose;
    winds = kept.winds;
    turn = tt;
    same = kept.same;
  })

  -- only what is counted and what is accepted have changed
  pub stays_counted : (a b c : Sockets W S) → c.connecting ≡ b.connecting → c.serving ≡ b.serving → SocketsStay Is tells a b → SocketsStay Is tells a c
  stays_counted a b c connecting serving stays world told =
      let now = stays world told in record {
        is_telling = now.is_telling;
        at_once = connecting ∙ now.at_once;
        sessions = subst (λ (s : Serving S). ListeningTells tells s.listening world) (sym serving) now.sessions;
        below = subst (λ (s : Serving S). (k : ℕ) → IsSome (world k) → k < s.announced) (sym serving) now.below;
        stepped = subst (λ (s : Serving S). ListeningStepped s.listening) (sym serving) now.stepped;
      }

  -- the closed sessions are the same
  pub sent_still : (a b : Sockets W S) → b.serving.listening ≡ a.serving.listening → AllHaveSent a → AllHaveSent b
  sent_still a b same sent = record { each = λ listening is. sent.each listening (sym same ∙ is) }
