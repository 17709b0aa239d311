-- What a session tells once one of its ports has moved.
use Rattle.std.proofs.Common.{◌≡◌, ◌≢◌, ℕ, zero, suc, ◌+◌, ◌<◌, ◌≤◌, List, [], ◌∷◌, ◌++◌, length, get_or, set, Bool, true, false, true≢false, Option, None, Some, ◌⊎◌, inl, inr, refl, sym, ap, ◌∙◌, subst, arith}
use Rattle.std.specs.List.{slice_get}
use Rattle.std.proofs.lemmas.List.{length-set, get_or-set_same, get_or-set_other}
use Rattle.std.proofs.lemmas.Option.{slice_get_cases, slice_get_read, slice_get_past}
use Rattle.std.proofs.lemmas.Bool.{cases_lt}
use Rattle.gate_hub.specs.Meaning.{Link, new_link}
use Rattle.gate_hub.specs.Hubs.{LinkReads, LinkWrites}
use Rattle.gate_hub.specs.declared.hub.LinkGot.TheVariants as got
use Rattle.gate_hub.specs.declared.hub.LinkPut.TheVariants as put
use Rattle.gate_hub.specs.declared.hub.LinkGot.{LinkGot}
use Rattle.gate_hub.specs.declared.hub.LinkPut.{LinkPut}
use Rattle.mio_edge.specs.Wire.{Wire, Moves, Stays}
use Rattle.mio_edge.specs.Moving.{PortTellsBy, PortTells, CanRead, CanWrite, IsUnsent}
use Rattle.mio_edge.specs.Sessions.{Links, TellsAt, PortsTell, SessionTells, TellsUnsent, IsAwaited, IsUnsentAt, AtPort, IsStill, AtEach, PortsAre, Calms, Flushes, count_read, count_written, new_links}
use Rattle.mio_edge.proofs.Entries.{some_same}
use Rattle.mio_edge.specs.declared.port.Port.{Port}
use Rattle.mio_edge.specs.declared.port.Receiving.TheVariants as receiving
use Rattle.mio_edge.specs.declared.session.Session.{Session}

pub decide : (i j : ℕ) → (i ≡ j) ⊎ (i ≢ j)
decide zero zero = inl refl
decide zero (suc j) = inr (λ e. absurd (omega (arith, e)))
decide (suc i) zero = inr (λ e. absurd (omega (arith, e)))
decide (suc i) (suc j) = next (decide i j)
  where
    next : (i ≡ j) ⊎ (i ≢ j) → (suc i ≡ suc j) ⊎ (suc i ≢ suc j)
    next (inl e) = inl (ap suc e)
    next (inr e) = inr (λ d. e (omega (arith, d)))

pub get_set_same : {X : Type 0} → (xs : List X) (k : ℕ) (x : X) → k < length xs → slice_get (set xs k x) k ≡ Some x
get_set_same [] k x within = absurd (omega (arith, within))
get_set_same (y ∷ xs) zero x within = refl
get_set_same (y ∷ xs) (suc k) x within = get_set_same xs k x (omega (arith, within))

pub get_set_other : {X : Type 0} → (xs : List X) (k j : ℕ) (x : X) → j ≢ k → slice_get (set xs k x) j ≡ slice_get xs j
get_set_other [] k j x other = refl
get_set_other (y ∷ xs) zero zero x other = absurd (other refl)
get_set_other (y ∷ xs) zero (suc j) x other = refl
get_set_other (y ∷ xs) (suc k) zero x other = refl
get_set_other (y ∷ xs) (suc k) (suc j) x other = get_set_other xs k j x (λ e. other (ap suc e))

pub get_within : {X : Type 0} → (xs : List X) (k : ℕ) (x : X) → slice_get xs k ≡ Some x → k < length xs
get_within [] k x is = absurd (cc)
get_within (y ∷ xs) zero x is = omega arith
get_within (y ∷ xs) (suc k) x is = omega (arith, get_within xs k x is)

-- one of two links, by whether it is this port's
abbrev pick : {p q : ℕ} → (p ≡ q) ⊎ (p ≢ q) → Link → Link → Link
pick (inl e) x y = x
pick (inr e) x y = y

pick_here : {p : ℕ} (d : (p ≡ p) ⊎ (p ≢ p)) (x y : Link) → pick d x y ≡ x
pick_here (inl e) x y = refl
pick_here (inr e) x y = absurd (e refl)

pick_other : {p q : ℕ} (d : (p ≡ q) ⊎ (p ≢ q)) (x y : Link) → p ≢ q → pick d x y ≡ y
pick_other (inl e) x y off = absurd (off e)
pick_other (inr e) x y off = refl

-- the ports at all places but one are the same
abbrev SameBut : {S : Type 0} → ℕ → List (Port S) → List (Port S) → Type 0
SameBut port a b = (p : ℕ) → p ≢ port → slice_get b p ≡ slice_get a p

-- what is at one place has moved
at_place : {S : Type 0} (tells : S → Wire → Type 0) (a b : List (Port S)) (port : ℕ) (old new : Option (Port S)) (Step : Link → Link → Type 0) → slice_get a port ≡ old → slice_get b port ≡ new → SameBut port a b → Moves (TellsAt tells old) (TellsAt tells new) Step → Moves (PortsTell tells a) (PortsTell tells b) (AtPort port Step)
at_place {S} tells a b port old new Step was is same moves links told =
    let moved = moves (links port) (subst (λ (o : Option (Port S)). TellsAt tells o (links port)) was (told port)) in (
      (λ p. pick (decide p port) moved.0 (links p)),
      (λ p. all p (decide p port) moved.0 moved.1),
      record {
        there = subst (λ l. Step (links port) l) (sym (pick_here (decide port port) moved.0 (links port))) moved.2;
        others = λ p off. pick_other (decide p port) moved.0 (links p) off;
      },
    )
  where
    all : (p : ℕ) (d : (p ≡ port) ⊎ (p ≢ port)) (x : Link) → TellsAt tells new x → TellsAt tells (slice_get b p) (pick d x (links p))
    all p (inl e) x now = subst (λ (o : Option (Port S)). TellsAt tells o x) (sym (ap (slice_get b) e ∙ is)) now
    all p (inr e) x now = subst (λ (o : Option (Port S)). TellsAt tells o (links p)) (sym (same p e)) (told p)

pub at_port : {S : Type 0} (tells : S → Wire → Type 0) (ports : List (Port S)) (port : ℕ) (a b : Port S) (Step : Link → Link → Type 0) → slice_get ports port ≡ Some a → Moves (PortTells tells a) (PortTells tells b) Step → Moves (PortsTell tells ports) (PortsTell tells (set ports port b)) (AtPort port Step)
at_port tells ports port a b Step was moves =
    at_place tells ports (set ports port b) port (Some a) (Some b) Step was (get_set_same ports port b (get_within ports port a was)) (λ p off. get_set_other ports port p b off) moves

-- a port tells these links
at_port_tells : {S : Type 0} (tells : S → Wire → Type 0) (ports : List (Port S)) (port : ℕ) (a b : Port S) (links : Links) → slice_get ports port ≡ Some a → PortTells tells b (links port) → PortsTell tells ports links → PortsTell tells (set ports port b) links
at_port_tells {S} tells ports port a b links was now told = λ p. by p (decide p port)
  where
    by : (p : ℕ) → (p ≡ port) ⊎ (p ≢ port) → TellsAt tells (slice_get (set ports port b) p) (links p)
    by p (inl e) =
        subst (λ q. TellsAt tells (slice_get (set ports port b) q) (links q)) (sym e)
        (subst (λ (o : Option (Port S)). TellsAt tells o (links port)) (sym (get_set_same ports port b (get_within ports port a was))) now)
    by p (inr e) = subst (λ (o : Option (Port S)). TellsAt tells o (links p)) (sym (get_set_other ports port p b e)) (told p)

pub at_port_stays : {S : Type 0} (tells : S → Wire → Type 0) (ports : List (Port S)) (port : ℕ) (a b : Port S) → slice_get ports port ≡ Some a → Stays (PortTells tells a) (PortTells tells b) → Stays (PortsTell tells ports) (PortsTell tells (set ports port b))
at_port_stays {S} tells ports port a b was stays links told =
    at_port_tells tells ports port a b links was (stays (links port) (subst (λ (o : Option (Port S)). TellsAt tells o (links port)) was (told port))) told

pub at_port_begins : {S : Type 0} (tells : S → Wire → Type 0) (ports : List (Port S)) (port : ℕ) (a b : Port S) → slice_get ports port ≡ Some a → PortTells tells b new_link → PortsTell tells ports new_links → PortsTell tells (set ports port b) new_links
at_port_begins tells ports port a b was now told = at_port_tells tells ports port a b new_links was now told

-- there is no such port
pub reads_nowhere : {S : Type 0} (tells : S → Wire → Type 0) (ports : List (Port S)) (port : ℕ) (into : List ℕ) → slice_get ports port ≡ None → Moves (PortsTell tells ports) (PortsTell tells ports) (AtPort port (LinkReads into got.Failed))
reads_nowhere tells ports port into none =
    at_place tells ports ports port None None (LinkReads into got.Failed) none none (λ p off. refl) (λ link told. (record link { last_read = Some got.Failed }, told, (told.2, refl)))

pub writes_nowhere : {S : Type 0} (tells : S → Wire → Type 0) (ports : List (Port S)) (port : ℕ) (from : List ℕ) → slice_get ports port ≡ None → Moves (PortsTell tells ports) (PortsTell tells ports) (AtPort port (LinkWrites from put.Failed))
writes_nowhere tells ports port from none =
    at_place tells ports ports port None None (LinkWrites from put.Failed) none none (λ p off. refl) (λ link told. (record link { last_write = Some put.Failed }, told, refl))

-- ---- all ports, one after another

-- what is read within a list is no default
get_or_any : {X : Type 0} (xs : List X) (i : ℕ) (d e : X) → i < length xs → get_or xs i d ≡ get_or xs i e
get_or_any [] i d e within = absurd (omega (arith, within))
get_or_any (x ∷ xs) zero d e within = refl
get_or_any (x ∷ xs) (suc i) d e within = get_or_any xs i d e (omega (arith, within))

-- so many of the first ports have moved so, and no other
pub record HaveMoved {S : Type 0} (R : Port S → Port S → Type 0) (n : ℕ) (a b : List (Port S)) : Type 0 where
  pub long : length b ≡ length a
  pub before : (p : ℕ) (d : Port S) → p < n → R (get_or a p d) (get_or b p d)
  pub behind : (p : ℕ) (d : Port S) → n ≤ p → get_or b p d ≡ get_or a p d

-- none so far
pub none_moved : {S : Type 0} (R : Port S → Port S → Type 0) (ports : List (Port S)) → HaveMoved R 0 ports ports
none_moved R ports = record { long = refl; before = λ p d less. absurd (omega (arith, less)); behind = λ p d most. refl }

-- one more has moved
pub moved_step : {S : Type 0} (R : Port S → Port S → Type 0) (n : ℕ) (a b : List (Port S)) (d q : Port S) → n < length b → HaveMoved R n a b → R (get_or b n d) q → HaveMoved R (n + 1) a (set b n q)
moved_step {S} R n a b d q within moved step = record {
  long = length-set b n q ∙ moved.long;
  before = λ r e less. before r e (decide r n) less;
  behind = λ r e more. get_or-set_other b n r q e (λ is. absurd (omega (arith, is, more))) ∙ moved.behind r e (omega (arith, more));
}
  where
    read : (e : Port S) → get_or a n e ≡ get_or b n d
    read e = sym (moved.behind n e (omega arith)) ∙ get_or_any b n e d within

    before : (r : ℕ) (e : Port S) → (r ≡ n) ⊎ (r ≢ n) → r < n + 1 → R (get_or a r e) (get_or (set b n q) r e)
    before r e (inl is) less =
        subst (λ (i : ℕ). R (get_or a i e) (get_or (set b n q) i e)) (sym is)
        (subst (λ (x : Port S). R x (get_or (set b n q) n e)) (sym (read e))
        (subst (λ (x : Port S). R (get_or b n d) x) (sym (get_or-set_same b n q e within)) step))
    before r e (inr off) less =
        subst (λ (x : Port S). R (get_or a r e) x) (sym (get_or-set_other b n r q e off)) (moved.before r e (omega (arith, less, off)))

-- once they all have
pub all_moved : {S : Type 0} (R : Port S → Port S → Type 0) (n : ℕ) (a b : List (Port S)) → length a ≤ n → HaveMoved R n a b → PortsAre R a b
all_moved {S} R n a b most moved = λ p. by p (slice_get_cases a p).1 (slice_get_cases b p).1
  where
    same_read : (xs : List (Port S)) (p : ℕ) (x y : Port S) → p < length xs → get_or xs p x ≡ x → get_or xs p y ≡ x
    same_read [] p x y within at = absurd (omega (arith, within))
    same_read (z ∷ xs) zero x y within at = at
    same_read (z ∷ xs) (suc p) x y within at = same_read xs p x y (omega (arith, within)) at

    by : (p : ℕ) → ((x : Port S) × (p < length a) × (slice_get a p ≡ Some x) × (get_or a p x ≡ x)) ⊎ ((length a ≤ p) × (slice_get a p ≡ None)) → ((x : Port S) × (p < length b) × (slice_get b p ≡ Some x) × (get_or b p x ≡ x)) ⊎ ((length b ≤ p) × (slice_get b p ≡ None)) → AtEach R (slice_get a p) (slice_get b p)
    by p (inl (x, within, was, at)) (inl (y, within', is, at')) =
        let read : get_or a p y ≡ x = same_read a p x y within at in
        subst (λ (o : Option (Port S)). AtEach R o (slice_get b p)) (sym was)
        (subst (λ (o : Option (Port S)). AtEach R (Some x) o) (sym is)
        (subst (λ (q : Port S). R x q) at'
        (subst (λ (q : Port S). R q (get_or b p y)) read (moved.before p y (omega (arith, within, most))))))
    by p (inl (x, within, was, at)) (inr (past, none)) = absurd (omega (arith, within, past, moved.long))
    by p (inr (past, none)) (inl (y, within, is, at)) = absurd (omega (arith, within, past, moved.long))
    by p (inr (past, none)) (inr (past', none')) =
        subst (λ (o : Option (Port S)). AtEach R o (slice_get b p)) (sym none) (subst (λ (o : Option (Port S)). AtEach R None o) (sym none') tt)

-- none of so many of the first ports has anything that went over it
abbrev pub AreNew : {S : Type 0} → (S → Wire → Type 0) → ℕ → List (Port S) → Type 0
AreNew {S} tells n ports = (p : ℕ) (d : Port S) → p < n → PortTells tells (get_or ports p d) new_link

pub new_step : {S : Type 0} (tells : S → Wire → Type 0) (n : ℕ) (ports : List (Port S)) (q : Port S) → n < length ports → AreNew tells n ports → PortTells tells q new_link → AreNew tells (n + 1) (set ports n q)
new_step {S} tells n ports q within new told r d less = by (decide r n)
  where
    by : (r ≡ n) ⊎ (r ≢ n) → PortTells tells (get_or (set ports n q) r d) new_link
    by (inl e) =
        subst (λ (i : ℕ). PortTells tells (get_or (set ports n q) i d) new_link) (sym e) (subst (λ (x : Port S). PortTells tells x new_link) (sym (get_or-set_same ports n q d within)) told)
    by (inr off) = subst (λ (x : Port S). PortTells tells x new_link) (sym (get_or-set_other ports n r q d off)) (new r d (omega (arith, less, off)))

pub all_new : {S : Type 0} (tells : S → Wire → Type 0) (n : ℕ) (ports : List (Port S)) → length ports ≤ n → AreNew tells n ports → PortsTell tells ports new_links
all_new {S} tells n ports most new = λ p. by p (slice_get_cases ports p).1
  where
    by : (p : ℕ) → ((x : Port S) × (p < length ports) × (slice_get ports p ≡ Some x) × (get_or ports p x ≡ x)) ⊎ ((length ports ≤ p) × (slice_get ports p ≡ None)) → TellsAt tells (slice_get ports p) new_link
    by p (inl (x, within, is, at)) = subst (λ (o : Option (Port S)). TellsAt tells o new_link) (sym is) (subst (λ (q : Port S). PortTells tells q new_link) at (new p x (omega (arith, within, most))))
    by p (inr (past, none)) = subst (λ (o : Option (Port S)). TellsAt tells o new_link) (sym none) (refl, refl, refl)

-- ---- a list with one more at its end

pub pushed_cases : {X : Type 0} (xs : List X) (x : X) (n : ℕ) → (slice_get (xs ++ x ∷ []) n ≡ slice_get xs n) ⊎ (slice_get (xs ++ x ∷ []) n ≡ Some x)
pushed_cases [] x zero = inr refl
pushed_cases [] x (suc n) = inl refl
pushed_cases (y ∷ xs) x zero = inl refl
pushed_cases (y ∷ xs) x (suc n) = pushed_cases xs x n

-- one more port over which nothing went
pub one_more_new : {S : Type 0} (tells : S → Wire → Type 0) (ports : List (Port S)) (port : Port S) → PortTells tells port new_link → PortsTell tells ports new_links → PortsTell tells (ports ++ port ∷ []) new_links
one_more_new {S} tells ports port new all = λ p. by p (pushed_cases ports port p)
  where
    by : (p : ℕ) → (slice_get (ports ++ port ∷ []) p ≡ slice_get ports p) ⊎ (slice_get (ports ++ port ∷ []) p ≡ Some port) → TellsAt tells (slice_get (ports ++ port ∷ []) p) new_link
    by p (inl is) = subst (λ (o : Option (Port S)). TellsAt tells o new_link) (sym is) (all p)
    by p (inr is) = subst (λ (o : Option (Port S)). TellsAt tells o new_link) (sym is) new

pub no_ports_new : {S : Type 0} (tells : S → Wire → Type 0) → PortsTell tells [] new_links
no_ports_new tells = λ p. (refl, refl, refl)

-- what is read of a list at a number
pub past : {X : Type 0} (xs : List X) (n i : ℕ) → n ≡ length xs → (i < n → false ≡ true) → slice_get xs i ≡ None
past {X} xs n i long beyond = by (cases_lt i n)
  where
    by : (i < n) ⊎ (n ≤ i) → slice_get xs i ≡ None
    by (inl less) = absurd (true≢false (sym (beyond less)))
    by (inr more) = slice_get_past xs i (omega (arith, long, more))

pub here : {X : Type 0} (xs : List X) (n i : ℕ) (x : X) → n ≡ length xs → i < n → x ≡ get_or xs i x → slice_get xs i ≡ Some x
here xs n i x long within is = slice_get_read xs n i x long within is

-- ---- a session of which no port can do more

pub calm_self : {S : Type 0} (tells : S → Wire → Type 0) (x : Port S) → Calms tells x x
calm_self tells x = record { keeps = λ link told. told; calm = record { reads = λ can. can; writes = λ can. can; sends = λ un. un } }

-- one port has moved so
pub at_one : {S : Type 0} (R : Port S → Port S → Type 0) → ((x : Port S) → R x x) → (ports : List (Port S)) (port : ℕ) (x y : Port S) → slice_get ports port ≡ Some x → R x y → PortsAre R ports (set ports port y)
at_one {S} R same ports port x y was moved = λ p. by p (decide p port)
  where
    own : (o : Option (Port S)) → AtEach R o o
    own None = tt
    own (Some z) = same z

    by : (p : ℕ) → (p ≡ port) ⊎ (p ≢ port) → AtEach R (slice_get ports p) (slice_get (set ports port y) p)
    by p (inl e) =
        subst (λ q. AtEach R (slice_get ports q) (slice_get (set ports port y) q)) (sym e)
        (subst (λ (o : Option (Port S)). AtEach R o (slice_get (set ports port y) port)) (sym was)
        (subst (λ (o : Option (Port S)). AtEach R (Some x) o) (sym (get_set_same ports port y (get_within ports port x was))) moved))
    by p (inr off) = subst (λ (o : Option (Port S)). AtEach R (slice_get ports p) o) (sym (get_set_other ports port p y off)) (own (slice_get ports p))

pub tells_on : {S : Type 0} (tells : S → Wire → Type 0) (R : Port S → Port S → Type 0) → ((x y : Port S) → R x y → Stays (PortTells tells x) (PortTells tells y)) → (a b : List (Port S)) → PortsAre R a b → Stays (PortsTell tells a) (PortsTell tells b)
tells_on {S} tells R on a b each links told = λ p. by (slice_get a p) (slice_get b p) (links p) (each p) (told p)
  where
    by : (o o' : Option (Port S)) (link : Link) → AtEach R o o' → TellsAt tells o link → TellsAt tells o' link
    by None None link e t = t
    by None (Some y) link e t = absurd e
    by (Some x) None link e t = absurd e
    by (Some x) (Some y) link e t = on x y e link t

awaited_before : {S : Type 0} (tells : S → Wire → Type 0) (o o' : Option (Port S)) (link : Link) → AtEach (Calms tells) o o' → IsAwaited o' link → IsAwaited o link
awaited_before tells None None link e w = w
awaited_before tells None (Some y) link e w = absurd e
awaited_before tells (Some x) None link e w = absurd e
awaited_before tells (Some x) (Some y) link e (inl (wait, can)) = inl (wait, e.calm.reads can)
awaited_before tells (Some x) (Some y) link e (inr (wait, can)) = inr (wait, e.calm.writes can)

unsent_before : {S : Type 0} (tells : S → Wire → Type 0) (o o' : Option (Port S)) → AtEach (Calms tells) o o' → IsUnsentAt o' → IsUnsentAt o
unsent_before tells None None e u = u
unsent_before tells None (Some y) e u = absurd e
unsent_before tells (Some x) None e u = absurd e
unsent_before tells (Some x) (Some y) e u = e.calm.sends u

-- it stands where it stood
either_still : (p q p' q' : Bool) → p' ≡ p → q' ≡ q → (p ≡ true) ⊎ (q ≡ true) → (p' ≡ true) ⊎ (q' ≡ true)
either_still p q p' q' first second (inl e) = inl (first ∙ e)
either_still p q p' q' first second (inr e) = inr (second ∙ e)

pub session_stays : {S : Type 0} (tells : S → Wire → Type 0) (a b : Session S) → PortsAre (Calms tells) a.ports.items b.ports.items → IsStill a b → Stays (SessionTells tells a) (SessionTells tells b)
session_stays tells a b each still links told = record {
  ports = tells_on tells (Calms tells) (λ x y c. c.keeps) a.ports.items b.ports.items each links told.ports;
  awaited = λ p w. still.queued ∙ told.awaited p (awaited_before tells (slice_get a.ports.items p) (slice_get b.ports.items p) (links p) (each p) w);
  unsent = λ p u. either_still a.is_queued a.is_written b.is_queued b.is_written still.queued still.written (told.unsent p (unsent_before tells (slice_get a.ports.items p) (slice_get b.ports.items p) (each p) u));
}

-- all that was written is sent, as far as the streams take it
pub session_sent : {S : Type 0} (tells : S → Wire → Type 0) (a b : Session S) → PortsAre (Flushes tells) a.ports.items b.ports.items → IsStill a b → Stays (TellsUnsent tells a) (SessionTells tells b)
session_sent {S} tells a b each still links told = record {
  ports = tells_on tells (Flushes tells) (λ x y c. c.keeps) a.ports.items b.ports.items each links told.0;
  awaited = λ p w. still.queued ∙ told.1 p (before (slice_get a.ports.items p) (slice_get b.ports.items p) (links p) (each p) w);
  unsent = λ p u. absurd (never (slice_get a.ports.items p) (slice_get b.ports.items p) (each p) u);
}
  where
    before : (o o' : Option (Port S)) (link : Link) → AtEach (Flushes tells) o o' → IsAwaited o' link → IsAwaited o link
    before None None link e w = w
    before None (Some y) link e w = absurd e
    before (Some x) None link e w = absurd e
    before (Some x) (Some y) link e (inl (wait, can)) = inl (wait, e.calm.reads can)
    before (Some x) (Some y) link e (inr (wait, can)) = inr (wait, e.calm.writes can)

    never : (o o' : Option (Port S)) → AtEach (Flushes tells) o o' → IsUnsentAt o' → ⊥
    never None None e u = u
    never None (Some y) e u = e
    never (Some x) None e u = e
    never (Some x) (Some y) e u = e.sent u

-- the ports of a session tell these links, and it is to have a turn
pub session_queued : {S : Type 0} (tells : S → Wire → Type 0) (b : Session S) (links : Links) → PortsTell tells b.ports.items links → b.is_queued ≡ true → SessionTells tells b links
session_queued tells b links ports queued = record { ports = ports; awaited = λ p w. queued; unsent = λ p u. inl queued }

-- ---- a session over whose ports nothing went

none_behind : (xs ys : List ℕ) → [] ≡ xs ++ ys → ys ≡ []
none_behind [] ys e = sym e
none_behind (x ∷ xs) ys e = absurd (cc)

new_unsent : {S : Type 0} (tells : S → Wire → Type 0) (port : Port S) → PortTells tells port new_link → IsUnsent port → ⊥
new_unsent {S} tells port told un = by port.stream told
  where
    by : (o : Option S) → PortTellsBy tells o port new_link → ⊥
    by None untouched = absurd (omega (arith, un.1, ap length untouched.outgoing))
    by (Some s) (wire, says, joins) = absurd (omega (arith, un.1, ap length (none_behind wire.sent port.outgoing.bytes joins.sent)))

not_asked : (o : Option LinkGot) → o ≡ None → o ≡ Some got.NotReady → ⊥
not_asked o none some = by (sym none ∙ some)
  where
    by : None ≡ Some got.NotReady → ⊥
    by e = absurd (cc)

not_offered : (o : Option LinkPut) → o ≡ None → o ≡ Some put.NotReady → ⊥
not_offered o none some = by (sym none ∙ some)
  where
    by : None ≡ Some put.NotReady → ⊥
    by e = absurd (cc)

-- where nothing was asked no caller waits
pub none_awaited : {S : Type 0} (o : Option (Port S)) (link : Link) → link.last_read ≡ None → link.last_write ≡ None → IsAwaited o link → ⊥
none_awaited None link r w awaited = awaited
none_awaited (Some port) link r w (inl (wait, can)) = not_asked link.last_read r wait
none_awaited (Some port) link r w (inr (wait, can)) = not_offered link.last_write w wait

pub session_new : {S : Type 0} (tells : S → Wire → Type 0) (b : Session S) → PortsTell tells b.ports.items new_links → SessionTells tells b new_links
session_new {S} tells b told = record {
  ports = told;
  awaited = λ p w. absurd (none_awaited (slice_get b.ports.items p) new_link refl refl w);
  unsent = λ p u. absurd (by (slice_get b.ports.items p) (told p) u);
}
  where
    by : (o : Option (Port S)) → TellsAt tells o new_link → IsUnsentAt o → ⊥
    by None t u = u
    by (Some port) t u = new_unsent tells port t u

-- ---- a read and a write

reads_answer : (into : List ℕ) (r : LinkGot) (a b : Link) → LinkReads into r a b → (b.last_read ≡ Some r) × (b.last_write ≡ a.last_write)
reads_answer into (got.Bytes n) a b step = (ap (λ (l : Link). l.last_read) step.1, ap (λ (l : Link). l.last_write) step.1)
reads_answer into got.NotReady a b step = (ap (λ (l : Link). l.last_read) step.1, ap (λ (l : Link). l.last_write) step.1)
reads_answer into got.End a b step = (ap (λ (l : Link). l.last_read) step, ap (λ (l : Link). l.last_write) step)
reads_answer into got.Failed a b step = (ap (λ (l : Link). l.last_read) step.1, ap (λ (l : Link). l.last_write) step.1)

writes_answer : (from : List ℕ) (r : LinkPut) (a b : Link) → LinkWrites from r a b → (b.last_write ≡ Some r) × (b.last_read ≡ a.last_read)
writes_answer from (put.Took n) a b step = (ap (λ (l : Link). l.last_write) step, ap (λ (l : Link). l.last_read) step)
writes_answer from put.NotReady a b step = (ap (λ (l : Link). l.last_write) step, ap (λ (l : Link). l.last_read) step)
writes_answer from put.Failed a b step = (ap (λ (l : Link). l.last_write) step, ap (λ (l : Link). l.last_read) step)

got_same : (a b : LinkGot) → Some a ≡ Some b → a ≡ b
got_same a b e = cc

put_same : (a b : LinkPut) → Some a ≡ Some b → a ≡ b
put_same a b e = cc

pub session_reads : {S : Type 0} (tells : S → Wire → Type 0) (a b : Session S) (port : ℕ) (x y : Port S) (into : List ℕ) (r : LinkGot) → slice_get a.ports.items port ≡ Some x → b.ports.items ≡ set a.ports.items port y → Moves (PortTells tells x) (PortTells tells y) (LinkReads into r)
    → (r ≡ got.NotReady → (CanRead y → ⊥) ⊎ (b.is_queued ≡ true)) → (CanWrite y → CanWrite x) → (IsUnsent y → IsUnsent x) → b.is_queued ≡ a.is_queued → b.is_written ≡ a.is_written
    → Moves (SessionTells tells a) (SessionTells tells b) (AtPort port (LinkReads into r))
session_reads {S} tells a b port x y into r was is moves waits writes sends queued written links told =
    let moved = at_port tells a.ports.items port x y (LinkReads into r) was moves links told.ports in (
      moved.0,
      record {
        ports = subst (λ ports. PortsTell tells ports moved.0) (sym is) moved.1;
        awaited = λ p w. named p (decide p port) moved.0 moved.2 (subst (λ ports. IsAwaited (slice_get ports p) (moved.0 p)) is w);
        unsent = λ p u. either_still a.is_queued a.is_written b.is_queued b.is_written queued written (told.unsent p (before p (decide p port) (subst (λ ports. IsUnsentAt (slice_get ports p)) is u)));
      },
      moved.2,
    )
  where
    there : slice_get (set a.ports.items port y) port ≡ Some y
    there = get_set_same a.ports.items port y (get_within a.ports.items port x was)

    at_own : (links' : Links) → AtPort port (LinkReads into r) links links' → IsAwaited (Some y) (links' port) → b.is_queued ≡ true
    at_own links' step (inl (wait, can)) = by (waits (got_same r got.NotReady (sym (reads_answer into r (links port) (links' port) step.there).0 ∙ wait)))
      where
        by : (CanRead y → ⊥) ⊎ (b.is_queued ≡ true) → b.is_queued ≡ true
        by (inl never) = absurd (never can)
        by (inr stands) = stands
    at_own links' step (inr (wait, can)) =
        queued ∙ told.awaited port (subst (λ (o : Option (Port S)). IsAwaited o (links port)) (sym was) (inr (sym (reads_answer into r (links port) (links' port) step.there).1 ∙ wait, writes can)))

    named : (p : ℕ) → (p ≡ port) ⊎ (p ≢ port) → (links' : Links) → AtPort port (LinkReads into r) links links' → IsAwaited (slice_get (set a.ports.items port y) p) (links' p) → b.is_queued ≡ true
    named p (inl e) links' step w = at_own links' step (subst (λ (o : Option (Port S)). IsAwaited o (links' port)) there (subst (λ q. IsAwaited (slice_get (set a.ports.items port y) q) (links' q)) e w))
    named p (inr off) links' step w =
        queued ∙ told.awaited p (subst (λ l. IsAwaited (slice_get a.ports.items p) l) (step.others p off) (subst (λ (o : Option (Port S)). IsAwaited o (links' p)) (get_set_other a.ports.items port p y off) w))

    before : (p : ℕ) → (p ≡ port) ⊎ (p ≢ port) → IsUnsentAt (slice_get (set a.ports.items port y) p) → IsUnsentAt (slice_get a.ports.items p)
    before p (inl e) u =
        subst (λ q. IsUnsentAt (slice_get a.ports.items q)) (sym e)
        (subst (λ (o : Option (Port S)). IsUnsentAt o) (sym was)
        (sends (subst (λ (o : Option (Port S)). IsUnsentAt o) there (subst (λ q. IsUnsentAt (slice_get (set a.ports.items port y) q)) e u))))
    before p (inr off) u = subst (λ (o : Option (Port S)). IsUnsentAt o) (get_set_other a.ports.items port p y off) u

pub session_writes : {S : Type 0} (tells : S → Wire → Type 0) (a b : Session S) (port : ℕ) (x y : Port S) (from : List ℕ) (r : LinkPut) → slice_get a.ports.items port ≡ Some x → b.ports.items ≡ set a.ports.items port y → Moves (PortTells tells x) (PortTells tells y) (LinkWrites from r)
    → (r ≡ put.NotReady → (CanWrite y → ⊥) ⊎ (b.is_queued ≡ true)) → (CanRead y → CanRead x) → b.is_queued ≡ a.is_queued → (b.is_queued ≡ true) ⊎ (b.is_written ≡ true)
    → Moves (SessionTells tells a) (SessionTells tells b) (AtPort port (LinkWrites from r))
session_writes {S} tells a b port x y from r was is moves waits reads queued provided links told =
    let moved = at_port tells a.ports.items port x y (LinkWrites from r) was moves links told.ports in (
      moved.0,
      record {
        ports = subst (λ ports. PortsTell tells ports moved.0) (sym is) moved.1;
        awaited = λ p w. named p (decide p port) moved.0 moved.2 (subst (λ ports. IsAwaited (slice_get ports p) (moved.0 p)) is w);
        unsent = λ p u. provided;
      },
      moved.2,
    )
  where
    there : slice_get (set a.ports.items port y) port ≡ Some y
    there = get_set_same a.ports.items port y (get_within a.ports.items port x was)

    at_own : (links' : Links) → AtPort port (LinkWrites from r) links links' → IsAwaited (Some y) (links' port) → b.is_queued ≡ true
    at_own links' step (inl (wait, can)) =
        queued ∙ told.awaited port (subst (λ (o : Option (Port S)). IsAwaited o (links port)) (sym was) (inl (sym (writes_answer from r (links port) (links' port) step.there).1 ∙ wait, reads can)))
    at_own links' step (inr (wait, can)) = by (waits (put_same r put.NotReady (sym (writes_answer from r (links port) (links' port) step.there).0 ∙ wait)))
      where
        by : (CanWrite y → ⊥) ⊎ (b.is_queued ≡ true) → b.is_queued ≡ true
        by (inl never) = absurd (never can)
        by (inr stands) = stands

    named : (p : ℕ) → (p ≡ port) ⊎ (p ≢ port) → (links' : Links) → AtPort port (LinkWrites from r) links links' → IsAwaited (slice_get (set a.ports.items port y) p) (links' p) → b.is_queued ≡ true
    named p (inl e) links' step w = at_own links' step (subst (λ (o : Option (Port S)). IsAwaited o (links' port)) there (subst (λ q. IsAwaited (slice_get (set a.ports.items port y) q) (links' q)) e w))
    named p (inr off) links' step w =
        queued ∙ told.awaited p (subst (λ l. IsAwaited (slice_get a.ports.items p) l) (step.others p off) (subst (λ (o : Option (Port S)). IsAwaited o (links' p)) (get_set_other a.ports.items port p y off) w))

-- at a port that there isn't
pub session_nowhere : {S : Type 0} (tells : S → Wire → Type 0) (a : Session S) (port : ℕ) (Step : Link → Link → Type 0) → slice_get a.ports.items port ≡ None → Moves (PortsTell tells a.ports.items) (PortsTell tells a.ports.items) (AtPort port Step) → Moves (SessionTells tells a) (SessionTells tells a) (AtPort port Step)
session_nowhere {S} tells a port Step none moves links told =
    let moved = moves links told.ports in
    (moved.0, record { ports = moved.1; awaited = λ p w. named p (decide p port) moved.0 moved.2 w; unsent = told.unsent }, moved.2)
  where
    named : (p : ℕ) → (p ≡ port) ⊎ (p ≢ port) → (links' : Links) → AtPort port Step links links' → IsAwaited (slice_get a.ports.items p) (links' p) → a.is_queued ≡ true
    named p (inl e) links' step w = absurd (subst (λ (o : Option (Port S)). IsAwaited o (links' p)) (ap (slice_get a.ports.items) e ∙ none) w)
    named p (inr off) links' step w = told.awaited p (subst (λ l. IsAwaited (slice_get a.ports.items p) l) (step.others p off) w)

-- ---- a session that moved all that it may

pub not_here : {X : Type 0} {o : Option X} (x : X) → o ≡ None → o ≡ Some x → ⊥
not_here {X} {o} x none some = by (sym none ∙ some)
  where
    by : None ≡ Some x → ⊥
    by e = absurd (cc)

pub still_open : {S : Type 0} {o : Option (Port S)} (a x : Port S) → o ≡ Some a → o ≡ Some x → a.receiving ≡ receiving.Ended → x.receiving ≢ receiving.Ended → ⊥
still_open {S} {o} a x first second ended unread = unread (ap (λ (p : Port S). p.receiving) (some_same o x a second first) ∙ ended)

pub none_read : (answer : LinkGot) → ((n : ℕ) → answer ≢ got.Bytes n) → count_read answer ≡ 0
none_read (got.Bytes n) never = absurd (never n refl)
none_read got.NotReady never = refl
none_read got.End never = refl
none_read got.Failed never = refl

pub none_written : (answer : LinkPut) → ((n : ℕ) → answer ≢ put.Took n) → count_written answer ≡ 0
none_written (put.Took n) never = absurd (never n refl)
none_written put.NotReady never = refl
none_written put.Failed never = refl
