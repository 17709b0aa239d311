-- What holds of each port of a list, and of each closed session of a table, one after another.
use Rattle.std.proofs.Common.{◌≡◌, ◌≢◌, ℕ, ◌+◌, ◌<◌, ◌≤◌, ◌⊎◌, inl, inr, List, length, get_or, set, Option, None, Some, sym, ap, ◌∙◌, subst, arith}
use Rattle.std.specs.List.{slice_get}
use Rattle.std.proofs.lemmas.List.{get_or-set_same, get_or-set_other}
use Rattle.std.proofs.lemmas.Bool.{cases_lt}
use Rattle.std.proofs.lemmas.Option.{slice_get_cases, slice_get_past, get_or_from_slice_get}
use Rattle.slab.specs.Slab.{Slab, get}
use Rattle.mio_edge.specs.Sessions.{EachPort}
use Rattle.mio_edge.specs.declared.port.Port.{Port}
use Rattle.mio_edge.specs.declared.session.Session.{Session}
use Rattle.mio_edge.proofs.Sessions.{decide}
use Rattle.mio_edge.proofs.Entries.{some_same}

-- what holds of so many of the first items that are read of a list holds of one more
pub read_step : {X : Type 0} (P : Option X → Type 0) (n : ℕ) (xs : List X) (x : X) → slice_get xs n ≡ Some x → P (Some x) → ((p : ℕ) → p < n → P (slice_get xs p)) → (p : ℕ) → p < n + 1 → P (slice_get xs p)
read_step {X} P n xs x is now before p less = by (decide p n)
  where
    by : (p ≡ n) ⊎ (p ≢ n) → P (slice_get xs p)
    by (inl e) = subst (λ q. P (slice_get xs q)) (sym e) (subst (λ (o : Option X). P o) (sym is) now)
    by (inr off) = before p (omega (arith, less, off))

-- and so of all
pub read_all : {X : Type 0} (P : Option X → Type 0) → P None → (n : ℕ) (xs : List X) → length xs ≤ n → ((p : ℕ) → p < n → P (slice_get xs p)) → (p : ℕ) → P (slice_get xs p)
read_all {X} P none n xs most before p = by (cases_lt p n)
  where
    by : (p < n) ⊎ (n ≤ p) → P (slice_get xs p)
    by (inl less) = before p less
    by (inr more) = subst (λ (o : Option X). P o) (sym (slice_get_past xs p (omega (arith, more, most)))) none

-- so many of the first ports are such
abbrev pub FirstAre : {S : Type 0} → (Port S → Type 0) → ℕ → List (Port S) → Type 0
FirstAre {S} P n ports = (p : ℕ) (d : Port S) → p < n → P (get_or ports p d)

pub first_step : {S : Type 0} (P : Port S → Type 0) (n : ℕ) (ports : List (Port S)) (q : Port S) → n < length ports → FirstAre P n ports → P q → FirstAre P (n + 1) (set ports n q)
first_step {S} P n ports q within before now r d less = by (decide r n)
  where
    by : (r ≡ n) ⊎ (r ≢ n) → P (get_or (set ports n q) r d)
    by (inl e) = subst (λ (i : ℕ). P (get_or (set ports n q) i d)) (sym e) (subst (λ (x : Port S). P x) (sym (get_or-set_same ports n q d within)) now)
    by (inr off) = subst (λ (x : Port S). P x) (sym (get_or-set_other ports n r q d off)) (before r d (omega (arith, less, off)))

pub all_first : {S : Type 0} (P : Port S → Type 0) (n : ℕ) (ports : List (Port S)) → length ports ≤ n → FirstAre P n ports → EachPort P ports
all_first {S} P n ports most before p port is = by (slice_get_cases ports p).1
  where
    no_port : None ≡ Some port → ⊥
    no_port e = absurd (cc)

    by : ((x : Port S) × (p < length ports) × (slice_get ports p ≡ Some x) × (get_or ports p x ≡ x)) ⊎ ((length ports ≤ p) × (slice_get ports p ≡ None)) → P port
    by (inl (x, within, at, read)) = subst (λ (q : Port S). P q) (read ∙ some_same (slice_get ports p) x port at is) (before p x (omega (arith, within, most)))
    by (inr (past, none)) = absurd (no_port (sym none ∙ is))

-- the sessions at so many of the first places of a list are such
abbrev pub FirstClosed : {S : Type 0} → (Session S → Type 0) → ℕ → List ℕ → Slab (Session S) → Type 0
FirstClosed {S} P n places sessions = (i place : ℕ) (session : Session S) → i < n → slice_get places i ≡ Some place → get sessions place ≡ Some session → P session

pub closed_step : {S : Type 0} (P : Session S → Type 0) (n d : ℕ) (places : List ℕ) (sessions : Slab (Session S)) → FirstClosed P n places sessions → ((session : Session S) → get sessions (get_or places n d) ≡ Some session → P session) → FirstClosed P (n + 1) places sessions
closed_step {S} P n d places sessions before now i place session less at is = by (decide i n)
  where
    by : (i ≡ n) ⊎ (i ≢ n) → P session
    by (inl e) = now session (ap (get sessions) (get_or_from_slice_get places n place d (ap (slice_get places) (sym e) ∙ at)) ∙ is)
    by (inr off) = before i place session (omega (arith, less, off)) at is
