-- The numbers of the sessions, from one event to the next.
use Rattle.std.proofs.Common.{◌≡◌, ◌≢◌, ℕ, ◌+◌, ◌<◌, ◌⊎◌, inl, inr, sym, ap, ◌∙◌, subst, arith}
use Rattle.gate_hub.specs.declared.hub.HubNext.{HubNext}
use Rattle.gate_hub.specs.declared.hub.HubNext.TheVariants as event
use Rattle.mio_edge.specs.Numbers.{AllAnnounced, Passes, Numbers}
use Rattle.mio_edge.proofs.Sessions.{decide}

pub passes_same : (Shared : Type 0) (a b : ℕ) → b ≡ a → Passes Shared a b
passes_same Shared a b same = (omega (arith, same), λ less. absurd (omega (arith, same, less)))

pub passes_on : (Shared : Type 0) (a b c : ℕ) → Passes Shared a b → Passes Shared b c → Passes Shared a c
passes_on Shared a b c first second = (omega (arith, first.0, second.0), by (decide a b))
  where
    by : (a ≡ b) ⊎ (a ≢ b) → a < c → Shared
    by (inl e) less = second.1 (omega (arith, e, less))
    by (inr off) less = first.1 (omega (arith, first.0, off))

-- the event of a later moment
pub numbers_after : (Shared : Type 0) (r : HubNext) (a b c : ℕ) → Passes Shared a b → Numbers Shared r b c → Numbers Shared r a c
numbers_after Shared (event.Opened k) a b c passes numbers = (passes_on Shared a b k passes numbers.0, numbers.1)
numbers_after Shared (event.Ready k) a b c passes numbers = (numbers.0, passes_on Shared a b c passes numbers.1)
numbers_after Shared event.Stopped a b c passes numbers = passes_on Shared a b c passes numbers
numbers_after Shared event.Failed a b c passes numbers = passes_on Shared a b c passes numbers

-- all was announced, or there are others, as before
pub ended_same : (Shared : Type 0) (accept announced accept' announced' : ℕ) → accept' ≡ accept → announced' ≡ announced → AllAnnounced accept announced ⊎ Shared → AllAnnounced accept' announced' ⊎ Shared
ended_same Shared accept announced accept' announced' same also (inl all) = inl (omega (arith, all.0, same), omega (arith, all.1, same, also))
ended_same Shared accept announced accept' announced' same also (inr shared) = inr shared

-- ---- alone at its address, a server leaves no number out

abbrev pub AloneNumbers : HubNext → ℕ → ℕ → Type 0
AloneNumbers (event.Opened k) a b = (k ≡ a) × (b ≡ a + 1)
AloneNumbers (event.Ready k) a b = (k < a) × (b ≡ a)
AloneNumbers event.Stopped a b = b ≡ a
AloneNumbers event.Failed a b = b ≡ a

pub passes_alone : (Shared : Type 0) → (Shared → ⊥) → (a b : ℕ) → Passes Shared a b → b ≡ a
passes_alone Shared none a b passes = by (decide a b)
  where
    by : (a ≡ b) ⊎ (a ≢ b) → b ≡ a
    by (inl e) = sym e
    by (inr off) = absurd (none (passes.1 (omega (arith, passes.0, off))))

pub numbers_alone : (Shared : Type 0) → (Shared → ⊥) → (r : HubNext) (a b : ℕ) → Numbers Shared r a b → AloneNumbers r a b
numbers_alone Shared none (event.Opened k) a b numbers =
    let same : k ≡ a = passes_alone Shared none a k numbers.0 in (same, numbers.1 ∙ ap (λ (n : ℕ). n + 1) same)
numbers_alone Shared none (event.Ready k) a b numbers =
    let same : b ≡ a = passes_alone Shared none a b numbers.1 in (subst (λ (n : ℕ). k < n) same numbers.0, same)
numbers_alone Shared none event.Stopped a b numbers = passes_alone Shared none a b numbers
numbers_alone Shared none event.Failed a b numbers = passes_alone Shared none a b numbers
