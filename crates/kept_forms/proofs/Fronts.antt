-- The bytes between two places of a frame, what stands behind a test, and where a value of each kind is called for.
use Rattle.std.proofs.Common.{◌≡◌, ℕ, pos, ◌+◌, ◌-◌, ◌≤◌, Bool, true, false, List, [], ◌∷◌, ◌++◌, length, take, drop, get_or, Err, Fits, refl, sym, ap, ◌∙◌, arith}
use Rattle.std.specs.Prelude.{IfOk, nat_lt, if◌then◌else◌}
use Rattle.std.specs.Int.{w8}
use Rattle.std.proofs.lemmas.Bool.Decides.{nat_tests}
use Rattle.std.proofs.lemmas.List.{take-append-drop, get_or-drop, drop-take, take-take}
use Rattle.thrift_value.specs.declared.kind.Kind.{Kind}
use Rattle.protocol_traits.specs.declared.fault.Fault.{Fault}
use Rattle.protocol_traits.specs.declared.forms.Opening.{Opening}
use Rattle.protocol_traits.specs.declared.forms.Opening.TheVariants as openings
use Rattle.protocol_traits.specs.declared.forms.Stand.{Stand}
use Rattle.protocol_traits.specs.declared.forms.Stand.TheVariants as stands
use Rattle.protocol_traits.specs.declared.nest.Slot.{Slot}
use Rattle.protocol_traits.specs.declared.nest.Slot.TheVariants as slots
use Rattle.protocol_traits.specs.Forms.{Calls}
use Rattle.protocol_traits.specs.Steps.{Step}

-- each is a byte
abbrev pub Small : List ℕ → Type 0
Small bytes = (k : ℕ) → Fits w8 (get_or bytes k 0)

pub small_behind : (at : ℕ) (bytes : List ℕ) → Small bytes → Small (drop at bytes)
small_behind at bytes small k = rw (get_or-drop at bytes k 0) (small (at + k))

-- what stands in front of a place, and between it and another
pub parted : (frame : List ℕ) (at behind : ℕ) → at ≤ behind → take behind frame ≡ take at frame ++ take (behind - at) (drop at frame)
parted frame at behind order =
    let whole : at + (behind - at) ≡ behind = omega arith in
    sym (take-append-drop at (take behind frame))
    ∙ ap (λ xs. xs ++ drop at (take behind frame)) (take-take at behind frame order)
    ∙ ap (λ n. take at frame ++ drop at (take n frame)) (sym whole)
    ∙ ap (λ xs. take at frame ++ xs) (drop-take at (behind - at) frame)

-- the bytes between two places are this text
pub laid_there : (frame text : List ℕ) (at behind : ℕ) → at ≤ behind → take (behind - at) (drop at frame) ≡ text → take behind frame ≡ take at frame ++ text
laid_there frame text at behind order is = parted frame at behind order ∙ ap (λ xs. take at frame ++ xs) is

-- so many bytes from a place on are this text
pub laid_on : (frame text : List ℕ) (at count : ℕ) → take count (drop at frame) ≡ text → take (at + count) frame ≡ take at frame ++ text
laid_on frame text at count is =
    let size : at + count - at ≡ count = omega arith in
    laid_there frame text at (at + count) (omega arith) (ap (λ n. take n (drop at frame)) size ∙ is)

-- what isn't a fault: behind a test that would tell one, and behind one that has to hold
pub past : {X : Type 0} (P : X × ℕ → Type 0) (f : Fault) (fails : Bool) (scan : Step ℕ X) → (fails ≡ false → IfOk scan P) → IfOk (if fails then Err f else scan) P
past P f true scan good = tt
past P f false scan good = good refl

pub passed : {X : Type 0} (P : X × ℕ → Type 0) (f : Fault) (holds : Bool) (scan : Step ℕ X) → (holds ≡ true → IfOk scan P) → IfOk (if holds then scan else Err f) P
passed P f true scan good = good refl
passed P f false scan good = tt

pub long_enough : (size most : ℕ) → nat_lt size most ≡ false → most ≤ size
long_enough size most e = grind (arith, nat_tests)

-- a level alone that calls for such a value
pub record Calling (stand : Stand) (kind : Kind) : Type 0 where
  pub opening : Opening
  pub nest : List Slot
  pub calls : Calls stand kind opening nest
  pub alone : length nest ≡ 1

pub calling : (stand : Stand) (kind : Kind) → Calling stand kind
calling stands.Field kind = record { opening = openings.Old; nest = slots.Value kind (pos 0) ∷ []; calls = refl; alone = refl }
calling stands.Element kind = record { opening = openings.Old; nest = slots.Elements kind 1 ∷ []; calls = (refl, omega arith); alone = refl }
calling stands.FirstKey kind = record { opening = openings.New; nest = slots.Keys kind kind 1 ∷ []; calls = (refl, omega arith, refl); alone = refl }
calling stands.Key kind = record { opening = openings.Old; nest = slots.Keys kind kind 1 ∷ []; calls = (refl, omega arith, refl); alone = refl }
calling stands.Value kind = record { opening = openings.Old; nest = slots.Values kind kind 1 ∷ []; calls = refl; alone = refl }
