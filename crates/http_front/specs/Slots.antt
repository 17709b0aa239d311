-- The slots of the open sessions.
use Rattle.std.specs.Prelude.{◌≡◌, ◌⊎◌, ℕ, ◌<◌, List, [], ◌∷◌, ◌++◌, Some, true, false}
use Rattle.std.specs.List.{slice_get, remove}
use Rattle.http_front.specs.Fronts.{Front, new_front}
use Rattle.http_front.specs.declared.slots.Slot.{Slot}

-- the slots of the open sessions, and the bytes of a body at the most
pub record Open : Type 0 where
  pub slots : List Slot
  pub limit : ℕ

abbrev pub HasLimit : ℕ → Slot → Type 0
HasLimit limit slot = slot.front.limit ≡ limit

abbrev pub FrontHasLimit : ℕ → Front → Type 0
FrontHasLimit limit front = front.limit ≡ limit

abbrev pub IsUnmarked : Slot → Type 0
IsUnmarked slot = slot.marked ≡ false

-- the numbers rise
abbrev pub IsRising : List Slot → Type 0
IsRising slots = (i j : ℕ) (d e : Slot) → i < j → slice_get slots i ≡ Some d → slice_get slots j ≡ Some e → d.number < e.number

-- the session with this number has a slot, at this place
pub record IsAt (slots : List Slot) (k at : ℕ) (slot : Slot) : Type 0 where
  pub is : slice_get slots at ≡ Some slot
  pub number : slot.number ≡ k

-- no slot is that of the session with this number
abbrev pub HasNone : List Slot → ℕ → Type 0
HasNone slots k = (at : ℕ) (slot : Slot) → IsAt slots k at slot → ⊥

-- the session's slot is marked
abbrev pub IsMarked : List Slot → ℕ → Type 0
IsMarked slots k = (at : ℕ) × (slot : Slot) × IsAt slots k at slot × (slot.marked ≡ true)

-- the slot of a session of which nothing came
abbrev pub new_slot : ℕ → ℕ → Slot
new_slot k limit = record { number = k; marked = false; front = new_front limit }

-- the session got a slot behind those of the others, or none was free
abbrev pub Admits : ℕ → Open → Open → Type 0
Admits k a b = (b ≡ record a { slots = a.slots ++ new_slot k a.limit ∷ [] }) ⊎ (b ≡ a)

-- the session gave its slot back
pub record GaveBack (k : ℕ) (a b : Open) : Type 0 where
  pub at : ℕ
  pub slot : Slot
  pub was : IsAt a.slots k at slot
  pub is : b ≡ record a { slots = remove a.slots at }

-- it gave one back, or had none
abbrev pub Releases : ℕ → Open → Open → Type 0
Releases k a b = GaveBack k a b ⊎ ((IsRising a.slots → HasNone a.slots k) × (b ≡ a))
