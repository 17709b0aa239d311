-- The targets of a router, as one word spells them.
use Rattle.std.specs.Prelude.{◌≡◌, ℕ, zero, suc, ◌+◌, ◌-◌, ◌<◌, ◌≤◌, ◌&&◌, ◌||◌, List, [], ◌∷◌, ◌++◌, length, take, drop, Option, Some, None, Bool, true, false, not, if◌then◌else◌, nat_lt, nat_le}
use Rattle.gate_fan.specs.declared.fan.Target.{Target}
use Rattle.decimal_words.specs.Same.{is}
use Rattle.gate_words.specs.Same.{is_empty}
use Rattle.peer_addresses.specs.Addresses.{can_connect_to}
use Rattle.peer_addresses.specs.Places.{place}
use Rattle.gate_words.specs.declared.limits.TheConstants.{MOST_TARGETS}

-- a service's name isn't empty, and has neither a colon (58) nor a comma (44)
abbrev pub is_name : List ℕ → Bool
is_name word = not (is_empty word) && (nat_le (length word) (place 58 word) && nat_le (length word) (place 44 word))

-- NAME=ADDRESS: the first `=` (61) ends the name
abbrev pub target_of : List ℕ → Option Target
target_of word =
    let at = place 61 word in
    if nat_lt at (length word) && (is_name (take at word) && can_connect_to (drop (at + 1) word)) then
    Some (record { service = take at word; address = drop (at + 1) word }) else None

abbrev pub alone : Option Target → Option (List Target)
alone None = None
alone (Some target) = Some (target ∷ [])

abbrev pub before : Target → Option (List Target) → Option (List Target)
before target None = None
before target (Some targets) = Some (target ∷ targets)

abbrev pub and_more : Option Target → Option (List Target) → Option (List Target)
and_more None more = None
and_more (Some target) more = before target more

-- a target, and at most so many more behind commas
abbrev pub targets_within : ℕ → List ℕ → Option (List Target)
targets_within zero word = alone (target_of word)
targets_within (suc more) word =
    if nat_lt (place 44 word) (length word) then
    and_more (target_of (take (place 44 word) word)) (targets_within more (drop (place 44 word + 1) word))
    else alone (target_of word)

abbrev pub has_service : List ℕ → List Target → Bool
has_service name [] = false
has_service name (target ∷ targets) = is name target.service || has_service name targets

-- each target has a name of its own
abbrev pub are_distinct : List Target → Bool
are_distinct [] = true
are_distinct (target ∷ targets) = not (has_service target.service targets) && are_distinct targets

abbrev pub if_distinct : Option (List Target) → Option (List Target)
if_distinct None = None
if_distinct (Some targets) = if are_distinct targets then Some targets else None

-- NAME=ADDRESS, at least one and at most so many, joined by commas
unfoldable pub targets_of : List ℕ → Option (List Target)
targets_of word = if_distinct (targets_within (MOST_TARGETS - 1) word)

-- one at least, and no more than may be
abbrev pub AreFew : List Target → Type 0
AreFew targets = (0 < length targets) × (length targets ≤ MOST_TARGETS)

-- what is added to a list where such targets stand, and whether they do
abbrev pub Adds : Option (List Target) → List Target → List Target → Bool → Type 0
Adds None old new done = done ≡ false
Adds (Some more) old new done = (done ≡ true) × (new ≡ old ++ more)

-- the same for one target
abbrev pub AddsOne : Option Target → List Target → List Target → Bool → Type 0
AddsOne None old new done = done ≡ false
AddsOne (Some target) old new done = (done ≡ true) × (new ≡ old ++ target ∷ [])
