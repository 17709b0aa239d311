-- What a side of the hub in memory does, exactly.
use Rattle.std.specs.Prelude.{◌≡◌, ℕ, ⊤, ◌<◌, ◌-◌, ◌⊎◌, ◌^◌, List, [], ◌++◌, length, take, drop, min, Bool, true, false, Option, Some, None, if◌then◌else◌}
use Rattle.gate_base.specs.Bytes.{AreBytes}
use Rattle.gate_base.specs.Causes.{one_more}
use Rattle.gate_hub.specs.Meaning.{Link, new_link, unasked}
use Rattle.gate_hub.specs.Hubs.{LinkReads, LinkWrites}
use Rattle.gate_hub.specs.declared.hub.LinkGot.{LinkGot}
use Rattle.gate_hub.specs.declared.hub.LinkGot.TheVariants as got
use Rattle.gate_hub.specs.declared.hub.LinkPut.{LinkPut}
use Rattle.gate_hub.specs.declared.hub.LinkPut.TheVariants as put
use Rattle.gate_memory.specs.declared.link.Change.{Change}
use Rattle.gate_memory.specs.declared.link.Change.TheVariants as change
use Rattle.gate_memory.specs.declared.link.Passed.{Passed}
use Rattle.gate_memory.specs.declared.link.Passed.TheVariants as passed

-- one side: what it tells, what arrived and isn't read, whether the end stands behind that, whether the next call fails, how
-- many more bytes can be written, and its counts
pub record LinkState : Type 0 where
  pub told : Link
  pub ahead : List ℕ
  pub finished : Bool
  pub breaks : Bool
  pub room : ℕ
  pub faults : ℕ
  pub waits : ℕ

-- what was received, and what is to be, are bytes
abbrev pub AreLinkBytes : LinkState → Type 0
AreLinkBytes link = AreBytes link.told.received × AreBytes link.ahead

abbrev pub new_link_state : LinkState
new_link_state = record { told = new_link; ahead = []; finished = false; breaks = false; room = 2 ^ 64 - 1; faults = 0; waits = 0 }

-- a side that has ended says so; else a break goes first; else come the bytes that arrived, and the end behind them
abbrev pub MemoryLinkReads : ℕ → List ℕ → LinkGot → LinkState → LinkState → Type 0
MemoryLinkReads chunk into (got.Bytes n) a b =
    (a.breaks ≡ false) × (n ≡ min (min (length a.ahead) chunk) (length into)) × (take n into ≡ take n a.ahead)
    × (b ≡ record a { told = b.told; ahead = drop n a.ahead })
MemoryLinkReads chunk into got.NotReady a b =
    (a.breaks ≡ false) × (a.ahead ≡ []) × (a.finished ≡ false) × (b ≡ record a { told = b.told; waits = one_more a.waits })
MemoryLinkReads chunk into got.End a b =
    ((a.told.ended ≡ true) ⊎ ((a.breaks ≡ false) × (a.ahead ≡ []) × (a.finished ≡ true))) × (b ≡ record a { told = b.told })
MemoryLinkReads chunk into got.Failed a b =
    (a.breaks ≡ true) × (b ≡ record a { told = b.told; breaks = false; faults = one_more a.faults })

abbrev pub ReadsLink : ℕ → List ℕ → LinkGot → LinkState → LinkState → Type 0
ReadsLink chunk into answer a b = LinkReads into answer a.told b.told × MemoryLinkReads chunk into answer a b

-- a break goes first; else as many bytes are taken as there is room for, or else the growth is refused; `refused` is what
-- the hub counted of those, before and after
abbrev pub MemoryLinkWrites : ℕ → List ℕ → LinkPut → LinkState → LinkState → ℕ → ℕ → Type 0
MemoryLinkWrites chunk from (put.Took n) a b refused refused' =
    (a.breaks ≡ false) × (n ≡ min (min (length from) chunk) a.room) × (refused' ≡ refused)
    × (b ≡ record a { told = b.told; room = a.room - n })
MemoryLinkWrites chunk from put.NotReady a b refused refused' =
    (a.breaks ≡ false) × (a.room ≡ 0) × (refused' ≡ refused) × (b ≡ record a { told = b.told; waits = one_more a.waits })
MemoryLinkWrites chunk from put.Failed a b refused refused' =
    ((a.breaks ≡ true) × (refused' ≡ refused) × (b ≡ record a { told = b.told; breaks = false; faults = one_more a.faults }))
    ⊎ ((a.breaks ≡ false) × (0 < a.room) × (refused' ≡ one_more refused) × (b ≡ record a { told = b.told; faults = one_more a.faults }))

abbrev pub WritesLink : ℕ → List ℕ → LinkPut → ℕ → ℕ → LinkState → LinkState → Type 0
WritesLink chunk from answer refused refused' a b = LinkWrites from answer a.told b.told × MemoryLinkWrites chunk from answer a b refused refused'

-- what the outside does to a side; bytes that arrive after the end are passed over
abbrev pub arrives : List ℕ → LinkState → Option LinkState
arrives bytes link = if link.finished then None else Some (record link { ahead = link.ahead ++ bytes })

abbrev pub finishes : LinkState → Option LinkState
finishes link = Some (record link { finished = true })

abbrev pub gets_room : ℕ → LinkState → Option LinkState
gets_room n link = Some (record link { room = n })

abbrev pub will_break : LinkState → Option LinkState
will_break link = Some (record link { breaks = true })

abbrev pub changed_by : Change → LinkState → Option LinkState
changed_by (change.Arrive bytes) = arrives bytes.now
changed_by change.Finish = finishes
changed_by (change.Room n) = gets_room n
changed_by change.Break = will_break

-- only bytes that arrive need memory
abbrev pub Grows : Change → Type 0
Grows (change.Arrive bytes) = ⊤
Grows change.Finish = ⊥
Grows (change.Room n) = ⊥
Grows change.Break = ⊥

-- the change was made, or passed over
abbrev pub MakesChange : Option LinkState → LinkState → LinkState → Passed → Type 0
MakesChange after a b passed.Performed = after ≡ Some b
MakesChange after a b passed.Over = (after ≡ None) × (b ≡ a)

-- the last answers are none
abbrev pub unasked_link : LinkState → LinkState
unasked_link link = record link { told = unasked link.told }
