-- What becomes of a body: item by item, from any reader to any writer.
use Rattle.std.specs.Prelude.{◌≡◌, ℕ, zero, suc, List, [], ◌++◌, Bool, true, false, Option, Some, None, is_some, Result, Ok, Err, ◌==◌, if◌then◌else◌}
use Rattle.protocol_traits.specs.declared.fault.Fault.{Fault}
use Rattle.protocol_traits.specs.declared.fault.Bar.{Bar}
use Rattle.protocol_traits.specs.declared.proto.Hint.{Hint}
use Rattle.protocol_traits.specs.declared.proto.Mark.{Mark}
use Rattle.thrift_value.specs.Items.{Item}
use Rattle.protocol_traits.specs.Heads.{Header}
use Rattle.protocol_traits.specs.Steps.{Step}
use Rattle.protocol_traits.specs.Follow.{depth_after}
use Rattle.protocol_traits.specs.declared.traits.ReadRules.{Ghosts as ReadRules}
use Rattle.protocol_traits.specs.declared.traits.WireWrite.{Ghosts as WriteRules}
use Rattle.gate_io.specs.Buffer.{Buffer}
use Rattle.type_walk.specs.Positions.{Position}
use Rattle.translate_verdicts.specs.Positions.{Positions, typed}
use Rattle.translate_verdicts.specs.declared.verdict.Cause.{Cause}
use Rattle.translate_verdicts.specs.declared.verdict.Cause.TheVariants.{Barred}

-- a source: what its reader answers
pub record Source (S : Type 0) : Type 0 where
  pub begun : List ℕ → S
  pub reads_head : S → Step S Header
  pub reads : S → Hint → Step S Item
  pub reads_end : S → Step S (Unit {0})
  pub place : S → ℕ
  pub ahead : S → ℕ

-- a target: what its writer writes
pub record TargetRules (T : Type 0) : Type 0 where
  pub begun : T
  pub name_bar : List ℕ → Option Bar
  pub plain_head : Header → List ℕ
  pub bar : Item → Mark → Option Bar
  pub plain : T → Item → Mark → List ℕ
  pub after : T → Item → Mark → T

-- only the first bar counts
abbrev pub tried : Bool → Option Bar → Option Bar
tried true found = None
tried false found = found

-- an item is written where neither it nor an earlier one is barred
abbrev pub goes_out : Bool → Option Bar → Bool
goes_out true found = false
goes_out false (Some bar) = false
goes_out false None = true

abbrev pub first_cause : Option Cause → Option Bar → ℕ → Option Cause
first_cause (Some cause) found place = Some cause
first_cause None (Some bar) place = Some (Barred place bar)
first_cause None None place = None

-- the reader, the position and the writer in the middle of a body, the first bar, and the bytes written so far
pub record Going (S P T : Type 0) : Type 0 where
  pub reader : S
  pub walk : P
  pub writer : T
  pub depth : ℕ
  pub cause : Option Cause
  pub bytes : List ℕ

abbrev pub going : {S P T : Type 0} → S → P → T → ℕ → Option Cause → List ℕ → Going S P T
going reader walk writer depth cause bytes = record { reader = reader; walk = walk; writer = writer; depth = depth; cause = cause; bytes = bytes }

-- the end of a body, or the fault that stands in it
abbrev pub Ended : Type 0 → Type 0 → Type 0 → Type 0
Ended S P T = Result (Going S P T) Fault

module _ {S P T : Type 0} (source : Source S) (positions : Positions P) (target : TargetRules T) where
  -- one item has been read, and the reader is in the next state
  abbrev pub moved : Going S P T → Item × S → Going S P T
  moved g x =
      let mark = positions.mark g.walk x.0 in
      let found = tried (is_some g.cause) (target.bar x.0 mark) in
      let out = goes_out (is_some g.cause) (target.bar x.0 mark) in
      record {
        reader = x.1;
        walk = positions.after g.walk x.0;
        writer = if out then target.after g.writer x.0 mark else g.writer;
        depth = depth_after x.0 g.depth;
        cause = first_cause g.cause found (source.place x.1);
        bytes = if out then g.bytes ++ target.plain g.writer x.0 mark else g.bytes;
      }

  abbrev pub next : (Going S P T → Ended S P T) → Going S P T → Step S Item → Ended S P T
  next go g (Ok x) = go (moved g x)
  next go g (Err f) = Err f

  -- at most so many items
  unfoldable pub within : ℕ → Going S P T → Ended S P T
  within zero g = Ok g
  within (suc n) g = if g.depth == 0 then Ok g else next (within n) g (source.reads g.reader (positions.hint g.walk))

  -- to the end of the body
  unfoldable pub whole : Going S P T → Ended S P T
  whole g = within (suc (source.ahead g.reader)) g

module _ {S : Type 0} (begun : List ℕ → S) (reads_head : S → Step S Header) (reads : S → Hint → Step S Item) (reads_end : S → Step S (Unit {0})) (place ahead : S → ℕ) where
  abbrev pub source_of : Source S
  source_of = record { begun = begun; reads_head = reads_head; reads = reads; reads_end = reads_end; place = place; ahead = ahead }

module _ {T : Type 0} (begun : T) (name_bar : List ℕ → Option Bar) (plain_head : Header → List ℕ) (bar : Item → Mark → Option Bar) (plain : T → Item → Mark → List ℕ) (after : T → Item → Mark → T) where
  abbrev pub target_of : TargetRules T
  target_of = record { begun = begun; name_bar = name_bar; plain_head = plain_head; bar = bar; plain = plain; after = after }

-- what the loop answered, with the reader, the walk and the writer as they are then, and how the output has grown
abbrev pub IsEnd : {S P T : Type 0} → Result (Option Cause) Fault → S → P → T → List ℕ → List ℕ → Ended S P T → Type 0
IsEnd (Ok cause) reader walk writer old new end = (added : List ℕ) × (new ≡ old ++ added) × (end ≡ Ok (going reader walk writer 0 cause added))
IsEnd (Err f) reader walk writer old new end = (added : List ℕ) × (new ≡ old ++ added) × (end ≡ Err f)

-- ---- by the rules of any reader and any writer

abbrev pub source_in : {S : Type 0} → ReadRules S → Source S
source_in rules = source_of rules.begun rules.reads_head rules.reads rules.reads_end rules.value_place rules.ahead

abbrev pub target_in : {T : Type 0} → WriteRules T → TargetRules T
target_in rules = target_of rules.begun rules.name_bar rules.plain_head rules.bar rules.plain rules.after

-- these bytes, and an item behind them that neither it nor an earlier one bars
abbrev pub with_item : {T : Type 0} → WriteRules T → Bool → T → Item → Mark → List ℕ → List ℕ
with_item rules barred writer item mark bytes = if goes_out barred (rules.bar item mark) then bytes ++ rules.plain writer item mark else bytes

module _ {S T : Type 0} (reads : ReadRules S) (writes : WriteRules T) where
  -- what becomes of a body whose first item stands next
  abbrev pub ended_from : S → Position → T → Option Cause → Ended S Position T
  ended_from reader position writer cause = whole (source_in reads) typed (target_in writes) (going reader position writer 1 cause [])

  -- the loop over a body whose first item stood next answered this, with the reader, the position and the writer before and after it
  abbrev pub EndsBody : Option Cause → S × Position × T → S × Position × T → Result (Option Cause) Fault → Buffer → Buffer → Type 0
  EndsBody cause before behind answer old new = IsEnd answer behind.0 behind.1 behind.2 old.bytes new.bytes (ended_from before.0 before.1 before.2 cause)
