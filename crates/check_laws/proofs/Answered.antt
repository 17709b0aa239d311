-- What is opened and checked is what the files' texts are.
use Rattle.std.proofs.Common.{◌≡◌, subst, ℕ, List, Option, Some, Ok, Err, inl, inr}
use Rattle.idl_names.specs.Files.{FileTree}
use Rattle.idl_rules.specs.declared.row.IdlFault.{IdlFault}
use Rattle.idl_files.specs.Walk.{walked}
use Rattle.gate_idl.specs.Opening.{IsOpened, Opened}
use Rattle.gate_streams.specs.Checking.{Checks}
use Rattle.gate_start.specs.Streams.{Streams}
use Rattle.gate_start.specs.Starting.{Halts, IsRead}
use Rattle.gate_start.specs.declared.start.NoStart.{NoStart}
use Rattle.gate_start.specs.declared.start.NoStart.TheVariants as stops
use Rattle.gate_start.specs.declared.status.Ending.{Ending}
use Rattle.check_laws.specs.Answers.{IsAnswered, SaysWhatIs}
use Rattle.check_laws.specs.Held.{AreHeld, IsRefusedText, IsWalked}
use Rattle.check_laws.proofs.Texts.{walk_is_held}

module _ (holds : List ℕ → Option (List ℕ)) where
  held : (root : List ℕ) (files : List FileTree) → walked holds root ≡ Ok files → AreHeld holds files
  held root files e = subst (IsWalked holds) e (walk_is_held holds root)

  refused_there : (root : List ℕ) (fault : IdlFault) → walked holds root ≡ Err fault → IsRefusedText holds fault.file fault.offset fault.row
  refused_there root fault e = subst (IsWalked holds) e (walk_is_held holds root)

  pub answered : (root : List ℕ) (answer : Opened) → IsOpened holds root answer → IsAnswered holds answer
  answered root _ (IsOpened.Unloaded fault e) = IsAnswered.bad_text fault (refused_there root fault e)
  answered root _ (IsOpened.Unlawful files fault e first) = IsAnswered.unlawful files fault (held root files e) first
  answered root _ (IsOpened.Unfit files fault e first misfit) = IsAnswered.unfit files fault (held root files e) first misfit
  answered root _ (IsOpened.Good files e first fit) = IsAnswered.good files (held root files e) first fit

  said : (root : List ℕ) (stop : NoStart) (a b : Streams) (ending : Ending) → IsRead holds root (Err stop) → Halts stop a b ending → SaysWhatIs holds a b ending
  said root (stops.Refused refusal) a b ending r h = inr (inl (record { refusal = refusal; is = answered root (Err refusal) r; told = h }))
  said root stops.UnknownService a b ending r h = absurd r
  said root stops.FileFault a b ending r h = inr (inr (inl h))
  said root stops.OutOfMemory a b ending r h = inr (inr (inr h))

pub check_says : (told : Option (List ℕ → Option (List ℕ))) (file : List ℕ) (before now : ℕ) (a b : Streams) (ending : Ending) → Checks told file before now a b ending → (holds : List ℕ → Option (List ℕ)) → told ≡ Some holds →
    SaysWhatIs holds a b ending
check_says told file before now a b ending (Checks.Good d read cause tells) holds e = inl (record { declared = d; is = answered holds file (Ok d) (read holds e); told = tells })
check_says told file before now a b ending (Checks.Bad stop read cause halts) holds e = said holds file stop a b ending (read holds e) halts
