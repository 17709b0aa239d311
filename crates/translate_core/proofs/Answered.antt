-- The answer to a frame, by its header.
use Rattle.std.proofs.Common.{◌≡◌, ℕ, List, [], Ok, Err, refl}
use Rattle.protocol_traits.specs.declared.fault.Fault.{Fault}
use Rattle.protocol_traits.specs.Heads.{Header}
use Rattle.translate_verdicts.specs.declared.verdict.Cause.{Cause}
use Rattle.translate_verdicts.specs.Body.{Source, TargetRules}
use Rattle.translate_verdicts.specs.Texts.{cause_text, failure_type}
use Rattle.translate_core.specs.Answers.{answer_of, answer_to}

module _ {S T : Type 0} (source : Source S) (target : TargetRules T) (frame : List ℕ) (cause : Cause) where
  pub answer_err : (f : Fault) → source.reads_head (source.begun frame) ≡ Err f → answer_of source target frame cause ≡ []
  unfolding answer_of
  answer_err f e = rw e refl

  pub answer_ok : (header : Header) (new : S) → source.reads_head (source.begun frame) ≡ Ok (header, new) → answer_of source target frame cause ≡ answer_to source target (cause_text cause) (failure_type cause) (Ok (header, new))
  unfolding answer_of
  answer_ok header new e = rw e refl
