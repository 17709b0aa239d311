-- The verdict on a message whose header is written with the method's name alone, from its parts.
use Rattle.std.proofs.Common.{◌≡◌, ℕ, List, [], ◌++◌, None, Ok, Err, refl, sym, ap, ◌∙◌, append_assoc}
use Rattle.protocol_traits.specs.declared.fault.Fault.{Fault}
use Rattle.protocol_traits.specs.Heads.{Header}
use Rattle.protocol_traits.specs.Steps.{told}
use Rattle.translate_verdicts.specs.declared.verdict.HeadInfo.{HeadInfo}
use Rattle.translate_verdicts.specs.declared.verdict.Verdict.TheVariants.{Passed, Unread}
use Rattle.translate_verdicts.specs.Positions.{Positions}
use Rattle.translate_verdicts.specs.Body.{Source, TargetRules, going, whole}
use Rattle.translate_verdicts.specs.Judged.{judged, at_end, body_of, IsJudged}
use Rattle.translate_verdicts.proofs.Judging.{passes_at_end}
use Rattle.translate_methods.specs.Methods.{judge_method, after_method, method_header}

module _ {S P T : Type 0} (source : Source S) (positions : Positions P) (start : Header → P) (info : Header → HeadInfo) (target : TargetRules T) (frame : List ℕ) where
  pub method_err : (f : Fault) → source.reads_head (source.begun frame) ≡ Err f → judge_method source positions start info target frame ≡ judged (Unread f) []
  unfolding judge_method
  method_err f e = rw e refl

  pub method_ok : (header : Header) (new : S) → source.reads_head (source.begun frame) ≡ Ok (header, new) → judge_method source positions start info target frame ≡ after_method source positions start info target (Ok (header, new))
  unfolding judge_method
  method_ok header new e = rw e refl

-- a header that is free, and a body that passes whole
module _ {S P T : Type 0} (source : Source S) (positions : Positions P) (start : Header → P) (info : Header → HeadInfo) (target : TargetRules T) (frame : List ℕ) where
  pub passed_method : (header : Header) (new read : S) (first behind : P) (wrote : T) (told_info : HeadInfo) (old mid out added : List ℕ)
      → source.reads_head (source.begun frame) ≡ Ok (header, new) → target.name_bar header.name ≡ None → first ≡ start header → told_info ≡ info header
      → whole source positions target (going new first target.begun 1 None []) ≡ Ok (going read behind wrote 0 None added) → told (source.reads_end read) ≡ Ok tt
      → mid ≡ old ++ target.plain_head (method_header target.name_bar header) → out ≡ mid ++ added → IsJudged (Passed told_info) old out (judge_method source positions start info target frame)
  passed_method header new read first behind wrote told_info old mid out added e free begins tells passes ends front back =
      let body : body_of source positions start info target (header, new) ≡ Ok (going read behind wrote 0 None added) = rw (free, ← begins) passes in
      let done : at_end (info header) None (source.reads_end read) ≡ Passed (info header) = passes_at_end (info header) (source.reads_end read) ends in
      rw (method_ok source positions start info target frame header new e, body, done, free) (
        ap Passed (sym tells),
        back ∙ (ap (λ (bytes : List ℕ). bytes ++ added) front ∙ append_assoc old (target.plain_head (method_header target.name_bar header)) added),
      )
