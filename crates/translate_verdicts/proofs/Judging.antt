-- The verdict from its parts.
use Rattle.std.proofs.Common.{◌≡◌, ℕ, List, [], ◌++◌, length, take, drop, Bool, true, false, None, Ok, Err, refl, sym, ap, ◌∙◌, append_assoc}
use Rattle.std.specs.Prelude.{if◌then◌else◌}
use Rattle.protocol_traits.specs.declared.fault.Fault.{Fault}
use Rattle.protocol_traits.specs.Heads.{Header}
use Rattle.protocol_traits.specs.Steps.{Step, told}
use Rattle.std.proofs.lemmas.List.{append-nil}
use Rattle.std.proofs.Math.Seq.{take-append_seam, drop-append_seam}
use Rattle.translate_verdicts.specs.declared.verdict.HeadInfo.{HeadInfo}
use Rattle.translate_verdicts.specs.declared.verdict.Verdict.{Verdict}
use Rattle.translate_verdicts.specs.declared.verdict.Verdict.TheVariants.{Passed, Refused, Unread}
use Rattle.translate_verdicts.specs.Positions.{Positions}
use Rattle.translate_verdicts.specs.Body.{Source, TargetRules, going, whole}
use Rattle.translate_verdicts.specs.Judged.{judge, judged, after_head, at_end, body_of, kept, IsJudged, IsLeft}

module _ {S P T : Type 0} (source : Source S) (positions : Positions P) (start : Header → P) (info : Header → HeadInfo) (target : TargetRules T) (frame : List ℕ) where
  pub judge_err : (f : Fault) → source.reads_head (source.begun frame) ≡ Err f → judge source positions start info target frame ≡ judged (Unread f) []
  unfolding judge
  judge_err f e = rw e refl

  pub judge_ok : (header : Header) (new : S) → source.reads_head (source.begun frame) ≡ Ok (header, new) → judge source positions start info target frame ≡ after_head source positions start info target (Ok (header, new))
  unfolding judge
  judge_ok header new e = rw e refl

kept_behind : (verdict : Verdict) (front added body : List ℕ) → kept verdict added ≡ kept verdict body → kept verdict (front ++ added) ≡ kept verdict (front ++ body)
kept_behind (Passed info) front added body e = ap (λ (more : List ℕ). front ++ more) e
kept_behind (Refused info cause) front added body e = refl
kept_behind (Unread f) front added body e = refl

written : (barred : Bool) (old head added bytes : List ℕ) → bytes ≡ (if barred then old else old ++ head) ++ added → bytes ≡ old ++ ((if barred then [] else head) ++ added)
written true old head added bytes e = e
written false old head added bytes e = e ∙ append_assoc old head added

pub out_kept : (verdict : Verdict) (barred : Bool) (old head added body bytes : List ℕ) → bytes ≡ (if barred then old else old ++ head) ++ added → kept verdict added ≡ kept verdict body
    → take (length old) bytes ++ kept verdict (drop (length old) bytes) ≡ old ++ kept verdict ((if barred then [] else head) ++ body)
out_kept verdict barred old head added body bytes e same =
    rw (written barred old head added bytes e, take-append_seam, drop-append_seam) (ap (λ (more : List ℕ). old ++ more) (kept_behind verdict _ added body same))

pub out_left : (verdict : Verdict) (barred : Bool) (old head added bytes : List ℕ) → bytes ≡ (if barred then old else old ++ head) ++ added
    → IsLeft verdict old (take (length old) bytes ++ kept verdict (drop (length old) bytes))
out_left (Passed info) barred old head added bytes e = tt
out_left (Refused info cause) barred old head added bytes e =
    append-nil _ ∙ rw (written barred old head added bytes e, take-append_seam) refl
out_left (Unread f) barred old head added bytes e =
    append-nil _ ∙ rw (written barred old head added bytes e, take-append_seam) refl

pub passes_at_end : {S : Type 0} (info : HeadInfo) (r : Step S (Unit {0})) → told r ≡ Ok tt → at_end info None r ≡ Passed info
passes_at_end info (Ok x) e = refl
passes_at_end info (Err f) e = absurd (cc)

-- a header that is free, and a body that passes whole
module _ {S P T : Type 0} (source : Source S) (positions : Positions P) (start : Header → P) (info : Header → HeadInfo) (target : TargetRules T) (frame : List ℕ) where
  pub passed_whole : (header : Header) (new read : S) (first behind : P) (wrote : T) (told_info : HeadInfo) (old mid out added : List ℕ)
      → source.reads_head (source.begun frame) ≡ Ok (header, new) → target.name_bar header.name ≡ None → first ≡ start header → told_info ≡ info header
      → whole source positions target (going new first target.begun 1 None []) ≡ Ok (going read behind wrote 0 None added) → told (source.reads_end read) ≡ Ok tt
      → mid ≡ old ++ target.plain_head header → out ≡ mid ++ added → IsJudged (Passed told_info) old out (judge source positions start info target frame)
  passed_whole header new read first behind wrote told_info old mid out added e free begins tells passes ends front back =
      let body : body_of source positions start info target (header, new) ≡ Ok (going read behind wrote 0 None added) = rw (free, ← begins) passes in
      let done : at_end (info header) None (source.reads_end read) ≡ Passed (info header) = passes_at_end (info header) (source.reads_end read) ends in
      rw (judge_ok source positions start info target frame header new e, body, done, free) (
        ap Passed (sym tells),
        back ∙ (ap (λ (bytes : List ℕ). bytes ++ added) front ∙ append_assoc old (target.plain_head header) added),
      )
