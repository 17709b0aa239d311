-- A message that passes, laid into cells of its own.
use Rattle.std.specs.Prelude.{List, [], ℕ}
use Rattle.translate_verdicts.specs.declared.verdict.HeadInfo.{HeadInfo}
use Rattle.translate_verdicts.specs.Judged.{IsPassed, Judged}

-- the verdict is that the message passes, and these are the bytes that are written
abbrev pub IsLaid : List ℕ → Judged → Type 0
IsLaid bytes j = (info : HeadInfo) × IsPassed info [] bytes j
