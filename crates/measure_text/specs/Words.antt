-- What the words of the command line name.
use Rattle.std.specs.Prelude.{ℕ, List, Option, Some, None, Bool, if◌then◌else◌, codes, nat_eq}
use Rattle.std.specs.Cmp.Lexicographic.{pointwise}
use Rattle.measure_text.specs.declared.Work.{Work}
use Rattle.measure_text.specs.declared.Work.TheVariants.{ReadText, WriteText, ReadBlob, WriteBlob, Skip}

abbrev pub is : List ℕ → List ℕ → Bool
is word other = pointwise nat_eq word other

abbrev pub work_named : List ℕ → Option Work
work_named word =
    if is word (codes "read_text") then Some ReadText
    else if is word (codes "write_text") then Some WriteText
    else if is word (codes "read_blob") then Some ReadBlob
    else if is word (codes "write_blob") then Some WriteBlob
    else if is word (codes "skip") then Some Skip
    else None
