use Rattle.std.proofs.Common.{arith, ap, length, ◌∷◌, [], length-append}
use Rattle.json_text.specs.Plain.{text_spelling}
use Rattle.json_text.specs.Lengths.{text_long, blob_long}
use Rattle.unit_tests.proofs.json_text_tests.words_are_written.Goals as goal

pub write_text-requires : goal.write_text-requires
write_text-requires g c = let long = text_long (97 ∷ 34 ∷ 1 ∷ []) in omega (arith, ap (λ o. length o.bytes) c.in-Ok.ensures, ap (λ o. o.room) c.in-Ok.ensures)

pub write_blob-requires : goal.write_blob-requires
write_blob-requires g c =
    let long = text_long (97 ∷ 34 ∷ 1 ∷ []) in
    let blob = blob_long (102 ∷ 111 ∷ 111 ∷ 98 ∷ 97 ∷ []) in
    let bytes = length-append c.in-Ok.out.bytes (text_spelling (97 ∷ 34 ∷ 1 ∷ [])) in
    rw c.write_text.ensures (omega (arith, bytes, ap (λ o. length o.bytes) c.in-Ok.ensures, ap (λ o. o.room) c.in-Ok.ensures))
