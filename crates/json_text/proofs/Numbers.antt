-- Numbers at a place.
use Rattle.std.proofs.Common.{◌≡◌, ℕ, ◌+◌, ◌-◌, ◌≤◌, List, length, take, drop, ap, ◌∙◌, arith, length-drop}
use Rattle.std.specs.Prelude.{◌==◌}
use Rattle.std.proofs.lemmas.Bool.Decides.{nat_tests}
use Rattle.std.proofs.lemmas.List.{length-take-le}
use Rattle.std.specs.List.{prefix_len}
use Rattle.json_text.specs.Number.{is_number_byte, number_in, number_run, form_scan, number_at}

by_run : (bytes run : List ℕ) (n : ℕ) → number_run bytes ≡ run → length run ≡ n → number_at bytes ≡ form_scan (number_in run) n (n == length bytes)
unfolding number_at
by_run bytes run n e f = ap (λ r. form_scan (number_in r) (length r) (length r == length bytes)) e ∙ ap (λ k. form_scan (number_in run) k (k == length bytes)) f

-- the run that ends at a place
pub number_to : (bytes : List ℕ) (at stop : ℕ) → at ≤ length bytes → stop ≡ at + prefix_len is_number_byte (drop at bytes) → stop ≤ length bytes
    → number_at (drop at bytes) ≡ form_scan (number_in (take (stop - at) (drop at bytes))) (stop - at) (stop == length bytes)
number_to bytes at stop before is most =
    let e : prefix_len is_number_byte (drop at bytes) ≡ stop - at = omega arith in
    let long : length (take (stop - at) (drop at bytes)) ≡ stop - at = length-take-le (stop - at) (drop at bytes) (omega (arith, length-drop at bytes)) in
    let ends : ((stop - at) == length (drop at bytes)) ≡ (stop == length bytes) = let d = length-drop at bytes in grind (arith, nat_tests) in
    by_run (drop at bytes) (take (stop - at) (drop at bytes)) (stop - at) (ap (λ n. take n (drop at bytes)) e) long
    ∙ ap (form_scan (number_in (take (stop - at) (drop at bytes))) (stop - at)) ends
