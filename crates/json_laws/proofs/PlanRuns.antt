-- A plan that is run by the scans of its parts: it passes, or meets a fault.
use Rattle.std.proofs.Common.{◌≡◌, ℕ, ◌+◌, ◌≤◌, List, [], length, drop, Ok, Err, refl, ap, ◌∙◌, sym, subst, arith, ◌⊎◌, inl, inr, length-drop}
use Rattle.std.proofs.lemmas.List.{append-nil, drop-drop}
use Rattle.protocol_traits.specs.declared.fault.Fault.{Fault}
use Rattle.json_text.specs.Scan.{is_white}
use Rattle.json_text_laws.proofs.Parts.{Apart, cut_len}
use Rattle.json_protocol.specs.Scan.{Scan, gap, further, shifted, ◌>>=◌}
use Rattle.json_laws.specs.Plans.{Part, extent, Value, StandsAs, reason_of, Plan, done, want}
use Rattle.json_laws.specs.Firsts.{fault_at, there, NoneStandsAs, IsAtFault, Passes, Meets, IsBehind}
use Rattle.json_laws.proofs.Inverse.{is_read, is_fault, bound, shifted_back}
use Rattle.json_laws.proofs.Cut.{gap_within}
use Rattle.json_laws.proofs.Completing.{no_read, bound_fault, shifted_fault, gap_solid}
use Rattle.json_laws.proofs.PartScans.{scan_of, IsProper, read_stands, stands_read}
use Rattle.json_laws.proofs.Extents.{fewer_begin, none_through}
use Rattle.json_laws.proofs.PartFaults.{within, Told, told, one_place}

abbrev pub run : {Y : Type 0} → Plan Y → ℕ → List ℕ → Scan Y
run (done x) n bytes = Ok (x, n)
run (want part plan) n bytes = further n (scan_of part) bytes >>= λ v. run (plan v.0) v.1 bytes

-- each part of the plan is proper
abbrev pub AreProper : {Y : Type 0} → Plan Y → Type 0
AreProper (done x) = Unit {0}
AreProper (want part plan) = IsProper part × ((x : Value part) → AreProper (plan x))

-- ---- what passes is read, and what is read passes

pub passes_read : {Y : Type 0} → (plan : Plan Y) (n : ℕ) (bytes : List ℕ) (y : Y) (past : ℕ) → AreProper plan → Passes plan n bytes y past → run plan n bytes ≡ is_read (y, past)
passes_read {Y} (done x) n bytes y past p s = ap (λ k. is_read (k, n)) s.0 ∙ ap (λ k. is_read (y, k)) s.1
passes_read {Y} (want part plan) n bytes y past p (x, taken, stands, more) =
    let at = there n bytes in
    let read = ap (shifted at) (stands_read part (drop at bytes) x taken p.0 stands) in
    ap (λ s. s >>= λ v. run (plan v.0) v.1 bytes) read ∙ passes_read (plan x) (at + taken) bytes y past (p.1 x) more

pub read_passes : {Y : Type 0} → (plan : Plan Y) (n : ℕ) (bytes : List ℕ) (y : Y) (past : ℕ) → run plan n bytes ≡ is_read (y, past) → Passes plan n bytes y past
read_passes {Y} (done x) n bytes y past e = (ap (λ s. (got s).0) e, ap (λ s. (got s).1) e)
  where
    got : Scan Y → Y × ℕ
    got (Ok z) = z
    got (Err f) = (x, n)
read_passes {Y} (want part plan) n bytes y past e =
    let at = there n bytes in
    let b = bound (further n (scan_of part) bytes) (λ v. run (plan v.0) v.1 bytes) (y, past) e in
    let s = shifted_back at (scan_of part (drop at bytes)) b.0.0 b.0.1 b.1 in
    let more = subst (λ k. run (plan b.0.0) k bytes ≡ is_read (y, past)) (sym s.2) b.2 in
    (b.0.0, s.0, read_stands part (drop at bytes) b.0.0 s.0 s.1, read_passes (plan b.0.0) (at + s.0) bytes y past more)

-- ---- what meets a fault is refused with it, and what is refused meets it

-- how it is told of the part, so many bytes on
at_fault : (part : Part) (at : ℕ) (bytes : List ℕ) (g f : Fault) → IsProper part → at ≤ length bytes → scan_of part (drop at bytes) ≡ is_fault g → IsBehind at g f → IsAtFault part at bytes f
at_fault part at bytes g f proper most e is = by_told (told part (drop at bytes) g proper e)
  where
    none : NoneStandsAs part (drop at bytes)
    none x taken stands = no_read (x, taken) g (sym (stands_read part (drop at bytes) x taken proper stands) ∙ e)

    by_told : Told part (drop at bytes) g → IsAtFault part at bytes f
    by_told (inl (cut, place, some)) =
        let long : at + g.place ≡ length bytes = omega (arith, place, length-drop at bytes, most) in
        inr (none, some, is ∙ ap (λ k. fault_at k g.reason) long ∙ ap (fault_at (length bytes)) cut)
    by_told (inr (reason, inside, nothing)) = inl (g.place, inside, none_through part (drop at bytes) g.place inside nothing, is ∙ ap (fault_at (at + g.place)) reason)

-- and that is all that is told
one_fault : (part : Part) (at : ℕ) (bytes : List ℕ) (f g : Fault) → IsAtFault part at bytes f → IsAtFault part at bytes g → f ≡ g
one_fault part at bytes f g (inl (i, a, none, is)) (inl (j, b, nothing, same)) = is ∙ ap (λ k. fault_at (at + k) (reason_of part)) (one_place part (drop at bytes) i j a b) ∙ sym same
one_fault part at bytes f g (inl (i, a, none, is)) (inr (nothing, (more, x, taken, stands), same)) = absurd (fewer_begin part (extent part (drop at bytes) i) (drop at bytes) none more x taken stands)
one_fault part at bytes f g (inr (nothing, (more, x, taken, stands), same)) (inl (i, a, none, is)) = absurd (fewer_begin part (extent part (drop at bytes) i) (drop at bytes) none more x taken stands)
one_fault part at bytes f g (inr (none, some, is)) (inr (nothing, others, same)) = is ∙ sym same

-- none stands where the part is at fault
none_there : (part : Part) (at : ℕ) (bytes : List ℕ) (f : Fault) → IsAtFault part at bytes f → NoneStandsAs part (drop at bytes)
none_there part at bytes f (inl (i, a, none, is)) x taken stands =
    fewer_begin part (extent part (drop at bytes) i) (drop at bytes) none [] x taken (subst (λ b. StandsAs part b x taken) (sym (append-nil (drop at bytes))) stands)
none_there part at bytes f (inr (none, some, is)) x taken stands = none x taken stands

fault_told : (part : Part) (at : ℕ) (bytes : List ℕ) (f : Fault) → IsProper part → at ≤ length bytes → IsAtFault part at bytes f → shifted at (scan_of part (drop at bytes)) ≡ is_fault f
fault_told part at bytes f proper most h = by_scan (scan_of part (drop at bytes)) refl
  where
    by_scan : (scan : Scan (Value part)) → scan_of part (drop at bytes) ≡ scan → shifted at scan ≡ is_fault f
    by_scan (Ok x) e = absurd (none_there part at bytes f h x.0 x.1 (read_stands part (drop at bytes) x.0 x.1 e))
    by_scan (Err g) e = ap (λ k. is_fault k) (one_fault part at bytes (fault_at (at + g.place) g.reason) f (at_fault part at bytes g (fault_at (at + g.place) g.reason) proper most e refl) h)

stands_within : (part : Part) (at : ℕ) (bytes : List ℕ) (x : Value part) (taken : ℕ) → IsProper part → at ≤ length bytes → StandsAs part (drop at bytes) x taken → at + taken ≤ length bytes
stands_within part at bytes x taken proper most stands = omega (arith, most, within part (drop at bytes) x taken (stands_read part (drop at bytes) x taken proper stands), length-drop at bytes)

pub meets_fault : {Y : Type 0} → (plan : Plan Y) (n : ℕ) (bytes : List ℕ) (f : Fault) → AreProper plan → n ≤ length bytes → Meets plan n bytes f → run plan n bytes ≡ is_fault f
meets_fault {Y} (done x) n bytes f p most s = absurd s
meets_fault {Y} (want part plan) n bytes f p most (inl h) = ap (λ s. s >>= λ v. run (plan v.0) v.1 bytes) (fault_told part (there n bytes) bytes f p.0 (gap_within n bytes most) h)
meets_fault {Y} (want part plan) n bytes f p most (inr (x, taken, stands, more)) =
    let at = there n bytes in
    let read = ap (shifted at) (stands_read part (drop at bytes) x taken p.0 stands) in
    ap (λ s. s >>= λ v. run (plan v.0) v.1 bytes) read ∙ meets_fault (plan x) (at + taken) bytes f (p.1 x) (stands_within part at bytes x taken p.0 (gap_within n bytes most) stands) more

pub fault_meets : {Y : Type 0} → (plan : Plan Y) (n : ℕ) (bytes : List ℕ) (f : Fault) → AreProper plan → n ≤ length bytes → run plan n bytes ≡ is_fault f → Meets plan n bytes f
fault_meets {Y} (done x) n bytes f p most e = absurd (no_read (x, n) f e)
fault_meets {Y} (want part plan) n bytes f p most e = by_scan (λ x k less h. fault_meets (plan x) k bytes f (p.1 x) less h) (bound_fault (further n (scan_of part) bytes) (λ v. run (plan v.0) v.1 bytes) f e)
  where
    at : ℕ
    at = there n bytes

    by_scan : ((x : Value part) (k : ℕ) → k ≤ length bytes → run (plan x) k bytes ≡ is_fault f → Meets (plan x) k bytes f)
        → (further n (scan_of part) bytes ≡ is_fault f) ⊎ ((x : Value part × ℕ) × (further n (scan_of part) bytes ≡ is_read x) × (run (plan x.0) x.1 bytes ≡ is_fault f)) → Meets (want part plan) n bytes f
    by_scan go (inl h) =
        let g = shifted_fault at (scan_of part (drop at bytes)) f h in
        inl (at_fault part at bytes g.0 f p.0 (gap_within n bytes most) g.1 g.2)
    by_scan go (inr (x, read, later)) =
        let s = shifted_back at (scan_of part (drop at bytes)) x.0 x.1 read in
        let stands = read_stands part (drop at bytes) x.0 s.0 s.1 in
        let more = subst (λ k. run (plan x.0) k bytes ≡ is_fault f) (sym s.2) later in
        inr (x.0, s.0, stands, go x.0 (at + s.0) (stands_within part at bytes x.0 s.0 p.0 (gap_within n bytes most) stands) more)

-- what passes ends in the bytes
pub passes_within : {Y : Type 0} → (plan : Plan Y) (n : ℕ) (bytes : List ℕ) (y : Y) (past : ℕ) → AreProper plan → n ≤ length bytes → Passes plan n bytes y past → past ≤ length bytes
passes_within {Y} (done x) n bytes y past p most s = omega (arith, most, s.1)
passes_within {Y} (want part plan) n bytes y past p most (x, taken, stands, more) =
    let at = there n bytes in
    passes_within (plan x) (at + taken) bytes y past (p.1 x) (stands_within part at bytes x taken p.0 (gap_within n bytes most) stands) more

-- ---- the same from another place on

-- no whitespace stands there
pub no_gap : (bytes : List ℕ) → Apart is_white bytes → gap bytes ≡ 0
no_gap bytes apart = cut_len is_white [] bytes tt apart

shifted_none : {X : Type 0} → (scan : Scan X) → shifted 0 scan ≡ scan
shifted_none {X} (Ok x) = ap (λ k. is_read (x.0, k)) (omega arith)
shifted_none {X} (Err f) = ap (λ k. is_fault (fault_at k f.reason)) (omega arith)

pub solid_further : {X : Type 0} → (scan : List ℕ → Scan X) (bytes : List ℕ) → Apart is_white bytes → further 0 scan bytes ≡ scan bytes
solid_further {X} scan bytes apart =
    let none : 0 + gap (drop 0 bytes) ≡ 0 = omega (arith, no_gap bytes apart) in
    ap (λ k. shifted k (scan (drop k bytes))) none ∙ shifted_none (scan bytes)

pub shift_run : {Y : Type 0} → (plan : Plan Y) (at k : ℕ) (bytes : List ℕ) → shifted at (run plan k (drop at bytes)) ≡ run plan (at + k) bytes
shift_run {Y} (done x) at k bytes = refl
shift_run {Y} (want part plan) at k bytes =
    ap (λ l. shifted at (shifted mid (scan_of part l) >>= near)) (drop-drop mid at bytes) ∙ by_scan (λ x m. shift_run (plan x) at m bytes) (scan_of part (drop (at + mid) bytes)) ∙ ap (λ n. shifted n (scan_of part (drop n bytes)) >>= far) same
  where
    mid : ℕ
    mid = k + gap (drop k (drop at bytes))

    near : Value part × ℕ → Scan Y
    near v = run (plan v.0) v.1 (drop at bytes)

    far : Value part × ℕ → Scan Y
    far v = run (plan v.0) v.1 bytes

    same : at + mid ≡ there (at + k) bytes
    same = omega (arith, ap gap (drop-drop k at bytes))

    by_scan : ((x : Value part) (m : ℕ) → shifted at (run (plan x) m (drop at bytes)) ≡ run (plan x) (at + m) bytes) → (scan : Scan (Value part)) → shifted at (shifted mid scan >>= near) ≡ (shifted (at + mid) scan >>= far)
    by_scan go (Ok x) = go x.0 (mid + x.1) ∙ ap (λ n. run (plan x.0) n bytes) (omega arith)
    by_scan go (Err f) = ap (λ n. is_fault (fault_at n f.reason)) (omega arith)

-- the plan begins with a part
abbrev pub Begins : {Y : Type 0} → Plan Y → Type 0
Begins (done x) = ⊥
Begins (want part plan) = Unit {0}

-- where no whitespace stands the scan is the plan's
abbrev pub IsRun : {Y : Type 0} → (List ℕ → Scan Y) → Plan Y → Type 0
IsRun scan plan = (bytes : List ℕ) → Apart is_white bytes → scan bytes ≡ run plan 0 bytes

-- so it is so many bytes on, behind whitespace
pub further_run : {Y : Type 0} → (scan : List ℕ → Scan Y) (plan : Plan Y) (n : ℕ) (bytes : List ℕ) → Begins plan → IsRun scan plan → further n scan bytes ≡ run plan n bytes
further_run {Y} scan (done x) n bytes b is = absurd b
further_run {Y} scan (want part plan) n bytes b is =
    let at = there n bytes in
    let solid = gap_solid n bytes in
    let none : there (at + 0) bytes ≡ at = omega (arith, ap (λ k. gap (drop k bytes)) zero_more, no_gap (drop at bytes) solid) in
    ap (shifted at) (is (drop at bytes) solid) ∙ shift_run (want part plan) at 0 bytes ∙ ap (λ k. shifted k (scan_of part (drop k bytes)) >>= λ v. run (plan v.0) v.1 bytes) none
  where
    zero_more : there n bytes + 0 ≡ there n bytes
    zero_more = omega arith
