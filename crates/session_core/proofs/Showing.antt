-- What shows at once that no frame can be taken.
use Rattle.std.proofs.Common.{◌≡◌, ℕ, ◌<◌, List, [], ◌∷◌, length, arith, refl, ap, Bool, true, false, ◌&&◌, nat_lt, if◌then◌else◌}
use Rattle.std.proofs.lemmas.Bool.Decides.{nat_tests}
use Rattle.framed_transport.specs.Front.{Front, Part, front, is_part}
use Rattle.session_core.specs.Rules.{Rules}
use Rattle.session_core.specs.Standing.{Standing}
use Rattle.session_core.specs.Steps.{Move, Waits, is_none, of_client, client_front, of_upstream, upstream_by, upstream_front, upstream_move}
use Rattle.session_core.specs.declared.judge.Call.{Call}
use Rattle.session_core.proofs.Moves.{some_of}

-- fewer than four bytes are no frame
short_is_part : (limit : ℕ) (bytes : List ℕ) → length bytes < 4 → front limit bytes ≡ Part
unfolding front
short_is_part limit bytes short =
    let test : nat_lt (length bytes) 4 ≡ true = grind (arith, nat_tests) in
    rw test refl

either_waits : (test : Bool) (m : Move) → m ≡ Waits → (if test then m else Waits) ≡ Waits
either_waits true m e = e
either_waits false m e = refl

pub short_client_waits : (rules : Rules) (limit max_calls : ℕ) (s : Standing) → length s.client < 4 → of_client rules limit max_calls s ≡ Waits
unfolding of_client
short_client_waits rules limit max_calls s short =
    either_waits (is_none s.to_upstream && nat_lt (length s.calls) max_calls) (client_front rules s (front limit s.client)) (ap (client_front rules s) (short_is_part limit s.client short))

-- ---- the upstream, which has not ended

owed_waits : (paid part ended : Bool) (m : Move) → paid ≡ false → ended ≡ false → upstream_move paid part ended m ≡ Waits
owed_waits true part ended m owed going = absurd (cc)
owed_waits false true true m owed going = absurd (cc)
owed_waits false true false m owed going = refl
owed_waits false false ended m owed going = refl

part_waits : (paid part ended : Bool) (m : Move) → part ≡ true → ended ≡ false → m ≡ Waits → upstream_move paid part ended m ≡ Waits
part_waits true part ended m short going e = e
part_waits false true true m short going e = absurd (cc)
part_waits false true false m short going e = refl
part_waits false false ended m short going e = refl

owing_by : (rules : Rules) (limit : ℕ) (s : Standing) (calls : List Call) → s.upstream_ended ≡ false → is_none s.to_client ≡ false → upstream_by rules limit s calls ≡ Waits
owing_by rules limit s [] going owed = refl
owing_by rules limit s (call ∷ calls) going owed =
    owed_waits (is_none s.to_client) (is_part (front limit s.upstream)) s.upstream_ended (upstream_front rules s call calls (front limit s.upstream)) owed going

part_stays : (rules : Rules) (s : Standing) (call : Call) (calls : List Call) (f : Front) → s.upstream_ended ≡ false → f ≡ Part → upstream_front rules s call calls f ≡ Waits
part_stays rules s call calls f going e = rw (e, going) refl

short_by : (rules : Rules) (limit : ℕ) (s : Standing) (calls : List Call) → s.upstream_ended ≡ false → length s.upstream < 4 → upstream_by rules limit s calls ≡ Waits
short_by rules limit s [] going short = refl
short_by rules limit s (call ∷ calls) going short =
    let part = short_is_part limit s.upstream short in
    part_waits (is_none s.to_client) (is_part (front limit s.upstream)) s.upstream_ended (upstream_front rules s call calls (front limit s.upstream)) (ap is_part part) going
    (part_stays rules s call calls (front limit s.upstream) going part)

pub owing_upstream_waits : (rules : Rules) (limit : ℕ) (s : Standing) → s.upstream_ended ≡ false → 0 < length s.to_client → of_upstream rules limit s ≡ Waits
unfolding of_upstream
owing_upstream_waits rules limit s going some = owing_by rules limit s s.calls going (some_of s.to_client some)

pub short_upstream_waits : (rules : Rules) (limit : ℕ) (s : Standing) → s.upstream_ended ≡ false → length s.upstream < 4 → of_upstream rules limit s ≡ Waits
unfolding of_upstream
short_upstream_waits rules limit s going short = short_by rules limit s s.calls going short
