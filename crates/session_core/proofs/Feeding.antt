-- A session that fits takes bytes, has bytes sent and meets an end.
use Rattle.std.proofs.Common.{◌≡◌, ℕ, zero, suc, ◌+◌, ◌-◌, ◌<◌, ◌≤◌, List, [], ◌∷◌, ◌++◌, length, append_assoc, take, drop, min, arith, refl, sym, ◌∙◌, ap, true}
use Rattle.std.specs.List.{flat_map}
use Rattle.std.proofs.lemmas.List.{take-append-drop, take_all, length-drop}
use Rattle.framed_transport.specs.Frames.{framed}
use Rattle.session_core.specs.Rules.{Rules}
use Rattle.session_core.specs.Standing.{Standing, History}
use Rattle.session_core.specs.Stands.{IsTaken}
use Rattle.session_core.specs.Fits.{Fits}

pub taken_fed : (limit : ℕ) (bytes : List ℕ) (xs : List (List ℕ)) (rest more : List ℕ) → IsTaken limit bytes xs rest → IsTaken limit (bytes ++ more) xs (rest ++ more)
taken_fed limit bytes xs rest more t = record { each = t.each; whole = ap (λ b. b ++ more) t.whole ∙ append_assoc (flat_map framed xs) rest more }

abbrev pub fed_client : (rules : Rules) (limit max_calls : ℕ) (h : History) (s : Standing) (piece : List ℕ) → Fits rules limit max_calls h s → Fits rules limit max_calls (record h { from_client = h.from_client ++ piece }) (record s { client = s.client ++ piece })
fed_client rules limit max_calls h s piece f = record {
  xs = f.xs;
  ys = f.ys;
  lawful = f.lawful;
  client = taken_fed limit h.from_client f.xs s.client piece f.client;
  upstream = f.upstream;
  to_client = f.to_client;
  to_upstream = f.to_upstream;
  calls = f.calls;
  taken = f.taken;
  answered = f.answered;
  client_ended = f.client_ended;
  upstream_ended = f.upstream_ended;
}

abbrev pub fed_upstream : (rules : Rules) (limit max_calls : ℕ) (h : History) (s : Standing) (piece : List ℕ) → Fits rules limit max_calls h s → Fits rules limit max_calls (record h { from_upstream = h.from_upstream ++ piece }) (record s { upstream = s.upstream ++ piece })
fed_upstream rules limit max_calls h s piece f = record {
  xs = f.xs;
  ys = f.ys;
  lawful = f.lawful;
  client = f.client;
  upstream = taken_fed limit h.from_upstream f.ys s.upstream piece f.upstream;
  to_client = f.to_client;
  to_upstream = f.to_upstream;
  calls = f.calls;
  taken = f.taken;
  answered = f.answered;
  client_ended = f.client_ended;
  upstream_ended = f.upstream_ended;
}

pub moved : (before due : List ℕ) (n : ℕ) → (before ++ take n due) ++ drop n due ≡ before ++ due
moved before due n = append_assoc before (take n due) (drop n due) ∙ ap (λ b. before ++ b) (take-append-drop n due)

abbrev pub sent_client : (rules : Rules) (limit max_calls : ℕ) (h : History) (s : Standing) (n : ℕ) → Fits rules limit max_calls h s → Fits rules limit max_calls (record h { to_client = h.to_client ++ take n s.to_client }) (record s { to_client = drop n s.to_client })
sent_client rules limit max_calls h s n f = record {
  xs = f.xs;
  ys = f.ys;
  lawful = f.lawful;
  client = f.client;
  upstream = f.upstream;
  to_client = moved h.to_client s.to_client n ∙ f.to_client;
  to_upstream = f.to_upstream;
  calls = f.calls;
  taken = f.taken;
  answered = f.answered;
  client_ended = f.client_ended;
  upstream_ended = f.upstream_ended;
}

abbrev pub sent_upstream : (rules : Rules) (limit max_calls : ℕ) (h : History) (s : Standing) (n : ℕ) → Fits rules limit max_calls h s → Fits rules limit max_calls (record h { to_upstream = h.to_upstream ++ take n s.to_upstream }) (record s { to_upstream = drop n s.to_upstream })
sent_upstream rules limit max_calls h s n f = record {
  xs = f.xs;
  ys = f.ys;
  lawful = f.lawful;
  client = f.client;
  upstream = f.upstream;
  to_client = f.to_client;
  to_upstream = moved h.to_upstream s.to_upstream n ∙ f.to_upstream;
  calls = f.calls;
  taken = f.taken;
  answered = f.answered;
  client_ended = f.client_ended;
  upstream_ended = f.upstream_ended;
}

abbrev pub ended_client : (rules : Rules) (limit max_calls : ℕ) (h : History) (s : Standing) → Fits rules limit max_calls h s → Fits rules limit max_calls (record h { client_ended = true }) (record s { client_ended = true })
ended_client rules limit max_calls h s f = record {
  xs = f.xs;
  ys = f.ys;
  lawful = f.lawful;
  client = f.client;
  upstream = f.upstream;
  to_client = f.to_client;
  to_upstream = f.to_upstream;
  calls = f.calls;
  taken = f.taken;
  answered = f.answered;
  client_ended = refl;
  upstream_ended = f.upstream_ended;
}

abbrev pub ended_upstream : (rules : Rules) (limit max_calls : ℕ) (h : History) (s : Standing) → Fits rules limit max_calls h s → Fits rules limit max_calls (record h { upstream_ended = true }) (record s { upstream_ended = true })
ended_upstream rules limit max_calls h s f = record {
  xs = f.xs;
  ys = f.ys;
  lawful = f.lawful;
  client = f.client;
  upstream = f.upstream;
  to_client = f.to_client;
  to_upstream = f.to_upstream;
  calls = f.calls;
  taken = f.taken;
  answered = f.answered;
  client_ended = f.client_ended;
  upstream_ended = refl;
}

-- ---- pieces of what is given

take_none : (k : ℕ) → take {A = ℕ} k [] ≡ []
take_none zero = refl
take_none (suc k) = refl

take_on : (n k : ℕ) (bytes : List ℕ) → take n bytes ++ take k (drop n bytes) ≡ take (n + k) bytes
take_on zero k bytes = ap (λ i. take i bytes) (omega arith)
take_on (suc n) k [] = take_none k ∙ sym (take_none (suc n + k))
take_on (suc n) k (x ∷ bytes) =
    let e : suc n + k ≡ suc (n + k) = omega arith in
    ap (λ t. x ∷ t) (take_on n k bytes) ∙ ap (λ i. take i (x ∷ bytes)) (sym e)

-- what is fed of the rest goes on from what was taken
pub take_pieces : (bytes : List ℕ) (n k : ℕ) → n ≤ length bytes → k ≤ length bytes - n → take n bytes ++ take k (take (length bytes - n) (drop n bytes)) ≡ take (n + k) bytes
take_pieces bytes n k within fits =
    let whole : take (length bytes - n) (drop n bytes) ≡ drop n bytes = take_all (length bytes - n) (drop n bytes) (omega (arith, length-drop n bytes)) in
    ap (λ d. take n bytes ++ take k d) whole ∙ take_on n k bytes

pub count_within : (bytes : List ℕ) (taken count room : ℕ) → taken ≤ length bytes → count ≡ min (length (take (length bytes - taken) (drop taken bytes))) room → count ≤ length bytes - taken
count_within bytes taken count room within is =
    let whole : take (length bytes - taken) (drop taken bytes) ≡ drop taken bytes = take_all (length bytes - taken) (drop taken bytes) (omega (arith, length-drop taken bytes)) in
    omega (arith, is, ap length whole, length-drop taken bytes)

rest_length : (bytes : List ℕ) (taken : ℕ) → length (take (length bytes - taken) (drop taken bytes)) ≡ length bytes - taken
rest_length bytes taken =
    let whole : take (length bytes - taken) (drop taken bytes) ≡ drop taken bytes = take_all (length bytes - taken) (drop taken bytes) (omega (arith, length-drop taken bytes)) in
    ap length whole ∙ length-drop taken bytes

-- some bytes are fed while some are left and there is room
pub feeds_some : (bytes : List ℕ) (taken count limit held room : ℕ) → taken < length bytes → room + held ≡ limit + 4 → 0 < room → count ≡ min (length (take (length bytes - taken) (drop taken bytes))) (limit + 4 - held) → 0 < count
feeds_some bytes taken count limit held room left is some fed = omega (arith, left, is, some, fed, rest_length bytes taken)

-- bytes that there is room for are fed at once
pub feeds_whole : (bytes : List ℕ) (taken count limit limit' held held' : ℕ) → taken < length bytes → count ≡ min (length (take (length bytes - taken) (drop taken bytes))) (limit' + 4 - held') → limit' ≡ limit → (taken ≡ 0 → held' ≡ held) → (length bytes + held ≤ limit + 4 → 0 < taken → taken ≡ length bytes) → length bytes + held ≤ limit + 4 → taken + count ≡ length bytes
feeds_whole bytes zero count limit limit' held held' left fed is start whole fits = omega (arith, left, fed, is, start refl, fits, rest_length bytes zero)
feeds_whole bytes (suc n) count limit limit' held held' left fed is start whole fits = absurd (omega (arith, left, whole fits (omega arith)))
