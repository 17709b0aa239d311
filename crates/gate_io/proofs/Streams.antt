-- Bytes that are read and written one after another, where they are told.
use Rattle.std.proofs.Common.{◌≡◌, ℕ, ◌+◌, ◌-◌, ◌≤◌, List, [], ◌++◌, length, take, drop, arith, refl, sym, ◌∙◌, ap, subst, Option, None, Some, append_assoc, length-append}
use Rattle.std.proofs.lemmas.List.{append-nil, take_at, append_cancel_left, take_all, take-append-drop, take-append-le, length-take-le, length-drop}
use Rattle.std.proofs.Math.Seq.{take-append-add}
use Rattle.std.specs.Io.KnownBytes.{Appends, Consumes, Keeps, append_known}
use Rattle.gate_io.specs.Fronts.{AppendsFront, Flushed}

pub appends_on : (a b c : Option (List ℕ)) (xs ys : List ℕ) → Appends a b xs → Appends b c ys → Appends a c (xs ++ ys)
appends_on None b c xs ys p q = tt
appends_on (Some x) None c xs ys p q = absurd p
appends_on (Some x) (Some y) None xs ys p q = absurd q
appends_on (Some x) (Some y) (Some z) xs ys p q = q ∙ (ap (λ t. t ++ ys) p ∙ append_assoc x xs ys)

pub appends_none : (a : Option (List ℕ)) → Appends a a []
appends_none None = tt
appends_none (Some x) = sym (append-nil x)

pub keeps_same : (a : Option (List ℕ)) → Keeps a a
keeps_same None = tt
keeps_same (Some x) = refl

pub keeps_appends : (a b : Option (List ℕ)) → Keeps a b → Appends a b []
keeps_appends None b p = tt
keeps_appends (Some x) None p = absurd p
keeps_appends (Some x) (Some y) p = p ∙ sym (append-nil x)

pub consumes_on : (a b c : Option (List ℕ)) (xs ys : List ℕ) → Consumes a b xs → Consumes b c ys → Consumes a c (xs ++ ys)
consumes_on None b c xs ys p q = tt
consumes_on (Some x) None c xs ys p q = absurd p
consumes_on (Some x) (Some y) None xs ys p q = absurd q
consumes_on (Some x) (Some y) (Some z) xs ys p q = p ∙ (ap (λ t. xs ++ t) q ∙ sym (append_assoc xs ys z))

pub consumes_none : (a : Option (List ℕ)) → Consumes a a []
consumes_none None = tt
consumes_none (Some x) = refl

pub keeps_consumes : (a b : Option (List ℕ)) → Keeps a b → Consumes a b []
keeps_consumes None b p = tt
keeps_consumes (Some x) None p = absurd p
keeps_consumes (Some x) (Some y) p = sym p

-- all of some bytes is a front of them
pub whole_front : (a b : Option (List ℕ)) (xs : List ℕ) → Appends a b xs → AppendsFront a b xs
whole_front a b xs p = (length xs, omega arith, rw (take_all (length xs) xs (omega arith)) p)

pub none_front : (a b : Option (List ℕ)) (xs : List ℕ) → Appends a b [] → AppendsFront a b xs
none_front a b xs p = (0, omega arith, p)

-- some bytes, and a front of those behind them
pub then_front : (a b c : Option (List ℕ)) (xs ys : List ℕ) → Appends a b xs → AppendsFront b c ys → AppendsFront a c (xs ++ ys)
then_front a b c xs ys p q =
    (length xs + q.0, omega (arith, q.1, length-append xs ys), rw (take-append-add xs ys q.0) (appends_on a b c xs (take q.0 ys) p q.2))

-- a front of some bytes is one of more
pub front_of_more : (a b : Option (List ℕ)) (xs ys : List ℕ) → AppendsFront a b xs → AppendsFront a b (xs ++ ys)
front_of_more a b xs ys p = (p.0, omega (arith, p.1, length-append xs ys), rw (take-append-le p.0 xs ys p.1) p.2)

-- the next piece of what stands from a place on
pub next_piece : (bytes : List ℕ) (at count : ℕ) → at ≤ length bytes → take at bytes ++ take count (take (length bytes - at) (drop at bytes)) ≡ take (at + count) bytes
next_piece bytes at count within =
    let long : length (take at bytes) ≡ at = length-take-le at bytes within in
    let all : take (length bytes - at) (drop at bytes) ≡ drop at bytes = take_all (length bytes - at) (drop at bytes) (omega (arith, length-drop at bytes)) in
    rw all (sym (take-append-add (take at bytes) (drop at bytes) count) ∙ (ap (λ n. take (n + count) (take at bytes ++ drop at bytes)) long ∙ ap (take (at + count)) (take-append-drop at bytes)))

-- ---- bytes that wait

pub waiting_more : (w : Option (List ℕ)) (p xs : List ℕ) → Appends (append_known w p) (append_known w (p ++ xs)) xs
waiting_more None p xs = tt
waiting_more (Some x) p xs = sym (append_assoc x p xs)

pub flush_kept : (a w w' : Option (List ℕ)) (p p' xs : List ℕ) → Appends a (append_known w p) xs → Flushed w p w' p' → Appends a (append_known w' p') xs
flush_kept None w w' p p' xs h f = tt
flush_kept (Some a) None w' p p' xs h f = absurd h
flush_kept (Some a) (Some x) None p p' xs h f = absurd f.1
flush_kept (Some a) (Some x) (Some y) p p' xs h f = ap (λ t. t ++ p') f.1 ∙ (append_assoc x f.0 p' ∙ (ap (λ t. x ++ t) (sym f.2) ∙ h))

pub none_waits : (a w : Option (List ℕ)) (p xs : List ℕ) → p ≡ [] → Appends a (append_known w p) xs → Appends a w xs
none_waits None w p xs e h = tt
none_waits (Some a) None p xs e h = absurd h
none_waits (Some a) (Some x) p xs e h = sym (append-nil x) ∙ (ap (λ t. x ++ t) (sym e) ∙ h)

pub some_wait : (a w : Option (List ℕ)) (p xs : List ℕ) → p ≡ [] → Appends a w xs → Appends a (append_known w p) xs
some_wait None w p xs e h = tt
some_wait (Some a) None p xs e h = absurd h
some_wait (Some a) (Some x) p xs e h = ap (λ t. x ++ t) e ∙ (append-nil x ∙ h)

-- what was sent, and a front of what waited
pub front_of_gathered : (a w w' : Option (List ℕ)) (p sent xs : List ℕ) → Appends a w sent → Appends a (append_known w p) xs → AppendsFront w w' p → AppendsFront a w' xs
front_of_gathered None w w' p sent xs s h f = (0, omega arith, tt)
front_of_gathered (Some a) None w' p sent xs s h f = absurd s
front_of_gathered (Some a) (Some x) w' p sent xs s h f =
    let all : sent ++ p ≡ xs = append_cancel_left a (sent ++ p) xs (sym (append_assoc a sent p) ∙ (ap (λ t. t ++ p) (sym s) ∙ h)) in
    subst (λ (ys : List ℕ). AppendsFront (Some a) w' ys) all (then_front (Some a) (Some x) w' sent p s f)

pub flushed_front : (w w' : Option (List ℕ)) (p p' : List ℕ) → Flushed w p w' p' → AppendsFront w w' p
flushed_front w w' p p' f =
    (length f.0, omega (arith, ap length f.2, length-append f.0 p'), subst (λ (xs : List ℕ). Appends w w' xs) (sym (ap (take (length f.0)) f.2 ∙ take_at f.0 p' (length f.0) refl)) f.1)

-- all that waited was written
pub all_written : (a w w' : Option (List ℕ)) (p xs : List ℕ) → Appends a (append_known w p) xs → Appends w w' p → Appends a w' xs
all_written None w w' p xs h f = tt
all_written (Some a) None w' p xs h f = absurd h
all_written (Some a) (Some x) None p xs h f = absurd f
all_written (Some a) (Some x) (Some y) p xs h f = f ∙ h

-- some bytes more wait
pub one_waits : (w w' : Option (List ℕ)) (p p' xs : List ℕ) → w' ≡ w → p' ≡ p ++ xs → Appends (append_known w p) (append_known w' p') xs
one_waits w w' p p' xs e f =
    subst (λ (v : Option (List ℕ)). Appends (append_known w p) (append_known v p') xs) (sym e)
    (subst (λ (q : List ℕ). Appends (append_known w p) (append_known w q) xs) (sym f) (waiting_more w p xs))

-- what was written at once
pub flushed_all : (w w' : Option (List ℕ)) (p p' : List ℕ) → p' ≡ [] → Appends w w' p → Flushed w p w' p'
flushed_all w w' p p' none f = (p, f, sym (ap (λ t. p ++ t) none ∙ append-nil p))

pub flushed_none : (w : Option (List ℕ)) (p : List ℕ) → Flushed w p w p
flushed_none w p = ([], appends_none w, refl)

-- more bytes wait, or the first were written
pub gathered : (w w' : Option (List ℕ)) (p p' xs : List ℕ) → Flushed w (p ++ xs) w' p' → Appends (append_known w p) (append_known w' p') xs
gathered None w' p p' xs f = tt
gathered (Some x) None p p' xs f = absurd f.1
gathered (Some x) (Some y) p p' xs f =
    ap (λ t. t ++ p') f.1 ∙ (append_assoc x f.0 p' ∙ (ap (λ t. x ++ t) (sym f.2) ∙ sym (append_assoc x p xs)))

-- more bytes wait
pub wait_more : (w : Option (List ℕ)) (p p' xs : List ℕ) → p' ≡ p ++ xs → Flushed w (p ++ xs) w p'
wait_more w p p' xs e = ([], appends_none w, sym e)
