-- The order of turns over several steps. Nothing here has to be believed.
use Rattle.std.proofs.Common.{◌≡◌, ◌≢◌, ℕ, ◌⊎◌, inl, inr, List, [], ◌∷◌, ◌++◌, Bool, true, false, Some, refl, sym, ap, ◌∙◌, subst, append_assoc}
use Rattle.std.specs.List.{slice_get}
use Rattle.std.specs.Global.{Vec}
use Rattle.std.proofs.lemmas.List.{append-nil}
use Rattle.mio_edge.specs.Turns.{Has, Pushes, turns_of}
use Rattle.mio_edge.specs.Order.{Grows, LineMoves, MovesUp, AreClosed, MovesOn, SameTurns}
use Rattle.mio_edge.specs.declared.queue.Queue.{Queue}
use Rattle.mio_edge.specs.declared.table.Entry.{Entry}
use Rattle.mio_edge.specs.declared.table.Table.{Table}

-- ---- queues

pub grows_same : (a b : Queue) → b ≡ a → Grows a b
grows_same a b same = record { more = []; items = ap (λ (q : Queue). q.places.items) same ∙ sym (append-nil a.places.items) }

pub grows_by : (place : ℕ) (a b : Queue) (pushed : Bool) → (pushed ≡ true → Pushes place a b) → (pushed ≡ false → b ≡ a) → Grows a b
grows_by place a b true pushes kept = record { more = place ∷ []; items = (pushes refl).items }
grows_by place a b false pushes kept = grows_same a b (kept refl)

-- ---- lists

-- what stands behind r and n once those of f have left it, and then those of g
then_all : (r n x f s g t : List ℕ) → r ++ n ≡ f ++ s → s ++ x ≡ g ++ t → r ++ (n ++ x) ≡ (f ++ g) ++ t
then_all r n x f s g t first second =
    sym (append_assoc r n x) ∙ (ap (λ zs. zs ++ x) first ∙ (append_assoc f s x ∙ (ap (λ zs. f ++ zs) second ∙ sym (append_assoc f g t))))

deep : (n b m x : List ℕ) → (n ++ (b ++ m)) ++ x ≡ n ++ (b ++ (m ++ x))
deep n b m x = append_assoc n (b ++ m) x ∙ ap (λ zs. n ++ zs) (append_assoc b m x)

wide : (n p b m x : List ℕ) → (n ++ p) ++ (b ++ (m ++ x)) ≡ n ++ (p ++ ((b ++ m) ++ x))
wide n p b m x = append_assoc n p (b ++ (m ++ x)) ∙ ap (λ zs. n ++ (p ++ zs)) (sym (append_assoc b m x))

has_some : (xs ys : List ℕ) (x : ℕ) → Has (xs ++ ys) x → Has xs x ⊎ Has ys x
has_some [] ys x has = inr has
has_some (z ∷ xs) ys x (inl e) = inl (inl e)
has_some (z ∷ xs) ys x (inr has) = by (has_some xs ys x has)
  where
    by : Has xs x ⊎ Has ys x → Has (z ∷ xs) x ⊎ Has ys x
    by (inl h) = inl (inr h)
    by (inr h) = inr h

-- ---- no one is overtaken

pub line_on : (f g r b r' b' r'' b'' : List ℕ) → LineMoves f r b r' b' → LineMoves g r' b' r'' b'' → LineMoves (f ++ g) r b r'' b''
line_on f g r b r' b' r'' b'' (n, m, inl first) (p, q, inl second) =
    (n ++ p, m ++ q, inl (record { line = then_all r n p f r' g r'' first.line second.line; waits = second.waits ∙ (ap (λ zs. zs ++ q) first.waits ∙ append_assoc b m q) }))
line_on f g r b r' b' r'' b'' (n, m, inl first) (p, q, inr second) = (
  n ++ p,
  m ++ q,
  inr (record { line = ap (λ zs. r ++ zs) (wide n p b m q ∙ ap (λ zs. n ++ (p ++ (zs ++ q))) (sym first.waits)) ∙ then_all r n (p ++ (b' ++ q)) f r' g r'' first.line second.line }),
)
line_on f g r b r' b' r'' b'' (n, m, inr first) (p, q, inl second) =
    (n, m ++ p, inr (record { line = ap (λ zs. r ++ zs) (sym (deep n b m p)) ∙ then_all r (n ++ (b ++ m)) p f r' g r'' first.line second.line }))
line_on f g r b r' b' r'' b'' (n, m, inr first) (p, q, inr second) = (
  n,
  m ++ (p ++ (b' ++ q)),
  inr (record { line = ap (λ zs. r ++ zs) (sym (deep n b m (p ++ (b' ++ q)))) ∙ then_all r (n ++ (b ++ m)) (p ++ (b' ++ q)) f r' g r'' first.line second.line }),
)

-- places have come last into both queues
pub line_grown : (a b a' b' : Queue) → Grows a a' → Grows b b' → LineMoves [] a.places.items b.places.items a'.places.items b'.places.items
line_grown a b a' b' first second = (first.more, second.more, inl (record { line = sym first.items; waits = second.items }))

-- the first ones have had their turns
pub line_first : (front r r' : List ℕ) (b b' : Queue) → r ≡ front ++ r' → Grows b b' → LineMoves front r b.places.items r' b'.places.items
line_first front r r' b b' is grown = ([], grown.more, inl (record { line = append-nil r ∙ is; waits = grown.items }))

-- those that waited have come back
pub line_recalled : (r b r' b' : List ℕ) → r' ≡ r ++ b → LineMoves [] r b r' b'
line_recalled r b r' b' is = ([], [], inr (record { line = ap (λ zs. r ++ zs) (append-nil b) ∙ sym is }))

pub none_closed : (entries : List Entry) → AreClosed [] entries
none_closed entries = record { none = λ place at e has is. absurd has }

pub closed_on : (f g : List ℕ) (es es' : List Entry) → es' ≡ es → AreClosed f es → AreClosed g es' → AreClosed (f ++ g) es
closed_on f g es es' same first second = record { none = λ place at e has is. by place at e (has_some f g place has) is }
  where
    by : (place at : ℕ) (e : Entry) → Has f place ⊎ Has g place → slice_get es at ≡ Some e → e.place ≢ place
    by place at e (inl has) is = first.none place at e has is
    by place at e (inr has) is = second.none place at e has (subst (λ (xs : List Entry). slice_get xs at ≡ Some e) (sym same) is)

module _ {S : Type 0} where
  pub moves_on_grown : (a b : Table S) → Grows a.ready b.ready → Grows a.behind b.behind → b.entries ≡ a.entries → MovesOn [] a b
  moves_on_grown a b ready behind entries = record { line = line_grown a.ready a.behind b.ready b.behind ready behind; closed = none_closed a.entries.items; entries = entries }

  pub moves_nowhere : (a b : Table S) → b.ready ≡ a.ready → b.behind ≡ a.behind → b.entries ≡ a.entries → MovesOn [] a b
  moves_nowhere a b ready behind entries = moves_on_grown a b (grows_same a.ready b.ready ready) (grows_same a.behind b.behind behind) entries

  pub moves_still : (a : Table S) → MovesOn [] a a
  moves_still a = moves_nowhere a a refl refl refl

  pub moves_on_same : (a b : Table S) → SameTurns a b → MovesOn [] a b
  moves_on_same a b same = moves_nowhere a b same.ready same.behind same.entries

  pub same_turns_on : (a b c : Table S) → SameTurns a b → SameTurns b c → SameTurns a c
  same_turns_on a b c first second = record { ready = second.ready ∙ first.ready; behind = second.behind ∙ first.behind; entries = second.entries ∙ first.entries }

  pub moves_on_recalled : (a b : Table S) → b.ready.places.items ≡ turns_of a → b.entries ≡ a.entries → MovesOn [] a b
  moves_on_recalled a b is entries = record { line = line_recalled a.ready.places.items a.behind.places.items b.ready.places.items b.behind.places.items is; closed = none_closed a.entries.items; entries = entries }

  pub moves_up_on : (f g : List ℕ) (a b c : Table S) → MovesUp f a b → MovesUp g b c → MovesUp (f ++ g) a c
  moves_up_on f g a b c first second =
      line_on f g a.ready.places.items a.behind.places.items b.ready.places.items b.behind.places.items c.ready.places.items c.behind.places.items first second

  pub entries_same : (a b : Table S) → b.entries ≡ a.entries → b.entries.items ≡ a.entries.items
  entries_same a b same = ap (λ (v : Vec Entry). v.items) same

  pub moves_on_further : (f g : List ℕ) (a b c : Table S) → MovesOn f a b → MovesOn g b c → MovesOn (f ++ g) a c
  moves_on_further f g a b c first second = record {
    line = moves_up_on f g a b c first.line second.line;
    closed = closed_on f g a.entries.items b.entries.items (entries_same a b first.entries) first.closed second.closed;
    entries = second.entries ∙ first.entries;
  }
