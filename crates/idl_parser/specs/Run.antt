-- Things one after another, as long as one may begin.
use Rattle.std.specs.Prelude.{ℕ, zero, suc, ◌+◌, ◌-◌, List, [], ◌∷◌, ◌++◌, Ok, Err, Bool, if◌then◌else◌}
use Rattle.idl_parser.specs.Lexemes.{Scan, syntax_at}
use Rattle.idl_parser.specs.Seen.{Seen}

module _ {Y : Type 0} where
  -- with ys before it, and behind n tokens
  abbrev pub joined : List Y → ℕ → Scan (List Y) → Scan (List Y)
  joined ys n (Ok x) = Ok (ys ++ x.0, n + x.1)
  joined ys n (Err fault) = Err fault

  abbrev pub after_one : Scan (List Y) → (ℕ → Scan (List Y)) → Scan (List Y)
  after_one (Ok x) go = joined x.0 1 (go (x.1 - 1))
  after_one (Err fault) go = Err fault

  -- a list of the one thing
  abbrev pub listed : Scan Y → Scan (List Y)
  listed (Ok x) = Ok (x.0 ∷ [], x.1)
  listed (Err fault) = Err fault

  -- nothing can be read where no token is left
  abbrev pub at_end : ℕ → Scan (List Y) → Scan (List Y)
  at_end edge (Ok x) = syntax_at edge []
  at_end edge (Err fault) = Err fault

  -- each is read by `one` where `more` says that one begins, behind so many tokens that are passed over
  unfoldable pub run : (List Seen → Bool) → (List Seen → Scan (List Y)) → ℕ → List Seen → ℕ → Scan (List Y)
  run more one edge [] skip = if more [] then at_end edge (one []) else Ok ([], 0)
  run more one edge (t ∷ ts) (suc skip) = joined [] 1 (run more one edge ts skip)
  run more one edge (t ∷ ts) zero = if more (t ∷ ts) then after_one (one (t ∷ ts)) (λ skip. run more one edge ts skip) else Ok ([], 0)
