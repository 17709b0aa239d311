-- Notes, which have no meaning.
use Rattle.std.specs.Prelude.{ℕ, List, [], drop, Ok, Err, ◌+◌, Bool, not, if◌then◌else◌}
use Rattle.idl_parser.specs.Cpp.{id_at, equal_at}
use Rattle.idl_parser.specs.Lexemes.{Scan, onward, mark_at, stands, sep_len}
use Rattle.idl_parser.specs.Marks.{round_close, round_open}
use Rattle.idl_parser.specs.Run.{run}
use Rattle.idl_parser.specs.Seen.{Seen}

-- whether this mark closes nothing here
abbrev pub not_closed : ℕ → List Seen → Bool
not_closed close tokens = not (stands close tokens)

-- a note: a name, a literal where one is given, and a separator where one stands
unfoldable pub note_at : ℕ → List Seen → Scan (Unit {0})
note_at edge tokens =
    onward 0 (id_at edge tokens) λ u n.
    onward n (equal_at edge (drop n tokens)) λ u n.
    Ok (tt, n + sep_len (drop n tokens))

-- what is read has no meaning
abbrev pub nothing : Scan (Unit {0}) → Scan (List (Unit {0}))
nothing (Ok x) = Ok ([], x.1)
nothing (Err fault) = Err fault

abbrev pub one_note : ℕ → List Seen → Scan (List (Unit {0}))
one_note edge tokens = nothing (note_at edge tokens)

-- notes in round brackets, where one stands
unfoldable pub notes_at : ℕ → List Seen → Scan (Unit {0})
notes_at edge tokens =
    if stands round_open tokens then
    (onward 1 (run (not_closed round_close) (one_note edge) edge (drop 1 tokens) 0) λ u n.
    onward n (mark_at round_close edge (drop n tokens)) λ u n.
    Ok (tt, n)
    )
    else Ok (tt, 0)
