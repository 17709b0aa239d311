-- The lines of a command that doesn't start.
use Rattle.std.specs.Prelude.{ℕ, List, ◌++◌, codes}

-- target not found: NAME, before the last line of a hub that failed
unfoldable pub unfound_text : List ℕ → List ℕ
unfound_text name = codes "target not found: " ++ name ++ codes "\n"

unfoldable pub usage_text : List ℕ
usage_text = codes "usage: thrift_gate check|convert|show|serve|drill|help\n"
