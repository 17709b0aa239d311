-- The help text.
use Rattle.std.specs.Prelude.{ℕ, List, ◌++◌, codes}

-- each command with its words and options, a line each
unfoldable pub help_text : List ℕ
help_text =
    codes "usage: thrift_gate check|convert|show|serve|drill|help\n"
    ++ codes "check FILE\n"
    ++ codes "convert FROM TO [--idl FILE] [--service NAME] [--limit F] [--lines SIDE]\n"
    ++ codes "show FROM [--idl FILE] [--service NAME] [--limit F] [--lines SIDE]\n"
    ++ codes "serve CLIENT UPSTREAM LISTEN TARGET [--idl FILE] [--service NAME] [--limit F] [--sessions N] [--accept C] [--events E] [--calls P] [--unframed SIDE] [--front KIND] [--threads N] [--tell refused]\n"
    ++ codes "route CLIENT UPSTREAM LISTEN TARGETS [--idl FILE] [--limit F] [--sessions N] [--accept C] [--events E] [--calls P] [--threads N] [--tell refused]\n"
    ++ codes "conform FROM --idl FILE [--service NAME] [--limit F]\n"
    ++ codes "drill SEED COUNT\n"
    ++ codes "help\n"
