use Rattle.std.proofs.Common.{take, rules}
use Rattle.std.proofs.lemmas.Str.{is_utf8-from_IsUtf8}
use Rattle.json_text.proofs.lay.lay_text.Goals.{then-is_ascii-via-then-is_ascii, then-is_ascii-via-else-is_ascii+then-is_utf8}
use Rattle.json_text.proofs.lay.lay_text.Goals as goal

pub returns-then-is_ascii-clause-utf8 : goal.returns-then-is_ascii-clause-utf8
returns-then-is_ascii-clause-utf8 c =
    elim c.then-is_ascii.branch [
      | then-is_ascii-via-then-is_ascii w ↦ c.lay_utf8-behind.ensures.ascii w.if-is_ascii.true
      | then-is_ascii-via-else-is_ascii+then-is_utf8 w ↦ is_utf8-from_IsUtf8 (take c.args.size c.args.bytes.now) (w.is_utf8.ensures.0 (search rules))
    ]
