-- Where a head may be whole: behind an empty line that stands behind its request line.
use Rattle.std.specs.Prelude.{ℕ, List, [], ◌∷◌, ◌==◌, ◌||◌, if◌then◌else◌}
use Rattle.httparse.specs.Ascii.{line_feed, carriage_return}
use Rattle.http_front.specs.declared.look.Look.{Look}
use Rattle.http_front.specs.declared.look.Look.TheVariants as look

abbrev pub sees : Look → ℕ → Look
sees look.Before byte = if byte == line_feed || byte == carriage_return then look.Before else look.Line
sees look.Line byte = if byte == line_feed then look.Ended else look.Line
sees look.Ended byte = if byte == line_feed then look.Whole else if byte == carriage_return then look.Return else look.Line
sees look.Return byte = if byte == line_feed then look.Whole else look.Line
sees look.Whole byte = look.Whole

abbrev pub looked : Look → List ℕ → Look
looked at [] = at
looked at (byte ∷ bytes) = looked (sees at byte) bytes
