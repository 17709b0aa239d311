-- What follows some bytes of any value.
use Rattle.std.specs.Prelude.{ℕ, ◌==◌, if◌then◌else◌}
use Rattle.stream_messages.specs.declared.parts.Next.{Next}
use Rattle.stream_messages.specs.declared.parts.Next.TheVariants as next
use Rattle.stream_messages.specs.declared.parts.Part.TheVariants as part

abbrev pub any_or_end : ℕ → Next
any_or_end bytes = if bytes == 0 then next.Ended else next.Part (part.Any bytes)
