-- What a frame buffer says of the bytes that it holds.
use Rattle.std.specs.Prelude.{◌≡◌, ℕ, List}
use Rattle.framed_transport.specs.declared.holding.Next.{Next}
use Rattle.framed_transport.specs.declared.holding.Next.TheVariants.{Frame, NeedMore, TooLarge}
use Rattle.framed_transport.specs.Front.{Front, Part, Whole, Large}

-- it says what stands at the front
abbrev pub Tells : Next → Front → Type 0
Tells (Frame frame) f = (rest : List ℕ) × (f ≡ Whole frame.now rest)
Tells NeedMore f = f ≡ Part
Tells (TooLarge n) f = f ≡ Large n
