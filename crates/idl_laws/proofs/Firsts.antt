-- The type of the numbers that a definition takes, which the crate of the schema keeps to itself.
use Rattle.idl_schema.specs.Numbers.{start}

abbrev of_term : {A : Type 0} → A → Type 0
of_term {A} a = A

abbrev pub First : Type 0
First = of_term start
