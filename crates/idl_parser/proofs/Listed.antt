-- One more thing in a list, and a scan of a list of one.
use Rattle.std.proofs.Common.{◌≡◌, List, [], ◌∷◌, ◌++◌, map, refl, ap, Err, Bool, true, false, not, sym, ◌∙◌}
use Rattle.idl_parser.specs.declared.fault.Stop.{Stop}
use Rattle.idl_parser.specs.declared.fault.Stop.TheVariants as stops
use Rattle.idl_parser.specs.Lexemes.{Scan, Gives}
use Rattle.idl_parser.specs.Run.{listed}

module _ {X Y : Type 0} (view : X → Y) where
  pub map_push : (xs : List X) (x : X) → map view (xs ++ x ∷ []) ≡ map view xs ++ view x ∷ []
  map_push [] x = refl
  map_push (y ∷ ys) x = ap (λ (zs : List Y). view y ∷ zs) (map_push ys x)

  -- what stopped one thing stops the list of it
  pub stop_listed : (stop : Stop) (scan : Scan Y) → Gives view (Err stop) scan → Gives (λ x. view x ∷ []) (Err stop) (listed scan)
  stop_listed (stops.Fault fault) scan e = ap listed e
  stop_listed stops.OutOfMemory scan e = tt

-- a test turned round
pub turned : (t u : Bool) → u ≡ t → u ≡ true → not t ≡ false
turned t u e f = ap not (sym e ∙ f)

pub kept : (t u : Bool) → u ≡ t → u ≡ false → not t ≡ true
kept t u e f = ap not (sym e ∙ f)
