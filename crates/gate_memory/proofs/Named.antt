-- Texts in a map whose keys are names.
use Rattle.std.proofs.Common.{◌≡◌, ◌≤◌, ℕ, List, [], ◌∷◌, length, refl, ap, ◌∙◌, subst, sym, Bool, true, false, cond, Option, Some, IfSome, nat_eq, Vec, Global}
use Rattle.std.specs.Cmp.Lexicographic.{pointwise}
use Rattle.std.specs.Map.{lookup}
use Rattle.indexmap.specs.IndexMap.{insert_entry}
use Rattle.gate_io.specs.Fetching.{longest_file}
use Rattle.gate_memory.specs.Files.{AllShort, by_name, text_of, with_text}

pub found : (es : List (Vec ℕ Global × List ℕ)) (name : List ℕ) → lookup (λ k. pointwise nat_eq name k.items) es ≡ text_of (by_name es) name
found [] name = refl
found (e ∷ es) name = ap (λ (rest : Option (List ℕ)). cond (pointwise nat_eq name e.0.items) (Some e.1) rest) (found es name)

pub inserted : (es : List (Vec ℕ Global × List ℕ)) (key : Vec ℕ Global) (text : List ℕ) →
    by_name (insert_entry (λ x y. pointwise nat_eq x.items y.items) es key text) ≡ with_text (by_name es) key.items text
inserted [] key text = refl
inserted (e ∷ es) key text = by (inserted es key text) (pointwise nat_eq key.items e.0.items)
  where
    by : by_name (insert_entry (λ x y. pointwise nat_eq x.items y.items) es key text) ≡ with_text (by_name es) key.items text → (t : Bool) → by_name (cond t ((e.0, text) ∷ es) (e ∷ insert_entry (λ x y. pointwise nat_eq x.items y.items) es key text))
        ≡ cond t ((e.0.items, text) ∷ by_name es) ((e.0.items, e.1) ∷ with_text (by_name es) key.items text)
    by rest true = refl
    by rest false = ap (λ (es : List (List ℕ × List ℕ)). (e.0.items, e.1) ∷ es) rest

-- the files after a text was put
pub putted : (es new : List (Vec ℕ Global × List ℕ)) (key : Vec ℕ Global) (name text given : List ℕ) →
    new ≡ insert_entry (λ x y. pointwise nat_eq x.items y.items) es key text → key.items ≡ name → text ≡ given → by_name new ≡ with_text (by_name es) name given
putted es new key name text given e k t =
    ap by_name e ∙ inserted es key text ∙ ap (λ (n : List ℕ). with_text (by_name es) n text) k ∙ ap (with_text (by_name es) name) t

pub short_with : (texts : List (List ℕ × List ℕ)) (name text : List ℕ) → AllShort texts → length text ≤ longest_file → AllShort (with_text texts name text)
short_with [] name text s w = (w, tt)
short_with (e ∷ es) name text s w = by (short_with es name text s.1 w) (pointwise nat_eq name e.0)
  where
    by : AllShort (with_text es name text) → (t : Bool) → AllShort (cond t ((e.0, text) ∷ es) (e ∷ with_text es name text))
    by rest true = (w, s.1)
    by rest false = (s.0, rest)

-- and they are all short
pub put_short : (es new : List (Vec ℕ Global × List ℕ)) (key : Vec ℕ Global) (text given : List ℕ) →
    new ≡ insert_entry (λ x y. pointwise nat_eq x.items y.items) es key text → text ≡ given → AllShort (by_name es) → length given ≤ longest_file → AllShort (by_name new)
put_short es new key text given e t s w =
    subst AllShort (sym (putted es new key key.items text given e refl t)) (short_with (by_name es) key.items given s w)

short : (texts : List (List ℕ × List ℕ)) (name : List ℕ) → AllShort texts → IfSome (text_of texts name) (λ t. length t ≤ longest_file)
short [] name s = tt
short (e ∷ es) name s = by (short es name s.1) (pointwise nat_eq name e.0)
  where
    by : IfSome (text_of es name) (λ t. length t ≤ longest_file) → (t : Bool) → IfSome (cond t (Some e.1) (text_of es name)) (λ t. length t ≤ longest_file)
    by rest true = s.0
    by rest false = rest

pub short_text : (es : List (Vec ℕ Global × List ℕ)) (name text : List ℕ) → AllShort (by_name es) → Some text ≡ lookup (λ k. pointwise nat_eq name k.items) es → length text ≤ longest_file
short_text es name text s e =
    let P : Option (List ℕ) → Type 0 = λ o. IfSome o (λ t. length t ≤ longest_file) in
    subst P (sym (e ∙ found es name)) (short (by_name es) name s)
