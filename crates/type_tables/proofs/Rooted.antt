-- One name more.
use Rattle.std.proofs.Common.{◌≡◌, ℕ, List, [], ◌∷◌, ◌++◌, refl, ap, sym, ◌∙◌, Bool, true, false, Some, None, cond, nat_eq}
use Rattle.std.proofs.lemmas.List.{append-nil}
use Rattle.std.specs.Cmp.Lexicographic.{pointwise}
use Rattle.type_tables.specs.declared.declared.ServiceId.{ServiceId}
use Rattle.type_tables.specs.declared.roots.Root.{Root}
use Rattle.type_tables.specs.Fields.{later}
use Rattle.type_tables.specs.Names.{value_of, name_place}
use Rattle.type_tables.specs.RootCount.{root_of, one_more, root_with, IsRoot}
use Rattle.type_tables.specs.Roots.{dotless, rooted}

one_more_last : (xs : List ServiceId) (s : ServiceId) → one_more (root_of xs) s ≡ root_of (xs ++ s ∷ [])
one_more_last [] s = refl
one_more_last (x ∷ []) s = refl
one_more_last (x ∷ y ∷ xs) s = refl

last_of : Bool → ServiceId → List ServiceId
last_of t s = cond t (s ∷ []) []

rooted_push : (names : List (List ℕ × ServiceId)) (name : List ℕ) (s : ServiceId) → rooted (names ++ (name, s) ∷ []) ≡ rooted names ++ last_of (dotless name) s
unfolding last_of
rooted_push [] name s = refl
rooted_push (e ∷ es) name s = by (dotless e.0) (rooted_push es name s)
  where
    by : (t : Bool) → rooted (es ++ (name, s) ∷ []) ≡ rooted es ++ last_of (dotless name) s →
        cond t (e.1 ∷ rooted (es ++ (name, s) ∷ [])) (rooted (es ++ (name, s) ∷ [])) ≡ cond t (e.1 ∷ rooted es) (rooted es) ++ last_of (dotless name) s
    by true rest = ap (λ (xs : List ServiceId). e.1 ∷ xs) rest
    by false rest = rest

counted : (t : Bool) (xs : List ServiceId) (s : ServiceId) → cond t (one_more (root_of xs) s) (root_of xs) ≡ root_of (xs ++ last_of t s)
unfolding last_of
counted true xs s = one_more_last xs s
counted false xs s = ap root_of (sym (append-nil xs))

pub root_pushed : (names new : List (List ℕ × ServiceId)) (name : List ℕ) (s : ServiceId) (root : Root) → IsRoot root names → new ≡ names ++ (name, s) ∷ [] → IsRoot (root_with root name s) new
root_pushed names new name s root i e =
    ap (λ (r : Root). root_with r name s) i ∙ counted (dotless name) (rooted names) s ∙ ap root_of (sym (rooted_push names name s)) ∙ ap (λ (xs : List (List ℕ × ServiceId)). root_of (rooted xs)) (sym e)

-- where no thing has the name, there is no place of it
pub absent : {X : Type 0} (name : List ℕ) (es : List (List ℕ × X)) → value_of name es ≡ None → name_place name es ≡ None
absent name [] e = refl
absent {X} name (f ∷ es) e = by (pointwise nat_eq name f.0) (absent name es) e
  where
    by : (t : Bool) → (value_of name es ≡ None → name_place name es ≡ None) → cond t (Some f.1) (value_of name es) ≡ None → cond t (Some 0) (later (name_place name es)) ≡ None
    by true rest e = cc
    by false rest e = ap later (rest e)
