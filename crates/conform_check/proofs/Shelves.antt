-- What the open levels are after one shelf was written.
use Rattle.std.proofs.Common.{◌≡◌, ℕ, ℤ, zero, suc, ◌+◌, ◌-◌, ◌<◌, ◌≤◌, List, [], ◌∷◌, ◌++◌, length, Some, refl, ap, ◌∙◌, sym, subst, arith, get_or, slice_set}
use Rattle.std.specs.Prelude.{All, slice_get}
use Rattle.std.proofs.lemmas.List.Elements.{All-append, All-cons}
use Rattle.std.proofs.lemmas.Option.{slice_get-get_or}
use Rattle.conform_check.specs.declared.step.Step.{Step}
use Rattle.conform_check.specs.declared.step.Step.TheVariants as steps
use Rattle.conform_check.specs.Inside.{Inside, advanced, announced, closed, next_step, outer, path_to, top_seen, top_step}
use Rattle.conform_check.specs.Fitting.{Shelved, first_levels, inside_at}

get_same : (shelves : List Shelved) (i : ℕ) (x : Shelved) → i < length shelves → slice_get (slice_set shelves i x) i ≡ Some x
get_same [] i x h = absurd (omega arith)
get_same (s ∷ ss) zero x h = refl
get_same (s ∷ ss) (suc i) x h = get_same ss i x (omega arith)

get_other : (shelves : List Shelved) (i j : ℕ) (x : Shelved) → (j ≡ i → ⊥) → slice_get (slice_set shelves i x) j ≡ slice_get shelves j
get_other [] i j x apart = refl
get_other (s ∷ ss) zero zero x apart = absurd (apart refl)
get_other (s ∷ ss) zero (suc j) x apart = refl
get_other (s ∷ ss) (suc i) zero x apart = refl
get_other (s ∷ ss) (suc i) (suc j) x apart = get_other ss i j x (λ e. apart (ap suc e))

levels_same : (a b : List Shelved) (depth : ℕ) → ((i : ℕ) → i < depth → slice_get b i ≡ slice_get a i) → first_levels b depth ≡ first_levels a depth
levels_same a b zero same = refl
levels_same a b (suc depth) same =
    let below : first_levels b depth ≡ first_levels a depth = levels_same a b depth (λ i h. same i (omega arith)) in
    rw (same depth (omega arith), below) refl

pub length_levels : (shelves : List Shelved) (depth : ℕ) → length (first_levels shelves depth) ≡ depth
length_levels shelves zero = refl
length_levels shelves (suc depth) = ap suc (length_levels shelves depth)

-- the shelf of the level that opens next was written
pub opened_next : (shelves : List Shelved) (depth next : ℕ) (x : Shelved) (inside : Inside) → next ≡ depth + 1 → depth < length shelves → x.inside ≡ inside
    → first_levels (slice_set shelves depth x) next ≡ inside ∷ first_levels shelves depth
opened_next shelves depth next x inside more within is =
    let next_is : next ≡ suc depth = omega (arith, more) in
    let below = levels_same shelves (slice_set shelves depth x) depth (λ i h. get_other shelves depth i x (λ e. omega (arith, e, h))) in
    ap (first_levels (slice_set shelves depth x)) next_is ∙ rw (get_same shelves depth x within, below, is) refl

-- the innermost level, and the others
pub top_is : (shelves : List Shelved) (depth : ℕ) (d : Shelved) → 0 < depth → depth ≤ length shelves → first_levels shelves depth ≡ (get_or shelves (depth - 1) d).inside ∷ first_levels shelves (depth - 1)
top_is shelves zero d some within = absurd (omega arith)
top_is shelves (suc depth) d some within =
    let one : suc depth - 1 ≡ depth = omega arith in
    subst (λ (n : ℕ). first_levels shelves (suc depth) ≡ (get_or shelves n d).inside ∷ first_levels shelves n) (sym one) (rw (slice_get-get_or shelves depth d (omega arith)) refl)

-- the innermost shelf was written
pub top_written : (shelves : List Shelved) (depth : ℕ) (x : Shelved) → 0 < depth → depth ≤ length shelves
    → first_levels (slice_set shelves (depth - 1) x) depth ≡ x.inside ∷ first_levels shelves (depth - 1)
top_written shelves zero x some within = absurd (omega arith)
top_written shelves (suc depth) x some within =
    let one : suc depth - 1 ≡ depth = omega arith in
    subst (λ (n : ℕ). first_levels (slice_set shelves n x) (suc depth) ≡ x.inside ∷ first_levels shelves n) (sym one) (opened_next shelves depth (suc depth) x x.inside (omega arith) (omega arith) refl)

pub advanced_top : (shelves : List Shelved) (depth : ℕ) (d x : Shelved) → 0 < depth → depth ≤ length shelves
    → x.inside ≡ record { step = next_step (get_or shelves (depth - 1) d).inside.step; seen = (get_or shelves (depth - 1) d).inside.seen }
    → first_levels (slice_set shelves (depth - 1) x) depth ≡ advanced (first_levels shelves depth)
advanced_top shelves depth d x some within is =
    top_written shelves depth x some within ∙ (ap (λ (here : Inside). here ∷ first_levels shelves (depth - 1)) is ∙ sym (ap advanced (top_is shelves depth d some within)))

pub announced_top : (shelves : List Shelved) (depth : ℕ) (d x : Shelved) (id : ℤ) → 0 < depth → depth ≤ length shelves
    → x.inside ≡ record { step = steps.Field id; seen = (get_or shelves (depth - 1) d).inside.seen ++ id ∷ [] }
    → first_levels (slice_set shelves (depth - 1) x) depth ≡ announced id (first_levels shelves depth)
announced_top shelves depth d x id some within is =
    top_written shelves depth x some within ∙ (ap (λ (here : Inside). here ∷ first_levels shelves (depth - 1)) is ∙ sym (ap (announced id) (top_is shelves depth d some within)))

pub step_top : (shelves : List Shelved) (depth : ℕ) (d : Shelved) → 0 < depth → depth ≤ length shelves → (get_or shelves (depth - 1) d).inside.step ≡ top_step (first_levels shelves depth)
step_top shelves depth d some within = sym (ap top_step (top_is shelves depth d some within))

pub seen_top : (shelves : List Shelved) (depth : ℕ) (d : Shelved) → 0 < depth → depth ≤ length shelves → (get_or shelves (depth - 1) d).inside.seen ≡ top_seen (first_levels shelves depth)
seen_top shelves depth d some within = sym (ap top_seen (top_is shelves depth d some within))

-- the innermost level was closed
pub closed_top : (shelves : List Shelved) (depth : ℕ) → 0 < depth → closed (first_levels shelves depth) ≡ advanced (first_levels shelves (depth - 1))
closed_top shelves zero some = absurd (omega arith)
closed_top shelves (suc depth) some = let one : suc depth - 1 ≡ depth = omega arith in ap (λ (n : ℕ). advanced (first_levels shelves n)) (sym one)

pub outer_top : (shelves : List Shelved) (depth : ℕ) → 0 < depth → outer (first_levels shelves depth) ≡ first_levels shelves (depth - 1)
outer_top shelves zero some = absurd (omega arith)
outer_top shelves (suc depth) some = let one : suc depth - 1 ≡ depth = omega arith in ap (first_levels shelves) (sym one)

-- ---- paths

pub path_more : (up : List Inside) (a b : List Step) → path_to up (a ++ b) ≡ path_to up a ++ b
path_more [] a b = refl
path_more (here ∷ up) a b = path_more up (here.step ∷ a) b

-- one step more of the path through the first levels
pub path_step : (shelves : List Shelved) (depth : ℕ) (d : Shelved) → depth < length shelves
    → path_to (first_levels shelves depth) [] ++ (get_or shelves depth d).inside.step ∷ [] ≡ path_to (first_levels shelves (depth + 1)) []
path_step shelves depth d within =
    let next : suc depth ≡ depth + 1 = omega arith in
    let here : inside_at (slice_get shelves depth) ≡ (get_or shelves depth d).inside = ap inside_at (slice_get-get_or shelves depth d within) in
    sym (path_more (first_levels shelves depth) [] ((get_or shelves depth d).inside.step ∷ []))
    ∙ ap (λ (i : Inside). path_to (first_levels shelves depth) (i.step ∷ [])) (sym here)
    ∙ ap (λ (n : ℕ). path_to (first_levels shelves n) []) next

-- ---- what is ready

pub ready_none : (width : ℕ) → All (λ (shelf : Shelved). width ≤ shelf.room) []
ready_none width k d h = absurd (omega arith)

pub ready_more : (width : ℕ) (shelves : List Shelved) (x : Shelved) → All (λ (shelf : Shelved). width ≤ shelf.room) shelves → x.room ≡ width → All (λ (shelf : Shelved). width ≤ shelf.room) (shelves ++ x ∷ [])
ready_more width shelves x all is = All-append (λ (shelf : Shelved). width ≤ shelf.room) shelves (x ∷ []) all (All-cons (λ (shelf : Shelved). width ≤ shelf.room) x [] (omega (arith, is)) (ready_none width))
