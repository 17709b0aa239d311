-- What was told is kept: what is open, or the body, tells the events that led to it.
use Rattle.std.specs.Bool.{⊤}
use Rattle.std.proofs.Common.{◌≡◌, ℕ, ℤ, ◌+◌, ◌<◌, ◌≤◌, ◌^◌, List, [], ◌∷◌, ◌++◌, length, refl, sym, ap, ◌∙◌, subst, append_assoc, arith, Bool, true, false, ◌&&◌, nat_lt, nat_eq, if◌then◌else◌, FitsSigned}
use Rattle.std.specs.Int.{w16}
use Rattle.std.proofs.lemmas.List.{append-nil}
use Rattle.std.proofs.lemmas.Bool.Decides.{nat_tests}
use Rattle.thrift_value.specs.declared.kind.Kind.{Kind}
use Rattle.thrift_value.specs.declared.kind.Kind.TheVariants as kinds
use Rattle.value_trees.specs.declared.value.Value.{Value}
use Rattle.value_trees.specs.declared.value.Value.TheVariants as values
use Rattle.value_trees.specs.declared.level.Level.{Level}
use Rattle.value_trees.specs.declared.level.Level.TheVariants as levels
use Rattle.value_trees.specs.declared.level.Start.{Start}
use Rattle.value_trees.specs.declared.level.Start.TheVariants as starts
use Rattle.value_trees.specs.declared.level.LevelChange.{LevelChange}
use Rattle.value_trees.specs.declared.level.LevelChange.TheVariants as turns
use Rattle.thrift_value.specs.Items.{Item, field, stop, bool_value, i8_value, i16_value, i32_value, i64_value, double_value, text, number_text, unknown_text, struct_begin, empty_map, map_begin, set_begin, list_begin, end, uuid_value}
use Rattle.thrift_value.specs.Trees.{Members, Trees, Pairs, no_members, no_trees, no_pairs, items_of, items_of_trees, items_of_pairs, kind_of, count_of_trees, count_of_pairs, IsValue}
use Rattle.value_trees.specs.Views.{tree_of}
use Rattle.value_trees.specs.Gathering.{wants, put, turn_of, Stand, going, over, refused, settled, turned, started, step, onward, run, at_first}
use Rattle.value_trees.specs.Bodies.{IsBody, IsInRange, AreInRange}
use Rattle.value_trees.proofs.Fronts.{front_members, front_trees, front_pairs, members-end, trees-end, pairs-end}
use Rattle.value_trees.proofs.Levels.{level_kind, head_of, inner, IsLevel, IsStack, front, stack-put, front-put}

abbrev pub Holds : Stand → List Item → Type 0
Holds (going []) items = ⊥
Holds (going (l ∷ ls)) items = (front l ls ≡ items) × IsStack l ls
Holds (over fields) items = IsBody items fields
Holds refused items = ⊤

pub settled-at : (v : Value) (l : Level) (ls : List Level) → settled v (l ∷ ls) ≡ (if wants l (kind_of (tree_of v)) then going (put l v ∷ ls) else refused)
settled-at (values.Bool b) l ls = refl
settled-at (values.I8 n) l ls = refl
settled-at (values.I16 n) l ls = refl
settled-at (values.I32 n) l ls = refl
settled-at (values.I64 n) l ls = refl
settled-at (values.Double x) l ls = refl
settled-at (values.Str x) l ls = refl
settled-at (values.Struct x) l ls = refl
settled-at values.EmptyMap l ls = refl
settled-at (values.Map a b x) l ls = refl
settled-at (values.Set a x) l ls = refl
settled-at (values.List a x) l ls = refl
settled-at (values.NumberText x) l ls = refl
settled-at (values.UnknownText x) l ls = refl
settled-at (values.Uuid x) l ls = refl

holds_if : (b : Bool) (v : Value) (l : Level) (ls : List Level) (items : List Item) → wants l (kind_of (tree_of v)) ≡ b → IsValue (tree_of v) → IsStack l ls → front l ls ++ items_of (tree_of v) ≡ items → Holds (if b then going (put l v ∷ ls) else refused) items
holds_if true v l ls items want value stack is = (front-put l v ls want ∙ is, stack-put l v ls want stack value)
holds_if false v l ls items want value stack is = tt

settled-holds : (v : Value) (l : Level) (ls : List Level) (items : List Item) → IsValue (tree_of v) → IsStack l ls → front l ls ++ items_of (tree_of v) ≡ items → Holds (settled v (l ∷ ls)) items
settled-holds v l ls items value stack is = subst (λ (s : Stand). Holds s items) (sym (settled-at v l ls)) (holds_if (wants l (kind_of (tree_of v))) v l ls items refl value stack is)

opens_if : (b : Bool) (kind : Kind) (new l : Level) (ls : List Level) (items : List Item) → wants l kind ≡ b → IsLevel new → level_kind new ≡ kind → IsStack l ls → front l ls ++ (head_of new ++ inner new) ≡ items → Holds (if b then going (new ∷ l ∷ ls) else refused) items
opens_if true kind new l ls items want level same stack is = (is, (level, ap (wants l) same ∙ want, stack))
opens_if false kind new l ls items want level same stack is = tt

tested : (b : Bool) (s : Start) (item : Item) (l : Level) (ls : List Level) (items : List Item) → turn_of l item ≡ turns.Neither → (b ≡ true → Holds (started s item l ls) items) → Holds (started (if b then s else starts.Nothing) item l ls) items
tested true s item l ls items none h = h refl
tested false s item l ls items none h = subst (λ (t : LevelChange). Holds (turned t ls) items) (sym none) tt

below : (n : ℕ) → nat_lt n (2 ^ 31) ≡ true → n < 2 ^ 31
below n h = grind (arith, nat_tests)

above : (n : ℕ) → nat_lt 0 n ≡ true → 1 ≤ n
above n h = grind (arith, nat_tests)

both : (a b : Bool) → (a && b) ≡ true → (a ≡ true) × (b ≡ true)
both true b h = (refl, h)
both false b h = absurd (cc)

neither_text : (l : Level) (x : List ℕ) → turn_of l (text x) ≡ turns.Neither
neither_text (levels.Fields fs) x = refl
neither_text (levels.Named fs id q) x = refl
neither_text (levels.Set q left items) x = refl
neither_text (levels.List q left items) x = refl
neither_text (levels.Map key w left pairs) x = refl
neither_text (levels.Keyed key w left pairs k) x = refl

neither_unknown_text : (l : Level) (x : List ℕ) → turn_of l (unknown_text x) ≡ turns.Neither
neither_unknown_text (levels.Fields fs) x = refl
neither_unknown_text (levels.Named fs id q) x = refl
neither_unknown_text (levels.Set q left items) x = refl
neither_unknown_text (levels.List q left items) x = refl
neither_unknown_text (levels.Map key w left pairs) x = refl
neither_unknown_text (levels.Keyed key w left pairs k) x = refl

neither_map_begin : (l : Level) (a b : Kind) (x : ℕ) → turn_of l (map_begin a b x) ≡ turns.Neither
neither_map_begin (levels.Fields fs) a b x = refl
neither_map_begin (levels.Named fs id q) a b x = refl
neither_map_begin (levels.Set q left items) a b x = refl
neither_map_begin (levels.List q left items) a b x = refl
neither_map_begin (levels.Map key w left pairs) a b x = refl
neither_map_begin (levels.Keyed key w left pairs k) a b x = refl

neither_set_begin : (l : Level) (a : Kind) (x : ℕ) → turn_of l (set_begin a x) ≡ turns.Neither
neither_set_begin (levels.Fields fs) a x = refl
neither_set_begin (levels.Named fs id q) a x = refl
neither_set_begin (levels.Set q left items) a x = refl
neither_set_begin (levels.List q left items) a x = refl
neither_set_begin (levels.Map key w left pairs) a x = refl
neither_set_begin (levels.Keyed key w left pairs k) a x = refl

neither_list_begin : (l : Level) (a : Kind) (x : ℕ) → turn_of l (list_begin a x) ≡ turns.Neither
neither_list_begin (levels.Fields fs) a x = refl
neither_list_begin (levels.Named fs id q) a x = refl
neither_list_begin (levels.Set q left items) a x = refl
neither_list_begin (levels.List q left items) a x = refl
neither_list_begin (levels.Map key w left pairs) a x = refl
neither_list_begin (levels.Keyed key w left pairs k) a x = refl

-- a field's id and kind
named-holds : (l : Level) (ls : List Level) (i : ℤ) (wanted : Kind) → FitsSigned w16 i → IsStack l ls → Holds (turned (turn_of l (field i wanted)) ls) (front l ls ++ field i wanted ∷ [])
named-holds (levels.Fields fs) [] i wanted range stack = (refl, ((stack.0, range), stack.1))
named-holds (levels.Fields fs) (m ∷ ms) i wanted range stack = (sym (append_assoc (front m ms) (struct_begin ∷ front_members fs) (field i wanted ∷ [])), ((stack.0, range), stack.1, stack.2))
named-holds (levels.Named fs id kind) ls i wanted range stack = tt
named-holds (levels.Set kind left items) ls i wanted range stack = tt
named-holds (levels.List kind left items) ls i wanted range stack = tt
named-holds (levels.Map key value left pairs) ls i wanted range stack = tt
named-holds (levels.Keyed key value left pairs k) ls i wanted range stack = tt

-- the end of a struct
stopped-holds : (l : Level) (ls : List Level) → IsStack l ls → Holds (turned (turn_of l stop) ls) (front l ls ++ stop ∷ [])
stopped-holds (levels.Fields fs) [] stack = record { valid = stack.0; told = members-end fs }
stopped-holds (levels.Fields fs) (m ∷ ms) stack =
    settled-holds (values.Struct fs) m ms ((front m ms ++ (struct_begin ∷ front_members fs)) ++ stop ∷ []) stack.0 stack.2
    (ap (λ (xs : List Item). front m ms ++ (struct_begin ∷ xs)) (members-end fs) ∙ sym (append_assoc (front m ms) (struct_begin ∷ front_members fs) (stop ∷ [])))
stopped-holds (levels.Named fs id kind) ls stack = tt
stopped-holds (levels.Set kind left items) ls stack = tt
stopped-holds (levels.List kind left items) ls stack = tt
stopped-holds (levels.Map key value left pairs) ls stack = tt
stopped-holds (levels.Keyed key value left pairs k) ls stack = tt

closed_set : (b : Bool) (kind : Kind) (left : ℕ) (items : Trees) (ls : List Level) → nat_eq left 0 ≡ b → IsStack (levels.Set kind left items) ls → Holds (turned (if b then turns.Closed (values.Set kind items) else turns.Neither) ls) (front (levels.Set kind left items) ls ++ end ∷ [])
closed_set false kind left items ls none stack = tt
closed_set true kind left items [] none stack = tt
closed_set true kind left items (m ∷ ms) none stack =
    let empty : left ≡ 0 = grind (arith, nat_tests) in
    let count : count_of_trees items ≡ count_of_trees items + left = omega (arith, empty) in
    settled-holds (values.Set kind items) m ms _ (omega (arith, stack.0.0), stack.0.1) stack.2
    (ap (λ (n : ℕ). front m ms ++ (set_begin kind n ∷ items_of_trees items)) count ∙ ap (λ (xs : List Item). front m ms ++ (set_begin kind (count_of_trees items + left) ∷ xs)) (trees-end items) ∙ sym (append_assoc (front m ms) (set_begin kind (count_of_trees items + left) ∷ front_trees items) (end ∷ [])))

closed_list : (b : Bool) (kind : Kind) (left : ℕ) (items : Trees) (ls : List Level) → nat_eq left 0 ≡ b → IsStack (levels.List kind left items) ls → Holds (turned (if b then turns.Closed (values.List kind items) else turns.Neither) ls) (front (levels.List kind left items) ls ++ end ∷ [])
closed_list false kind left items ls none stack = tt
closed_list true kind left items [] none stack = tt
closed_list true kind left items (m ∷ ms) none stack =
    let empty : left ≡ 0 = grind (arith, nat_tests) in
    let count : count_of_trees items ≡ count_of_trees items + left = omega (arith, empty) in
    settled-holds (values.List kind items) m ms _ (omega (arith, stack.0.0), stack.0.1) stack.2
    (ap (λ (n : ℕ). front m ms ++ (list_begin kind n ∷ items_of_trees items)) count ∙ ap (λ (xs : List Item). front m ms ++ (list_begin kind (count_of_trees items + left) ∷ xs)) (trees-end items) ∙ sym (append_assoc (front m ms) (list_begin kind (count_of_trees items + left) ∷ front_trees items) (end ∷ [])))

closed_map : (b : Bool) (key value : Kind) (left : ℕ) (pairs : Pairs) (ls : List Level) → nat_eq left 0 ≡ b → IsStack (levels.Map key value left pairs) ls → Holds (turned (if b then turns.Closed (values.Map key value pairs) else turns.Neither) ls) (front (levels.Map key value left pairs) ls ++ end ∷ [])
closed_map false key value left pairs ls none stack = tt
closed_map true key value left pairs [] none stack = tt
closed_map true key value left pairs (m ∷ ms) none stack =
    let empty : left ≡ 0 = grind (arith, nat_tests) in
    let count : count_of_pairs pairs ≡ count_of_pairs pairs + left = omega (arith, empty) in
    settled-holds (values.Map key value pairs) m ms _ (omega (arith, empty, stack.0.0), omega (arith, stack.0.1), stack.0.2) stack.2
    (ap (λ (n : ℕ). front m ms ++ (map_begin key value n ∷ items_of_pairs pairs)) count ∙ ap (λ (xs : List Item). front m ms ++ (map_begin key value (count_of_pairs pairs + left) ∷ xs)) (pairs-end pairs) ∙ sym (append_assoc (front m ms) (map_begin key value (count_of_pairs pairs + left) ∷ front_pairs pairs) (end ∷ [])))

-- the end of a container
ended-holds : (l : Level) (ls : List Level) → IsStack l ls → Holds (turned (turn_of l end) ls) (front l ls ++ end ∷ [])
ended-holds (levels.Fields fs) ls stack = tt
ended-holds (levels.Named fs id kind) ls stack = tt
ended-holds (levels.Set kind left items) ls stack = closed_set (nat_eq left 0) kind left items ls refl stack
ended-holds (levels.List kind left items) ls stack = closed_list (nat_eq left 0) kind left items ls refl stack
ended-holds (levels.Map key value left pairs) ls stack = closed_map (nat_eq left 0) key value left pairs ls refl stack
ended-holds (levels.Keyed key value left pairs k) ls stack = tt

nothing_more : (n : ℕ) → 0 + n ≡ n
nothing_more n = omega arith

step-holds : (item : Item) (l : Level) (ls : List Level) → IsInRange item → IsStack l ls → Holds (step (l ∷ ls) item) (front l ls ++ item ∷ [])
step-holds (field i wanted) l ls range stack = named-holds l ls i wanted range stack
step-holds stop l ls range stack = stopped-holds l ls stack
step-holds end l ls range stack = ended-holds l ls stack
step-holds (bool_value b) l ls range stack = settled-holds (values.Bool b) l ls _ tt stack refl
step-holds (i8_value n) l ls range stack = settled-holds (values.I8 n) l ls _ range stack refl
step-holds (i16_value n) l ls range stack = settled-holds (values.I16 n) l ls _ range stack refl
step-holds (i32_value n) l ls range stack = settled-holds (values.I32 n) l ls _ range stack refl
step-holds (i64_value n) l ls range stack = settled-holds (values.I64 n) l ls _ range stack refl
step-holds (double_value x) l ls range stack = settled-holds (values.Double x) l ls _ range stack refl
step-holds (text x) l ls range stack = tested (nat_lt (length x) (2 ^ 31)) (starts.Whole (values.Str x)) (text x) l ls _ (neither_text l x) (λ h. settled-holds (values.Str x) l ls _ (below (length x) h) stack refl)
step-holds (number_text x) l ls range stack = settled-holds (values.NumberText x) l ls _ tt stack refl
step-holds (unknown_text x) l ls range stack = tested (nat_lt (length x) (2 ^ 31)) (starts.Whole (values.UnknownText x)) (unknown_text x) l ls _ (neither_unknown_text l x) (λ h. settled-holds (values.UnknownText x) l ls _ (below (length x) h) stack refl)
step-holds struct_begin l ls range stack = opens_if (wants l kinds.Struct) kinds.Struct (levels.Fields no_members) l ls _ refl tt refl stack refl
step-holds empty_map l ls range stack = settled-holds values.EmptyMap l ls _ tt stack refl
step-holds (map_begin a b x) l ls range stack =
    tested (nat_lt 0 x && nat_lt x (2 ^ 31)) (starts.Opens kinds.Map (levels.Map a b x no_pairs)) (map_begin a b x) l ls _ (neither_map_begin l a b x)
    (λ h. opens_if (wants l kinds.Map) kinds.Map (levels.Map a b x no_pairs) l ls _ refl (omega (arith, above x (both (nat_lt 0 x) (nat_lt x (2 ^ 31)) h).0), omega (arith, below x (both (nat_lt 0 x) (nat_lt x (2 ^ 31)) h).1), tt) refl stack
    (ap (λ (n : ℕ). front l ls ++ (map_begin a b n ∷ [])) (nothing_more x)))
step-holds (set_begin a x) l ls range stack =
    tested (nat_lt x (2 ^ 31)) (starts.Opens kinds.Set (levels.Set a x no_trees)) (set_begin a x) l ls _ (neither_set_begin l a x)
    (λ h. opens_if (wants l kinds.Set) kinds.Set (levels.Set a x no_trees) l ls _ refl (omega (arith, below x h), tt) refl stack (ap (λ (n : ℕ). front l ls ++ (set_begin a n ∷ [])) (nothing_more x)))
step-holds (list_begin a x) l ls range stack =
    tested (nat_lt x (2 ^ 31)) (starts.Opens kinds.List (levels.List a x no_trees)) (list_begin a x) l ls _ (neither_list_begin l a x)
    (λ h. opens_if (wants l kinds.List) kinds.List (levels.List a x no_trees) l ls _ refl (omega (arith, below x h), tt) refl stack (ap (λ (n : ℕ). front l ls ++ (list_begin a n ∷ [])) (nothing_more x)))
step-holds (uuid_value x) l ls range stack = settled-holds (values.Uuid x) l ls _ range stack refl

onward-holds : (s : Stand) (item : Item) (done : List Item) → IsInRange item → Holds s done → Holds (onward s item) (done ++ item ∷ [])
onward-holds (going []) item done range h = absurd h
onward-holds (going (l ∷ ls)) item done range h = subst (λ (xs : List Item). Holds (step (l ∷ ls) item) (xs ++ item ∷ [])) h.0 (step-holds item l ls range h.1)
onward-holds (over fields) item done range h = tt
onward-holds refused item done range h = tt

pub run-holds : (items : List Item) (s : Stand) (done : List Item) → AreInRange items → Holds s done → Holds (run s items) (done ++ items)
run-holds [] s done all h = subst (Holds s) (sym (append-nil done)) h
run-holds (x ∷ xs) s done all h = subst (Holds (run (onward s x) xs)) (append_assoc done (x ∷ []) xs) (run-holds xs (onward s x) (done ++ x ∷ []) all.1 (onward-holds s x done all.0 h))

pub first-holds : Holds at_first []
first-holds = (refl, (tt, refl))

pub gathered-is-body : (items : List Item) (fields : Members) → AreInRange items → run at_first items ≡ over fields → IsBody items fields
gathered-is-body items fields all e = subst (λ (s : Stand). Holds s items) e (run-holds items at_first [] all first-holds)
