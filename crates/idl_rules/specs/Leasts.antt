-- Laws of the least: the order of the checks does not matter.
use Rattle.std.specs.Prelude.{◌≡◌, ◌==◌, ℕ, List, [], ◌∷◌, ◌++◌, Option, Some, None, Bool, true, false, if◌then◌else◌}
use Rattle.std.proofs.Common.{refl, ap, sym, ◌∙◌, arith, true≢false}
use Rattle.std.proofs.lemmas.Bool.Decides.{nat_tests}
use Rattle.idl_rules.specs.declared.row.IdlRow.{IdlRow}
use Rattle.idl_rules.specs.declared.row.IdlRow.TheVariants as rows
use Rattle.idl_rules.specs.Order.{Refusal, is_before, lesser, least_of}
use Rattle.idl_rules.specs.Rows.{rank_of}

-- nothing was refused before
pub lesser_none : (b : Option Refusal) → lesser None b ≡ b
unfolding lesser
lesser_none b = refl

-- nothing more is refused
pub none_lesser : (a : Option Refusal) → lesser a None ≡ a
unfolding lesser
none_lesser None = refl
none_lesser (Some a) = refl

chosen_once : (a b c : Refusal) → lesser (lesser (Some a) (Some b)) (Some c) ≡ lesser (Some a) (lesser (Some b) (Some c))
unfolding lesser
chosen_once a b c = grind (arith, nat_tests)

pub lesser_chain : (a b c : Option Refusal) → lesser (lesser a b) c ≡ lesser a (lesser b c)
unfolding lesser
lesser_chain None b c = refl
lesser_chain (Some a) None c = refl
lesser_chain (Some a) (Some b) None = none_lesser (lesser (Some a) (Some b))
lesser_chain (Some a) (Some b) (Some c) = chosen_once a b c

pub least_append : (xs ys : List Refusal) → least_of (xs ++ ys) ≡ lesser (least_of xs) (least_of ys)
least_append [] ys = sym (lesser_none (least_of ys))
least_append (x ∷ xs) ys = ap (lesser (Some x)) (least_append xs ys) ∙ sym (lesser_chain (Some x) (least_of xs) (least_of ys))

-- what two checks leave, one after the other
pub least_on : (old : Option Refusal) (xs ys : List Refusal) → lesser (lesser old (least_of xs)) (least_of ys) ≡ lesser old (least_of (xs ++ ys))
least_on old xs ys = lesser_chain old (least_of xs) (least_of ys) ∙ ap (lesser old) (sym (least_append xs ys))

-- the row of a rank
row_by : ℕ → IdlRow
row_by n =
    if n == 1 then rows.LexicalFault else if n == 2 then rows.SyntaxFault else if n == 3 then rows.MissingFile else if n == 4 then rows.IncludeCycle else
    if n == 5 then rows.DuplicateName else if n == 6 then rows.UnknownName else if n == 7 then rows.NotAType else if n == 8 then rows.NotAService else
    if n == 9 then rows.NotAnException else if n == 10 then rows.TypedefCycle else if n == 11 then rows.ServiceCycle else if n == 12 then rows.DuplicateFieldId else
    if n == 13 then rows.DuplicateFieldName else if n == 14 then rows.IdOutOfRange else if n == 15 then rows.EnumValueOutOfRange else
    if n == 16 then rows.OnewayWithResult else if n == 17 then rows.TooManyFiles else rows.NestedTooDeep

row_back : (r : IdlRow) → row_by (rank_of r) ≡ r
unfolding row_by
row_back rows.LexicalFault = refl
row_back rows.SyntaxFault = refl
row_back rows.MissingFile = refl
row_back rows.IncludeCycle = refl
row_back rows.DuplicateName = refl
row_back rows.UnknownName = refl
row_back rows.NotAType = refl
row_back rows.NotAService = refl
row_back rows.NotAnException = refl
row_back rows.TypedefCycle = refl
row_back rows.ServiceCycle = refl
row_back rows.DuplicateFieldId = refl
row_back rows.DuplicateFieldName = refl
row_back rows.IdOutOfRange = refl
row_back rows.EnumValueOutOfRange = refl
row_back rows.OnewayWithResult = refl
row_back rows.TooManyFiles = refl
row_back rows.NestedTooDeep = refl

-- no two rows have one rank
pub rank_tells : (r s : IdlRow) → rank_of r ≡ rank_of s → r ≡ s
rank_tells r s e = sym (row_back r) ∙ ap row_by e ∙ row_back s

one_before : (a b : Refusal) → is_before a b ≡ true → is_before b a ≡ false
one_before a b e = grind (arith, nat_tests)

same_offset : (a b : Refusal) → is_before a b ≡ false → is_before b a ≡ false → a.0 ≡ b.0
same_offset a b e f = grind (arith, nat_tests)

same_rank : (a b : Refusal) → is_before a b ≡ false → is_before b a ≡ false → rank_of a.1 ≡ rank_of b.1
same_rank a b e f = grind (arith, nat_tests)

told_at : ℕ → IdlRow → Option Refusal
told_at at row = Some (at, row)

same_pair : (m n : ℕ) (r s : IdlRow) → m ≡ n → r ≡ s → told_at n s ≡ told_at m r
same_pair m n r s e f = cc

swapped : (s t : Bool) (a b : Refusal) → is_before b a ≡ s → is_before a b ≡ t → (if s then Some b else Some a) ≡ (if t then Some a else Some b)
unfolding told_at
swapped true true a b e f = absurd (true≢false (sym f ∙ one_before b a e))
swapped true false a b e f = refl
swapped false true a b e f = refl
swapped false false a b e f = same_pair b.0 a.0 b.1 a.1 (sym (same_offset a b f e)) (sym (rank_tells a.1 b.1 (same_rank a b f e)))

-- the order of two does not matter
pub lesser_swap : (a b : Option Refusal) → lesser a b ≡ lesser b a
unfolding lesser
lesser_swap None b = sym (none_lesser b)
lesser_swap (Some a) None = refl
lesser_swap (Some a) (Some b) = swapped (is_before b a) (is_before a b) a b refl refl

pub least_one : (x : Refusal) → least_of (x ∷ []) ≡ Some x
least_one x = none_lesser (Some x)
