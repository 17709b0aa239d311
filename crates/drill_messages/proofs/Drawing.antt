-- Numbers that were drawn one after another, and what was made of each.
use Rattle.std.proofs.Common.{◌≡◌, ℕ, zero, suc, ◌+◌, List, [], ◌∷◌, ◌++◌, length, arith, refl, sym, ◌∙◌, ap, subst, map, add-one, length-append, pos, ◌*◌, ◌<◌, ◌^◌, to_z, of_z}
use Rattle.std.specs.Prelude.{◌-ℤ◌, FitsSigned}
use Rattle.std.specs.Str.{IsAscii}
use Rattle.std.specs.Int.{w32, w64}
use Rattle.std.proofs.lemmas.Int.{to_z_pos, to_z-of_z, ints}
use Rattle.std.proofs.lemmas.List.{map-append}
use Rattle.drill_messages.specs.declared.item.Item.{Item}
use Rattle.drill_messages.specs.Draws.{stepped, draw, draws, behind}
use Rattle.drill_messages.specs.Messages.{Fields, letter_of, mark_of, item, behind_item, items, behind_items}
use Rattle.drill_messages.specs.Views.{fields_of, all_fields}

pub behind_more : (n s : ℕ) → behind (suc n) s ≡ stepped (behind n s)
behind_more zero s = refl
behind_more (suc n) s = behind_more n (stepped s)

pub draws_more : (n s : ℕ) → draws (suc n) s ≡ draws n s ++ draw (behind n s) ∷ []
draws_more zero s = refl
draws_more (suc n) s = ap (λ (xs : List ℕ). draw s ∷ xs) (draws_more n (stepped s))

-- these were made of the first n draws from a state, and this is the state behind them
pub record Made {A : Type 0} (make : ℕ → A) (s n : ℕ) (made : List A) (state : ℕ) : Type 0 where
  pub made_is : made ≡ map make (draws n s)
  pub state_is : state ≡ behind n s
  pub many : length made ≡ n

pub none_made : {A : Type 0} (make : ℕ → A) (s : ℕ) → Made make s 0 [] s
none_made make s = record { made_is = refl; state_is = refl; many = refl }

pub one_made : {A : Type 0} (make : ℕ → A) (s n : ℕ) (made more : List A) (state next : ℕ)
    → Made make s n made state → more ≡ made ++ make (draw state) ∷ [] → next ≡ stepped state → Made make s (n + 1) more next
one_made {A} make s n made more state next m e f =
    subst (λ (k : ℕ). Made make s k more next) (sym (add-one n)) (record {
      made_is = e ∙ (ap (λ d. made ++ make (draw d) ∷ []) m.state_is ∙ (ap (λ xs. xs ++ make (draw (behind n s)) ∷ []) m.made_is
          ∙ (sym (map-append make (draws n s) (draw (behind n s) ∷ [])) ∙ ap (map make) (sym (draws_more n s)))));
      state_is = f ∙ (ap stepped m.state_is ∙ sym (behind_more n s));
      many = ap length e ∙ (length-append made (make (draw state) ∷ []) ∙ omega (arith, m.many));
    })

behind_item_more : (n s : ℕ) → behind_items (suc n) s ≡ behind_item (behind_items n s)
behind_item_more zero s = refl
behind_item_more (suc n) s = behind_item_more n (behind_item s)

items_more : (n s : ℕ) → items (suc n) s ≡ items n s ++ item (behind_items n s) ∷ []
items_more zero s = refl
items_more (suc n) s = ap (λ (xs : List Fields). item s ∷ xs) (items_more n (behind_item s))

-- these are the first n items that are drawn from a state, and this is the state behind them
pub record Items (s n : ℕ) (made : List Item) (state : ℕ) : Type 0 where
  pub items_are : all_fields made ≡ items n s
  pub state_is : state ≡ behind_items n s
  pub many : length made ≡ n

pub none_drawn : (s : ℕ) → Items s 0 [] s
none_drawn s = record { items_are = refl; state_is = refl; many = refl }

pub one_drawn : (s n : ℕ) (made more : List Item) (one : Item) (state next : ℕ)
    → Items s n made state → more ≡ made ++ one ∷ [] → fields_of one ≡ item state → next ≡ behind_item state → Items s (n + 1) more next
one_drawn s n made more one state next m e is f =
    subst (λ (k : ℕ). Items s k more next) (sym (add-one n)) (record {
      items_are = ap all_fields e ∙ (map-append fields_of made (one ∷ []) ∙ (ap (λ (xs : List Fields). xs ++ fields_of one ∷ []) m.items_are
          ∙ (ap (λ (x : Fields). items n s ++ x ∷ []) (is ∙ ap item m.state_is) ∙ sym (items_more n s))));
      state_is = f ∙ (ap behind_item m.state_is ∙ sym (behind_item_more n s));
      many = ap length e ∙ (length-append made (one ∷ []) ∙ omega (arith, m.many));
    })

pub letters_ascii : (ds : List ℕ) → IsAscii (map letter_of ds)
letters_ascii [] i = omega arith
letters_ascii (d ∷ ds) zero = omega arith
letters_ascii (d ∷ ds) (suc i) = letters_ascii ds i

-- an id as the code makes it of its two halves
pub id_value : (high low : ℕ) → high < 2 ^ 31 → low < 2 ^ 31
    → to_z w64 (of_z w64 (to_z w64 (high * 2147483648 + low) -ℤ pos 2305843009213693952)) ≡ pos (high * 2 ^ 31 + low) -ℤ pos (2 ^ 61)
id_value high low h l =
    let sum : to_z w64 (high * 2147483648 + low) ≡ pos (high * 2147483648 + low) = to_z_pos w64 (high * 2147483648 + low) (omega arith) in
    let fits : FitsSigned w64 (pos (high * 2147483648 + low) -ℤ pos 2305843009213693952) = omega (arith, ints) in
    rw sum (to_z-of_z w64 (pos (high * 2147483648 + low) -ℤ pos 2305843009213693952) fits)

-- the same of a mark
pub mark_value : (d : ℕ) → d < 2 ^ 31 → to_z w32 (of_z w32 (to_z w32 d -ℤ pos 1073741824)) ≡ mark_of d
mark_value d h =
    let plain : to_z w32 d ≡ pos d = to_z_pos w32 d (omega (arith, h)) in
    let fits : FitsSigned w32 (pos d -ℤ pos 1073741824) = omega (arith, ints) in
    rw plain (to_z-of_z w32 (pos d -ℤ pos 1073741824) fits)
