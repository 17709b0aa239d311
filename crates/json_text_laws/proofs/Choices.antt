-- Choices by a test.
use Rattle.std.proofs.Common.{◌≡◌, Bool, true, false, cond, Option, Some, None, refl, ◌⊎◌, inl, inr}

pub cond_some : {A : Type 0} → (b : Bool) (o : Option A) (v : A) → cond b o None ≡ Some v → (b ≡ true) × (o ≡ Some v)
cond_some true o v e = (refl, e)
cond_some false o v e = absurd (cc)

pub cond_none : {A : Type 0} → (b : Bool) (o : Option A) (v : A) → cond b None o ≡ Some v → (b ≡ false) × (o ≡ Some v)
cond_none true o v e = absurd (cc)
cond_none false o v e = (refl, e)

pub cond_true : {A : Type 0} → (b : Bool) (x y : A) → b ≡ true → cond b x y ≡ x
cond_true true x y e = refl
cond_true false x y e = absurd (cc)

pub cond_false : {A : Type 0} → (b : Bool) (x y : A) → b ≡ false → cond b x y ≡ y
cond_false true x y e = absurd (cc)
cond_false false x y e = refl

pub either_way : (b : Bool) → (b ≡ true) ⊎ (b ≡ false)
either_way true = inl refl
either_way false = inr refl
