-- Lists of frames and what each of them says, place by place.
use Rattle.std.proofs.Common.{◌≡◌, ℕ, zero, suc, ◌<◌, ◌≤◌, List, [], ◌∷◌, ◌++◌, length, take, map, Some, slice_get, refl, ap, subst, arith}
use Rattle.std.specs.List.{All}
use Rattle.std.proofs.lemmas.List.Elements.{All-head, All-tail}
use Rattle.protocol_traits.specs.Heads.{Header}
use Rattle.session_laws.specs.Saying.{Said}
use Rattle.session_laws.specs.Exchange.{AllSay, AllReply}

pub all_at : {X : Type 0} (P : X → Type 0) (xs : List X) (k : ℕ) (x : X) → All P xs → slice_get xs k ≡ Some x → P x
all_at P [] k x all e = absurd (cc)
all_at P (y ∷ xs) zero x all e = let same : y ≡ x = cc in subst P same (All-head P y xs all)
all_at P (y ∷ xs) (suc k) x all e = all_at P xs k x (All-tail P y xs all) e

pub get_map : {X Y : Type 0} (f : X → Y) (xs : List X) (k : ℕ) (y : Y) → slice_get (map f xs) k ≡ Some y → (x : X) × (slice_get xs k ≡ Some x) × (y ≡ f x)
get_map f [] k y e = absurd (cc)
get_map f (x ∷ xs) zero y e = (x, refl, (cc))
get_map f (x ∷ xs) (suc k) y e = get_map f xs k y e

pub map_get : {X Y : Type 0} (f : X → Y) (xs : List X) (k : ℕ) (x : X) → slice_get xs k ≡ Some x → slice_get (map f xs) k ≡ Some (f x)
map_get f [] k x e = absurd (cc)
map_get f (y ∷ xs) zero x e = let same : y ≡ x = cc in ap (λ z. Some (f z)) same
map_get f (y ∷ xs) (suc k) x e = map_get f xs k x e

-- the element behind a front
pub get_here : {X : Type 0} (early late : List X) (x : X) → slice_get (early ++ x ∷ late) (length early) ≡ Some x
get_here [] late x = refl
get_here (y ∷ early) late x = get_here early late x

pub take_here : {X : Type 0} (early late : List X) → take (length early) (early ++ late) ≡ early
take_here [] late = refl
take_here (y ∷ early) late = ap (λ l. y ∷ l) (take_here early late)

pub split_at : {X : Type 0} (xs : List X) (k : ℕ) (x : X) → slice_get xs k ≡ Some x → (late : List X) × (xs ≡ take k xs ++ x ∷ late) × (length (take k xs) ≡ k)
split_at [] k x e = absurd (cc)
split_at (y ∷ xs) zero x e = let same : y ≡ x = cc in (xs, ap (λ z. z ∷ xs) same, refl)
split_at (y ∷ xs) (suc k) x e = let r = split_at xs k x e in (r.0, ap (λ l. y ∷ l) r.1, omega (arith, r.2))

pub get_some : {X : Type 0} (xs : List X) (k : ℕ) → k < length xs → (x : X) × (slice_get xs k ≡ Some x)
get_some [] k h = absurd (omega (arith, h))
get_some (x ∷ xs) zero h = (x, refl)
get_some (x ∷ xs) (suc k) h = get_some xs k (omega (arith, h))

pub take_get : {X : Type 0} (xs : List X) (n k : ℕ) → k < n → slice_get (take n xs) k ≡ slice_get xs k
take_get xs zero k h = absurd (omega (arith, h))
take_get [] (suc n) k h = refl
take_get (x ∷ xs) (suc n) zero h = refl
take_get (x ∷ xs) (suc n) (suc k) h = take_get xs n k (omega (arith, h))

pub take_twice : {X : Type 0} (xs : List X) (n k : ℕ) → k ≤ n → take k (take n xs) ≡ take k xs
take_twice xs n zero h = refl
take_twice xs zero (suc k) h = absurd (omega (arith, h))
take_twice [] (suc n) (suc k) h = refl
take_twice (x ∷ xs) (suc n) (suc k) h = ap (λ l. x ∷ l) (take_twice xs n k (omega (arith, h)))

-- ---- what each frame of the client says

module _ (Each : List ℕ → Said → Type 0) where
  pub say_at : (xs : List (List ℕ)) (said : List Said) (k : ℕ) (x : List ℕ) → AllSay Each xs said → slice_get xs k ≡ Some x → (a : Said) × (slice_get said k ≡ Some a) × Each x a
  say_at [] said k x all e = absurd (cc)
  say_at (y ∷ xs) [] k x all e = absurd all
  say_at (y ∷ xs) (a ∷ said) zero x all e = let same : y ≡ x = cc in (a, refl, subst (λ z. Each z a) same all.0)
  say_at (y ∷ xs) (a ∷ said) (suc k) x all e = say_at xs said k x all.1 e

  pub said_at : (xs : List (List ℕ)) (said : List Said) (k : ℕ) (a : Said) → AllSay Each xs said → slice_get said k ≡ Some a → (x : List ℕ) × (slice_get xs k ≡ Some x) × Each x a
  said_at xs [] k a all e = absurd (cc)
  said_at [] (b ∷ said) k a all e = absurd all
  said_at (x ∷ xs) (b ∷ said) zero a all e = let same : b ≡ a = cc in (x, refl, subst (λ z. Each x z) same all.0)
  said_at (x ∷ xs) (b ∷ said) (suc k) a all e = said_at xs said k a all.1 e

  pub say_take : (n : ℕ) (xs : List (List ℕ)) (said : List Said) → AllSay Each xs said → AllSay Each (take n xs) (take n said)
  say_take zero xs said all = tt
  say_take (suc n) [] [] all = tt
  say_take (suc n) [] (a ∷ said) all = absurd all
  say_take (suc n) (x ∷ xs) [] all = absurd all
  say_take (suc n) (x ∷ xs) (a ∷ said) all = (all.0, say_take n xs said all.1)

  pub say_length : (xs : List (List ℕ)) (said : List Said) → AllSay Each xs said → length xs ≡ length said
  say_length [] [] all = refl
  say_length [] (a ∷ said) all = absurd all
  say_length (x ∷ xs) [] all = absurd all
  say_length (x ∷ xs) (a ∷ said) all = omega (arith, say_length xs said all.1)

-- ---- what each frame of the upstream says

module _ (Each : Header → List ℕ → Said → Type 0) where
  pub reply_at : (hs : List Header) (ys : List (List ℕ)) (rs : List Said) (k : ℕ) (y : List ℕ) → AllReply Each hs ys rs → slice_get ys k ≡ Some y → (h : Header) × (r : Said) × (slice_get hs k ≡ Some h) × (slice_get rs k ≡ Some r) × Each h y r
  reply_at hs [] rs k y all e = absurd (cc)
  reply_at hs (z ∷ ys) [] k y all e = absurd all
  reply_at [] (z ∷ ys) (r ∷ rs) k y all e = absurd all
  reply_at (h ∷ hs) (z ∷ ys) (r ∷ rs) zero y all e = let same : z ≡ y = cc in (h, r, refl, refl, subst (λ w. Each h w r) same all.0)
  reply_at (h ∷ hs) (z ∷ ys) (r ∷ rs) (suc k) y all e = reply_at hs ys rs k y all.1 e

  pub reply_take : (n : ℕ) (hs : List Header) (ys : List (List ℕ)) (rs : List Said) → AllReply Each hs ys rs → AllReply Each hs (take n ys) (take n rs)
  reply_take zero hs ys rs all = tt
  reply_take (suc n) hs [] [] all = tt
  reply_take (suc n) hs [] (r ∷ rs) all = absurd all
  reply_take (suc n) hs (y ∷ ys) [] all = absurd all
  reply_take (suc n) [] (y ∷ ys) (r ∷ rs) all = absurd all
  reply_take (suc n) (h ∷ hs) (y ∷ ys) (r ∷ rs) all = (all.0, reply_take n hs ys rs all.1)

  -- calls that no frame has reached
  pub reply_fewer : (hs more : List Header) (ys : List (List ℕ)) (rs : List Said) → length ys ≤ length hs → AllReply Each (hs ++ more) ys rs → AllReply Each hs ys rs
  reply_fewer hs more [] [] few all = tt
  reply_fewer hs more [] (r ∷ rs) few all = absurd all
  reply_fewer hs more (y ∷ ys) [] few all = absurd all
  reply_fewer [] more (y ∷ ys) (r ∷ rs) few all = absurd (omega (arith, few))
  reply_fewer (h ∷ hs) more (y ∷ ys) (r ∷ rs) few all = (all.0, reply_fewer hs more ys rs (omega (arith, few)) all.1)

  pub reply_length : (hs : List Header) (ys : List (List ℕ)) (rs : List Said) → AllReply Each hs ys rs → length ys ≡ length rs
  reply_length hs [] [] all = refl
  reply_length hs [] (r ∷ rs) all = absurd all
  reply_length hs (y ∷ ys) [] all = absurd all
  reply_length [] (y ∷ ys) (r ∷ rs) all = absurd all
  reply_length (h ∷ hs) (y ∷ ys) (r ∷ rs) all = omega (arith, reply_length hs ys rs all.1)
