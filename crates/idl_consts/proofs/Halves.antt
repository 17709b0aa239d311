-- The frame half way up a trail.
use Rattle.std.proofs.Common.{◌≡◌, ℕ, zero, suc, ◌+◌, ◌/◌, List, [], ◌∷◌, ◌++◌, length, Some, None, subst}
use Rattle.std.specs.Prelude.{slice_get}
use Rattle.idl_consts.specs.declared.follow.Frame.{Frame}
use Rattle.idl_consts.specs.declared.follow.Trail.{Trail}
use Rattle.idl_consts.specs.declared.survey.ConstRef.{ConstRef}
use Rattle.idl_consts.specs.Trails.{IsOf, IsHalfway}

is_there : (fs : List Frame) (g : Frame) (i : ℕ) (f h : Frame) → slice_get fs i ≡ Some f → slice_get (fs ++ g ∷ []) i ≡ Some h → h ≡ f
is_there [] g i f h a b = absurd (cc)
is_there (x ∷ xs) g zero f h a b = cc
is_there (x ∷ xs) g (suc i) f h a b = is_there xs g i f h a b

is_last : (fs : List Frame) (g : Frame) (i : ℕ) (h : Frame) → slice_get fs i ≡ None → slice_get (fs ++ g ∷ []) i ≡ Some h → h ≡ g
is_last [] g zero h a b = cc
is_last [] g (suc i) h a b = absurd (cc)
is_last (x ∷ xs) g zero h a b = absurd (cc)
is_last (x ∷ xs) g (suc i) h a b = is_last xs g i h a b

pub outer_is_half : (name : ConstRef) (trail : Trail) (n : ℕ) (f : Frame) → n ≡ length trail.outer.items → slice_get trail.outer.items ((n + 1) / 2) ≡ Some f
    → IsHalfway name trail → IsOf name f
outer_is_half name trail n f len there h =
    let here = subst (λ (k : ℕ). slice_get trail.outer.items ((k + 1) / 2) ≡ Some f) len there in
    subst (IsOf name) (is_there trail.outer.items trail.top ((length trail.outer.items + 1) / 2) f h.0 here h.1) h.2

pub top_is_half : (name : ConstRef) (trail : Trail) (n : ℕ) → n ≡ length trail.outer.items → slice_get trail.outer.items ((n + 1) / 2) ≡ None
    → IsHalfway name trail → IsOf name trail.top
top_is_half name trail n len none h =
    let here = subst (λ (k : ℕ). slice_get trail.outer.items ((k + 1) / 2) ≡ None) len none in
    subst (IsOf name) (is_last trail.outer.items trail.top ((length trail.outer.items + 1) / 2) h.0 here h.1) h.2
