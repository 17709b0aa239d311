-- What goes on and back by the session's rules is what the frames say.
use Rattle.std.proofs.Common.{◌≡◌, ℕ, List, [], ◌∷◌, ◌++◌, map, refl, ap, ◌∙◌, sym, subst}
use Rattle.std.specs.List.{flat_map}
use Rattle.std.proofs.lemmas.List.{append-nil, map-append}
use Rattle.std.proofs.lemmas.Grind.{flat_map-append}
use Rattle.protocol_traits.specs.Heads.{Header}
use Rattle.framed_transport.specs.Frames.{framed}
use Rattle.session_core.specs.Stands as session
use Rattle.session_core.specs.declared.judge.ClientJudged.TheVariants as client
use Rattle.session_judge.specs.Setting.{Setting}
use Rattle.session_judge.specs.Rules.{rules_of}
use Rattle.session_laws.specs.Saying.{Said}
use Rattle.session_laws.specs.Exchange.{Done, Waits, opened, calls, passed, done, onward, back, back_for, returned, AllSay, AllReply}
use Rattle.session_laws.proofs.Fates.{IsFate, Opens, Goes, IsAnswered, IsDropped, Halts}
use Rattle.session_laws.proofs.Replies.{kept, IsReplyFate, Answers, HaltsReply}

abbrev pub Fated : Setting → List (List ℕ) → List Said → Type 0
Fated s xs said = AllSay (λ x a. IsFate s x a) xs said

abbrev pub RepliesFated : Setting → List Header → List (List ℕ) → List Said → Type 0
RepliesFated s hs ys rs = AllReply (λ h y r. IsReplyFate s h y r) hs ys rs

module _ (s : Setting) where
  -- ---- calls

  opened_is : (x : List ℕ) (a : Said) → IsFate s x a → session.opened ((rules_of s).judged x) ≡ map (kept s) (opened (done s a))
  opened_is x a (Opens h out j o d p) = ap session.opened j ∙ sym (ap (λ t. map (kept s) (opened t)) d)
  opened_is x a (Goes out j o d p) = ap session.opened j ∙ sym (ap (λ t. map (kept s) (opened t)) d)
  opened_is x a (IsAnswered cause answer j o d p) = ap session.opened j ∙ sym (ap (λ t. map (kept s) (opened t)) d)
  opened_is x a (IsDropped cause j d p) = ap session.opened j ∙ sym (ap (λ t. map (kept s) (opened t)) d)
  opened_is x a (Halts h j d p) = ap session.opened j ∙ sym (ap (λ t. map (kept s) (opened t)) d)

  pub calls_are : (xs : List (List ℕ)) (said : List Said) → Fated s xs said → session.calls_of (rules_of s) xs ≡ map (kept s) (calls s said)
  calls_are [] [] f = refl
  calls_are (x ∷ xs) (a ∷ said) f =
      ap (λ t. t ++ session.calls_of (rules_of s) xs) (opened_is x a f.0) ∙ (ap (λ t. map (kept s) (opened (done s a)) ++ t) (calls_are xs said f.1) ∙ sym (map-append (kept s) (opened (done s a)) (calls s said)))
  calls_are [] (a ∷ said) f = absurd f
  calls_are (x ∷ xs) [] f = absurd f

  -- ---- onward

  sent_is : (x : List ℕ) (a : Said) → IsFate s x a → session.sent_on ((rules_of s).judged x) ((rules_of s).output x) ≡ flat_map framed (passed s a)
  sent_is x a (Opens h out j o d p) = ap (λ v. session.sent_on v ((rules_of s).output x)) j ∙ (ap framed o ∙ (sym (append-nil (framed out)) ∙ sym (ap (flat_map framed) p)))
  sent_is x a (Goes out j o d p) = ap (λ v. session.sent_on v ((rules_of s).output x)) j ∙ (ap framed o ∙ (sym (append-nil (framed out)) ∙ sym (ap (flat_map framed) p)))
  sent_is x a (IsAnswered cause answer j o d p) = ap (λ v. session.sent_on v ((rules_of s).output x)) j ∙ sym (ap (flat_map framed) p)
  sent_is x a (IsDropped cause j d p) = ap (λ v. session.sent_on v ((rules_of s).output x)) j ∙ sym (ap (flat_map framed) p)
  sent_is x a (Halts h j d p) = ap (λ v. session.sent_on v ((rules_of s).output x)) j ∙ sym (ap (flat_map framed) p)

  pub onward_is : (xs : List (List ℕ)) (said : List Said) → Fated s xs said → session.onward (rules_of s) xs ≡ flat_map framed (onward s said)
  onward_is [] [] f = refl
  onward_is (x ∷ xs) (a ∷ said) f =
      ap (λ t. t ++ session.onward (rules_of s) xs) (sent_is x a f.0) ∙ (ap (λ t. flat_map framed (passed s a) ++ t) (onward_is xs said f.1) ∙ sym (flat_map-append framed (passed s a) (onward s said)))
  onward_is [] (a ∷ said) f = absurd f
  onward_is (x ∷ xs) [] f = absurd f

  -- ---- back

  returned_is : (h : Header) (y : List ℕ) (r : Said) → IsReplyFate s h y r → (rules_of s).reply (kept s h) y ≡ returned r
  returned_is h y r (Answers refused v e none) = e
  returned_is h y r (HaltsReply k v e ends) = e

  replied_is : (h : Header) (hs : List Header) (next : List (List ℕ) → List ℕ) (next' : List Said → List (List ℕ)) (answer : List ℕ) (ys : List (List ℕ)) (rs : List Said) → RepliesFated s (h ∷ hs) ys rs
      → ((zs : List (List ℕ)) (qs : List Said) → RepliesFated s hs zs qs → next zs ≡ flat_map framed (next' qs))
      → session.back_by (rules_of s) (client.Opens (kept s h)) answer next ys ≡ flat_map framed (back_for (Waits h) next' rs)
  replied_is h hs next next' answer [] [] f same = refl
  replied_is h hs next next' answer (y ∷ ys) (r ∷ rs) f same = ap (λ t. framed t ++ next ys) (returned_is h y r f.0) ∙ ap (λ t. framed (returned r) ++ t) (same ys rs f.1)
  replied_is h hs next next' answer [] (r ∷ rs) f same = absurd f
  replied_is h hs next next' answer (y ∷ ys) [] f same = absurd f

  behind_done : (a : Said) (said : List Said) (d : Done) (ys : List (List ℕ)) (rs : List Said) → done s a ≡ d → RepliesFated s (opened (done s a) ++ calls s said) ys rs → RepliesFated s (opened d ++ calls s said) ys rs
  behind_done a said d ys rs e f = subst (λ t. RepliesFated s (opened t ++ calls s said) ys rs) e f

  back_step : (x : List ℕ) (a : Said) (xs : List (List ℕ)) (said : List Said) (ys : List (List ℕ)) (rs : List Said) → IsFate s x a → RepliesFated s (calls s (a ∷ said)) ys rs
      → ((zs : List (List ℕ)) (qs : List Said) → RepliesFated s (calls s said) zs qs → session.back (rules_of s) xs zs ≡ flat_map framed (back s said qs))
      → session.back (rules_of s) (x ∷ xs) ys ≡ flat_map framed (back s (a ∷ said) rs)
  back_step x a xs said ys rs (Opens h out j o d p) f same =
      ap (λ v. session.back_by (rules_of s) v ((rules_of s).answer x) (λ zs. session.back (rules_of s) xs zs) ys) j
      ∙ (replied_is h (calls s said) (λ zs. session.back (rules_of s) xs zs) (λ qs. back s said qs) ((rules_of s).answer x) ys rs (behind_done a said _ ys rs d f) same
      ∙ sym (ap (λ t. flat_map framed (back_for t (λ qs. back s said qs) rs)) d))
  back_step x a xs said ys rs (Goes out j o d p) f same =
      ap (λ v. session.back_by (rules_of s) v ((rules_of s).answer x) (λ zs. session.back (rules_of s) xs zs) ys) j
      ∙ (same ys rs (behind_done a said _ ys rs d f) ∙ sym (ap (λ t. flat_map framed (back_for t (λ qs. back s said qs) rs)) d))
  back_step x a xs said ys rs (IsAnswered cause answer j o d p) f same =
      ap (λ v. session.back_by (rules_of s) v ((rules_of s).answer x) (λ zs. session.back (rules_of s) xs zs) ys) j
      ∙ (ap (λ t. framed t ++ session.back (rules_of s) xs ys) o
      ∙ (ap (λ t. framed answer ++ t) (same ys rs (behind_done a said _ ys rs d f)) ∙ sym (ap (λ t. flat_map framed (back_for t (λ qs. back s said qs) rs)) d)))
  back_step x a xs said ys rs (IsDropped cause j d p) f same =
      ap (λ v. session.back_by (rules_of s) v ((rules_of s).answer x) (λ zs. session.back (rules_of s) xs zs) ys) j
      ∙ (same ys rs (behind_done a said _ ys rs d f) ∙ sym (ap (λ t. flat_map framed (back_for t (λ qs. back s said qs) rs)) d))
  back_step x a xs said ys rs (Halts h j d p) f same =
      ap (λ v. session.back_by (rules_of s) v ((rules_of s).answer x) (λ zs. session.back (rules_of s) xs zs) ys) j
      ∙ (same ys rs (behind_done a said _ ys rs d f) ∙ sym (ap (λ t. flat_map framed (back_for t (λ qs. back s said qs) rs)) d))

  pub back_is : (xs : List (List ℕ)) (said : List Said) (ys : List (List ℕ)) (rs : List Said) → Fated s xs said → RepliesFated s (calls s said) ys rs → session.back (rules_of s) xs ys ≡ flat_map framed (back s said rs)
  back_is [] [] ys rs f g = refl
  back_is (x ∷ xs) (a ∷ said) ys rs f g = back_step x a xs said ys rs f.0 g (λ zs qs k. back_is xs said zs qs f.1 k)
  back_is [] (a ∷ said) ys rs f g = absurd f
  back_is (x ∷ xs) [] ys rs f g = absurd f
