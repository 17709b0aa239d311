-- A stream is cut POST by POST.
use Rattle.std.proofs.Common.{◌≡◌, ℕ, ◌+◌, ◌-◌, ◌<◌, ◌≤◌, ◌⊎◌, inl, inr, Bool, true, false, true≢false, List, [], ◌∷◌, ◌++◌, length, take, drop, refl, sym, ap, ◌∙◌, subst, arith, append_assoc}
use Rattle.std.proofs.lemmas.Bool.{cases_lt}
use Rattle.std.proofs.lemmas.List.{take-append-drop, length-take-le, length-drop, drop-drop}
use Rattle.httparse.specs.Grammar.{print_request, HasNoRequest, NeverHasRequest, MayBecomeRequest}
use Rattle.http_front.specs.Heads.{head_limit}
use Rattle.http_front.specs.Posts.{Post, post_bytes, IsGood, IsPost, IsBad, Hopeless, IsRest, InHead, InBody, rest, bad, IsCut, IsFirstPost}
use Rattle.http_front.specs.Reading.{FindsHead}
use Rattle.http_front.specs.declared.head.Head.TheVariants as heads
use Rattle.http_front.proofs.Heads.{head_some}

pub cut_bad : (limit : ℕ) (bytes : List ℕ) → IsBad limit bytes → IsCut limit bytes
cut_bad limit bytes is = ([], bad, is)

cut_rest : (limit : ℕ) (bytes : List ℕ) → IsRest limit bytes → IsCut limit bytes
cut_rest limit bytes is = ([], rest bytes, (refl, is))

-- the beginning of a head, of which one may come or not
pub cut_part : (limit : ℕ) (bytes : List ℕ) (refused : Bool) → (length bytes < head_limit) × HasNoRequest bytes → (refused ≡ true → NeverHasRequest bytes) → (refused ≡ false → HasNoRequest bytes → MayBecomeRequest bytes) → IsCut limit bytes
cut_part limit bytes true part never may = cut_bad limit bytes (Hopeless (never refl))
cut_part limit bytes false part never may = cut_rest limit bytes (InHead bytes part.0 part.1 (may refl part.1))

-- a whole POST
module _ (limit : ℕ) (bytes : List ℕ) (size body : ℕ) (last : Bool) (found : FindsHead limit bytes (heads.Post size body last)) (whole : body ≤ length bytes - size) where
  abbrev content : List ℕ
  content = take body (drop size bytes)

  content_size : length content ≡ body
  content_size = length-take-le body (drop size bytes) (omega (arith, whole, length-drop size bytes))

  abbrev post : Post
  post = record { head = found.0; body = content }

  post_is : IsPost limit post
  post_is = subst (IsGood limit found.0) (sym content_size) found.1

  all : post_bytes post ++ drop (size + body) bytes ≡ bytes
  all = append_assoc (print_request found.0) content (drop (size + body) bytes)
      ∙ (ap (λ l. print_request found.0 ++ l) (ap (λ l. content ++ l) (sym (drop-drop body size bytes)) ∙ take-append-drop body (drop size bytes)) ∙ sym found.2)

  pub post_on : last ≡ false → IsFirstPost limit bytes (size + body)
  post_on goes_on =
      let some = head_some found.0 in
      record {
        some = omega (arith, some, found.3);
        within = omega (arith, whole, found.4);
        on = λ behind. (post ∷ behind.0, behind.1, (post_is, (drop (size + body) bytes, sym all, ((λ _. behind.2), (λ ends. absurd (true≢false (sym ends ∙ (sym found.6 ∙ goes_on))))))));
      }

  pub post_last : last ≡ true → IsCut limit bytes
  post_last ends = (post ∷ [], rest [], (post_is, (drop (size + body) bytes, sym all, ((λ goes_on. absurd (true≢false (sym ends ∙ (found.6 ∙ goes_on)))), (λ _. (refl, refl))))))

-- one whose body isn't whole, or behind which nothing counts
pub cut_post : (limit : ℕ) (bytes : List ℕ) (size body : ℕ) (last : Bool) → FindsHead limit bytes (heads.Post size body last) → (last ≡ false → length bytes - size < body) → IsCut limit bytes
cut_post limit bytes size body last found short = by (cases_lt (length bytes - size) body)
  where
    ends : (b : Bool) → last ≡ b → body ≤ length bytes - size → IsCut limit bytes
    ends true e within = post_last limit bytes size body last found within e
    ends false e within = absurd (omega (arith, short e, within))

    by : (length bytes - size < body) ⊎ (body ≤ length bytes - size) → IsCut limit bytes
    by (inl less) = subst (IsCut limit) (sym found.2) (cut_rest limit (print_request found.0 ++ drop size bytes) (InBody found.0 body (drop size bytes) found.1 (omega (arith, less, length-drop size bytes))))
    by (inr within) = ends last refl within
