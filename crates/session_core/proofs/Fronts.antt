-- What was sent is a front of what all frames give.
use Rattle.std.proofs.Common.{◌≡◌, ℕ, ◌<◌, ◌≤◌, ◌^◌, inl, inr, List, [], ◌∷◌, ◌++◌, length, length-append, append_assoc, arith, refl, sym, ◌∙◌, ap, subst, Some, slice_get}
use Rattle.std.proofs.lemmas.List.{append-nil}
use Rattle.framed_transport.specs.Frames.{framed}
use Rattle.session_core.specs.Rules.{Rules}
use Rattle.session_core.specs.Standing.{Standing, History}
use Rattle.session_core.specs.Stands.{calls_of, onward, back, IsDue, IsAllOfClient, IsAllOfUpstream, IsFrontOf, sent_on, back_by}
use Rattle.session_core.specs.Fits.{Fits}
use Rattle.session_core.specs.declared.judge.ClientJudged.{ClientJudged}
use Rattle.session_core.specs.declared.judge.ClientJudged.TheVariants as client
use Rattle.session_core.proofs.Fitting.{get_front}
use Rattle.session_core.proofs.Greatest.{StandsAtFront, Compared, compared, calls_append}
use Rattle.std.proofs.Common.{zero, suc}

-- ---- more frames of the upstream

longer_by : (rules : Rules) (v : ClientJudged) (answer : List ℕ) (next : List (List ℕ) → List ℕ) (ys w : List (List ℕ)) → ((zs : List (List ℕ)) → IsFrontOf (next zs) (next (zs ++ w))) → IsFrontOf (back_by rules v answer next ys) (back_by rules v answer next (ys ++ w))
longer_by rules (client.Halts halt) answer next ys w h = h ys
longer_by rules (client.Opens call) answer next [] w h = (back_by rules (client.Opens call) answer next w, refl)
longer_by rules (client.Opens call) answer next (y ∷ ys) w h =
    let r = h ys in
    (r.0, ap (λ t. framed (rules.reply call y) ++ t) r.1 ∙ sym (append_assoc (framed (rules.reply call y)) (next ys) r.0))
longer_by rules client.Goes answer next ys w h = h ys
longer_by rules (client.Refused cause) answer next ys w h =
    let r = h ys in
    (r.0, ap (λ t. framed answer ++ t) r.1 ∙ sym (append_assoc (framed answer) (next ys) r.0))
longer_by rules (client.Dropped cause) answer next ys w h = h ys

back_longer : (rules : Rules) (xs ys w : List (List ℕ)) → IsFrontOf (back rules xs ys) (back rules xs (ys ++ w))
back_longer rules [] ys w = ([], refl)
back_longer rules (x ∷ xs) ys w = longer_by rules (rules.judged x) (rules.answer x) (λ zs. back rules xs zs) ys w (λ zs. back_longer rules xs zs w)

-- ---- more frames of the client

further_by : (rules : Rules) (v : ClientJudged) (answer : List ℕ) (next other : List (List ℕ) → List ℕ) (ys : List (List ℕ)) → ((zs : List (List ℕ)) → IsFrontOf (other zs) (next zs)) → IsFrontOf (back_by rules v answer other ys) (back_by rules v answer next ys)
further_by rules (client.Halts halt) answer next other ys h = h ys
further_by rules (client.Opens call) answer next other [] h = ([], refl)
further_by rules (client.Opens call) answer next other (y ∷ ys) h =
    let r = h ys in
    (r.0, ap (λ t. framed (rules.reply call y) ++ t) r.1 ∙ sym (append_assoc (framed (rules.reply call y)) (other ys) r.0))
further_by rules client.Goes answer next other ys h = h ys
further_by rules (client.Refused cause) answer next other ys h =
    let r = h ys in
    (r.0, ap (λ t. framed answer ++ t) r.1 ∙ sym (append_assoc (framed answer) (other ys) r.0))
further_by rules (client.Dropped cause) answer next other ys h = h ys

back_further : (rules : Rules) (xs more ys : List (List ℕ)) → IsFrontOf (back rules xs ys) (back rules (xs ++ more) ys)
back_further rules [] more ys = (back rules more ys, refl)
back_further rules (x ∷ xs) more ys = further_by rules (rules.judged x) (rules.answer x) (λ zs. back rules (xs ++ more) zs) (λ zs. back rules xs zs) ys (λ zs. back_further rules xs more zs)

onward_further : (rules : Rules) (xs more : List (List ℕ)) → onward rules (xs ++ more) ≡ onward rules xs ++ onward rules more
onward_further rules [] more = refl
onward_further rules (x ∷ xs) more = ap (λ t. sent_on (rules.judged x) (rules.output x) ++ t) (onward_further rules xs more) ∙ sym (append_assoc (sent_on (rules.judged x) (rules.output x)) (onward rules xs) (onward rules more))

front_on : (a b c : List ℕ) → IsFrontOf a b → IsFrontOf b c → IsFrontOf a c
front_on a b c p q = (p.0 ++ q.0, q.1 ∙ (ap (λ t. t ++ q.0) p.1 ∙ append_assoc a p.0 q.0))

get_some : {X : Type 0} (xs : List X) (k : ℕ) → k < length xs → (x : X) × (slice_get xs k ≡ Some x)
get_some [] k h = absurd (omega (arith, h))
get_some (x ∷ xs) zero h = (x, refl)
get_some (x ∷ xs) (suc k) h = get_some xs k (omega (arith, h))

-- ---- all frames go on from those that were taken

client_goes_on : (rules : Rules) (limit max_calls : ℕ) (h : History) (s : Standing) (f : Fits rules limit max_calls h s) (zs : List (List ℕ)) (all : IsAllOfClient rules limit h.from_client zs) → Compared limit zs f.xs all.rest → (more : List (List ℕ)) × (zs ≡ f.xs ++ more)
client_goes_on rules limit max_calls h s f zs all (inl (more, e)) = (more, e)
client_goes_on rules limit max_calls h s f zs all (inr (x, more, behind, e, w)) =
    let halts = all.last x behind w in
    absurd (f.lawful.passes zs more x halts.0 e halts.1)

upstream_goes_on : (rules : Rules) (limit max_calls : ℕ) (h : History) (s : Standing) (f : Fits rules limit max_calls h s) (zs ws more : List (List ℕ)) → zs ≡ f.xs ++ more → (all : IsAllOfUpstream rules limit (calls_of rules zs) h.from_upstream ws) → Compared limit ws f.ys all.rest → (w : List (List ℕ)) × (ws ≡ f.ys ++ w)
upstream_goes_on rules limit max_calls h s f zs ws more d all (inl (w, e)) = (w, e)
upstream_goes_on rules limit max_calls h s f zs ws more d all (inr (y, late, behind, e, v)) =
    let inside : length ws < length (calls_of rules f.xs) = omega (arith, f.lawful.paired, ap length e, length-append ws (y ∷ late)) in
    let at = get_some (calls_of rules f.xs) (length ws) inside in
    let same : slice_get (calls_of rules zs) (length ws) ≡ Some at.0 =
    ap (λ t. slice_get (calls_of rules t) (length ws)) d ∙ (ap (λ t. slice_get t (length ws)) (calls_append rules f.xs more) ∙ (get_front (calls_of rules f.xs) (calls_of rules more) (length ws) inside ∙ at.1)) in
    let halts = all.last y behind at.0 v same in
    absurd (f.lawful.replies ws late y at.0 halts.0 e at.1 halts.1)

pub fronts : StandsAtFront → (rules : Rules) (limit max_calls : ℕ) (h : History) (s : Standing) (zs ws : List (List ℕ)) → limit < 2 ^ 31 → Fits rules limit max_calls h s → IsAllOfClient rules limit h.from_client zs → IsAllOfUpstream rules limit (calls_of rules zs) h.from_upstream ws → IsFrontOf h.to_client (back rules zs ws) × IsFrontOf h.to_upstream (onward rules zs)
fronts law rules limit max_calls h s zs ws small f client_all upstream_all =
    let more = client_goes_on rules limit max_calls h s f zs client_all (compared limit h.from_client zs f.xs client_all.rest s.client law small client_all.taken f.client) in
    let w = upstream_goes_on rules limit max_calls h s f zs ws more.0 more.1 upstream_all (compared limit h.from_upstream ws f.ys upstream_all.rest s.upstream law small upstream_all.taken f.upstream) in
    let taken : IsFrontOf (back rules f.xs f.ys) (back rules zs ws) =
    subst (λ z. IsFrontOf (back rules f.xs f.ys) (back rules z ws)) (sym more.1)
    (subst (λ y. IsFrontOf (back rules f.xs f.ys) (back rules (f.xs ++ more.0) y)) (sym w.1)
    (front_on _ (back rules f.xs (f.ys ++ w.0)) _ (back_longer rules f.xs f.ys w.0) (back_further rules f.xs more.0 (f.ys ++ w.0)))) in
    let onward_taken : IsFrontOf (onward rules f.xs) (onward rules zs) = (onward rules more.0, ap (onward rules) more.1 ∙ onward_further rules f.xs more.0) in
    (front_on h.to_client (back rules f.xs f.ys) _ (s.to_client, sym f.to_client) taken, front_on h.to_upstream (onward rules f.xs) _ (s.to_upstream, sym f.to_upstream) onward_taken)

-- ---- one greatest stand

same_length : (limit : ℕ) (xs zs : List (List ℕ)) (rest : List ℕ) → length xs ≤ length zs → length zs ≤ length xs → Compared limit xs zs rest → xs ≡ zs
same_length limit xs zs rest a b (inl ([], e)) = e ∙ append-nil zs
same_length limit xs zs rest a b (inl (m ∷ more, e)) = absurd (omega (arith, ap length e, length-append zs (m ∷ more)))
same_length limit xs zs rest a b (inr (x, more, behind, e, w)) = absurd (omega (arith, ap length e, length-append xs (x ∷ more)))

pub one_due : StandsAtFront → (rules : Rules) (limit max_calls : ℕ) (from_client from_upstream a b c d : List ℕ) → limit < 2 ^ 31 → IsDue rules limit max_calls from_client from_upstream a b → IsDue rules limit max_calls from_client from_upstream c d → (a ≡ c) × (b ≡ d)
one_due law rules limit max_calls from_client from_upstream a b c d small p q =
    let more = p.greatest q.at in
    let less = q.greatest p.at in
    let xs : p.at.xs ≡ q.at.xs = same_length limit p.at.xs q.at.xs p.at.client_rest less.0 more.0 (compared limit from_client p.at.xs q.at.xs p.at.client_rest q.at.client_rest law small p.at.client q.at.client) in
    let ys : p.at.ys ≡ q.at.ys = same_length limit p.at.ys q.at.ys p.at.upstream_rest less.1 more.1 (compared limit from_upstream p.at.ys q.at.ys p.at.upstream_rest q.at.upstream_rest law small p.at.upstream q.at.upstream) in
    (p.answers ∙ (ap (λ t. back rules t p.at.ys) xs ∙ (ap (λ t. back rules q.at.xs t) ys ∙ sym q.answers)), p.calls ∙ (ap (onward rules) xs ∙ sym q.calls))
