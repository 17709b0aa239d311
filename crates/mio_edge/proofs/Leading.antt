-- The targets of words, one more at a time.
use Rattle.std.proofs.Common.{◌≡◌, ℕ, ◌+◌, ◌<◌, List, [], ◌∷◌, ◌++◌, length, take, get_or, append_assoc, refl, sym, ap, ◌∙◌, subst, arith}
use Rattle.std.proofs.lemmas.List.{take_more}
use Rattle.std.specs.declared.net.socket_addr.SocketAddr.{SocketAddr}
use Rattle.peer_addresses.specs.declared.address.Address.{Address}
use Rattle.peer_addresses.specs.declared.address.Address.TheVariants as peer
use Rattle.mio_edge.specs.Targets.{Known, no_names, IsAt, LeadsTo, LeadTo, AddsTargets}

-- an address of the Internet Protocol is the same by all networks
pub numeric_at : (names : Known) (word : List ℕ) (address : Address) (target : SocketAddr) → IsAt no_names [] address target → IsAt names word address target
numeric_at names word (peer.V4 octets port) target at = at
numeric_at names word (peer.V6 segments port) target at = at
numeric_at names word (peer.Name port) target at = absurd at

one_more : (names : Known) (words : List (List ℕ)) (targets : List SocketAddr) (word : List ℕ) (target : SocketAddr) → LeadTo names words targets → LeadsTo names word target → LeadTo names (words ++ word ∷ []) (targets ++ target ∷ [])
one_more names [] [] word target lead leads = (leads, tt)
one_more names [] (t ∷ targets) word target lead leads = absurd lead
one_more names (w ∷ words) [] word target lead leads = absurd lead
one_more names (w ∷ words) (t ∷ targets) word target lead leads = (lead.0, one_more names words targets word target lead.1 leads)

pub adds_one : (names : Known) (words : List (List ℕ)) (before now after : List SocketAddr) (at : ℕ) (word : List ℕ) (target : SocketAddr) → at < length words → get_or words at word ≡ word → after ≡ now ++ target ∷ [] → LeadsTo names word target
    → AddsTargets names (take at words) before now → AddsTargets names (take (at + 1) words) before after
adds_one names words before now after at word target within is pushed leads (more, all, lead) = (
  more ++ target ∷ [],
  pushed ∙ (ap (λ xs. xs ++ target ∷ []) all ∙ append_assoc before more (target ∷ [])),
  subst (λ ws. LeadTo names ws (more ++ target ∷ [])) (sym (take_more words at word within ∙ ap (λ w. take at words ++ w ∷ []) is)) (one_more names (take at words) more word target lead leads),
)

-- there is one for each word
pub leads_many : (names : Known) (words : List (List ℕ)) (targets : List SocketAddr) → LeadTo names words targets → length targets ≡ length words
leads_many names [] [] lead = refl
leads_many names [] (t ∷ targets) lead = absurd lead
leads_many names (w ∷ words) [] lead = absurd lead
leads_many names (w ∷ words) (t ∷ targets) lead = omega (arith, leads_many names words targets lead.1)
