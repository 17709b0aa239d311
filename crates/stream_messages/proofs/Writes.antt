-- A write in frames, of which the content is passed on.
use Rattle.std.proofs.Common.{◌≡◌, ℕ, ◌+◌, ◌≤◌, List, [], ◌++◌, length, take, drop, Some, refl, sym, ap, ◌∙◌, subst, append_assoc, take-add}
use Rattle.std.proofs.lemmas.List.{length-take-le}
use Rattle.gate_hub.specs.Meaning.{Link, Wrote, Meaning, link_of, IsOpen}
use Rattle.gate_hub.specs.Hubs.{Leads, LinkWrites, WriteLeads}
use Rattle.gate_hub.specs.declared.hub.Side.{Side}
use Rattle.gate_hub.specs.declared.hub.LinkPut.TheVariants as put
use Rattle.stream_messages.specs.Stripping.{StripperState, behind_bytes, contents, StripsTo}
use Rattle.stream_messages.specs.Lanes.{StaysReceived, StripsWrites}
use Rattle.stream_messages.proofs.Stripping.{strips_on, takes_length}
use Rattle.stream_messages.proofs.Links.{at_link, goes_nowhere, goes_by_call, received_same, writes_receive_nothing}

-- a front of a length was taken
abbrev pub TakesLength : StripperState → StripperState → List ℕ → Type 0
TakesLength s t front = (written sent : List ℕ) → StripsTo s written sent → StripsTo t (written ++ front) sent

-- bytes of a content were passed on
abbrev pub PassesContent : StripperState → StripperState → ℕ → Type 0
PassesContent s t n = (written sent piece : List ℕ) → length piece ≡ n → StripsTo s written sent → StripsTo t (written ++ piece) (sent ++ piece)

pub only_length : (told : Meaning → Type 0) (k : ℕ) (x : Side) (s t : StripperState) (from : List ℕ) (n : ℕ) → TakesLength s t (take n from) → StripsWrites told told s t k x from (put.Took n)
only_length told k x s t from n by = λ a outer tells is_open strips. (
  a,
  tells,
  goes_nowhere k x StaysReceived a received_same,
  (record outer { sent = outer.sent ++ take n from; last_write = Some (put.Took n) }, refl, by outer.sent (link_of (a.session k) x).sent strips),
)

pub with_content : (told told' : Meaning → Type 0) (k : ℕ) (x : Side) (s mid t : StripperState) (from piece : List ℕ) (head n : ℕ) → TakesLength s mid (take head from) → PassesContent mid t n → n ≤ length piece → take n piece ≡ take n (drop head from)
    → Leads told told' (IsOpen k) (WriteLeads k x piece (put.Took n)) → StripsWrites told told' s t k x from (put.Took (head + n))
with_content told told' k x s mid t from piece head n takes passes few same leads = λ a outer tells is_open strips.
    let led = leads a tells is_open in
    let inner = link_of (a.session k) x in
    let below = at_link x (LinkWrites piece (put.Took n)) (a.session k) (led.0.session k) led.2.session in
    let sent : (link_of (led.0.session k) x).sent ≡ inner.sent ++ take n piece = ap (λ (l : Link). l.sent) below in
    let whole : (outer.sent ++ take head from) ++ take n piece ≡ outer.sent ++ take (head + n) from =
    append_assoc outer.sent (take head from) (take n piece) ∙ ap (λ l. outer.sent ++ l) (ap (λ l. take head from ++ l) same ∙ sym (take-add head n from)) in
    let moved = passes (outer.sent ++ take head from) inner.sent (take n piece) (length-take-le n piece few) (takes outer.sent inner.sent strips) in (
      led.0,
      led.1,
      goes_by_call k x (Wrote k x (length piece) (put.Took n)) (LinkWrites piece (put.Took n)) StaysReceived a led.0 (writes_receive_nothing piece (put.Took n)) led.2,
      (
        record outer { sent = outer.sent ++ take (head + n) from; last_write = Some (put.Took (head + n)) },
        refl,
        subst (λ w. StripsTo t w (link_of (led.0.session k) x).sent) whole (subst (λ o. StripsTo t ((outer.sent ++ take head from) ++ take n piece) o) (sym sent) moved),
      ),
    )

-- nothing was taken
pub not_written : (told told' : Meaning → Type 0) (k : ℕ) (x : Side) (s : StripperState) (from piece : List ℕ) → Leads told told' (IsOpen k) (WriteLeads k x piece put.NotReady) → StripsWrites told told' s s k x from put.NotReady
not_written told told' k x s from piece leads = λ a outer tells is_open strips.
    let led = leads a tells is_open in
    let below = at_link x (LinkWrites piece put.NotReady) (a.session k) (led.0.session k) led.2.session in (
      led.0,
      led.1,
      goes_by_call k x (Wrote k x (length piece) put.NotReady) (LinkWrites piece put.NotReady) StaysReceived a led.0 (writes_receive_nothing piece put.NotReady) led.2,
      (record outer { last_write = Some put.NotReady }, refl, subst (λ o. StripsTo s outer.sent o) (sym (ap (λ (l : Link). l.sent) below)) strips),
    )

pub failed_write_below : (told told' : Meaning → Type 0) (k : ℕ) (x : Side) (s : StripperState) (from piece : List ℕ) → Leads told told' (IsOpen k) (WriteLeads k x piece put.Failed) → StripsWrites told told' s s k x from put.Failed
failed_write_below told told' k x s from piece leads = λ a outer tells is_open strips.
    let led = leads a tells is_open in
    let below = at_link x (LinkWrites piece put.Failed) (a.session k) (led.0.session k) led.2.session in (
      led.0,
      led.1,
      goes_by_call k x (Wrote k x (length piece) put.Failed) (LinkWrites piece put.Failed) StaysReceived a led.0 (writes_receive_nothing piece put.Failed) led.2,
      (record outer { last_write = Some put.Failed }, refl, subst (λ o. StripsTo s outer.sent o) (sym (ap (λ (l : Link). l.sent) below)) strips),
    )

-- ---- contents that were gathered

-- Of the contents of the first bytes, these were sent, and nothing else.
pub with_gathered : (told told' : Meaning → Type 0) (k : ℕ) (x : Side) (s t : StripperState) (from piece : List ℕ) (count n : ℕ) → t ≡ behind_bytes s (take n from) → take count piece ≡ contents s (take n from)
    → Leads told told' (IsOpen k) (WriteLeads k x piece (put.Took count)) → StripsWrites told told' s t k x from (put.Took n)
with_gathered told told' k x s t from piece count n behind are leads = λ a outer tells is_open strips.
    let led = leads a tells is_open in
    let inner = link_of (a.session k) x in
    let below = at_link x (LinkWrites piece (put.Took count)) (a.session k) (led.0.session k) led.2.session in
    let sent : (link_of (led.0.session k) x).sent ≡ inner.sent ++ contents s (take n from) = ap (λ (l : Link). l.sent) below ∙ ap (λ l. inner.sent ++ l) are in (
      led.0,
      led.1,
      goes_by_call k x (Wrote k x (length piece) (put.Took count)) (LinkWrites piece (put.Took count)) StaysReceived a led.0 (writes_receive_nothing piece (put.Took count)) led.2,
      (
        record outer { sent = outer.sent ++ take n from; last_write = Some (put.Took n) },
        refl,
        subst (λ (u : StripperState). StripsTo u (outer.sent ++ take n from) (link_of (led.0.session k) x).sent) (sym behind)
            (subst (λ o. StripsTo (behind_bytes s (take n from)) (outer.sent ++ take n from) o) (sym sent) (strips_on (take n from) s outer.sent inner.sent strips)),
      ),
    )

-- there was no content
pub none_gathered : (told : Meaning → Type 0) (k : ℕ) (x : Side) (s t : StripperState) (from : List ℕ) (n : ℕ) → t ≡ behind_bytes s (take n from) → contents s (take n from) ≡ [] → StripsWrites told told s t k x from (put.Took n)
none_gathered told k x s t from n behind none = only_length told k x s t from n (takes_length s t (take n from) (behind, none))
