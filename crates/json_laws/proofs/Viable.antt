-- A frame that a fault strikes begins with tokens of a message, and the fault stands where the next one is called for; a frame that is cut short can be completed.
use Rattle.std.proofs.Common.{◌≡◌, ℕ, ℤ, zero, suc, pos, ◌+◌, ◌<◌, ◌≤◌, ◌^◌, Bool, true, false, cond, List, [], ◌∷◌, ◌++◌, length, drop, Option, Some, Ok, Err, refl, ap, ◌∙◌, sym, subst, arith, ◌⊎◌, inl, inr, length-append, length-drop}
use Rattle.std.specs.Prelude.{nat_le, ◌==◌, ◌&&◌}
use Rattle.std.proofs.lemmas.Bool.Decides.{nat_tests}
use Rattle.thrift_value.specs.declared.kind.Kind.{Kind}
use Rattle.thrift_value.specs.declared.kind.MessageType.{MessageType}
use Rattle.thrift_value.specs.declared.kind.MessageType.TheVariants as types
use Rattle.thrift_value.specs.Items.{Item, field, stop, end}
use Rattle.thrift_value.specs.Trees.{Message, no_members, no_trees, no_pairs, items_of}
use Rattle.protocol_traits.specs.declared.fault.Fault.{Fault}
use Rattle.protocol_traits.specs.declared.fault.Reason.{Reason}
use Rattle.protocol_traits.specs.declared.fault.Reason.TheVariants as reasons
use Rattle.protocol_traits.specs.declared.nest.Slot.{Slot}
use Rattle.protocol_traits.specs.declared.nest.Slot.TheVariants as slots
use Rattle.protocol_traits.specs.declared.proto.Hint.{Hint}
use Rattle.protocol_traits.specs.Heads.{Header}
use Rattle.protocol_traits.specs.Stack.{first_of}
use Rattle.protocol_traits.specs.Follow.{spent}
use Rattle.type_tables.specs.declared.declared.StructId.{StructId}
use Rattle.type_tables.specs.declared.declared.Ty.{Ty}
use Rattle.type_tables.specs.Declarations.{Declarations}
use Rattle.type_walk.specs.declared.levels.Level.{Level}
use Rattle.type_walk.specs.Positions.{Position, hint_of, hint_at, start}
use Rattle.json_text.specs.Scan.{is_white}
use Rattle.json_text.specs.Grammar.{SpellsInt, SpellsText, all_spelled}
use Rattle.json_text_laws.proofs.Choices.{cond_false}
use Rattle.json_text_laws.proofs.Parts.{Apart, append_more}
use Rattle.json_protocol.specs.declared.opening.Opening.{Opening}
use Rattle.json_protocol.specs.declared.opening.Opening.TheVariants as openings
use Rattle.json_protocol.specs.Scan.{Scan, gap, fault, further, shifted, mark_at}
use Rattle.json_protocol.specs.Values.{end_at, opens, value_at, value_in}
use Rattle.json_protocol.specs.Reading.{State, begun, rest, lead_by, lead_pairs, lead_fields, lead_key, lead_at, fields_at, item_in, begun_at, led, scan_at, moved, reads}
use Rattle.json_protocol.specs.Head.{head_at, headed, reads_head, end_scan, ended, reads_end}
use Rattle.json_protocol.specs.Writing.{quoted, type_digit, is_key}
use Rattle.json_protocol.specs.Grammar.{Tokens, Laid, mark, comma, name_token, IsNamed, SpellsMessage}
use Rattle.binary_laws.proofs.Walking.{CallsFor, length-spent}
use Rattle.json_laws.specs.Positions.{declared_of, body_of}
use Rattle.json_laws.specs.Stated.{Known}
use Rattle.json_laws.specs.Faults.{IsSort, PartStands, IsOfPart}
use Rattle.json_laws.specs.Fronts.{head_tokens, BeginsToken, leading, field_leading, is_first, levels_behind, opening_behind, body_nest}
use Rattle.json_laws.specs.Reads.{Reads}
use Rattle.json_laws.specs.Refused.{behind, Refuses, IsRefused}
use Rattle.json_laws.proofs.Marks.{Lies, white_is, solid_some, here, cut}
use Rattle.json_laws.proofs.Words.{int_solid}
use Rattle.json_laws.proofs.Places.{at_type}
use Rattle.json_laws.proofs.Trees.{tokens_append}
use Rattle.json_laws.proofs.Spelled.{At}
use Rattle.json_laws.proofs.Inverse.{is_read, is_fault, same_read, bound, gap_apart}
use Rattle.json_laws.proofs.Levels.{Ends, value_type, with_value, with_field}
use Rattle.json_laws.proofs.Steps.{lead_append}
use Rattle.json_laws.proofs.Stepping.{Leads, one_lead, two_lead, no_lead, field_lead, more_left, Stand}
use Rattle.json_laws.proofs.HeadBack.{head_back}
use Rattle.json_laws.proofs.Sound.{is_step, begun_back}
use Rattle.json_laws.proofs.Either.{is_bad, same_blame}
use Rattle.json_laws.proofs.Fronting.{led_body}
use Rattle.json_laws.proofs.Named.{AreNamed, named_spent}
use Rattle.json_laws.proofs.Completing.{gap_solid, laid_join, flat, flat_laid, IsCut, Struck, Strikes, strikes_more, strikes_here, lead_goes, same_fault, no_read, bound_fault, either_fault, Shown, shifted_fault, same_reason, shown_struck, shown_strikes, mark_struck}
use Rattle.json_laws.proofs.ItemsCut.{by_side, past_mark, at_mark, FieldsCut, first_cut, next_cut, SmallValue, value_cut, least}
use Rattle.json_laws.proofs.Closing.{deepest, tree_of, level_closed, nest_closed, tied_long}
use Rattle.json_laws.proofs.HeadCut.{zero_fits, head_cut}

-- ---- marks

lead_struck : (m : ℕ) (bytes : List ℕ) (f : Fault) (tokens : Tokens) → lead_by m bytes ≡ is_fault f → Strikes 0 bytes f (mark m ∷ tokens)
lead_struck m bytes f tokens e = by_side (bound_fault (further 0 (mark_at m) bytes) _ f e) (λ h. at_mark m 0 bytes f tokens h) (λ a. absurd (no_read _ f a.2))

pairs_struck : (bytes : List ℕ) (f : Fault) (tokens : Tokens) → lead_pairs bytes ≡ is_fault f → Strikes 0 bytes f (mark 44 ∷ mark 123 ∷ tokens)
unfolding lead_pairs
pairs_struck bytes f tokens e =
    by_side (bound_fault (further 0 (mark_at 44) bytes) _ f e)
    (λ h. at_mark 44 0 bytes f (mark 123 ∷ tokens) h)
    (λ a. by_side (bound_fault (further a.0.1 (mark_at 123) bytes) _ f a.2)
    (λ h. past_mark 44 0 bytes f a.0.0 a.0.1 (mark 123 ∷ tokens) a.1 (at_mark 123 a.0.1 bytes f tokens h))
    (λ b. absurd (no_read _ f b.2)))

key_struck : (opening : Opening) (k v : Kind) (left : ℕ) (up : List Slot) (bytes : List ℕ) (f : Fault) (tokens : Tokens) → lead_key opening bytes ≡ is_fault f → Strikes 0 bytes f (leading opening (slots.Keys k v left ∷ up) tokens)
unfolding lead_key
key_struck openings.Old k v left up bytes f tokens e = lead_struck 44 bytes f tokens e
key_struck openings.New k v left up bytes f tokens e = pairs_struck bytes f tokens e
key_struck openings.Body k v left up bytes f tokens e = pairs_struck bytes f tokens e

-- before a value
called_struck : (slot : Slot) (up : List Slot) (opening : Opening) (k : Kind) (bytes : List ℕ) (f : Fault) (tokens : Tokens) → CallsFor (slot ∷ up) k → lead_at opening slot bytes ≡ is_fault f → Strikes 0 bytes f (leading opening (slot ∷ up) tokens)
unfolding lead_at
called_struck (slots.Fields last) up opening k bytes f tokens c e = absurd c
called_struck (slots.Value kind id) up opening k bytes f tokens c e = lead_struck 58 bytes f tokens e
called_struck (slots.Elements kind left) up opening k bytes f tokens c e = lead_struck 44 bytes f tokens (sym (cond_false (left == 0) (Ok (tt, gap bytes)) (lead_by 44 bytes) (more_left left c.1)) ∙ e)
called_struck (slots.Keys key value left) up opening k bytes f tokens c e = key_struck opening key value left up bytes f tokens (sym (cond_false (left == 0) (lead_by 125 bytes) (lead_key opening bytes) (more_left left c.1)) ∙ e)
called_struck (slots.Values key value left) up opening k bytes f tokens c e = lead_struck 58 bytes f tokens e

key_leads : (opening : Opening) (k v : Kind) (left : ℕ) (up : List Slot) (bytes : List ℕ) (place : ℕ) → lead_key opening bytes ≡ is_read (tt, place) → Leads (leading opening (slots.Keys k v left ∷ up)) bytes place
unfolding lead_key
key_leads openings.Old k v left up bytes place e = one_lead 44 bytes tt place e
key_leads openings.New k v left up bytes place e = two_lead bytes tt place e
key_leads openings.Body k v left up bytes place e = two_lead bytes tt place e

-- the marks before a value that were read
pub called_leads : (slot : Slot) (up : List Slot) (opening : Opening) (k : Kind) (bytes : List ℕ) (place : ℕ) → CallsFor (slot ∷ up) k → lead_at opening slot bytes ≡ is_read (tt, place) → Leads (leading opening (slot ∷ up)) bytes place
unfolding lead_at
called_leads (slots.Fields last) up opening k bytes place c e = absurd c
called_leads (slots.Value kind id) up opening k bytes place c e = one_lead 58 bytes tt place e
called_leads (slots.Elements kind left) up opening k bytes place c e = one_lead 44 bytes tt place (sym (cond_false (left == 0) (Ok (tt, gap bytes)) (lead_by 44 bytes) (more_left left c.1)) ∙ e)
called_leads (slots.Keys key value left) up opening k bytes place c e = key_leads opening key value left up bytes place (sym (cond_false (left == 0) (lead_by 125 bytes) (lead_key opening bytes) (more_left left c.1)) ∙ e)
called_leads (slots.Values key value left) up opening k bytes place c e = one_lead 58 bytes tt place e

-- as marks before any tokens
pub marks_lead : (nest : List Slot) (opening : Opening) (bytes : List ℕ) (place : ℕ) → Leads (leading opening nest) bytes place → (tail token : List ℕ) (more : Tokens) → Lies tail (token ∷ more) (drop place bytes) → Lies tail (leading opening nest [] ++ (token ∷ more)) bytes
marks_lead nest opening bytes place leads tail token more lies = subst (λ t. Lies tail t bytes) (sym (lead_append opening nest [] (token ∷ more))) (leads tail token more lies)

called_led : (slot : Slot) (up : List Slot) (opening : Opening) (k : Kind) (bytes : List ℕ) (place : ℕ) (f : Fault) (tokens : Tokens) → CallsFor (slot ∷ up) k → lead_at opening slot bytes ≡ is_read (tt, place) → Strikes place bytes f tokens
    → Strikes 0 bytes f (leading opening (slot ∷ up) tokens)
called_led slot up opening k bytes place f tokens c e s =
    subst (Strikes 0 bytes f) (lead_append opening (slot ∷ up) [] tokens) (lead_goes (leading opening (slot ∷ up) []) tokens bytes place f (marks_lead (slot ∷ up) opening bytes place (called_leads slot up opening k bytes place c e)) s)

-- no whitespace stands behind marks that were read
by_solid : (m : ℕ) (bytes : List ℕ) (place : ℕ) → lead_by m bytes ≡ is_read (tt, place) → Apart is_white (drop place bytes)
by_solid m bytes place e =
    let a = bound (further 0 (mark_at m) bytes) _ (tt, place) e in
    let same = same_read tt tt (a.0.1 + gap (drop a.0.1 bytes)) place a.2 in
    subst (λ n. Apart is_white (drop n bytes)) same.1 (gap_solid a.0.1 bytes)

pairs_solid : (bytes : List ℕ) (place : ℕ) → lead_pairs bytes ≡ is_read (tt, place) → Apart is_white (drop place bytes)
unfolding lead_pairs
pairs_solid bytes place e =
    let a = bound (further 0 (mark_at 44) bytes) _ (tt, place) e in
    let b = bound (further a.0.1 (mark_at 123) bytes) _ (tt, place) a.2 in
    let same = same_read tt tt (b.0.1 + gap (drop b.0.1 bytes)) place b.2 in
    subst (λ n. Apart is_white (drop n bytes)) same.1 (gap_solid b.0.1 bytes)

none_solid : (bytes : List ℕ) (place : ℕ) → is_read {X = Unit {0}} (tt, gap bytes) ≡ is_read {X = Unit {0}} (tt, place) → Apart is_white (drop place bytes)
none_solid bytes place e = let same = same_read tt tt (gap bytes) place e in subst (λ n. Apart is_white (drop n bytes)) same.1 (gap_apart bytes)

either_solid : (b : Bool) (one two : Scan (Unit {0})) (bytes : List ℕ) (place : ℕ) → (one ≡ is_read (tt, place) → Apart is_white (drop place bytes)) → (two ≡ is_read (tt, place) → Apart is_white (drop place bytes)) → cond b one two ≡ is_read (tt, place) → Apart is_white (drop place bytes)
either_solid true one two bytes place f g e = f e
either_solid false one two bytes place f g e = g e

pub lead_solid : (opening : Opening) (slot : Slot) (bytes : List ℕ) (place : ℕ) → lead_at opening slot bytes ≡ is_read (tt, place) → Apart is_white (drop place bytes)
unfolding lead_at lead_fields lead_key
lead_solid openings.Body (slots.Fields last) bytes place e = by_solid 123 bytes place e
lead_solid openings.New (slots.Fields last) bytes place e = none_solid bytes place e
lead_solid openings.Old (slots.Fields last) bytes place e = by_solid 125 bytes place e
lead_solid opening (slots.Value kind id) bytes place e = by_solid 58 bytes place e
lead_solid opening (slots.Elements kind left) bytes place e = either_solid (left == 0) _ _ bytes place (none_solid bytes place) (by_solid 44 bytes place) e
lead_solid openings.Body (slots.Keys key value left) bytes place e = either_solid (left == 0) _ _ bytes place (by_solid 125 bytes place) (pairs_solid bytes place) e
lead_solid openings.New (slots.Keys key value left) bytes place e = either_solid (left == 0) _ _ bytes place (by_solid 125 bytes place) (pairs_solid bytes place) e
lead_solid openings.Old (slots.Keys key value left) bytes place e = either_solid (left == 0) _ _ bytes place (by_solid 125 bytes place) (by_solid 44 bytes place) e
lead_solid opening (slots.Values key value left) bytes place e = by_solid 58 bytes place e

-- the item of a level that calls for a value
called_item : (depth : ℕ) (slot : Slot) (up : List Slot) (opening : Opening) (hint : Hint) (k : Kind) (bytes : List ℕ) → CallsFor (slot ∷ up) k → item_in depth opening hint slot bytes ≡ value_in depth (is_key (Some slot)) hint k bytes
unfolding item_in
called_item depth (slots.Fields last) up opening hint k bytes c = absurd c
called_item depth (slots.Value kind id) up opening hint k bytes c = ap (λ z. value_in depth false hint z bytes) c
called_item depth (slots.Elements kind left) up opening hint k bytes c = cond_false (left == 0) (end_at bytes) (value_in depth false hint kind bytes) (more_left left c.1) ∙ ap (λ z. value_in depth false hint z bytes) c.0
called_item depth (slots.Keys key value left) up opening hint k bytes c = cond_false (left == 0) (end_at bytes) (value_in depth true hint key bytes) (more_left left c.1) ∙ ap (λ z. value_in depth true hint z bytes) c.0
called_item depth (slots.Values key value left) up opening hint k bytes c = ap (λ z. value_in depth false hint z bytes) c

called_named : (slot : Slot) (up : List Slot) (k : Kind) → CallsFor (slot ∷ up) k → AreNamed (slot ∷ up) → IsNamed k
called_named (slots.Fields last) up k c h = absurd c
called_named (slots.Value kind id) up k c h = subst IsNamed c h.0
called_named (slots.Elements kind left) up k c h = subst IsNamed c.0 h.0
called_named (slots.Keys key value left) up k c h = subst IsNamed c.0 h.0
called_named (slots.Values key value left) up k c h = subst IsNamed c h.1

end_struck : (bytes : List ℕ) (f : Fault) → end_at bytes ≡ is_fault f → Struck f bytes bytes (mark 93)
unfolding end_at
end_struck bytes f e = by_side (bound_fault (mark_at 93 bytes) _ f e) (λ h. mark_struck 93 bytes f h) (λ a. absurd (no_read _ f a.2))

-- ---- an item behind its marks

-- the marks are cut, or the item behind them is
abbrev LedCut : ℕ → Opening → Hint → Slot → List ℕ → Scan (Unit {0}) → Fault → Type 0
LedCut depth opening hint slot bytes lead f = (lead ≡ is_fault f) ⊎ ((place : ℕ) × (g : Fault) × (lead ≡ is_read (tt, place)) × (item_in depth opening hint slot (drop place bytes) ≡ is_fault g) × Shown place g f)

begun_fault : (place : ℕ) (scan : Scan Item) (f : Fault) → begun_at place scan ≡ is_fault f → scan ≡ is_fault f
begun_fault place (Ok x) f e = absurd (no_read _ f e)
begun_fault place (Err g) f e = ap (λ h. is_fault h) (same_fault {X = Item × ℕ} g f e)

led_cut : (depth : ℕ) (opening : Opening) (hint : Hint) (slot : Slot) (bytes : List ℕ) (lead : Scan (Unit {0})) (f : Fault) → led depth opening hint slot bytes lead ≡ is_fault f → LedCut depth opening hint slot bytes lead f
led_cut depth opening hint slot bytes (Err g) f e = inl (ap (λ h. is_fault h) (same_fault {X = Item × ℕ} g f e))
led_cut depth opening hint slot bytes (Ok x) f e =
    let s = shifted_fault x.1 (item_in depth opening hint slot (drop x.1 bytes)) f (begun_fault x.1 (shifted x.1 (item_in depth opening hint slot (drop x.1 bytes))) f e) in
    inr (x.1, s.0, refl, s.1, s.2)

-- ---- fields

fields_cut : (opening : Opening) (bytes : List ℕ) (f : Fault) → Apart is_white bytes → fields_at opening bytes ≡ is_fault f → FieldsCut (is_first opening) bytes f
fields_cut openings.Body bytes f solid e = first_cut bytes f solid e
fields_cut openings.New bytes f solid e = first_cut bytes f solid e
fields_cut openings.Old bytes f solid e = next_cut bytes f solid e

field_struck : (opening : Opening) (bytes : List ℕ) (f : Fault) (tokens : Tokens) → lead_fields opening bytes ≡ is_fault f → Strikes 0 bytes f (field_leading opening tokens)
unfolding lead_fields
field_struck openings.Body bytes f tokens e = lead_struck 123 bytes f tokens e
field_struck openings.New bytes f tokens e = absurd (no_read _ f e)
field_struck openings.Old bytes f tokens e = lead_struck 125 bytes f tokens e

field_led : (opening : Opening) (bytes : List ℕ) (place : ℕ) (f : Fault) (tokens : Tokens) → lead_fields opening bytes ≡ is_read (tt, place) → Strikes place bytes f tokens → Strikes 0 bytes f (field_leading opening tokens)
field_led openings.Body bytes place f tokens e s = lead_goes (mark 123 ∷ []) tokens bytes place f (field_lead openings.Body bytes tt place e) s
field_led openings.New bytes place f tokens e s = lead_goes [] tokens bytes place f (field_lead openings.New bytes tt place e) s
field_led openings.Old bytes place f tokens e s = lead_goes (mark 125 ∷ []) tokens bytes place f (field_lead openings.Old bytes tt place e) s

-- the tokens of a field up to its kind, and those behind
field_tokens : (opening : Opening) (digits : List ℕ) (kind : Kind) (front back : Tokens)
    → field_leading opening (comma (is_first opening) ++ (quoted digits ∷ mark 58 ∷ mark 123 ∷ name_token kind ∷ front)) ++ back ≡ field_leading opening ((comma (is_first opening) ++ (quoted digits ∷ mark 58 ∷ mark 123 ∷ name_token kind ∷ [])) ++ (front ++ back))
field_tokens openings.Body digits kind front back = refl
field_tokens openings.New digits kind front back = refl
field_tokens openings.Old digits kind front back = refl

stop_tokens : (opening : Opening) (back : Tokens) → field_leading opening (mark 125 ∷ []) ++ back ≡ field_leading opening (mark 125 ∷ back)
stop_tokens openings.Body back = refl
stop_tokens openings.New back = refl
stop_tokens openings.Old back = refl

-- ---- the calls that are refused

moved_fault : (s : State) (scan : Scan (Item × ℕ)) (f : Fault) → moved s scan ≡ is_bad f → (g : Fault) × (scan ≡ is_fault g) × Shown s.place g f
moved_fault s (Ok x) f e = absurd (no_step_fault _ f e)
  where
    no_step_fault : (x : Item × State) (h : Fault) → is_step x ≡ is_bad h → ⊥
    no_step_fault x h same = absurd (cc)
moved_fault s (Err g) f e = (g, refl, sym (same_blame {X = Item} (record { place = s.place + g.place; reason = g.reason }) f e))

pub reads_fault : (s : State) (p : Position) (nest : List Slot) (opening : Opening) (bytes : List ℕ) (f : Fault) → At s nest opening bytes → reads s (hint_of p) ≡ is_bad f → (g : Fault) × (scan_at (length nest) opening (hint_of p) (first_of nest) bytes ≡ is_fault g) × Shown s.place g f
unfolding reads
reads_fault s p levels_open opening bytes f a e =
    let m = moved_fault s (scan_at (length s.nest) s.opening (hint_of p) (first_of s.nest) (rest s)) f e in (
      m.0,
      ap (λ n. scan_at (length n) opening (hint_of p) (first_of n) bytes) (sym a.open_levels) ∙ ap (λ o. scan_at (length s.nest) o (hint_of p) (first_of s.nest) bytes) (sym a.begins)
          ∙ ap (λ b. scan_at (length s.nest) s.opening (hint_of p) (first_of s.nest) b) (sym a.left) ∙ m.1,
      m.2,
    )

pub ended_fault : (s : State) (scan : Scan (Unit {0})) (f : Fault) → ended s scan ≡ is_bad f → (g : Fault) × (scan ≡ is_fault g) × Shown s.place g f
ended_fault s (Ok x) f e = absurd (no_end_fault _ f e)
  where
    no_end_fault : (x : Unit {0} × State) (h : Fault) → is_step x ≡ is_bad h → ⊥
    no_end_fault x h same = absurd (cc)
ended_fault s (Err g) f e = (g, refl, sym (same_blame {X = Unit {0}} (record { place = s.place + g.place; reason = g.reason }) f e))

-- a kind that opens a level, where all may be open
levels_full : (b : Bool) (n : ℕ) → (b && nat_le 256 n) ≡ true → (b ≡ true) × (256 ≤ n)
levels_full true n e = (refl, grind (arith, nat_tests))
levels_full false n e = absurd (cc)

abbrev shown_at : ℕ → Fault → Fault
shown_at n g = record { place = n + g.place; reason = g.reason }

module _ (d : Declarations) where
  -- tokens that end what is open, of which the fault strikes one
  pub record Goes (opening : Opening) (nest : List Slot) (tys : List Ty) (bytes : List ℕ) (f : Fault) : Type 0 where
    pub items : List Item
    pub tokens : Tokens
    pub ends : Ends d deepest opening nest tys items tokens
    pub strikes : Strikes 0 bytes f tokens

  -- a value is called for that opens a level, inside 256 of them
  pub record DeepAt (slot : Slot) (up : List Slot) (opening : Opening) (bytes : List ℕ) (f : Fault) : Type 0 where
    pub place : ℕ
    pub lead : lead_at opening slot bytes ≡ is_read (tt, place)
    pub kind : Kind
    pub calls : CallsFor (slot ∷ up) kind
    pub level : opens kind ≡ true
    pub deep : 256 ≤ suc (length up)
    pub there : f.place ≡ place
    pub reason : f.reason ≡ reasons.TooDeep

  -- ---- a value

  module _ (slot : Slot) (up : List Slot) (opening : Opening) (p : Position) (levels : List Level) (tys : List Ty) (bytes : List ℕ) (k : Kind) (c : CallsFor (slot ∷ up) k) (at : p ≡ at_type d levels (value_type d (slot ∷ up) tys))
      (long : length tys ≡ suc (length up)) (most : suc (length up) ≤ 256) (named : AreNamed (slot ∷ up)) (room : length bytes + 10 < 2 ^ 31) (f : Fault) where
    abbrev nest : List Slot
    nest = slot ∷ up

    abbrev ty : Ty
    ty = value_type d (slot ∷ up) tys

    abbrev key : Bool
    key = is_key (Some slot)

    -- a small value, and then the least that is still called for
    small_ends : (v : SmallValue d key ty k) → ((rest : Tokens) → Strikes 0 bytes f (leading opening nest (v.tokens ++ rest))) → Goes opening nest tys bytes f
    small_ends v s =
        let kept : length (spent nest) ≡ suc (length up) = length-spent nest in
        let r = nest_closed d openings.Old (spent nest) tys (long ∙ sym kept) (omega (arith, kept, most)) (named_spent nest named) in
        record {
          items = items_of v.t ++ r.items;
          tokens = leading opening nest (v.tokens ++ r.tokens);
          ends = with_value d deepest opening nest tys k (items_of v.t) r.items v.tokens r.tokens c (tree_of d (suc (length up)) key ty k most v) r.closes;
          strikes = s r.tokens;
        }

    value_goes : scan_at (suc (length up)) opening (hint_of p) (Some slot) bytes ≡ is_fault f → Goes opening nest tys bytes f ⊎ DeepAt slot up opening bytes f
    unfolding value_in
    value_goes e = by_lead (led_cut (suc (length up)) opening (hint_of p) slot bytes (lead_at opening slot bytes) f e)
      where
        own : hint_of p ≡ hint_at ty
        own = ap hint_of at

        by_value : (place : ℕ) (g : Fault) → lead_at opening slot bytes ≡ is_read (tt, place) → Shown place g f → value_in (suc (length up)) key (hint_at ty) k (drop place bytes) ≡ is_fault g → Goes opening nest tys bytes f ⊎ DeepAt slot up opening bytes f
        by_value place g lead shown h =
            by_side (either_fault (opens k && nat_le 256 (suc (length up))) (fault 0 reasons.TooDeep) (value_at key (hint_at ty) k (drop place bytes)) g h)
            (λ x. let test = levels_full (opens k) (suc (length up)) x.0 in
            let is = shown ∙ ap (λ (y : Fault). shown_at place y) (sym (same_fault {X = Item} (record { place = 0; reason = reasons.TooDeep }) g x.1)) in
            inr (record { place = place; lead = lead; kind = k; calls = c; level = test.0; deep = test.1; there = ap (λ (y : Fault). y.place) is ∙ omega arith; reason = ap (λ (y : Fault). y.reason) is }))
            (λ x. let less : length (drop place bytes) + 10 < 2 ^ 31 = omega (arith, room, length-drop place bytes) in
            let v = value_cut d key ty k (drop place bytes) g (called_named slot up k c named) less (lead_solid opening slot bytes place lead) x.1 in
            let m = v.small in
            inl (small_ends m (λ rest. called_led slot up opening k bytes place f (m.tokens ++ rest) c lead (strikes_more place bytes f m.tokens rest (shown_strikes place g f bytes m.tokens shown v.strikes)))))

        by_lead : LedCut (suc (length up)) opening (hint_of p) slot bytes (lead_at opening slot bytes) f → Goes opening nest tys bytes f ⊎ DeepAt slot up opening bytes f
        by_lead (inl h) = let v = least d key ty k (called_named slot up k c named) in inl (small_ends v (λ rest. called_struck slot up opening k bytes f (v.tokens ++ rest) c h))
        by_lead (inr (place, g, lead, h, shown)) =
            by_value place g lead shown (ap (λ hint. value_in (suc (length up)) key hint k (drop place bytes)) (sym own) ∙ sym (called_item (suc (length up)) slot up opening (hint_of p) k (drop place bytes) c) ∙ h)

  -- ---- the ends of containers, and fields

  module _ (up : List Slot) (opening : Opening) (hint : Hint) (ty : Ty) (tys : List Ty) (bytes : List ℕ) (f : Fault) (long : suc (length tys) ≡ suc (length up)) (most : suc (length up) ≤ 256) where
    -- a bracket that ends a container behind so many bytes
    bracket : (place : ℕ) (g : Fault) (rest : Tokens) → Apart is_white (drop place bytes) → Shown place g f → end_at (drop place bytes) ≡ is_fault g → Strikes place bytes f (mark 93 ∷ rest)
    bracket place g rest solid shown h = strikes_more place bytes f (mark 93 ∷ []) rest (strikes_here place bytes f (mark 93) solid (shown_struck place g f bytes (drop place bytes) (mark 93) shown (end_struck (drop place bytes) g h)))

    elements_goes : (k : Kind) → AreNamed up → scan_at (suc (length up)) opening hint (Some (slots.Elements k 0)) bytes ≡ is_fault f → Goes opening (slots.Elements k 0 ∷ up) (ty ∷ tys) bytes f
    unfolding lead_at item_in
    elements_goes k named e = by_lead (led_cut (suc (length up)) opening hint (slots.Elements k 0) bytes (lead_at opening (slots.Elements k 0) bytes) f e)
      where
        by_lead : LedCut (suc (length up)) opening hint (slots.Elements k 0) bytes (lead_at opening (slots.Elements k 0) bytes) f → Goes opening (slots.Elements k 0 ∷ up) (ty ∷ tys) bytes f
        by_lead (inl h) = absurd (no_read _ f h)
        by_lead (inr (place, g, lead, h, shown)) =
            let r = nest_closed d openings.Old up tys (omega (arith, long)) (omega (arith, most)) named in
            record {
              items = end ∷ r.items;
              tokens = mark 93 ∷ r.tokens;
              ends = record {
                first = end ∷ [];
                second = r.items;
                front = mark 93 ∷ [];
                back = r.tokens;
                one = record { ts = no_trees; count = refl; are = tt; inner = []; spells = refl; laid = refl; is = refl; deep = omega (arith, most) };
                two = r.closes;
                is = refl;
                laid = refl;
              };
              strikes = lead_goes [] (mark 93 ∷ r.tokens) bytes place f (no_lead bytes tt place lead) (bracket place g r.tokens (lead_solid opening (slots.Elements k 0) bytes place lead) shown h);
            }

    pairs_goes : (k v : Kind) → AreNamed up → scan_at (suc (length up)) openings.Old hint (Some (slots.Keys k v 0)) bytes ≡ is_fault f → Goes openings.Old (slots.Keys k v 0 ∷ up) (ty ∷ tys) bytes f
    unfolding lead_at item_in
    pairs_goes k v named e = by_lead (led_cut (suc (length up)) openings.Old hint (slots.Keys k v 0) bytes (lead_at openings.Old (slots.Keys k v 0) bytes) f e)
      where
        ending : ((rest : Tokens) → Strikes 0 bytes f (mark 125 ∷ mark 93 ∷ rest)) → Goes openings.Old (slots.Keys k v 0 ∷ up) (ty ∷ tys) bytes f
        ending s =
            let r = nest_closed d openings.Old up tys (omega (arith, long)) (omega (arith, most)) named in
            record {
              items = end ∷ r.items;
              tokens = mark 125 ∷ mark 93 ∷ r.tokens;
              ends = record {
                first = end ∷ [];
                second = r.items;
                front = mark 125 ∷ mark 93 ∷ [];
                back = r.tokens;
                one = (mark 125 ∷ mark 93 ∷ [], refl, record { ps = no_pairs; count = refl; are = tt; inner = []; spells = refl; laid = refl; is = refl; deep = omega (arith, most) });
                two = r.closes;
                is = refl;
                laid = refl;
              };
              strikes = s r.tokens;
            }

        by_lead : LedCut (suc (length up)) openings.Old hint (slots.Keys k v 0) bytes (lead_at openings.Old (slots.Keys k v 0) bytes) f → Goes openings.Old (slots.Keys k v 0 ∷ up) (ty ∷ tys) bytes f
        by_lead (inl h) = ending (λ rest. lead_struck 125 bytes f (mark 93 ∷ rest) h)
        by_lead (inr (place, g, lead, h, shown)) = ending (λ rest. lead_goes (mark 125 ∷ []) (mark 93 ∷ rest) bytes place f (one_lead 125 bytes tt place lead) (bracket place g rest (lead_solid openings.Old (slots.Keys k v 0) bytes place lead) shown h))

    fields_goes : (last : ℤ) → AreNamed up → scan_at (suc (length up)) opening hint (Some (slots.Fields last)) bytes ≡ is_fault f → Goes opening (slots.Fields last ∷ up) (ty ∷ tys) bytes f
    unfolding lead_at item_in
    fields_goes last named e = by_lead (led_cut (suc (length up)) opening hint (slots.Fields last) bytes (lead_at opening (slots.Fields last) bytes) f e)
      where
        stopping : ((rest : Tokens) → Strikes 0 bytes f (field_leading opening (mark 125 ∷ rest))) → Goes opening (slots.Fields last ∷ up) (ty ∷ tys) bytes f
        stopping s =
            let r = nest_closed d openings.Old up tys (omega (arith, long)) (omega (arith, most)) named in
            record {
              items = stop ∷ r.items;
              tokens = field_leading opening (mark 125 ∷ []) ++ r.tokens;
              ends = record {
                first = stop ∷ [];
                second = r.items;
                front = field_leading opening (mark 125 ∷ []);
                back = r.tokens;
                one = (mark 125 ∷ [], refl, record { ms = no_members; are = tt; inner = []; spells = refl; laid = refl; is = refl; deep = omega (arith, most) });
                two = r.closes;
                is = refl;
                laid = refl;
              };
              strikes = subst (Strikes 0 bytes f) (sym (stop_tokens opening r.tokens)) (s r.tokens);
            }

        by_fields : (place : ℕ) (g : Fault) → lead_fields opening bytes ≡ is_read (tt, place) → Shown place g f → FieldsCut (is_first opening) (drop place bytes) g → Goes opening (slots.Fields last ∷ up) (ty ∷ tys) bytes f
        by_fields place g lead shown (inl s) = stopping (λ rest. field_led opening bytes place f (mark 125 ∷ rest) lead (strikes_more place bytes f (mark 125 ∷ []) rest (shown_strikes place g f bytes (mark 125 ∷ []) shown s)))
        by_fields place g lead shown (inr x) =
            let r = nest_closed d openings.Old up tys (omega (arith, long)) (omega (arith, most)) named in
            let v = level_closed d (suc (length up)) most openings.Old ty (slots.Value x.kind x.id) up (x.named, named) in
            let begun = comma (is_first opening) ++ (quoted x.digits ∷ mark 58 ∷ mark 123 ∷ name_token x.kind ∷ []) in
            record {
              items = field x.id x.kind ∷ (v.items ++ r.items);
              tokens = field_leading opening (comma (is_first opening) ++ (quoted x.digits ∷ mark 58 ∷ mark 123 ∷ name_token x.kind ∷ v.tokens)) ++ r.tokens;
              ends = record {
                first = field x.id x.kind ∷ v.items;
                second = r.items;
                front = field_leading opening (comma (is_first opening) ++ (quoted x.digits ∷ mark 58 ∷ mark 123 ∷ name_token x.kind ∷ v.tokens));
                back = r.tokens;
                one = with_field d deepest opening (suc (length up)) ty x.id x.kind x.digits x.spells x.fits x.named v.items v.tokens v.closes;
                two = r.closes;
                is = refl;
                laid = refl;
              };
              strikes = subst (Strikes 0 bytes f) (sym (field_tokens opening x.digits x.kind v.tokens r.tokens))
                  (field_led opening bytes place f (begun ++ (v.tokens ++ r.tokens)) lead (strikes_more place bytes f begun (v.tokens ++ r.tokens) (shown_strikes place g f bytes begun shown x.strikes)));
            }

        by_lead : LedCut (suc (length up)) opening hint (slots.Fields last) bytes (lead_at opening (slots.Fields last) bytes) f → Goes opening (slots.Fields last ∷ up) (ty ∷ tys) bytes f
        by_lead (inl h) = stopping (λ rest. field_struck opening bytes f (mark 125 ∷ rest) h)
        by_lead (inr (place, g, lead, h, shown)) = by_fields place g lead shown (fields_cut opening (drop place bytes) g (lead_solid opening (slots.Fields last) bytes place lead) h)

  -- ---- the item that is struck

  pub item_goes : (slot : Slot) (up : List Slot) (opening : Opening) (p : Position) (levels : List Level) (tys : List Ty) (bytes : List ℕ) (f : Fault) → Stand d p (slot ∷ up) opening levels tys → AreNamed (slot ∷ up) → suc (length up) ≤ 256 → length bytes + 10 < 2 ^ 31
      → scan_at (suc (length up)) opening (hint_of p) (Some slot) bytes ≡ is_fault f → Goes opening (slot ∷ up) tys bytes f ⊎ DeepAt slot up opening bytes f
  item_goes slot up opening p [] tys bytes f s named most room e = absurd s.tied
  item_goes slot up opening p (level ∷ levels) [] bytes f s named most room e = absurd s.tied
  item_goes (slots.Fields last) up opening p (level ∷ levels) (ty ∷ tys) bytes f s named most room e =
      inl (fields_goes up opening (hint_of p) ty tys bytes f (tied_long d (slots.Fields last ∷ up) (level ∷ levels) (ty ∷ tys) s.tied) most last named e)
  item_goes (slots.Value k id) up opening p (level ∷ levels) (ty ∷ tys) bytes f s named most room e =
      value_goes (slots.Value k id) up opening p (level ∷ levels) (ty ∷ tys) bytes k refl s.at (tied_long d (slots.Value k id ∷ up) (level ∷ levels) (ty ∷ tys) s.tied) most named room f e
  item_goes (slots.Values k v left) up opening p (level ∷ levels) (ty ∷ tys) bytes f s named most room e =
      value_goes (slots.Values k v left) up opening p (level ∷ levels) (ty ∷ tys) bytes v refl s.at (tied_long d (slots.Values k v left ∷ up) (level ∷ levels) (ty ∷ tys) s.tied) most named room f e
  item_goes (slots.Elements k zero) up opening p (level ∷ levels) (ty ∷ tys) bytes f s named most room e =
      inl (elements_goes up opening (hint_of p) ty tys bytes f (tied_long d (slots.Elements k 0 ∷ up) (level ∷ levels) (ty ∷ tys) s.tied) most k named.1 e)
  item_goes (slots.Elements k (suc n)) up opening p (level ∷ levels) (ty ∷ tys) bytes f s named most room e =
      value_goes (slots.Elements k (suc n)) up opening p (level ∷ levels) (ty ∷ tys) bytes k (refl, omega arith) s.at (tied_long d (slots.Elements k (suc n) ∷ up) (level ∷ levels) (ty ∷ tys) s.tied) most named room f e
  item_goes (slots.Keys k v zero) up openings.Old p (level ∷ levels) (ty ∷ tys) bytes f s named most room e =
      inl (pairs_goes up openings.Old (hint_of p) ty tys bytes f (tied_long d (slots.Keys k v 0 ∷ up) (level ∷ levels) (ty ∷ tys) s.tied) most k v named.2 e)
  item_goes (slots.Keys k v zero) up openings.New p (level ∷ levels) (ty ∷ tys) bytes f s named most room e = let some = s.fresh in absurd (omega arith)
  item_goes (slots.Keys k v zero) up openings.Body p (level ∷ levels) (ty ∷ tys) bytes f s named most room e = let some = s.fresh in absurd (omega arith)
  item_goes (slots.Keys k v (suc n)) up opening p (level ∷ levels) (ty ∷ tys) bytes f s named most room e =
      value_goes (slots.Keys k v (suc n)) up opening p (level ∷ levels) (ty ∷ tys) bytes k (refl, omega arith) s.at (tied_long d (slots.Keys k v (suc n) ∷ up) (level ∷ levels) (ty ∷ tys) s.tied) most named room f e

  -- ---- the call that is refused

  -- the bracket that closes a message
  pub end_goes : (s : State) (f : Fault) → reads_end s ≡ is_bad f → (f.reason ≡ reasons.Trailing → ⊥) → (g : Fault) × Strikes 0 (rest s) g (mark 93 ∷ []) × Shown s.place g f
  unfolding reads_end end_scan
  end_goes s f e part =
      let g = ended_fault s (end_scan (rest s)) f e in (
        g.0,
        (by_side (bound_fault (further 0 (mark_at 93) (rest s)) _ g.0 g.1)
            (λ h. at_mark 93 0 (rest s) g.0 [] h)
            (λ a. by_side (either_fault (a.0.1 + gap (drop a.0.1 (rest s)) == length (rest s)) _ _ g.0 a.2)
            (λ h. absurd (no_read _ g.0 h.1))
            (λ h. absurd (part (same_reason s.place g.0 f g.2 ∙ sym (ap (λ (y : Fault). y.reason) (same_fault {X = Unit {0}} (record { place = a.0.1 + gap (drop a.0.1 (rest s)); reason = reasons.Trailing }) g.0 h.1))))))),
        g.2,
      )

  none_open : (opening : Opening) (tys : List Ty) (levels : List Level) (p : Position) (bytes : List ℕ) (g : Fault) → Stand d p [] opening levels tys → Strikes 0 bytes g (mark 93 ∷ []) → Goes opening [] tys bytes g
  none_open opening [] levels p bytes g s strikes = record { items = []; tokens = mark 93 ∷ []; ends = (refl, refl); strikes = strikes }
  none_open opening (ty ∷ tys) levels p bytes g s strikes = let long = tied_long d [] levels (ty ∷ tys) s.tied in absurd (omega (arith, long))

  -- what is struck of the rest, and how it is told of the frame
  abbrev pub RestGoes : Opening → List Slot → List Ty → State → Fault → Type 0
  RestGoes opening nest tys s f = (g : Fault) × Goes opening nest tys (rest s) g × Shown s.place g f

  refused_goes : (nest : List Slot) (opening : Opening) (p : Position) (levels : List Level) (tys : List Ty) (s : State) (f : Fault) → At s nest opening (rest s) → Stand d p nest opening levels tys → AreNamed nest → length nest ≤ 256 → length (rest s) + 10 < 2 ^ 31
      → Refuses p s f → IsOfPart f → RestGoes opening nest tys s f
  refused_goes [] opening p levels tys s f a stand named most room (inl (some, e)) part = absurd (some a.open_levels)
  refused_goes [] opening p levels tys s f a stand named most room (inr (none, e)) part = let g = end_goes s f e part.1 in (g.0, none_open opening tys levels p (rest s) g.0 stand g.1, g.2)
  refused_goes (slot ∷ up) opening p levels tys s f a stand named most room (inl (some, e)) part =
      let g = reads_fault s p (slot ∷ up) opening (rest s) f a e in
      by_depth g.0 g.2 (item_goes slot up opening p levels tys (rest s) g.0 stand named most room g.1)
    where
      by_depth : (g : Fault) → Shown s.place g f → Goes opening (slot ∷ up) tys (rest s) g ⊎ DeepAt slot up opening (rest s) g → RestGoes opening (slot ∷ up) tys s f
      by_depth g shown (inl goes) = (g, goes, shown)
      by_depth g shown (inr deep) = absurd (part.0 (same_reason s.place g f shown ∙ deep.reason))
  refused_goes (slot ∷ up) opening p levels tys s f a stand named most room (inr (none, e)) part = let wrong = sym a.open_levels ∙ none in absurd (cc)

-- ---- a whole frame

headed_fault : (s : State) (scan : Scan (Header × ℕ)) (f : Fault) → headed s scan ≡ is_bad f → (g : Fault) × (scan ≡ is_fault g) × Shown s.place g f
headed_fault s (Ok x) f e = absurd (no_head_fault _ f e)
  where
    no_head_fault : (x : Header × State) (h : Fault) → is_step x ≡ is_bad h → ⊥
    no_head_fault x h same = absurd (cc)
headed_fault s (Err g) f e = (g, refl, sym (same_blame {X = Header} (record { place = s.place + g.place; reason = g.reason }) f e))

pub begun_fault_of : (bytes : List ℕ) (f : Fault) → reads_head (begun bytes) ≡ is_bad f → (g : Fault) × (head_at bytes ≡ is_fault g) × Shown 0 g f
unfolding reads_head
begun_fault_of bytes f e = headed_fault (begun bytes) (head_at bytes) f e

abbrev pub SomeMessage : Declarations → Option StructId → List ℕ → Type 0
SomeMessage d body bytes = (more : List ℕ) × (m : Message) × SpellsMessage (declared_of d) (body_of body) m (bytes ++ more)

-- the tokens of a message, of which the fault strikes one
pub record FrameGoes (d : Declarations) (body : Option StructId) (bytes : List ℕ) (f : Fault) : Type 0 where
  pub message : Message
  pub tokens : Tokens
  pub spells : (b : List ℕ) → Laid tokens b → SpellsMessage (declared_of d) (body_of body) message b
  pub strikes : Strikes 0 bytes f tokens

-- the fields and the bracket behind a header
abbrev closing : Tokens
closing = mark 123 ∷ mark 125 ∷ mark 93 ∷ []

pub head_goes : (d : Declarations) (body : Option StructId) (bytes : List ℕ) (f : Fault) → head_at bytes ≡ is_fault f → FrameGoes d body bytes f
head_goes d body bytes f e =
    let h = head_cut bytes f e in
    record {
      message = record { name = h.name; mtype = h.mtype; seq = h.seq; body = no_members };
      tokens = head_tokens h.mtype h.token h.digits closing;
      spells = (λ b laid. (h.token, h.digits, [], h.text, h.int, h.fits, tt, refl, laid));
      strikes = strikes_more 0 bytes f (head_tokens h.mtype h.token h.digits []) closing h.strikes;
    }

-- behind a front of the frame
frame_struck : (bytes front : List ℕ) (s : State) (g f : Fault) (left token : List ℕ) → s.frame ≡ bytes → Shown s.place g f → Struck g (rest s) left token → Struck f bytes left token
frame_struck bytes front s g f left token is shown struck = subst (λ b. Struck f b left token) is (shown_struck s.place g f s.frame left token shown struck)

-- tokens are no longer than what they are laid on
pub laid_long : (tokens : Tokens) (bytes : List ℕ) → Laid tokens bytes → length (flat tokens) ≤ length bytes
laid_long [] bytes laid = omega arith
laid_long (token ∷ tokens) bytes (white, rest, is, are, laid) =
    omega (arith, laid_long tokens rest laid, ap length is, length-append white (token ++ rest), length-append token rest, length-append token (flat tokens))

text_long : (meant token : List ℕ) → SpellsText meant token → 2 ≤ length token
text_long meant token (ps, are, means, is) = omega (arith, ap length is, length-append (all_spelled ps) (34 ∷ []))

type_long : (t : MessageType) → 1 ≤ length (type_digit t)
type_long types.Call = omega arith
type_long types.Reply = omega arith
type_long types.Exception = omega arith
type_long types.Oneway = omega arith

pub header_long : (t : MessageType) (meant name : List ℕ) (seq : ℤ) (digits : List ℕ) (tokens : Tokens) (bytes : List ℕ) → SpellsText meant name → SpellsInt seq digits → Laid (head_tokens t name digits tokens) bytes → 10 ≤ length bytes
header_long t meant name seq digits tokens bytes text int laid =
    let last = mark 44 ∷ tokens in
    let number = digits ++ flat last in
    let kind = type_digit t ++ (44 ∷ number) in
    omega (arith, laid_long (head_tokens t name digits tokens) bytes laid, length-append name (44 ∷ kind), length-append (type_digit t) (44 ∷ number), length-append digits (flat last), text_long meant name text, type_long t, solid_some digits (int_solid seq digits int))

body_goes : (d : Declarations) (body : Option StructId) (bytes : List ℕ) (f : Fault) (h : Header) (items : List Item) (first last : State) → length bytes < 2 ^ 31 → reads_head (begun bytes) ≡ is_step (h, first)
    → Reads (start d body) first items last → Refuses (behind (start d body) items) last f → IsOfPart f → FrameGoes d body bytes f
body_goes d body bytes f h items first last room headed_is body_read refuses part =
    let b = begun_back bytes h first headed_is in
    let r = head_back bytes (h, b.0) b.1 b.2 in
    let l = led_body d deepest (omega arith) body bytes first last items b.0 b.1 (omega (arith, room)) b.3 body_read in
    let left = rest last in
    let tokens = head_tokens h.mtype r.name r.seq l.tokens in
    let x = cut tokens bytes left (r.lies left (l.tokens ++ ([] ∷ [])) (l.lies left ([] ∷ []) (here left))) in
    let less : length left + 10 < 2 ^ 31 = omega (arith, room, header_long h.mtype h.name r.name h.seq r.seq l.tokens x.0 r.text r.int x.2, ap length x.1, length-append x.0 left) in
    let g = refused_goes d (levels_behind body_nest items) (opening_behind openings.Body items) (behind (start d body) items) l.levels l.types last f l.at l.stand (l.named tt) l.most less refuses part in
    let c = g.1 in
    let s = c.strikes in
    let e = l.onward c.items c.tokens c.ends in
    let k = e.one.2 in
    let close = mark 93 ∷ [] in
    let whole : l.tokens ++ c.tokens ≡ mark 123 ∷ (k.inner ++ (mark 125 ∷ mark 93 ∷ [])) =
    e.laid ∙ ap (λ z. z ++ e.back) (e.one.1 ∙ ap (λ z. mark 123 ∷ z) k.laid) ∙ ap (λ z. (mark 123 ∷ (k.inner ++ mark 125 ∷ [])) ++ z) e.two.1 ∙ ap (λ z. mark 123 ∷ z) (tokens_append k.inner (mark 125 ∷ []) close) in
    let frame_is : last.frame ≡ bytes = l.frame_is ∙ ap (λ (n : State). n.frame) b.3 in
    record {
      message = record { name = h.name; mtype = h.mtype; seq = h.seq; body = k.ms };
      tokens = head_tokens h.mtype r.name r.seq (l.tokens ++ c.tokens);
      spells = (λ z laid. (r.name, r.seq, k.inner, r.text, r.int, r.fits, k.are, k.spells, subst (λ y. Laid (head_tokens h.mtype r.name r.seq y) z) whole laid));
      strikes = record {
        before = tokens ++ s.before;
        token = s.token;
        later = s.later;
        are = ap (λ y. tokens ++ y) s.are ∙ sym (tokens_append tokens s.before (s.token ∷ s.later));
        front = x.0 ++ s.front;
        left = s.left;
        laid = laid_join tokens s.before x.0 s.front x.2 s.laid;
        is = x.1 ∙ ap (λ y. x.0 ++ y) s.is ∙ sym (append_more x.0 s.front s.left);
        solid = s.solid;
        struck = frame_struck bytes x.0 last g.0 f s.left s.token frame_is g.2 s.struck;
      };
    }

pub refused_strikes : (d : Declarations) (body : Option StructId) (bytes : List ℕ) (f : Fault) → length bytes < 2 ^ 31 → IsRefused (start d body) bytes f → IsOfPart f → FrameGoes d body bytes f
refused_strikes d body bytes f room (inl e) part =
    let g = begun_fault_of bytes f e in
    let h = head_goes d body bytes g.0 g.1 in
    record { message = h.message; tokens = h.tokens; spells = h.spells; strikes = shown_strikes 0 g.0 f bytes h.tokens g.2 h.strikes }
refused_strikes d body bytes f room (inr (h, items, first, last, head, body_read, refuses)) part = body_goes d body bytes f h items first last room head body_read refuses part

-- ---- what is cut begins a message

cut_part : (f : Fault) → IsCut f → IsOfPart f
cut_part f t = (λ e. (let wrong = sym t ∙ e in absurd (cc)), λ e. (let wrong = sym t ∙ e in absurd (cc)))

-- a fault of a sort is not cut
no_sort : (reason : Reason) (token : List ℕ) → reason ≡ reasons.Truncated → IsSort reason token → ⊥
no_sort reason token t s = absurd (subst (λ r. IsSort r token) t s)

pub cut_viable : (d : Declarations) (body : Option StructId) (bytes : List ℕ) (f : Fault) → length bytes < 2 ^ 31 → IsRefused (start d body) bytes f → IsCut f → SomeMessage d body bytes
cut_viable d body bytes f room refused t = of_frame (refused_strikes d body bytes f room refused (cut_part f t))
  where
    of_struck : (g : FrameGoes d body bytes f) → Struck f bytes (g.strikes).left (g.strikes).token → SomeMessage d body bytes
    of_struck g (inl (same, (more, is))) =
        let s = g.strikes in
        let behind_it = flat s.later in
        let laid : Laid (s.token ∷ s.later) (s.left ++ (more ++ behind_it)) = ([], behind_it, sym (append_more s.left more behind_it) ∙ ap (λ y. y ++ behind_it) is, tt, flat_laid s.later) in
        let all : Laid (s.before ++ (s.token ∷ s.later)) (s.front ++ (s.left ++ (more ++ behind_it))) = laid_join s.before (s.token ∷ s.later) s.front (s.left ++ (more ++ behind_it)) s.laid laid in
        let joined : s.front ++ (s.left ++ (more ++ behind_it)) ≡ bytes ++ (more ++ behind_it) = sym (append_more s.front s.left (more ++ behind_it)) ∙ ap (λ y. y ++ (more ++ behind_it)) (sym s.is) in
        (more ++ behind_it, g.message, g.spells (bytes ++ (more ++ behind_it)) (subst (λ y. Laid y (bytes ++ (more ++ behind_it))) (sym s.are) (subst (Laid (s.before ++ (s.token ∷ s.later))) joined all)))
    of_struck g (inr b) = absurd (no_sort f.reason (g.strikes).token t b.sort)

    of_frame : FrameGoes d body bytes f → SomeMessage d body bytes
    of_frame g = let s = g.strikes in of_struck g s.struck

-- nothing begins a message
pub nothing_begins : (d : Declarations) (body : Option StructId) → SomeMessage d body []
nothing_begins d body =
    let name = 34 ∷ 34 ∷ [] in
    let digits = 48 ∷ [] in
    let tokens = head_tokens types.Call name digits closing in
    (flat tokens, record { name = []; mtype = types.Call; seq = pos 0; body = no_members }, (name, digits, [], ([], tt, refl, refl), inl (refl, refl), zero_fits, tt, refl, flat_laid tokens))

-- ---- a part that is at fault

-- where no whitespace stands, and something does, a token begins
pub solid_there : (left : List ℕ) → Apart is_white left → 1 ≤ length left → BeginsToken left
solid_there [] solid some = absurd (omega arith)
solid_there (x ∷ left) solid some = λ white. (let wrong = sym (white_is x white) ∙ solid in absurd (cc))

pub part_stands : (k : Known) (bytes : List ℕ) (f : Fault) → length bytes < 2 ^ 31 → IsRefused (start k.declared k.body) bytes f → (IsCut f → ⊥) → IsOfPart f → PartStands k bytes f
part_stands k bytes f room refused other part = of_frame (refused_strikes k.declared k.body bytes f room refused part)
  where
    of_struck : (g : FrameGoes k.declared k.body bytes f) → Struck f bytes (g.strikes).left (g.strikes).token → PartStands k bytes f
    of_struck g (inl (same, more)) = absurd (other same)
    of_struck g (inr b) =
        let s = g.strikes in
        record {
          message = g.message;
          before = s.before;
          token = s.token;
          later = s.later;
          are = (λ z laid. g.spells z (subst (λ y. Laid y z) (sym s.are) laid));
          sort = b.sort;
          front = s.front;
          left = s.left;
          laid = s.laid;
          is = s.is;
          inside = b.inside;
          stands = b.stands;
          unlike = b.unlike;
          place = omega (arith, ap length b.there, length-drop f.place bytes, length-drop b.inside s.left, b.some, ap length s.is, length-append s.front s.left);
          within = omega (arith, b.some, length-drop b.inside s.left);
          begins = solid_there s.left s.solid (omega (arith, b.some, length-drop b.inside s.left));
        }

    of_frame : FrameGoes k.declared k.body bytes f → PartStands k bytes f
    of_frame g = let s = g.strikes in of_struck g s.struck
