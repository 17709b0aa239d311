-- What stands before a fault in a body calls for the item at fault.
use Rattle.std.proofs.Common.{◌≡◌, ℕ, suc, ◌+◌, ◌<◌, ◌≤◌, Bool, true, false, cond, List, [], ◌∷◌, ◌++◌, length, Ok, Err, refl, ap, ◌∙◌, sym, subst, arith, inl, inr, length-append, append_assoc}
use Rattle.std.specs.Prelude.{nat_le, ◌==◌, ◌&&◌}
use Rattle.std.proofs.lemmas.Bool.Decides.{nat_tests}
use Rattle.thrift_value.specs.declared.kind.Kind.{Kind}
use Rattle.thrift_value.specs.declared.kind.Kind.TheVariants as kinds
use Rattle.thrift_value.specs.Items.{Item, field, stop, struct_begin, empty_map, map_begin, set_begin, list_begin, end}
use Rattle.thrift_value.specs.Trees.{Tree, structure, mapping_of_none, collection, sequence, no_members, no_trees, kind_of, items_of, depth_of}
use Rattle.protocol_traits.specs.declared.fault.Fault.{Fault}
use Rattle.protocol_traits.specs.declared.fault.Reason.{Reason}
use Rattle.protocol_traits.specs.declared.fault.Reason.TheVariants as reasons
use Rattle.protocol_traits.specs.declared.nest.Slot.{Slot}
use Rattle.protocol_traits.specs.declared.nest.Slot.TheVariants as slots
use Rattle.protocol_traits.specs.Stack.{first_of}
use Rattle.protocol_traits.specs.Follow.{spent, after, depth_after}
use Rattle.binary_protocol.specs.declared.scan.Called.TheVariants as calls
use Rattle.binary_protocol.specs.Scan.{fault, nests, value_at, value_in, item_called, item_in}
use Rattle.binary_protocol.specs.Reading.{State, scan_at, reads}
use Rattle.binary_protocol.specs.Grammar.{size, SpellsValue}
use Rattle.gate_base.specs.Bytes.{AreBytes}
use Rattle.binary_laws.specs.Called.{width_of_all, depth_behind, HasPart}
use Rattle.binary_laws.specs.Faults.{extent}
use Rattle.binary_laws.specs.Reads.{Reads}
use Rattle.binary_laws.specs.Refused.{Refuses}
use Rattle.binary_laws.proofs.Inverse.{bytes_front, no_fault}
use Rattle.binary_laws.proofs.Cutting.{Completed, item_cut, never_read}
use Rattle.binary_laws.proofs.Levels.{Ends, IsTree, with_value}
use Rattle.binary_laws.proofs.Walking.{CallsFor, length-spent}
use Rattle.binary_laws.proofs.Closing.{bytes_join, nest_closed}
use Rattle.binary_laws.proofs.Stepping.{stepped}
use Rattle.binary_laws.proofs.Spelled.{At, onward}
use Rattle.binary_laws.proofs.Sound.{same_answer, reads_read, at_front, no_bytes}
use Rattle.binary_laws.proofs.Viable.{reads_fault, end_fault, not_trailing}
use Rattle.binary_laws.proofs.Unique.{split_same}
use Rattle.binary_laws.proofs.Either.{refuses_stops, both}
use Rattle.binary_laws.proofs.Staying.{longer, at_longer, read_longer}
use Rattle.binary_laws.proofs.Needs.{Beyond, item_needs}
use Rattle.binary_laws.proofs.Standing.{value_at_stands, field_stands, item_stands, Standing, DeepOr}
use Rattle.binary_laws.proofs.Reaching.{some_slot, last_place}
use Rattle.binary_laws.proofs.Parts.{item_parted, item_wide}
use Rattle.binary_laws.proofs.Placed.{no_extent}

-- these bytes begin what ends the open levels, and behind them stands an item with such a part at their end
pub record Calls (nest : List Slot) (bytes : List ℕ) (r : Reason) : Type 0 where
  pub more : List ℕ
  pub before : List Item
  pub item : Item
  pub behind : List Item
  pub at : ℕ
  pub ends : Ends 257 nest (before ++ item ∷ behind) (bytes ++ more)
  pub place : length bytes ≡ width_of_all before + at
  pub part : HasPart (depth_behind before (length nest)) item r at

-- ---- one item on

pub depth_is : (item : Item) (slot : Slot) (up : List Slot) → depth_after item (suc (length up)) ≡ length (after item (slot ∷ up))
depth_is (field id kind) slot up = refl
depth_is stop slot up = omega arith
depth_is end slot up = omega arith
depth_is struct_begin slot up = omega (arith, length-spent (slot ∷ up))
depth_is (map_begin key value n) slot up = omega (arith, length-spent (slot ∷ up))
depth_is (set_begin kind n) slot up = omega (arith, length-spent (slot ∷ up))
depth_is (list_begin kind n) slot up = omega (arith, length-spent (slot ∷ up))
depth_is item slot up = sym (length-spent (slot ∷ up))

module _ (more : List ℕ) (r : Reason) where
  one_calls : (item : Item) (s next : State) (nest : List Slot) (bytes : List ℕ) → At s nest bytes → AreBytes bytes → length nest ≤ 256
      → (taken : ℕ) × (scan_at (first_of nest) (length nest) bytes ≡ Ok (item, taken)) × (next ≡ onward s item taken)
      → ((inner : List Slot) (rest : List ℕ) → At next inner rest → AreBytes rest → length inner ≤ 256 → next.frame ≡ s.frame → reads (longer more s) ≡ Ok (item, longer more next) → Calls inner rest r) → Calls nest bytes r
  one_calls item s next [] bytes a are most (taken, scan, is) go = absurd (no_fault _ (item, taken) scan)
  one_calls item s next (slot ∷ up) bytes a are most (taken, scan, is) go =
      let st = stepped slot up bytes item taken most are scan in
      let at = at_front s (slot ∷ up) item taken st.front st.rest (subst (At s (slot ∷ up)) st.laid a) st.size in
      let rest_are = (bytes_front st.front st.rest (subst AreBytes st.laid are)).1 in
      let c = go (after item (slot ∷ up)) st.rest (subst (λ x. At x (after item (slot ∷ up)) st.rest) (sym is) at) rest_are st.within (ap (λ (x : State). x.frame) is)
      (read_longer more s (slot ∷ up) bytes item taken a scan ∙ ap (λ (x : State). Ok (item, longer more x)) (sym is)) in
      let wide = item_wide (suc (length up)) slot bytes item taken scan in
      let size = ap length st.laid ∙ length-append st.front st.rest in
      let long = st.size in
      let place = c.place in
      record {
        more = c.more;
        before = item ∷ c.before;
        item = c.item;
        behind = c.behind;
        at = c.at;
        ends = subst (Ends 257 (slot ∷ up) (item ∷ (c.before ++ c.item ∷ c.behind))) (sym (append_assoc st.front st.rest c.more) ∙ ap (λ l. l ++ c.more) (sym st.laid)) (st.onward 257 (omega arith) (c.before ++ c.item ∷ c.behind) (st.rest ++ c.more) c.ends);
        place = omega (arith, wide, size, long, place);
        part = subst (λ d. HasPart (depth_behind c.before d) c.item r c.at) (sym (depth_is item slot up)) c.part;
      }

-- ---- an item that is cut

completed_calls : (slot : Slot) (up : List Slot) (bytes : List ℕ) (r : Reason) → suc (length up) ≤ 256 → AreBytes bytes → Completed (item_in (suc (length up)) slot) bytes
    → ((other : List ℕ) (x : Item) (n : ℕ) → item_in (suc (length up)) slot other ≡ Ok (x, n) → HasPart (suc (length up)) x r (length bytes)) → Calls (slot ∷ up) bytes r
completed_calls slot up bytes r most are c part =
    let front = bytes ++ c.more in
    let front_are = bytes_join bytes c.more are c.are in
    let w = c.whole [] in
    let one = stepped slot up (front ++ []) w.0 (length front) most (bytes_join front [] front_are tt) w.1 in
    let deep : length (c.next (slot ∷ up)) ≤ 256 = subst (λ n. length n ≤ 256) (w.2 (slot ∷ up)) one.within in
    let cl = nest_closed (c.next (slot ∷ up)) deep in
    let v = c.whole cl.bytes in
    let st = stepped slot up (front ++ cl.bytes) v.0 (length front) most (bytes_join front cl.bytes front_are cl.are) v.1 in
    let same = split_same front st.front cl.bytes st.rest st.size st.laid in
    let all = st.onward 257 (omega arith) cl.items cl.bytes (subst (λ n. Ends 257 n cl.items cl.bytes) (sym (v.2 (slot ∷ up))) cl.closes) in
    record {
      more = c.more ++ cl.bytes;
      before = [];
      item = v.0;
      behind = cl.items;
      at = length bytes;
      ends = subst (Ends 257 (slot ∷ up) (v.0 ∷ cl.items)) (ap (λ l. l ++ cl.bytes) (sym same.0) ∙ append_assoc bytes c.more cl.bytes) all;
      place = omega arith;
      part = part (front ++ cl.bytes) v.0 (length front) v.1;
    }

module _ (more : List ℕ) (f : Fault) (row : 1 ≤ extent f.reason) where
  -- the fault of the same item over more bytes
  same_item : (s : State) (slot : Slot) (up : List Slot) (bytes : List ℕ) → At s (slot ∷ up) bytes → f.place ≡ length s.frame → Refuses (longer more s) f
      → (other : List ℕ) (x : Item) (n : ℕ) → item_in (suc (length up)) slot other ≡ Ok (x, n) → HasPart (suc (length up)) x f.reason (length bytes)
  same_item s slot up bytes a here (inr (none, e)) other x n good = absurd (some_slot slot up (sym a.open_levels ∙ none))
  same_item s slot up bytes a here (inl (some, e)) other x n good =
      let q = reads_fault (longer more s) (slot ∷ up) (bytes ++ more) f (at_longer more s (slot ∷ up) bytes a) e in
      let place = q.2 in
      let at : q.0.place ≡ length bytes = omega (arith, place, here, a.place, ap length a.laid, length-append a.front bytes) in
      let part = item_parted (suc (length up)) slot (bytes ++ more) other q.0 x n q.1 (subst (λ r. 1 ≤ extent r) (sym q.3) row) good in
      subst (λ r. HasPart (suc (length up)) x r (length bytes)) q.3 (subst (λ p. HasPart (suc (length up)) x q.0.reason p) at part)

  cut_item : (s : State) (slot : Slot) (up : List Slot) (bytes : List ℕ) (ys : List Item) (halt : State) → At s (slot ∷ up) bytes → Beyond (length bytes) (item_in (suc (length up)) slot (bytes ++ more)) → f.place ≡ length s.frame
      → Reads (longer more s) ys halt → Refuses halt f → (other : List ℕ) (x : Item) (n : ℕ) → item_in (suc (length up)) slot other ≡ Ok (x, n) → HasPart (suc (length up)) x f.reason (length bytes)
  cut_item s slot up bytes [] halt a needs here q e = same_item s slot up bytes a here (subst (λ x. Refuses x f) (sym q) e)
  cut_item s slot up bytes (y ∷ ys) halt a needs here (next, step, rest) e =
      let q = reads_read (longer more s) (slot ∷ up) (bytes ++ more) y next (at_longer more s (slot ∷ up) bytes a) step in
      let b : length bytes < q.0 = subst (Beyond (length bytes)) q.1 needs in
      let place = ap (λ (x : State). x.place) q.2 in
      let last = last_place ys next halt f rest e in
      absurd (omega (arith, b, here, place, last, a.place, ap length a.laid, length-append a.front bytes))

  row_here : (s : State) (nest : List Slot) (bytes : List ℕ) (g : Fault) (ys : List Item) (halt : State) → At s nest bytes → AreBytes bytes → length nest ≤ 256 → g.reason ≡ reasons.Truncated → f.place ≡ length s.frame
      → Refuses s g → Reads (longer more s) ys halt → Refuses halt f → Calls nest bytes f.reason
  row_here s [] bytes g ys halt a are most t here (inl (some, e)) q h = absurd (some a.open_levels)
  row_here s (slot ∷ up) bytes g ys halt a are most t here (inl (some, e)) q h =
      let r = reads_fault s (slot ∷ up) bytes g a e in
      let c = item_cut (suc (length up)) slot bytes are r.0 r.1 (r.3 ∙ t) in
      completed_calls slot up bytes f.reason most are c.1 (cut_item s slot up bytes ys halt a ((item_needs (suc (length up)) slot bytes more).by r.0 r.1 (r.3 ∙ t)) here q h)
  row_here s nest bytes g ys halt a are most t here (inr (none, e)) q h = let m = end_fault s g none e in absurd (not_trailing (m.1 ∙ t))

  pub row_from : (items : List Item) (s last : State) (nest : List Slot) (bytes : List ℕ) (g : Fault) (ys : List Item) (halt : State) → At s nest bytes → AreBytes bytes → length nest ≤ 256 → g.reason ≡ reasons.Truncated → f.place ≡ length s.frame
      → Reads s items last → Refuses last g → Reads (longer more s) ys halt → Refuses halt f → Calls nest bytes f.reason
  row_from [] s last nest bytes g ys halt a are most t here r e q h = row_here s nest bytes g ys halt a are most t here (subst (λ x. Refuses x g) (sym r) e) q h
  row_from (item ∷ items) s last nest bytes g [] halt a are most t here (next, step, rest) e q h =
      one_calls more f.reason item s next nest bytes a are most (reads_read s nest bytes item next a step) (λ inner left b some less frame again. absurd (both (longer more s) (longer more next) item (refuses_stops halt f h).0 again (ap reads q ∙ (refuses_stops halt f h).1)))
  row_from (item ∷ items) s last nest bytes g (y ∷ ys) halt a are most t here (next, step, rest) e (n, first, others) h =
      one_calls more f.reason item s next nest bytes a are most (reads_read s nest bytes item next a step) (λ inner left b some less frame again.
      let same = same_answer y item n (longer more next) (sym first ∙ again) in
      row_from items next last inner left g ys halt b some less t (here ∙ sym (ap length frame)) rest e (subst (λ x. Reads x ys halt) same.1 others) h)

-- ---- a value that lies too deep

-- the least value of a kind that opens a level
record Opening (k : Kind) : Type 0 where
  t : Tree
  bytes : List ℕ
  kind : kind_of t ≡ k
  spells : SpellsValue t bytes
  deep : depth_of t ≤ 1
  item : Item
  rest : List Item
  is : items_of t ≡ item ∷ rest
  part : HasPart 256 item reasons.TooDeep 0

opening : (k : Kind) → nests k ≡ true → Opening k
opening kinds.Struct n = record { t = structure no_members; bytes = 0 ∷ []; kind = refl; spells = refl; deep = omega arith; item = struct_begin; rest = stop ∷ []; is = refl; part = ((refl, refl), refl) }
opening kinds.Map n = record { t = mapping_of_none; bytes = 0 ∷ 0 ∷ size 0; kind = refl; spells = (0, 0, inl refl, inl refl, refl); deep = omega arith; item = empty_map; rest = []; is = refl; part = inr (inr (inr ((refl, refl), refl))) }
opening kinds.Set n = record { t = collection kinds.I8 no_trees; bytes = 3 ∷ size 0; kind = refl; spells = (omega arith, ([], refl, refl)); deep = omega arith; item = set_begin kinds.I8 0; rest = end ∷ []; is = refl; part = inr (inr ((refl, refl), refl)) }
opening kinds.List n = record { t = sequence kinds.I8 no_trees; bytes = 3 ∷ size 0; kind = refl; spells = (omega arith, ([], refl, refl)); deep = omega arith; item = list_begin kinds.I8 0; rest = end ∷ []; is = refl; part = inr (inr ((refl, refl), refl)) }
opening k n = absurd (cc)

not_cut : reasons.TooDeep ≡ reasons.Truncated → ⊥
not_cut e = absurd (cc)

not_deep : reasons.Trailing ≡ reasons.TooDeep → ⊥
not_deep e = absurd (cc)

no_deep : (n : ℕ) (f : Fault) → f.reason ≡ reasons.TooDeep → Standing n f → ⊥
no_deep n f deep (inl t) = not_cut (sym deep ∙ t)
no_deep n f deep (inr (row, less)) = no_extent f.reason deep row

-- the kind that is called for
record Deep (nest : List Slot) : Type 0 where
  kind : Kind
  calls_it : CallsFor nest kind
  opens : nests kind ≡ true
  inside : 256 ≤ length nest

both_true : (a b : Bool) → (a && b) ≡ true → (a ≡ true) × (b ≡ true)
both_true true true e = (refl, refl)
both_true true false e = absurd (cc)
both_true false b e = absurd (cc)

value_deep : (d : ℕ) (k : Kind) (l : List ℕ) (f : Fault) → value_in d k l ≡ Err f → f.reason ≡ reasons.TooDeep → (nests k ≡ true) × (256 ≤ d)
unfolding value_in
value_deep d k l f e deep = by_test (nests k && nat_le 256 d) refl e
  where
    by_test : (b : Bool) → (nests k && nat_le 256 d) ≡ b → cond b (fault 0 reasons.TooDeep) (value_at k l) ≡ Err f → (nests k ≡ true) × (256 ≤ d)
    by_test true t h = let p = both_true (nests k) (nat_le 256 d) t in let q = p.1 in (p.0, grind (arith, nat_tests))
    by_test false t h = absurd (no_deep (length l) f deep ((value_at_stands k l).by f h))

some_of : (n : ℕ) → (n == 0) ≡ false → 0 < n
some_of n e = grind (arith, nat_tests)

item_deep : (slot : Slot) (up : List Slot) (l : List ℕ) (f : Fault) → item_in (suc (length up)) slot l ≡ Err f → f.reason ≡ reasons.TooDeep → Deep (slot ∷ up)
item_deep (slots.Fields last) up l f e deep = absurd (no_deep (length l) f deep ((field_stands l).by f e))
item_deep (slots.Value k id) up l f e deep = let v = value_deep (suc (length up)) k l f e deep in record { kind = k; calls_it = refl; opens = v.0; inside = v.1 }
item_deep (slots.Values key value left) up l f e deep = let v = value_deep (suc (length up)) value l f e deep in record { kind = value; calls_it = refl; opens = v.0; inside = v.1 }
item_deep (slots.Elements k left) up l f e deep = by_left (left == 0) refl e
  where
    by_left : (b : Bool) → (left == 0) ≡ b → item_called (suc (length up)) (cond b calls.End (calls.Value k)) l ≡ Err f → Deep (slots.Elements k left ∷ up)
    by_left true t h = absurd (never_read (end, 0) f h)
    by_left false t h = let v = value_deep (suc (length up)) k l f h deep in record { kind = k; calls_it = (refl, some_of left t); opens = v.0; inside = v.1 }
item_deep (slots.Keys key value left) up l f e deep = by_left (left == 0) refl e
  where
    by_left : (b : Bool) → (left == 0) ≡ b → item_called (suc (length up)) (cond b calls.End (calls.Value key)) l ≡ Err f → Deep (slots.Keys key value left ∷ up)
    by_left true t h = absurd (never_read (end, 0) f h)
    by_left false t h = let v = value_deep (suc (length up)) key l f h deep in record { kind = key; calls_it = (refl, some_of left t); opens = v.0; inside = v.1 }

deep_calls : (nest : List Slot) → length nest ≤ 256 → Deep nest → Calls nest [] reasons.TooDeep
deep_calls nest most d =
    let inside = d.inside in
    let o = opening d.kind d.opens in
    let cl = nest_closed (spent nest) (omega (arith, most, length-spent nest)) in
    let flat = o.deep in
    let v : IsTree 257 (length nest) d.kind (items_of o.t) o.bytes = record { t = o.t; kind = o.kind; spells = o.spells; is = refl; deep = omega (arith, flat, most) } in
    let all = with_value 257 nest d.kind (items_of o.t) cl.items o.bytes cl.bytes d.calls_it v cl.closes in
    let depth : length nest ≡ 256 = omega (arith, most, inside) in
    record {
      more = o.bytes ++ cl.bytes;
      before = [];
      item = o.item;
      behind = o.rest ++ cl.items;
      at = 0;
      ends = subst (λ l. Ends 257 nest l (o.bytes ++ cl.bytes)) (ap (λ l. l ++ cl.items) o.is) all;
      place = omega arith;
      part = subst (λ n. HasPart n o.item reasons.TooDeep 0) (sym depth) o.part;
    }

deep_here : (s : State) (nest : List Slot) (bytes : List ℕ) (f : Fault) → At s nest bytes → length nest ≤ 256 → f.reason ≡ reasons.TooDeep → f.place ≡ length s.frame → Refuses s f → Calls nest bytes reasons.TooDeep
deep_here s [] bytes f a most deep here (inl (some, e)) = absurd (some a.open_levels)
deep_here s (slot ∷ up) bytes f a most deep here (inl (some, e)) =
    let r = reads_fault s (slot ∷ up) bytes f a e in
    by_stand r.0 r.1 r.2 (r.3 ∙ deep) (item_stands (suc (length up)) slot bytes r.0 r.1)
  where
    by_stand : (g : Fault) → item_in (suc (length up)) slot bytes ≡ Err g → s.place + g.place ≡ f.place → g.reason ≡ reasons.TooDeep → DeepOr (length bytes) g → Calls (slot ∷ up) bytes reasons.TooDeep
    by_stand g scan at same (inl (is, first)) =
        let none = no_bytes bytes (omega (arith, at, first, here, a.place, ap length a.laid, length-append a.front bytes)) in
        subst (λ l. Calls (slot ∷ up) l reasons.TooDeep) (sym none) (deep_calls (slot ∷ up) most (item_deep slot up bytes g scan same))
    by_stand g scan at same (inr standing) = absurd (no_deep (length bytes) g same standing)
deep_here s nest bytes f a most deep here (inr (none, e)) = let m = end_fault s f none e in absurd (not_deep (m.1 ∙ deep))

pub deep_from : (items : List Item) (s last : State) (nest : List Slot) (bytes : List ℕ) (f : Fault) → At s nest bytes → AreBytes bytes → length nest ≤ 256 → f.reason ≡ reasons.TooDeep → f.place ≡ length s.frame → Reads s items last → Refuses last f
    → Calls nest bytes reasons.TooDeep
deep_from [] s last nest bytes f a are most deep here r e = deep_here s nest bytes f a most deep here (subst (λ x. Refuses x f) (sym r) e)
deep_from (item ∷ items) s last nest bytes f a are most deep here (next, step, more) e =
    one_calls [] reasons.TooDeep item s next nest bytes a are most (reads_read s nest bytes item next a step) (λ inner rest b some less frame again. deep_from items next last inner rest f b some less deep (here ∙ sym (ap length frame)) more e)
