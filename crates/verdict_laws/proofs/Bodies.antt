-- A body that is read to its end, or to a fault, whatever the source and the target.
use Rattle.std.proofs.Common.{◌≡◌, ℕ, ◌+◌, ◌<◌, ◌≤◌, List, [], ◌∷◌, ◌++◌, None, Ok, Err, refl, ap, ◌∙◌, sym, subst, append_assoc, Some, false}
use Rattle.std.specs.Prelude.{IfOk, is_some}
use Rattle.std.proofs.lemmas.List.{append-nil}
use Rattle.thrift_value.specs.Items.{Item}
use Rattle.protocol_traits.specs.declared.fault.Bar.{Bar}
use Rattle.protocol_traits.specs.declared.fault.Fault.{Fault}
use Rattle.protocol_traits.specs.declared.proto.Hint.{Hint}
use Rattle.protocol_traits.specs.declared.proto.Mark.{Mark}
use Rattle.protocol_traits.specs.Follow.{depth_after}
use Rattle.protocol_traits.specs.Heads.{Header}
use Rattle.protocol_traits.specs.Room.{weight}
use Rattle.type_walk.specs.Positions.{Position, hint_of, mark_of, after}
use Rattle.translate_verdicts.specs.declared.verdict.Cause.{Cause}
use Rattle.translate_verdicts.specs.declared.verdict.Cause.TheVariants.{Grammar, Barred}
use Rattle.translate_verdicts.specs.declared.verdict.HeadInfo.{HeadInfo}
use Rattle.translate_verdicts.specs.declared.verdict.Verdict.TheVariants.{Passed, Refused}
use Rattle.translate_verdicts.specs.Positions.{typed}
use Rattle.translate_verdicts.specs.Body.{Going, Source, TargetRules, going, moved, whole, first_cause, tried}
use Rattle.translate_verdicts.specs.Judged.{judge, judged, head_cause}
use Rattle.translate_core.specs.Answers.{TakesAll, marked, spelled}
use Rattle.translate_verdicts.proofs.Whole.{whole_step, whole_fault, whole_end}
use Rattle.translate_verdicts.proofs.Judging.{judge_ok}
use Rattle.verdict_laws.specs.Following.{behind, Follows}

-- the writer behind these items
abbrev pub writers : {T : Type 0} → TargetRules T → T → List (Item × Mark) → T
writers target w [] = w
writers target w (x ∷ xs) = writers target (target.after w x.0 x.1) xs

-- what a reader does to its open levels
pub record IsNested {S : Type 0} (source : Source S) (level : S → ℕ) : Type 0 where
  pub pays : (s : S) (hint : Hint) → IfOk (source.reads s hint) (λ x. weight x.0 + source.ahead x.1 ≤ source.ahead s)
  pub open_level : (s : S) (hint : Hint) → IfOk (source.reads s hint) (λ x. 0 < level s)
  pub nests : (s : S) (hint : Hint) → IfOk (source.reads s hint) (λ x. level x.1 ≡ depth_after x.0 (level s))

module _ {S T : Type 0} (source : Source S) (target : TargetRules T) (level : S → ℕ) (nested : IsNested source level) where
  is_open : (s next : S) (p : Position) (item : Item) → source.reads s (hint_of p) ≡ Ok (item, next) → 0 < level s
  is_open s next p item e = subst (λ r. IfOk r (λ x. 0 < level s)) e (nested.open_level s (hint_of p))

  is_deep : (s next : S) (p : Position) (item : Item) → source.reads s (hint_of p) ≡ Ok (item, next) → level next ≡ depth_after item (level s)
  is_deep s next p item e = subst (λ r. IfOk r (λ x. level x.1 ≡ depth_after x.0 (level s))) e (nested.nests s (hint_of p))

  -- one item that is taken
  moved_on : (s next : S) (p : Position) (w : T) (d : ℕ) (bytes : List ℕ) (item : Item) → target.bar item (mark_of p item) ≡ None
      → moved source typed target (going s p w d None bytes) (item, next)
      ≡ going next (after p item) (target.after w item (mark_of p item)) (depth_after item d) None (bytes ++ target.plain w item (mark_of p item))
  moved_on s next p w d bytes item e = rw e refl

  -- items that are all taken
  pub whole_follows : (items : List Item) (s last : S) (p : Position) (w : T) (bytes : List ℕ) → Follows source s p items last → TakesAll target.bar (marked p items)
      → whole source typed target (going s p w (level s) None bytes)
      ≡ whole source typed target (going last (behind p items) (writers target w (marked p items)) (level last) None (bytes ++ spelled target.plain target.after w (marked p items)))
  whole_follows [] s last p w bytes same taken =
      ap (λ x. whole source typed target (going x p w (level x) None bytes)) same ∙ ap (λ b. whole source typed target (going last p w (level last) None b)) (sym (append-nil bytes))
  whole_follows (item ∷ items) s last p w bytes (next, reads, more) (free, taken) =
      let mark = mark_of p item in
      let written = target.plain w item mark in
      let w' = target.after w item mark in
      whole_step source typed target nested.pays (going s p w (level s) None bytes) item next (is_open s next p item reads) reads
      ∙ ap (whole source typed target) (moved_on s next p w (level s) bytes item free)
      ∙ ap (λ d. whole source typed target (going next (after p item) w' d None (bytes ++ written))) (sym (is_deep s next p item reads))
      ∙ whole_follows items next last (after p item) w' (bytes ++ written) more taken
      ∙ ap (λ b. whole source typed target (going last (behind (after p item) items) (writers target w' (marked (after p item) items)) (level last) None b))
      (append_assoc bytes written (spelled target.plain target.after w' (marked (after p item) items)))

  -- items of which some may be barred, and a fault behind them
  pub whole_faults : (items : List Item) (last : S) (g : Going S Position T) (f : Fault) → Follows source g.reader g.walk items last → g.depth ≡ level g.reader
      → 0 < level last → source.reads last (hint_of (behind g.walk items)) ≡ Err f → whole source typed target g ≡ Err f
  whole_faults [] last g f same deep some e =
      let deeper : 0 < g.depth = subst (λ n. 0 < n) (sym (deep ∙ ap level same)) some in
      whole_fault source typed target nested.pays g f deeper (ap (λ x. source.reads x (hint_of g.walk)) same ∙ e)
  whole_faults (item ∷ items) last g f (next, reads, more) deep some e =
      let some_open : 0 < g.depth = subst (λ n. 0 < n) (sym deep) (is_open g.reader next g.walk item reads) in
      whole_step source typed target nested.pays g item next some_open reads
      ∙ whole_faults items last (moved source typed target g (item, next)) f more (ap (depth_after item) deep ∙ sym (is_deep g.reader next g.walk item reads)) some e

  -- items of which some may be barred, to the end of the body
  pub whole_ends : (items : List Item) (last : S) (g : Going S Position T) → Follows source g.reader g.walk items last → g.depth ≡ level g.reader
      → level last ≡ 0 → (new : Going S Position T) × (whole source typed target g ≡ Ok new) × (new.reader ≡ last)
  whole_ends [] last g same deep none = (g, whole_end source typed target nested.pays g (deep ∙ ap level same ∙ none), same)
  whole_ends (item ∷ items) last g (next, reads, more) deep none =
      let some_open : 0 < g.depth = subst (λ n. 0 < n) (sym deep) (is_open g.reader next g.walk item reads) in
      let r = whole_ends items last (moved source typed target g (item, next)) more (ap (depth_after item) deep ∙ sym (is_deep g.reader next g.walk item reads)) none in
      (r.0, whole_step source typed target nested.pays g item next some_open reads ∙ r.1, r.2)

  -- a bar stays the cause, whatever is barred behind it
  stays : (g : Going S Position T) (item : Item) (next : S) (c : Cause) → g.cause ≡ Some c → (moved source typed target g (item, next)).cause ≡ Some c
  stays g item next c is = ap (λ q. first_cause q (tried (is_some g.cause) (target.bar item (mark_of g.walk item))) (source.place next)) is

  -- to the end of the body, behind a bar
  pub whole_barred : (items : List Item) (last : S) (g : Going S Position T) (c : Cause) → g.cause ≡ Some c → Follows source g.reader g.walk items last → g.depth ≡ level g.reader
      → level last ≡ 0 → (new : Going S Position T) × (whole source typed target g ≡ Ok new) × (new.reader ≡ last) × (new.cause ≡ Some c)
  whole_barred [] last g c is same deep none = (g, whole_end source typed target nested.pays g (deep ∙ ap level same ∙ none), same, is)
  whole_barred (item ∷ items) last g c is (next, reads, more) deep none =
      let some_open : 0 < g.depth = subst (λ n. 0 < n) (sym deep) (is_open g.reader next g.walk item reads) in
      let r = whole_barred items last (moved source typed target g (item, next)) c (stays g item next c is) more (ap (depth_after item) deep ∙ sym (is_deep g.reader next g.walk item reads)) none in
      (r.0, whole_step source typed target nested.pays g item next some_open reads ∙ r.1, r.2, r.3)

  -- items one after another, cut in two
  pub follows_apart : (before rest : List Item) (s last : S) (p : Position) → Follows source s p (before ++ rest) last → (mid : S) × Follows source s p before mid × Follows source mid (behind p before) rest last
  follows_apart [] rest s last p f = (s, refl, f)
  follows_apart (item ∷ before) rest s last p (next, reads, more) = let r = follows_apart before rest next last (after p item) more in (r.0, (next, reads, r.1), r.2)

  module _ (start : Header → Position) (info : Header → HeadInfo) (frame : List ℕ) (header : Header) (first last : S) (items : List Item)
      (headed : source.reads_head (source.begun frame) ≡ Ok (header, first)) (body : level first ≡ 1) (follows : Follows source first (start header) items last) where
    -- the header and all items are taken, and the frame ends
    pub judged_whole : target.name_bar header.name ≡ None → TakesAll target.bar (marked (start header) items) → level last ≡ 0 → source.reads_end last ≡ Ok (tt, last)
        → judge source typed start info target frame
        ≡ judged (Passed (info header)) (target.plain_head header ++ spelled target.plain target.after target.begun (marked (start header) items))
    judged_whole free taken none ends =
        let p = start header in
        let bytes = spelled target.plain target.after target.begun (marked p items) in
        let at_last = going last (behind p items) (writers target target.begun (marked p items)) 0 None bytes in
        let is : whole source typed target (going first p target.begun 1 None []) ≡ Ok at_last =
        ap (λ d. whole source typed target (going first p target.begun d None [])) (sym body)
        ∙ whole_follows items first last p target.begun [] follows taken
        ∙ ap (λ d. whole source typed target (going last (behind p items) (writers target target.begun (marked p items)) d None bytes)) none
        ∙ whole_end source typed target nested.pays at_last refl in
        judge_ok source typed start info target frame header first headed ∙ rw (free, is, ends) refl

    barred_by : (g : Going S Position T) (c : Cause) → g.reader ≡ last → g.cause ≡ Some c → source.reads_end last ≡ Ok (tt, last)
        → whole source typed target (going first (start header) target.begun 1 (head_cause source typed start info target header first) []) ≡ Ok g
        → judge source typed start info target frame ≡ judged (Refused (info header) c) []
    barred_by g c reader cause ends is =
        let at_last : source.reads_end g.reader ≡ Ok (tt, last) = ap source.reads_end reader ∙ ends in
        judge_ok source typed start info target frame header first headed ∙ rw (is, at_last, cause) refl

    -- the name is barred
    pub judged_name : (bar : Bar) → target.name_bar header.name ≡ Some bar → level last ≡ 0 → source.reads_end last ≡ Ok (tt, last)
        → judge source typed start info target frame ≡ judged (Refused (info header) (Barred (source.place first) bar)) []
    judged_name bar barred none ends =
        let c = Barred (source.place first) bar in
        let g = going first (start header) target.begun 1 (head_cause source typed start info target header first) [] in
        let is : g.cause ≡ Some c = ap (λ q. first_cause None q (source.place first)) barred in
        let r = whole_barred items last g c is follows (sym body) none in
        barred_by r.0 c r.2 r.3 ends r.1

    -- an item is barred, and none before it
    pub judged_item : (before rest : List Item) (item : Item) (bar : Bar) (mid next : S) → target.name_bar header.name ≡ None → Follows source first (start header) before mid
        → source.reads mid (hint_of (behind (start header) before)) ≡ Ok (item, next) → Follows source next (after (behind (start header) before) item) rest last
        → TakesAll target.bar (marked (start header) before) → target.bar item (mark_of (behind (start header) before) item) ≡ Some bar → level last ≡ 0 → source.reads_end last ≡ Ok (tt, last)
        → judge source typed start info target frame ≡ judged (Refused (info header) (Barred (source.place next) bar)) []
    judged_item before rest item bar mid next free to_mid reads more taken barred none ends =
        let p = start header in
        let c = Barred (source.place next) bar in
        let w = writers target target.begun (marked p before) in
        let bytes = spelled target.plain target.after target.begun (marked p before) in
        let g = going mid (behind p before) w (level mid) None bytes in
        let here = moved source typed target g (item, next) in
        let is : here.cause ≡ Some c = ap (λ q. first_cause None (tried false q) (source.place next)) barred in
        let r = whole_barred rest last here c is more (sym (is_deep mid next (behind p before) item reads)) none in
        let cause : head_cause source typed start info target header first ≡ None = ap (λ q. first_cause None q (source.place first)) free in
        barred_by r.0 c r.2 r.3 ends
        (ap (λ q. whole source typed target (going first p target.begun 1 q [])) cause ∙ ap (λ d. whole source typed target (going first p target.begun d None [])) (sym body)
        ∙ whole_follows before first mid p target.begun [] to_mid taken
        ∙ whole_step source typed target nested.pays g item next (is_open mid next (behind p before) item reads) reads ∙ r.1)

    -- a fault stands where an item is called for
    pub judged_faulty : (f : Fault) → 0 < level last → source.reads last (hint_of (behind (start header) items)) ≡ Err f
        → judge source typed start info target frame ≡ judged (Refused (info header) (Grammar f)) []
    judged_faulty f some e =
        let g = going first (start header) target.begun 1 (head_cause source typed start info target header first) [] in
        let is : whole source typed target g ≡ Err f = whole_faults items last g f follows (sym body) some e in
        judge_ok source typed start info target frame header first headed ∙ rw is refl

    -- a fault stands behind the body
    pub judged_trailing : (f : Fault) → level last ≡ 0 → source.reads_end last ≡ Err f
        → judge source typed start info target frame ≡ judged (Refused (info header) (Grammar f)) []
    judged_trailing f none e =
        let g = going first (start header) target.begun 1 (head_cause source typed start info target header first) [] in
        let r = whole_ends items last g follows (sym body) none in
        let ends : source.reads_end r.0.reader ≡ Err f = ap source.reads_end r.2 ∙ e in
        judge_ok source typed start info target frame header first headed ∙ rw (r.1, ends) refl
