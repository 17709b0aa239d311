use Rattle.std.proofs.Common.{◌≡◌, ◌∙◌, [], ◌++◌, List, ℕ, length, take, drop, arith, ap, sym, subst}
use Rattle.std.specs.Int.{w32, to_be_bytes}
use Rattle.std.proofs.lemmas.Grind.{common_steps}
use Rattle.stream_messages.specs.declared.framer.Behind.{Behind}
use Rattle.stream_messages.specs.declared.framer.Behind.TheVariants as behind
use Rattle.stream_messages.specs.Fronts.{whole, bad}
use Rattle.stream_messages.specs.Messages.{rest, over, mark, IsTail}
use Rattle.stream_messages.specs.Searching.{Searches}
use Rattle.stream_messages.specs.Framing.{FramerState, IsIdle, EndsOpen}
use Rattle.stream_messages.proofs.Due.{all_fresh}
use Rattle.stream_messages.proofs.Framing.{message_found, refused_found, over_found}
use Rattle.stream_messages.proofs.Finding.{view_of, same_view, message_view, first_in, tail_in}
use Rattle.stream_messages.proofs.framer.Framer.find.Goals as goal

pub go_on-requires-clause-searches : goal.go_on-requires-clause-searches
go_on-requires-clause-searches c =
    let i = c.self.inside in
    let due = subst (λ (s : FramerState). s.due ≡ []) (sym c.self.view_is) c.requires.due in
    let fresh = all_fresh i.due i.bytes.bytes c.self.invariant.6 c.self.invariant.3 c.self.invariant.4 due in
    subst (λ l. Searches i.search l) (fresh ∙ sym c.bytes.ensures.bytes) c.self.invariant.5

pub invariant_of-self : goal.invariant_of-self
invariant_of-self c =
    let i = c.self.inside in
    let due = subst (λ (s : FramerState). s.due ≡ []) (sym c.self.view_is) c.requires.due in
    let fresh = all_fresh i.due i.bytes.bytes c.self.invariant.6 c.self.invariant.3 c.self.invariant.4 due in
    let f = c.in-Open.ensures.finds in (
      omega (arith, f.limit_is, c.self.invariant.0),
      omega (arith, f.limit_is, c.self.invariant.1),
      c.self.invariant.2 ∙ sym f.limit_is,
      c.self.invariant.3,
      c.self.invariant.4,
      subst (λ l. Searches c.go_on.new.self l) (c.bytes.ensures.bytes ∙ sym fresh) f.begins.1,
      c.self.invariant.6,
    )

pub returns-in-Open-clause-none : goal.returns-in-Open-clause-none
returns-in-Open-clause-none c = λ none.
    let i = c.self.inside in
    let due = subst (λ (s : FramerState). s.due ≡ []) (sym c.self.view_is) c.requires.due in
    let fresh = all_fresh i.due i.bytes.bytes c.self.invariant.6 c.self.invariant.3 c.self.invariant.4 due in
    let f = c.in-Open.ensures.finds in
    let path = same_view c.go_on.new.self.wire i.search.wire c.go_on.new.self.limit i.search.limit i.due i.bytes.bytes i.behind f.wire_is f.limit_is in
    let messages : i.behind ≡ behind.Messages = ap (λ (s : FramerState). s.behind) c.self.view_is ∙ c.requires.messages in
    let held : c.bytes.result.now ≡ drop i.due.left i.bytes.bytes = c.bytes.ensures.bytes ∙ sym fresh in
    let view = view_of i.search.wire i.search.limit i.due i.bytes.bytes i.behind in
    let open_end : IsTail i.search.wire i.search.limit (drop i.due.left i.bytes.bytes) (rest (drop i.due.left i.bytes.bytes)) =
    subst (λ l. IsTail i.search.wire i.search.limit l (rest l)) held f.begins.0 in
    let idle : IsIdle view = record { due = due; open_end = subst (λ b. EndsOpen view b) (sym messages) open_end } in
    (path ∙ c.self.view_is, subst IsIdle (sym path) idle)

pub returns-in-Message-clause-stands : goal.returns-in-Message-clause-stands
returns-in-Message-clause-stands c = λ wire limit received given ended stands.
    let i = c.self.inside in
    let now = c.args.self.now in
    let n = c.in-Message.count in
    let due = subst (λ (s : FramerState). s.due ≡ []) (sym c.self.view_is) c.requires.due in
    let fresh = all_fresh i.due i.bytes.bytes c.self.invariant.6 c.self.invariant.3 c.self.invariant.4 due in
    let f = c.in-Message.ensures.finds in
    let held : i.bytes.bytes ≡ now.fresh = sym fresh ∙ ap (λ (s : FramerState). s.fresh) c.self.view_is in
    let read : c.bytes.result.now ≡ now.fresh = c.bytes.ensures.bytes ∙ held in
    let w : i.search.wire ≡ now.wire = ap (λ (s : FramerState). s.wire) c.self.view_is in
    let l : i.search.limit ≡ now.limit = ap (λ (s : FramerState). s.limit) c.self.view_is in
    let b : i.behind ≡ now.behind = ap (λ (s : FramerState). s.behind) c.self.view_is in
    let size : length c.bytes.result.now ≡ length now.fresh = ap (λ (x : List ℕ). length x) read in
    message_found wire limit now _ received given ended n c.requires.due c.requires.messages (omega (arith, f.begins.1, size))
    (first_in i.search.wire now.wire i.search.limit now.limit whole n c.bytes.result.now now.fresh w l read f.begins.2)
    (message_view now c.go_on.new.self.wire c.go_on.new.self.limit c.message-self-inside.result i.bytes.bytes i.behind n (f.wire_is ∙ w) (f.limit_is ∙ l) c.message-self-inside.ensures held
    ∙ ap (λ (x : Behind). record { wire = now.wire; limit = now.limit; due = to_be_bytes w32 n ++ take n now.fresh; fresh = drop n now.fresh; behind = x }) b)
    stands

pub returns-in-Message-clause-out : goal.returns-in-Message-clause-out
returns-in-Message-clause-out c = λ none.
    let i = c.self.inside in
    let due = subst (λ (s : FramerState). s.due ≡ []) (sym c.self.view_is) c.requires.due in
    let fresh = all_fresh i.due i.bytes.bytes c.self.invariant.6 c.self.invariant.3 c.self.invariant.4 due in
    let read : c.bytes.result.now ≡ [] = c.bytes.ensures.bytes ∙ (sym fresh ∙ (ap (λ (s : FramerState). s.fresh) c.self.view_is ∙ none)) in
    let f = c.in-Message.ensures.finds in
    absurd (omega (arith, f.begins.0, f.begins.1, ap (λ (x : List ℕ). length x) read))

pub returns-in-Refused-clause-stands : goal.returns-in-Refused-clause-stands
returns-in-Refused-clause-stands c = λ wire limit received given ended stands.
    let i = c.self.inside in
    let now = c.args.self.now in
    let n = c.in-Refused.count in
    let due = subst (λ (s : FramerState). s.due ≡ []) (sym c.self.view_is) c.requires.due in
    let fresh = all_fresh i.due i.bytes.bytes c.self.invariant.6 c.self.invariant.3 c.self.invariant.4 due in
    let f = c.in-Refused.ensures.finds in
    let held : i.bytes.bytes ≡ now.fresh = sym fresh ∙ ap (λ (s : FramerState). s.fresh) c.self.view_is in
    let read : c.bytes.result.now ≡ now.fresh = c.bytes.ensures.bytes ∙ held in
    let w : i.search.wire ≡ now.wire = ap (λ (s : FramerState). s.wire) c.self.view_is in
    let l : i.search.limit ≡ now.limit = ap (λ (s : FramerState). s.limit) c.self.view_is in
    let size : length c.bytes.result.now ≡ length now.fresh = ap (λ (x : List ℕ). length x) read in
    refused_found wire limit now _ received given ended n c.requires.due c.requires.messages (omega (arith, f.begins.1, size))
    (first_in i.search.wire now.wire i.search.limit now.limit bad n c.bytes.result.now now.fresh w l read f.begins.2)
    (message_view now c.go_on.new.self.wire c.go_on.new.self.limit c.message-self-inside-in-Refused.result i.bytes.bytes behind.Mark n (f.wire_is ∙ w) (f.limit_is ∙ l) c.message-self-inside-in-Refused.ensures held)
    stands

pub returns-in-Refused-clause-out : goal.returns-in-Refused-clause-out
returns-in-Refused-clause-out c = λ none.
    let i = c.self.inside in
    let due = subst (λ (s : FramerState). s.due ≡ []) (sym c.self.view_is) c.requires.due in
    let fresh = all_fresh i.due i.bytes.bytes c.self.invariant.6 c.self.invariant.3 c.self.invariant.4 due in
    let read : c.bytes.result.now ≡ [] = c.bytes.ensures.bytes ∙ (sym fresh ∙ (ap (λ (s : FramerState). s.fresh) c.self.view_is ∙ none)) in
    let f = c.in-Refused.ensures.finds in
    absurd (omega (arith, f.begins.0, f.begins.1, ap (λ (x : List ℕ). length x) read))

pub returns-in-Over-clause-stands : goal.returns-in-Over-clause-stands
returns-in-Over-clause-stands c = λ wire limit received given ended stands.
    let i = c.self.inside in
    let now = c.args.self.now in
    let due = subst (λ (s : FramerState). s.due ≡ []) (sym c.self.view_is) c.requires.due in
    let fresh = all_fresh i.due i.bytes.bytes c.self.invariant.6 c.self.invariant.3 c.self.invariant.4 due in
    let f = c.in-Over.ensures.finds in
    let read : c.bytes.result.now ≡ now.fresh = c.bytes.ensures.bytes ∙ (sym fresh ∙ ap (λ (s : FramerState). s.fresh) c.self.view_is) in
    let w : i.search.wire ≡ now.wire = ap (λ (s : FramerState). s.wire) c.self.view_is in
    let l : i.search.limit ≡ now.limit = ap (λ (s : FramerState). s.limit) c.self.view_is in
    let path = same_view c.go_on.new.self.wire i.search.wire c.go_on.new.self.limit i.search.limit i.due i.bytes.bytes i.behind f.wire_is f.limit_is ∙ c.self.view_is in
    over_found wire limit now _ received given ended c.requires.due c.requires.messages
    (tail_in i.search.wire now.wire i.search.limit now.limit c.bytes.result.now now.fresh over w l read f.begins.0)
    (c.give_mark.ensures ∙ ap (λ (s : FramerState). record s { due = mark; fresh = []; behind = behind.Nothing }) path)
    stands

pub returns-in-Open-clause-stands : goal.returns-in-Open-clause-stands
returns-in-Open-clause-stands c = grind (arith, common_steps)

pub invariant_of-self-in-Over : goal.invariant_of-self-in-Over
invariant_of-self-in-Over c = grind (arith, common_steps)

pub returns-in-Over-clause-out : goal.returns-in-Over-clause-out
returns-in-Over-clause-out c = grind (arith, common_steps)

pub invariant_of-self-in-Refused : goal.invariant_of-self-in-Refused
invariant_of-self-in-Refused c = grind (arith, common_steps)

pub invariant_of-self-in-Message : goal.invariant_of-self-in-Message
invariant_of-self-in-Message c = grind (arith, common_steps)
