-- Names and open values one more.
use Rattle.std.proofs.Common.{◌≡◌, ◌∙◌, refl, ap, sym, arith, ℕ, List, [], ◌∷◌, ◌++◌, map, length, Option, Some, None, true, false, ◌<◌, ◌+◌, drop, drop-cons, get_or, add-one}
use Rattle.std.specs.Prelude.{is_some}
use Rattle.std.proofs.lemmas.Grind.{common_steps}
use Rattle.idl_document.specs.Item.{ValueItem}
use Rattle.idl_names.specs.Files.{FileTree}
use Rattle.idl_consts.specs.declared.pieces.Piece.{Piece}
use Rattle.idl_consts.specs.declared.row.ConstRow.{ConstRow}
use Rattle.idl_consts.specs.declared.survey.OpenValue.{OpenValue}
use Rattle.idl_consts.specs.declared.survey.ConstRef.{ConstRef}
use Rattle.idl_consts.specs.declared.survey.SurveyStep.{SurveyStep}
use Rattle.idl_consts.specs.Course.{Course, ends, stands, Context, Move, moved, item_move, course_from}
use Rattle.idl_consts.specs.Meant.{meant_at}
use Rattle.idl_consts.specs.Pieces.{chained, contexts, context_of, item_of, move_of, ending, Takes}

pub chained_push : (d : List FileTree) (ss : List ConstRef) (s : ConstRef) (k : Course) → chained d (ss ++ s ∷ []) k ≡ chained d ss (stands s.at s.constant (meant_at d s.ty) k)
chained_push d [] s k = refl
chained_push d (t ∷ ss) s k = ap (stands t.at t.constant (meant_at d t.ty)) (chained_push d ss s k)

-- nothing is asked for any more
pub over : (d : List FileTree) (file : _) (items : List ValueItem) → course_from d file [] items ≡ ends
over d file [] = refl
over d file (item ∷ items) = over d file items

pub contexts_push : (d : List FileTree) (ls : List OpenValue) (o : OpenValue) → contexts d (ls ++ o ∷ []) ≡ context_of d o ∷ contexts d ls
contexts_push d ls o = grind (arith, common_steps)

pub take_stands : (d : List FileTree) (go : List Context → Course) (ss : List ConstRef) (ls : List OpenValue) (s : ConstRef) (next : OpenValue)
    → chained d ss (stands s.at s.constant (meant_at d s.ty) (go (context_of d next ∷ contexts d ls))) ≡ chained d (ss ++ s ∷ []) (go (contexts d (ls ++ next ∷ [])))
take_stands d go ss ls s next =
    sym (chained_push d ss s (go (contexts d (ls ++ next ∷ [])))
    ∙ ap (λ (up : List Context). chained d ss (stands s.at s.constant (meant_at d s.ty) (go up))) (contexts_push d ls next))

-- a piece was taken from the front
pub one_piece : (d : List FileTree) (file : ℕ) (ss : List ConstRef) (ls before : List OpenValue) (top : OpenValue) (items rest : List ValueItem) (item : ValueItem) (turn : SurveyStep)
    → ls ≡ before ++ top ∷ [] → items ≡ item ∷ rest
    → move_of d (contexts d before) turn ≡ item_move d file (context_of d top) (contexts d before) item
    → chained d ss (course_from d file (contexts d ls) items) ≡ chained d ss (moved (move_of d (contexts d before) turn) (λ next. course_from d file next rest))
one_piece d file ss ls before top items rest item turn popped first same =
    ap (λ (up : List Context). chained d ss (course_from d file up items)) (ap (contexts d) popped ∙ contexts_push d before top)
    ∙ ap (λ (all : List ValueItem). chained d ss (course_from d file (context_of d top ∷ contexts d before) all)) first
    ∙ ap (λ (m : Move). chained d ss (moved m (λ next. course_from d file next rest))) (sym same)

pub takes_none : (d : List FileTree) (turn : SurveyStep) (before : List ConstRef) (stack : List OpenValue) (fault : Option (ℕ × ConstRow)) (after : List ConstRef) (left : List OpenValue)
    → is_some fault ≡ false → Takes d turn before stack fault after left
    → (go : List Context → Course) → chained d before (moved (move_of d (contexts d stack) turn) go) ≡ chained d after (go (contexts d left))
takes_none d turn before stack None after left none takes go = takes go
takes_none d turn before stack (Some fault) after left none takes go = absurd (cc)

pub takes_fault : (d : List FileTree) (turn : SurveyStep) (before : List ConstRef) (stack : List OpenValue) (fault : Option (ℕ × ConstRow)) (after : List ConstRef) (left : List OpenValue)
    → is_some fault ≡ true → Takes d turn before stack fault after left
    → (go : List Context → Course) → chained d before (moved (move_of d (contexts d stack) turn) go) ≡ chained d after (ending fault)
takes_fault d turn before stack None after left some takes go = absurd (cc)
takes_fault d turn before stack (Some fault) after left some takes go = takes go

-- nothing is open any more
pub none_open : (d : List FileTree) (file : ℕ) (ss : List ConstRef) (ls : List OpenValue) (items : List ValueItem) → length ls ≡ 0
    → chained d ss (course_from d file (contexts d ls) items) ≡ chained d ss ends
none_open d file ss [] items e = ap (chained d ss) (over d file items)
none_open d file ss (o ∷ ls) items e = absurd (omega arith)

pub next_piece : (pieces : List Piece) (i : ℕ) (p : Piece) → i < length pieces → map item_of (drop i pieces) ≡ item_of (get_or pieces i p) ∷ map item_of (drop (i + 1) pieces)
next_piece pieces i p h = rw (add-one, drop-cons pieces i p) refl
