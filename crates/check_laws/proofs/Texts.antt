-- The walk over the files of an IDL reads each as what its text is.
use Rattle.std.proofs.Common.{◌≡◌, refl, ℕ, zero, suc, List, [], ◌∷◌, ◌++◌, length, map, Option, Some, None, Result, Ok, Err, Bool, true, false}
use Rattle.idl_document.specs.declared.document.Name.{Name}
use Rattle.idl_document.specs.Trees.{DocumentTree}
use Rattle.idl_parser.specs.declared.fault.ParseError.TheVariants as errors
use Rattle.idl_parser.specs.Documents.{Parsed, parsed}
use Rattle.grammar_laws.specs.Parsing.{IsText}
use Rattle.grammar_laws.proofs.Texts.{text_is_parsed}
use Rattle.idl_rules.specs.declared.row.IdlFault.{IdlFault}
use Rattle.idl_names.specs.Files.{FileTree}
use Rattle.idl_files.specs.Listing.{fresh, is_open_at, place_of, with_includes}
use Rattle.idl_files.specs.Walk.{Included, Load, Placed, Walked, closed, document_by, document_of, go_on, included, is_full, known_by, load_by, loaded, mention_by, mention_of, mentioned, open_by, opened, placed, walked}
use Rattle.check_laws.specs.Held.{AreHeld, IsHeld, IsRefusedText, IsWalked}

-- the type of an include that is mentioned, which the crate of the files keeps to itself
abbrev result_type : {M : Type 0} → (List ℕ → Name → M) → Type 0
result_type {M} f = M

abbrev Mention : Type 0
Mention = result_type mention_of

module _ (holds : List ℕ → Option (List ℕ)) where
  abbrev IsPlaced : Placed → Type 0
  IsPlaced (Ok x) = AreHeld holds x.0
  IsPlaced (Err fault) = IsRefusedText holds fault.file fault.offset fault.row

  abbrev AreIncluded : Included → Type 0
  AreIncluded (Ok x) = AreHeld holds x.0
  AreIncluded (Err fault) = IsRefusedText holds fault.file fault.offset fault.row

  abbrev IsRead : List ℕ → Result DocumentTree IdlFault → Type 0
  IsRead name (Ok document) = IsHeld holds name (Ok document)
  IsRead name (Err fault) = IsRefusedText holds fault.file fault.offset fault.row

  abbrev Reads : Load → Type 0
  Reads load = (files : List FileTree) (file : List ℕ) (at : ℕ) (name : List ℕ) → AreHeld holds files → IsWalked holds (load files file at name)

  both_held : (xs ys : List FileTree) → AreHeld holds xs → AreHeld holds ys → AreHeld holds (xs ++ ys)
  both_held [] ys a b = b
  both_held (x ∷ xs) ys a b = (a.0, both_held xs ys a.1 b)

  still_held : (place : ℕ) (includes : List ℕ) (files : List FileTree) → AreHeld holds files → AreHeld holds (with_includes place includes files)
  still_held place includes [] a = tt
  still_held zero includes (f ∷ fs) a = a
  still_held (suc place) includes (f ∷ fs) a = (a.0, still_held place includes fs a.1)

  -- ---- a text

  text_read : (name text : List ℕ) (answer : Parsed) → holds name ≡ Some text → IsText text answer → IsRead name (document_by name answer)
  text_read name text (Ok document) e t = (text, e, t)
  text_read name text (Err (errors.Lex fault)) e t = (fault, refl, (text, e, t))
  text_read name text (Err (errors.Syntax at)) e t = (text, e, t)
  text_read name text (Err (errors.Nested at)) e t = (text, e, t)
  text_read name text (Err errors.OutOfMemory) e t = absurd t.2

  read_by : (file : List ℕ) (at : ℕ) (name : List ℕ) (o : Option (List ℕ)) → holds name ≡ o → IsRead name (document_of file at name o)
  read_by file at name None e = tt
  read_by file at name (Some text) e = text_read name text (parsed text) e (text_is_parsed text)

  -- ---- includes

  known : (b : Bool) (files : List FileTree) (file : List ℕ) (at place : ℕ) → is_open_at place files ≡ b → AreHeld holds files → IsPlaced (known_by files file at place)
  known true files file at place e held = rw e tt
  known false files file at place e held = rw e held

  placed_held : (place : ℕ) (w : Walked) → IsWalked holds w → IsPlaced (placed place w)
  placed_held place (Ok files) h = h
  placed_held place (Err fault) h = h

  mention_held : (load : Load) → Reads load → (files : List FileTree) (file : List ℕ) (m : Mention) (o : Option ℕ) → AreHeld holds files → IsPlaced (mention_by load files file m o)
  mention_held load reads files file m None held = placed_held (length files) (load files file m.at m.name) (reads files file m.at m.name held)
  mention_held load reads files file m (Some place) held = known (is_open_at place files) files file m.at place refl held

  mentioned_held : (load : Load) → Reads load → (files : List FileTree) (file : List ℕ) (m : Mention) → AreHeld holds files → IsPlaced (mentioned load files file m)
  unfolding mentioned
  mentioned_held load reads files file m held = mention_held load reads files file m (place_of m.name files) held

  on_held : (p : Placed) (go : List FileTree → ℕ → Included) → IsPlaced p → ((files : List FileTree) (place : ℕ) → AreHeld holds files → AreIncluded (go files place)) → AreIncluded (go_on p go)
  on_held (Ok x) go h rest = rest x.0 x.1 h
  on_held (Err fault) go h rest = h

  included_held : (load : Load) → Reads load → (file : List ℕ) (ms : List Mention) (files : List FileTree) (places : List ℕ) → AreHeld holds files → AreIncluded (included load file ms files places)
  included_held load reads file [] files places held = held
  included_held load reads file (m ∷ ms) files places held =
      on_held (mentioned load files file m) (λ others place. included load file ms others (places ++ place ∷ [])) (mentioned_held load reads files file m held)
      (λ others place h. included_held load reads file ms others (places ++ place ∷ []) h)

  closed_held : (place : ℕ) (i : Included) → AreIncluded i → IsWalked holds (closed place i)
  closed_held place (Ok x) h = still_held place x.1 x.0 h
  closed_held place (Err fault) h = h

  opened_held : (load : Load) → Reads load → (files : List FileTree) (name : List ℕ) (document : DocumentTree) → AreHeld holds files → IsHeld holds name (Ok document) → IsWalked holds (opened load files name document)
  unfolding opened
  opened_held load reads files name document held h =
      let all : AreHeld holds (files ++ fresh name document ∷ []) = both_held files (fresh name document ∷ []) held (h, tt) in
      closed_held (length files) (included load name (map (mention_of name) document.includes) (files ++ fresh name document ∷ []) [])
      (included_held load reads name (map (mention_of name) document.includes) (files ++ fresh name document ∷ []) [] all)

  open_held : (load : Load) → Reads load → (files : List FileTree) (name : List ℕ) (r : Result DocumentTree IdlFault) → AreHeld holds files → IsRead name r → IsWalked holds (open_by load files name r)
  open_held load reads files name (Ok document) held h = opened_held load reads files name document held h
  open_held load reads files name (Err fault) held h = h

  load_held : (b : Bool) (levels : ℕ) (load : Load) → Reads load → (files : List FileTree) (file : List ℕ) (at : ℕ) (name : List ℕ) → is_full levels files ≡ b → AreHeld holds files →
      IsWalked holds (load_by holds levels load files file at name)
  load_held true levels load reads files file at name e held = rw e tt
  load_held false levels load reads files file at name e held = rw e (open_held load reads files name (document_of file at name (holds name)) held (read_by file at name (holds name) refl))

  all_read : (levels : ℕ) → Reads (loaded holds levels)
  unfolding loaded
  all_read zero files file at name held = tt
  all_read (suc levels) files file at name held = load_held (is_full (suc levels) files) (suc levels) (loaded holds levels) (all_read levels) files file at name refl held

  pub walk_is_held : (root : List ℕ) → IsWalked holds (walked holds root)
  unfolding walked
  walk_is_held root = all_read 256 [] root 0 root tt
