-- The steps of the walk.
use Rattle.std.proofs.Common.{◌≡◌, ℕ, zero, suc, ◌+◌, ◌-◌, ◌<◌, ◌≤◌, ◌^◌, List, [], ◌∷◌, ◌++◌, length, map, drop, get_or, slice_index_or, Option, Result, Ok, Err, Bool, true, false, cond, refl, ap, sym, ◌∙◌, arith, subst, append_assoc, length-append, drop-cons}
use Rattle.std.proofs.lemmas.List.{append-nil}
use Rattle.idl_document.specs.declared.document.Name.{Name}
use Rattle.idl_document.specs.declared.document.Definition.{Definition}
use Rattle.idl_document.specs.Trees.{definition_trees, DocumentTree}
use Rattle.idl_names.specs.declared.documents.FileDoc.{FileDoc}
use Rattle.idl_names.specs.Files.{FileTree, file_trees}
use Rattle.idl_rules.specs.declared.row.IdlFault.{IdlFault}
use Rattle.idl_rules.specs.declared.row.IdlRow.TheVariants as rows
use Rattle.idl_files.specs.declared.fault.LoadError.{LoadError}
use Rattle.idl_files.specs.declared.fault.LoadError.TheVariants as errors
use Rattle.idl_files.specs.declared.mentions.Mention.{Mention}
use Rattle.idl_files.specs.Answers.{Gives, Refuses, AllBelow, AllWhole, Extends}
use Rattle.idl_files.specs.Listing.{fresh, with_includes}
use Rattle.idl_files.specs.Walk.{Load, Included, Walked, included, mentioned, mention_of, go_on, refusal, is_full, loaded, load_by, open_by, document_of}

-- a refusal that was meant is what is given
pub refuses : {X Y : Type 0} (view : X → Y) (error : LoadError) (meant : IdlFault) (given : Result Y IdlFault) → Refuses error meant → given ≡ Err meant → Gives view (Err error) given
refuses view (errors.Idl fault) meant given r e = e ∙ ap (λ (f : IdlFault). Err f) (sym r)
refuses view errors.FileFault meant given r e = absurd r
refuses view errors.OutOfMemory meant given r e = tt
refuses view errors.NoTables meant given r e = absurd r

module _ (holds : List ℕ → Option (List ℕ)) where
  -- a file is loaded without a case on the levels
  unrolled : (levels : ℕ) (files : List FileTree) (file : List ℕ) (at : ℕ) (name : List ℕ) → loaded holds levels files file at name ≡ load_by holds levels (loaded holds (levels - 1)) files file at name
  unfolding loaded
  unrolled zero files file at name = refl
  unrolled (suc levels) files file at name =
      let less : suc levels - 1 ≡ levels = omega arith in
      ap (λ (n : ℕ). load_by holds (suc levels) (loaded holds n) files file at name) (sym less)

  pub full : (levels : ℕ) (files : List FileTree) (file : List ℕ) (at : ℕ) (name : List ℕ) → is_full levels files ≡ true → loaded holds levels files file at name ≡ Err (refusal file at rows.TooManyFiles)
  full levels files file at name f =
      unrolled levels files file at name
      ∙ ap (λ (t : Bool). let r : Walked = cond t (Err (refusal file at rows.TooManyFiles)) (open_by (loaded holds (levels - 1)) files name (document_of file at name (holds name))) in r) f

  pub read : (levels : ℕ) (files : List FileTree) (file : List ℕ) (at : ℕ) (name : List ℕ) → is_full levels files ≡ false →
      loaded holds levels files file at name ≡ open_by (loaded holds (levels - 1)) files name (document_of file at name (holds name))
  read levels files file at name f =
      unrolled levels files file at name
      ∙ ap (λ (t : Bool). let r : Walked = cond t (Err (refusal file at rows.TooManyFiles)) (open_by (loaded holds (levels - 1)) files name (document_of file at name (holds name))) in r) f

  pub read_ok : (levels : ℕ) (files : List FileTree) (file : List ℕ) (at : ℕ) (name : List ℕ) (document : DocumentTree) (given : Walked) → is_full levels files ≡ false →
      document_of file at name (holds name) ≡ Ok document → given ≡ open_by (loaded holds (levels - 1)) files name (Ok document) → loaded holds levels files file at name ≡ given
  read_ok levels files file at name document given f d g = read levels files file at name f ∙ ap (open_by (loaded holds (levels - 1)) files name) d ∙ sym g

  pub read_err : {X Z : Type 0} (view : X → DocumentTree) (other : Z → List FileTree) (levels : ℕ) (files : List FileTree) (file : List ℕ) (at : ℕ) (name : List ℕ) (error : LoadError) → is_full levels files ≡ false →
      Gives view (Err error) (document_of file at name (holds name)) → Gives other (Err error) (loaded holds levels files file at name)
  read_err view other levels files file at name (errors.Idl fault) f d = read levels files file at name f ∙ ap (open_by (loaded holds (levels - 1)) files name) d
  read_err view other levels files file at name errors.FileFault f d = tt
  read_err view other levels files file at name errors.OutOfMemory f d = tt
  read_err view other levels files file at name errors.NoTables f d = absurd d

-- the loop over a file's includes
module _ (load : Load) (file : List ℕ) (ms : List Mention) (k : ℕ) (m : Mention) (within : k < length ms) (is : m ≡ get_or ms k m) where
  next : drop k ms ≡ m ∷ drop (k + 1) ms
  next =
      let step : drop k ms ≡ get_or ms k m ∷ drop (suc k) ms = drop-cons ms k m within in
      let more : suc k ≡ k + 1 = omega arith in
      step ∙ ap (λ (x : Mention). x ∷ drop (suc k) ms) (sym is) ∙ ap (λ (n : ℕ). m ∷ drop n ms) more

  pub included_more : (files after : List FileTree) (places told : List ℕ) (place : ℕ) (whole : Included) → mentioned load files file m ≡ Ok (after, place) → told ≡ places ++ place ∷ [] →
      included load file (drop k ms) files places ≡ whole → included load file (drop (k + 1) ms) after told ≡ whole
  included_more files after places told place whole e t i =
      ap (included load file (drop (k + 1) ms) after) t
      ∙ sym (ap (λ r. go_on r λ files place. included load file (drop (k + 1) ms) files (places ++ place ∷ [])) e)
      ∙ sym (ap (λ (xs : List Mention). included load file xs files places) next)
      ∙ i

  pub included_err : {X Z : Type 0} (view : X → List FileTree × ℕ) (other : Z → List FileTree × List ℕ) (files : List FileTree) (places : List ℕ) (error : LoadError) (whole : Included) →
      Gives view (Err error) (mentioned load files file m) → included load file (drop k ms) files places ≡ whole → Gives other (Err error) whole
  included_err view other files places (errors.Idl fault) whole e i =
      sym i
      ∙ ap (λ (xs : List Mention). included load file xs files places) next
      ∙ ap (λ r. go_on r λ files place. included load file (drop (k + 1) ms) files (places ++ place ∷ [])) e
  included_err view other files places errors.FileFault whole e i = tt
  included_err view other files places errors.OutOfMemory whole e i = tt
  included_err view other files places errors.NoTables whole e i = absurd e

pub trees_length : (files : List FileDoc) → length (file_trees files) ≡ length files
trees_length [] = refl
trees_length (f ∷ fs) = ap suc (trees_length fs)

mentions_length : (file : List ℕ) (includes : List Name) → length (map (mention_of file) includes) ≡ length includes
mentions_length file [] = refl
mentions_length file (i ∷ is) = ap suc (mentions_length file is)

-- each include is mentioned once
pub counted : (file : List ℕ) (includes seen : List Name) (items mentions : List Mention) (places : List ℕ) → length places ≡ length mentions → mentions ≡ items → items ≡ map (mention_of file) seen → seen ≡ includes →
    length places ≡ length includes
counted file includes seen items mentions places l m i s =
    l ∙ ap length m ∙ ap length i ∙ ap (λ (xs : List Name). length (map (mention_of file) xs)) s ∙ mentions_length file includes

-- what is whole stays so among more files
below_more : (a b : ℕ) (ns : List ℕ) → a ≤ b → AllBelow a ns → AllBelow b ns
below_more a b [] h s = tt
below_more a b (n ∷ ns) h s = (omega (arith, s.0), below_more a b ns h s.1)

whole_more : (a b : ℕ) (files : List FileTree) → a ≤ b → AllWhole a files → AllWhole b files
whole_more a b [] h s = tt
whole_more a b (f ∷ fs) h s = ((s.0.0, below_more a b f.includes h s.0.1, s.0.2), whole_more a b fs h s.1)

whole_append : (n : ℕ) (xs ys : List FileTree) → AllWhole n xs → AllWhole n ys → AllWhole n (xs ++ ys)
whole_append n [] ys p q = q
whole_append n (x ∷ xs) ys p q = (p.0, whole_append n xs ys p.1 q)

pub below_push : (a b : ℕ) (ns told : List ℕ) (n : ℕ) → told ≡ ns ++ n ∷ [] → a ≤ b → AllBelow a ns → n < b → AllBelow b told
below_push a b ns told n e h s l = subst (AllBelow b) (sym e) (push ns s)
  where
    push : (ns : List ℕ) → AllBelow a ns → AllBelow b (ns ++ n ∷ [])
    push [] s = (l, tt)
    push (m ∷ ms) s = (omega (arith, s.0), push ms s.1)

pub extends_nothing : (files : List FileTree) → Extends files files
extends_nothing files = record { more = []; is = sym (append-nil files); whole = tt }

pub longer : (a b : List FileTree) → Extends a b → length a ≤ length b
longer a b e = omega (arith, ap length e.is, length-append a e.more)

pub extends_twice : (a b c : List FileTree) → Extends a b → Extends b c → Extends a c
extends_twice a b c e f = record {
  more = e.more ++ f.more;
  is = f.is ∙ ap (λ (xs : List FileTree). xs ++ f.more) e.is ∙ append_assoc a e.more f.more;
  whole = whole_append (length c) e.more f.more (whole_more (length b) (length c) e.more (longer b c f) e.whole) f.whole;
}

set_last : (old more : List FileTree) (f : FileTree) (includes : List ℕ) → with_includes (length old) includes (old ++ f ∷ more) ≡ old ++ record f { includes = includes } ∷ more
set_last [] more f includes = refl
set_last (x ∷ xs) more f includes = ap (λ (ys : List FileTree). x ∷ ys) (set_last xs more f includes)

-- a file whose includes were all loaded is whole, and so are they
pub opened_extends : (old one two three : List FileTree) (name : List ℕ) (document : DocumentTree) (place : ℕ) (includes : List ℕ) → one ≡ old ++ fresh name document ∷ [] → Extends one two →
    three ≡ with_includes place includes two → place ≡ length old → length includes ≡ length document.includes → AllBelow (length two) includes → length document.definitions < 2 ^ 32 → Extends old three
opened_extends old one two three name document place includes p e s at l b d =
    let f = fresh name document in
    let g : FileTree = record { name = name; document = document; includes = includes } in
    let two_is : two ≡ old ++ f ∷ e.more = e.is ∙ ap (λ (xs : List FileTree). xs ++ e.more) p ∙ append_assoc old (f ∷ []) e.more in
    let three_is : three ≡ old ++ g ∷ e.more = s ∙ ap (λ (n : ℕ). with_includes n includes two) at ∙ ap (with_includes (length old) includes) two_is ∙ set_last old e.more f includes in
    let same : length two ≤ length three = omega (arith, ap length two_is, ap length three_is, length-append old (f ∷ e.more), length-append old (g ∷ e.more)) in
    record {
      more = g ∷ e.more;
      is = three_is;
      whole = ((l, below_more (length two) (length three) includes same b, d), whole_more (length two) (length three) e.more same e.whole);
    }

pub opened_grows : (old one two three : List FileTree) (name : List ℕ) (document : DocumentTree) (place : ℕ) (includes : List ℕ) → one ≡ old ++ fresh name document ∷ [] → Extends one two →
    three ≡ with_includes place includes two → place ≡ length old → length old < length three
opened_grows old one two three name document place includes p e s at =
    let f = fresh name document in
    let g : FileTree = record { name = name; document = document; includes = includes } in
    let two_is : two ≡ old ++ f ∷ e.more = e.is ∙ ap (λ (xs : List FileTree). xs ++ e.more) p ∙ append_assoc old (f ∷ []) e.more in
    let three_is : three ≡ old ++ g ∷ e.more = s ∙ ap (λ (n : ℕ). with_includes n includes two) at ∙ ap (with_includes (length old) includes) two_is ∙ set_last old e.more f includes in
    omega (arith, ap length three_is, length-append old (g ∷ e.more))

pub definitions_length : (definitions : List Definition) → length (definition_trees definitions) ≡ length definitions
definitions_length [] = refl
definitions_length (d ∷ ds) = ap suc (definitions_length ds)

pub all_few : (n : ℕ) (files : List FileTree) → AllWhole n files → (k : ℕ) (d : FileTree) → k < length files → length (slice_index_or files k d).document.definitions < 2 ^ 32
all_few n [] w k d h = absurd (omega arith)
all_few n (f ∷ fs) w zero d h = w.0.2
all_few n (f ∷ fs) w (suc k) d h = all_few n fs w.1 k d (omega arith)
