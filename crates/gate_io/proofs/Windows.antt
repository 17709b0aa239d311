-- A window into cells, after a write behind it or within it.
use Rattle.std.proofs.Common.{◌≡◌, ℕ, zero, suc, ◌+◌, ◌-◌, ◌≤◌, ◌<◌, List, [], ◌∷◌, ◌++◌, length, take, drop, slice_set, arith, refl, sym, ◌∙◌, ap, length-append}
use Rattle.std.proofs.lemmas.List.{drop-drop, length-take-le, length-drop, drop-take, drop-append-le, take-append-le, take-take, take_more_set, append_assoc}
use Rattle.std.proofs.Math.Seq.{take-append-add}
use Rattle.std.proofs.lemmas.Slice.{take-put_mid, take-put_mid_below}
use borrow.Rule.Slice.PartMut.{put_mid}
use Rattle.gate_io.specs.Tails.{written_over}

-- bytes that were written behind a window belong to the longer one
pub pushed : (cells piece : List ℕ) (start len k n : ℕ) → start + len ≤ length cells → n ≡ len + length piece → take n (drop start (put_mid (start + len) k cells piece)) ≡ take len (drop start cells) ++ piece
pushed cells piece start len k n within is =
    let whole : start + n ≡ start + len + length piece = omega (arith, is) in
    sym (drop-take start n (put_mid (start + len) k cells piece))
    ∙ (ap (drop start) (take-put_mid (start + len) k cells piece (start + n) whole within)
    ∙ (drop-append-le start (take (start + len) cells) piece (omega (arith, length-take-le (start + len) cells within))
    ∙ ap (λ xs. xs ++ piece) (drop-take start len cells)))

-- and so does one byte
pub pushed_one : (cells : List ℕ) (byte start len : ℕ) → start + len < length cells → take (len + 1) (drop start (slice_set cells (start + len) byte)) ≡ take len (drop start cells) ++ byte ∷ []
pushed_one cells byte start len within =
    let more : start + (len + 1) ≡ start + len + 1 = omega arith in
    sym (drop-take start (len + 1) (slice_set cells (start + len) byte))
    ∙ (ap (λ k. drop start (take k (slice_set cells (start + len) byte))) more
    ∙ (ap (drop start) (take_more_set cells (start + len) byte within)
    ∙ (drop-append-le start (take (start + len) cells) (byte ∷ []) (omega (arith, length-take-le (start + len) cells (omega arith)))
    ∙ ap (λ xs. xs ++ byte ∷ []) (drop-take start len cells))))

-- the window without its first bytes
pub dropped : (cells : List ℕ) (start len n : ℕ) → n ≤ len → take (len - n) (drop (start + n) cells) ≡ drop n (take len (drop start cells))
dropped cells start len n within =
    let whole : n + (len - n) ≡ len = omega arith in
    ap (take (len - n)) (sym (drop-drop n start cells))
    ∙ (sym (drop-take n (len - n) (drop start cells))
    ∙ ap (λ k. drop n (take k (drop start cells))) whole)

-- what stands before the written part stays
pub kept : (cells piece : List ℕ) (start len k : ℕ) → start + len ≤ length cells → take len (drop start (put_mid (start + len) k cells piece)) ≡ take len (drop start cells)
kept cells piece start len k within =
    sym (drop-take start len (put_mid (start + len) k cells piece))
    ∙ (ap (drop start) (take-put_mid_below (start + len) k cells piece (start + len) (omega arith) within)
    ∙ drop-take start len cells)

-- the window after four bytes within it were written
pub patched : (cells four : List ℕ) (start len at k : ℕ) → start + len ≤ length cells → at + 4 ≤ len → k ≡ 4 → length four ≡ 4 → take len (drop start (put_mid (start + at) k cells four)) ≡ take at (take len (drop start cells)) ++ four ++ drop (at + 4) (take len (drop start cells))
patched cells four start len at k within inside is whole =
    let front : length (take (start + at) cells) ≡ start + at = length-take-le (start + at) cells (omega arith) in
    let head : length (take at (drop start cells)) ≡ at = length-take-le at (drop start cells) (omega (arith, length-drop start cells)) in
    let dropped : drop start (put_mid (start + at) k cells four) ≡ take at (drop start cells) ++ (four ++ drop k (drop (start + at) cells)) =
    drop-append-le start (take (start + at) cells) (four ++ drop k (drop (start + at) cells)) (omega (arith, front)) ∙ ap (λ xs. xs ++ (four ++ drop k (drop (start + at) cells))) (drop-take start at cells) in
    let cut : len ≡ length (take at (drop start cells)) + (length four + (len - (at + 4))) = omega (arith, head, whole) in
    let behind : take (len - (at + 4)) (drop k (drop (start + at) cells)) ≡ drop (at + 4) (take len (drop start cells)) =
    ap (take (len - (at + 4))) (ap (λ n. drop n (drop (start + at) cells)) is ∙ (drop-drop 4 (start + at) cells ∙ (ap (λ n. drop n cells) (omega arith) ∙ sym (drop-drop (at + 4) start cells))))
    ∙ (sym (drop-take (at + 4) (len - (at + 4)) (drop start cells)) ∙ ap (λ n. drop (at + 4) (take n (drop start cells))) (omega arith)) in
    ap (take len) dropped
    ∙ (ap (λ n. take n (take at (drop start cells) ++ (four ++ drop k (drop (start + at) cells)))) cut
    ∙ (take-append-add (take at (drop start cells)) (four ++ drop k (drop (start + at) cells)) (length four + (len - (at + 4)))
    ∙ (ap (λ xs. take at (drop start cells) ++ xs) (take-append-add four (drop k (drop (start + at) cells)) (len - (at + 4)) ∙ ap (λ xs. four ++ xs) behind)
    ∙ (sym (append_assoc (take at (drop start cells)) four (drop (at + 4) (take len (drop start cells))))
    ∙ ap (λ xs. xs ++ four ++ drop (at + 4) (take len (drop start cells))) (sym (take-take at len (drop start cells) (omega arith)))))))

-- a write keeps the number of cells
pub same_length : (cells piece : List ℕ) (at k : ℕ) → at + k ≤ length cells → length piece ≡ k → length (put_mid at k cells piece) ≡ length cells
same_length cells piece at k within is =
    omega (arith, is, length-append (take at cells) (piece ++ drop k (drop at cells)), length-append piece (drop k (drop at cells)), length-take-le at cells (omega arith), length-drop k (drop at cells), length-drop at cells)

-- the first of the bytes that were written behind a window
pub pushed_first : (cells piece : List ℕ) (start len k n : ℕ) → start + len ≤ length cells → n ≤ length piece → take (len + n) (drop start (put_mid (start + len) k cells piece)) ≡ take len (drop start cells) ++ take n piece
pushed_first cells piece start len k n within some =
    let window : length (take len (drop start cells)) ≡ len = length-take-le len (drop start cells) (omega (arith, length-drop start cells)) in
    sym (take-take (len + n) (len + length piece) (drop start (put_mid (start + len) k cells piece)) (omega (arith, some)))
    ∙ (ap (take (len + n)) (pushed cells piece start len k (len + length piece) within refl)
    ∙ (ap (λ m. take (m + n) (take len (drop start cells) ++ piece)) (sym window)
    ∙ take-append-add (take len (drop start cells)) piece n))

-- what a write leaves of some cells counts only up to the cut
refilled : (w cells : List ℕ) (n : ℕ) → take n (w ++ drop (length w) cells) ≡ take n (w ++ drop (length w) (take n cells))
refilled [] cells n = sym (take-take n n cells (omega arith))
refilled (x ∷ w) cells zero = refl
refilled (x ∷ w) [] (suc n) = refl
refilled (x ∷ w) (y ∷ cells) (suc n) = ap (λ xs. x ∷ xs) (refilled w cells n)

-- cells behind a window were lent, and belong to the longer one
pub lent : (cells w tail rest held : List ℕ) (many start len count : ℕ) → many ≡ length cells → start + len + count ≤ length cells → tail ≡ take count (drop (start + len) cells) → take len (drop start cells) ≡ held →
    take (len + count) (drop start (take many ((take (start + len) cells ++ (w ++ drop (length w) (drop (start + len) cells))) ++ rest))) ≡ held ++ written_over tail w
lent cells w tail rest held many start len count size within is was =
    let behind = drop (start + len) cells in
    let over = w ++ drop (length w) behind in
    let front : length (take (start + len) cells) ≡ start + len = length-take-le (start + len) cells (omega (arith, within)) in
    let whole = take (start + len) cells ++ over in
    let long : length cells ≤ length whole = omega (arith, within, front, length-append (take (start + len) cells) over, length-append w (drop (length w) behind), length-drop (length w) behind, length-drop (start + len) cells) in
    let many_of : length tail ≡ count = ap length is ∙ length-take-le count behind (omega (arith, within, length-drop (start + len) cells)) in
    let end : start + (len + count) ≡ length (take (start + len) cells) + count = omega (arith, front) in
    ap (λ n. take (len + count) (drop start (take n (whole ++ rest)))) size
    ∙ ap (λ xs. take (len + count) (drop start xs)) (take-append-le (length cells) whole rest long)
    ∙ sym (drop-take start (len + count) (take (length cells) whole))
    ∙ ap (drop start) (take-take (start + (len + count)) (length cells) whole (omega (arith, within)))
    ∙ ap (λ n. drop start (take n whole)) end
    ∙ ap (drop start) (take-append-add (take (start + len) cells) over count)
    ∙ drop-append-le start (take (start + len) cells) (take count over) (omega (arith, front))
    ∙ ap (λ xs. xs ++ take count over) (drop-take start len cells ∙ was)
    ∙ ap (λ xs. held ++ xs) (refilled w behind count)
    ∙ ap (λ xs. held ++ take count (w ++ drop (length w) xs)) (sym is)
    ∙ ap (λ n. held ++ take n (w ++ drop (length w) tail)) (sym many_of)
