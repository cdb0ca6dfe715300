-- Reading a row field by field, and the rows line by line. Assumes nothing.
use Rattle.std.proofs.Common.{◌≡◌, ℕ, suc, ◌+◌, ◌-◌, ◌<◌, ◌≤◌, List, [], ◌∷◌, ◌++◌, length, Some, None, Option, Ok, Err, Result, sym, refl, ap, ◌∙◌, append_assoc, arith}
use Rattle.std.proofs.lemmas.List.{append-nil}
use Rattle.listing.specs.Cutting.{cut}
use Rattle.listing.specs.Fields.{◌>>=◌, number_field, row_of, with_none}
use Rattle.listing.specs.Rows.{Gains}
use Rattle.listing.specs.Lines.{behind, behind_all, or_told, row_of_line, rows_of}

-- One of the n steps is taken.
left_after : (n i : ℕ) → i < n → n - i ≡ suc (n - (i + 1))
left_after n i within = omega arith

behind_one : (front : List ℕ) (x : ℕ) (read : Option (List ℕ)) → behind front (read >>= (λ xs. Some (x ∷ xs))) ≡ behind (front ++ (x ∷ [])) read
behind_one front x None = refl
behind_one front x (Some xs) = ap Some (sym (append_assoc front (x ∷ []) xs))

-- A field is read, and its reading put behind those before it.
pub row_more : (front : List ℕ) (n i x : ℕ) (fs more : List (List ℕ)) → i < n → number_field fs ≡ Some (x, more) → behind front (row_of (n - i) fs) ≡ behind (front ++ (x ∷ [])) (row_of (n - (i + 1)) more)
row_more front n i x fs more within read =
    ap (λ k. behind front (row_of k fs)) (left_after n i within)
    ∙ ap (λ r. behind front (r >>= (λ f. row_of (n - (i + 1)) f.1 >>= (λ xs. Some (f.0 ∷ xs))))) read
    ∙ behind_one front x (row_of (n - (i + 1)) more)

-- A field that writes no number ends it.
pub row_none : (n i : ℕ) (fs : List (List ℕ)) → i < n → number_field fs ≡ None → row_of (n - i) fs ≡ None
row_none n i fs within none =
    ap (λ k. row_of k fs) (left_after n i within)
    ∙ ap (λ r. r >>= (λ f. row_of (n - (i + 1)) f.1 >>= (λ xs. Some (f.0 ∷ xs)))) none

-- All fields are read.
pub row_end : (n i : ℕ) (fs : List (List ℕ)) → n ≤ i → row_of (n - i) fs ≡ with_none [] fs
row_end n i fs past = let none : n - i ≡ 0 = omega arith in ap (λ k. row_of k fs) none

-- Nothing is read before the front.
pub behind_none : (front : List ℕ) (read : Option (List ℕ)) → behind front read ≡ None → read ≡ None
behind_none front None e = refl
behind_none front (Some xs) e = absurd (cc)

pub rows_one : (front row after : List ℕ) (read : Result (List ℕ) ℕ) → front ++ row ≡ after → behind_all front (behind_all row read) ≡ behind_all after read
rows_one front row after (Ok xs) e = ap Ok (sym (append_assoc front row xs) ∙ ap (λ l. l ++ xs) e)
rows_one front row after (Err k) e = refl

row_there : (front after : List ℕ) (read : Option (List ℕ)) → behind front read ≡ Some after → (row : List ℕ) × (read ≡ Some row) × (front ++ row ≡ after)
row_there front after None e = absurd (cc)
row_there front after (Some row) e = (row, refl, cc)

-- The rows that are left, once a line is cut off.
rows_step : (n i nx : ℕ) (bs : List ℕ) → i < n → rows_of (n - i) nx (i + 2) bs ≡ or_told (i + 2) (cut 10 bs) (λ c. or_told (i + 2) (row_of_line nx c.0) (λ row. behind_all row (rows_of (n - (i + 1)) nx (i + 1 + 2) c.1)))
unfolding rows_of
rows_step n i nx bs within =
    let next : i + 2 + 1 ≡ i + 1 + 2 = omega arith in
    ap (λ k. rows_of k nx (i + 2) bs) (left_after n i within)
    ∙ ap (λ m. or_told (i + 2) (cut 10 bs) (λ c. or_told (i + 2) (row_of_line nx c.0) (λ row. behind_all row (rows_of (n - (i + 1)) nx m c.1)))) next

-- A line is read, and its readings put behind those before it.
pub rows_more : (front after : List ℕ) (n i nx : ℕ) (bs line rest : List ℕ) → i < n → cut 10 bs ≡ Some (line, rest) → behind front (row_of_line nx line) ≡ Some after → behind_all front (rows_of (n - i) nx (i + 2) bs) ≡ behind_all after (rows_of (n - (i + 1)) nx (i + 1 + 2) rest)
rows_more front after n i nx bs line rest within found read =
    let told = row_there front after (row_of_line nx line) read in
    let more = rows_of (n - (i + 1)) nx (i + 1 + 2) rest in
    ap (behind_all front) (rows_step n i nx bs within
    ∙ ap (λ c. or_told (i + 2) c (λ c. or_told (i + 2) (row_of_line nx c.0) (λ row. behind_all row (rows_of (n - (i + 1)) nx (i + 1 + 2) c.1)))) found
    ∙ ap (λ r. or_told (i + 2) r (λ row. behind_all row more)) told.1)
    ∙ rows_one front told.0 after more told.2

-- A line that is no row, or is not there, ends it.
pub rows_none : (n i nx : ℕ) (bs line rest : List ℕ) → i < n → cut 10 bs ≡ Some (line, rest) → row_of_line nx line ≡ None → rows_of (n - i) nx (i + 2) bs ≡ Err (i + 2)
rows_none n i nx bs line rest within found none =
    rows_step n i nx bs within
    ∙ ap (λ c. or_told (i + 2) c (λ c. or_told (i + 2) (row_of_line nx c.0) (λ row. behind_all row (rows_of (n - (i + 1)) nx (i + 1 + 2) c.1)))) found
    ∙ ap (λ r. or_told (i + 2) r (λ row. behind_all row (rows_of (n - (i + 1)) nx (i + 1 + 2) rest))) none

pub rows_uncut : (n i nx : ℕ) (bs : List ℕ) → i < n → cut 10 bs ≡ None → rows_of (n - i) nx (i + 2) bs ≡ Err (i + 2)
rows_uncut n i nx bs within none =
    rows_step n i nx bs within
    ∙ ap (λ c. or_told (i + 2) c (λ c. or_told (i + 2) (row_of_line nx c.0) (λ row. behind_all row (rows_of (n - (i + 1)) nx (i + 1 + 2) c.1)))) none

-- After all rows nothing is left, or the line after them is told.
pub rows_end : (n i nx : ℕ) (bs : List ℕ) → n ≤ i → length bs ≡ 0 → rows_of (n - i) nx (i + 2) bs ≡ Ok []
unfolding rows_of
rows_end n i nx [] past none = let end : n - i ≡ 0 = omega arith in ap (λ k. rows_of k nx (i + 2) []) end
rows_end n i nx (b ∷ bs) past none = absurd (omega arith)

pub rows_over : (n i nx : ℕ) (bs : List ℕ) → n ≤ i → (length bs ≡ 0 → ⊥) → rows_of (n - i) nx (i + 2) bs ≡ Err (i + 2)
unfolding rows_of
rows_over n i nx [] past more = absurd (more refl)
rows_over n i nx (b ∷ bs) past more = let end : n - i ≡ 0 = omega arith in ap (λ k. rows_of k nx (i + 2) (b ∷ bs)) end

-- A front says nothing of what is told, and nothing is behind it where nothing more is read.
pub behind_err : (front : List ℕ) (k : ℕ) (read whole : Result (List ℕ) ℕ) → read ≡ Err k → behind_all front read ≡ whole → whole ≡ Err k
behind_err front k read whole told e = sym e ∙ ap (behind_all front) told

pub behind_end : (front : List ℕ) (read whole : Result (List ℕ) ℕ) → read ≡ Ok [] → behind_all front read ≡ whole → whole ≡ Ok front
behind_end front read whole told e = sym e ∙ ap (behind_all front) told ∙ ap Ok (append-nil front)

-- What comes behind readings comes behind those before them.
pub gains_more : (a b c : Option (List ℕ)) (xs ys : List ℕ) → Gains a b xs → Gains b c ys → Gains a c (xs ++ ys)
gains_more None None None xs ys p q = tt
gains_more None None (Some zs) xs ys p q = absurd q
gains_more None (Some y) c xs ys p q = absurd p
gains_more (Some x) None None xs ys p q = tt
gains_more (Some x) None (Some z) xs ys p q = absurd q
gains_more (Some x) (Some y) None xs ys p q = tt
gains_more (Some x) (Some y) (Some z) xs ys p q = q ∙ ap (λ l. l ++ ys) p ∙ append_assoc x xs ys

-- What came behind none are the readings, where there are some.
pub gains_all : (k : Option (List ℕ)) (xs readings : List ℕ) → Gains (Some []) k xs → Some readings ≡ k → xs ≡ readings
gains_all None xs readings gained e = absurd (cc)
gains_all (Some ys) xs readings gained e = let same : readings ≡ ys = cc in sym (same ∙ gained)

-- Lines are cut at line feeds.
pub at_feed : (mark : ℕ) (bs : List ℕ) (r : Option (List ℕ × List ℕ)) → mark ≡ 10 → cut mark bs ≡ r → cut 10 bs ≡ r
at_feed mark bs r feed found = ap (λ m. cut m bs) (sym feed) ∙ found
