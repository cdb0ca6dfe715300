-- What the rows are read as, and where they end. Assumes nothing.
use Rattle.std.proofs.Common.{◌≡◌, ◌≢◌, ◌⊎◌, ℕ, zero, suc, ◌+◌, ◌<◌, ◌≤◌, List, [], ◌∷◌, ◌++◌, length, Some, None, Option, Ok, Err, Result, inl, inr, sym, refl, ap, ◌∙◌, append_assoc, arith}
use Rattle.std.specs.List.{AllZip, concat}
use Rattle.listing.specs.Cutting.{cut}
use Rattle.listing.specs.Inputs.{LacksRow, RowLine, ended}
use Rattle.listing.specs.Lines.{behind_all, or_told, row_of_line, rows_of}
use Rattle.listing.proofs.CutLaws.{cut_is, cut_of, some_same}
use Rattle.listing.proofs.LineLaws.{row_lacks, row_line_again, row_line_is}
use Rattle.listing.proofs.RowSteps.{rows_one}

-- What is told of a chain is told of its first part, or of the rest behind it.
pub chain_ok : {A B P : Type 0} (k : ℕ) (o : Option A) (f : A → Result B ℕ) (y : B) → or_told k o f ≡ Ok y → ((x : A) → o ≡ Some x → f x ≡ Ok y → P) → P
chain_ok k None f y e then = absurd (cc)
chain_ok k (Some x) f y e then = then x refl e

pub chain_err : {A B P : Type 0} (k j : ℕ) (o : Option A) (f : A → Result B ℕ) → or_told k o f ≡ Err j → (o ≡ None → j ≡ k → P) → ((x : A) → o ≡ Some x → f x ≡ Err j → P) → P
chain_err k j None f e here later = here refl (cc)
chain_err k j (Some x) f e here later = later x refl e

behind_ok : (front readings : List ℕ) (read : Result (List ℕ) ℕ) → behind_all front read ≡ Ok readings → (more : List ℕ) × (read ≡ Ok more) × (front ++ more ≡ readings)
behind_ok front readings (Ok more) e = (more, refl, cc)
behind_ok front readings (Err k) e = absurd (cc)

behind_told : (front : List ℕ) (j : ℕ) (read : Result (List ℕ) ℕ) → behind_all front read ≡ Err j → read ≡ Err j
behind_told front j (Ok more) e = absurd (cc)
behind_told front j (Err k) e = cc

-- A line and its line feed, before the lines after it.
pub ended_more : (line : List ℕ) (lines : List (List ℕ)) (rest : List ℕ) → ended (line ∷ lines) ++ rest ≡ line ++ (10 ∷ (ended lines ++ rest))
ended_more line lines rest = append_assoc (line ++ (10 ∷ [])) (ended lines) rest ∙ append_assoc line (10 ∷ []) (ended lines ++ rest)

-- Bytes are the lines of these rows, and a rest.
pub record RowsBefore (nx : ℕ) (bytes : List ℕ) (rows : List (List ℕ)) (rest : List ℕ) : Type 0 where
  pub lines : List (List ℕ)
  pub text : bytes ≡ ended lines ++ rest
  pub row_lines : AllZip (RowLine nx) lines rows

before_none : (nx : ℕ) (bytes : List ℕ) → RowsBefore nx bytes [] bytes
before_none nx bytes = record { lines = []; text = refl; row_lines = tt }

before_more : (nx : ℕ) (bytes line more row : List ℕ) (rows : List (List ℕ)) (rest : List ℕ) → cut 10 bytes ≡ Some (line, more) → row_of_line nx line ≡ Some row → RowsBefore nx more rows rest → RowsBefore nx bytes (row ∷ rows) rest
before_more nx bytes line more row rows rest found read before = record {
  lines = line ∷ before.lines;
  text = cut_is 10 bytes line more found ∙ ap (λ l. line ++ (10 ∷ l)) before.text ∙ sym (ended_more line before.lines rest);
  row_lines = (row_line_is nx line row read, before.row_lines);
}

-- The rows that are read are the lines of the bytes.
pub rows_found : (n nx k : ℕ) (bytes readings : List ℕ) → rows_of n nx k bytes ≡ Ok readings → (rows : List (List ℕ)) × RowsBefore nx bytes rows [] × (length rows ≡ n) × (concat rows ≡ readings)
unfolding rows_of
rows_found zero nx k [] readings e = ([], before_none nx [], refl, cc)
rows_found zero nx k (b ∷ bs) readings e = absurd (cc)
rows_found (suc n) nx k bytes readings e =
    chain_ok k (cut 10 bytes) _ readings e (λ c found e1.
    chain_ok k (row_of_line nx c.0) _ readings e1 (λ row read e2.
    let more = behind_ok row readings (rows_of n nx (k + 1) c.1) e2 in
    let told = rows_found n nx (k + 1) c.1 more.0 more.1 in (
      row ∷ told.0,
      before_more nx bytes c.0 c.1 row told.0 [] found read told.1,
      ap suc told.2,
      ap (λ l. row ++ l) told.3 ∙ more.2,
    )))

lacks_uncut : (nx : ℕ) (bytes : List ℕ) → cut 10 bytes ≡ None → LacksRow nx bytes
lacks_uncut nx bytes none row line rest text l =
    let found = ap (cut 10) text ∙ cut_of 10 line rest (row_lacks nx line row l) in
    absurd (cc)

lacks_unread : (nx : ℕ) (bytes line more : List ℕ) → 1 ≤ nx → cut 10 bytes ≡ Some (line, more) → row_of_line nx line ≡ None → LacksRow nx bytes
lacks_unread nx bytes line more some found none row first rest text l =
    let same = some_same (first, rest) (line, more) (sym (ap (cut 10) text ∙ cut_of 10 first rest (row_lacks nx first row l)) ∙ found) in
    let read = sym (ap (λ p. row_of_line nx p.0) same) ∙ row_line_again nx first row some l in
    absurd (cc)

-- Where rows end: a row is missing, or too much is there.
abbrev pub Ends : ℕ → ℕ → ℕ → List ℕ → Type 0
Ends nx n m rest = ((m < n) × LacksRow nx rest) ⊎ ((m ≡ n) × (rest ≢ []))

-- The rows before a line that is told are lines of the bytes, and it is the first out of form.
pub record RowsTold (n nx k : ℕ) (bytes : List ℕ) (j : ℕ) : Type 0 where
  pub rows : List (List ℕ)
  pub rest : List ℕ
  pub before : RowsBefore nx bytes rows rest
  pub number : j ≡ k + length rows
  pub ends : Ends nx n (length rows) rest

told_here : (n nx k : ℕ) (bytes : List ℕ) (j : ℕ) → j ≡ k → Ends nx n 0 bytes → RowsTold n nx k bytes j
told_here n nx k bytes j here ends = record { rows = []; rest = bytes; before = before_none nx bytes; number = omega arith; ends = ends }

ends_more : (nx n m : ℕ) (rest : List ℕ) → Ends nx n m rest → Ends nx (suc n) (suc m) rest
ends_more nx n m rest (inl h) = inl (omega arith, h.1)
ends_more nx n m rest (inr h) = inr (ap suc h.0, h.1)

cons_some : (b : ℕ) (bs : List ℕ) → b ∷ bs ≢ []
cons_some b bs e = absurd (cc)

pub rows_told : (n nx k : ℕ) (bytes : List ℕ) (j : ℕ) → 1 ≤ nx → rows_of n nx k bytes ≡ Err j → RowsTold n nx k bytes j
unfolding rows_of
rows_told zero nx k [] j some e = absurd (cc)
rows_told zero nx k (b ∷ bs) j some e =
    let here : j ≡ k = cc in
    told_here zero nx k (b ∷ bs) j here (inr (refl, cons_some b bs))
rows_told (suc n) nx k bytes j some e =
    chain_err k j (cut 10 bytes) _ e
    (λ none here. told_here (suc n) nx k bytes j here (inl (omega arith, lacks_uncut nx bytes none)))
    (λ c found e1.
    chain_err k j (row_of_line nx c.0) _ e1
    (λ none here. told_here (suc n) nx k bytes j here (inl (omega arith, lacks_unread nx bytes c.0 c.1 some found none)))
    (λ row read e2.
    let told = rows_told n nx (k + 1) c.1 j some (behind_told row j (rows_of n nx (k + 1) c.1) e2) in
    record {
      rows = row ∷ told.rows;
      rest = told.rest;
      before = before_more nx bytes c.0 c.1 row told.rows told.rest found read told.before;
      number = omega (arith, told.number);
      ends = ends_more nx n (length told.rows) told.rest told.ends;
    }))

row_read : (n nx k : ℕ) (bytes line rest row : List ℕ) → cut 10 bytes ≡ Some (line, rest) → row_of_line nx line ≡ Some row → rows_of (suc n) nx k bytes ≡ behind_all row (rows_of n nx (k + 1) rest)
unfolding rows_of
row_read n nx k bytes line rest row found read =
    ap (λ o. or_told k o (λ c. or_told k (row_of_line nx c.0) (λ row. behind_all row (rows_of n nx (k + 1) c.1)))) found
    ∙ ap (λ o. or_told k o (λ row. behind_all row (rows_of n nx (k + 1) rest))) read

behind_nothing : (read : Result (List ℕ) ℕ) → read ≡ behind_all [] read
behind_nothing (Ok xs) = refl
behind_nothing (Err k) = refl

-- The lines of rows are read as these rows, before what is read of the rest.
pub rows_again : (nx k n m : ℕ) (lines rows : List (List ℕ)) (rest : List ℕ) → 1 ≤ nx → n ≡ length rows + m → AllZip (RowLine nx) lines rows → rows_of n nx k (ended lines ++ rest) ≡ behind_all (concat rows) (rows_of m nx (k + length rows) rest)
rows_again nx k n m [] [] rest some count all =
    let same : n ≡ m = omega arith in
    let number : k ≡ k + 0 = omega arith in
    (λ i. rows_of (same i) nx (number i) rest) ∙ behind_nothing (rows_of m nx (k + 0) rest)
rows_again nx k n m [] (row ∷ rows) rest some count all = absurd all
rows_again nx k n m (line ∷ lines) [] rest some count all = absurd all
rows_again nx k n m (line ∷ lines) (row ∷ rows) rest some count all =
    let one : n ≡ suc (length rows + m) = omega arith in
    let number : k + 1 + length rows ≡ k + suc (length rows) = omega arith in
    let more = ended lines ++ rest in
    let found = ap (cut 10) (ended_more line lines rest) ∙ cut_of 10 line more (row_lacks nx line row all.0) in
    ap (λ j. rows_of j nx k (ended (line ∷ lines) ++ rest)) one
    ∙ row_read (length rows + m) nx k (ended (line ∷ lines) ++ rest) line more row found (row_line_again nx line row some all.0)
    ∙ ap (behind_all row) (rows_again nx (k + 1) (length rows + m) m lines rows rest some refl all.1)
    ∙ rows_one row (concat rows) (row ++ concat rows) _ refl
    ∙ ap (λ j. behind_all (row ++ concat rows) (rows_of m nx j rest)) number

unread_line : (n nx k : ℕ) (bytes line more : List ℕ) (r : Option (List ℕ)) → LacksRow nx bytes → cut 10 bytes ≡ Some (line, more) → row_of_line nx line ≡ r → or_told k r (λ row. behind_all row (rows_of n nx (k + 1) more)) ≡ Err k
unread_line n nx k bytes line more None lacks found read = refl
unread_line n nx k bytes line more (Some row) lacks found read =
    absurd (lacks row line more (cut_is 10 bytes line more found) (row_line_is nx line row read))

unread_bytes : (n nx k : ℕ) (bytes : List ℕ) (c : Option (List ℕ × List ℕ)) → LacksRow nx bytes → cut 10 bytes ≡ c → or_told k c (λ c. or_told k (row_of_line nx c.0) (λ row. behind_all row (rows_of n nx (k + 1) c.1))) ≡ Err k
unread_bytes n nx k bytes None lacks found = refl
unread_bytes n nx k bytes (Some c) lacks found = unread_line n nx k bytes c.0 c.1 (row_of_line nx c.0) lacks found refl

-- A row that lacks is told, and so is what stands after the last.
pub rows_lack : (n nx k : ℕ) (bytes : List ℕ) → LacksRow nx bytes → rows_of (suc n) nx k bytes ≡ Err k
unfolding rows_of
rows_lack n nx k bytes lacks = unread_bytes n nx k bytes (cut 10 bytes) lacks refl

pub rows_left : (nx k : ℕ) (bytes : List ℕ) → bytes ≢ [] → rows_of zero nx k bytes ≡ Err k
unfolding rows_of
rows_left nx k [] some = absurd (some refl)
rows_left nx k (b ∷ bs) some = refl

pub rows_done : (nx k : ℕ) → rows_of zero nx k [] ≡ Ok []
unfolding rows_of
rows_done nx k = refl
