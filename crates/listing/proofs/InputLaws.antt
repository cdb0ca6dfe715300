-- What an input is read as is what it is, and the line that is told is the first out of form. Assumes nothing.
use Rattle.std.proofs.Common.{◌≡◌, ◌⊎◌, ℕ, zero, suc, ◌+◌, ◌-◌, ◌*◌, ◌≤◌, List, [], ◌∷◌, ◌++◌, length, Some, None, Option, Ok, Err, Result, MatchResult, inl, inr, sym, refl, ap, ◌∙◌, subst, arith}
use Rattle.std.proofs.lemmas.List.{append-nil}
use Rattle.std.specs.List.{concat}
use Rattle.listing.specs.declared.header.Header.{Header}
use Rattle.listing.specs.declared.unread.Unread.{Unread}
use Rattle.listing.specs.declared.unread.Unread.TheVariants.{TooLong, Line, Memory}
use Rattle.listing.specs.Cutting.{cut}
use Rattle.listing.specs.Inputs.{Accepted, Begun, FirstOut, HeaderLine, LacksHeader, Listed, OneAnswer, Out, OutAfter, Refused, ended}
use Rattle.listing.specs.Lines.{LineTold, behind_all, header_of_line, input_of, or_told, rows_of, with_header}
use Rattle.listing.proofs.CutLaws.{cut_is, cut_of, some_same}
use Rattle.listing.proofs.LineLaws.{header_lacks, header_line_again, header_line_is}
use Rattle.listing.proofs.RowLaws.{RowsBefore, RowsTold, chain_err, chain_ok, ended_more, rows_again, rows_done, rows_found, rows_lack, rows_left, rows_told}

begun : (bytes first more rest : List ℕ) (header : Header) (rows : List (List ℕ)) → cut 10 bytes ≡ Some (first, more) → HeaderLine first header → RowsBefore header.nx more rows rest → Begun bytes header rows rest
begun bytes first more rest header rows found line before = record {
  first = first;
  lines = before.lines;
  text = cut_is 10 bytes first more found ∙ ap (λ l. first ++ (10 ∷ l)) before.text ∙ sym (ended_more first before.lines rest);
  header_line = line;
  row_lines = before.row_lines;
}

ok_same : (p q : Header × List ℕ) → ◌≡◌ {A = Result (Header × List ℕ) ℕ} (Ok p) (Ok q) → p ≡ q
ok_same p q e = cc

header_ok : (header : Header) (x : Header × List ℕ) (read : Result (List ℕ) ℕ) → with_header header read ≡ Ok x → (readings : List ℕ) × (read ≡ Ok readings) × (header ≡ x.0) × (readings ≡ x.1)
header_ok header x (Ok readings) e =
    let same = ok_same (header, readings) x e in
    (readings, refl, ap (λ p. p.0) same, ap (λ p. p.1) same)
header_ok header x (Err k) e = absurd (cc)

header_told : (header : Header) (j : ℕ) (read : Result (List ℕ) ℕ) → with_header header read ≡ Err j → read ≡ Err j
header_told header j (Ok readings) e = absurd (cc)
header_told header j (Err k) e = cc

-- What is read is listed.
pub input_found : (bytes : List ℕ) (x : Header × List ℕ) → input_of bytes ≡ Ok x → Listed bytes x.0 x.1
unfolding input_of
input_found bytes x e =
    chain_ok 1 (cut 10 bytes) _ x e (λ c found e1.
    chain_ok 1 (header_of_line c.0) _ x e1 (λ header read e2.
    let told = header_ok header x (rows_of (header.ny * header.nz) header.nx 2 c.1) e2 in
    let rows = rows_found (header.ny * header.nz) header.nx 2 c.1 told.0 told.1 in
    let listed : Listed bytes header told.0 = record {
      rows = rows.0;
      begun = begun bytes c.0 c.1 [] header rows.0 found (header_line_is c.0 header read) rows.1;
      count = rows.2;
      all = rows.3;
    } in
    let P : Header × List ℕ → Type 0 = λ p. Listed bytes p.0 p.1 in
    subst P (λ i. (told.2 i, told.3 i)) listed))

lacks_uncut : (bytes : List ℕ) → cut 10 bytes ≡ None → LacksHeader bytes
lacks_uncut bytes none header line rest text l =
    let found = ap (cut 10) text ∙ cut_of 10 line rest (header_lacks line header l) in
    absurd (cc)

lacks_unread : (bytes line more : List ℕ) → cut 10 bytes ≡ Some (line, more) → header_of_line line ≡ None → LacksHeader bytes
lacks_unread bytes line more found none header first rest text l =
    let same = some_same (first, rest) (line, more) (sym (ap (cut 10) text ∙ cut_of 10 first rest (header_lacks first header l)) ∙ found) in
    let read = sym (ap (λ p. header_of_line p.0) same) ∙ header_line_again first header l in
    absurd (cc)

out_first : (bytes : List ℕ) (j : ℕ) → j ≡ 1 → LacksHeader bytes → FirstOut bytes j
out_first bytes j one lacks = subst (FirstOut bytes) (sym one) lacks

out_after : (bytes first more : List ℕ) (header : Header) (j : ℕ) → cut 10 bytes ≡ Some (first, more) → HeaderLine first header → RowsTold (header.ny * header.nz) header.nx 2 more j → FirstOut bytes j
out_after bytes first more header j found line told =
    let number : j ≡ suc (suc (length told.rows)) = omega (arith, told.number) in
    let after : OutAfter bytes (length told.rows) = record {
      header = header;
      rows = told.rows;
      rest = told.rest;
      begun = begun bytes first more told.rest header told.rows found line told.before;
      count = refl;
      out = told.ends;
    } in
    subst (FirstOut bytes) (sym number) after

-- What is told is the first line out of form.
pub input_told : (bytes : List ℕ) (j : ℕ) → input_of bytes ≡ Err j → FirstOut bytes j
unfolding input_of
input_told bytes j e =
    chain_err 1 j (cut 10 bytes) _ e
    (λ none here. out_first bytes j here (lacks_uncut bytes none))
    (λ c found e1.
    chain_err 1 j (header_of_line c.0) _ e1
    (λ none here. out_first bytes j here (lacks_unread bytes c.0 c.1 found none))
    (λ header read e2.
    let line = header_line_is c.0 header read in
    out_after bytes c.0 c.1 header j found line (rows_told (header.ny * header.nz) header.nx 2 c.1 j line.writes_nx.low (header_told header j _ e2))))

-- A header line that is cut off and read comes before the rows.
pub input_rows : (bytes line more : List ℕ) (header : Header) → cut 10 bytes ≡ Some (line, more) → header_of_line line ≡ Some header → input_of bytes ≡ with_header header (rows_of (header.ny * header.nz) header.nx 2 more)
unfolding input_of
input_rows bytes line more header found read =
    let Rest : Header → List ℕ → Result (Header × List ℕ) ℕ = λ g bs. with_header g (rows_of (g.ny * g.nz) g.nx 2 bs) in
    ap (λ o. or_told 1 o (λ c. or_told 1 (header_of_line c.0) (λ g. Rest g c.1))) found
    ∙ ap (λ o. or_told 1 o (λ g. Rest g more)) read

-- What is told of the rows is told of the input.
pub rows_untold : (header : Header) (rows : Result (List ℕ) ℕ) (whole : Result (Header × List ℕ) ℕ) (u : Unread) → whole ≡ with_header header rows → LineTold rows u → LineTold whole u
rows_untold header rows whole TooLong e told = absurd told
rows_untold header rows whole (Line k) e told = e ∙ ap (with_header header) told
rows_untold header rows whole Memory e told = ((header, told.0), e ∙ ap (with_header header) told.1)

-- What begins with a header line and rows is read so.
begun_again : (bytes : List ℕ) (header : Header) (rows : List (List ℕ)) (rest : List ℕ) (m : ℕ) → Begun bytes header rows rest → header.ny * header.nz ≡ length rows + m → input_of bytes ≡ with_header header (behind_all (concat rows) (rows_of m header.nx (2 + length rows) rest))
begun_again bytes header rows rest m b count =
    let more = ended b.lines ++ rest in
    let found = ap (cut 10) (b.text ∙ ended_more b.first b.lines rest) ∙ cut_of 10 b.first more (header_lacks b.first header b.header_line) in
    input_rows bytes b.first more header found (header_line_again b.first header b.header_line)
    ∙ ap (with_header header) (rows_again header.nx 2 (header.ny * header.nz) m b.lines rows rest b.header_line.writes_nx.low count b.row_lines)

-- What is listed is read.
pub listed_again : (bytes : List ℕ) (header : Header) (readings : List ℕ) → Listed bytes header readings → input_of bytes ≡ Ok (header, readings)
listed_again bytes header readings l =
    begun_again bytes header l.rows [] 0 l.begun (omega (arith, l.count))
    ∙ ap (λ r. with_header header (behind_all (concat l.rows) r)) (rows_done header.nx (2 + length l.rows))
    ∙ ap (λ xs. Ok (header, xs)) (append-nil (concat l.rows) ∙ l.all)

lacks_line : (bytes line more : List ℕ) (r : Option Header) → LacksHeader bytes → cut 10 bytes ≡ Some (line, more) → header_of_line line ≡ r → or_told 1 r (λ g. with_header g (rows_of (g.ny * g.nz) g.nx 2 more)) ≡ Err 1
lacks_line bytes line more None lacks found read = refl
lacks_line bytes line more (Some header) lacks found read =
    absurd (lacks header line more (cut_is 10 bytes line more found) (header_line_is line header read))

lacks_bytes : (bytes : List ℕ) (c : Option (List ℕ × List ℕ)) → LacksHeader bytes → cut 10 bytes ≡ c → or_told 1 c (λ c. or_told 1 (header_of_line c.0) (λ g. with_header g (rows_of (g.ny * g.nz) g.nx 2 c.1))) ≡ Err 1
lacks_bytes bytes None lacks found = refl
lacks_bytes bytes (Some c) lacks found = lacks_line bytes c.0 c.1 (header_of_line c.0) lacks found refl

out_again : (header : Header) (rows : List (List ℕ)) (rest bytes : List ℕ) (n : ℕ) → length rows ≡ n → Begun bytes header rows rest → Out header n rest → input_of bytes ≡ Err (suc (suc n))
out_again header rows rest bytes n count b (inl h) =
    let m = header.ny * header.nz - (n + 1) in
    let left : header.ny * header.nz ≡ length rows + suc m = omega (arith, h.0) in
    let number : 2 + length rows ≡ suc (suc n) = omega arith in
    begun_again bytes header rows rest (suc m) b left
    ∙ ap (λ r. with_header header (behind_all (concat rows) r)) (rows_lack m header.nx (2 + length rows) rest h.1)
    ∙ ap Err number
out_again header rows rest bytes n count b (inr h) =
    let left : header.ny * header.nz ≡ length rows + 0 = omega (arith, h.0) in
    let number : 2 + length rows ≡ suc (suc n) = omega arith in
    begun_again bytes header rows rest 0 b left
    ∙ ap (λ r. with_header header (behind_all (concat rows) r)) (rows_left header.nx (2 + length rows) rest h.1)
    ∙ ap Err number

-- The first line out of form is told.
pub told_again : (bytes : List ℕ) (k : ℕ) → FirstOut bytes k → input_of bytes ≡ Err k
unfolding input_of
told_again bytes zero out = absurd out
told_again bytes (suc zero) out = lacks_bytes bytes (cut 10 bytes) out refl
told_again bytes (suc (suc n)) out = out_again out.header out.rows out.rest bytes n out.count out.begun out.out

some_answer : (bytes : List ℕ) (r : Result (Header × List ℕ) ℕ) → input_of bytes ≡ r → ((header : Header) × (readings : List ℕ) × Listed bytes header readings) ⊎ ((k : ℕ) × FirstOut bytes k)
some_answer bytes (Ok x) e = inl (x.0, x.1, input_found bytes x e)
some_answer bytes (Err k) e = inr (k, input_told bytes k e)

both_answers : (bytes : List ℕ) (x : Header × List ℕ) (k : ℕ) → input_of bytes ≡ Ok x → input_of bytes ≡ Err k → ⊥
both_answers bytes x k a b = absurd (cc)

err_same : (r : Result (Header × List ℕ) ℕ) (j k : ℕ) → r ≡ Err j → r ≡ Err k → j ≡ k
err_same r j k a b = cc

pub one_answer : (bytes : List ℕ) → OneAnswer bytes
one_answer bytes = record {
  some = some_answer bytes (input_of bytes) refl;
  apart = λ header readings k l out. both_answers bytes (header, readings) k (listed_again bytes header readings l) (told_again bytes k out);
  one_input = λ g h xs ys a b.
      let same = ok_same (g, xs) (h, ys) (sym (listed_again bytes g xs a) ∙ listed_again bytes h ys b) in
      (ap (λ p. p.0) same, ap (λ p. p.1) same);
  one_line = λ j k a b. err_same (input_of bytes) j k (told_again bytes j a) (told_again bytes k b);
}

-- What the reader tells, the contract tells.
pub read_told : {X : Type 0} (header : X → Header) (readings : X → List ℕ) (bytes : List ℕ) (r : Result X Unread) → length bytes ≤ 32768 → MatchResult r (λ x. input_of bytes ≡ Ok (header x, readings x)) (LineTold (input_of bytes)) → MatchResult r (λ x. Accepted bytes (header x) (readings x)) (Refused bytes)
read_told header readings bytes (Ok x) short e = (short, input_found bytes (header x, readings x) e)
read_told header readings bytes (Err TooLong) short e = absurd e
read_told header readings bytes (Err (Line k)) short e = (short, input_told bytes k e)
read_told header readings bytes (Err Memory) short e = (e.0.0, e.0.1, (short, input_found bytes e.0 e.1))
