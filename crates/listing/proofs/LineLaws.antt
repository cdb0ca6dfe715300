-- What the two kinds of line are read as. Assumes nothing.
use Rattle.std.proofs.Common.{◌≡◌, ◌≢◌, ℕ, zero, suc, ◌<◌, ◌≤◌, Bool, true, false, eqb, List, [], ◌∷◌, ◌++◌, length, Some, None, Option, cond, sym, refl, ap, ◌∙◌, subst, arith, lit<}
use Rattle.std.specs.Char.{IsAsciiDigit}
use Rattle.std.specs.List.{AllByRecursion, AllZip, join_with_byte}
use Rattle.std.proofs.lemmas.Bool.{eqb-true}
use Rattle.std.proofs.lemmas.Option.{option_and_then_some}
use Rattle.listing.specs.declared.header.Header.{Header}
use Rattle.drawing.specs.declared.letter.Letter.{Letter}
use Rattle.drawing.specs.declared.letter.Letter.TheVariants.{H, L}
use Rattle.listing.specs.Cutting.{HasNone, pieces}
use Rattle.listing.specs.Inputs.{HeaderLine, RowLine, letter_byte, line_of}
use Rattle.listing.specs.Numerals.{Writes}
use Rattle.listing.specs.Fields.{◌>>=◌, header_of, letter_field, number_field, row_of, side_field, with_none}
use Rattle.listing.specs.Lines.{header_named, header_of_line, header_rest, row_named, row_of_line, row_rest}
use Rattle.listing.proofs.CutLaws.{joined, pieces_joined, some_same}
use Rattle.listing.proofs.FieldLaws.{bound, letter_again, letter_taken, none_left, number_again, number_taken, side_again, side_taken}

-- Bytes of digits have no lower mark in them.
digits_lack : (mark : ℕ) (bs : List ℕ) → mark < 48 → AllByRecursion IsAsciiDigit bs → HasNone mark bs
digits_lack mark [] low all = tt
digits_lack mark (b ∷ bs) low all = (omega arith, digits_lack mark bs low all.1)

letter_lacks : (mark : ℕ) (l : Letter) → mark < 48 → HasNone mark (letter_byte l ∷ [])
letter_lacks mark H low = (omega arith, tt)
letter_lacks mark L low = (omega arith, tt)

fields_lack : (mark : ℕ) (fs : List (List ℕ)) (row : List ℕ) → mark < 48 → AllZip Writes fs row → AllByRecursion (HasNone mark) fs
fields_lack mark [] [] low all = tt
fields_lack mark [] (x ∷ row) low all = absurd all
fields_lack mark (f ∷ fs) [] low all = absurd all
fields_lack mark (f ∷ fs) (x ∷ row) low all = (digits_lack mark f low all.0.digits, fields_lack mark fs row low all.1)

lacks_append : (mark : ℕ) (p q : List ℕ) → HasNone mark p → HasNone mark q → HasNone mark (p ++ q)
lacks_append mark [] q lp lq = lq
lacks_append mark (b ∷ p) q lp lq = (lp.0, lacks_append mark p q lp.1 lq)

-- Nor have fields that another mark parts.
joined_lack : (mark comma : ℕ) (fs : List (List ℕ)) → comma ≢ mark → AllByRecursion (HasNone mark) fs → HasNone mark (join_with_byte comma fs)
joined_lack mark comma [] other all = tt
joined_lack mark comma (f ∷ []) other all = all.0
joined_lack mark comma (f ∷ g ∷ fs) other all = lacks_append mark f (comma ∷ join_with_byte comma (g ∷ fs)) all.0 (other, joined_lack mark comma (g ∷ fs) other all.1)

header_fields_lack : (mark : ℕ) (line : List ℕ) (header : Header) → mark < 48 → (l : HeaderLine line header) → AllByRecursion (HasNone mark) (l.nx ∷ l.ny ∷ l.nz ∷ l.threshold ∷ (letter_byte header.asked.test.letter ∷ []) ∷ l.s ∷ l.h ∷ [])
header_fields_lack mark line header low l =
    (digits_lack mark l.nx low l.writes_nx.number.digits, (digits_lack mark l.ny low l.writes_ny.number.digits, (digits_lack mark l.nz low l.writes_nz.number.digits, (digits_lack mark l.threshold low l.writes_threshold.digits, (letter_lacks mark header.asked.test.letter low, (digits_lack mark l.s low l.writes_s.digits, (digits_lack mark l.h low l.writes_h.digits, tt)))))))

-- No line has a line feed in it.
pub header_lacks : (line : List ℕ) (header : Header) → HeaderLine line header → HasNone 10 line
header_lacks line header l =
    subst (HasNone 10) (sym l.text) (omega arith, (omega arith, joined_lack 10 44 (l.nx ∷ l.ny ∷ l.nz ∷ l.threshold ∷ (letter_byte header.asked.test.letter ∷ []) ∷ l.s ∷ l.h ∷ []) (omega arith) (header_fields_lack 10 line header (lit< tt) l)))

pub row_lacks : (nx : ℕ) (line row : List ℕ) → RowLine nx line row → HasNone 10 line
row_lacks nx line row l =
    subst (HasNone 10) (sym l.text) (omega arith, (omega arith, joined_lack 10 44 l.fields (omega arith) (fields_lack 10 l.fields row (lit< tt) l.writes)))

tested : {A : Type 0} (b : Bool) (x : Option A) (y : A) → cond b x None ≡ Some y → (b ≡ true) × (x ≡ Some y)
tested true x y e = (refl, e)
tested false x y e = absurd (cc)

-- A line is told by its letter and comma.
header_rest_is : (bs rest : List ℕ) → header_rest bs ≡ Some rest → bs ≡ 83 ∷ 44 ∷ rest
header_rest_is [] rest e = absurd (cc)
header_rest_is (b ∷ []) rest e = absurd (cc)
header_rest_is (b ∷ c ∷ bs) rest e =
    let comma = tested (eqb c 44) (header_named b bs) rest e in
    let letter = tested (eqb b 83) (Some bs) rest comma.1 in
    λ i. eqb-true b 83 letter.0 i ∷ eqb-true c 44 comma.0 i ∷ some_same bs rest letter.1 i

row_rest_is : (bs rest : List ℕ) → row_rest bs ≡ Some rest → bs ≡ 86 ∷ 44 ∷ rest
row_rest_is [] rest e = absurd (cc)
row_rest_is (b ∷ []) rest e = absurd (cc)
row_rest_is (b ∷ c ∷ bs) rest e =
    let comma = tested (eqb c 44) (row_named b bs) rest e in
    let letter = tested (eqb b 86) (Some bs) rest comma.1 in
    λ i. eqb-true b 86 letter.0 i ∷ eqb-true c 44 comma.0 i ∷ some_same bs rest letter.1 i

-- A step of a chain of readings that gives something.
follows : {A B : Type 0} (o : Option A) (x : A) (f : A → Option B) (r : Option B) → o ≡ Some x → f x ≡ r → (o >>= f) ≡ r
follows o x f r e step = ap (λ o. o >>= f) e ∙ step

row_made : (n x : ℕ) (f : List ℕ) (fs more : List (List ℕ)) (xs row : List ℕ) → fs ≡ f ∷ more → Writes f x → x ∷ xs ≡ row → AllZip Writes more xs × (length xs ≡ n) → AllZip Writes fs row × (length row ≡ suc n)
row_made n x f fs more xs row cut writes same told =
    let Fields : List (List ℕ) → Type 0 = λ gs. AllZip Writes gs (x ∷ xs) × (length (x ∷ xs) ≡ suc n) in
    let Row : List ℕ → Type 0 = λ r. AllZip Writes fs r × (length r ≡ suc n) in
    subst Row same (subst Fields (sym cut) ((writes, told.0), ap suc told.1))

-- The readings of fields are those that they write.
row_of_is : (n : ℕ) (fs : List (List ℕ)) (row : List ℕ) → row_of n fs ≡ Some row → AllZip Writes fs row × (length row ≡ n)
row_of_is zero [] [] e = (tt, refl)
row_of_is zero [] (x ∷ row) e = absurd (cc)
row_of_is zero (f ∷ fs) row e = absurd (cc)
row_of_is (suc n) fs row e =
    option_and_then_some (λ x. row_of n x.1 >>= (λ xs. Some (x.0 ∷ xs))) (number_field fs) row e (λ x first more.
    option_and_then_some (λ xs. Some (x.0 ∷ xs)) (row_of n x.1) row more (λ xs rest all.
    let taken = number_taken fs x.1 x.0 first in
    row_made n x.0 taken.0 fs x.1 xs row taken.1 taken.2 (some_same (x.0 ∷ xs) row all) (row_of_is n x.1 xs rest)))

row_of_again : (fs : List (List ℕ)) (row : List ℕ) → AllZip Writes fs row → row_of (length row) fs ≡ Some row
row_of_again [] [] all = refl
row_of_again [] (x ∷ row) all = absurd all
row_of_again (f ∷ fs) [] all = absurd all
row_of_again (f ∷ fs) (x ∷ row) all =
    follows (number_field (f ∷ fs)) (x, fs) (λ x. row_of (length row) x.1 >>= (λ xs. Some (x.0 ∷ xs))) (Some (x ∷ row)) (number_again f fs x all.0)
    (follows (row_of (length row) fs) row (λ xs. Some (x ∷ xs)) (Some (x ∷ row)) (row_of_again fs row all.1) refl)

-- What a row line is read as,
pub row_line_is : (nx : ℕ) (line row : List ℕ) → row_of_line nx line ≡ Some row → RowLine nx line row
unfolding row_of_line
row_line_is nx line row e =
    let told = bound (row_rest line) (λ rest. row_of nx (pieces 44 rest)) row e in
    let read = row_of_is nx (pieces 44 told.0) row told.2 in
    record {
      fields = pieces 44 told.0;
      text = row_rest_is line told.0 told.1 ∙ ap (λ l. 86 ∷ 44 ∷ l) (sym (joined 44 told.0));
      writes = read.0;
      count = read.1;
    }

some_field : (nx : ℕ) (fs : List (List ℕ)) (row : List ℕ) → 1 ≤ nx → length row ≡ nx → AllZip Writes fs row → pieces 44 (join_with_byte 44 fs) ≡ fs
some_field nx [] [] some count all = absurd (omega arith)
some_field nx [] (x ∷ row) some count all = absurd all
some_field nx (f ∷ fs) row some count all = pieces_joined 44 f fs (fields_lack 44 (f ∷ fs) row (lit< tt) all)

-- and that no other line is.
pub row_line_again : (nx : ℕ) (line row : List ℕ) → 1 ≤ nx → RowLine nx line row → row_of_line nx line ≡ Some row
unfolding row_of_line
row_line_again nx line row some l =
    ap (λ bs. row_rest bs >>= (λ rest. row_of nx (pieces 44 rest))) l.text
    ∙ ap (row_of nx) (some_field nx l.fields row some l.count l.writes)
    ∙ ap (λ n. row_of n l.fields) (sym l.count)
    ∙ row_of_again l.fields row l.writes

-- Seven fields that are read write a header.
header_made : (line : List ℕ) (fs : List (List ℕ)) (header : Header) (a b c d f g : ℕ × List (List ℕ)) (l : Letter × List (List ℕ)) → line ≡ line_of 83 fs → side_field fs ≡ Some a → side_field a.1 ≡ Some b → side_field b.1 ≡ Some c → number_field c.1 ≡ Some d → letter_field d.1 ≡ Some l → number_field l.1 ≡ Some f → number_field f.1 ≡ Some g → with_none (record { nx = a.0; ny = b.0; nz = c.0; asked = record { test = record { threshold = d.0; letter = l.0 }; s = f.0; h = g.0 } }) g.1 ≡ Some header → HeaderLine line header
header_made line fs header a b c d f g l text ea eb ec ed el ef eg all =
    let nx = side_taken fs a.1 a.0 ea in
    let ny = side_taken a.1 b.1 b.0 eb in
    let nz = side_taken b.1 c.1 c.0 ec in
    let threshold = number_taken c.1 d.1 d.0 ed in
    let letter = letter_taken d.1 l.1 l.0 el in
    let s = number_taken l.1 f.1 f.0 ef in
    let h = number_taken f.1 g.1 g.0 eg in
    let read : Header = record { nx = a.0; ny = b.0; nz = c.0; asked = record { test = record { threshold = d.0; letter = l.0 }; s = f.0; h = g.0 } } in
    let none = none_left read header g.1 all in
    let last = s.1 ∙ ap (λ r. s.0 ∷ r) (h.1 ∙ ap (λ r. h.0 ∷ r) none.0) in
    let middle = threshold.1 ∙ ap (λ r. threshold.0 ∷ r) (letter ∙ ap (λ r. (letter_byte l.0 ∷ []) ∷ r) last) in
    let fields = nx.1 ∙ ap (λ r. nx.0 ∷ r) (ny.1 ∙ ap (λ r. ny.0 ∷ r) (nz.1 ∙ ap (λ r. nz.0 ∷ r) middle)) in
    let made : HeaderLine line read = record {
      nx = nx.0;
      ny = ny.0;
      nz = nz.0;
      threshold = threshold.0;
      s = s.0;
      h = h.0;
      text = text ∙ ap (line_of 83) fields;
      writes_nx = nx.2;
      writes_ny = ny.2;
      writes_nz = nz.2;
      writes_threshold = threshold.2;
      writes_s = s.2;
      writes_h = h.2;
    } in
    subst (HeaderLine line) none.1 made

header_of_is : (line : List ℕ) (fs : List (List ℕ)) (header : Header) → line ≡ line_of 83 fs → header_of fs ≡ Some header → HeaderLine line header
unfolding header_of
header_of_is line fs header text e =
    option_and_then_some _ (side_field fs) header e (λ a ea ra.
    option_and_then_some _ (side_field a.1) header ra (λ b eb rb.
    option_and_then_some _ (side_field b.1) header rb (λ c ec rc.
    option_and_then_some _ (number_field c.1) header rc (λ d ed rd.
    option_and_then_some _ (letter_field d.1) header rd (λ l el rl.
    option_and_then_some _ (number_field l.1) header rl (λ f ef rf.
    option_and_then_some _ (number_field f.1) header rf (λ g eg rg.
    header_made line fs header a b c d f g l text ea eb ec ed el ef eg rg)))))))

-- What a header line is read as,
pub header_line_is : (line : List ℕ) (header : Header) → header_of_line line ≡ Some header → HeaderLine line header
unfolding header_of_line
header_line_is line header e =
    let told = bound (header_rest line) (λ rest. header_of (pieces 44 rest)) header e in
    header_of_is line (pieces 44 told.0) header (header_rest_is line told.0 told.1 ∙ ap (λ l. 83 ∷ 44 ∷ l) (sym (joined 44 told.0))) told.2

header_of_again : (line : List ℕ) (header : Header) → (l : HeaderLine line header) → header_of (l.nx ∷ l.ny ∷ l.nz ∷ l.threshold ∷ (letter_byte header.asked.test.letter ∷ []) ∷ l.s ∷ l.h ∷ []) ≡ Some header
unfolding header_of
header_of_again line header l =
    follows (side_field (l.nx ∷ l.ny ∷ l.nz ∷ l.threshold ∷ (letter_byte header.asked.test.letter ∷ []) ∷ l.s ∷ l.h ∷ [])) _ _ (Some header) (side_again l.nx _ header.nx l.writes_nx)
    (follows (side_field (l.ny ∷ l.nz ∷ l.threshold ∷ (letter_byte header.asked.test.letter ∷ []) ∷ l.s ∷ l.h ∷ [])) _ _ (Some header) (side_again l.ny _ header.ny l.writes_ny)
    (follows (side_field (l.nz ∷ l.threshold ∷ (letter_byte header.asked.test.letter ∷ []) ∷ l.s ∷ l.h ∷ [])) _ _ (Some header) (side_again l.nz _ header.nz l.writes_nz)
    (follows (number_field (l.threshold ∷ (letter_byte header.asked.test.letter ∷ []) ∷ l.s ∷ l.h ∷ [])) _ _ (Some header) (number_again l.threshold _ header.asked.test.threshold l.writes_threshold)
    (follows (letter_field ((letter_byte header.asked.test.letter ∷ []) ∷ l.s ∷ l.h ∷ [])) _ _ (Some header) (letter_again (l.s ∷ l.h ∷ []) header.asked.test.letter)
    (follows (number_field (l.s ∷ l.h ∷ [])) _ _ (Some header) (number_again l.s _ header.asked.s l.writes_s)
    (follows (number_field (l.h ∷ [])) _ _ (Some header) (number_again l.h [] header.asked.h l.writes_h) refl))))))

-- and that no other line is.
pub header_line_again : (line : List ℕ) (header : Header) → HeaderLine line header → header_of_line line ≡ Some header
unfolding header_of_line
header_line_again line header l =
    ap (λ bs. header_rest bs >>= (λ rest. header_of (pieces 44 rest))) l.text
    ∙ ap header_of (pieces_joined 44 l.nx _ (header_fields_lack 44 line header (lit< tt) l))
    ∙ header_of_again line header l
