-- Reading a number digit by digit. Assumes nothing.
use Rattle.std.proofs.Common.{◌≡◌, ℕ, zero, suc, ◌+◌, ◌-◌, ◌*◌, ◌<◌, ◌≤◌, Bool, true, false, cond, List, [], ◌∷◌, Some, None, Option, Ok, Err, Result, MatchOption, ◌++◌, length, get_or, take, sym, refl, ap, ◌∙◌, subst, arith, length-take}
use Rattle.std.proofs.Math.Dec.{leb}
use Rattle.std.specs.Prelude.{◌&&◌}
use Rattle.std.specs.Char.{IsAsciiDigit, IsDigitOf, is_ascii_digit}
use Rattle.std.specs.Cmp.Derive.{both_true}
use Rattle.std.proofs.lemmas.Bool.{leb-true, le-leb}
use Rattle.std.proofs.lemmas.Option.{cond_some}
use Rattle.std.specs.List.{AllByRecursion, list_all}
use Rattle.std.specs.Result.{OkIff, result_ok}
use Rattle.std.proofs.lemmas.List.{take_all, take_more}
use Rattle.tray.specs.Decimal.{value_after}
use Rattle.listing.specs.Numerals.{Writes}
use Rattle.listing.specs.Fields.{number_read}

-- Four digits spell a number below 10,000.
pub small_front : (bs : List ℕ) → length bs ≤ 4 → AllByRecursion IsAsciiDigit bs → value_after 0 bs < 10000
unfolding value_after
small_front [] few all = omega arith
small_front (a ∷ []) few all = omega arith
small_front (a ∷ b ∷ []) few all = omega arith
small_front (a ∷ b ∷ c ∷ []) few all = omega arith
small_front (a ∷ b ∷ c ∷ d ∷ []) few all = omega arith
small_front (a ∷ b ∷ c ∷ d ∷ e ∷ bs) few all = absurd (omega arith)

-- A digit more at the end.
pub digits_push : (bs : List ℕ) (b : ℕ) → AllByRecursion IsAsciiDigit bs → IsAsciiDigit b → AllByRecursion IsAsciiDigit (bs ++ (b ∷ []))
digits_push [] b all one = (one, tt)
digits_push (c ∷ bs) b all one = (all.0, digits_push bs b all.1 one)

pub value_push : (n : ℕ) (bs : List ℕ) (b : ℕ) → value_after n (bs ++ (b ∷ [])) ≡ 10 * value_after n bs + (b - 48)
unfolding value_after
value_push n [] b = refl
value_push n (c ∷ bs) b = value_push (10 * n + (c - 48)) bs b

-- The front of what is read: its bytes are digits, and they spell the number so far.
pub record Front (bs : List ℕ) (i n : ℕ) : Type 0 where
  pub digits : AllByRecursion IsAsciiDigit (take i bs)
  pub value : n ≡ value_after 0 (take i bs)

-- Nothing is read yet.
pub front_none : (bs : List ℕ) → Front bs 0 0
unfolding value_after
front_none bs = record { digits = tt; value = refl }

-- A decimal digit of a byte is what it is past 48.
digit_is : (b d : ℕ) → d < 10 → IsDigitOf b d → IsAsciiDigit b × (d ≡ b - 48)
digit_is b d small is = grind arith

-- One digit more is read.
pub front_more : (bs : List ℕ) (i n d : ℕ) → i < length bs → d < 10 → IsDigitOf (get_or bs i 0) d → Front bs i n → Front bs (i + 1) (10 * n + d)
front_more bs i n d within small is front =
    let b = get_or bs i 0 in
    let more = take_more bs i 0 within in
    let digit = digit_is b d small is in
    record {
      digits = subst (AllByRecursion IsAsciiDigit) (sym more) (digits_push (take i bs) b front.digits digit.0);
      value = omega (arith, ap (value_after 0) more, value_push 0 (take i bs) b, front.value, digit.1);
    }

-- The number so far has room for one digit more.
pub front_small : (bs : List ℕ) (i n : ℕ) → i < length bs → length bs ≤ 5 → Front bs i n → n < 10000
front_small bs i n within few front = omega (arith, small_front (take i bs) (omega (arith, length-take i bs)) front.digits, front.value)

-- Each byte of digits is one.
pub digit_at : (bs : List ℕ) (i : ℕ) → i < length bs → AllByRecursion IsAsciiDigit bs → IsAsciiDigit (get_or bs i 0)
digit_at [] i within all = absurd (omega arith)
digit_at (b ∷ bs) zero within all = all.0
digit_at (b ∷ bs) (suc i) within all = digit_at bs i (omega arith) all.1

-- Once all is read, the bytes write the number, if it is small enough.
pub front_all : {E : Type 0} (bs : List ℕ) (n : ℕ) (r : Result ℕ E) → 1 ≤ length bs → length bs ≤ 5 → Front bs (length bs) n → OkIff r (n < 65536) n → MatchOption (result_ok r) ((m : ℕ) → Writes bs m → ⊥) (Writes bs)
front_all bs n (Ok m) some few front told =
    let all = take_all (length bs) bs (omega arith) in
    record {
      some = some;
      few = few;
      digits = subst (AllByRecursion IsAsciiDigit) all front.digits;
      value = sym (ap (value_after 0) all) ∙ sym front.value ∙ sym told.1;
      small = omega arith;
    }
front_all bs n (Err e) some few front large = λ m writes.
    let all = take_all (length bs) bs (omega arith) in
    large (omega (arith, front.value, ap (value_after 0) all, writes.value, writes.small))

pub both : (a b : Bool) → (a && b) ≡ true → (a ≡ true) × (b ≡ true)
both true b h = (refl, h)
both false b h = absurd (cc)

digit_tested : (b : ℕ) → is_ascii_digit b ≡ true → IsAsciiDigit b
digit_tested b h = let t = both (leb 48 b) (leb b 57) h in (leb-true 48 b t.0, leb-true b 57 t.1)

digits_tested : (bs : List ℕ) → list_all is_ascii_digit bs ≡ true → AllByRecursion IsAsciiDigit bs
digits_tested [] h = tt
digits_tested (b ∷ bs) h = let t = both (is_ascii_digit b) (list_all is_ascii_digit bs) h in (digit_tested b t.0, digits_tested bs t.1)

digits_pass : (bs : List ℕ) → AllByRecursion IsAsciiDigit bs → list_all is_ascii_digit bs ≡ true
digits_pass [] all = refl
digits_pass (b ∷ bs) all = both_true (both_true (le-leb 48 b all.0.0) (le-leb b 57 all.0.1)) (digits_pass bs all.1)

-- Bytes are read as the number that they write,
pub number_of_written : (bs : List ℕ) (n : ℕ) → Writes bs n → number_read bs ≡ Some n
unfolding number_read
number_of_written bs n w =
    let small : value_after 0 bs ≤ 65535 = omega (arith, w.value, w.small) in
    let pass = both_true (le-leb 1 (length bs) w.some) (both_true (le-leb (length bs) 5 w.few) (both_true (digits_pass bs w.digits) (le-leb (value_after 0 bs) 65535 small))) in
    ap (λ b. cond b (Some (value_after 0 bs)) None) pass ∙ ap Some w.value

-- and as no other.
pub written_number_of : (bs : List ℕ) (n : ℕ) → number_read bs ≡ Some n → Writes bs n
unfolding number_read
written_number_of bs n e =
    let told = cond_some _ (value_after 0 bs) n e in
    let one = both (leb 1 (length bs)) _ told.0 in
    let two = both (leb (length bs) 5) _ one.1 in
    let three = both (list_all is_ascii_digit bs) _ two.1 in
    record {
      some = leb-true 1 (length bs) one.0;
      few = leb-true (length bs) 5 two.0;
      digits = digits_tested bs three.0;
      value = told.1;
      small = omega (arith, told.1, leb-true (value_after 0 bs) 65535 three.1);
    }

unwritten : (bs : List ℕ) (r : Option ℕ) → number_read bs ≡ r → ((n : ℕ) → Writes bs n → ⊥) → number_read bs ≡ None
unwritten bs None e none = e
unwritten bs (Some n) e none = absurd (none n (written_number_of bs n e))

-- What is told of bytes is the number that they are read as.
pub number_told : (bs : List ℕ) (r : Option ℕ) → MatchOption r ((n : ℕ) → Writes bs n → ⊥) (Writes bs) → number_read bs ≡ r
number_told bs None none = unwritten bs (number_read bs) refl none
number_told bs (Some n) writes = number_of_written bs n writes
