-- The output of an input, and of bytes that are none. Assumes nothing.
use Rattle.std.proofs.Common.{◌≡◌, ℕ, zero, suc, ◌<◌, ◌≤◌, inl, inr, List, None, Some, cond, ltb, refl, sym, ap, ◌∙◌, subst, arith}
use Rattle.std.proofs.lemmas.Nat.{mul-le}
use Rattle.std.proofs.lemmas.Option.{cond_some}
use Rattle.std.proofs.lemmas.Bool.{lt-ltb}
use Rattle.listing.specs.ClosingLines.{refusal_text}
use Rattle.listing.specs.Inputs.{Accepted, FirstOut, OneAnswer, Out, Refused}
use Rattle.listing.specs.Listings.{InputLists, Listing, ScanLists}
use Rattle.listing.specs.Refusals.{unread_line}
use Rattle.listing.specs.declared.header.Header.{Header}
use Rattle.listing.specs.declared.outcome.Outcome.{Outcome}
use Rattle.listing.specs.declared.outcome.Outcome.TheVariants as outcome
use Rattle.listing.specs.declared.unread.Unread.{Unread}
use Rattle.listing.specs.declared.unread.Unread.TheVariants.{TooLong, Line, Memory}

module _ (bytes out : List ℕ) (one : OneAnswer bytes) where
  -- An input has the output of its header and readings.
  pub of_input : (how : Outcome) → InputLists bytes out how → Listing bytes out how
  of_input how i = record {
    too_long = λ long. absurd (omega (arith, i.accepted.0));
    out_of_form = λ short k first. absurd (one.apart i.header i.readings k i.accepted.1 first);
    listed = λ short other others l.
        let same = one.one_input i.header other i.readings others i.accepted.1 l in
        subst (λ (x : Header). ScanLists x others out how) same.0 (subst (λ (xs : List ℕ). ScanLists i.header xs out how) same.1 i.lists);
    one = one;
  }

  -- Bytes that are not read have the line of the refusal.
  pub of_refusal : (u : Unread) → unread_line u ≡ Some out → Refused bytes u → Listing bytes out outcome.Refused
  of_refusal TooLong is refused =
      let text : refusal_text 17 0 ≡ out = cc in
      record {
        too_long = λ long. (sym text, refl);
        out_of_form = λ short k first. absurd (omega arith);
        listed = λ short header readings l. absurd (omega arith);
        one = one;
      }
  of_refusal (Line j) is refused =
      let text = (cond_some (ltb j 100000000) (refusal_text 18 j) out is).1 in
      record {
        too_long = λ long. absurd (omega (arith, refused.0));
        out_of_form = λ short k first. (sym text ∙ ap (refusal_text 18) (one.one_line j k refused.1 first), refl);
        listed = λ short header readings l. absurd (one.apart header readings j l refused.1);
        one = one;
      }
  of_refusal Memory is refused = absurd (cc)

rows_few : (header : Header) (n : ℕ) (rest : List ℕ) → header.ny ≤ 256 → header.nz ≤ 256 → Out header n rest → n ≤ 65536
rows_few header n rest ny nz (inl h) = omega (arith, h.0, mul-le header.ny header.nz 256 256 ny nz)
rows_few header n rest ny nz (inr h) = omega (arith, h.0, mul-le header.ny header.nz 256 256 ny nz)

-- The first line out of form is at most the one after 65,536 rows.
lines_few : (bytes : List ℕ) (k : ℕ) → FirstOut bytes k → k ≤ 65538
lines_few bytes zero first = absurd first
lines_few bytes (suc zero) first = omega arith
lines_few bytes (suc (suc n)) first =
    let line = first.begun.header_line in
    omega (arith, rows_few first.header n first.rest line.writes_ny.high line.writes_nz.high first.out)

-- So a refusal has no line only where memory lacks, for an input that is accepted.
pub no_line : (bytes : List ℕ) (u : Unread) → unread_line u ≡ None → Refused bytes u → (header : Header) × (readings : List ℕ) × Accepted bytes header readings
no_line bytes TooLong none refused = absurd (cc)
no_line bytes (Line k) none refused =
    let small : k < 100000000 = omega (arith, lines_few bytes k refused.1) in
    let some = sym (ap (λ b. cond b (Some (refusal_text 18 k)) None) (lt-ltb k 100000000 small)) ∙ none in
    absurd (cc)
no_line bytes Memory none refused = refused
