-- The output of an input of which no more than a front was read. Assumes nothing.
use Rattle.std.proofs.Common.{◌≡◌, ℕ, ◌<◌, ◌≤◌, ⊎_elim, List, [], ◌++◌, length, take, Some, None, Option, Ok, Err, Result, refl, sym, ap, ◌∙◌, subst, arith, append-nil}
use Rattle.std.specs.Io.KnownBytes.{Consumes, IsAtEnd}
use Rattle.std.proofs.lemmas.Bool.Decides.{leb_tells}
use Rattle.std.proofs.lemmas.List.{length-take-le, take_all, take-append-le}
use Rattle.listing.specs.Inputs.{Accepted}
use Rattle.listing.specs.Listings.{Listing}
use Rattle.listing.specs.Running.{Answered, Ran, ReadAnswered, Written, read_bytes}
use Rattle.listing.specs.declared.header.Header.{Header}
use Rattle.listing.specs.declared.outcome.Outcome.{Outcome}
use Rattle.listing.specs.declared.run_error.RunError.{RunError}
use Rattle.listing.specs.declared.run_error.RunError.TheVariants.{Memory, Reading, Writing}
use Rattle.listing.proofs.InputLaws.{one_answer}

module _ (bytes : List ℕ) where
  -- An input whose front is too long is too long itself.
  listing_of_front : (out : List ℕ) (how : Outcome) → Listing (take read_bytes bytes) out how → Listing bytes out how
  listing_of_front out how l =
      ⊎_elim (λ whole. subst (λ (bs : List ℕ). Listing bs out how) (take_all read_bytes bytes whole.1) l)
      (λ long. record {
        too_long = λ _. l.too_long (omega (arith, length-take-le read_bytes bytes (omega (arith, long.1))));
        out_of_form = λ short k first. absurd (omega (arith, long.1));
        listed = λ short header readings listed. absurd (omega (arith, long.1));
        one = one_answer bytes;
      })
      (leb_tells (length bytes) read_bytes)

  -- An input whose front is accepted is no longer than it.
  accepted_of_front : (header : Header) (readings : List ℕ) → Accepted (take read_bytes bytes) header readings → Accepted bytes header readings
  accepted_of_front header readings a =
      ⊎_elim (λ whole. subst (λ (bs : List ℕ). Accepted bs header readings) (take_all read_bytes bytes whole.1) a)
      (λ long. absurd (omega (arith, length-take-le read_bytes bytes (omega (arith, long.1)), a.0)))
      (leb_tells (length bytes) read_bytes)

  -- So what is answered of the front is answered of the input.
  answered_of_front : (held holds : Option (List ℕ)) (r : Result Outcome RunError) → Answered (take read_bytes bytes) held holds r → Answered bytes held holds r
  answered_of_front held holds (Ok outcome) a = record { output = a.output; listing = listing_of_front a.output outcome a.listing; written = a.written }
  answered_of_front held holds (Err Memory) a = record { header = a.header; readings = a.readings; accepted = accepted_of_front a.header a.readings a.accepted; kept = a.kept }
  answered_of_front held holds (Err (Reading e)) a = absurd a
  answered_of_front held holds (Err (Writing e)) a = record { output = a.output; outcome = a.outcome; listing = listing_of_front a.output a.outcome a.listing; written = a.written }

-- Writing an output of an input answers it.
pub written_answered : (input output : List ℕ) (how : Outcome) (held holds : Option (List ℕ)) (r : Result Outcome RunError) → Listing input output how
    → Written output how held holds r → Answered input held holds r
written_answered input output how held holds (Ok outcome) l w = record { output = output; listing = subst (λ (o : Outcome). Listing input output o) (sym w.0) l; written = w.1 }
written_answered input output how held holds (Err Memory) l w = absurd w
written_answered input output how held holds (Err (Reading e)) l w = absurd w
written_answered input output how held holds (Err (Writing e)) l w = record { output = output; outcome = how; listing = l; written = w }

-- What a reader had begins with what was taken of it, up to the limit.
front_taken : (xs ys taken : List ℕ) → xs ≡ taken ++ ys → length taken ≤ read_bytes → (length taken < read_bytes → ys ≡ []) → take read_bytes xs ≡ taken
front_taken xs ys taken parts few end =
    ⊎_elim
    (λ full. ap (take read_bytes) parts ∙ take-append-le read_bytes taken ys full.1 ∙ take_all read_bytes taken few)
    (λ short.
    let all = parts ∙ ap (λ l. taken ++ l) (end (omega (arith, short.1))) ∙ append-nil taken in
    ap (take read_bytes) all ∙ take_all read_bytes taken few)
    (leb_tells read_bytes (length taken))

-- A buffer was read into, and what stands in front was answered: so is the input of the reader.
pub read_answered : (given left held holds : Option (List ℕ)) (taken : List ℕ) (r : Result Outcome RunError) → Consumes given left taken → length taken ≤ read_bytes
    → (length taken < read_bytes → IsAtEnd left) → Answered taken held holds r → ReadAnswered given left held holds r
read_answered None left held holds taken r parts few end a = (taken, record { whole = tt; taken = tt }, a)
read_answered (Some xs) None held holds taken r parts few end a = absurd parts
read_answered (Some xs) (Some ys) held holds taken r parts few end a =
    let front = front_taken xs ys taken parts few end in (
      xs,
      record { whole = refl; taken = parts ∙ ap (λ l. l ++ ys) (sym front) },
      answered_of_front xs held holds r (subst (λ (bs : List ℕ). Answered bs held holds r) (sym front) a),
    )

pub ran : (given left held holds : Option (List ℕ)) (taken : List ℕ) (r : Result Outcome RunError) → Consumes given left taken → length taken ≤ read_bytes
    → (length taken < read_bytes → IsAtEnd left) → Answered taken held holds r → Ran given left held holds r
ran given left held holds taken (Ok outcome) parts few end a = read_answered given left held holds taken (Ok outcome) parts few end a
ran given left held holds taken (Err Memory) parts few end a = read_answered given left held holds taken (Err Memory) parts few end a
ran given left held holds taken (Err (Reading e)) parts few end a = absurd a
ran given left held holds taken (Err (Writing e)) parts few end a = read_answered given left held holds taken (Err (Writing e)) parts few end a
