-- A loop that puts the triangles of a text into a tray, line by line. Assumes nothing.
use Rattle.std.proofs.Common.{◌≡◌, ℕ, ◌<◌, ◌≤◌, List, [], ◌∷◌, ◌++◌, length, Option, None, Some, Result, sym, refl, ap, ◌∙◌, subst, append_assoc, append-nil, arith, length-append}
use Rattle.tray.specs.declared.tray.Full.{Full}
use Rattle.tray.specs.declared.triangle.Triangle.{Triangle}
use Rattle.tray.specs.Holding.{Held, KeepsRest, Lawful, Put}
use Rattle.std.specs.Option.{IsSome}
use Rattle.tray.specs.Lines.{LineRead, line_of}
use Rattle.tray.specs.Texts.{text_of}
use Rattle.tray.proofs.LineLaws.{length_line, same_line}
use Rattle.tray.proofs.Cuts.{same_parts}
use Rattle.tray.proofs.TextLaws.{length_text}
use Rattle.tray.proofs.Trays.{Laid, laid_more}

-- The first 27 bytes of a text are the line of its first triangle, and the others are the text of the other triangles.
first_line : (ts : List Triangle) (x more : List ℕ) → text_of ts ≡ x ++ more → length x ≡ 27 → (t : Triangle) × (us : List Triangle) × (ts ≡ t ∷ us) × (x ≡ line_of t) × (more ≡ text_of us)
first_line [] x more e long = absurd (omega (arith, ap length e, length-append x more))
first_line (t ∷ us) x more e long =
    let same = same_parts x more (line_of t) (text_of us) 27 long (length_line t) (sym e) in
    (t, us, refl, same.0, same.1)

-- Fewer bytes than 27 are the text of no triangles.
none_left : (ts : List Triangle) → length (text_of ts) < 27 → ts ≡ []
none_left [] short = refl
none_left (t ∷ ts) short = absurd (omega (arith, length_text (t ∷ ts)))

-- Some triangles of the list are in the tray, and the bytes that are left are the text of the others.
pub record Begun {S : Type 0} (holds : S → Held) (keeps : ℕ → S → S → Type 0) (list : List Triangle) (before : S) (left : List ℕ) (size : ℕ) (after : S) : Type 0 where
  pub done : List Triangle
  pub others : List Triangle
  pub all : list ≡ done ++ others
  pub text : text_of others ≡ left
  pub width : size ≡ 27
  pub laid : Laid holds keeps before done after

module _ {S : Type 0} {holds : S → Held} {keeps : ℕ → S → S → Type 0} (lawful : Lawful holds keeps) (list : List Triangle) (s : S) where
  module _ (left x more : List ℕ) (size : ℕ) (m : S) (h : Begun holds keeps list s left size m) (cut : left ≡ x ++ more) (long : length x ≡ size) where
    -- What is left begins with a line.
    pub begun_line : (o : Option Triangle) → LineRead x o → IsSome o
    begun_line None none = let next = first_line h.others x more (h.text ∙ cut) (long ∙ h.width) in absurd (none next.0 next.3)
    begun_line (Some t) is = refl

    -- There is room for its triangle.
    begun_room : length list ≤ (holds s).free → length h.done < (holds s).free
    begun_room room =
        let next = first_line h.others x more (h.text ∙ cut) (long ∙ h.width) in
        omega (arith, ap length h.all, ap length next.2, length-append h.done h.others)

    -- Its triangle goes into the tray.
    pub begun_more : (o : Option Triangle) (t : Triangle) (r : Result (Unit {0}) Full) (e : S) (next : ℕ) → LineRead x o → o ≡ Some t → next ≡ size → length list ≤ (holds s).free → Put (holds m) t r (holds e) → KeepsRest holds keeps m e → Begun holds keeps list s more next e
    begun_more o t r e next read some-t same room put kept =
        let line : x ≡ line_of t = subst (LineRead x) some-t read in
        let next = first_line h.others x more (h.text ∙ cut) (long ∙ h.width) in
        let is : next.0 ≡ t = same_line next.0 t (sym next.3 ∙ line) in
        let all : list ≡ (h.done ++ (t ∷ [])) ++ next.1 = h.all ∙ ap (λ l. h.done ++ l) (next.2 ∙ ap (λ o. o ∷ next.1) is) ∙ sym (append_assoc h.done (t ∷ []) next.1) in
        record {
          done = h.done ++ (t ∷ []);
          others = next.1;
          all = all;
          text = sym next.4;
          width = same ∙ h.width;
          laid = laid_more lawful s m e h.done t r h.laid (begun_room room) put kept;
        }

  -- Where less than a line is left, all are in the tray.
  pub begun_all : (left : List ℕ) (size : ℕ) (m : S) → Begun holds keeps list s left size m → length left < size → Laid holds keeps s list m
  begun_all left size m h short =
      let none : h.others ≡ [] = none_left h.others (omega (arith, ap length h.text, h.width)) in
      subst (λ l. Laid holds keeps s l m) (sym (h.all ∙ ap (λ l. h.done ++ l) none ∙ append-nil h.done)) h.laid
