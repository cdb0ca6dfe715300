-- What a tray means, and what putting in and emptying make of it. Assumes nothing.
use Rattle.std.specs.Prelude.{◌≡◌, ℕ, ◌+◌, ◌-◌, ◌^◌, ◌<◌, ◌≤◌, List, [], ◌∷◌, ◌++◌, length, Some, None, Ok, Err, Option, Result, slice_index_or}
use Rattle.tray.specs.declared.tray.Full.{Full}
use Rattle.tray.specs.declared.triangle.Triangle.{Triangle}

-- The meaning of a tray: the list that it holds, and its number of free places.
pub record Held : Type 0 where
  pub list : List Triangle
  pub free : ℕ

-- All places of a tray, in use or free.
abbrev pub places : Held → ℕ
places h = length h.list + h.free

-- The n-th of a list, from 0, is there if n is below its length, and else absent.
abbrev pub Nth : List Triangle → ℕ → Option Triangle → Type 0
Nth ts n None = length ts ≤ n
Nth ts n (Some t) = (n < length ts) × (t ≡ slice_index_or ts n t)

-- A triangle goes to the end, and takes one free place.
abbrev pub added : Held → Triangle → Held
added h t = record { list = h.list ++ (t ∷ []); free = h.free - 1 }

-- Triangles go to the end one after the other, and take a free place each.
abbrev pub added_all : Held → List Triangle → Held
added_all h ts = record { list = h.list ++ ts; free = h.free - length ts }

-- The list becomes empty, and its places are free besides those that were.
abbrev pub emptied : Held → Held
emptied h = record { list = []; free = h.free + length h.list }

-- A triangle is put in where a place is free, and only where none is it is turned away, with no change.
abbrev pub Put : Held → Triangle → Result (Unit {0}) Full → Held → Type 0
Put before t (Ok done) after = (0 < before.free) × (after ≡ added before t)
Put before t (Err full) after = (before.free ≡ 0) × (after ≡ before)

-- Whatever a tray stands over past the triangles that it holds stays as it was.
abbrev pub KeepsRest : {S : Type 0} → (S → Held) → (ℕ → S → S → Type 0) → S → S → Type 0
KeepsRest holds keeps before after = keeps (length (holds after).list) before after

-- What every tray owes besides: its places fit a machine word; and that all past some of its places stays as it was holds of what
-- does nothing, and of two steps in a row if it holds of each.
pub record Lawful {S : Type 0} (holds : S → Held) (keeps : ℕ → S → S → Type 0) : Type 0 where
  pub fits : (s : S) → places (holds s) < 2 ^ 64
  pub stays : (n : ℕ) (s : S) → keeps n s s
  pub steps : (m n k : ℕ) (s t u : S) → m ≤ k → n ≤ k → keeps m s t → keeps n t u → keeps k s u
