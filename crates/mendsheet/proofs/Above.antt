-- How many contour lines stand above a vertex, contour by contour; and the line of a lost vertex as its texts. Assumes nothing.
use mathlib.Core.Path.{◌≡◌, refl, sym, ap, ◌∙◌}
use mathlib.Core.List.{List, [], ◌∷◌, ◌++◌, append_assoc, append-nil}
use Prim.Native.Nat.{ℕ, ◌+◌, ◌-◌, ◌≤◌, ◌<◌}
use native.Mathlib.Numerals.{add-one}
use native.Mathlib.Omega.{arith}
use borrow.Author.Tests.{lt-ltb, le-ltb}
use lib.ListN.{length, drop, get_or, drop_of_length-le}
use lib.Seq.{drop-cons}
use Rattle.mem.specs.Packed.{packed}
use Rattle.rules.specs.Lines.{lf, cell, number_line}
use Rattle.rules.specs.MendSheet.{contour_lines_above, vertex_line_of, lost_name, lost_line}
use Rattle.lines.specs.Pieces.{joined}

-- ---- contour lines above a vertex

above_here : (k n : ℕ) (ls : List ℕ) → k < n → contour_lines_above (n ∷ ls) k ≡ 1
unfolding contour_lines_above
above_here k n ls h = rw (lt-ltb k n h, contour_lines_above) refl

above_later : (k n : ℕ) (ls : List ℕ) → n ≤ k → contour_lines_above (n ∷ ls) k ≡ 1 + contour_lines_above ls (k - n)
unfolding contour_lines_above
above_later k n ls h = rw (le-ltb k n h, contour_lines_above) refl

-- the loop: c contours are passed, and of the others the vertex sought is number `rest`
pub record Passed (ls : List ℕ) (k rest c : ℕ) : Type 0 where
  pub within : c ≤ length ls
  pub same : contour_lines_above ls k ≡ c + contour_lines_above (drop c ls) rest

pub passed_none : (ls : List ℕ) (k : ℕ) → Passed ls k k 0
passed_none ls k = record { within = omega arith; same = omega arith }

module _ {ls : List ℕ} {k rest c : ℕ} (p : Passed ls k rest c) where
  pub passed_all_lem : length ls ≤ c → c ≡ contour_lines_above ls k
  unfolding contour_lines_above
  passed_all_lem h = let e = p.same ∙ ap (λ (l : List ℕ). c + contour_lines_above l rest) (drop_of_length-le ls {i = c} h) in omega arith

  module _ (h : c < length ls) where
    from_here : contour_lines_above ls k ≡ c + contour_lines_above (get_or ls c 0 ∷ drop (c + 1) ls) rest
    from_here = p.same ∙ ap (λ (l : List ℕ). c + contour_lines_above l rest) (rw (add-one c) (drop-cons ls c 0 h))

    pub passed_found : rest < get_or ls c 0 → c + 1 ≡ contour_lines_above ls k
    passed_found l = sym (from_here ∙ ap (λ (n : ℕ). c + n) (above_here rest (get_or ls c 0) (drop (c + 1) ls) l))

    pub passed_more : get_or ls c 0 ≤ rest → Passed ls k (rest - get_or ls c 0) (c + 1)
    passed_more l =
        let e = from_here ∙ ap (λ (n : ℕ). c + n) (above_later rest (get_or ls c 0) (drop (c + 1) ls) l) in
        record { within = omega arith; same = omega arith }

-- ---- the line of a lost vertex

abbrev pub lost_texts : ℕ → ℕ → List (List ℕ)
lost_texts k line = lost_name ∷ (cell k ∷ (cell line ∷ ((lf ∷ []) ∷ [])))

pub lost_texts_lem : (ls : List ℕ) (k line : ℕ) → line ≡ vertex_line_of ls k → lost_line ls k ≡ joined (lost_texts k line)
unfolding lost_line number_line packed joined
lost_texts_lem ls k line e =
    rw e (ap (λ (l : List ℕ). lost_name ++ l)
    (append_assoc (cell k) (cell (vertex_line_of ls k) ++ []) (lf ∷ [])
    ∙ ap (λ (l : List ℕ). cell k ++ (l ++ (lf ∷ []))) (append-nil (cell (vertex_line_of ls k)))))
