-- A heading, points and contours as the code prints them, one text behind the other. Assumes nothing.
use mathlib.Core.Path.{◌≡◌, refl, sym, ap, ◌∙◌}
use mathlib.Core.List.{List, [], ◌∷◌, ◌++◌, append_assoc, append-nil}
use Prim.Native.Nat.{ℕ, zero, suc, ◌+◌, ◌-◌, ◌*◌, ◌≤◌, ◌<◌}
use native.Mathlib.Omega.{arith}
use lib.ListN.{length, get_or}
use Rattle.mem.specs.Loops.{over, over_turn}
use Rattle.rules.specs.Lines.{number_line}
use Rattle.rules.specs.Job.{job_stride, sum_over}
use Rattle.rules.specs.Sheet.{nvp_name, grid_name, contour_name}
use Rattle.rules.specs.MendSheet.{heading_text, traced_line, contours_text, sheet_text}
use Rattle.lines.specs.Print.{Room, Printed}
use Rattle.lines.specs.Printing.{printed_same_length, printed_as, printed_nothing}
use Rattle.lines.specs.Pieces.{joined, Going, going_begin, going_parts, going_room, going_more, going_end, texts_from, Pieces}
use Rattle.sheet.specs.declared.heading.Heading.{Heading}
use Rattle.sheet.specs.Rows.{top_text}
use Rattle.sheet.specs.Reading.{sheet_of, with_lists}
use Rattle.mendsheet.specs.Print.{lists_of, contours_of, PointsReady, ContoursReady}

-- ---- a heading

abbrev pub heading_texts : Heading → List (List ℕ)
heading_texts x =
    top_text x.inches x.size x.height ∷ (number_line nvp_name (x.nvp ∷ []) ∷ (number_line grid_name (x.w ∷ (x.h ∷ (x.border ∷ []))) ∷ []))

pub heading_texts_lem : (x : Heading) → heading_text (sheet_of x) ≡ joined (heading_texts x)
unfolding heading_text sheet_of top_text joined
heading_texts_lem x = simp (append_assoc, append-nil)

-- ---- points

-- the loop begins at the vertex `first`
pub points_begin : {out : List ℕ} {at : ℕ} {ns : List ℕ} {first end : ℕ} → PointsReady out at ns first end
    → Pieces (traced_line ns) end (texts_from (traced_line ns) first end) out at out at first
unfolding joined
points_begin {out} {at} {ns} {first} {end} r =
    record {
      within = r.order;
      long = refl;
      going = going_begin (texts_from (traced_line ns) first end ∷ []) out at (sym (append-nil (texts_from (traced_line ns) first end))) r.room;
    }

-- ---- contours

abbrev pub contour_line : List ℕ → List ℕ → List ℕ → ℕ → List ℕ
contour_line ls rs cs c = number_line contour_name (get_or rs c 0 ∷ (get_or cs c 0 ∷ (get_or ls c 0 ∷ [])))

-- the loop that prints all contours: those from c on are left, and the vertices from `first` on are theirs
pub record Contours (ls rs cs ns v : List ℕ) (at : ℕ) (w : List ℕ) (to first c : ℕ) : Type 0 where
  pub within : c ≤ length ls
  pub long : length w ≡ length v
  pub declared : first + over 0 ◌+◌ (λ i. get_or ls i 0) c (length ls) ≡ sum_over (λ n. n) ls
  pub going : Going (contours_of ls rs cs ns) v at (contours_text (length ls - c) (lists_of ls rs cs ns) c first ∷ []) w to

module _ (ls rs cs ns : List ℕ) where
  text_turn : (c first : ℕ) → c < length ls → contours_text (length ls - c) (lists_of ls rs cs ns) c first
      ≡ contour_line ls rs cs c ++ (texts_from (traced_line ns) first (first + get_or ls c 0)
      ++ contours_text (length ls - (c + 1)) (lists_of ls rs cs ns) (c + 1) (first + get_or ls c 0))
  unfolding contours_text
  text_turn c first h = let e : length ls - c ≡ suc (length ls - (c + 1)) = omega arith in rw (e, contours_text) refl

  text_end : (c first : ℕ) → length ls ≤ c → contours_text (length ls - c) (lists_of ls rs cs ns) c first ≡ []
  unfolding contours_text
  text_end c first h = let e : length ls - c ≡ 0 = omega arith in rw e refl

  pub contours_begin : {out : List ℕ} {at : ℕ} → ContoursReady out at ls rs cs ns → Contours ls rs cs ns out at out at 0 0
  unfolding contours_of sum_over joined
  contours_begin {out} {at} r =
      let e : length ls - 0 ≡ length ls = omega arith in
      record {
        within = omega arith;
        long = refl;
        declared = omega arith;
        going = rw e (going_begin (contours_of ls rs cs ns ∷ []) out at (sym (append-nil (contours_of ls rs cs ns))) r.room);
      }

module _ {ls rs cs ns v : List ℕ} {at : ℕ} {w : List ℕ} {to first c : ℕ} (g : Contours ls rs cs ns v at w to first c) where
  pub contours_all : length ls ≤ c → Printed (contours_of ls rs cs ns) v w at to
  contours_all h = going_end (going_more g.going (printed_as (printed_nothing w to) (sym (text_end ls rs cs ns c first h))))

  module _ (h : c < length ls) where
    abbrev points : List ℕ
    points = texts_from (traced_line ns) first (first + get_or ls c 0)

    abbrev left : List ℕ
    left = contours_text (length ls - (c + 1)) (lists_of ls rs cs ns) (c + 1) (first + get_or ls c 0)

    next : Going (contours_of ls rs cs ns) v at (contour_line ls rs cs c ∷ ((points ++ left) ∷ [])) w to
    next = going_parts g.going (text_turn ls rs cs ns c first h)

    sum_turn : first + (get_or ls c 0 + over 0 ◌+◌ (λ i. get_or ls i 0) (c + 1) (length ls)) ≡ sum_over (λ n. n) ls
    sum_turn = ap (λ (n : ℕ). first + n) (sym (over_turn 0 ◌+◌ (λ i. get_or ls i 0) c (length ls) h)) ∙ g.declared

    -- the vertices of contour c are among those that are there
    pub contour_there : first + get_or ls c 0 ≤ sum_over (λ n. n) ls
    contour_there = omega (arith, sum_turn)

    pub line_room : Room w (contour_line ls rs cs c) to
    line_room = going_room next

    module _ {x : List ℕ} {m : ℕ} (p : Printed (contour_line ls rs cs c) w x to m) where
      then : Going (contours_of ls rs cs ns) v at (points ∷ (left ∷ [])) x m
      then = going_parts (going_more next p) refl

      pub points_ready : sum_over (λ n. n) ls * job_stride ≤ length ns → PointsReady x m ns first (first + get_or ls c 0)
      points_ready k = record { order = omega arith; there = omega (arith, contour_there); room = going_room then }

      pub contours_more : {y : List ℕ} {n : ℕ} → Printed points x y m n → Contours ls rs cs ns v at y n (first + get_or ls c 0) (c + 1)
      contours_more q =
          record {
            within = omega arith;
            long = printed_same_length q ∙ printed_same_length p ∙ g.long;
            declared = omega (arith, sum_turn);
            going = going_more then q;
          }

-- ---- a sheet

-- contours are printed alike, whatever the heading
any_heading : (x : Heading) (ls rs cs ns : List ℕ) (f c first : ℕ)
    → contours_text f (with_lists (sheet_of x) ls rs cs ns).job c first ≡ contours_text f (lists_of ls rs cs ns) c first
unfolding contours_text with_lists
any_heading x ls rs cs ns zero c first = refl
any_heading x ls rs cs ns (suc f) c first =
    ap (λ (l : List ℕ). contour_line ls rs cs c ++ (texts_from (traced_line ns) first (first + get_or ls c 0) ++ l))
    (any_heading x ls rs cs ns f (c + 1) (first + get_or ls c 0))

abbrev pub sheet_texts : Heading → List ℕ → List ℕ → List ℕ → List ℕ → List (List ℕ)
sheet_texts x ls rs cs ns = heading_text (sheet_of x) ∷ (contours_of ls rs cs ns ∷ [])

pub sheet_texts_lem : (x : Heading) (ls rs cs ns : List ℕ) → sheet_text (with_lists (sheet_of x) ls rs cs ns) ≡ joined (sheet_texts x ls rs cs ns)
unfolding sheet_text heading_text with_lists sheet_of contours_of joined
sheet_texts_lem x ls rs cs ns =
    ap (λ (l : List ℕ). heading_text (sheet_of x) ++ l)
    (any_heading x ls rs cs ns (length ls) 0 0 ∙ sym (append-nil (contours_of ls rs cs ns)))
