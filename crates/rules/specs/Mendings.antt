-- The table of examples of request 12: rows under a single statement, proved by computing. A contour is written as a word: letters are places on the plane,
-- with y 0 and flag 0 unless a row says otherwise.
use Rattle.std.specs.Prelude.{◌≡◌, refl, List, [], ◌∷◌, ◌++◌, map, ℕ, ◌*◌}
use Prim.Native.String.{String}
use Rattle.mem.specs.Packed.{packed}
use Rattle.rules.specs.Computing.{rules}
use Rattle.rules.specs.Lines.{ascii}
use Rattle.rules.specs.Mend.{traced, trace_places, is_doubled, is_spike, is_at_fault, lowest_fault, takes_flag, lose_after, place_then, lose_two}
use Rattle.rules.specs.Mend.{mend_at, mend_loop, mended, traced_numbers}
use Rattle.rules.specs.MendCall.{MendLent, traced_from, mended_job, kept_lengths, kept_count, lost_numbers, traced_words, kept_words, vertices_in, are_whole}
use Rattle.rules.specs.MendCall.{lengths_agree, longer, longest, is_short_scratch, is_list_full, mend_outcome, mend_reply_of, mend_refusal_number, mend_words, scratch_wiped}
use Rattle.rules.specs.MendCall.{mended_numbers, mend_exit_of, mend_exit, one_contour}
use Rattle.rules.specs.MendSheet.{mended_sheet, heading_text, traced_line, contours_text, sheet_text, mend_text, lost_name, contour_lines_above, vertex_line_of}
use Rattle.rules.specs.MendSheet.{lost_line, lost_lines, lost_text}

-- the places
abbrev a : ℕ
a = 1

abbrev b : ℕ
b = 2

abbrev c : ℕ
c = 3

abbrev d : ℕ
d = 4

-- the numbers of a contour: for each letter p the point x = p, z = p·p, no three of which lie on a line
unfoldable pub word : List ℕ → List ℕ
word ps = packed (λ p. p ∷ 0 ∷ p * p ∷ 0 ∷ []) ps

-- the same, where each point is given as its letter, y and flag
pub record Mark : Type 0 where
  pub place : ℕ
  pub y : ℕ
  pub flag : ℕ

abbrev point : ℕ → ℕ → ℕ → Mark
point p y f = record { place = p; y = y; flag = f }

unfoldable pub marked : List Mark → List ℕ
marked ms = packed (λ m. m.place ∷ m.y ∷ m.place * m.place ∷ m.flag ∷ []) ms

-- what is seen of a mending: the original numbers of the kept points and their flags, and the list
pub record Seen : Type 0 where
  pub kept : List ℕ
  pub flags : List ℕ
  pub lost : List ℕ

unfoldable pub seen_of : List ℕ → Seen
seen_of ns = let m = mended (traced ns 0 (vertices_in ns)) in record { kept = traced_numbers m.points; flags = map (λ p. p.flag) m.points; lost = m.lost }

-- how a call ends: the reply's three numbers, and what the buffers hold
pub record MendEnded : Type 0 where
  pub reply : List ℕ
  pub buffers : MendLent

unfoldable pub mend_ended : MendLent → MendEnded
mend_ended l = record { reply = mend_words (mend_reply_of (mend_outcome l)); buffers = mend_exit l }

-- the buffers of a row
abbrev lent : List ℕ → List ℕ → List ℕ → List ℕ → MendLent
lent lengths numbers list work = record { lengths = lengths; numbers = numbers; list = list; work = work }

pub data MendExample : Type 0 where
  -- a contour, the original numbers of the kept points, and the list
  word_mends : List ℕ → List ℕ → List ℕ → MendExample
  -- points, and the kept points' numbers and flags, and the list
  points_mend : List Mark → List ℕ → List ℕ → List ℕ → MendExample
  -- what is lent, the reply, and what the buffers hold at the end: lengths, numbers, list and scratch
  mend_leaves : MendLent → List ℕ → MendLent → MendExample
  -- a sheet, what --mend prints for it, and what --lost prints
  sheet_mends : String → String → String → MendExample

unfoldable pub MendHolds : MendExample → Type 0
MendHolds (word_mends ps kept lost) = let s = seen_of (word ps) in (s.kept ∷ s.lost ∷ []) ≡ (kept ∷ lost ∷ [])
MendHolds (points_mend ms kept flags lost) = seen_of (marked ms) ≡ record { kept = kept; flags = flags; lost = lost }
MendHolds (mend_leaves l reply e) = mend_ended l ≡ record { reply = reply; buffers = e }
MendHolds (sheet_mends sheet mended lost) = (mend_text (ascii sheet) ∷ lost_text (ascii sheet) ∷ []) ≡ (ascii mended ∷ ascii lost ∷ [])

infixr 20 ◌&◌
pub data AllMend : List MendExample → Type 0 where
  end : AllMend []
  ◌&◌ : {e : MendExample} {es : List MendExample} → MendHolds e → AllMend es → AllMend (e ∷ es)

unfoldable pub mendings : List MendExample
mendings =
    -- doubled round the end: the first is lost, not the last
    word_mends (a ∷ b ∷ c ∷ a ∷ []) (1 ∷ 2 ∷ 3 ∷ []) (0 ∷ []) ∷
    word_mends (a ∷ b ∷ b ∷ a ∷ []) (0 ∷ []) (2 ∷ 1 ∷ 3 ∷ []) ∷
    word_mends (a ∷ b ∷ c ∷ d ∷ c ∷ b ∷ a ∷ []) (0 ∷ []) (3 ∷ 4 ∷ 2 ∷ 5 ∷ 1 ∷ 6 ∷ []) ∷
    word_mends (b ∷ a ∷ a ∷ b ∷ c ∷ d ∷ a ∷ a ∷ b ∷ []) (4 ∷ 5 ∷ 6 ∷ 8 ∷ []) (2 ∷ 1 ∷ 3 ∷ 7 ∷ 0 ∷ []) ∷
    -- a spike round the end: at the last place but one, and at the last
    word_mends (a ∷ b ∷ c ∷ a ∷ b ∷ []) (1 ∷ 2 ∷ 3 ∷ []) (4 ∷ 0 ∷ []) ∷
    word_mends (a ∷ b ∷ c ∷ d ∷ b ∷ []) (2 ∷ 3 ∷ 4 ∷ []) (0 ∷ 1 ∷ []) ∷
    -- both rules at one place: the doubled one; under three is looked at before each loss
    word_mends (a ∷ a ∷ a ∷ []) (0 ∷ 2 ∷ []) (1 ∷ []) ∷
    word_mends (a ∷ a ∷ a ∷ a ∷ []) (0 ∷ 3 ∷ []) (1 ∷ 2 ∷ []) ∷
    word_mends (a ∷ b ∷ a ∷ []) (0 ∷ []) (1 ∷ 2 ∷ []) ∷
    word_mends (a ∷ a ∷ []) (0 ∷ 1 ∷ []) [] ∷
    word_mends [] [] [] ∷
    -- nothing applies; a doubled point and a spike; a spike that leaves a doubled point
    word_mends (a ∷ b ∷ c ∷ d ∷ []) (0 ∷ 1 ∷ 2 ∷ 3 ∷ []) [] ∷
    word_mends (a ∷ b ∷ b ∷ c ∷ d ∷ c ∷ []) (0 ∷ 1 ∷ 3 ∷ []) (2 ∷ 4 ∷ 5 ∷ []) ∷
    word_mends (a ∷ b ∷ c ∷ b ∷ b ∷ d ∷ []) (0 ∷ 1 ∷ 5 ∷ []) (2 ∷ 3 ∷ 4 ∷ []) ∷
    -- flags: only a 1 carries; the kept one becomes 1 whatever it was
    points_mend (point a 0 0 ∷ point b 0 1 ∷ point a 0 0 ∷ []) (0 ∷ []) (1 ∷ []) (1 ∷ 2 ∷ []) ∷
    points_mend (point a 1 0 ∷ point a 0 2 ∷ point a 0 0 ∷ []) (0 ∷ 2 ∷ []) (0 ∷ 0 ∷ []) (1 ∷ []) ∷
    points_mend (point a 1 2 ∷ point a 0 1 ∷ point a 0 0 ∷ []) (0 ∷ 2 ∷ []) (1 ∷ 0 ∷ []) (1 ∷ []) ∷
    -- a flag that was taken is taken on
    points_mend (point a 0 0 ∷ point b 0 0 ∷ point b 0 1 ∷ point a 0 0 ∷ point c 0 0 ∷ point d 0 0 ∷ []) (0 ∷ 4 ∷ 5 ∷ []) (1 ∷ 0 ∷ 0 ∷ []) (2 ∷ 1 ∷ 3 ∷ []) ∷
    -- flags round the end: a doubled one, and the latter of a spike at the last place but one and at the last
    points_mend (point a 0 1 ∷ point b 0 0 ∷ point c 0 0 ∷ point a 0 0 ∷ []) (1 ∷ 2 ∷ 3 ∷ []) (0 ∷ 0 ∷ 1 ∷ []) (0 ∷ []) ∷
    points_mend (point a 0 1 ∷ point b 0 0 ∷ point c 0 0 ∷ point a 0 0 ∷ point b 0 0 ∷ []) (1 ∷ 2 ∷ 3 ∷ []) (0 ∷ 0 ∷ 1 ∷ []) (4 ∷ 0 ∷ []) ∷
    points_mend (point a 0 0 ∷ point b 0 1 ∷ point c 0 0 ∷ point d 0 0 ∷ point b 0 0 ∷ []) (2 ∷ 3 ∷ 4 ∷ []) (0 ∷ 0 ∷ 1 ∷ []) (0 ∷ 1 ∷ []) ∷
    -- equal is in x and z, and the kept one keeps its y; the freed numbers are 0; the list and the scratch past what is used are untouched
    mend_leaves (one_contour (marked (point a 1 0 ∷ point a 0 0 ∷ point a 0 0 ∷ [])) (9 ∷ 9 ∷ []) (9 ∷ 9 ∷ 9 ∷ 9 ∷ [])) (0 ∷ 1 ∷ 2 ∷ [])
    (lent (2 ∷ []) (marked (point a 1 0 ∷ point a 0 0 ∷ []) ++ (0 ∷ 0 ∷ 0 ∷ 0 ∷ [])) (1 ∷ 9 ∷ []) (0 ∷ 0 ∷ 0 ∷ 9 ∷ [])) ∷
    -- 81: two are due and there is room for one. Nothing is written but the scratch
    mend_leaves (one_contour (word (a ∷ a ∷ b ∷ b ∷ c ∷ [])) (9 ∷ []) (9 ∷ 9 ∷ 9 ∷ 9 ∷ 9 ∷ [])) (81 ∷ 0 ∷ 0 ∷ [])
    (lent (5 ∷ []) (word (a ∷ a ∷ b ∷ b ∷ c ∷ [])) (9 ∷ []) (0 ∷ 0 ∷ 0 ∷ 0 ∷ 0 ∷ [])) ∷
    -- room for just what is due
    mend_leaves (one_contour (word (a ∷ a ∷ a ∷ [])) (9 ∷ []) (9 ∷ 9 ∷ 9 ∷ [])) (0 ∷ 1 ∷ 2 ∷ [])
    (lent (2 ∷ []) (word (a ∷ a ∷ []) ++ (0 ∷ 0 ∷ 0 ∷ 0 ∷ [])) (1 ∷ []) (0 ∷ 0 ∷ 0 ∷ [])) ∷
    -- what is left may be under three: zeros behind it
    mend_leaves (one_contour (word (a ∷ a ∷ a ∷ b ∷ [])) (9 ∷ 9 ∷ 9 ∷ []) (9 ∷ 9 ∷ 9 ∷ 9 ∷ [])) (0 ∷ 2 ∷ 2 ∷ [])
    (lent (2 ∷ []) (word (a ∷ b ∷ []) ++ (0 ∷ 0 ∷ 0 ∷ 0 ∷ 0 ∷ 0 ∷ 0 ∷ 0 ∷ [])) (1 ∷ 2 ∷ 9 ∷ []) (0 ∷ 0 ∷ 0 ∷ 0 ∷ [])) ∷
    -- 82, before 81; and 80, before 82
    mend_leaves (one_contour (word (a ∷ a ∷ b ∷ [])) [] (9 ∷ 9 ∷ [])) (82 ∷ 0 ∷ 0 ∷ [])
    (lent (3 ∷ []) (word (a ∷ a ∷ b ∷ [])) [] (9 ∷ 9 ∷ [])) ∷
    mend_leaves (one_contour (1 ∷ []) [] []) (80 ∷ 0 ∷ 0 ∷ [])
    (lent (0 ∷ []) (1 ∷ []) [] []) ∷
    -- a job: numbered through it, closed up over its contours, as many contours as before; the scratch is for the longest
    mend_leaves (lent (3 ∷ 4 ∷ 2 ∷ []) (word (a ∷ a ∷ b ∷ a ∷ b ∷ c ∷ a ∷ a ∷ b ∷ [])) (9 ∷ 9 ∷ 9 ∷ []) (9 ∷ 9 ∷ 9 ∷ 9 ∷ 9 ∷ [])) (0 ∷ 2 ∷ 7 ∷ [])
    (lent (2 ∷ 3 ∷ 2 ∷ []) (word (a ∷ b ∷ b ∷ c ∷ a ∷ a ∷ b ∷ []) ++ (0 ∷ 0 ∷ 0 ∷ 0 ∷ 0 ∷ 0 ∷ 0 ∷ 0 ∷ [])) (1 ∷ 3 ∷ 9 ∷ []) (0 ∷ 0 ∷ 0 ∷ 0 ∷ 9 ∷ [])) ∷
    -- contours of no points
    mend_leaves (lent (0 ∷ 3 ∷ 0 ∷ 3 ∷ []) (word (a ∷ a ∷ b ∷ a ∷ a ∷ b ∷ [])) (9 ∷ 9 ∷ []) (9 ∷ 9 ∷ 9 ∷ [])) (0 ∷ 2 ∷ 4 ∷ [])
    (lent (0 ∷ 2 ∷ 0 ∷ 2 ∷ []) (word (a ∷ b ∷ a ∷ b ∷ []) ++ (0 ∷ 0 ∷ 0 ∷ 0 ∷ 0 ∷ 0 ∷ 0 ∷ 0 ∷ [])) (1 ∷ 4 ∷ []) (0 ∷ 0 ∷ 0 ∷ [])) ∷
    -- 81 is of the whole job: for the first contour alone there would be room
    mend_leaves (lent (3 ∷ 3 ∷ []) (word (a ∷ a ∷ b ∷ a ∷ a ∷ b ∷ [])) (9 ∷ []) (9 ∷ 9 ∷ 9 ∷ [])) (81 ∷ 0 ∷ 0 ∷ [])
    (lent (3 ∷ 3 ∷ []) (word (a ∷ a ∷ b ∷ a ∷ a ∷ b ∷ [])) (9 ∷ []) (0 ∷ 0 ∷ 0 ∷ [])) ∷
    -- lengths that disagree: 80 first, then 2, which comes before 82
    mend_leaves (lent (4 ∷ []) (word (a ∷ a ∷ b ∷ [])) [] []) (2 ∷ 0 ∷ 0 ∷ [])
    (lent (4 ∷ []) (word (a ∷ a ∷ b ∷ [])) [] []) ∷
    mend_leaves (lent (1 ∷ []) (1 ∷ []) [] []) (80 ∷ 0 ∷ 0 ∷ [])
    (lent (1 ∷ []) (1 ∷ []) [] []) ∷
    -- no contours
    mend_leaves (lent [] [] [] []) (0 ∷ 0 ∷ 0 ∷ [])
    (lent [] [] [] []) ∷
    -- a sheet with a contour of no points, a doubled point and a spike; one without a fault; and one that is refused
    sheet_mends
    "unit\tin\ncell\t1\t2\nnvp\t6\ngrid\t4\t3\t0\ncontour\t1\t7\t0\ncontour\t1\t7\t4\nv\t0\t5\t0\t0\nv\t0\t0\t0\t1\nv\t0\t0\t4\t0\nv\t0\t0\t0\t0\n"
    "unit\tin\ncell\t1\t2\nnvp\t6\ngrid\t4\t3\t0\ncontour\t1\t7\t0\ncontour\t1\t7\t1\nv\t0\t5\t0\t1\n"
    "lost\t1\t8\nlost\t2\t9\nlost\t3\t10\n" ∷
    sheet_mends "unit\tin\ncell\t1\t2\nnvp\t6\ngrid\t4\t3\t0\ncontour\t1\t7\t3\nv\t0\t0\t0\t0\nv\t0\t0\t4\t0\nv\t4\t0\t4\t0\n"
    "unit\tin\ncell\t1\t2\nnvp\t6\ngrid\t4\t3\t0\ncontour\t1\t7\t3\nv\t0\t0\t0\t0\nv\t0\t0\t4\t0\nv\t4\t0\t4\t0\n" "" ∷
    sheet_mends "" "refused\t21\t1\n" "refused\t21\t1\n" ∷
    []

-- each row holds
pub all_mend : AllMend mendings
unfolding rules mendings word marked seen_of mend_ended MendHolds traced trace_places is_doubled is_spike is_at_fault lowest_fault takes_flag lose_after place_then lose_two mend_at mend_loop mended traced_numbers traced_from mended_job kept_lengths kept_count lost_numbers traced_words kept_words vertices_in are_whole lengths_agree longer longest is_short_scratch is_list_full mend_outcome mend_reply_of mend_refusal_number mend_words scratch_wiped mended_numbers mend_exit_of mend_exit one_contour mended_sheet heading_text traced_line contours_text sheet_text mend_text lost_name contour_lines_above vertex_line_of lost_line lost_lines lost_text
all_mend =
    refl & refl & refl & refl & refl & refl & refl & refl & refl & refl & refl & refl & refl & refl & refl & refl &
    refl & refl & refl & refl & refl & refl & refl & refl & refl & refl & refl & refl & refl & refl & refl & refl &
    refl & refl & refl & refl & end
