-- The contours, one after the other, are mended: those that are done stand in front, the others are as they were. Assumes nothing.
-- Key: `mending_begin`, `mending_ready`, `mending_more`, `mending_end`: the loop's begin, what a contour asks for, its turn and its end.
use mathlib.Core.Path.{◌≡◌, refl, sym, ap, ap₂, ◌∙◌}
use mathlib.Core.Bool.{true}
use mathlib.Core.List.{List, [], ◌∷◌, ◌++◌, append_assoc, append-nil}
use Prim.Native.Nat.{ℕ, zero, suc, ◌+◌, ◌-◌, ◌*◌, ◌≤◌, ◌<◌}
use native.Mathlib.Omega.{arith}
use lib.ListN.{length, get_or, set, take, drop, length-append, length-map, get_or-append}
use lib.Seq.{get_or-drop, get_or_at}
use Rattle.mem.specs.Loops.{run, over, over_end, over_cong}
use Rattle.mem.specs.Slice.{splice, splice_nil, splice_snoc, splice_append, splice_whole, length_splice, get_or_splice_above}
use Rattle.mem.specs.Tab.{tab_cong}
use Rattle.mem.specs.Packed.{packed, packed_append}
use Rattle.rules.specs.Job.{job_stride, vertex_at, flag_at, sum_over}
use Rattle.rules.specs.Mend.{traced, Mending, mended}
use Rattle.rules.specs.MendCall.{vertices_most, traced_words, traced_from, mended_job, kept_lengths, kept_count, kept_words, lost_numbers, longest}
use Rattle.laws.proofs.Lists.{map_append}
use Rattle.laws.specs.MendNumbers.{mending_of}
use Rattle.laws.specs.MendWalked.{walked_by}
use Rattle.laws.proofs.MendWalked.{walked_same}
use Rattle.mend.specs.declared.contours.Tally.{Tally}
use Rattle.mend.specs.Contours.{ContourReady, ContourMended, AllReady, AllMended}
use Rattle.mend.proofs.Counting.{vertices_from, mended_from, mended_turn, mended_end, mended_all, longest_at, rest_above, contour_inside, lost_most}

-- vertices from the place `first` on are read alike
module _ (ns ms : List ℕ) (first : ℕ) (e : drop (first * job_stride) ns ≡ drop (first * job_stride) ms) where
  at_same : (i j : ℕ) → i ≡ first * job_stride + j → get_or ns i 0 ≡ get_or ms i 0
  at_same i j h = ap (λ (k : ℕ). get_or ns k 0) h ∙ sym (get_or-drop (first * job_stride) ns j 0)
      ∙ ap (λ (l : List ℕ). get_or l j 0) e ∙ get_or-drop (first * job_stride) ms j 0 ∙ ap (λ (k : ℕ). get_or ms k 0) (sym h)

  pub traced_same : (n : ℕ) → traced ns first n ≡ traced ms first n
  unfolding traced vertex_at flag_at
  traced_same n = tab_cong _ _ n (λ k h. rw (
    at_same ((first + k) * job_stride) (k * job_stride) (omega arith),
    at_same ((first + k) * job_stride + 1) (k * job_stride + 1) (omega arith),
    at_same ((first + k) * job_stride + 2) (k * job_stride + 2) (omega arith),
    at_same ((first + k) * job_stride + 3) (k * job_stride + 3) (omega arith),
  ) refl)

long_kept : (ms : List Mending) → length (kept_lengths ms) ≡ length ms
unfolding kept_lengths
long_kept ms = length-map ms (λ m. length m.points)

-- what the contours that are done come to, with one more behind them
module _ (done : List Mending) (m : Mending) where
  lost_more : lost_numbers (done ++ (m ∷ [])) ≡ lost_numbers done ++ m.lost
  unfolding lost_numbers packed
  lost_more = packed_append (λ m. m.lost) done (m ∷ []) ∙ ap (λ (l : List ℕ). lost_numbers done ++ l) (append-nil m.lost)

  words_more : kept_words (done ++ (m ∷ [])) ≡ kept_words done ++ packed traced_words m.points
  unfolding kept_words packed
  words_more = packed_append (λ m. packed traced_words m.points) done (m ∷ []) ∙ ap (λ (l : List ℕ). kept_words done ++ l) (append-nil
      (packed traced_words m.points))

  lengths_more : kept_lengths (done ++ (m ∷ [])) ≡ kept_lengths done ++ (length m.points ∷ [])
  unfolding kept_lengths
  lengths_more = map_append (λ m. length m.points) done (m ∷ [])

-- a sum with one more behind it
run_more : (f : ℕ → ℕ) (m i : ℕ) → run 0 ◌+◌ f i (suc m) ≡ run 0 ◌+◌ f i m + f (i + m)
unfolding run
run_more f zero i = let e : i + 0 ≡ i = omega arith in omega (arith, ap f e)
run_more f (suc m) i = let e : suc i + m ≡ i + suc m = omega arith in omega (arith, run_more f m (suc i), ap f e)

sum_more : (l : List ℕ) (x : ℕ) → sum_over (λ n. n) (l ++ (x ∷ [])) ≡ sum_over (λ n. n) l + x
unfolding sum_over over
sum_more l x =
    let f : ℕ → ℕ = λ c. get_or (l ++ (x ∷ [])) c 0 in
    let n : length (l ++ (x ∷ [])) - 0 ≡ suc (length l) = omega (arith, length-append l (x ∷ [])) in
    let z : length l - 0 ≡ length l = omega arith in
    let front : run 0 ◌+◌ f 0 (length l - 0) ≡ sum_over (λ n. n) l = over_cong 0 ◌+◌ f (λ c. get_or l c 0) 0 (length l) (λ j a b. get_or-append l
    (x ∷ []) 0 j b) in
    ap (run 0 ◌+◌ f 0) n ∙ run_more f (length l) 0 ∙ ap₂ ◌+◌ (ap (run 0 ◌+◌ f 0) (sym z) ∙ front) (get_or_at l x [] 0 (0 + length l) (omega arith))

count_more : (done : List Mending) (m : Mending) → kept_count (done ++ (m ∷ [])) ≡ kept_count done + length m.points
unfolding kept_count
count_more done m = ap (sum_over (λ n. n)) (lengths_more done m) ∙ sum_more (kept_lengths done) (length m.points)

pub record MendingAll (cs₀ ns₀ ls₀ ws₀ cs ns ls ws : List ℕ) (all : Tally) (first c : ℕ) : Type 0 where
  pub done : List Mending
  pub same : mended_job cs₀ ns₀ ≡ done ++ mended_from cs₀ ns₀ first c
  pub so_far : length done ≡ c
  pub vertices : first + vertices_from cs₀ c ≡ sum_over (λ n. n) cs₀
  pub kept : all.kept ≡ kept_count done
  pub lost : all.lost ≡ length (lost_numbers done)
  pub whole : all.kept + all.lost ≡ first
  pub lengths : cs ≡ splice cs₀ 0 (kept_lengths done)
  pub words : take (all.kept * job_stride) ns ≡ kept_words done
  pub behind : drop (first * job_stride) ns ≡ drop (first * job_stride) ns₀
  pub list : ls ≡ splice ls₀ 0 (lost_numbers done)
  pub rest : drop (longest cs₀) ws ≡ drop (longest cs₀) ws₀
  pub long_lengths : length cs ≡ length cs₀
  pub long_numbers : length ns ≡ length ns₀
  pub long_list : length ls ≡ length ls₀
  pub long_work : length ws ≡ length ws₀

pub mending_begin : (cs ns ls ws : List ℕ) → MendingAll cs ns ls ws cs ns ls ws (record { kept = 0; lost = 0 }) 0 0
unfolding sum_over kept_count kept_lengths kept_words lost_numbers packed over run
mending_begin cs ns ls ws = record {
  done = [];
  same = mended_all cs ns;
  so_far = refl;
  vertices = omega arith;
  kept = refl;
  lost = refl;
  whole = omega arith;
  lengths = sym (splice_nil cs 0);
  words = refl;
  behind = refl;
  list = sym (splice_nil ls 0);
  rest = refl;
  long_lengths = refl;
  long_numbers = refl;
  long_list = refl;
  long_work = refl;
}

module _ {cs₀ ns₀ ls₀ ws₀ : List ℕ} (r : AllReady cs₀ ns₀ ls₀ ws₀) {cs ns ls ws : List ℕ} {all : Tally} {first c : ℕ}
    (g : MendingAll cs₀ ns₀ ls₀ ws₀ cs ns ls ws all first c) (h : c < length cs) where
  below : c < length cs₀
  below = omega (arith, h, g.long_lengths)

  -- the length that is read is the one that was handed in
  length_now : get_or cs c 0 ≡ get_or cs₀ c 0
  length_now = ap (λ (l : List ℕ). get_or l c 0) g.lengths
      ∙ get_or_splice_above cs₀ 0 c (kept_lengths g.done) 0 (omega (arith, g.so_far, long_kept g.done))

  abbrev next : Mending
  next = mended (traced ns₀ first (get_or cs₀ c 0))

  -- the contour is as it was handed in
  next_now : mended (traced ns first (get_or cs₀ c 0)) ≡ next
  next_now = ap mended (traced_same ns ns₀ first g.behind (get_or cs₀ c 0))

  -- the mendings up to this one, and those that follow
  all_then : mended_job cs₀ ns₀ ≡ (g.done ++ (next ∷ [])) ++ mended_from cs₀ ns₀ (first + get_or cs₀ c 0) (c + 1)
  all_then = g.same ∙ ap (λ (l : List Mending). g.done ++ l) (mended_turn cs₀ ns₀ first c below)
      ∙ sym (append_assoc g.done (next ∷ []) (mended_from cs₀ ns₀ (first + get_or cs₀ c 0) (c + 1)))

  -- the list has room for what this one loses
  lost_fits : all.lost + length next.lost ≤ length (lost_numbers (mended_job cs₀ ns₀))
  unfolding lost_numbers
  lost_fits =
      let later = mended_from cs₀ ns₀ (first + get_or cs₀ c 0) (c + 1) in
      omega (
        arith,
        g.lost,
        ap (λ (ms : List Mending). length (lost_numbers ms)) all_then,
        ap length (packed_append (λ m. m.lost) (g.done ++ (next ∷ [])) later),
        length-append (lost_numbers (g.done ++ (next ∷ []))) (lost_numbers later),
        ap length (lost_more g.done next),
        length-append (lost_numbers g.done) next.lost,
      )

  module _ {n : ℕ} (e : n ≡ get_or cs c 0) where
    is_n : n ≡ get_or cs₀ c 0
    is_n = e ∙ length_now

    ahead : first + n + vertices_from cs₀ (c + 1) ≡ sum_over (λ n. n) cs₀
    ahead = ap (λ (k : ℕ). first + k + vertices_from cs₀ (c + 1)) is_n ∙ contour_inside cs₀ first c below g.vertices

    inside : (first + n) * job_stride ≤ length ns
    inside = omega (arith, ahead, r.count.inside, g.long_numbers)

    -- what the walk loses is what the sentences lose
    walk_lost : length (walked_by true ns first n).lost ≡ length next.lost
    unfolding mending_of
    walk_lost = ap (λ (m : Mending). length m.lost) (sym (walked_same ns first n inside) ∙ ap (λ (k : ℕ). mended (traced ns first k)) is_n ∙ next_now)

    pub mending_ready : ContourReady ns ls ws first n all.kept all.lost
    mending_ready = record {
      walk = record {
        fits = omega (arith, is_n, longest_at cs₀ c below, r.count.fits, g.long_work);
        small = omega (arith, ahead, r.count.small);
        few = omega (arith, g.whole);
        inside = inside;
        room = omega (arith, walk_lost, lost_fits, r.room, g.long_list);
      };
      down = omega (arith, g.whole);
    }

    -- no count is too great
    pub mending_small : {one : Tally} {ns' ls' ws' : List ℕ} → ContourMended first n all.kept all.lost one ns ls ws ns' ls' ws'
        → all.kept + one.kept ≤ vertices_most
    mending_small w = omega (arith, g.whole, w.count, lost_most ns first n, ahead, r.count.small)

    pub mending_more : {one : Tally} {ns' ls' ws' : List ℕ} → ContourMended first n all.kept all.lost one ns ls ws ns' ls' ws'
        → MendingAll cs₀ ns₀ ls₀ ws₀ (set cs c one.kept) ns' ls' ws' (record { kept = all.kept + one.kept; lost = one.lost }) (first + n) (c + 1)
    mending_more {one} {ns'} {ls'} {ws'} w =
        let m : mended (traced ns first n) ≡ next = ap (λ (k : ℕ). mended (traced ns first k)) is_n ∙ next_now in
        let count : one.kept ≡ length next.points = w.count ∙ ap (λ (m : Mending). length m.points) m in
        let so_many : 0 + length (kept_lengths g.done) ≡ c = omega (arith, long_kept g.done, g.so_far) in
        let lengths : set cs c one.kept ≡ splice cs₀ 0 (kept_lengths (g.done ++ (next ∷ []))) =
        ap₂ (λ (l : List ℕ) (x : ℕ). set l c x) g.lengths count ∙ ap (λ (k : ℕ). set (splice cs₀ 0 (kept_lengths g.done)) k (length next.points))
        (sym so_many)
        ∙ splice_snoc cs₀ 0 (kept_lengths g.done) (length next.points) ∙ ap (splice cs₀ 0) (sym (lengths_more g.done next)) in
        let at : all.lost ≡ 0 + length (lost_numbers g.done) = omega (arith, g.lost) in
        let list : ls' ≡ splice ls₀ 0 (lost_numbers (g.done ++ (next ∷ []))) =
        w.list ∙ ap₂ (λ (l xs : List ℕ). splice l all.lost xs) g.list (ap (λ (m : Mending). m.lost) m)
        ∙ ap (λ (k : ℕ). splice (splice ls₀ 0 (lost_numbers g.done)) k next.lost) at
        ∙ splice_append ls₀ 0 (lost_numbers g.done) next.lost ∙ ap (splice ls₀ 0) (sym (lost_more g.done next)) in
        record {
          done = g.done ++ (next ∷ []);
          same = all_then ∙ ap (λ (k : ℕ). (g.done ++ (next ∷ [])) ++ mended_from cs₀ ns₀ (first + k) (c + 1)) (sym is_n);
          so_far = omega (arith, length-append g.done (next ∷ []), g.so_far);
          vertices = ahead;
          kept = omega (arith, g.kept, count, count_more g.done next);
          lost = w.lost ∙ ap₂ ◌+◌ g.lost (ap (λ (m : Mending). length m.lost) m) ∙ sym (ap length (lost_more g.done next) ∙ length-append
              (lost_numbers g.done) next.lost);
          whole = omega (arith, g.whole, w.count, w.lost, lost_most ns first n);
          lengths = lengths;
          words = w.kept ∙ ap₂ ◌++◌ g.words (ap (λ (m : Mending). packed traced_words m.points) m) ∙ sym (words_more g.done next);
          behind = w.behind ∙ rest_above ns₀ ns (first * job_stride) ((first + n) * job_stride) (omega arith) g.behind;
          list = list;
          rest = rest_above ws ws' n (longest cs₀) (omega (arith, is_n, longest_at cs₀ c below)) w.rest ∙ g.rest;
          long_lengths = ap length lengths ∙ length_splice cs₀ 0 (kept_lengths (g.done ++ (next ∷ [])));
          long_numbers = w.long_numbers ∙ g.long_numbers;
          long_list = ap length list ∙ length_splice ls₀ 0 (lost_numbers (g.done ++ (next ∷ [])));
          long_work = w.long_work ∙ g.long_work;
        }

long_from : (ns : List ℕ) (first : ℕ) (cs : List ℕ) → length (traced_from ns first cs) ≡ length cs
unfolding traced_from
long_from ns first [] = refl
long_from ns first (n ∷ cs) = ap suc (long_from ns (first + n) cs)

long_job : (cs ns : List ℕ) → length (mended_job cs ns) ≡ length cs
unfolding mended_job
long_job cs ns = length-map (traced_from ns 0 cs) mended ∙ long_from ns 0 cs

pub mending_end : {cs₀ ns₀ ls₀ ws₀ cs ns ls ws : List ℕ} {all : Tally} {first c : ℕ} → MendingAll cs₀ ns₀ ls₀ ws₀ cs ns ls ws all first c → length cs ≤ c
    → AllMended all cs₀ ns₀ ls₀ ws₀ cs ns ls ws
mending_end {cs₀} {ns₀} {ls₀} {all = all} {first} {c} g h =
    let past : length cs₀ ≤ c = omega (arith, h, g.long_lengths) in
    let is : mended_job cs₀ ns₀ ≡ g.done = g.same ∙ ap (λ (l : List Mending). g.done ++ l) (mended_end cs₀ ns₀ first c past) ∙ append-nil g.done in
    let job-long : length (mended_job cs₀ ns₀) ≡ length cs₀ = long_job cs₀ ns₀ in
    let so_many : length (kept_lengths g.done) ≡ length cs₀ = long_kept g.done ∙ sym (ap length is) ∙ job-long in
    record {
      kept = g.kept ∙ ap kept_count (sym is);
      lost = g.lost ∙ ap (λ (ms : List Mending). length (lost_numbers ms)) (sym is);
      lengths = g.lengths ∙ splice_whole cs₀ (kept_lengths g.done) so_many ∙ ap kept_lengths (sym is);
      words = g.words ∙ ap kept_words (sym is);
      whole = omega (arith, g.whole, g.vertices, over_end 0 ◌+◌ (λ i. get_or cs₀ i 0) c (length cs₀) past);
      list = g.list ∙ ap (λ (ms : List Mending). splice ls₀ 0 (lost_numbers ms)) (sym is);
      long_numbers = g.long_numbers;
      rest = g.rest;
      long_work = g.long_work;
    }
