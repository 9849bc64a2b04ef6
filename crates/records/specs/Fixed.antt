-- What is stored is what is loaded: laws of records that have a fixed number of words and hold nothing else, as sides, points of the chain and edges do.
-- Assumes nothing.
-- Key: `Fixed` says what is particular to one kind of record, and `side_fixed`, `point_fixed`, `edge_fixed` are the kinds. Each law is said once, of any kind.
use Rattle.std.specs.Prelude.{◌≡◌, refl, ℕ, zero, suc, ◌+◌, ◌*◌, ◌≤◌, ◌<◌, length, take, get_or, set}
use Rattle.std.proofs.Common.{sym, ap, ◌∙◌, le_refl, add-zero, arith, take_all}
use mathlib.Core.List.{List, [], ◌∷◌, ◌++◌, append-nil}
use Rattle.mem.specs.Slice.{view, splice, splice_append}
use Rattle.mem.specs.Tab.{tab, tab_cong, tab_take, tab_view, take_tab, blocks, length_blocks, get_or_blocks, blocks_view}
use Rattle.mem.specs.Loops.{block_fits}
use Rattle.mem.specs.Packed.{Every, every_of, packed, packed_append, packed_put, length_packed, unpacked, repacked}
use Rattle.rules.specs.Removal.{no_side, no_point}
use Rattle.rules.specs.Links.{no_edge}
use Rattle.records.specs.Layout.{side_size, side_in, side_words, sides_at, side_records}
use Rattle.records.specs.Layout.{point_size, point_in, point_words, points_at, point_records}
use Rattle.records.specs.Layout.{edge_size, edge_in, edge_words, edges_at, edge_records}

-- a kind of record: `manyAt w o n` are the n from o on, `words bs` the words of a list, `dec` and `enc` read and write one of `size` words, and `d` stands past
-- the end of a list
pub record Fixed {B : Type 0} (manyAt : List ℕ → ℕ → ℕ → List B) (words : List B → List ℕ) (dec : List ℕ → B) (enc : B → List ℕ)
    (size : ℕ) (d : B) : Type 0 where
  pub is_blocks : (w : List ℕ) (o n : ℕ) → manyAt w o n ≡ blocks dec w o size n
  pub is_packed : (bs : List B) → words bs ≡ packed enc bs
  pub sized : (b : B) → length (enc b) ≡ size
  pub back : (b : B) → dec (enc b) ≡ b
  pub forth : (ws : List ℕ) → length ws ≡ size → enc (dec ws) ≡ ws

-- words read one by one are the words
read_all : (ws : List ℕ) (n : ℕ) → length ws ≡ n → tab (λ k. get_or ws k 0) n ≡ ws
read_all ws n e = tab_take ws n 0 (omega arith) ∙ take_all n ws (omega arith)

pub side_fixed : Fixed sides_at side_records side_in side_words side_size no_side
unfolding sides_at side_records side_in side_words tab
side_fixed = record { is_blocks = λ w o n. refl; is_packed = λ ss. refl; sized = λ s. refl; back = λ s. refl; forth = λ ws e. read_all ws side_size e }

pub point_fixed : Fixed points_at point_records point_in point_words point_size no_point
unfolding points_at point_records point_in point_words tab
point_fixed = record { is_blocks = λ w o n. refl; is_packed = λ cs. refl; sized = λ c. refl; back = λ c. refl; forth = λ ws e. read_all ws point_size e }

pub edge_fixed : Fixed edges_at edge_records edge_in edge_words edge_size no_edge
unfolding edges_at edge_records edge_in edge_words tab
edge_fixed = record { is_blocks = λ w o n. refl; is_packed = λ es. refl; sized = λ e. refl; back = λ e. refl; forth = λ ws e. read_all ws edge_size e }

-- ---- words read one by one, as the code does it: at `at`, at + 1, at + 2, ..

unfoldable pub word_at : List ℕ → ℕ → ℕ → ℕ
word_at w at zero = get_or w at 0
word_at w at (suc k) = get_or w (at + suc k) 0

word_is : (w : List ℕ) (at k : ℕ) → word_at w at k ≡ get_or w (at + k) 0
unfolding word_at
word_is w at zero = ap (λ (m : ℕ). get_or w m 0) (sym (add-zero at))
word_is w at (suc k) = refl

pub words_view : (w : List ℕ) (at n : ℕ) → at + n ≤ length w → tab (word_at w at) n ≡ view w at n
words_view w at n h = tab_cong _ _ n (λ k a. word_is w at k) ∙ tab_view w at n 0 h

module _ {B : Type 0} {manyAt : List ℕ → ℕ → ℕ → List B} {words : List B → List ℕ} {dec : List ℕ → B} {enc : B → List ℕ} {size : ℕ} {d : B}
    (f : Fixed manyAt words dec enc size d) where
  -- ---- the words of a list, and the list that words hold

  Any : B → Type 0
  Any b = Unit

  any_sized : (b : B) → Any b → length (enc b) ≡ size
  any_sized b h = f.sized b

  any_back : (b : B) → Any b → dec (enc b) ≡ b
  any_back b h = f.back b

  every : (bs : List B) → Every Any d bs
  unfolding Any
  every bs = every_of Any d bs (λ i. tt)

  pub fixed_length : (bs : List B) → length (words bs) ≡ length bs * size
  fixed_length bs = rw (f.is_packed bs) (length_packed enc size Any d any_sized bs (every bs))

  pub fixed_append : (bs cs : List B) → words (bs ++ cs) ≡ words bs ++ words cs
  fixed_append bs cs = rw (f.is_packed (bs ++ cs), f.is_packed bs, f.is_packed cs) (packed_append enc bs cs)

  pub fixed_one : (b : B) → words (b ∷ []) ≡ enc b
  unfolding packed
  fixed_one b = f.is_packed (b ∷ []) ∙ append-nil (enc b)

  pub fixed_count : (w : List ℕ) (o n : ℕ) → length (manyAt w o n) ≡ n
  fixed_count w o n = rw (f.is_blocks w o n) (length_blocks dec w o size n)

  -- the first m of n
  pub fixed_take : (w : List ℕ) (o n m : ℕ) → m ≤ n → take m (manyAt w o n) ≡ manyAt w o m
  unfolding blocks
  fixed_take w o n m h = rw (f.is_blocks w o n, f.is_blocks w o m) (take_tab _ n m h)

  -- those of a part
  pub fixed_view : (w : List ℕ) (q m n : ℕ) → n * size ≤ m → manyAt (view w q m) 0 n ≡ manyAt w q n
  fixed_view w q m n h = rw (f.is_blocks (view w q m) 0 n, f.is_blocks w q n) (blocks_view dec w q m size n h)

  -- the words of a list are those that it was read from
  pub fixed_words : (w : List ℕ) (o n : ℕ) → o + n * size ≤ length w → words (manyAt w o n) ≡ view w o (n * size)
  fixed_words w o n h = rw (f.is_packed (manyAt w o n), f.is_blocks w o n) (repacked enc dec size f.forth w o n h)

  -- one of n, read word by word
  pub fixed_loaded : (w : List ℕ) (o n i : ℕ) → o + n * size ≤ length w → i < n → dec (tab (word_at w (o + i * size)) size) ≡ get_or (manyAt w o n) i d
  fixed_loaded w o n i h a =
      rw (f.is_blocks w o n, words_view w (o + i * size) size (omega (arith, block_fits i n size (n * size) a (le_refl (n * size)))))
      (sym (get_or_blocks dec w o size n i d a))

  -- ---- w is v with the words of bs from o on
  module _ {w : List ℕ} (v : List ℕ) (o n : ℕ) (bs : List B) (e : w ≡ splice v o (words bs)) (l : length bs ≡ n) (fits : o + n * size ≤ length v) where
    -- what is read is bs
    pub fixed_are : manyAt w o n ≡ bs
    fixed_are = rw (f.is_blocks w o n, e, f.is_packed bs, ← l) (unpacked enc size Any d any_sized v o bs (every bs) (rw l fits) dec any_back)

    -- one of them written anew
    pub fixed_put : (i : ℕ) (b : B) → i < n → splice w (o + i * size) (enc b) ≡ splice v o (words (set bs i b))
    unfolding Any
    fixed_put i b h = rw (e, f.is_packed bs, f.is_packed (set bs i b)) (packed_put enc size Any d any_sized v o bs (every bs) (rw l fits) i b tt (rw l h))

  -- one more, whether or not it fits
  pub fixed_more : {w : List ℕ} (v : List ℕ) (o n : ℕ) (bs : List B) → w ≡ splice v o (words bs) → length bs ≡ n
      → (b : B) → splice w (o + n * size) (enc b) ≡ splice v o (words (bs ++ (b ∷ [])))
  fixed_more v o n bs e l b = rw (e, ← l, ← fixed_length bs, fixed_append bs (b ∷ []), fixed_one b) (splice_append v o (words bs) (enc b))
