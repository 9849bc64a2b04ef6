-- What whoever reads and writes the bytes of an STL meets: each number, point, facet and header is these bytes, and each test of a byte is one of these.
-- Assumes nothing.
-- Key: `four_bytes`, `point_written`, `facet_written`, `header_written`, `file_written`; `due_header` and the three behind it, `wrong_due`, `wrong_free`;
-- `short_is_wrong`, `long_is_right`; `facet_in_lem`; `Reads`, the invariant of a loop that reads facet after facet.
use Rattle.std.specs.Prelude.{◌≡◌, true, false, not, leb, eqb, Float, length, get_or, replicate}
use Rattle.std.proofs.Math.Path.{refl}
use Rattle.std.proofs.Common.{sym, ap, ◌∙◌, add-zero}
use mathlib.Core.List.{List, [], ◌∷◌, ◌++◌}
use Prim.Native.Nat.{ℕ, ◌+◌, ◌-◌, ◌*◌, ◌%◌, ◌≤◌, ◌<◌}
use native.Mathlib.Omega.{arith}
use borrow.Author.Tests.{le-ltb, lt-ltb, le-leb, lt-leb}
use Rattle.mem.specs.Slice.{view, view_view, splice, splice_append, get_or_view}
use Rattle.mem.specs.Tab.{blocks, tab, tab_cong, length_blocks, get_or_blocks}
use Rattle.mem.specs.Packed.{packed, Every, every_tab, Laid, laid_none, laid_more, laid_all}
use Rattle.rules.specs.declared.Vertex.{Vertex}
use Rattle.rules.specs.Stl.{little, from_little, point_of, facet_of, facet_bytes, file_of, file_length}
use Rattle.rules.specs.Stl.{count_in, right_length, zero_due, wrong_at, facet_in, facets_in, no_facet}
use Rattle.rules.specs.StlCall.{facet_words, point_words}

-- ---- four bytes, as they are read

pub four_bytes : (w : List ℕ) (o : ℕ)
    → get_or w o 0 + 256 * get_or w (o + 1) 0 + 65536 * get_or w (o + 2) 0 + 16777216 * get_or w (o + 3) 0 ≡ from_little (view w o 4)
unfolding from_little
four_bytes w o =
    rw (
      get_or_view w o 4 0 0 (omega arith),
      get_or_view w o 4 1 0 (omega arith),
      get_or_view w o 4 2 0 (omega arith),
      get_or_view w o 4 3 0 (omega arith),
      add-zero o,
    ) refl

-- ---- what is written, one piece behind another

piece : {u w : List ℕ} (v : List ℕ) (o i : ℕ) (xs ys : List ℕ) → w ≡ splice v o xs → length xs ≡ i → u ≡ splice w (o + i) ys → u ≡ splice v o (xs ++ ys)
piece v o i xs ys e f g = g ∙ rw (e, ← f) (splice_append v o xs ys)

-- three coordinates
pub point_written : (w : List ℕ) (o a b c : ℕ) {x y z : List ℕ} → x ≡ splice w o (little a) → y ≡ splice x (o + 4) (little b)
    → z ≡ splice y (o + 8) (little c) → z ≡ splice w o (packed little (a ∷ b ∷ c ∷ []))
unfolding little packed
point_written w o a b c d e f = piece w o 8 (little a ++ little b) (little c) (piece w o 4 (little a) (little b) d refl e) refl f

-- a normal, three points, and an attribute
module _ (size height : Float) where
  -- the bytes of a point
  abbrev pub point_bytes : Vertex → List ℕ
  point_bytes v = packed little (point_of size height v)

  pub facet_written : (a b c : Vertex) (w : List ℕ) (o : ℕ) {v x y z u : List ℕ} → v ≡ splice w o (replicate 12 0) → x ≡ splice v (o + 12) (point_bytes a)
      → y ≡ splice x (o + 24) (point_bytes b) → z ≡ splice y (o + 36) (point_bytes c) → u ≡ splice z (o + 48) (replicate 2 0)
      → u ≡ splice w o (facet_bytes (facet_of size height a b c))
  unfolding facet_bytes facet_of point_of packed little
  facet_written a b c w o d e f g h =
      let p : Vertex → List ℕ = point_bytes in
      piece w o 48 (replicate 12 0 ++ (p a ++ (p b ++ p c))) (replicate 2 0)
      (piece w o 36 (replicate 12 0 ++ (p a ++ p b)) (p c)
      (piece w o 24 (replicate 12 0 ++ p a) (p b)
      (piece w o 12 (replicate 12 0) (p a) d refl e) refl f) refl g) refl h

-- the bytes in front of the facets, and then all of a file
pub header_written : (w : List ℕ) (n : ℕ) {v u : List ℕ} → v ≡ splice w 0 (replicate 80 0) → u ≡ splice v 80 (little n)
    → u ≡ splice w 0 (replicate 80 0 ++ little n)
header_written w n d e = piece w 0 80 (replicate 80 0) (little n) d refl e

pub file_written : (w : List ℕ) (n : ℕ) (fs : List (List ℕ)) {v u : List ℕ} → n ≡ length fs → v ≡ splice w 0 (replicate 80 0 ++ little n)
    → u ≡ splice v 84 (packed facet_bytes fs) → u ≡ splice w 0 (file_of fs)
unfolding file_of little
file_written w n fs e d f = piece w 0 84 (replicate 80 0 ++ little (length fs)) (packed facet_bytes fs) (rw e at d) refl f

-- ---- where zero is due

module _ (i : ℕ) where
  pub due_header : i < 80 → true ≡ zero_due i
  unfolding zero_due
  due_header h = rw (lt-ltb i 80 h) refl

  pub due_count : 80 ≤ i → i < 84 → false ≡ zero_due i
  unfolding zero_due
  due_count h k = rw (le-ltb i 80 h, lt-leb 84 i k) refl

  pub due_normal : 84 ≤ i → (i - 84) % 50 < 12 → true ≡ zero_due i
  unfolding zero_due
  due_normal h k = let e : 80 ≤ i = omega arith in rw (le-ltb i 80 e, le-leb 84 i h, lt-ltb ((i - 84) % 50) 12 k) refl

  pub due_attribute : 84 ≤ i → 12 ≤ (i - 84) % 50 → leb 48 ((i - 84) % 50) ≡ zero_due i
  unfolding zero_due
  due_attribute h k = let e : 80 ≤ i = omega arith in rw (le-ltb i 80 e, le-leb 84 i h, le-ltb ((i - 84) % 50) 12 k) refl

-- whether a byte is wrong
pub wrong_due : (bs : List ℕ) (i : ℕ) → zero_due i ≡ true → not (eqb (get_or bs i 0) 0) ≡ wrong_at bs i
unfolding wrong_at
wrong_due bs i h = rw h refl

pub wrong_free : (bs : List ℕ) (i : ℕ) → zero_due i ≡ false → false ≡ wrong_at bs i
unfolding wrong_at
wrong_free bs i h = rw h refl

-- ---- whether the length is right

pub short_is_wrong : (bs : List ℕ) → length bs < 84 → false ≡ right_length bs
unfolding right_length
short_is_wrong bs h = rw (lt-leb 84 (length bs) h) refl

pub long_is_right : (bs : List ℕ) → 84 ≤ length bs → eqb (length bs) (84 + count_in bs * 50) ≡ right_length bs
unfolding right_length file_length
long_is_right bs h = rw (le-leb 84 (length bs) h) refl

-- ---- the patterns of a facet, and of all

pub facet_in_lem : (w : List ℕ) (o : ℕ) → tab (λ i. from_little (view w (o + 12 + i * 4) 4)) 9 ≡ facet_in (view w o 50)
unfolding facet_in blocks
facet_in_lem w o =
    tab_cong (λ i. from_little (view w (o + 12 + i * 4) 4)) (λ i. from_little (view (view w o 50) (12 + i * 4) 4)) 9
    (λ i a. let e : o + (12 + i * 4) ≡ o + 12 + i * 4 = omega arith in
    ap from_little (rw (← e) (sym (view_view w o 50 (12 + i * 4) 4 (omega arith)))))

abbrev Nine : List ℕ → Type 0
Nine f = length f ≡ 9

nine_in : (w : List ℕ) → Nine (facet_in w)
unfolding facet_in
nine_in w = length_blocks from_little w 12 4 9

nine_words : (f : List ℕ) → Nine f → length (facet_words f) ≡ 9
unfolding facet_words
nine_words f h = h

module _ (bs : List ℕ) where
  nines : Every Nine no_facet (facets_in bs)
  unfolding facets_in blocks
  nines = every_tab Nine no_facet (λ i. facet_in (view bs (84 + i * 50) 50)) (count_in bs) refl (λ i a. nine_in (view bs (84 + i * 50) 50))

  pub facets_in_long : length (facets_in bs) ≡ count_in bs
  unfolding facets_in
  facets_in_long = length_blocks facet_in bs 84 50 (count_in bs)

  facet_at_lem : (k : ℕ) → k < count_in bs → get_or (facets_in bs) k no_facet ≡ facet_in (view bs (84 + k * 50) 50)
  unfolding facets_in
  facet_at_lem k h = get_or_blocks facet_in bs 84 50 (count_in bs) k no_facet h

  -- k of the facets are in their words
  abbrev pub Reads : List ℕ → List ℕ → ℕ → Type 0
  Reads v w k = Laid facet_words v 0 (facets_in bs) w k

  pub reads_none : (v : List ℕ) → Reads v v 0
  reads_none v = laid_none facet_words v 0 (facets_in bs)

  pub reads_more : {v w u : List ℕ} {k n : ℕ} → Reads v w k → n ≡ count_in bs → k < n → u ≡ splice w (k * 9) (facet_in (view bs (84 + k * 50) 50))
      → Reads v u (k + 1)
  unfolding facet_words
  reads_more {v} {w} {u} {k} {n} r e h f =
      let a : k < count_in bs = omega arith in
      let z : 0 + k * 9 ≡ k * 9 = omega arith in
      laid_more facet_words v 0 (facets_in bs) r 9 Nine no_facet {u = u} nine_words nines (rw facets_in_long a) (rw (z, facet_at_lem k a) f)

  pub reads_all : {v w : List ℕ} {k n : ℕ} → Reads v w k → n ≡ count_in bs → n ≤ k → w ≡ splice v 0 (point_words (facets_in bs))
  unfolding point_words
  reads_all {v} {w} {k} {n} r e h = laid_all facet_words v 0 (facets_in bs) r (rw facets_in_long (omega arith))
