-- Request 11, what `rules` states in its file `Stl`: a file that was written reads back as its facets, bit for bit; its length; and its count of facets, which
-- fits 32 bits. Assumes nothing.
-- Key: `reads_back`, `mesh_reads_back`, `file_is_long`, `count_fits`; `over_through` and `sum_most`, for loops over polygons.
use Rattle.std.specs.Prelude.{◌≡◌, false, ◌&&◌, ◌||◌, ltb, Float, None}
use Rattle.std.proofs.Math.Path.{refl, sym, ap}
use Rattle.std.proofs.Common.{◌∙◌}
use Rattle.std.proofs.Math.Bool.{true}
use mathlib.Core.List.{List, [], ◌∷◌, ◌++◌, append-nil}
use Rattle.std.proofs.Math.Logic.{⊎_elim}
use Prim.Native.Nat.{ℕ, zero, suc, ◌+◌, ◌-◌, ◌*◌, ◌/◌, ◌%◌, ◌≤◌, ◌<◌}
use Rattle.std.proofs.Math.Nat.{div-add-mod', suc-mul}
use native.Mathlib.Omega.{arith}
use borrow.Author.Tests.{le-ltb, le-leb, eq-eqb, leb-true}
use Rattle.std.proofs.Math.Dec.{leb}
use Rattle.std.proofs.Math.ListN.{length, get_or, replicate, length-append, get_or-replicate, get_or-append}
use Rattle.std.proofs.Math.Seq.{get_or-append-add}
use Rattle.ints.specs.Bools.{and_left, and_right}
use Rattle.mem.specs.Slice.{get_or_view}
use Rattle.mem.specs.Cases.{lt_or_le, by_test}
use Rattle.mem.specs.Loops.{run, over, over_ind, over_cong}
use Rattle.mem.specs.Tab.{blocks, length_tab}
use Rattle.mem.specs.Packed.{packed, length_packed, packed_view, Every, every_of, every_at, every_same, every_append, every_tab}
use Rattle.rules.specs.Mesh.{Polygon, polygon_at}
use Rattle.rules.specs.declared.Vertex.{Vertex}
use Rattle.rules.specs.Stl.{coordinate, little, corner_of, point_of, facet_of, fan_of, facets_of, facet_count, facet_bytes, file_of, file_length}
use Rattle.rules.specs.Stl.{facets_read, count_in, right_length, zero_due, wrong_at, first_wrong, facet_in, facets_in, after_zeros, reading}
use Rattle.rules.specs.Stl.{IsFacet, no_facet, AreFacets, ReadsBack, MeshReadsBack, FileIsLong, CountFits}
use Rattle.laws.proofs.Lowest.{first_no}
use Rattle.laws.proofs.StlFloats.{coordinate_small}
use Rattle.laws.specs.StlBytes.{Small}
use Rattle.laws.proofs.StlBytes.{from_little_lem, between_read, facet_long, facet_read, normal_zero, attribute_zero}

-- ---- the file of some facets

module _ (fs : List (List ℕ)) (all : AreFacets fs) where
  every : Every IsFacet no_facet fs
  every = every_of IsFacet no_facet fs all

  facets_long : length (packed facet_bytes fs) ≡ length fs * 50
  facets_long = length_packed facet_bytes 50 IsFacet no_facet facet_long fs every

  pub file_long : length (file_of fs) ≡ file_length (length fs)
  unfolding file_of file_length little
  file_long = simp facets_long (omega arith)

  count_read : length fs < 4294967296 → count_in (file_of fs) ≡ length fs
  unfolding count_in file_of little
  count_read h = from_little_lem (length fs) h

  in_parts : file_of fs ≡ (replicate 80 0 ++ little (length fs)) ++ (packed facet_bytes fs ++ [])
  unfolding file_of little
  in_parts = ap (λ (l : List ℕ). replicate 80 0 ++ (little (length fs) ++ l)) (sym (append-nil (packed facet_bytes fs)))

  beginning_long : length (replicate 80 0 ++ little (length fs)) ≡ 84
  unfolding little
  beginning_long = refl

  facets_read_lem : length fs < 4294967296 → facets_in (file_of fs) ≡ fs
  unfolding facets_in
  facets_read_lem h =
      rw (count_read h) (ap (λ (l : List ℕ). blocks facet_in l 84 50 (length fs)) in_parts
      ∙ between_read facet_bytes 50 IsFacet no_facet facet_long facet_in facet_read (replicate 80 0 ++ little (length fs)) [] 84 fs beginning_long every)

  -- where zero is due there is zero
  header_zero : (i : ℕ) → i < 80 → get_or (file_of fs) i 0 ≡ 0
  unfolding file_of
  header_zero i h = get_or-append (replicate 80 0) (little (length fs) ++ packed facet_bytes fs) 0 i h ∙ get_or-replicate 80 i 0 0 h

  facet_byte : (k j : ℕ) → k < length fs → j < 50 → get_or (file_of fs) (84 + (k * 50 + j)) 0 ≡ get_or (facet_bytes (get_or fs k no_facet)) j 0
  unfolding file_of little
  facet_byte k j a b =
      let e : 84 + (k * 50 + j) ≡ 80 + (4 + (k * 50 + j)) = omega arith in
      rw e (get_or-append-add (replicate 80 0) (little (length fs) ++ packed facet_bytes fs) (4 + (k * 50 + j)) 0
      ∙ get_or-append-add (little (length fs)) (packed facet_bytes fs) (k * 50 + j) 0
      ∙ sym (get_or_view (packed facet_bytes fs) (k * 50) 50 j 0 b)
      ∙ ap (λ (l : List ℕ). get_or l j 0) (packed_view facet_bytes 50 IsFacet no_facet facet_long fs k every a))

  facet_zero : (k j : ℕ) → k < length fs → j < 50 → (ltb j 12 || leb 48 j) ≡ true → get_or (file_of fs) (84 + (k * 50 + j)) 0 ≡ 0
  facet_zero k j a b h =
      facet_byte k j a b ∙ ⊎_elim
      (λ (l : j < 12). normal_zero (get_or fs k no_facet) j l)
      (λ (l : 12 ≤ j).
      let late : leb 48 j ≡ true = rw (le-ltb j 12 l) at h in
      let m : 48 ≤ j = leb-true 48 j late in
      let e : j ≡ 48 + (j - 48) = omega arith in
      rw e (attribute_zero (get_or fs k no_facet) (j - 48) (every_at IsFacet no_facet fs every k) (omega arith)))
      (lt_or_le j 12)

  due_zero : (i : ℕ) → i < length (file_of fs) → zero_due i ≡ true → get_or (file_of fs) i 0 ≡ 0
  unfolding zero_due file_length
  due_zero i a h = let j = (i - 84) % 50 in ⊎_elim
      (λ (l : i < 80). header_zero i l)
      (λ (l : 80 ≤ i).
      let u : (leb 84 i && (ltb j 12 || leb 48 j)) ≡ true = rw (le-ltb i 80 l) at h in
      let v : 84 ≤ i = leb-true 84 i (and_left (leb 84 i) (ltb j 12 || leb 48 j) u) in
      let n : i < 84 + length fs * 50 = rw file_long at a in
      let e : i ≡ 84 + ((i - 84) / 50 * 50 + j) = omega (arith, div-add-mod' (i - 84) 50) in
      rw e (facet_zero ((i - 84) / 50) j (omega (arith, div-add-mod' (i - 84) 50)) (omega arith) (and_right (leb 84 i) (ltb j 12 || leb 48 j) u)))
      (lt_or_le i 80)

  none_wrong : (i : ℕ) → i < length (file_of fs) → wrong_at (file_of fs) i ≡ false
  unfolding wrong_at
  none_wrong i a = by_test (zero_due i) (λ (e : zero_due i ≡ true). rw (e, due_zero i a e) refl) (λ (e : zero_due i ≡ false). rw e refl)

  zeros_read : first_wrong (file_of fs) ≡ None
  unfolding first_wrong
  zeros_read = first_no (wrong_at (file_of fs)) (length (file_of fs)) none_wrong

  reads_back_of : length fs < 4294967296 → reading (file_of fs) ≡ facets_read fs
  unfolding reading right_length after_zeros file_length
  reads_back_of h =
      let n = 84 + length fs * 50 in
      rw (count_read h, file_long, le-leb 84 n (omega arith), eq-eqb n n refl, zeros_read, facets_read_lem h) refl

pub reads_back : ReadsBack
reads_back fs all h = reads_back_of fs all h

-- ---- what is joined, turn by turn

-- a function that goes through z and op goes through the whole
module _ {A B : Type 0} (z : A) (op : A → A → A) (y : B) (or : B → B → B) (h : A → B) (ends : h z ≡ y) (joins : (a b : A) → h (op a b) ≡ or (h a) (h b)) where
  run_through : (f : ℕ → A) (m i : ℕ) → h (run z op f i m) ≡ run y or (λ k. h (f k)) i m
  unfolding run
  run_through f zero i = ends
  run_through f (suc m) i = joins (f i) (run z op f (suc i) m) ∙ ap (or (h (f i))) (run_through f m (suc i))

  pub over_through : (f : ℕ → A) (i n : ℕ) → h (over z op f i n) ≡ over y or (λ k. h (f k)) i n
  unfolding over
  over_through f i n = run_through f (n - i) i

-- a sum of numbers of at most b each
module _ (f : ℕ → ℕ) (b : ℕ) where
  run_most : (m i : ℕ) → ((j : ℕ) → f j ≤ b) → run 0 ◌+◌ f i m ≤ m * b
  unfolding run
  run_most zero i h = omega arith
  run_most (suc m) i h = omega (arith, h i, run_most m (suc i) h, suc-mul m b)

  pub sum_most : (i n : ℕ) → ((j : ℕ) → f j ≤ b) → over 0 ◌+◌ f i n ≤ (n - i) * b
  unfolding over
  sum_most i n h = run_most (n - i) i h

-- ---- the facets of polygons

three_small : (x y z : ℕ) → Small x → Small y → Small z → (i : ℕ) → Small (get_or (x ∷ y ∷ z ∷ []) i 0)
three_small x y z a b c zero = a
three_small x y z a b c (suc zero) = b
three_small x y z a b c (suc (suc zero)) = c
three_small x y z a b c (suc (suc (suc i))) = omega arith

no_facet_is : IsFacet no_facet
no_facet_is = record { nine = refl; small = every_at Small 0 no_facet (every_same Small 0 9 0 (omega arith) (omega arith)) }

module _ (size height : Float) where
  point_small : (v : Vertex) → Every Small 0 (point_of size height v)
  unfolding point_of
  point_small v =
      every_of Small 0 (coordinate size v.x ∷ coordinate height v.y ∷ coordinate size v.z ∷ [])
      (three_small (coordinate size v.x) (coordinate height v.y) (coordinate size v.z)
      (coordinate_small size v.x) (coordinate_small height v.y) (coordinate_small size v.z))

  pub facet_is : (a b c : Vertex) → IsFacet (facet_of size height a b c)
  unfolding facet_of point_of
  facet_is a b c = record {
    nine = refl;
    small =
        let p = point_of size height in
        every_at Small 0 (p a ++ (p b ++ p c))
        (every_append Small 0 (p a) (p b ++ p c) (point_small a) (every_append Small 0 (p b) (p c) (point_small b) (point_small c)));
  }

  module _ (vs : List Vertex) where
    fan_is : (cs : List ℕ) → Every IsFacet no_facet (fan_of size height vs cs)
    unfolding fan_of
    fan_is cs =
        let corner = corner_of vs cs in
        every_tab IsFacet no_facet (λ k. facet_of size height (corner 0) (corner (k + 1)) (corner (k + 2))) (length cs - 2) no_facet_is
        (λ k a. facet_is (corner 0) (corner (k + 1)) (corner (k + 2)))

    facets_are : (ps : List Polygon) → AreFacets (facets_of size height vs ps)
    unfolding facets_of
    facets_are ps =
        every_at IsFacet no_facet (facets_of size height vs ps)
        (over_ind [] ◌++◌ (λ i. fan_of size height vs (polygon_at ps i).corners) (Every IsFacet no_facet) (every_of IsFacet no_facet [] (λ i. no_facet_is))
        (every_append IsFacet no_facet) 0 (length ps) (λ i a b. fan_is (polygon_at ps i).corners))

    pub fan_long : (cs : List ℕ) → length (fan_of size height vs cs) ≡ length cs - 2
    unfolding fan_of
    fan_long cs =
        let corner = corner_of vs cs in
        length_tab (λ k. facet_of size height (corner 0) (corner (k + 1)) (corner (k + 2))) (length cs - 2)

    pub facets_counted : (ps : List Polygon) → length (facets_of size height vs ps) ≡ facet_count ps
    unfolding facets_of facet_count
    facets_counted ps =
        let fan : ℕ → List (List ℕ) = λ i. fan_of size height vs (polygon_at ps i).corners in
        over_through [] ◌++◌ 0 ◌+◌ length refl length-append fan 0 (length ps)
        ∙ over_cong 0 ◌+◌ (λ i. length (fan i)) (λ i. length (polygon_at ps i).corners - 2) 0 (length ps) (λ i a b. fan_long (polygon_at ps i).corners)

pub file_is_long : FileIsLong
file_is_long size height vs ps =
    let n = facets_counted size height vs ps in
    (n, file_long (facets_of size height vs ps) (facets_are size height vs ps) ∙ ap file_length n)

pub mesh_reads_back : MeshReadsBack
mesh_reads_back size height vs ps h =
    reads_back_of (facets_of size height vs ps) (facets_are size height vs ps) (rw (facets_counted size height vs ps) h)

pub count_fits : CountFits
unfolding facet_count
count_fits ps n h = omega (arith, sum_most (λ i. length (polygon_at ps i).corners - 2) 10 0 (length ps) (λ i. omega (arith, h i)))
