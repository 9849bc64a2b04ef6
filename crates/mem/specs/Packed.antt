-- A list of things in memory: `packed enc bs` is the words of each, one after the other. A contract over such a list says
-- `exit ≡ splice entry o (packed enc (f (blocks dec entry o k n)))`: f is of lists alone, and every word is fixed.
-- Assumes nothing.
use Rattle.std.specs.Prelude.{◌≡◌, ◌≢◌, take, drop, get_or, set, replicate}
use Rattle.std.proofs.Math.Path.{refl, sym, ap}
use Rattle.std.proofs.Common.{◌∙◌, le_refl, zero-add, zero-mul, arith, ext_get_or, get_or-set_other, get_or-drop, take_at, take_all, length-take-le}
use mathlib.Core.List.{List, [], ◌∷◌, ◌++◌, map, append_assoc, append-nil}
use Rattle.std.proofs.Math.Logic.{⊎_elim}
use Prim.Native.Nat.{ℕ, zero, suc, ◌+◌, ◌*◌, ◌≤◌, ◌<◌}
use Rattle.std.proofs.Math.Nat.{suc-mul}
use Rattle.std.proofs.Math.ListN.{length, length-append, get_or-eq_default}
use Rattle.std.proofs.Math.Seq.{get_or-set_same, set_out, drop-drop, drop_at, take-nil, drop-nil, take-append-add}
use Rattle.mem.specs.Slice.{view, splice, splice_nil, splice_append, splice_inside, length_splice, length_view, view_append, view_same, view_view, take_snoc}
use Rattle.mem.specs.Cases.{lt_or_le, eq_or_ne}
use Rattle.mem.specs.Tab.{tab, length_tab, get_or_tab, blocks, length_blocks, get_or_blocks}
use Rattle.mem.specs.Loops.{block_fits}

-- ---- what holds of every element of a list, and of what stands past its end
module _ {B : Type 0} (P : B → Type 0) (d : B) where
  unfoldable pub Every : List B → Type 0
  Every bs = (i : ℕ) → P (get_or bs i d)

  pub every_at : (bs : List B) → Every bs → (i : ℕ) → P (get_or bs i d)
  unfolding Every
  every_at bs h i = h i

  pub every_of : (bs : List B) → ((i : ℕ) → P (get_or bs i d)) → Every bs
  unfolding Every
  every_of bs h = h

  -- of what stands past the end
  pub every_end : (bs : List B) → Every bs → P d
  unfolding Every
  every_end bs h = rw (get_or-eq_default bs d {n = length bs} (le_refl (length bs))) at (h (length bs))

  pub every_nil : P d → Every []
  unfolding Every
  every_nil h i = h

  pub every_set : (bs : List B) (i : ℕ) (b : B) → Every bs → P b → Every (set bs i b)
  unfolding Every
  every_set bs i b h p j =
      ⊎_elim
      (λ (a : i < length bs).
      ⊎_elim (λ (e : j ≡ i). rw (e, get_or-set_same bs i b d a) p) (λ (e : j ≢ i). rw (get_or-set_other bs i j b d e) (h j)) (eq_or_ne j i))
      (λ (a : length bs ≤ i). rw (set_out bs i b a) (h j))
      (lt_or_le i (length bs))

  pub every_take : (bs : List B) (n : ℕ) → Every bs → Every (take n bs)
  unfolding Every
  every_take bs zero h i = every_end bs h
  every_take [] (suc n) h i = h i
  every_take (b ∷ bs) (suc n) h zero = h 0
  every_take (b ∷ bs) (suc n) h (suc i) = every_take bs n (λ j. h (suc j)) i

  pub every_drop : (n : ℕ) (bs : List B) → Every bs → Every (drop n bs)
  unfolding Every
  every_drop n bs h i = rw (get_or-drop n bs i d) (h (n + i))

  pub every_tab : (f : ℕ → B) (n : ℕ) → P d → ((i : ℕ) → i < n → P (f i)) → Every (tab f n)
  unfolding Every
  every_tab f n p h i = ⊎_elim
      (λ (a : i < n). rw (get_or_tab f n i d a) (h i a))
      (λ (a : n ≤ i). rw (get_or-eq_default (tab f n) d {n = i} (rw (length_tab f n) a)) p)
      (lt_or_le i n)

  pub every_append : (xs ys : List B) → Every xs → Every ys → Every (xs ++ ys)
  unfolding Every
  every_append [] ys h k i = k i
  every_append (x ∷ xs) ys h k zero = h 0
  every_append (x ∷ xs) ys h k (suc i) = every_append xs ys (λ j. h (suc j)) k i

  pub every_same : (n : ℕ) (b : B) → P d → P b → Every (replicate n b)
  unfolding Every
  every_same zero b h k i = h
  every_same (suc n) b h k zero = k
  every_same (suc n) b h k (suc i) = every_same n b h k i

pub every_map : {A B : Type 0} (Q : A → Type 0) (e : A) (P : B → Type 0) (d : B) (f : A → B) (l : List A) → P d → ((a : A) → Q a → P (f a))
    → Every Q e l → Every P d (map f l)
unfolding Every
every_map Q e P d f [] p h k i = p
every_map Q e P d f (a ∷ l) p h k zero = h a (k 0)
every_map Q e P d f (a ∷ l) p h k (suc i) = every_map Q e P d f l p h (λ n. k (suc n)) i

pub every_imp : {B : Type 0} (P Q : B → Type 0) (d : B) (bs : List B) → ((b : B) → P b → Q b) → Every P d bs → Every Q d bs
unfolding Every
every_imp P Q d bs f h i = f (get_or bs i d) (h i)

-- ---- writes to a list of two parts
splice_front : (xs ys zs : List ℕ) → length zs ≡ length xs → splice (xs ++ ys) 0 zs ≡ zs ++ ys
unfolding splice
splice_front [] ys [] h = splice_nil ys 0
splice_front [] ys (z ∷ zs) h = absurd (omega arith)
splice_front (x ∷ xs) ys [] h = absurd (omega arith)
splice_front (x ∷ xs) ys (z ∷ zs) h = ap (λ (r : List ℕ). z ∷ r) (splice_front xs ys zs (omega arith))

splice_past : (xs ys zs : List ℕ) (n i : ℕ) → length xs ≡ n → splice (xs ++ ys) (n + i) zs ≡ xs ++ splice ys i zs
unfolding splice
splice_past [] ys zs zero i h = rw (zero-add i) refl
splice_past [] ys zs (suc n) i h = absurd (omega arith)
splice_past (x ∷ xs) ys zs zero i h = absurd (omega arith)
splice_past (x ∷ xs) ys zs (suc n) i h =
    let e : suc n + i ≡ suc (n + i) = omega arith in rw e (ap (λ (r : List ℕ). x ∷ r) (splice_past xs ys zs n i (omega arith)))

-- what stands first is written anew
pub splice_first : (w : List ℕ) (o : ℕ) (xs ys zs : List ℕ) → length zs ≡ length xs → splice (splice w o (xs ++ ys)) o zs ≡ splice w o (zs ++ ys)
splice_first w o xs ys zs h =
    let e : o + 0 ≡ o = omega arith in
    (rw e at (splice_inside w o 0 (xs ++ ys) zs (simp length-append (omega arith)))) ∙ ap (splice w o) (splice_front xs ys zs h)

view_part : (w : List ℕ) (o i n : ℕ) (xs : List ℕ) → i + n ≤ length xs → o + length xs ≤ length w → view (splice w o xs) (o + i) n ≡ view xs i n
view_part w o i n xs h f =
    sym (view_view (splice w o xs) o (length xs) i n h) ∙ ap (λ (l : List ℕ). view l i n) (view_same w o (length xs) xs refl f)

module _ {B : Type 0} (enc : B → List ℕ) where
  unfoldable pub packed : List B → List ℕ
  packed [] = []
  packed (b ∷ bs) = enc b ++ packed bs

  pub packed_append : (xs ys : List B) → packed (xs ++ ys) ≡ packed xs ++ packed ys
  unfolding packed
  packed_append [] ys = refl
  packed_append (x ∷ xs) ys = rw (packed_append xs ys) (sym (append_assoc (enc x) (packed xs) (packed ys)))

  -- what is loaded and stored again is what was there
  pub repacked : (dec : List ℕ → B) (k : ℕ) → ((ws : List ℕ) → length ws ≡ k → enc (dec ws) ≡ ws) → (w : List ℕ) (o n : ℕ) → o + n * k ≤ length w
      → packed (blocks dec w o k n) ≡ view w o (n * k)
  unfolding packed blocks tab
  repacked dec k forth w o zero h = rw (zero-mul k) refl
  repacked dec k forth w o (suc n) h =
      let e : suc n * k ≡ n * k + k = suc-mul n k in
      let ws = view w (o + n * k) k in
      packed_append (blocks dec w o k n) (dec ws ∷ [])
      ∙ ap (λ (l : List ℕ). l ++ (enc (dec ws) ++ [])) (repacked dec k forth w o n (omega arith))
      ∙ rw (forth ws (length_view w (o + n * k) k (omega arith)), append-nil ws, e) (sym (view_append w o (n * k) k))

  -- each thing that fits has k words
  module _ (k : ℕ) (Fit : B → Type 0) (d : B) (sized : (b : B) → Fit b → length (enc b) ≡ k) where
    tail : (b : B) (bs : List B) → Every Fit d (b ∷ bs) → Every Fit d bs
    unfolding Every
    tail b bs h i = h (suc i)

    head : (b : B) (bs : List B) → Every Fit d (b ∷ bs) → Fit b
    unfolding Every
    head b bs h = h 0

    pub length_packed : (bs : List B) → Every Fit d bs → length (packed bs) ≡ length bs * k
    unfolding packed
    length_packed [] h = sym (zero-mul k)
    length_packed (b ∷ bs) h =
        simp length-append (rw (sized b (head b bs h), length_packed bs (tail b bs h), suc-mul (length bs) k) (omega arith))

    pub packed_set : (bs : List B) (i : ℕ) (b : B) → Every Fit d bs → Fit b → i < length bs → splice (packed bs) (i * k) (enc b) ≡ packed (set bs i b)
    unfolding packed
    packed_set [] i b h f l = absurd (omega arith)
    packed_set (a ∷ bs) zero b h f l =
        rw (zero-mul k) (splice_front (enc a) (packed bs) (enc b) (sized b f ∙ sym (sized a (head a bs h))))
    packed_set (a ∷ bs) (suc i) b h f l =
        let e : suc i * k ≡ k + i * k = rw (suc-mul i k) (omega arith) in
        rw e (splice_past (enc a) (packed bs) (enc b) k (i * k) (sized a (head a bs h))
        ∙ ap (λ (r : List ℕ). enc a ++ r) (packed_set bs i b (tail a bs h) f (omega arith)))

    pub packed_view : (bs : List B) (i : ℕ) → Every Fit d bs → i < length bs → view (packed bs) (i * k) k ≡ enc (get_or bs i d)
    unfolding packed
    packed_view [] i h l = absurd (omega arith)
    packed_view (a ∷ bs) zero h l = rw (zero-mul k) (take_at (enc a) (packed bs) k (sized a (head a bs h)))
    packed_view (a ∷ bs) (suc i) h l =
        let e : suc i * k ≡ k + i * k = rw (suc-mul i k) (omega arith) in
        rw (e, ← drop-drop (i * k) k (enc a ++ packed bs), drop_at (enc a) (packed bs) k (sized a (head a bs h)))
        (packed_view bs i (tail a bs h) (omega arith))

    -- the words of the first i, and of the others
    pub packed_take : (bs : List B) (i : ℕ) → Every Fit d bs → take (i * k) (packed bs) ≡ packed (take i bs)
    unfolding packed
    packed_take bs zero h = rw (zero-mul k) refl
    packed_take [] (suc i) h = take-nil (suc i * k)
    packed_take (b ∷ bs) (suc i) h =
        let e : suc i * k ≡ length (enc b) + i * k = rw (suc-mul i k, sized b (head b bs h)) (omega arith) in
        rw e (take-append-add (enc b) (packed bs) (i * k) ∙ ap (λ (r : List ℕ). enc b ++ r) (packed_take bs i (tail b bs h)))

    pub packed_drop : (bs : List B) (i : ℕ) → Every Fit d bs → drop (i * k) (packed bs) ≡ packed (drop i bs)
    unfolding packed
    packed_drop bs zero h = rw (zero-mul k) refl
    packed_drop [] (suc i) h = drop-nil (suc i * k)
    packed_drop (b ∷ bs) (suc i) h =
        let e : suc i * k ≡ k + i * k = rw (suc-mul i k) (omega arith) in
        rw (e, ← drop-drop (i * k) k (enc b ++ packed bs), drop_at (enc b) (packed bs) k (sized b (head b bs h))) (packed_drop bs i (tail b bs h))

    module _ (w : List ℕ) (o : ℕ) (bs : List B) (all : Every Fit d bs) (fits : o + length bs * k ≤ length w) where
      -- the words of thing i
      pub packed_at : (i : ℕ) → i < length bs → view (splice w o (packed bs)) (o + i * k) k ≡ enc (get_or bs i d)
      packed_at i a =
          let long = length_packed bs all in
          view_part w o (i * k) k (packed bs) (omega (arith, block_fits i (length bs) k (length bs * k) a (le_refl (length bs * k)))) (omega arith)
          ∙ packed_view bs i all a

      -- thing i is written anew
      pub packed_put : (i : ℕ) (b : B) → Fit b → i < length bs → splice (splice w o (packed bs)) (o + i * k) (enc b) ≡ splice w o (packed (set bs i b))
      packed_put i b f a =
          splice_inside w o (i * k) (packed bs) (enc b)
          (omega (arith, sized b f, length_packed bs all, block_fits i (length bs) k (length bs * k) a (le_refl (length bs * k))))
          ∙ ap (splice w o) (packed_set bs i b all f a)

      -- what is stored is what is loaded
      pub unpacked : (dec : List ℕ → B) → ((b : B) → Fit b → dec (enc b) ≡ b) → blocks dec (splice w o (packed bs)) o k (length bs) ≡ bs
      unpacked dec back =
          ext_get_or d (blocks dec (splice w o (packed bs)) o k (length bs)) bs (length_blocks dec (splice w o (packed bs)) o k (length bs))
          (λ i a. at i (rw (length_blocks dec (splice w o (packed bs)) o k (length bs)) at a))
        where
          at : (i : ℕ) → i < length bs → get_or (blocks dec (splice w o (packed bs)) o k (length bs)) i d ≡ get_or bs i d
          at i a =
              get_or_blocks dec (splice w o (packed bs)) o k (length bs) i d a
              ∙ ap dec (packed_at i a)
              ∙ back (get_or bs i d) (every_at Fit d bs all i)

-- The invariant of a loop that writes the things of a list one after the other, from o on: v is the slice where the loop begins, w the slice now, and k are
-- written
pub record Laid {B : Type 0} (enc : B → List ℕ) (v : List ℕ) (o : ℕ) (l : List B) (w : List ℕ) (k : ℕ) : Type 0 where
  pub within : k ≤ length l
  pub long : length w ≡ length v
  pub put : w ≡ splice v o (packed enc (take k l))

module _ {B : Type 0} (enc : B → List ℕ) (v : List ℕ) (o : ℕ) (l : List B) where
  pub laid_none : Laid enc v o l v 0
  unfolding packed
  laid_none = record { within = omega arith; long = refl; put = sym (splice_nil v o) }

  module _ {w : List ℕ} {k : ℕ} (r : Laid enc v o l w k) where
    -- one more, of size words like all that fit
    pub laid_more : (size : ℕ) (Fit : B → Type 0) (d : B) {u : List ℕ} → ((b : B) → Fit b → length (enc b) ≡ size) → Every Fit d l → k < length l
        → u ≡ splice w (o + k * size) (enc (get_or l k d)) → Laid enc v o l u (k + 1)
    unfolding packed
    laid_more size Fit d {u} sized all h e =
        let n : length (packed enc (take k l)) ≡ k * size =
        length_packed enc size Fit d sized (take k l) (every_take Fit d l k all)
        ∙ ap (λ (j : ℕ). j * size) (length-take-le k l r.within) in
        let p : packed enc (take (k + 1) l) ≡ packed enc (take k l) ++ enc (get_or l k d) =
        ap (packed enc) (take_snoc l k d h) ∙ packed_append enc (take k l) (get_or l k d ∷ [])
        ∙ ap (λ (x : List ℕ). packed enc (take k l) ++ x) (append-nil (enc (get_or l k d))) in
        record {
          within = omega arith;
          long = ap length e ∙ length_splice w (o + k * size) (enc (get_or l k d)) ∙ r.long;
          put = e ∙ rw (p, r.put, ← n) (splice_append v o (packed enc (take k l)) (enc (get_or l k d)));
        }

    pub laid_all : length l ≤ k → w ≡ splice v o (packed enc l)
    laid_all h = r.put ∙ ap (λ (x : List B). splice v o (packed enc x)) (take_all k l h)
