-- `tab f n`: the list `f 0`, .., `f (n - 1)`. It grows at its end, as what a loop writes does. `blocks dec w o k n`: the n blocks of k words from o on, each read by dec.
-- Assumes nothing.
use Rattle.std.specs.Prelude.{◌≡◌, ◌≢◌, length, take, drop, set}
use Rattle.std.proofs.Math.Path.{refl, sym, ap}
use Rattle.std.proofs.Common.{◌∙◌, ⊎_elim, le_refl, length-append, length-set, length-drop, ext_get_or, get_or-set_same, get_or-set_other, get_or-drop}
use mathlib.Core.List.{List, [], ◌∷◌, ◌++◌}
use Prim.Native.Nat.{ℕ, zero, suc, ◌+◌, ◌*◌, ◌≤◌, ◌<◌}
use Rattle.std.proofs.Math.Numerals.{add-one}
use native.Mathlib.Omega.{arith}
use borrow.Author.Count.{below_more}
use Rattle.std.proofs.Math.ListN.{get_or, get_or-append, replicate}
use Rattle.std.proofs.lemmas.List.{get_or_at}
use Rattle.std.proofs.Math.Seq.{take-suc}
use Rattle.mem.specs.Slice.{view, splice, splice_nil, splice_whole, get_or_splice_above, write_step, replicate_snoc, view_before, view_after, view_view, view_same}
use Rattle.mem.specs.Cases.{lt_or_le, eq_or_ne}
use Rattle.mem.specs.Loops.{block_fits}

module _ {A : Type 0} where
  unfoldable pub tab : (ℕ → A) → ℕ → List A
  tab f zero = []
  tab f (suc n) = tab f n ++ (f n ∷ [])

  pub tab_snoc : (f : ℕ → A) (n : ℕ) → tab f (n + 1) ≡ tab f n ++ (f n ∷ [])
  unfolding tab
  tab_snoc f n = rw add-one refl

  pub length_tab : (f : ℕ → A) (n : ℕ) → length (tab f n) ≡ n
  unfolding tab
  length_tab f zero = refl
  length_tab f (suc n) = simp (length-append, length_tab f n, add-one)

  pub tab_cons : (f : ℕ → A) (n : ℕ) → tab f (suc n) ≡ f 0 ∷ tab (λ i. f (i + 1)) n
  unfolding tab
  tab_cons f zero = refl
  tab_cons f (suc n) = ap (λ (l : List A). l ++ (f (suc n) ∷ [])) (tab_cons f n) ∙ rw (add-one n)

  pub tab_cong : (f g : ℕ → A) (n : ℕ) → ((i : ℕ) → i < n → f i ≡ g i) → tab f n ≡ tab g n
  unfolding tab
  tab_cong f g zero h = refl
  tab_cong f g (suc n) h = rw (tab_cong f g n (λ i a. h i (omega arith)), h n (omega arith))

  pub get_or_tab : (f : ℕ → A) (n i : ℕ) (d : A) → i < n → get_or (tab f n) i d ≡ f i
  unfolding tab
  get_or_tab f zero i d h = absurd (omega arith)
  get_or_tab f (suc n) i d h =
      below_more (λ k. get_or (tab f n ++ (f n ∷ [])) k d ≡ f k) n
      (λ k a. get_or-append (tab f n) (f n ∷ []) d k (rw (length_tab f n) a) ∙ get_or_tab f n k d a)
      (get_or_at (tab f n) (f n) [] d n (length_tab f n)) i (rw add-one h)

module _ {B : Type 0} (dec : List ℕ → B) where
  unfoldable pub blocks : List ℕ → ℕ → ℕ → ℕ → List B
  blocks w o k n = tab (λ i. dec (view w (o + i * k) k)) n

  pub length_blocks : (w : List ℕ) (o k n : ℕ) → length (blocks w o k n) ≡ n
  unfolding blocks
  length_blocks w o k n = length_tab _ n

  pub get_or_blocks : (w : List ℕ) (o k n i : ℕ) (d : B) → i < n → get_or (blocks w o k n) i d ≡ dec (view w (o + i * k) k)
  unfolding blocks
  get_or_blocks w o k n i d h = get_or_tab _ n i d h

  -- a write before the blocks, and one after them
  pub blocks_before : (w : List ℕ) (p o k n : ℕ) (xs : List ℕ) → p + length xs ≤ o → blocks (splice w p xs) o k n ≡ blocks w o k n
  unfolding blocks
  blocks_before w p o k n xs h = tab_cong _ _ n (λ i a. ap dec (view_after w p (o + i * k) k xs (omega arith)))

  pub blocks_after : (w : List ℕ) (p o k n : ℕ) (xs : List ℕ) → o + n * k ≤ p → blocks (splice w p xs) o k n ≡ blocks w o k n
  unfolding blocks
  blocks_after w p o k n xs h =
      tab_cong _ _ n (λ i a. ap dec (view_before w p (o + i * k) k xs (omega (arith, block_fits i n k (n * k) a (le_refl (n * k))))))

  -- the blocks of a part
  pub blocks_view : (w : List ℕ) (q m k n : ℕ) → n * k ≤ m → blocks (view w q m) 0 k n ≡ blocks w q k n
  unfolding blocks
  blocks_view w q m k n h =
      tab_cong (λ i. dec (view (view w q m) (0 + i * k) k)) (λ i. dec (view w (q + i * k) k)) n
      (λ i a. let e : q + (0 + i * k) ≡ q + i * k = omega arith in
      ap dec (view_view w q m (0 + i * k) k (omega (arith, block_fits i n k (n * k) a (le_refl (n * k)))) ∙ rw e))

  -- one more block, in front and behind
  pub blocks_cons : (w : List ℕ) (o k n : ℕ) → blocks w o k (n + 1) ≡ dec (view w o k) ∷ blocks w (o + k) k n
  unfolding blocks
  blocks_cons w o k n =
      let z : o + 0 * k ≡ o = omega arith in
      rw (add-one n) (tab_cons (λ i. dec (view w (o + i * k) k)) n
      ∙ rw z (ap (λ (l : List B). dec (view w o k) ∷ l)
      (tab_cong (λ i. dec (view w (o + (i + 1) * k) k)) (λ i. dec (view w (o + k + i * k) k)) n
      (λ i a. let e : o + (i + 1) * k ≡ o + k + i * k = omega arith in rw e))))

  pub blocks_snoc : (w : List ℕ) (o k n : ℕ) → blocks w o k (n + 1) ≡ blocks w o k n ++ (dec (view w (o + n * k) k) ∷ [])
  unfolding blocks
  blocks_snoc w o k n = tab_snoc _ n

  pub blocks_push : (w : List ℕ) (o k n : ℕ) (xs : List ℕ) → length xs ≡ k → o + n * k + k ≤ length w
      → blocks (splice w (o + n * k) xs) o k (n + 1) ≡ blocks w o k n ++ (dec xs ∷ [])
  blocks_push w o k n xs e h =
      blocks_snoc (splice w (o + n * k) xs) o k n
      ∙ rw (blocks_after w (o + n * k) o k n xs (le_refl (o + n * k)), view_same w (o + n * k) k xs e h)

  -- block i written, as another block, j, sees it
  view_other : (w : List ℕ) (o k i j : ℕ) (xs : List ℕ) → length xs ≡ k → j ≢ i → view (splice w (o + i * k) xs) (o + j * k) k ≡ view w (o + j * k) k
  view_other w o k i j xs e ne =
      ⊎_elim
      (λ (a : j < i). view_before w (o + i * k) (o + j * k) k xs (omega (arith, block_fits j i k (i * k) a (le_refl (i * k)))))
      (λ (a : i ≤ j). view_after w (o + i * k) (o + j * k) k xs
      (omega (arith, block_fits i j k (j * k) (omega arith) (le_refl (j * k)))))
      (lt_or_le j i)

  -- block i changed
  pub blocks_set : (w : List ℕ) (o k n i : ℕ) (xs : List ℕ) → length xs ≡ k → o + n * k ≤ length w → i < n
      → blocks (splice w (o + i * k) xs) o k n ≡ set (blocks w o k n) i (dec xs)
  blocks_set w o k n i xs e h a =
      ext_get_or (dec []) (blocks (splice w (o + i * k) xs) o k n) (set (blocks w o k n) i (dec xs)) (simp (length-set, length_blocks))
      (λ j b. at j (rw length_blocks at b))
    where
      at : (j : ℕ) → j < n → get_or (blocks (splice w (o + i * k) xs) o k n) j (dec []) ≡ get_or (set (blocks w o k n) i (dec xs)) j (dec [])
      at j b =
          get_or_blocks (splice w (o + i * k) xs) o k n j (dec []) b
          ∙ ⊎_elim
          (λ (q : j ≡ i). rw (
            q,
            view_same w (o + i * k) k xs e (omega (arith, block_fits i n k (n * k) a (le_refl (n * k)))),
            get_or-set_same (blocks w o k n) i (dec xs) (dec []) (rw length_blocks a),
          ))
          (λ (q : j ≢ i). rw (view_other w o k i j xs e q, get_or-set_other (blocks w o k n) i j (dec xs) (dec []) q, get_or_blocks w o k n j (dec []) b))
          (eq_or_ne j i)

-- The invariant of a loop that writes `f 0`, `f 1`, .. from o on, n in all: v is the list where the loop begins, w the list now, and i are written
pub record Filled {A : Type 0} (v : List A) (o : ℕ) (f : ℕ → A) (n : ℕ) (w : List A) (i : ℕ) : Type 0 where
  pub within : i ≤ n
  pub long : length w ≡ length v
  pub put : w ≡ splice v o (tab f i)

module _ {A : Type 0} where
  pub filled_none : (v : List A) (o : ℕ) (f : ℕ → A) (n : ℕ) → Filled v o f n v 0
  unfolding tab
  filled_none v o f n = record { within = omega arith; long = refl; put = sym (splice_nil v o) }

  module _ {v : List A} {o : ℕ} {f : ℕ → A} {n : ℕ} {w : List A} {i : ℕ} (r : Filled v o f n w i) where
    -- one more: at k, and with the value x
    pub filled_more : (k : ℕ) (x : A) → k ≡ o + i → x ≡ f i → i < n → Filled v o f n (set w k x) (i + 1)
    filled_more k x e q h =
        record {
          within = omega arith;
          long = length-set w k x ∙ r.long;
          put = rw (e, q, tab_snoc f i) (write_step v o i (tab f i) (f i) r.put (length_tab f i));
        }

    pub filled_all : n ≤ i → w ≡ splice v o (tab f n)
    filled_all h = let e : i ≡ n = omega (arith, r.within) in rw e at r.put

    -- what lies behind what is written is as it was
    pub filled_above : (j : ℕ) (d : A) → o + i ≤ j → get_or w j d ≡ get_or v j d
    filled_above j d h = ap (λ (l : List A). get_or l j d) r.put ∙ get_or_splice_above v o j (tab f i) d (rw (length_tab f i) h)

  -- a whole list is written
  pub filled_whole : {v w : List A} {f : ℕ → A} {i : ℕ} → Filled v 0 f (length v) w i → length v ≤ i → w ≡ tab f (length v)
  filled_whole {v} {w} {f} r h = filled_all r h ∙ splice_whole v (tab f (length v)) (length_tab f (length v))

-- two lists that are tabs
module _ {A : Type 0} where
  pub tab_take : (l : List A) (n : ℕ) (d : A) → n ≤ length l → tab (λ k. get_or l k d) n ≡ take n l
  unfolding tab
  tab_take l zero d h = refl
  tab_take l (suc n) d h = rw (tab_take l n d (omega arith), take-suc l n d h)

  -- a loop that copies n elements from o on
  pub tab_view : (w : List A) (o n : ℕ) (d : A) → o + n ≤ length w → tab (λ k. get_or w (o + k) d) n ≡ view w o n
  tab_view w o n d h =
      tab_cong _ _ n (λ k a. sym (get_or-drop o w k d)) ∙ tab_take (drop o w) n d (rw length-drop (omega arith))

  -- the first m of n
  pub take_tab : (f : ℕ → A) (n m : ℕ) → m ≤ n → take m (tab f n) ≡ tab f m
  unfolding tab
  take_tab f n zero h = refl
  take_tab f n (suc m) h =
      take-suc (tab f n) m (f m) (rw (length_tab f n) h) ∙ rw (take_tab f n m (omega arith), get_or_tab f n m (f m) h)

  pub tab_const : (n : ℕ) (a : A) → tab (λ k. a) n ≡ replicate n a
  unfolding tab
  tab_const zero a = refl
  tab_const (suc n) a = rw (tab_const n a) (sym (replicate_snoc n a) ∙ ap (λ (m : ℕ). replicate m a) (add-one n))
