-- Chains of numbers with the same key, as words: 0 says none, else the number plus 1. `firsts` has for each key k the word of the highest number with that
-- key, and `nexts` for each number i that of the highest one below i with i's key. So a walk from the first of k along the next words meets exactly the
-- numbers with the key k, in falling order, and what it meets first is the highest that fits. Serves the buckets of vertices and the edges of a vertex alike.
-- Assumes nothing.
-- Key: `chain_lists`: a walk lists exactly the numbers with its key, falling; `firsts_more` and `nexts_more`: what one more number makes of the words.
use Rattle.std.specs.Prelude.{◌≡◌, cond, ◌≢◌, eqb, length, set, replicate}
use Rattle.std.proofs.Math.Path.{refl, sym, ap}
use Rattle.std.proofs.Common.{◌∙◌, length-set, ext_get_or, get_or-set_same, get_or-set_other}
use mathlib.Core.List.{List, [], ◌∷◌, ◌++◌}
use Rattle.std.proofs.Math.Logic.{⊎_elim}
use Prim.Native.Nat.{ℕ, zero, suc, ◌+◌, ◌≤◌, ◌<◌}
use Rattle.std.proofs.Math.Numerals.{add-one}
use native.Mathlib.Omega.{arith}
use borrow.Author.Tests.{eq-eqb, ne_eqb}
use Rattle.std.proofs.Math.ListN.{get_or}
use Rattle.mem.specs.Cases.{eq_or_ne}
use Rattle.mem.specs.Tab.{tab, tab_snoc, tab_cong, tab_const, length_tab, get_or_tab}

-- the word of the highest number below n whose key is k
unfoldable pub highest : (ℕ → ℕ) → ℕ → ℕ → ℕ
highest key k zero = 0
highest key k (suc n) = cond (eqb (key n) k) (n + 1) (highest key k n)

module _ (key : ℕ → ℕ) (k : ℕ) where
  pub highest_same : (n : ℕ) → key n ≡ k → highest key k (n + 1) ≡ n + 1
  unfolding highest
  highest_same n e = rw (add-one n, eq-eqb (key n) k e) (add-one n)

  pub highest_other : (n : ℕ) → key n ≢ k → highest key k (n + 1) ≡ highest key k n
  unfolding highest
  highest_other n e = rw (add-one n, ne_eqb (key n) k e)

  -- the number that a word names is below n, and has the key
  pub highest_at : (n i : ℕ) → highest key k n ≡ i + 1 → (i < n) × (key i ≡ k)
  unfolding highest
  highest_at zero i e = absurd (omega arith)
  highest_at (suc n) i e =
      ⊎_elim
      (λ (q : key n ≡ k).
      let s : n + 1 ≡ i + 1 = rw (eq-eqb (key n) k q) at e in
      let t : n ≡ i = omega arith in
      (omega arith, ap key (sym t) ∙ q))
      (λ (q : key n ≢ k).
      let s : highest key k n ≡ i + 1 = rw (ne_eqb (key n) k q) at e in
      let r = highest_at n i s in
      (omega (arith, r.0), r.1))
      (eq_or_ne (key n) k)

  pub highest_most : (n : ℕ) → highest key k n ≤ n
  unfolding highest
  highest_most zero = omega arith
  highest_most (suc n) =
      ⊎_elim (λ (q : key n ≡ k). rw (eq-eqb (key n) k q) (omega arith)) (λ (q : key n ≢ k). rw (ne_eqb (key n) k q) (omega (arith, highest_most n))) (eq_or_ne (key n) k)

  -- what is found among the numbers below n, g n, does not depend on numbers with other keys
  module _ {A : Type 0} (g : ℕ → A) (blind : (j : ℕ) → key j ≢ k → g (j + 1) ≡ g j) where
    -- the chain has ended
    pub walk_end : (n : ℕ) → highest key k n ≡ 0 → g n ≡ g 0
    unfolding highest
    walk_end zero e = refl
    walk_end (suc n) e =
        ⊎_elim
        (λ (q : key n ≡ k). let s : n + 1 ≡ 0 = rw (eq-eqb (key n) k q) at e in absurd (omega arith))
        (λ (q : key n ≢ k). let s : highest key k n ≡ 0 = rw (ne_eqb (key n) k q) at e in (rw (add-one n) at (blind n q)) ∙ walk_end n s)
        (eq_or_ne (key n) k)

    -- the chain is at i: nothing between i and n has the key
    pub walk_at : (n i : ℕ) → highest key k n ≡ i + 1 → g n ≡ g (i + 1)
    unfolding highest
    walk_at zero i e = absurd (omega arith)
    walk_at (suc n) i e =
        ⊎_elim
        (λ (q : key n ≡ k). let s : n + 1 ≡ i + 1 = rw (eq-eqb (key n) k q) at e in ap g (sym (add-one n) ∙ s))
        (λ (q : key n ≢ k). let s : highest key k n ≡ i + 1 = rw (ne_eqb (key n) k q) at e in (rw (add-one n) at (blind n q)) ∙ walk_at n i s)
        (eq_or_ne (key n) k)

-- only the keys below n count
pub highest_cong : (key other : ℕ → ℕ) (k n : ℕ) → ((j : ℕ) → j < n → key j ≡ other j) → highest key k n ≡ highest other k n
unfolding highest
highest_cong key other k zero h = refl
highest_cong key other k (suc n) h = rw (h n (omega arith), highest_cong key other k n (λ j a. h j (omega arith)))

-- ---- the words of n numbers, with keys below m: the first of each key, and the next of each number
unfoldable pub firsts : (ℕ → ℕ) → ℕ → ℕ → List ℕ
firsts key m n = tab (λ k. highest key k n) m

unfoldable pub nexts : (ℕ → ℕ) → ℕ → List ℕ
nexts key n = tab (λ i. highest key (key i) i) n

module _ (key : ℕ → ℕ) (m n : ℕ) where
  pub length_firsts : length (firsts key m n) ≡ m
  unfolding firsts
  length_firsts = length_tab _ m

  pub length_nexts : length (nexts key n) ≡ n
  unfolding nexts
  length_nexts = length_tab _ n

  pub firsts_at : (k : ℕ) → k < m → get_or (firsts key m n) k 0 ≡ highest key k n
  unfolding firsts
  firsts_at k h = get_or_tab _ m k 0 h

  pub nexts_at : (i : ℕ) → i < n → get_or (nexts key n) i 0 ≡ highest key (key i) i
  unfolding nexts
  nexts_at i h = get_or_tab _ n i 0 h

-- no numbers yet: zeros
pub firsts_none : (key : ℕ → ℕ) (m : ℕ) → firsts key m 0 ≡ replicate m 0
unfolding firsts highest
firsts_none key m = tab_const m 0

pub nexts_none : (key : ℕ → ℕ) → nexts key 0 ≡ []
unfolding nexts tab
nexts_none key = refl

-- one more number, n: it becomes the first of its key, and the one that was first comes next
module _ (key other : ℕ → ℕ) (m n : ℕ) (same : (j : ℕ) → j < n → key j ≡ other j) (h : other n < m) where
  pub firsts_more : firsts other m (n + 1) ≡ set (firsts key m n) (other n) (n + 1)
  firsts_more =
      ext_get_or 0 (firsts other m (n + 1)) (set (firsts key m n) (other n) (n + 1)) (simp (length-set, length_firsts))
      (λ k a. at k (rw length_firsts at a))
    where
      at : (k : ℕ) → k < m → get_or (firsts other m (n + 1)) k 0 ≡ get_or (set (firsts key m n) (other n) (n + 1)) k 0
      at k a = firsts_at other m (n + 1) k a ∙ ⊎_elim
          (λ (q : k ≡ other n). rw (q, get_or-set_same (firsts key m n) (other n) (n + 1) 0 (rw length_firsts h)) (highest_same other (other n) n refl))
          (λ (q : k ≢ other n). rw (get_or-set_other (firsts key m n) (other n) k (n + 1) 0 q, firsts_at key m n k a)
          (highest_other other k n (λ e. q (sym e)) ∙ sym (highest_cong key other k n same)))
          (eq_or_ne k (other n))

  pub nexts_more : nexts other (n + 1) ≡ nexts key n ++ (get_or (firsts key m n) (other n) 0 ∷ [])
  unfolding nexts
  nexts_more =
      tab_snoc _ n
      ∙ ap (λ (l : List ℕ). l ++ (highest other (other n) n ∷ []))
      (tab_cong _ _ n (λ i a. sym (ap (λ (k : ℕ). highest key k i) (same i a) ∙ highest_cong key other (other i) i (λ j b. same j (omega arith)))))
      ∙ ap (λ (x : ℕ). tab (λ i. highest key (key i) i) n ++ (x ∷ []))
      (sym (firsts_at key m n (other n) h ∙ highest_cong key other (other n) n same))

-- ---- what a walk lists

-- the numbers below n with the key k, falling
unfoldable pub keyed : (ℕ → ℕ) → ℕ → ℕ → List ℕ
keyed key k zero = []
keyed key k (suc n) = cond (eqb (key n) k) (n ∷ keyed key k n) (keyed key k n)

-- the numbers that a walk of at most f steps meets, from a word on
unfoldable pub followed : (ℕ → ℕ) → ℕ → ℕ → List ℕ
followed next zero link = []
followed next (suc f) zero = []
followed next (suc f) (suc i) = i ∷ followed next f (next i)

followed_none : (next : ℕ → ℕ) (f : ℕ) → followed next f 0 ≡ []
unfolding followed
followed_none next zero = refl
followed_none next (suc f) = refl

module _ (key : ℕ → ℕ) (m n k : ℕ) where
  follow : (f j : ℕ) → j ≤ n → j ≤ f → followed (λ i. get_or (nexts key n) i 0) f (highest key k j) ≡ keyed key k j
  unfolding highest keyed followed
  follow f zero a b = followed_none _ f
  follow zero (suc j) a b = absurd (omega arith)
  follow (suc f) (suc j) a b =
      ⊎_elim
      (λ (q : key j ≡ k). rw (eq-eqb (key j) k q, add-one j) (ap (λ (r : List ℕ). j ∷ r)
      (ap (followed (λ i. get_or (nexts key n) i 0) f) (nexts_at key m n j (omega arith) ∙ ap (λ (b : ℕ). highest key b j) q)
      ∙ follow f j (omega arith) (omega arith))))
      (λ (q : key j ≢ k). rw (ne_eqb (key j) k q) (follow (suc f) j (omega arith) (omega arith)))
      (eq_or_ne (key j) k)

  -- n steps are enough
  pub chain_lists : k < m → followed (λ i. get_or (nexts key n) i 0) n (get_or (firsts key m n) k 0) ≡ keyed key k n
  chain_lists h = ap (followed (λ i. get_or (nexts key n) i 0) n) (firsts_at key m n k h) ∙ follow n n (omega arith) (omega arith)
