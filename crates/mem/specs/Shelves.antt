-- Three lists written into a slice, each behind the one before: what stands in each place, and what becomes of it when they are written again or when
-- other words are written behind them. Tables of numbers chained by their keys lie so: the first of each key, the numbers' records, the next of each number.
-- Assumes nothing.
-- Key: `shelf_first`, `shelf_second`, `shelf_third`: each list stands in its place; `shelved_again`: written again, only the last writing shows;
-- `chained_put`: one more number in tables of chains.
use Rattle.std.specs.Prelude.{◌≡◌, ℕ, ◌+◌, ◌≤◌, ◌<◌}
use Rattle.std.proofs.Math.Path.{sym, ap, ap₂}
use Rattle.std.proofs.Common.{◌∙◌, arith}
use mathlib.Core.List.{List, [], ◌∷◌, ◌++◌}
use Rattle.std.proofs.Math.ListN.{length, get_or, set, length-set}
use Rattle.mem.specs.Chain.{firsts, nexts, firsts_more, nexts_more}
use Rattle.mem.specs.Slice.{set_part, splice_one, splice_behind, view_after, view_set_after, get_or_view}
use Rattle.mem.specs.Slice.{view, splice, splice_view, splice_over, splice_comm, splice_inside, length_splice, view_before, view_same}

module _ {A : Type 0} where
  unfoldable pub shelved : List A → ℕ → List A → ℕ → List A → ℕ → List A → List A
  shelved w a xs b ys c zs = splice (splice (splice w a xs) b ys) c zs

  -- m, n and k words have room at a, b and c
  pub record Shelves (w : List A) (a m b n c k : ℕ) : Type 0 where
    pub second : a + m ≤ b
    pub third : b + n ≤ c
    pub end : c + k ≤ length w

  pub length_shelved : (w : List A) (a : ℕ) (xs : List A) (b : ℕ) (ys : List A) (c : ℕ) (zs : List A) → length (shelved w a xs b ys c zs) ≡ length w
  unfolding shelved
  length_shelved w a xs b ys c zs = simp length_splice

  splice_swap : (w : List A) (p o : ℕ) (xs us : List A) → o + length us ≤ p → splice (splice w p xs) o us ≡ splice (splice w o us) p xs
  splice_swap w p o xs us h = sym (splice_comm w o p us xs h)

  module _ (w : List A) (a m : ℕ) (xs : List A) (b n : ℕ) (ys : List A) (c k : ℕ) (zs : List A) (r : Shelves w a m b n c k)
      (lx : length xs ≡ m) (ly : length ys ≡ n) (lz : length zs ≡ k) where
    x : List A
    x = splice w a xs

    y : List A
    y = splice x b ys

    long_x : length x ≡ length w
    unfolding x
    long_x = length_splice w a xs

    long_y : length y ≡ length w
    unfolding x y
    long_y = length_splice x b ys ∙ long_x

    pub shelf_first : view (shelved w a xs b ys c zs) a m ≡ xs
    unfolding shelved x y
    shelf_first =
        view_before y c a m zs (omega (arith, r.second, r.third)) ∙ view_before x b a m ys r.second
        ∙ view_same w a m xs lx (omega (arith, r.second, r.third, r.end))

    pub shelf_second : view (shelved w a xs b ys c zs) b n ≡ ys
    unfolding shelved x y
    shelf_second = view_before y c b n zs r.third ∙ view_same x b n ys ly (omega (arith, long_x, r.third, r.end))

    pub shelf_third : view (shelved w a xs b ys c zs) c k ≡ zs
    unfolding shelved x y
    shelf_third = view_same y c k zs lz (omega (arith, long_y, r.end))

    -- words behind them are no part of them
    pub shelved_past : (p : ℕ) (us : List A) → c + k ≤ p → shelved (splice w p us) a xs b ys c zs ≡ splice (shelved w a xs b ys c zs) p us
    unfolding shelved x y
    shelved_past p us h =
        ap (λ (l : List A). splice (splice l b ys) c zs) (sym (splice_comm w a p xs us (omega (arith, r.second, r.third))))
        ∙ ap (λ (l : List A). splice l c zs) (sym (splice_comm x b p ys us (omega (arith, r.third))))
        ∙ sym (splice_comm y c p zs us (omega arith))

    -- written over lists that were no longer
    pub shelved_again : (us vs ws : List A) → length us ≤ m → length vs ≤ n → length ws ≤ k
        → shelved (shelved w a us b vs c ws) a xs b ys c zs ≡ shelved w a xs b ys c zs
    unfolding shelved x y
    shelved_again us vs ws hu hv hw =
        let s = splice w a us in
        ap (λ (l : List A). splice (splice l b ys) c zs)
        (sym (splice_comm (splice s b vs) a c xs ws (omega (arith, r.second, r.third)))
        ∙ ap (λ (l : List A). splice l c ws)
        (sym (splice_comm s a b xs vs (omega (arith, r.second)))
        ∙ ap (λ (l : List A). splice l b vs) (splice_over w a us xs (omega arith))))
        ∙ ap (λ (l : List A). splice l c zs)
        (sym (splice_comm (splice x b vs) b c ys ws (omega (arith, r.third)))
        ∙ ap (λ (l : List A). splice l c ws) (splice_over x b vs ys (omega arith)))
        ∙ splice_over y c ws zs (omega arith)

    -- other words in one of them
    pub shelved_first : (i : ℕ) (us : List A) → i + length us ≤ m → splice (shelved w a xs b ys c zs) (a + i) us ≡ shelved w a (splice xs i us) b ys c zs
    unfolding shelved x y
    shelved_first i us h =
        splice_swap y c (a + i) zs us (omega (arith, r.second, r.third))
        ∙ ap (λ (l : List A). splice l c zs) (splice_swap x b (a + i) ys us (omega (arith, r.second))
        ∙ ap (λ (l : List A). splice l b ys) (splice_inside w a i xs us (omega arith)))

    pub shelved_second : (i : ℕ) (us : List A) → i + length us ≤ n → splice (shelved w a xs b ys c zs) (b + i) us ≡ shelved w a xs b (splice ys i us) c zs
    unfolding shelved x y
    shelved_second i us h =
        splice_swap y c (b + i) zs us (omega (arith, r.third))
        ∙ ap (λ (l : List A). splice l c zs) (splice_inside x b i ys us (omega arith))

    pub shelved_third : (i : ℕ) (us : List A) → i + length us ≤ k → splice (shelved w a xs b ys c zs) (c + i) us ≡ shelved w a xs b ys c (splice zs i us)
    unfolding shelved x y
    shelved_third i us h = splice_inside y c i zs us (omega arith)

  -- what stands there is written again
  pub shelved_same : (w : List A) (a m b n c k : ℕ) {xs ys zs : List A} → view w a m ≡ xs → view w b n ≡ ys → view w c k ≡ zs → w ≡ shelved w a xs b ys c zs
  unfolding shelved
  shelved_same w a m b n c k p q r =
      sym (rw (← p, splice_view w a m, ← q, splice_view w b n, ← r) (splice_view w c k))

-- ---- tables of n numbers chained by their keys: the first of each key, the records, the next of each number. One more number, n, is written with three
-- stores: it becomes the first of its key, its record comes behind the others, and the one that was first comes next
module _ (w : List ℕ) (a m b : ℕ) (R : List ℕ) (c n : ℕ) (key other : ℕ → ℕ) (ws : List ℕ) (second : a + m ≤ b) (third : b + (length R + length ws) ≤ c)
    (end : c + (n + 1) ≤ length w) (same : (j : ℕ) → j < n → key j ≡ other j) (h : other n < m)
    (first : view w a m ≡ firsts key m n) (middle : view w b (length R) ≡ R) (last : view w c n ≡ nexts key n) where
  v : List ℕ
  v = set w (a + other n) (n + 1)

  u : List ℕ
  u = splice v (b + length R) ws

  first_put : splice w a (firsts other m (n + 1)) ≡ v
  unfolding v
  first_put =
      ap (splice w a) (firsts_more key other m n same h ∙ ap (λ (l : List ℕ). set l (other n) (n + 1)) (sym first))
      ∙ sym (set_part w a m (other n) (n + 1) h (omega arith))

  long_v : length v ≡ length w
  unfolding v
  long_v = length-set w (a + other n) (n + 1)

  seen : (o k : ℕ) → b ≤ o → view v o k ≡ view w o k
  unfolding v
  seen o k l = view_set_after w (a + other n) o k (n + 1) (omega arith)

  middle_put : splice v b (R ++ ws) ≡ u
  unfolding u
  middle_put =
      ap (λ (l : List ℕ). splice v b (l ++ ws)) (sym (seen b (length R) (omega arith) ∙ middle))
      ∙ sym (splice_behind v b (length R) ws (omega (arith, long_v)))

  last_put : splice u c (nexts other (n + 1)) ≡ set u (c + n) (get_or w (a + other n) 0)
  unfolding u
  last_put =
      let e : view u c n ≡ nexts key n = view_after v (b + length R) c n ws (omega arith) ∙ seen c n (omega arith) ∙ last in
      let f : get_or (firsts key m n) (other n) 0 ≡ get_or w (a + other n) 0 = rw (← first) (get_or_view w a m (other n) 0 h) in
      ap (splice u c) (nexts_more key other m n same h ∙ ap₂ (λ (l : List ℕ) (x : ℕ). l ++ (x ∷ [])) (sym e) f)
      ∙ sym (splice_behind u c n (get_or w (a + other n) 0 ∷ []) (omega (arith, long_v, length_splice v (b + length R) ws)))
      ∙ splice_one u (c + n) (get_or w (a + other n) 0)

  pub chained_put : set (splice (set w (a + other n) (n + 1)) (b + length R) ws) (c + n) (get_or w (a + other n) 0)
      ≡ shelved w a (firsts other m (n + 1)) b (R ++ ws) c (nexts other (n + 1))
  unfolding shelved v u
  chained_put = rw (first_put, middle_put) (sym last_put)
