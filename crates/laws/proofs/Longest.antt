-- The longest of many pairs, the first of equal ones: what R4's search comes to, in whatever order its parts are looked at. Assumes nothing.
-- Key: `each_greater`: a search from the best so far is a search from none, against the best so far; `best_one`: there is just one first longest;
-- `best_kept`: it stays so where shorter pairs come and go.
use Rattle.std.specs.Prelude.{◌≡◌, ◌⊎◌, ◌≢◌}
use Rattle.std.proofs.Math.Path.{refl, ap, subst}
use Rattle.std.proofs.Common.{sym, ◌∙◌, inl, inr, ⊎_elim, lt-ltb, le-ltb}
use Prim.Native.Nat.{ℕ, zero, suc, ◌+◌, ◌-◌, ◌≤◌, ◌<◌}
use native.Mathlib.Omega.{arith}
use Rattle.mem.specs.Cases.{lt_or_le, eq_or_ne}
use Rattle.mem.specs.Loops.{each, steps}
use Rattle.rules.specs.Merge.{no_pair, greater}
use Rattle.rules.specs.declared.Pair.{Pair}
use Rattle.laws.specs.Longest.{Never, First, Best, size}

-- ---- the longer of two

pub greater_second : (s m : Pair) → s.length < m.length → greater s m ≡ m
unfolding greater
greater_second s m h = rw (lt-ltb s.length m.length h)

pub greater_first : (s m : Pair) → m.length ≤ s.length → greater s m ≡ s
unfolding greater
greater_first s m h = rw (le-ltb s.length m.length h)

pub greater_none : (s : Pair) → greater s no_pair ≡ s
greater_none s = greater_first s no_pair (omega arith)

greater_assoc : (s x y : Pair) → greater (greater s x) y ≡ greater s (greater x y)
greater_assoc s x y =
    ⊎_elim
    (λ (a : s.length < x.length). rw (greater_second s x a)
    (⊎_elim
    (λ (b : x.length < y.length). rw (greater_second x y b) (sym (greater_second s y (omega arith))))
    (λ (b : y.length ≤ x.length). rw (greater_first x y b) (sym (greater_second s x a)))
    (lt_or_le x.length y.length)))
    (λ (a : x.length ≤ s.length). rw (greater_first s x a)
    (⊎_elim
    (λ (b : x.length < y.length). rw (greater_second x y b) refl)
    (λ (b : y.length ≤ x.length). rw (greater_first x y b) (greater_first s y (omega arith) ∙ sym (greater_first s x a)))
    (lt_or_le x.length y.length)))
    (lt_or_le s.length x.length)

-- ---- the first of the longest of f i, f (i + 1), .. up to f (n - 1), where one is longer than 0

module _ (f : ℕ → Pair) where
  -- the best so far against f q
  unfoldable pub add : ℕ → Pair → Pair
  add q s = greater s (f q)

  steps_greater : (m i : ℕ) (s x : Pair) → steps add i m (greater s x) ≡ greater s (steps add i m x)
  unfolding steps add
  steps_greater zero i s x = refl
  steps_greater (suc m) i s x = ap (steps add (suc i) m) (greater_assoc s x (f i)) ∙ steps_greater m (suc i) s (greater x (f i))

  pub each_greater : (i n : ℕ) (s : Pair) → each add i n s ≡ greater s (each add i n no_pair)
  unfolding each
  each_greater i n s = ap (steps add i (n - i)) (sym (greater_none s)) ∙ steps_greater (n - i) i s no_pair

  upper : (i n : ℕ) (m : Pair) → Best f i n m → (j : ℕ) → i ≤ j → j < n → (f j).length ≤ m.length
  upper i n m b j h k = ⊎_elim (λ (z : Never f i n m). omega (arith, z.all j h k)) (λ (r : First f i n m). r.most j h k) b

  best_more : (i k : ℕ) (s : Pair) → i ≤ k → Best f i k s → Best f i (suc k) (greater s (f k))
  best_more i k s h b =
      ⊎_elim
      (λ (l : s.length < (f k).length). rw (greater_second s (f k) l) (inr (record {
        at = k;
        from = h;
        to = omega arith;
        is = refl;
        some = omega arith;
        before = λ j p q. omega (arith, upper i k s b j p q);
        most = λ j p q.
            ⊎_elim (λ (e : j ≡ k). rw e (omega arith)) (λ (e : j ≢ k). omega (arith, upper i k s b j p (omega (arith, e)))) (eq_or_ne j k);
      })))
      (λ (l : (f k).length ≤ s.length). rw (greater_first s (f k) l)
      (⊎_elim
      (λ (z : Never f i k s). inl (record {
        is = z.is;
        all = λ j p q.
            ⊎_elim (λ (e : j ≡ k). rw e (omega (arith, ap size z.is))) (λ (e : j ≢ k). z.all j p (omega (arith, e))) (eq_or_ne j k);
      }))
      (λ (r : First f i k s). inr (record {
        at = r.at;
        from = r.from;
        to = omega (arith, r.to);
        is = r.is;
        some = r.some;
        before = r.before;
        most = λ j p q. ⊎_elim (λ (e : j ≡ k). rw e l) (λ (e : j ≢ k). r.most j p (omega (arith, e))) (eq_or_ne j k);
      }))
      b))
      (lt_or_le s.length (f k).length)

  steps_best : (m i k n : ℕ) (s : Pair) → i ≤ k → k + m ≡ n → Best f i k s → Best f i n (steps add k m s)
  unfolding steps add
  steps_best zero i k n s h e b = let q : k ≡ n = omega arith in subst (λ (j : ℕ). Best f i j s) q b
  steps_best (suc m) i k n s h e b = steps_best m i (suc k) n (greater s (f k)) (omega arith) (omega arith) (best_more i k s h b)

  pub each_best : (i n : ℕ) → i ≤ n → Best f i n (each add i n no_pair)
  unfolding each
  each_best i n h = steps_best (n - i) i i n no_pair (omega arith) (omega arith) (inl (record { is = refl; all = λ j p q. absurd (omega arith) }))

  -- there is just one
  pub best_one : (i n : ℕ) (m k : Pair) → Best f i n m → Best f i n k → m ≡ k
  best_one i n m k x y =
      ⊎_elim
      (λ (a : Never f i n m). ⊎_elim (λ (b : Never f i n k). a.is ∙ sym b.is) (λ (b : First f i n k). absurd (never m k a b)) y)
      (λ (a : First f i n m). ⊎_elim (λ (b : Never f i n k). absurd (never k m b a)) (λ (b : First f i n k). both a b) y)
      x
    where
      never : (m k : Pair) → Never f i n m → First f i n k → ⊥
      never m k a b = omega (arith, a.all b.at b.from b.to, ap size b.is, b.some)

      both : First f i n m → First f i n k → m ≡ k
      both a b =
          ⊎_elim
          (λ (e : a.at ≡ b.at). a.is ∙ ap f e ∙ sym b.is)
          (λ (e : a.at ≢ b.at). ⊎_elim
          (λ (l : a.at < b.at). absurd (omega (arith, b.before a.at a.from l, a.most b.at b.from b.to, ap size a.is, ap size b.is)))
          (λ (l : b.at ≤ a.at). absurd (omega (
            arith,
            a.before b.at b.from (omega (arith, e)),
            b.most a.at a.from a.to,
            ap size a.is,
            ap size b.is,
          )))
          (lt_or_le a.at b.at))
          (eq_or_ne a.at b.at)

-- g is f up to n but at a and at b, where it is 0 or shorter than the best of f, and that is at neither of these and not the last
module _ (f g : ℕ → Pair) (i n a b : ℕ) (m : Pair) (own : (j : ℕ) → 0 < (f j).length → (f j).b ≡ j)
    (same : (j : ℕ) → i ≤ j → j < n → j ≢ a → j ≢ b → g j ≡ f j) (at_a : i ≤ a → a < n → ((g a).length ≡ 0) ⊎ ((g a).length < m.length))
    (at_b : i ≤ b → b < n → ((g b).length ≡ 0) ⊎ ((g b).length < m.length)) (not_a : m.b ≢ a) (not-b : m.b ≢ b) (not-n : m.b ≢ n) where
  -- g j is 0, or shorter, or what f j is
  three : (P : Pair → Type 0) (j : ℕ) → i ≤ j → j < n → ((x : Pair) → (x.length ≡ 0) ⊎ (x.length < m.length) → P x) → P (f j) → P (g j)
  three P j h k low p =
      ⊎_elim
      (λ (e : j ≡ a). rw e (low (g a) (at_a (rw (← e) h) (rw (← e) k))))
      (λ (e : j ≢ a). ⊎_elim
      (λ (d : j ≡ b). rw d (low (g b) (at_b (rw (← d) h) (rw (← d) k))))
      (λ (d : j ≢ b). rw (same j h k e d) p)
      (eq_or_ne j b))
      (eq_or_ne j a)

  pub best_kept : Best f i (n + 1) m → Best g i n m
  best_kept x =
      ⊎_elim
      (λ (z : Never f i (n + 1) m). inl (record {
        is = z.is;
        all = λ j h k. three (λ p. p.length ≡ 0) j h k
            (λ p (w : (p.length ≡ 0) ⊎ (p.length < m.length)).
            ⊎_elim (λ (e : p.length ≡ 0). e) (λ (e : p.length < m.length). omega (arith, ap size z.is)) w)
            (z.all j h (omega arith));
      }))
      (λ (r : First f i (n + 1) m).
      let t : m.b ≡ r.at = ap (λ (p : Pair). p.b) r.is ∙ own r.at (rw r.is at r.some) in
      let u : r.at < n = omega (arith, r.to, not-n, t) in
      inr (record {
        at = r.at;
        from = r.from;
        to = u;
        is = r.is ∙ sym (same r.at r.from u (rw (← t) not_a) (rw (← t) not-b));
        some = r.some;
        before = λ j h k. three (λ p. p.length < m.length) j h (omega (arith, u))
            (λ p (w : (p.length ≡ 0) ⊎ (p.length < m.length)).
            ⊎_elim (λ (e : p.length ≡ 0). omega (arith, r.some)) (λ (e : p.length < m.length). e) w)
            (r.before j h k);
        most = λ j h k. three (λ p. p.length ≤ m.length) j h k
            (λ p (w : (p.length ≡ 0) ⊎ (p.length < m.length)).
            ⊎_elim (λ (e : p.length ≡ 0). omega arith) (λ (e : p.length < m.length). omega arith) w)
            (r.most j h (omega arith));
      }))
      x
