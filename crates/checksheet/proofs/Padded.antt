-- Numbers written one by one, and none behind them, are the numbers padded. Assumes nothing.
use mathlib.Core.Path.{◌≡◌, refl, sym, ap, ◌∙◌}
use mathlib.Core.List.{List, [], ◌∷◌, ◌++◌, map}
use Prim.Native.Nat.{ℕ, zero, suc, ◌+◌, ◌-◌, ◌≤◌}
use native.Mathlib.Omega.{arith}
use lib.ListN.{length, get_or, replicate}
use lib.Seq.{take-length}
use Rattle.mem.specs.Slice.{splice, splice_append}
use Rattle.mem.specs.Tab.{tab, Filled, filled_all, tab_take}
use Rattle.rules.specs.Links.{none}
use Rattle.rules.specs.Exits.{padded}

-- words that are the numbers themselves
pub map_same : (l : List ℕ) → map (λ (n : ℕ). n) l ≡ l
map_same [] = refl
map_same (n ∷ ns) = ap (λ (l : List ℕ). n ∷ l) (map_same ns)

module _ {A : Type 0} (f : ℕ → A) where
  map_both : (l m : List ℕ) → map f (l ++ m) ≡ map f l ++ map f m
  map_both [] m = refl
  map_both (n ∷ l) m = ap (λ (r : List A). f n ∷ r) (map_both l m)

  map_many : (n x : ℕ) → map f (replicate n x) ≡ replicate n (f x)
  map_many zero x = refl
  map_many (suc n) x = ap (λ (r : List A). f x ∷ r) (map_many n x)

  map_tab : (g : ℕ → ℕ) (n : ℕ) → tab (λ k. f (g k)) n ≡ map f (tab g n)
  unfolding tab
  map_tab g zero = refl
  map_tab g (suc n) = rw (map_tab g n) (sym (map_both (tab g n) (g n ∷ [])))

  length_mapped : (l : List ℕ) → length (map f l) ≡ length l
  length_mapped [] = refl
  length_mapped (n ∷ l) = ap suc (length_mapped l)

  pub padded_put : (values : List ℕ) (v : List A) (at n i : ℕ) {w u : List A} {x : A} → Filled v at (λ k. f (get_or values k 0)) (length values) w i
      → length values ≤ i → x ≡ f none → u ≡ splice w (at + length values) (replicate (n - length values) x) → u ≡ splice v at (map f (padded n values))
  unfolding padded
  padded_put values v at n i {w} {u} r h q e =
      let m = length values in
      let a : w ≡ splice v at (map f values) =
      filled_all r h ∙ ap (splice v at) (map_tab (λ k. get_or values k 0) m ∙ ap (map f) (tab_take values m 0 (omega arith) ∙ take-length values)) in
      let z : splice v at (map f (padded n values)) ≡ splice v at (map f values ++ replicate (n - m) (f none)) =
      ap (splice v at) (map_both values (replicate (n - m) none) ∙ ap (λ (l : List A). map f values ++ l) (map_many (n - m) none)) in
      let y : u ≡ splice w (at + length (map f values)) (replicate (n - m) (f none)) = rw (length_mapped values, ← q) e in
      y ∙ rw (a, z) (splice_append v at (map f values) (replicate (n - m) (f none)))
