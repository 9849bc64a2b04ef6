-- R5, the walk: the chain and the sides that are left are, together, always the same sides. Assumes nothing.
-- Key: `walked`: points and sides left are as many as before, and so is any sum over sides.
use Prim.Native.Nat.{ℕ, zero, suc, ◌+◌, ◌-◌, ◌<◌}
use Rattle.std.proofs.Common.{arith, sym, ◌∙◌, eqb-true}
use Rattle.std.specs.Prelude.{◌≡◌, refl, Bool, true, false, cond, List, [], ◌∷◌, ◌++◌, eqb, length, get_or, ℤ, ◌+ℤ◌}
use Rattle.std.proofs.Math.Path.{ap}
use Rattle.std.proofs.Math.ListN.{length-append}
use Rattle.ints.specs.Ring.{at, nat, ◌⊕◌, is_eq}
use Rattle.mem.specs.Loops.{times, times_ind}
use Rattle.rules.specs.declared.Side.{Side}
use Rattle.rules.specs.declared.ChainPoint.{ChainPoint}
use Rattle.rules.specs.Lists.{swap_remove}
use Rattle.rules.specs.Removal.{no_side, no_point, Walk, first_of, last_of, brought_by, Fit, front, back, neither, fit_of, walk_by, walk_one, walk_once, walk_start, walk}
use Rattle.rules.specs.Areas.{sum_of}
use Rattle.laws.specs.Lists.{All, none, more}
use Rattle.laws.proofs.Lists.{all_append, all_at, all_perm, all_tail, sum_perm, swap_perm, swap_length}
use Rattle.laws.specs.Sides.{path}
use Rattle.laws.specs.Walks.{between, chain_sum, on_side, Walked}

-- ---- the sum of g over a chain's sides, from its first point to its last

-- a point more in front, and one more behind
pub sum_front : (g : ℕ → ℕ → ℤ) (c : ChainPoint) (chain : List ChainPoint) → 0 < length chain
    → chain_sum g (c ∷ chain) ≡ g c.vertex (first_of chain).vertex +ℤ chain_sum g chain
unfolding chain_sum path
sum_front g c [] h = absurd (omega arith)
sum_front g c (d ∷ chain) h = refl

back_on : (g : ℕ → ℕ → ℤ) (c : ChainPoint) (chain : List ChainPoint) (l : ChainPoint)
    → path (between g) c (chain ++ (l ∷ [])) ≡ g (get_or (c ∷ chain) (length chain) no_point).vertex l.vertex +ℤ path (between g) c chain
unfolding path
back_on g c [] l = refl
back_on g c (d ∷ chain) l =
    let last = g (get_or (d ∷ chain) (length chain) no_point).vertex l.vertex in
    let first = g c.vertex d.vertex in
    rw (back_on g d chain l)
    (is_eq (at first ⊕ (at last ⊕ at (path (between g) d chain))) (at last ⊕ (at first ⊕ at (path (between g) d chain))) (omega arith))

pub sum_back : (g : ℕ → ℕ → ℤ) (chain : List ChainPoint) (l : ChainPoint) → 0 < length chain
    → chain_sum g (chain ++ (l ∷ [])) ≡ g (last_of chain).vertex l.vertex +ℤ chain_sum g chain
unfolding chain_sum
sum_back g [] l h = absurd (omega arith)
sum_back g (c ∷ chain) l h = let e : length (c ∷ chain) - 1 ≡ length chain = omega arith in rw e (back_on g c chain l)

-- ---- where a side fits

fit_cases : (a b : Bool) (P : Fit → Type 0) → (a ≡ true → P front) → (b ≡ true → P back) → P neither → P (cond a front (cond b back neither))
fit_cases true b P f g h = f refl
fit_cases false true P f g h = g refl
fit_cases false false P f g h = h

-- ---- what a walk keeps

module _ {P : ℕ → Type 0} {g : ℕ → ℕ → ℤ} {z : ℤ} {n : ℕ} (w : Walk) (h : w.at < length w.rest) (k : Walked P g z n w) where
  -- the side that is tried, and the others
  s : Side
  s = get_or w.rest w.at no_side

  others : List Side
  others = swap_remove no_side w.rest w.at

  rest_sum : sum_of (on_side g) w.rest ≡ g s.start s.end +ℤ sum_of (on_side g) others
  unfolding s others on_side sum_of
  rest_sum = sum_perm (on_side g) (swap_perm no_side w.rest w.at h)

  -- used at either end, the side goes from the others' sum to the chain's
  moved : (c : ℤ) → c ≡ g s.start s.end +ℤ chain_sum g w.chain → c +ℤ sum_of (on_side g) others ≡ z
  moved c e =
      let a = g s.start s.end in
      let b = chain_sum g w.chain in
      let d = sum_of (on_side g) others in
      ap (λ (x : ℤ). x +ℤ d) e ∙ is_eq (at a ⊕ at b ⊕ at d) (at b ⊕ (at a ⊕ at d)) (omega arith) ∙ ap (λ (x : ℤ). b +ℤ x) (sym rest_sum) ∙ k.total

  used_front : s.end ≡ (first_of w.chain).vertex → Walked P g z n (walk_by front s w)
  unfolding s others walk_by brought_by
  used_front e = record {
    some = omega arith;
    total = moved (chain_sum g (brought_by s s.start ∷ w.chain)) (sum_front g (brought_by s s.start) w.chain k.some ∙ ap (λ (v : ℕ). g s.start v +ℤ chain_sum g w.chain) (sym e));
    counts = omega (arith, k.counts, swap_length no_side w.rest w.at);
    points = more (all_at k.starts w.at no_side h) k.points;
    starts = all_tail (all_perm (swap_perm no_side w.rest w.at h) k.starts);
    ends = all_tail (all_perm (swap_perm no_side w.rest w.at h) k.ends);
  }

  used_back : s.start ≡ (last_of w.chain).vertex → Walked P g z n (walk_by back s w)
  unfolding s others walk_by brought_by
  used_back e = record {
    some = omega (arith, length-append w.chain (brought_by s s.end ∷ []));
    total = moved (chain_sum g (w.chain ++ (brought_by s s.end ∷ []))) (sum_back g w.chain (brought_by s s.end) k.some ∙ ap (λ (v : ℕ). g v s.end +ℤ chain_sum g w.chain) (sym e));
    counts = omega (arith, k.counts, swap_length no_side w.rest w.at, length-append w.chain (brought_by s s.end ∷ []));
    points = all_append k.points (more (all_at k.ends w.at no_side h) none);
    starts = all_tail (all_perm (swap_perm no_side w.rest w.at h) k.starts);
    ends = all_tail (all_perm (swap_perm no_side w.rest w.at h) k.ends);
  }

  passed_by : Walked P g z n (walk_by neither s w)
  unfolding s walk_by
  passed_by = record { some = k.some; total = k.total; counts = k.counts; points = k.points; starts = k.starts; ends = k.ends }

  pub walk_one_lem : Walked P g z n (walk_one w)
  unfolding s walk_one fit_of
  walk_one_lem = fit_cases (eqb s.end (first_of w.chain).vertex) (eqb s.start (last_of w.chain).vertex) (λ (f : Fit). Walked P g z n (walk_by f s w))
      (λ e. used_front (eqb-true s.end (first_of w.chain).vertex e)) (λ e. used_back (eqb-true s.start (last_of w.chain).vertex e)) passed_by

-- each turn uses a side or steps past one
by_left : (f : Fit) (s : Side) (w : Walk) (n : ℕ) → w.at + suc n ≡ length w.rest → (walk_by f s w).at + n ≡ length (walk_by f s w).rest
unfolding walk_by
by_left front s w n e = omega (arith, swap_length no_side w.rest w.at)
by_left back s w n e = omega (arith, swap_length no_side w.rest w.at)
by_left neither s w n e = omega arith

pub one_left : (w : Walk) (n : ℕ) → w.at + suc n ≡ length w.rest → (walk_one w).at + n ≡ length (walk_one w).rest
unfolding walk_one
one_left w n e = by_left (fit_of w.chain (get_or w.rest w.at no_side)) (get_or w.rest w.at no_side) w n e

module _ {P : ℕ → Type 0} {g : ℕ → ℕ → ℤ} {z : ℤ} {n : ℕ} where
  walk_turns : (f : ℕ) (w : Walk) → w.at + f ≡ length w.rest → Walked P g z n w → Walked P g z n (times walk_one f w)
  unfolding times
  walk_turns zero w e k = k
  walk_turns (suc f) w e k = walk_turns f (walk_one w) (one_left w f e) (walk_one_lem w (omega arith) k)

  pub walk_once_lem : (w : Walk) → Walked P g z n w → Walked P g z n (walk_once w)
  unfolding walk_once
  walk_once_lem w k = walk_turns (length w.rest) (record { chain = w.chain; rest = w.rest; at = 0 }) (omega arith)
      (record { some = k.some; total = k.total; counts = k.counts; points = k.points; starts = k.starts; ends = k.ends })

-- the walk over sides, of which there is one at least: if it uses all of them, its chain has one point more than there are sides, and the same sum
pub walked : {P : ℕ → Type 0} (g : ℕ → ℕ → ℤ) (sides : List Side) → 0 < length sides → All (λ (s : Side). P s.start) sides → All (λ (s : Side). P s.end) sides
    → Walked P g (sum_of (on_side g) sides) (suc (length sides)) (walk sides)
unfolding walk walk_start chain_sum path brought_by
walked {P} g sides h a b = times_ind walk_once (Walked P g (sum_of (on_side g) sides) (suc (length sides))) (λ w k. walk_once_lem w k) (length sides) (walk_start sides) (record {
  some = omega arith;
  total = is_eq (nat 0 ⊕ at (sum_of (on_side g) sides)) (at (sum_of (on_side g) sides)) (omega arith);
  counts = omega arith;
  points = more (all_at a 0 no_side h) none;
  starts = a;
  ends = b;
})
