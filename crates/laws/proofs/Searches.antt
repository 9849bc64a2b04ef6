-- A search for the highest number that fits, along a chain: where all numbers that fit have one key, the first that fits on the walk along that key's chain,
-- newest first, is the highest of all. Serves the weld's buckets and the edges of a vertex alike. Assumes nothing.
-- Key: `walk_found` and `walk_none`: what the walk finds is what looking through all numbers finds; `found_in`: it is one of them.
use Rattle.std.specs.Prelude.{◌≡◌, Bool, ◌≢◌, Option, Some, None}
use Rattle.std.proofs.Math.Path.{refl, sym}
use Rattle.std.proofs.Common.{ap, ◌∙◌, add-one}
use Rattle.std.proofs.Math.Bool.{true, false}
use Prim.Native.Nat.{ℕ, zero, suc, ◌+◌, ◌≤◌, ◌<◌}
use native.Mathlib.Omega.{arith}
use Rattle.mem.specs.Chain.{highest, highest_at, highest_most, walk_at, walk_end}
use Rattle.rules.specs.Lists.{when, or_else, down}
use Rattle.laws.specs.Searches.{found, Walk}

module _ (test : ℕ → Bool) where
  more : (k : ℕ) → found test (k + 1) ≡ or_else (when (test k) k) (found test k)
  unfolding down
  more k = rw (add-one k) refl

  miss : (k : ℕ) → test k ≡ false → found test (k + 1) ≡ found test k
  unfolding or_else when
  miss k e = more k ∙ rw e

  hit : (k : ℕ) → test k ≡ true → found test (k + 1) ≡ Some k
  unfolding or_else when
  hit k e = more k ∙ rw e

  -- ---- what is found is one of the numbers

  Inside : ℕ → Option ℕ → Type 0
  Inside n (Some k) = k < n
  Inside n None = Unit

  inside_more : (n : ℕ) (t : Bool) (f : Option ℕ) → Inside n f → Inside (suc n) (or_else (when t n) f)
  unfolding Inside or_else when
  inside_more n true f h = omega arith
  inside_more n false (Some k) h = omega arith
  inside_more n false None h = tt

  inside : (n : ℕ) → Inside n (found test n)
  unfolding down Inside
  inside zero = tt
  inside (suc n) = inside_more n (test n) (found test n) (inside n)

  pub found_in : (n k : ℕ) → Some k ≡ found test n → k < n
  unfolding Inside
  found_in n k e = rw (← e) at (inside n)

-- all numbers that fit have the key b
module _ (test : ℕ → Bool) (key : ℕ → ℕ) (b : ℕ) (keyed : (k : ℕ) → test k ≡ true → key k ≡ b) where
  blind : (j : ℕ) → key j ≢ b → found test (j + 1) ≡ found test j
  blind j ne = go (test j) refl
    where
      go : (t : Bool) → test j ≡ t → found test (j + 1) ≡ found test j
      go true e = absurd (ne (keyed j e))
      go false e = miss test j e

  module _ (n : ℕ) {link : ℕ} (r : Walk test key b n link) where
    pub walk_none : link ≤ 0 → None ≡ found test n
    unfolding down
    walk_none h =
        let z : highest key b r.m ≡ 0 = omega (arith, r.at) in
        sym (r.same ∙ walk_end key b (found test) blind r.m z)

    module _ (k : ℕ) (e : k + 1 ≡ link) where
      here : highest key b r.m ≡ k + 1
      here = sym (e ∙ r.at)

      pub walk_in_lem : k < n
      walk_in_lem = omega (arith, (highest_at key b r.m k here).0, r.within)

      past : found test n ≡ found test (k + 1)
      past = r.same ∙ walk_at key b (found test) blind r.m k here

      pub walk_found : test k ≡ true → Some k ≡ found test n
      walk_found t = sym (past ∙ hit test k t)

      pub walk_next : {next : ℕ} → next ≡ highest key (key k) k → test k ≡ false → Walk test key b n next
      walk_next q t = record {
        m = k;
        within = omega (arith, walk_in_lem);
        at = q ∙ ap (λ (c : ℕ). highest key c k) (highest_at key b r.m k here).1;
        same = past ∙ miss test k t;
      }

      pub walk_less : {next : ℕ} → next ≡ highest key (key k) k → next < link
      walk_less {next} q = omega (arith, q, highest_most key (key k) k)
