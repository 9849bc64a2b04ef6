-- Request 12: the points that are kept and those that are lost are together the points that were handed in, each as often as it was; and the kept ones are in
-- their order, with their own x, y and z. Assumes nothing.
-- Key: `mend_parted`, the statement of `rules`.
use Rattle.std.specs.Prelude.{ℕ, zero, suc, ◌+◌, ◌≤◌, ◌<◌, ◌≡◌, refl, take, drop}
use Rattle.std.proofs.Common.{arith}
use Rattle.std.proofs.Math.Path.{ap}
use mathlib.Core.List.{List, [], ◌∷◌, ◌++◌, map}
use Rattle.std.proofs.Math.ListN.{length, get_or, length-map, get_or-map}
use Rattle.rules.specs.Lists.{next, without, count}
use Rattle.rules.specs.Mend.{Traced, no_traced, Mending, takes_flag, lose_after, place_then, lose_two}
use Rattle.rules.specs.Mend.{InOrder, ends, keeps, skips, unflagged, traced_numbers, MendParted}
use Rattle.laws.proofs.Lists.{count_append, count_without}
use Rattle.laws.proofs.Ring.{next_below}
use Rattle.laws.specs.MendLoss.{lost_one}
use Rattle.laws.specs.Mend.{left_in, Step, one_lost, two_lost}
use Rattle.laws.proofs.Mend.{map_lost, length_lost, mend_ind}

-- ---- lists of which some are left out
module _ {A : Type 0} where
  in_all : (l : List A) → InOrder l l
  in_all [] = ends
  in_all (x ∷ l) = keeps (in_all l)

  in_drop : (n : ℕ) (l : List A) → InOrder (drop n l) l
  in_drop zero l = in_all l
  in_drop (suc n) [] = ends
  in_drop (suc n) (x ∷ l) = skips (in_drop n l)

  in_cut : (i n : ℕ) (l : List A) → i ≤ n → InOrder (take i l ++ drop n l) l
  in_cut zero n l h = in_drop n l
  in_cut (suc i) zero l h = absurd (omega arith)
  in_cut (suc i) (suc n) [] h = ends
  in_cut (suc i) (suc n) (x ∷ l) h = keeps (in_cut i n l (omega arith))

  in_without : (l : List A) (i : ℕ) → InOrder (without l i) l
  unfolding without
  in_without l i = in_cut i (i + 1) l (omega arith)

  in_trans : {k l : List A} → InOrder k l → (j : List A) → InOrder j k → InOrder j l
  in_trans ends j a = a
  in_trans (keeps {k = k} b) j (keeps {k = j'} a) = keeps (in_trans b j' a)
  in_trans (keeps b) j (skips a) = skips (in_trans b j a)
  in_trans (skips b) j a = skips (in_trans b j a)

-- ---- a mending of ps
record Parted (ps : List Traced) (m : Mending) : Type 0 where
  together : (k : ℕ) → count k (traced_numbers m.points) + count k m.lost ≡ count k (traced_numbers ps)
  order : InOrder (map unflagged m.points) (map unflagged ps)

module _ (ps : List Traced) where
  lose_parted : (i : ℕ) (m : Mending) → 0 < left_in m → Parted ps m → Parted ps (lose_after i m)
  unfolding traced_numbers lose_after takes_flag lost_one
  lose_parted i m h p = record {
    together = λ k.
        let ks = traced_numbers m.points in
        let n : length ks ≡ left_in m = length-map m.points (λ t. t.number) in
        let at = next i (length ks) in
        let gone = (get_or m.points (next i (left_in m)) no_traced).number in
        let same : get_or ks at 0 ≡ gone = rw n (get_or-map (λ t. t.number) m.points (next i (left_in m)) no_traced) in
        let left = ap (count k) (map_lost i m (λ t. t.number) (λ a b. refl)) in
        let low : at < length ks = next_below i (length ks) (omega arith) in
        let parts : count k (without ks at) + count k (gone ∷ []) ≡ count k ks = rw same at (count_without k ks at 0 low) in
        omega (arith, p.together k, count_append k m.lost (gone ∷ []));
    order = let us = map unflagged m.points in rw (map_lost i m unflagged (λ a b. refl)) (in_trans p.order (without us (next i (length us))) (in_without us (next i (length us))));
  }

  parted_step : (m n : Mending) → Step m n → Parted ps m → Parted ps n
  unfolding lose_two
  parted_step m _ (one_lost i three h e) p = lose_parted i m (omega arith) p
  parted_step m _ (two_lost i three h d e) p =
      lose_parted (place_then i (left_in m)) (lose_after i m) (omega (arith, length_lost i m (omega arith))) (lose_parted i m (omega arith) p)

pub mend_parted : MendParted
unfolding count
mend_parted ps =
    let p = mend_ind (Parted ps) (parted_step ps) ps (record { together = λ k. omega arith; order = in_all (map unflagged ps) }) in
    record { together = p.together; order = p.order }
