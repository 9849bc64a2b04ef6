-- What stands in a slice once a part of it has been written whole: the words are spliced in. Assumes nothing.
use Rattle.std.specs.Prelude.{◌≡◌, List, ℕ, ◌+◌, ◌≤◌, length}
use Rattle.std.proofs.Common.{ap, ◌∙◌}
use borrow.Rule.Slice.PartMut.{put_mid}
use Rattle.mem.specs.Slice.{splice, lent_back}

-- n words from `at` on have become xs; the code's k is where the part ends less where it begins
pub stored : (w : List ℕ) (at n : ℕ) {k : ℕ} {ys : List ℕ} (xs : List ℕ) → k ≡ n → ys ≡ xs → length xs ≡ n → at + n ≤ length w
    → put_mid at k w ys ≡ splice w at xs
stored w at n {k} {ys} xs e q l h = rw e (lent_back w at n ys (ap length q ∙ l) h ∙ ap (splice w at) q)
