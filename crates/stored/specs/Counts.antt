-- A row's corners, counted: for those who call `count_corners` and lend what it counted. They are no more than the row's words, and stand at its beginning.
-- Assumes nothing.
use Rattle.std.specs.Prelude.{◌≡◌, List, ℕ, ◌+◌, ◌≤◌, length, take, drop}
use Rattle.std.proofs.Common.{sym, ◌∙◌, arith, take-take}
use Rattle.mem.specs.Slice.{view, length_view}
use Rattle.rules.specs.Exits.{up_to_none}
use Rattle.laws.proofs.HandedWords.{up_to_few}

-- the row of nvp words at `from` is lent as m words, and c is its count
module _ (ps : List ℕ) (from nvp m c : ℕ) (e : m ≡ nvp) (h : from + nvp ≤ length ps)
    (r : (c ≡ length (up_to_none (view ps from m))) × (take c (view ps from m) ≡ up_to_none (view ps from m))) where
  pub count_most : c ≤ nvp
  count_most = omega (arith, rw e at r.0, up_to_few (view ps from nvp), length_view ps from nvp h)

  -- the corners are lent as j words
  pub corners_there : (j : ℕ) → j ≡ c → view ps from j ≡ up_to_none (view ps from nvp)
  corners_there j q =
      let s : take c (view ps from nvp) ≡ up_to_none (view ps from nvp) = rw e at r.1 in
      rw q (sym (take-take c nvp (drop from ps) count_most) ∙ s)
