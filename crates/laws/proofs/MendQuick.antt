-- Request 12, the quick way, turn by turn. Assumes nothing.
-- Key: `stack_few` to `stack_joins`: the turns of the walk; `ends_few` to `ends_none`: those of the ends.
use Rattle.std.specs.Prelude.{ℕ, suc, ◌+◌, ◌-◌, ◌≡◌, true, false, ◌&&◌, ltb}
use Rattle.std.proofs.Math.Path.{refl}
use Rattle.rules.specs.Mend.{Mending, lose_after, lose_two}
use Rattle.laws.specs.Mend.{left_in, places_in}
use Rattle.laws.specs.MendQuick.{meet, ends_loop, stack_loop}

-- ---- a turn of the ends
module _ (f : ℕ) (m : Mending) where
  pub ends_few : ltb (left_in m) 3 ≡ true → ends_loop (suc f) m ≡ m
  unfolding ends_loop
  ends_few e = rw (e, ends_loop) refl

  module _ (e : ltb (left_in m) 3 ≡ false) where
    pub ends_near : meet (places_in m) (left_in m - 2) 0 ≡ true → ends_loop (suc f) m ≡ ends_loop f (lose_two (left_in m - 2) m)
    unfolding ends_loop
    ends_near a = rw (e, ends_loop, a) refl

    module _ (a : meet (places_in m) (left_in m - 2) 0 ≡ false) where
      pub ends_last : meet (places_in m) (left_in m - 1) 0 ≡ true → ends_loop (suc f) m ≡ ends_loop f (lose_after (left_in m - 1) m)
      unfolding ends_loop
      ends_last b = rw (e, ends_loop, a, b) refl

      module _ (b : meet (places_in m) (left_in m - 1) 0 ≡ false) where
        pub ends_last_two : meet (places_in m) (left_in m - 1) 1 ≡ true → ends_loop (suc f) m ≡ ends_loop f (lose_two (left_in m - 1) m)
        unfolding ends_loop
        ends_last_two d = rw (e, ends_loop, a, b, d) refl

        pub ends_none : meet (places_in m) (left_in m - 1) 1 ≡ false → ends_loop (suc f) m ≡ m
        unfolding ends_loop
        ends_none d = rw (e, ends_loop, a, b, d) refl

-- ---- a turn of the walk
module _ (r s : ℕ) (m : Mending) where
  pub stack_few : ltb (left_in m) 3 ≡ true → stack_loop (suc r) s m ≡ m
  unfolding stack_loop
  stack_few e = rw (e, stack_loop) refl

  module _ (e : ltb (left_in m) 3 ≡ false) where
    pub stack_one : meet (places_in m) (s - 1) s ≡ true → stack_loop (suc r) s m ≡ stack_loop r s (lose_after (s - 1) m)
    unfolding stack_loop
    stack_one a = rw (e, stack_loop, a) refl

    module _ (a : meet (places_in m) (s - 1) s ≡ false) where
      pub stack_two : (ltb 1 s && meet (places_in m) (s - 2) s) ≡ true → stack_loop (suc r) s m ≡ stack_loop r (s - 1) (lose_two (s - 2) m)
      unfolding stack_loop
      stack_two b = rw (e, stack_loop, a, b) refl

      pub stack_joins : (ltb 1 s && meet (places_in m) (s - 2) s) ≡ false → stack_loop (suc r) s m ≡ stack_loop r (s + 1) m
      unfolding stack_loop
      stack_joins b = rw (e, stack_loop, a, b) refl
