-- Request 12, the quick way: the points passed so far are a stack within which no rule applies; when all are passed, only the two ends can apply. One walk and
-- no search. For the code; nobody has to believe it, for `MendSame` says that it gives what the sentences give. Definitions only.
use Rattle.std.specs.Prelude.{ℕ, zero, suc, ◌+◌, ◌-◌, Bool, true, false, ◌&&◌, List, [], ltb, length, get_or}
use Rattle.rules.specs.declared.Point.{Point}
use Rattle.rules.specs.Plane.{origin, vequal}
use Rattle.rules.specs.Mend.{Traced, Mending, lose_after, lose_two}
use Rattle.laws.specs.Mend.{left_in, places_in}

-- the places i and j of a list are the same on the plane
unfoldable pub meet : List Point → ℕ → ℕ → Bool
meet l i j = vequal (get_or l i origin) (get_or l j origin)

-- all are passed: only the ends can apply, and what is left is still such a stack. f is as many as there are points
unfoldable pub ends_loop : ℕ → Mending → Mending
ends_loop zero m = m
ends_loop (suc f) m =
    let l = places_in m in
    let n = left_in m in
    elim (ltb n 3) [
      | true ↦ m
      | false ↦ elim (meet l (n - 2) 0) [
        | true ↦ ends_loop f (lose_two (n - 2) m)
        | false ↦ elim (meet l (n - 1) 0) [
          | true ↦ ends_loop f (lose_after (n - 1) m)
          | false ↦ elim (meet l (n - 1) 1) [
            | true ↦ ends_loop f (lose_two (n - 1) m)
            | false ↦ m
          ]
        ]
      ]
    ]

-- s points are passed, at least one, and r are not yet: the point at s is lost if it is doubled, lost with the top if it comes back, and else joins
unfoldable pub stack_loop : ℕ → ℕ → Mending → Mending
stack_loop zero s m = ends_loop (left_in m) m
stack_loop (suc r) s m =
    let l = places_in m in
    elim (ltb (left_in m) 3) [
      | true ↦ m
      | false ↦ elim (meet l (s - 1) s) [
        | true ↦ stack_loop r s (lose_after (s - 1) m)
        | false ↦ elim (ltb 1 s && meet l (s - 2) s) [
          | true ↦ stack_loop r (s - 1) (lose_two (s - 2) m)
          | false ↦ stack_loop r (s + 1) m
        ]
      ]
    ]

unfoldable pub quick_mended : List Traced → Mending
quick_mended ps = stack_loop (length ps - 1) 1 (record { points = ps; lost = [] })
