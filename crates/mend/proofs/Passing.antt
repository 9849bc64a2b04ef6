-- The point j is passed: what each loss needs, and what it leaves. Assumes nothing.
use mathlib.Core.Path.{◌≡◌, refl, sym, ap, ◌∙◌, subst}
use mathlib.Core.Bool.{Bool, true, false, cond}
use mathlib.Core.List.{List, [], ◌∷◌, ◌++◌}
use Prim.Native.Nat.{ℕ, ◌+◌, ◌-◌, ◌≤◌, ◌<◌}
use native.Mathlib.Omega.{arith}
use lib.ListN.{length, get_or, set, length-append}
use lib.Seq.{get_or-take, length-take-le}
use Rattle.laws.proofs.Lists.{all_at}
use Rattle.laws.proofs.MendNumbers.{length_carried_if}
use Rattle.laws.specs.MendPass.{Passing, top_of, joining, losing, turning, pass}
use Rattle.mend.specs.declared.pass.Walk.{Walk}
use Rattle.mend.specs.declared.pass.Meets.{Meets}
use Rattle.mend.specs.declared.pass.Meets.TheVariants.{Top, Second, Neither}
use Rattle.mend.specs.Losing.{LoseReady, Lost}
use Rattle.mend.specs.Walking.{Begun, Stands, Met, PassReady, Passed}
use Rattle.mend.proofs.Meeting.{both_in}
use Rattle.mend.proofs.Walking.{top_is, second_is, state_is, stands_joined, stands_lost, stands_turned}

-- ---- which case it is, of any state that stands there

module _ {b : Begun} {w : Passing} {ns ls ws : List ℕ} {at : Walk} (s : Stands b w ns ls ws at) (t : Bool) (e j : ℕ) where
  is_losing : Met Top ns ws at.top e j → pass t e j w ≡ losing t j w
  unfolding Met
  is_losing m = ap (pass t e j) (sym (state_is s)) ∙ m t w.lost ∙ ap (losing t j) (state_is s)

  is_turning : Met Second ns ws at.top e j → pass t e j w ≡ turning t j w
  unfolding Met
  is_turning m = ap (pass t e j) (sym (state_is s)) ∙ m.1 t w.lost ∙ ap (turning t j) (state_is s)

  is_joining : Met Neither ns ws at.top e j → pass t e j w ≡ joining j w
  unfolding Met
  is_joining m = ap (pass t e j) (sym (state_is s)) ∙ m t w.lost ∙ ap (joining j) (state_is s)

-- the case that was found
pub met_as : {r v : Meets} (ns ws : List ℕ) (top e j : ℕ) → r ≡ v → Met r ns ws top e j → Met v ns ws top e j
met_as ns ws top e j q m = subst (λ (r : Meets). Met r ns ws top e j) q m

pub second_tall : (ns ws : List ℕ) (top e j : ℕ) → Met Second ns ws top e j → 2 ≤ top
unfolding Met
second_tall ns ws top e j m = m.0

-- ---- what a loss needs

losing_one : (t : Bool) (j : ℕ) (w : Passing) → length (losing t j w).lost ≡ length w.lost + 1
unfolding losing
losing_one t j w = length-append w.lost (j ∷ [])

turning_two : (t : Bool) (j : ℕ) (w : Passing) → length (turning t j w).lost ≡ length w.lost + 2
unfolding turning
turning_two t j w = omega (arith, length-append w.lost (top_of w.stack ∷ []), length-append (w.lost ++ (top_of w.stack ∷ [])) (j ∷ []))

-- a room that is enough for more is enough
pub room_less : (t : Bool) (a b n : ℕ) → a ≤ b → cond t b 0 ≤ n → cond t a 0 ≤ n
room_less true a b n h r = omega arith
room_less false a b n h r = r

length_lost : {t : Bool} {ns ls ns' ls' : List ℕ} {k p q : ℕ} → Lost t ns ls ns' ls' k p q → (length ns' ≡ length ns) × (length ls' ≡ length ls)
length_lost {t} {ns} {ls} {ns'} {ls'} {k} {p} {q} l = (ap length l.numbers ∙ length_carried_if t ns p q, ap length l.list ∙ go t)
  where
    go : (u : Bool) → length (cond u (set ls k q) ls) ≡ length ls
    go true = lib.ListN.length-set ls k q
    go false = refl

module _ {t : Bool} {ns ls ws : List ℕ} {e j : ℕ} {at : Walk} (r : PassReady t ns ls ws e j at) where
  top_room : Met Top ns ws at.top e j → cond t (at.lost + 1) 0 ≤ length ls
  top_room m = room_less t (at.lost + 1) _ (length ls)
      (omega (arith, r.stands.lost, ap (λ (v : Passing). length v.lost) (is_losing r.stands t e j m), losing_one t j r.state)) r.room

  second_room : Met Second ns ws at.top e j → cond t (at.lost + 1 + 1) 0 ≤ length ls
  second_room m = room_less t (at.lost + 1 + 1) _ (length ls)
      (omega (arith, r.stands.lost, ap (λ (v : Passing). length v.lost) (is_turning r.stands t e j m), turning_two t j r.state)) r.room

  -- the doubled point
  pub lose_top : (p : ℕ) → Met Top ns ws at.top e j → p ≡ get_or ws (at.top - 1) 0 → LoseReady t ns ls at.lost p j
  lose_top p m q = record {
    both = both_in ns ws at.top e j r.meets p (at.top - 1) (omega (arith, r.meets.some)) q;
    small = omega (arith, r.meets.next, r.small);
    room = top_room m;
  }

  -- the spike's tip
  pub lose_tip : (p x : ℕ) → Met Second ns ws at.top e j → p ≡ get_or ws (at.top - 2) 0 → x ≡ get_or ws (at.top - 1) 0 → LoseReady t ns ls at.lost p x
  lose_tip p x m q f =
      let one = (both_in ns ws at.top e j r.meets p (at.top - 2) (omega (arith, r.meets.some)) q).one in
      let other = (both_in ns ws at.top e j r.meets x (at.top - 1) (omega (arith, r.meets.some)) f).one in
      let below = all_at r.meets.high (at.top - 1) 0 (omega (arith, length-take-le at.top ws r.meets.room, r.meets.some)) in
      let same = get_or-take at.top ws (at.top - 1) 0 (omega (arith, r.meets.some)) in
      record {
        both = record { one = one; other = other };
        small = omega (arith, below, same, r.small);
        room = room_less t (at.lost + 1) (at.lost + 1 + 1) (length ls) (omega arith) (second_room m);
      }

  -- and then the point that came back
  pub lose_back : {ns' ls' : List ℕ} (p x : ℕ) → Met Second ns ws at.top e j → p ≡ get_or ws (at.top - 2) 0 → Lost t ns ls ns' ls' at.lost p x
      → LoseReady t ns' ls' (at.lost + 1) p j
  lose_back {ns'} {ls'} p x m q l =
      let both = both_in ns ws at.top e j r.meets p (at.top - 2) (omega (arith, r.meets.some)) q in
      let same = length_lost l in
      record {
        both = record { one = omega (arith, both.one, same.0); other = omega (arith, both.other, same.0) };
        small = omega (arith, r.meets.next, r.small);
        room = subst (λ (n : ℕ). cond t (at.lost + 1 + 1) 0 ≤ n) (sym same.1) (second_room m);
      }

-- ---- what is left

module _ {t : Bool} {e j : ℕ} {at : Walk} {ns ls ws : List ℕ} where
  pub passed_joined : Met Neither ns ws at.top e j → at.top < length ws
      → Passed t e j at (record { top = at.top + 1; lost = at.lost }) ns ls ws ns ls (set ws at.top j)
  passed_joined m h = record {
    stands = λ b w q k s. subst (λ (v : Passing). Stands b v ns ls (set ws at.top j) (record { top = at.top + 1; lost = at.lost }))
        (sym (is_joining s t e j m)) (stands_joined s j h k);
  }

  pub passed_lost : {ns' ls' : List ℕ} (p : ℕ) → Met Top ns ws at.top e j → 1 ≤ at.top → p ≡ get_or ws (at.top - 1) 0 → Lost t ns ls ns' ls' at.lost p j
      → Passed t e j at (record { top = at.top; lost = at.lost + 1 }) ns ls ws ns' ls' ws
  passed_lost {ns'} {ls'} p m h q l = record {
    stands = λ b w f k s. subst (λ (v : Passing). Stands b v ns' ls' ws (record { top = at.top; lost = at.lost + 1 }))
        (sym (is_losing s t e j m)) (stands_lost s t f (q ∙ top_is s h) l);
  }

  pub passed_turned : {ns' ls' ns'' ls'' : List ℕ} (p x : ℕ) → Met Second ns ws at.top e j → p ≡ get_or ws (at.top - 2) 0 → x ≡ get_or ws (at.top - 1) 0
      → Lost t ns ls ns' ls' at.lost p x → Lost t ns' ls' ns'' ls'' (at.lost + 1) p j
      → Passed t e j at (record { top = at.top - 1; lost = at.lost + 2 }) ns ls ws ns'' ls'' ws
  passed_turned {ns'' = ns''} {ls''} p x m q f l k =
      let two = second_tall ns ws at.top e j m in
      record {
        stands = λ b w g _ s. subst (λ (v : Passing). Stands b v ns'' ls'' ws (record { top = at.top - 1; lost = at.lost + 2 }))
            (sym (is_turning s t e j m)) (stands_turned s t g two (q ∙ second_is s two) (f ∙ top_is s (omega arith)) l k);
      }
