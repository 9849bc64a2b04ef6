-- What stands in memory while points are passed. Assumes nothing.
use mathlib.Core.Path.{◌≡◌, refl, sym, ap, ap₂, ◌∙◌}
use mathlib.Core.Bool.{Bool, true, false, cond}
use mathlib.Core.List.{List, [], ◌∷◌, ◌++◌}
use Prim.Native.Nat.{ℕ, ◌+◌, ◌-◌, ◌≤◌, ◌<◌}
use native.Mathlib.Omega.{arith}
use lib.ListN.{length, get_or, take, set, length-set, length-append}
use lib.Seq.{get_or-take, get_or-set_same, take-set-le, drop-set-lt, length-take-le, take-take}
use Rattle.mem.specs.Slice.{splice_snoc, take_snoc}
use Rattle.laws.specs.MendNumbers.{carried_if}
use Rattle.laws.specs.MendPass.{Passing, top_of, second_of, joining, losing, turning}
use Rattle.mend.specs.declared.pass.Walk.{Walk}
use Rattle.mend.specs.Losing.{Lost}
use Rattle.mend.specs.Walking.{listed, Begun, Stands, state_of}

-- one more number on the list
pub listed_more : (t : Bool) (ls : List ℕ) (from : ℕ) (xs : List ℕ) (x : ℕ)
    → cond t (set (listed t ls from xs) (from + length xs) x) (listed t ls from xs) ≡ listed t ls from (xs ++ (x ∷ []))
unfolding listed
listed_more true ls from xs x = splice_snoc ls from xs x
listed_more false ls from xs x = refl

-- the same, of what stands there
pub listed_lost : (t : Bool) (ls : List ℕ) (from : ℕ) (xs : List ℕ) (x : ℕ) {us us' : List ℕ} {k : ℕ} → us ≡ listed t ls from xs → k ≡ from + length xs
    → us' ≡ cond t (set us k x) us → us' ≡ listed t ls from (xs ++ (x ∷ []))
listed_lost t ls from xs x {us} {us'} {k} p q e =
    e ∙ ap₂ (λ (u : List ℕ) (i : ℕ). cond t (set u i x) u) p q ∙ listed_more t ls from xs x

module _ {b : Begun} {w : Passing} {ns ls ws : List ℕ} {at : Walk} (s : Stands b w ns ls ws at) where
  -- a place of the stack
  pub stack_at : (i : ℕ) → i < at.top → get_or ws i 0 ≡ get_or w.stack i 0
  stack_at i h = sym (get_or-take at.top ws i 0 h) ∙ ap (λ (l : List ℕ). get_or l i 0) s.stack

  -- the top of it, and the second place
  pub top_is : 1 ≤ at.top → get_or ws (at.top - 1) 0 ≡ top_of w.stack
  top_is h = stack_at (at.top - 1) (omega arith) ∙ ap (λ (i : ℕ). get_or w.stack (i - 1) 0) s.tall

  pub second_is : 2 ≤ at.top → get_or ws (at.top - 2) 0 ≡ second_of w.stack
  second_is h = stack_at (at.top - 2) (omega arith) ∙ ap (λ (i : ℕ). get_or w.stack (i - 2) 0) s.tall

  -- the state is the one of which stack and numbers are known
  pub state_is : state_of ns ws at.top w.lost ≡ w
  state_is = ap₂ (λ (st ms : List ℕ). record { stack = st; lost = w.lost; numbers = ms }) s.stack s.numbers

  pub stands_joined : (j : ℕ) → at.top < length ws → at.top < b.most → Stands b (joining j w) ns ls (set ws at.top j)
      (record { top = at.top + 1; lost = at.lost })
  unfolding joining
  stands_joined j h k = record {
    tall = omega (arith, s.tall, length-append w.stack (j ∷ []));
    stack = take_snoc (set ws at.top j) at.top 0 (omega (arith, length-set ws at.top j))
        ∙ ap₂ (λ (l : List ℕ) (x : ℕ). l ++ (x ∷ [])) (take-set-le at.top ws at.top j (omega arith) ∙ s.stack) (get_or-set_same ws at.top j 0 h);
    lost = s.lost;
    numbers = s.numbers;
    list = s.list;
    rest = drop-set-lt b.most ws at.top j k ∙ s.rest;
    size = length-set ws at.top j ∙ s.size;
  }

  pub stands_lost : {ns' ls' : List ℕ} {p j : ℕ} (t : Bool) → b.writes ≡ t → p ≡ top_of w.stack → Lost t ns ls ns' ls' at.lost p j
      → Stands b (losing t j w) ns' ls' ws (record { top = at.top; lost = at.lost + 1 })
  unfolding losing
  stands_lost {ns'} {ls'} {p} {j} t q e l = record {
    tall = s.tall;
    stack = s.stack;
    lost = omega (arith, s.lost, length-append w.lost (j ∷ []));
    numbers = l.numbers ∙ ap₂ (λ (ms : List ℕ) (i : ℕ). carried_if t ms i j) s.numbers e;
    list = listed_lost b.writes b.list b.from w.lost j s.list s.lost (l.list ∙ ap (λ (u : Bool). cond u (set ls at.lost j) ls) (sym q));
    rest = s.rest;
    size = s.size;
  }

  pub stands_turned : {ns' ls' ns'' ls'' : List ℕ} {p x j : ℕ} (t : Bool) → b.writes ≡ t → 2 ≤ at.top → p ≡ second_of w.stack → x ≡ top_of w.stack
      → Lost t ns ls ns' ls' at.lost p x → Lost t ns' ls' ns'' ls'' (at.lost + 1) p j
      → Stands b (turning t j w) ns'' ls'' ws (record { top = at.top - 1; lost = at.lost + 2 })
  unfolding turning
  stands_turned {ns'} {ls'} {p = p} {x} {j} t q two e f l m =
      let one = length-append w.lost (top_of w.stack ∷ []) in
      record {
        tall = omega (arith, s.tall, length-take-le (length w.stack - 1) w.stack (omega arith));
        stack = sym (take-take (at.top - 1) at.top ws (omega arith)) ∙ ap₂ (λ (i : ℕ) (l : List ℕ). take (i - 1) l) s.tall s.stack;
        lost = omega (arith, s.lost, one, length-append (w.lost ++ (top_of w.stack ∷ [])) (j ∷ []));
        numbers = m.numbers ∙ ap₂ (λ (ms : List ℕ) (i : ℕ). carried_if t ms i j)
            (l.numbers ∙ ap (λ (ms : List ℕ). carried_if t ms p x) s.numbers ∙ ap₂ (carried_if t w.numbers) e f) e;
        list = listed_lost b.writes b.list b.from (w.lost ++ (top_of w.stack ∷ [])) j
            (listed_lost b.writes b.list b.from w.lost (top_of w.stack) s.list s.lost (l.list ∙ ap₂ (λ (u : Bool) (i : ℕ). cond u
            (set ls at.lost i) ls) (sym q) f))
            (omega (arith, s.lost, one)) (m.list ∙ ap (λ (u : Bool). cond u (set ls' (at.lost + 1) j) ls') (sym q));
        rest = s.rest;
        size = s.size;
      }
