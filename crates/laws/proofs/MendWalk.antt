-- Request 12, as the code has it: all numbers of a contour are passed, and then only the ends are left to see to. Assumes nothing.
-- Key: `passed_same`: the passes are the turns of the quick way's walk; `passed_sound`: what they leave is sound; `mend_by_number`: so for a whole contour.
use Rattle.std.specs.Prelude.{ℕ, zero, suc, ◌+◌, ◌-◌, ◌*◌, ◌≤◌, ◌<◌, ◌≡◌, refl, Bool, true, false, ◌&&◌, List, [], ◌∷◌, map, ltb, length, get_or}
use Rattle.std.proofs.Common.{add-one, arith, sym, ◌∙◌, ap, ap₂, subst, ltb-true}
use Rattle.std.proofs.lemmas.List.{length-map, get_or_at}
use Rattle.std.proofs.Math.ListN.{get_or-append}
use Rattle.ints.specs.Bools.{and_left}
use Rattle.mem.specs.Cases.{by_test}
use Rattle.mem.specs.Loops.{steps, each}
use Rattle.mem.specs.Tab.{tab, tab_cons, tab_cong}
use Rattle.rules.specs.Job.{job_stride}
use Rattle.rules.specs.Mend.{traced, Mending, mended}
use Rattle.laws.specs.Lists.{All, none, more}
use Rattle.laws.proofs.Lists.{all_imp}
use Rattle.laws.specs.Mend.{left_in, places_in}
use Rattle.laws.specs.MendQuick.{meet, ends_loop, stack_loop, quick_mended}
use Rattle.laws.proofs.MendQuick.{ends_few, stack_few, stack_one, stack_two, stack_joins}
use Rattle.laws.proofs.MendSame.{quick_same}
use Rattle.laws.specs.MendNumbers.{point_of, same_place, Up, up_none, up_more, mending_of, Sound}
use Rattle.laws.proofs.MendNumbers.{length_points}
use Rattle.laws.proofs.MendNumbers.{lose_sound, lose_number_lem, lose_two_sound, lose_two_numbers_lem, meet_at}
use Rattle.laws.specs.MendPass.{Passing, joining, losing, turning, pass}
use Rattle.laws.proofs.MendPass.{pass_few, pass_lost, pass_turned, pass_joined, by_pass}
use Rattle.laws.specs.MendPass.{rising, left_of}
use Rattle.laws.proofs.MendPass.{length_joining, length_turning, length_rising, length_left, left_joining, left_losing, left_turning}
use Rattle.laws.specs.MendWalk.{Sure, finished, pass_start, passed_all}

-- ---- what is left stays sound, and some numbers are on the stack

sure_pass : (e j r : ℕ) (w : Passing) → Sure j (suc r) w → Sure (suc j) r (pass true e j w)
unfolding losing
sure_pass e j r w s =
    let n = length w.stack in
    let u = left_of j (suc r) w in
    by_pass (Sure (suc j) r) true e j w
    (record { some = omega (arith, length_joining j w); sound = subst Sound (sym (left_joining j r w)) s.sound })
    (record { some = s.some; sound = subst Sound (left_losing j r w s.some) (lose_sound (n - 1) u s.sound) })
    (λ two. record { some = omega (arith, length_turning true j w); sound = subst Sound (left_turning j r w two) (lose_two_sound (n - 2) u s.sound) })

pub passed_sound : (r j e : ℕ) (w : Passing) → Sure j r w → Sound (left_of 0 0 (steps (pass true e) j r w))
unfolding steps left_of rising
passed_sound zero j e w s = s.sound
passed_sound (suc r) j e w s = passed_sound r (suc j) e (pass true e j w) (sure_pass e j r w s)

-- ---- a pass is a turn of the quick way

-- under three points nothing more is done
pub ends_under : (g : ℕ) (m : Mending) → ltb (left_in m) 3 ≡ true → ends_loop g m ≡ m
unfolding ends_loop
ends_under zero m q = refl
ends_under (suc g) m q = ends_few g m q

stack_under : (r s : ℕ) (m : Mending) → ltb (left_in m) 3 ≡ true → stack_loop r s m ≡ m
unfolding stack_loop
stack_under zero s m q = ends_under (left_in m) m q
stack_under (suc r) s m q = stack_few r s m q

-- the place k of the stack, against the number that is next
meet_next : (j r : ℕ) (w : Passing) (k : ℕ) → k < length w.stack
    → meet (places_in (mending_of (left_of j (suc r) w))) k (length w.stack) ≡ same_place w.numbers (get_or w.stack k 0) j
unfolding left_of rising
meet_next j r w k h =
    let rest = rising (suc j) r in
    let n = length_left j (suc r) w in
    meet_at (left_of j (suc r) w) k (length w.stack) (omega arith) (omega arith)
    ∙ ap₂ (same_place w.numbers) (get_or-append w.stack (j ∷ rest) 0 k h) (get_or_at w.stack j rest 0 (length w.stack) refl)

-- the quick way, where r numbers from j on are not yet passed
abbrev going : ℕ → ℕ → Passing → Mending
going j r w = stack_loop r (length w.stack) (mending_of (left_of j r w))

pass_turn : (e j r : ℕ) (w : Passing) → j + suc r ≡ e → Sure j (suc r) w → going j (suc r) w ≡ going (suc j) r (pass true e j w)
unfolding losing
pass_turn e j r w p s =
    let u = left_of j (suc r) w in
    let m = mending_of u in
    let n = length w.stack in
    let some = s.some in
    let left = length_left j (suc r) w in
    let f : suc r ≡ e - j = omega arith in
    let all : left_in m ≡ n + (e - j) = length_points u ∙ left ∙ ap (λ (k : ℕ). n + k) f in
    let top = meet_next j r w (n - 1) (omega arith) in
    let second = ap (λ (t : Bool). ltb 1 n && t) (meet_next j r w (n - 2) (omega arith)) in
    let go : (v : Passing) → pass true e j w ≡ v → going (suc j) r v ≡ going (suc j) r (pass true e j w) = λ v d. ap (going (suc j) r) (sym d) in
    let join : stack_loop r (n + 1) m ≡ going (suc j) r (joining j w) = ap₂ (stack_loop r) (sym (length_joining j w)) (ap mending_of (sym (left_joining j r w))) in
    by_test (ltb (left_in m) 3)
    (λ q. stack_under (suc r) n m q ∙ sym (stack_under r (n + 1) m q) ∙ join ∙ go (joining j w) (pass_few true e j w (ap (λ (k : ℕ). ltb k 3) (sym all) ∙ q)))
    (λ q. let q' : ltb (n + (e - j)) 3 ≡ false = ap (λ (k : ℕ). ltb k 3) (sym all) ∙ q in
    by_test (meet (places_in m) (n - 1) n)
    (λ a. stack_one r n m q a
    ∙ ap (stack_loop r n) (sym (lose_number_lem (n - 1) u s.sound (omega arith)) ∙ ap mending_of (left_losing j r w some))
    ∙ go (losing true j w) (pass_lost true e j w q' (sym top ∙ a)))
    (λ a. by_test (ltb 1 n && meet (places_in m) (n - 2) n)
    (λ b. let two = ltb-true 1 n (and_left (ltb 1 n) (meet (places_in m) (n - 2) n) b) in
    stack_two r n m q a b
    ∙ ap₂ (stack_loop r) (sym (length_turning true j w))
    (sym (lose_two_numbers_lem (n - 2) u s.sound (omega arith) (omega arith)) ∙ ap mending_of (left_turning j r w two))
    ∙ go (turning true j w) (pass_turned true e j w q' (sym top ∙ a) (sym second ∙ b)))
    (λ b. stack_joins r n m q a b ∙ join ∙ go (joining j w) (pass_joined true e j w q' (sym top ∙ a) (sym second ∙ b)))))

pub passed_same : (r j e : ℕ) (w : Passing) → j + r ≡ e → Sure j r w → going j r w ≡ finished (steps (pass true e) j r w)
unfolding stack_loop steps finished left_of rising
passed_same zero j e w p s = refl
passed_same (suc r) j e w p s = pass_turn e j r w p s ∙ passed_same r (suc j) e (pass true e j w) (omega arith) (sure_pass e j r w s)

-- ---- the whole contour of n points from the vertex `first` on
up_rising : (j r b : ℕ) → b ≤ j → Up b (rising j r)
unfolding rising
up_rising j zero b h = up_none
up_rising j (suc r) b h = up_more {b = b} {k = j} h (up_rising (suc j) r (suc j) (omega arith))

all_rising : (j r e : ℕ) → j + r ≤ e → All (λ k. k < e) (rising j r)
unfolding rising
all_rising j zero e h = none
all_rising j (suc r) e h = more {a = j} (omega arith) (all_rising (suc j) r e (omega arith))

start_sure : (ns : List ℕ) (first r : ℕ) → (first + suc r) * job_stride ≤ length ns → Sure (suc first) r (pass_start ns first)
unfolding left_of pass_start rising
start_sure ns first r h = record {
  some = omega arith;
  sound = record {
    rising = up_rising first (suc r) 0 (omega arith);
    inside = all_imp (λ k (a : k < first + suc r). omega arith) (all_rising first (suc r) (first + suc r) (omega arith));
  };
}

-- the points of the contour, by number
tab_rising : {A : Type 0} (f : ℕ → A) (first n : ℕ) → tab (λ k. f (first + k)) n ≡ map f (rising first n)
unfolding tab rising
tab_rising f first zero = refl
tab_rising f first (suc n) =
    let z : first + 0 ≡ first = omega arith in
    let e : (i : ℕ) → first + (i + 1) ≡ suc first + i = λ i. omega arith in
    tab_cons (λ k. f (first + k)) n
    ∙ ap₂ ◌∷◌ (ap f z) (tab_cong (λ k. f (first + (k + 1))) (λ k. f (suc first + k)) n (λ i h. ap f (e i)) ∙ tab_rising f (suc first) n)

traced_by_number : (ns : List ℕ) (first n : ℕ) → traced ns first n ≡ map (point_of ns) (rising first n)
unfolding traced point_of
traced_by_number ns first n = tab_rising (point_of ns) first n

start_begins : (ns : List ℕ) (first r : ℕ) → quick_mended (map (point_of ns) (rising first (suc r))) ≡ going (suc first) r (pass_start ns first)
unfolding quick_mended pass_start mending_of left_of rising
start_begins ns first r =
    let ks = rising first (suc r) in
    let e : length (map (point_of ns) ks) - 1 ≡ r = omega (arith, length-map ks (point_of ns), length_rising first (suc r)) in
    ap (λ (k : ℕ). stack_loop k 1 (record { points = map (point_of ns) ks; lost = [] })) e

passed_steps : (ns : List ℕ) (first r : ℕ) → passed_all true ns first (suc r) ≡ steps (pass true (first + suc r)) (suc first) r (pass_start ns first)
unfolding passed_all each
passed_steps ns first r = let e : first + suc r - (first + 1) ≡ r = omega arith in rw (e, add-one first) refl

pub passed_all_sound : (ns : List ℕ) (first n : ℕ) → 1 ≤ n → (first + n) * job_stride ≤ length ns → Sound (left_of 0 0 (passed_all true ns first n))
passed_all_sound ns first zero h k = absurd (omega arith)
passed_all_sound ns first (suc r) h k =
    rw (passed_steps ns first r) (passed_sound r (suc first) (first + suc r) (pass_start ns first) (start_sure ns first r k))

-- what the sentences give is what one walk over the numbers and then the ends give
pub mend_by_number : (ns : List ℕ) (first n : ℕ) → 1 ≤ n → (first + n) * job_stride ≤ length ns
    → mended (traced ns first n) ≡ finished (passed_all true ns first n)
mend_by_number ns first zero h k = absurd (omega arith)
mend_by_number ns first (suc r) h k =
    ap mended (traced_by_number ns first (suc r)) ∙ sym (quick_same (map (point_of ns) (rising first (suc r)))) ∙ start_begins ns first r
    ∙ passed_same r (suc first) (first + suc r) (pass_start ns first) (omega arith) (start_sure ns first r k) ∙ ap finished (sym (passed_steps ns first r))
