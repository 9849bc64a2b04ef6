-- The loop for the longest contour: the longest so far and what is left make the whole. Assumes nothing.
use Rattle.std.specs.Prelude.{max}
use mathlib.Core.Path.{◌≡◌, refl, sym, ap, ◌∙◌}
use mathlib.Core.List.{List}
use mathlib.Core.Logic.{⊎_elim}
use Prim.Native.Nat.{ℕ, ◌+◌, ◌≤◌, ◌<◌}
use native.Mathlib.Omega.{arith}
use borrow.Author.Tests.{lt-ltb, le-ltb}
use lib.ListN.{length, get_or}
use Rattle.mem.specs.Cases.{lt_or_le}
use Rattle.mem.specs.Loops.{over, over_turn, over_end}
use Rattle.rules.specs.MendCall.{longer, longest}

pub longer_up : (a b : ℕ) → a < b → longer a b ≡ b
unfolding longer
longer_up a b h = rw (lt-ltb a b h) refl

pub longer_down : (a b : ℕ) → b ≤ a → longer a b ≡ a
unfolding longer
longer_down a b h = rw (le-ltb a b h) refl

-- as a `max` has it
pub longer_is : (a b : ℕ) {r : ℕ} → r ≡ max a b → r ≡ longer a b
longer_is a b e = ⊎_elim
    (λ (h : a < b). e ∙ (let m : max a b ≡ b = omega arith in m) ∙ sym (longer_up a b h))
    (λ (h : b ≤ a). e ∙ (let m : max a b ≡ a = omega arith in m) ∙ sym (longer_down a b h))
    (lt_or_le a b)

longer_then : (a b c : ℕ) → longer a (longer b c) ≡ longer (longer a b) c
longer_then a b c = ⊎_elim
    (λ (h : a < b). ap (λ (x : ℕ). longer a x) refl ∙ rw (longer_up a b h)
    (⊎_elim (λ (k : b < c). rw (longer_up b c k) (longer_up a c (omega arith))) (λ (k : c ≤ b). rw (longer_down b c k) (longer_up a b h)) (lt_or_le b c)))
    (λ (h : b ≤ a). rw (longer_down a b h)
    (⊎_elim (λ (k : b < c). rw (longer_up b c k) refl) (λ (k : c ≤ b). rw (longer_down b c k) (longer_down a b h ∙ sym (longer_down a c (omega arith))))
    (lt_or_le b c)))
    (lt_or_le a b)

longer_none : (a : ℕ) → longer 0 a ≡ a
longer_none a = ⊎_elim (λ (h : 0 < a). longer_up 0 a h) (λ (h : a ≤ 0). longer_down 0 a h ∙ (let e : 0 ≡ a = omega arith in e)) (lt_or_le 0 a)

pub record Longest (cs : List ℕ) (most c : ℕ) : Type 0 where
  pub same : longest cs ≡ longer most (over 0 longer (λ i. get_or cs i 0) c (length cs))

pub longest_begin : (cs : List ℕ) → Longest cs 0 0
unfolding longest
longest_begin cs = record { same = sym (longer_none (over 0 longer (λ i. get_or cs i 0) 0 (length cs))) }

pub longest_more : {cs : List ℕ} {most c : ℕ} → Longest cs most c → c < length cs → {n r : ℕ} → n ≡ get_or cs c 0 → r ≡ longer most n → Longest cs r (c + 1)
longest_more {cs} {most} {c} g h {n} {r} e f = record {
  same = g.same ∙ ap (longer most) (over_turn 0 longer (λ i. get_or cs i 0) c (length cs) h)
      ∙ longer_then most (get_or cs c 0) (over 0 longer (λ i. get_or cs i 0) (c + 1) (length cs))
      ∙ ap (λ (x : ℕ). longer x (over 0 longer (λ i. get_or cs i 0) (c + 1) (length cs))) (sym (f ∙ ap (longer most) e));
}

pub longest_end : {cs : List ℕ} {most c : ℕ} → Longest cs most c → length cs ≤ c → most ≡ longest cs
longest_end {cs} {most} {c} g h = sym (g.same ∙ ap (longer most) (over_end 0 longer (λ i. get_or cs i 0) c (length cs) h) ∙ longer_down most 0 (omega arith))
