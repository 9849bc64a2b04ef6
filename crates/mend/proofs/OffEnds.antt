-- One point is lost at an end: what it needs, and what stands there then. Assumes nothing.
use mathlib.Core.Path.{◌≡◌, refl, ap, ap₂, ◌∙◌}
use mathlib.Core.Bool.{Bool, cond}
use mathlib.Core.List.{List, [], ◌∷◌}
use Prim.Native.Nat.{ℕ, ◌+◌, ◌-◌}
use native.Mathlib.Omega.{arith}
use lib.ListN.{get_or, set, length-append}
use Rattle.laws.specs.MendNumbers.{carried_if}
use Rattle.mend.specs.declared.ends.Span.{Span}
use Rattle.mend.specs.Losing.{LoseReady, Lost}
use Rattle.mend.specs.Ending.{OffReady, Off}
use Rattle.mend.proofs.EndsMeeting.{held_both, held_small}
use Rattle.mend.proofs.Walking.{listed_lost}

pub off_lose : {t : Bool} {ns ls st : List ℕ} {kept gone p q : ℕ} {at : Span} (r : OffReady t ns ls st kept gone at)
    → p ≡ get_or st kept 0 → q ≡ get_or st gone 0 → LoseReady t ns ls at.lost p q
off_lose {kept = kept} {gone} r e f = record {
  both = held_both r.held kept gone r.kept_in r.gone_in e f;
  small = held_small r.held gone r.gone_in f;
  room = r.room;
}

pub off_left : {t : Bool} {ns ls ns' ls' : List ℕ} {p q : ℕ} {at : Span} (st : List ℕ) (kept gone lo : ℕ) → p ≡ get_or st kept 0 → q ≡ get_or st gone 0
    → Lost t ns ls ns' ls' at.lost p q → Off t kept gone lo at (record { lo = lo; n = at.n - 1; lost = at.lost + 1 }) st ns ls ns' ls'
off_left {t} {ls = ls} {p = p} {q} {at} st kept gone lo e f l = record {
  stands = λ ls₀ k w s. record {
    lo = refl;
    n = ap (λ (i : ℕ). i - 1) s.n;
    lost = omega (arith, s.lost, length-append w.lost (get_or st gone 0 ∷ []));
    numbers = l.numbers ∙ ap (λ (ms : List ℕ). carried_if t ms p q) s.numbers ∙ ap₂ (carried_if t w.numbers) e f;
    list = listed_lost t ls₀ k w.lost (get_or st gone 0) s.list s.lost (l.list ∙ ap (λ (x : ℕ). cond t (set ls at.lost x) ls) f);
  };
}
