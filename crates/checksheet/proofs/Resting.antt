-- What the lines from a place on come to, as the reading goes on: the line at the place, and then those behind it; or there is no such line. Assumes nothing.
use Rattle.std.specs.Prelude.{Result, Ok, Err}
use mathlib.Core.Path.{◌≡◌, refl, ap, subst}
use mathlib.Core.List.{List, [], ◌∷◌}
use Prim.Native.Nat.{ℕ, ◌+◌, ◌-◌, ◌≤◌, ◌<◌}
use native.Mathlib.Omega.{arith}
use lib.ListN.{length, drop}
use Rattle.mem.specs.Slice.{view}
use Rattle.rules.specs.Lines.{tab_byte, lf, parts, Line, lines_of}
use Rattle.rules.specs.Sheet.{Read, bad, line_at}
use Rattle.rules.specs.Checker.{Claim}
use Rattle.sheet.specs.declared.refusal.SheetRefusal.{SheetRefusal}
use Rattle.sheet.specs.declared.refusal.SheetRefusal.TheVariants.{Malformed}
use Rattle.sheet.specs.Refusals.{number_of, line_of, refused_as}
use Rattle.lines.specs.Scan.{place_of}
use Rattle.lines.specs.Read.{line_end}
use Rattle.lines.specs.Taken.{line_at_lem, no_cells}
use Rattle.checksheet.specs.declared.progress.Progress.{Progress}
use Rattle.checksheet.specs.Reading.{rest_by, Within, WithinAs}

module _ (text : List ℕ) where
  pub rest_good : {r : Result Progress SheetRefusal} {q : Progress} (f : ℕ → List Line → Read Claim) → r ≡ Ok q
      → rest_by text r f ≡ f q.line (lines_of (drop q.at text))
  unfolding rest_by
  rest_good f e = ap (λ (x : Result Progress SheetRefusal). rest_by text x f) e

  pub rest_cong : (r : Result Progress SheetRefusal) (f g : ℕ → List Line → Read Claim)
      → ((q : Progress) → r ≡ Ok q → (k : ℕ) (ls : List Line) → f k ls ≡ g k ls) → rest_by text r f ≡ rest_by text r g
  unfolding rest_by
  rest_cong (Ok q) f g h = h q refl q.line (lines_of (drop q.at text))
  rest_cong (Err e) f g h = refl

  pub rest_stopped : (k : ℕ) (f : ℕ → List Line → Read Claim) → bad 22 k ≡ rest_by text (Err (Malformed k)) f
  unfolding rest_by refused_as number_of line_of
  rest_stopped k f = refl

  pub no_place : (k : ℕ) → WithinAs text (Err (Malformed k))
  unfolding WithinAs
  no_place k = Prim.tt

  pub a_place : (p : Progress) → Within text p → WithinAs text (Ok p)
  unfolding WithinAs
  a_place p w = w

  pub place_of_good : {r : Result Progress SheetRefusal} {q : Progress} → WithinAs text r → r ≡ Ok q → Within text q
  unfolding WithinAs
  place_of_good w e = subst (WithinAs text) e w

-- a refusal is no place
pub no_ok : {q : Progress} {e : SheetRefusal} → ◌≡◌ {A = Result Progress SheetRefusal} (Err e) (Ok q) → ⊥
no_ok h = cc

-- the line at p ends at e
module _ (text : List ℕ) (p : ℕ) {e : ℕ} (q : e ≡ p + place_of lf (drop p text)) where
  pub line_here : e < length text → lines_of (drop p text) ≡ parts tab_byte (view text p (e - p)) ∷ lines_of (drop (e + 1) text)
  unfolding line_end
  line_here h =
      let k : place_of lf (drop p text) ≡ e - p = omega arith in
      let m : p + (e - p) + 1 ≡ e + 1 = omega arith in
      rw m at (rw k at (line_at_lem text p (omega arith)))

  pub line_none : length text ≤ e → line_at (lines_of (drop p text)) 0 ≡ []
  unfolding line_at
  line_none h = no_cells text p (omega arith)

  pub next_within : {k : ℕ} (w : p ≤ length text) → length text ≤ 65536 → k ≤ 6 + p → e < length text
      → Within text (record { line = k + 1; at = e + 1 })
  next_within w s m h = record { inside = omega arith; short = s; small = omega arith }
