-- The line at a place of a text, and what its reader answers: the numbers that are found up to the LF are the line's, and where there is no LF there are none.
-- Assumes nothing.
use Rattle.std.specs.Prelude.{Option, Some, None}
use Rattle.std.proofs.lemmas.Option.{none-some, same_Some}
use mathlib.Core.Path.{◌≡◌, refl, sym, ap, ◌∙◌}
use mathlib.Core.List.{List, []}
use Prim.Native.Nat.{ℕ, ◌+◌, ◌-◌, ◌≤◌, ◌<◌}
use native.Mathlib.Omega.{arith}
use lib.ListN.{length, drop, get_or}
use Rattle.mem.specs.Slice.{view}
use Rattle.rules.specs.Lines.{tab_byte, lf, parts, lines_of, Numbers, numbers, malformed, numbers_of}
use Rattle.lines.specs.Scan.{place_of}
use Rattle.lines.specs.declared.line.LineRead.{LineRead}
use Rattle.lines.specs.Read.{said, widened, line_end, reads, line_read, numbers_at}
use Rattle.lines.specs.Taken.{numbers_at_lem, numbers_open, widened_whole}

module _ (text : List ℕ) (p : ℕ) {e : ℕ} (q : e ≡ p + place_of lf (drop p text)) where
  -- what is said is said of the line, with the place behind it
  good_line : {N : ℕ} (n : Numbers) {d : Option (List ℕ)} {ns : List ℕ} → d ≡ said n → d ≡ Some ns
      → Some (reads ns (e + 1)) ≡ line_read {N = N} text p n
  unfolding said line_read line_end
  good_line (numbers ms) {ns = ns} x g = let k : ms ≡ ns = same_Some ms ns (sym x ∙ g) in rw (q, k) refl
  good_line malformed x g = absurd (none-some _ (sym x ∙ g))

  bad_line : {N : ℕ} (n : Numbers) {d : Option (List ℕ)} → d ≡ said n → d ≡ None → None ≡ line_read {N = N} text p n
  unfolding said line_read
  bad_line (numbers ms) x g = absurd (none-some _ (sym g ∙ x))
  bad_line malformed x g = refl

  module _ (name : List ℕ) (least : ℕ) (mosts : List ℕ) where
    -- the numbers that are found up to the LF, whatever f makes of them
    module _ (h : e < length text) (f : Numbers → Numbers) {d : Option (List ℕ)} where
      found : d ≡ said (f (numbers_of name least mosts (parts tab_byte (view text p (e - p))))) → d ≡ said (f (numbers_at text p name least mosts))
      found x =
          let k : e - p ≡ place_of lf (drop p text) = omega arith in
          x ∙ ap (λ (m : Numbers). said (f m)) (rw k (sym (numbers_at_lem text p name least mosts (omega arith))))

    module _ (h : e < length text) {d : Option (List ℕ)} (x : d ≡ said (numbers_of name least mosts (parts tab_byte (view text p (e - p))))) where
      pub line_good : {N : ℕ} {ns : List ℕ} → d ≡ Some ns
          → Some (reads ns (e + 1)) ≡ line_read {N = N} text p (numbers_at text p name least mosts)
      line_good g = good_line (numbers_at text p name least mosts) (found h (λ (m : Numbers). m) x) g

      pub line_bad : {N : ℕ} → d ≡ None → None ≡ line_read {N = N} text p (numbers_at text p name least mosts)
      line_bad g = bad_line (numbers_at text p name least mosts) (found h (λ (m : Numbers). m) x) g

    pub line_none : {N : ℕ} → length text ≤ e → None ≡ line_read {N = N} text p (numbers_at text p name least mosts)
    unfolding line_read
    line_none h = rw (numbers_open text p name least mosts (omega arith)) refl

  -- the same with zeros behind the numbers, N in all
  module _ (name : List ℕ) (least : ℕ) (mosts : List ℕ) (N : ℕ) where
    abbrev here : Numbers
    here = widened N (numbers_at text p name least mosts)

    module _ (h : e < length text) {d : Option (List ℕ)} (x : d ≡ said (widened N (numbers_of name least mosts (parts tab_byte (view text p (e - p)))))) where
      pub good_widened : {ns : List ℕ} → d ≡ Some ns → Some (reads ns (e + 1)) ≡ line_read {N = N} text p here
      good_widened g = good_line here (found name least mosts h (widened N) x) g

      pub bad_widened : d ≡ None → None ≡ line_read {N = N} text p here
      bad_widened g = bad_line here (found name least mosts h (widened N) x) g

    pub none_widened : length text ≤ e → None ≡ line_read {N = N} text p here
    unfolding line_read widened
    none_widened h = rw (numbers_open text p name least mosts (omega arith)) refl

    -- with as many limits as numbers, no zero stands behind them
    pub both_read : {d : Option (LineRead N)} → d ≡ line_read {N = N} text p here → length mosts ≡ N
        → d ≡ line_read {N = N} text p (numbers_at text p name least mosts)
    unfolding numbers_at
    both_read x h = x ∙ ap (line_read {N = N} text p) (widened_whole N name least mosts (get_or (lines_of (drop p text)) 0 []) h)
