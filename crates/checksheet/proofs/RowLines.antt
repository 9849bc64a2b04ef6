-- A polygon's two lines as they are read: the numbers of each line that are found at the beginning of the words, and the words that are stored of them. Assumes
-- nothing.
use Rattle.std.specs.Prelude.{Option, Some, None, Ok, Err}
use mathlib.Core.Path.{◌≡◌, refl, sym, ap, ◌∙◌, subst}
use mathlib.Core.Bool.{Bool, true, false}
use mathlib.Core.List.{List, [], ◌∷◌, ◌++◌}
use Prim.Native.Nat.{ℕ, suc, ◌+◌, ◌-◌, ◌*◌, ◌≤◌, ◌<◌}
use native.Mathlib.Omega.{arith}
use lib.ListN.{length, take, drop, get_or, replicate, length-drop, length-replicate, get_or-replicate}
use lib.Seq.{get_or-drop}
use borrow.Author.Tests.{le-leb, lt-leb}
use Rattle.mem.specs.Slice.{view, splice, length_splice, take_splice_end, drop_take}
use Rattle.mem.specs.Zeros.{take_replicate}
use Rattle.rules.specs.Lines.{tab_byte, lf, parts, Line, lines_of, numbers, malformed, numbers_of}
use Rattle.rules.specs.Sheet.{p_name, n_name, number_most, code_most, line_at}
use Rattle.rules.specs.Exits.{padded}
use Rattle.rules.specs.CheckSheet.{link_most, corner_numbers, link_numbers}
use Rattle.laws.proofs.Exits.{length_padded}
use Rattle.lines.specs.Scan.{place_of}
use Rattle.lines.specs.Read.{RowRead}
use Rattle.lines.specs.Taken.{row_good, row_bad}
use Rattle.checksheet.specs.declared.progress.Progress.{Progress}
use Rattle.checksheet.specs.Reading.{rest_by, RowReady, CornersAre, CornersRead, RowAtReady, LinksRead}
use Rattle.sheet.specs.declared.refusal.SheetRefusal.TheVariants.{Malformed}
use Rattle.sheet.specs.Needs.{need_bad, need_good}
use Rattle.checksheet.proofs.Resting.{rest_stopped, no_place, a_place, no_ok, line_here, line_none, next_within}

-- the numbers at the beginning of the words
first_words : (v ns : List ℕ) (n : ℕ) {w : List ℕ} → w ≡ splice v 0 ns → length ns ≡ n → n ≤ length v → take n w ≡ ns
first_words v ns n e h k = ap (take n) e ∙ take_splice_end v 0 n ns (omega arith) k

-- ---- a `p` line

-- the limits of region, area code and 12 corners, of which the first ones are used
abbrev pub corner_mosts : List ℕ
corner_mosts = number_most ∷ code_most ∷ replicate 12 number_most

corner_mosts_lem : (k : ℕ) → k ≤ 12 → take (k + 2) corner_mosts ≡ number_most ∷ code_most ∷ replicate k number_most
corner_mosts_lem k h =
    let e : k + 2 ≡ suc (suc k) = omega arith in
    rw e (ap (λ (l : List ℕ). number_most ∷ code_most ∷ l) (take_replicate k 12 number_most h))

pub corner_limits : (k : ℕ) → k ≤ 12 → length (take (k + 2) corner_mosts) ≡ k + 2
corner_limits k h = ap length (corner_mosts_lem k h) ∙ simp length-replicate (omega arith)

limit_at : (k i : ℕ) → i < k → get_or (number_most ∷ code_most ∷ replicate k number_most) (i + 2) 0 ≡ number_most
limit_at k i h = let e : i + 2 ≡ suc (suc i) = omega arith in rw e (get_or-replicate k i number_most 0 h)

module _ (most : ℕ) (l : Line) where
  within_most : length l ≤ 3 + most → corner_numbers most l ≡ numbers_of p_name 0 (number_most ∷ code_most ∷ replicate (length l - 3) number_most) l
  unfolding corner_numbers
  within_most h = rw (le-leb (length l) (3 + most) h, corner_numbers) refl

  above_most : 3 + most < length l → corner_numbers most l ≡ malformed
  unfolding corner_numbers
  above_most h = rw (lt-leb (length l) (3 + most) h, corner_numbers) refl

  -- there are too many cells
  pub corners_over : (v w : List ℕ) → 3 + most < length l → CornersRead most l None v w
  unfolding CornersRead
  corners_over v w h = above_most h

  module _ {k : ℕ} (e : k ≡ length l - 3) (h : length l ≤ 3 + most) (few : most ≤ 12) {r : Bool} {v w : List ℕ}
      (x : RowRead p_name 0 (take (k + 2) corner_mosts) l r v w) where
    row : RowRead p_name 0 (number_most ∷ code_most ∷ replicate k number_most) l r v w
    row = subst (λ (ms : List ℕ). RowRead p_name 0 ms l r v w) (corner_mosts_lem k (omega arith)) x

    is : corner_numbers most l ≡ numbers_of p_name 0 (number_most ∷ code_most ∷ replicate k number_most) l
    is = rw e (within_most h)

    pub corners_none : r ≡ false → CornersRead most l None v w
    unfolding CornersRead
    corners_none q = is ∙ row_bad row q

    pub corners_found : r ≡ true → CornersRead most l (Some k) v w
    unfolding CornersRead
    corners_found q =
        let g = row_good row q in
        record {
          ns = g.ns;
          says = is ∙ g.says;
          long = g.limits.long ∙ simp length-replicate (omega arith);
          few = omega arith;
          small = λ i z. omega (arith, (g.limits.most (i + 2) (simp length-replicate (omega arith))).1, limit_at k i z);
          put = g.put;
        }

-- what the answer tells
module _ (most : ℕ) (l : Line) (v w : List ℕ) {o : Option ℕ} (x : CornersRead most l o v w) where
  pub corners_are : {count : ℕ} → o ≡ Some count → CornersAre most l count v w
  unfolding CornersRead
  corners_are e = subst (λ (q : Option ℕ). CornersRead most l q v w) e x

  pub corners_missed : o ≡ None → corner_numbers most l ≡ malformed
  unfolding CornersRead
  corners_missed e = subst (λ (q : Option ℕ). CornersRead most l q v w) e x

module _ {most : ℕ} {l : Line} {count : ℕ} {v w : List ℕ} (a : CornersAre most l count v w) (room : length v ≡ 14) (few : most ≤ 12) where
  -- what is stored of it: the numbers behind region and area code
  pub corner_words_lem : {m : ℕ} → m ≡ count → view w 2 m ≡ drop 2 a.ns
  corner_words_lem {m} e =
      let f = first_words v a.ns (count + 2) a.put a.long (omega (arith, a.few)) in
      let d : count + 2 - 2 ≡ m = omega arith in
      sym (ap (drop 2) (sym f) ∙ drop_take 2 (count + 2) w ∙ rw d refl)

  pub corner_count : length (drop 2 a.ns) ≡ count
  corner_count = simp length-drop (omega (arith, a.long))

  pub corner_small : (i : ℕ) → i < count → get_or (drop 2 a.ns) i 0 ≤ 65535
  corner_small i h =
      let e : 2 + i ≡ i + 2 = omega arith in
      let q : get_or (drop 2 a.ns) i 0 ≡ get_or a.ns (i + 2) 0 = get_or-drop 2 a.ns i 0 ∙ rw e refl in
      omega (arith, a.small i h)

  pub corners_ready : {ps : List ℕ} (i : ℕ) {words : ℕ} (m : ℕ) → m ≡ count → most ≤ words → i * words + words ≤ length ps
      → RowReady 65535 ps (i * words) words (view w 2 m)
  corners_ready {ps} i {words} m e h r =
      rw (corner_words_lem e) record {
        room = r;
        few = omega (arith, corner_count, a.few);
        small = λ j z. corner_small j (omega (arith, corner_count));
      }

-- ---- an `n` line

-- the line's numbers, and what is stored of them
pub record LinksGood (n : ℕ) (l : Line) (w : List ℕ) : Type 0 where
  pub ns : List ℕ
  pub says : link_numbers n l ≡ numbers ns
  pub long : length ns ≡ n
  pub first : take n w ≡ ns
  pub small : (i : ℕ) → i < n → get_or ns i 0 ≤ link_most

module _ (n : ℕ) (l : Line) (few : n ≤ 12) {r : Bool} {w : List ℕ} (x : RowRead n_name 0 (take n (replicate 12 link_most)) l r (replicate 12 0) w) where
  link_row : RowRead n_name 0 (replicate n link_most) l r (replicate 12 0) w
  link_row = subst (λ (ms : List ℕ). RowRead n_name 0 ms l r (replicate 12 0) w) (take_replicate n 12 link_most few) x

  pub links_good : r ≡ true → LinksGood n l w
  unfolding link_numbers
  links_good q =
      let g = row_good link_row q in
      let long : length g.ns ≡ n = g.limits.long ∙ length-replicate n link_most in
      record {
        ns = g.ns;
        says = g.says;
        long = long;
        first = first_words (replicate 12 0) g.ns n g.put long few;
        small = λ i z. omega (arith, (g.limits.most i (simp length-replicate z)).1, get_or-replicate n i link_most 0 z);
      }

  pub links_none : r ≡ false → link_numbers n l ≡ malformed
  unfolding link_numbers
  links_none q = row_bad link_row q

-- a line that is missing has none
no_links_lem : (n : ℕ) → link_numbers n [] ≡ malformed
unfolding link_numbers numbers_of
no_links_lem n = refl

pub links_ready : {n : ℕ} {l : Line} {w ls : List ℕ} (i : ℕ) {words : ℕ} → LinksGood n l w → n ≤ words → i * words + words ≤ length ls
    → RowReady 4294967295 ls (i * words) words (take n w)
links_ready i g h r =
    rw g.first record { room = r; few = omega (arith, g.long); small = λ j z. g.small j (omega (arith, g.long)) }

-- one row more
pub row_more : (ws ns : List ℕ) (i words : ℕ) → length ns ≤ words → i * words + words ≤ length ws
    → take ((i + 1) * words) (splice ws (i * words) (padded words ns)) ≡ take (i * words) ws ++ padded words ns
row_more ws ns i words h r =
    let e : (i + 1) * words ≡ i * words + words = omega arith in
    take_splice_end ws (i * words) ((i + 1) * words) (padded words ns) (omega (arith, length_padded words ns h)) (omega arith)

module _ {text : List ℕ} {p : Progress} {words i n : ℕ} {ls : List ℕ} (ready : RowAtReady text p words i n ls) where
  -- the line is bad
  pub links_bad : link_numbers n (line_at (lines_of (drop p.at text)) 0) ≡ malformed → LinksRead text p (Err (Malformed p.line)) words i n ls ls
  links_bad e = record {
    within = no_place text p.line;
    long = refl;
    ms = [];
    more = λ q z. absurd (no_ok z);
    same = λ f. need_bad p.line _ e ∙ rest_stopped text p.line _;
  }

  module _ {e : ℕ} (q : e ≡ p.at + place_of lf (drop p.at text)) where
    -- there is none
    pub links_open : length text ≤ e → LinksRead text p (Err (Malformed p.line)) words i n ls ls
    links_open h = links_bad (ap (link_numbers n) (line_none text p.at q h) ∙ no_links_lem n)

    module _ (h : e < length text) where
      here : line_at (lines_of (drop p.at text)) 0 ≡ parts tab_byte (view text p.at (e - p.at))
      unfolding line_at
      here = rw (line_here text p.at q h) refl

      pub links_missed : link_numbers n (parts tab_byte (view text p.at (e - p.at))) ≡ malformed
          → LinksRead text p (Err (Malformed p.line)) words i n ls ls
      links_missed z = links_bad (ap (link_numbers n) here ∙ z)

      pub links_put : {w ls' : List ℕ} → LinksGood n (parts tab_byte (view text p.at (e - p.at))) w → ls' ≡ splice ls (i * words) (padded words (take n w))
          → LinksRead text p (Ok (record { line = p.line + 1; at = e + 1 })) words i n ls ls'
      unfolding rest_by line_at
      links_put {w} {ls'} g x =
          let t = ready.within in
          let y : ls' ≡ splice ls (i * words) (padded words g.ns) = x ∙ ap (λ (l : List ℕ). splice ls (i * words) (padded words l)) g.first in
          record {
            within = a_place text (record { line = p.line + 1; at = e + 1 }) (next_within text p.at q t.inside t.short t.small h);
            long = ap length y ∙ length_splice ls (i * words) (padded words g.ns);
            ms = g.ns;
            more = λ u z. rw y (row_more ls g.ns i words (omega (arith, g.long, ready.corners)) ready.room);
            same = λ f.
                need_good p.line _ (ap (link_numbers n) here ∙ g.says)
                ∙ ap (λ (l : List Line). f (p.line + 1) (drop 1 l) g.ns) (line_here text p.at q h);
          }
