-- The lines of the polygons, one after the other: a line that is bad is the refusal, and behind two good ones the rest comes to what the whole comes to.
-- Assumes nothing.
use Rattle.std.specs.Prelude.{Result, Ok, Err}
use mathlib.Core.Path.{◌≡◌, refl, ap, ◌∙◌}
use mathlib.Core.List.{List, [], ◌++◌}
use Prim.Native.Nat.{ℕ, suc, ◌+◌, ◌-◌, ◌*◌, ◌≤◌, ◌<◌}
use native.Mathlib.Nat.{sub-zero}
use native.Mathlib.Omega.{arith}
use lib.ListN.{length, take, drop}
use borrow.Author.Tests.{le-leb}
use Rattle.mem.specs.Slice.{view, splice, length_splice}
use Rattle.mem.specs.Loops.{block_fits}
use Rattle.rules.specs.Lines.{tab_byte, lf, parts, Line, lines_of, malformed, numbers_of}
use Rattle.rules.specs.Sheet.{line_at, need}
use Rattle.rules.specs.Exits.{padded}
use Rattle.rules.specs.CheckSheet.{row_words, corner_numbers, link_numbers, with_polygon, read_polygons}
use Rattle.rules.specs.Checker.{Claim}
use Rattle.lines.specs.Scan.{place_of}
use Rattle.checksheet.specs.declared.progress.Progress.{Progress}
use Rattle.checksheet.specs.Reading.{with_mesh, rest_by, Within, WithinAs, CornersAre, RowAtReady, LinksRead}
use Rattle.checksheet.specs.Reading.{PolygonReady, PolygonRead, PolygonsReady, PolygonsRead}
use Rattle.sheet.specs.declared.refusal.SheetRefusal.{SheetRefusal}
use Rattle.sheet.specs.declared.refusal.SheetRefusal.TheVariants.{Malformed}
use Rattle.sheet.specs.Needs.{need_bad, need_good}
use Rattle.checksheet.proofs.Resting.{rest_good, rest_cong, rest_stopped, no_place, a_place, place_of_good}
use Rattle.checksheet.proofs.Resting.{line_here, line_none, next_within}
use Rattle.checksheet.proofs.RowLines.{corner_words_lem, corner_count, row_more}

-- ---- a polygon

-- no cells are no `p` line
no_corners : (most : ℕ) → corner_numbers most [] ≡ malformed
unfolding corner_numbers numbers_of
no_corners most = rw (le-leb 0 (3 + most) (omega arith), corner_numbers) refl

-- a polygon behind others
with_row : (c : Claim) (vs ps ls cs ms : List ℕ) {words : ℕ} → row_words c.mesh.nvp ≡ words
    → with_polygon cs ms (with_mesh c vs ps ls) ≡ with_mesh c vs (ps ++ padded words cs) (ls ++ padded words ms)
unfolding with_polygon with_mesh
with_row c vs ps ls cs ms e = rw e refl

module _ {text : List ℕ} {p : Progress} {words i : ℕ} {ps ls : List ℕ} (ready : PolygonReady text p words i ps ls) where
  abbrev here : List Line
  here = lines_of (drop p.at text)

  -- what the lines come to
  at_polygon : (due : ℕ) (c : Claim) (vs xs ys : List ℕ) → row_words c.mesh.nvp ≡ words
      → read_polygons p.line (suc due) here (with_mesh c vs xs ys)
      ≡ need p.line (corner_numbers words (line_at here 0)) (λ ns. need (p.line + 1) (link_numbers (length ns - 2) (line_at here 1))
      (λ ms. read_polygons (p.line + 2) due (drop 2 here) (with_polygon (drop 2 ns) ms (with_mesh c vs xs ys))))
  unfolding read_polygons with_mesh
  at_polygon due c vs xs ys e = rw e refl

  -- the `p` line is bad
  pub polygon_bad : corner_numbers words (line_at here 0) ≡ malformed → PolygonRead text p (Err (Malformed p.line)) words i ps ls ps ls
  polygon_bad e = record {
    within = no_place text p.line;
    polygons = refl;
    links = refl;
    same = λ due c vs z. at_polygon due c vs _ _ z ∙ need_bad p.line _ e ∙ rest_stopped text p.line _;
  }

  module _ {e : ℕ} (q : e ≡ p.at + place_of lf (drop p.at text)) where
    -- there is none
    pub polygon_open : length text ≤ e → PolygonRead text p (Err (Malformed p.line)) words i ps ls ps ls
    polygon_open h = polygon_bad (ap (corner_numbers words) (line_none text p.at q h) ∙ no_corners words)

    module _ (h : e < length text) where
      first : line_at here 0 ≡ parts tab_byte (view text p.at (e - p.at))
      unfolding line_at
      first = rw (line_here text p.at q h) refl

      pub polygon_missed : corner_numbers words (parts tab_byte (view text p.at (e - p.at))) ≡ malformed
          → PolygonRead text p (Err (Malformed p.line)) words i ps ls ps ls
      polygon_missed z = polygon_bad (ap (corner_numbers words) first ∙ z)

      -- the place behind it
      abbrev pub behind : Progress
      behind = record { line = p.line + 1; at = e + 1 }

      pub links_asked : {n : ℕ} → n ≤ words → RowAtReady text behind words i n ls
      links_asked z =
          let t = ready.within in
          record { within = next_within text p.at q t.inside t.short t.small h; few = ready.few; corners = z; room = ready.links }

      -- the `n` line is next
      second : line_at here 1 ≡ line_at (lines_of (drop (e + 1) text)) 0
      unfolding line_at
      second = rw (line_here text p.at q h) refl

      later : drop 2 here ≡ drop 1 (lines_of (drop (e + 1) text))
      later = rw (line_here text p.at q h) refl

      module _ {n : ℕ} {v w : List ℕ} (a : CornersAre words (parts tab_byte (view text p.at (e - p.at))) n v w) (room : length v ≡ 14)
          {ps' ls' : List ℕ} (m : ℕ) (k : m ≡ n) (put : ps' ≡ splice ps (i * words) (padded words (view w 2 m)))
          {s : Result Progress SheetRefusal} (links : LinksRead text behind s words i n ls ls') where
        stored : ps' ≡ splice ps (i * words) (padded words (drop 2 a.ns))
        stored = put ∙ ap (λ (l : List ℕ). splice ps (i * words) (padded words l)) (corner_words_lem a room ready.few k)

        more : take ((i + 1) * words) ps' ≡ take (i * words) ps ++ padded words (drop 2 a.ns)
        more = ap (take ((i + 1) * words)) stored ∙ row_more ps (drop 2 a.ns) i words (omega (arith, corner_count a room ready.few, a.few)) ready.room

        -- both lines, with the links that were read
        both : (due : ℕ) (c : Claim) (vs xs ys : List ℕ) → row_words c.mesh.nvp ≡ words
            → read_polygons p.line (suc due) here (with_mesh c vs xs ys)
            ≡ rest_by text s (λ line lines. read_polygons line due lines (with_polygon (drop 2 a.ns) links.ms (with_mesh c vs xs ys)))
        both due c vs xs ys z =
            let two : length a.ns - 2 ≡ n = omega (arith, a.long) in
            let on : p.line + 2 ≡ p.line + 1 + 1 = omega arith in
            at_polygon due c vs xs ys z
            ∙ need_good p.line _ (ap (corner_numbers words) first ∙ a.says)
            ∙ rw (two, second, later, on) (links.same (λ line lines ms. read_polygons line due lines (with_polygon (drop 2 a.ns) ms (with_mesh c vs xs ys))))

        pub polygon_put : PolygonRead text p s words i ps ls ps' ls'
        polygon_put = record {
          within = links.within;
          polygons = ap length stored ∙ length_splice ps (i * words) (padded words (drop 2 a.ns));
          links = links.long;
          same = λ due c vs z.
              both due c vs (take (i * words) ps) (take (i * words) ls) z
              ∙ rest_cong text s _ _ (λ u g line lines. ap (read_polygons line due lines)
              (with_row c vs (take (i * words) ps) (take (i * words) ls) (drop 2 a.ns) links.ms z ∙ rw (more, links.more u g) refl));
        }

-- ---- the loop: i polygons are read, and what is left from p on comes to what the whole comes to from f on
pub record Going (text : List ℕ) (f : Progress) (words n : ℕ) (p : Progress) (i : ℕ) (v w ps ls : List ℕ) : Type 0 where
  pub within : Within text p
  pub few : words ≤ 12
  pub count : i ≤ n
  pub polygons : length ps ≡ length v
  pub links : length ls ≡ length w
  pub room : n * words ≤ length ps
  pub space : n * words ≤ length ls
  pub same : (c : Claim) (vs : List ℕ) → row_words c.mesh.nvp ≡ words
      → read_polygons f.line n (lines_of (drop f.at text)) (with_mesh c vs [] [])
      ≡ read_polygons p.line (n - i) (lines_of (drop p.at text)) (with_mesh c vs (take (i * words) ps) (take (i * words) ls))

pub going_begin : {text : List ℕ} {f : Progress} {words n : ℕ} {ps ls : List ℕ} → PolygonsReady text f words n ps ls → Going text f words n f 0 ps ls ps ls
going_begin {text} {f} {words} {n} r =
    let e : 0 * words ≡ 0 = omega arith in
    record {
      within = r.within;
      few = r.few;
      count = omega arith;
      polygons = refl;
      links = refl;
      room = r.room;
      space = r.links;
      same = λ c vs z. rw (sub-zero n, e) refl;
    }

module _ {text : List ℕ} {f : Progress} {words n : ℕ} {p : Progress} {i : ℕ} {v w ps ls : List ℕ} (s : Going text f words n p i v w ps ls) where
  pub going_ready : i < n → PolygonReady text p words i ps ls
  going_ready h =
      record {
        within = s.within;
        few = s.few;
        room = block_fits i n words (length ps) h s.room;
        links = block_fits i n words (length ls) h s.space;
      }

  module _ (h : i < n) {a : Result Progress SheetRefusal} {ps' ls' : List ℕ} (r : PolygonRead text p a words i ps ls ps' ls') where
    turn : (c : Claim) (vs : List ℕ) → row_words c.mesh.nvp ≡ words
        → read_polygons f.line n (lines_of (drop f.at text)) (with_mesh c vs [] [])
        ≡ rest_by text a (λ k lines. read_polygons k (n - (i + 1)) lines (with_mesh c vs (take ((i + 1) * words) ps') (take ((i + 1) * words) ls')))
    turn c vs z =
        let e : n - i ≡ suc (n - (i + 1)) = omega arith in
        s.same c vs z
        ∙ ap (λ (d : ℕ). read_polygons p.line d (lines_of (drop p.at text)) (with_mesh c vs (take (i * words) ps) (take (i * words) ls))) e
        ∙ r.same (n - (i + 1)) c vs z

    pub going_next : {q : Progress} → a ≡ Ok q → Going text f words n q (i + 1) v w ps' ls'
    going_next g =
        record {
          within = place_of_good text r.within g;
          few = s.few;
          count = omega arith;
          polygons = r.polygons ∙ s.polygons;
          links = r.links ∙ s.links;
          room = rw r.polygons s.room;
          space = rw r.links s.space;
          same = λ c vs z. turn c vs z ∙ rest_good text _ g;
        }

    pub going_stop : {z : SheetRefusal} → a ≡ Err z → PolygonsRead text f (Err z) words n ps' ls'
    unfolding rest_by WithinAs
    going_stop g = record {
      within = Prim.tt;
      same = λ c vs z.
          turn c vs z
          ∙ ap (λ (x : Result Progress SheetRefusal). rest_by text x (λ k lines. read_polygons k (n - (i + 1)) lines (with_mesh c vs (take ((i + 1) * words) ps') (take ((i + 1) * words) ls')))) g;
    }

  pub going_end : n ≤ i → PolygonsRead text f (Ok p) words n ps ls
  unfolding rest_by
  going_end h =
      let e : i ≡ n = omega (arith, s.count) in
      let z : n - i ≡ 0 = omega arith in
      record {
        within = a_place text p s.within;
        same = λ c vs x.
            s.same c vs x
            ∙ ap (λ (d : ℕ). read_polygons p.line d (lines_of (drop p.at text)) (with_mesh c vs (take (i * words) ps) (take (i * words) ls))) z
            ∙ rw e refl;
      }
