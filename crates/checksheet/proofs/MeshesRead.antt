-- What is behind the heading, from the mesh line on: there is none, or its lists are read. Assumes nothing.
use Rattle.std.specs.Prelude.{Option, Some, None, Result, Ok, Err, ⊤}
use mathlib.Core.Path.{◌≡◌, refl, sym, ap, ◌∙◌, subst}
use mathlib.Core.List.{List, []}
use mathlib.Core.Logic.{⊎_elim}
use Prim.Native.Nat.{ℕ, ◌+◌, ◌-◌, ◌*◌, ◌≤◌, ◌<◌}
use native.Mathlib.Nat.{mul-le-mul}
use native.Mathlib.Omega.{arith}
use lib.ListN.{length, drop}
use borrow.Author.Tests.{le-leb, lt-leb}
use Rattle.mem.specs.Slice.{view}
use Rattle.mem.specs.Cases.{lt_or_le}
use Rattle.rules.specs.Lines.{tab_byte, lf, parts, Line, lines_of}
use Rattle.rules.specs.Sheet.{heading_lines, line_at}
use Rattle.rules.specs.CheckSheet.{count_most, row_words, no_mesh_yet, read_places, read_mesh}
use Rattle.lines.specs.Scan.{place_of}
use Rattle.sheet.specs.declared.heading.Heading.{Heading}
use Rattle.sheet.specs.declared.refusal.SheetRefusal.{SheetRefusal}
use Rattle.sheet.specs.declared.refusal.SheetRefusal.TheVariants.{Malformed}
use Rattle.sheet.specs.Refusals.{number_of, line_of, refused_as}
use Rattle.sheet.specs.Reading.{sheet_of}
use Rattle.checksheet.specs.declared.counts.MeshLine.{MeshLine}
use Rattle.checksheet.specs.Reading.{CountedAs, MeshIs, with_mesh, end_of, ListsReady, ListsRead}
use Rattle.checksheet.specs.Claims.{MeshReady, claim_of, ClaimedAs, FoundAs, MeshRead}
use Rattle.checksheet.proofs.MeshLines.{other_count}
use Rattle.checksheet.proofs.Resting.{line_here, line_none}

-- ---- the words of a row
pub words_all : (nvp : ℕ) → nvp ≤ 12 → nvp ≡ row_words nvp
unfolding row_words
words_all nvp h = rw (le-leb nvp 12 h) refl

pub words_most : (nvp : ℕ) → 12 < nvp → 12 ≡ row_words nvp
unfolding row_words
words_most nvp h = rw (lt-leb nvp 12 h) refl

pub words_few : (nvp : ℕ) → row_words nvp ≤ 12
words_few nvp = ⊎_elim (λ (h : 12 < nvp). omega (arith, words_most nvp h)) (λ (h : nvp ≤ 12). omega (arith, words_all nvp h)) (lt_or_le 12 nvp)

-- n rows of at most 12 words
pub rows_fit : (n : ℕ) {words : ℕ} → n ≤ count_most → words ≤ 12 → n * words ≤ 98304
rows_fit n h w = mul-le-mul h w

-- ---- the mesh line, which ends at e
missing : (text : List ℕ) (x : Heading) {l : Line} → line_at (lines_of (drop x.at text)) 0 ≡ l → MeshIs l None → (vs ps ls : List ℕ)
    → MeshRead text x (Err (Malformed 5)) vs ps ls
unfolding FoundAs MeshIs read_mesh refused_as number_of line_of
missing text x e m vs ps ls = record { found = rw e (m (heading_lines + 1) _) }

module _ (text : List ℕ) (x : Heading) {e : ℕ} (q : e ≡ x.at + place_of lf (drop x.at text)) where
  pub mesh_open : length text ≤ e → (vs ps ls : List ℕ) → MeshRead text x (Err (Malformed 5)) vs ps ls
  mesh_open h = missing text x (line_none text x.at q h) (other_count [] (λ (z : 0 ≡ 4). absurd (omega arith)))

  module _ (h : e < length text) where
    abbrev first : Line
    first = parts tab_byte (view text x.at (e - x.at))

    here : line_at (lines_of (drop x.at text)) 0 ≡ first
    unfolding line_at
    here = rw (line_here text x.at q h) refl

    later : drop 1 (lines_of (drop x.at text)) ≡ lines_of (drop (e + 1) text)
    later = rw (line_here text x.at q h) refl

    module _ {o : Option MeshLine} (is : MeshIs first o) where
      pub mesh_missed : o ≡ None → (vs ps ls : List ℕ) → MeshRead text x (Err (Malformed 5)) vs ps ls
      mesh_missed z = missing text x here (subst (MeshIs first) z is)

      module _ {m : MeshLine} (counted : o ≡ Some m) where
        says : CountedAs first m.places m.polygons m.total
        unfolding MeshIs
        says = subst (MeshIs first) counted is

        pub lists_asked : {vs ps ls : List ℕ} {words : ℕ} → MeshReady text x vs ps ls → words ≡ row_words x.nvp → ListsReady text (e + 1) words m.places m.polygons vs ps ls
        lists_asked {words = words} r w =
            let few : words ≤ 12 = omega (arith, words_few x.nvp) in
            let rows = rows_fit m.polygons says.polygons few in
            record {
              inside = omega arith;
              short = r.short;
              few = few;
              places = omega (arith, says.places, r.places);
              room = omega (arith, rows, r.polygons);
              links = omega (arith, rows, r.links);
            }

        module _ {words : ℕ} {a : Result ⊤ SheetRefusal} {vs ps ls : List ℕ} (w : words ≡ row_words x.nvp) (lists : ListsRead text (e + 1) words m.places m.polygons a vs ps ls) where
          counts : read_mesh (lines_of (drop x.at text)) (sheet_of x) ≡ read_places 6 m.places m.polygons (lines_of (drop (e + 1) text)) (no_mesh_yet (sheet_of x) m.total)
          unfolding read_mesh
          counts =
              rw (here, later)
              (says.says (heading_lines + 1) (λ k n z. read_places (heading_lines + 2) k n (lines_of (drop (e + 1) text)) (no_mesh_yet (sheet_of x) z)))

          rest : read_places 6 m.places m.polygons (lines_of (drop (e + 1) text)) (no_mesh_yet (sheet_of x) m.total) ≡ end_of a (claim_of x m.places m.polygons m.total vs ps ls)
          unfolding with_mesh no_mesh_yet sheet_of claim_of
          rest = rw (← w) (lists.same (no_mesh_yet (sheet_of x) m.total) (sym w))

          pub mesh_claimed : {u : ⊤} → a ≡ Ok u → MeshRead text x (Ok m) vs ps ls
          unfolding FoundAs end_of
          mesh_claimed g =
              let f : ClaimedAs text x m.places m.polygons m.total vs ps ls = record {
                places = says.places;
                polygons = says.polygons;
                same = counts ∙ rest ∙ ap (λ (y : Result ⊤ SheetRefusal). end_of y (claim_of x m.places m.polygons m.total vs ps ls)) g;
              } in
              record { found = f }

          pub mesh_unread : {e : SheetRefusal} → a ≡ Err e → MeshRead text x (Err e) vs ps ls
          unfolding FoundAs end_of
          mesh_unread g = record {
            found = counts ∙ rest ∙ ap (λ (y : Result ⊤ SheetRefusal). end_of y (claim_of x m.places m.polygons m.total vs ps ls)) g;
          }
