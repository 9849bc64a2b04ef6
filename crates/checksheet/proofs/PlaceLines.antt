-- The lines of the vertices, one after the other: a line that is bad is the refusal, and behind a good one the rest comes to what the whole comes to. Assumes
-- nothing.
use Rattle.std.specs.Prelude.{Result, Ok, Err}
use mathlib.Core.Path.{◌≡◌, refl, sym, ap, ◌∙◌, subst}
use mathlib.Core.List.{List, [], ◌∷◌}
use Prim.Native.Nat.{ℕ, suc, ◌+◌, ◌-◌, ◌*◌, ◌≤◌, ◌<◌}
use native.Mathlib.Nat.{sub-zero}
use native.Mathlib.Omega.{arith}
use lib.ListN.{length, take, drop, get_or, set}
use Rattle.mem.specs.Slice.{splice, length_splice, take_splice_end, stored_each, set_each}
use Rattle.rules.specs.Lines.{Line, lines_of, malformed}
use Rattle.rules.specs.Checks.{vertex_stride}
use Rattle.rules.specs.Sheet.{v_name, number_most, line_at, need}
use Rattle.rules.specs.CheckSheet.{place_numbers, with_place, read_places}
use Rattle.rules.specs.Checker.{Claim}
use Rattle.lines.specs.declared.line.LineRead.{LineRead}
use Rattle.lines.specs.Read.{numbers_at}
use Rattle.lines.specs.Taken.{Good}
use Rattle.checksheet.specs.declared.progress.Progress.{Progress}
use Rattle.checksheet.specs.Reading.{with_mesh, rest_by, Within, WithinAs, PlaceReady, PlaceRead, PlacesReady, PlacesRead}
use Rattle.sheet.specs.declared.refusal.SheetRefusal.{SheetRefusal}
use Rattle.sheet.specs.declared.refusal.SheetRefusal.TheVariants.{Malformed}
use Rattle.sheet.specs.Needs.{need_bad, need_good}
use Rattle.checksheet.proofs.Resting.{rest_good, rest_stopped, no_place, a_place, place_of_good}

-- the limits of a vertex's numbers
abbrev pub place_mosts : List ℕ
place_mosts = number_most ∷ number_most ∷ number_most ∷ []

abbrev pub PlaceGood : List ℕ → ℕ → LineRead 3 → Type 0
PlaceGood text at r = Good text at v_name 0 place_mosts r

pub place_most : {text : List ℕ} {at : ℕ} {r : LineRead 3} → PlaceGood text at r
    → (get_or r.numbers 0 0 ≤ number_most) × (get_or r.numbers 1 0 ≤ number_most) × (get_or r.numbers 2 0 ≤ number_most)
place_most g = ((g.limits.most 0 (omega arith)).1, (g.limits.most 1 (omega arith)).1, (g.limits.most 2 (omega arith)).1)

three_of : (ns : List ℕ) → length ns ≡ 3 → get_or ns 0 0 ∷ get_or ns 1 0 ∷ get_or ns 2 0 ∷ [] ≡ ns
three_of [] h = absurd (omega arith)
three_of (a ∷ []) h = absurd (omega arith)
three_of (a ∷ (b ∷ [])) h = absurd (omega arith)
three_of (a ∷ (b ∷ (c ∷ []))) h = refl
three_of (a ∷ (b ∷ (c ∷ (d ∷ ns)))) h = absurd (omega arith)

-- ---- a line
module _ {text : List ℕ} {p : Progress} {i : ℕ} {vs : List ℕ} (ready : PlaceReady text p i vs) where
  abbrev here : List Line
  here = lines_of (drop p.at text)

  at_place : (due n : ℕ) (c : Claim)
      → read_places p.line (suc due) n here c
      ≡ need p.line (numbers_at text p.at v_name 0 place_mosts) (λ ns. read_places (p.line + 1) due n (drop 1 here) (with_place ns c))
  unfolding read_places place_numbers line_at numbers_at
  at_place due n c = refl

  pub place_bad : numbers_at text p.at v_name 0 place_mosts ≡ malformed → PlaceRead text p (Err (Malformed p.line)) i vs vs
  place_bad e = record {
    within = no_place text p.line;
    long = refl;
    same = λ due n c. at_place due n _ ∙ need_bad p.line _ e ∙ rest_stopped text p.line _;
  }

  module _ {r : LineRead 3} (g : PlaceGood text p.at r) where
    put : set (set (set vs (i * vertex_stride) (get_or r.numbers 0 0)) (i * vertex_stride + 1) (get_or r.numbers 1 0)) (i * vertex_stride + 2) (get_or r.numbers 2 0)
        ≡ splice vs (i * vertex_stride) r.numbers
    unfolding set_each
    put =
        let k = i * vertex_stride in
        stored_each vs k (get_or r.numbers 0 0) (get_or r.numbers 1 0 ∷ get_or r.numbers 2 0 ∷ []) ∙ ap (splice vs k) (three_of r.numbers g.limits.long)

    put_place : PlaceRead text p (Ok (record { line = p.line + 1; at = r.next })) i vs (splice vs (i * vertex_stride) r.numbers)
    unfolding rest_by with_place with_mesh
    put_place =
        let w = ready.within in
        let k = i * vertex_stride in
        let more = take_splice_end vs k ((i + 1) * vertex_stride) r.numbers (omega (arith, g.limits.long)) (omega (arith, ready.room)) in
        record {
          within = a_place text (record { line = p.line + 1; at = r.next }) (record { inside = g.within; short = w.short; small = omega (arith, w.small, g.further) });
          long = length_splice vs k r.numbers;
          same = λ due n c. at_place due n _ ∙ need_good p.line _ g.says ∙ rw (g.rest, more) refl;
        }

    pub place_put : PlaceRead text p (Ok (record { line = p.line + 1; at = r.next })) i vs
        (set (set (set vs (i * vertex_stride) (get_or r.numbers 0 0)) (i * vertex_stride + 1) (get_or r.numbers 1 0)) (i * vertex_stride + 2) (get_or r.numbers 2 0))
    place_put = subst (PlaceRead text p (Ok (record { line = p.line + 1; at = r.next })) i vs) (sym put) put_place

-- ---- the loop: i vertices are read, and what is left from p on comes to what the whole comes to
pub record Placing (text : List ℕ) (from k : ℕ) (p : Progress) (i : ℕ) (v vs : List ℕ) : Type 0 where
  pub within : Within text p
  pub count : i ≤ k
  pub long : length vs ≡ length v
  pub room : k * vertex_stride ≤ length vs
  pub same : (n : ℕ) (c : Claim) → read_places 6 k n (lines_of (drop from text)) (with_mesh c [] [] [])
      ≡ read_places p.line (k - i) n (lines_of (drop p.at text)) (with_mesh c (take (i * vertex_stride) vs) [] [])

pub placing_begin : {text : List ℕ} {from k : ℕ} {vs : List ℕ} → PlacesReady text from k vs
    → Placing text from k (record { line = 6; at = from }) 0 vs vs
placing_begin {text} {from} {k} r = record {
  within = record { inside = r.inside; short = r.short; small = omega arith };
  count = omega arith;
  long = refl;
  room = r.room;
  same = λ n c. rw (sub-zero k) refl;
}

module _ {text : List ℕ} {from k : ℕ} {p : Progress} {i : ℕ} {v vs : List ℕ} (s : Placing text from k p i v vs) where
  pub placing_ready : i < k → PlaceReady text p i vs
  placing_ready h = record { within = s.within; room = omega (arith, s.room) }

  module _ (h : i < k) {a : Result Progress SheetRefusal} {vs' : List ℕ} (r : PlaceRead text p a i vs vs') where
    turn : (n : ℕ) (c : Claim) → read_places 6 k n (lines_of (drop from text)) (with_mesh c [] [] [])
        ≡ rest_by text a (λ line ls. read_places line (k - (i + 1)) n ls (with_mesh c (take ((i + 1) * vertex_stride) vs') [] []))
    turn n c =
        let e : k - i ≡ suc (k - (i + 1)) = omega arith in
        s.same n c
        ∙ ap (λ (d : ℕ). read_places p.line d n (lines_of (drop p.at text)) (with_mesh c (take (i * vertex_stride) vs) [] [])) e
        ∙ r.same (k - (i + 1)) n c

    pub placing_next : {q : Progress} → a ≡ Ok q → Placing text from k q (i + 1) v vs'
    placing_next g =
        record {
          within = place_of_good text r.within g;
          count = omega arith;
          long = r.long ∙ s.long;
          room = omega (arith, s.room, r.long);
          same = λ n c. turn n c ∙ rest_good text _ g;
        }

    pub placing_stop : {z : SheetRefusal} → a ≡ Err z → PlacesRead text from k (Err z) vs'
    unfolding rest_by WithinAs
    placing_stop g = record {
      within = Prim.tt;
      same = λ n c. turn n c ∙ ap (λ (x : Result Progress SheetRefusal). rest_by text x (λ line ls. read_places line (k - (i + 1)) n ls (with_mesh c (take ((i + 1) * vertex_stride) vs') [] []))) g;
    }

  pub placing_end : k ≤ i → PlacesRead text from k (Ok p) vs
  unfolding read_places rest_by
  placing_end h =
      let e : i ≡ k = omega (arith, s.count) in
      let z : k - i ≡ 0 = omega arith in
      record {
        within = a_place text p s.within;
        same = λ n c.
            s.same n c
            ∙ ap (λ (d : ℕ). read_places p.line d n (lines_of (drop p.at text)) (with_mesh c (take (i * vertex_stride) vs) [] [])) z
            ∙ rw e refl;
      }
