-- The lines behind the heading, one after the other: a line that is bad is the refusal, and behind a good one the rest comes to what the whole comes to. The
-- lengths so far add up to the vertices that are read and that are due. Assumes nothing.
use Rattle.std.specs.Prelude.{Result, Ok, Err}
use mathlib.Core.Path.{◌≡◌, refl, sym, ap, ◌∙◌, subst}
use mathlib.Core.Bool.{Bool, true, false, cond}
use mathlib.Core.List.{List, [], ◌∷◌, ◌++◌}
use Prim.Native.Nat.{ℕ, zero, suc, ◌+◌, ◌-◌, ◌*◌, ◌≤◌, ◌<◌}
use native.Mathlib.Nat.{add-zero}
use native.Mathlib.Numerals.{add-one}
use native.Mathlib.Omega.{arith}
use lib.ListN.{length, take, drop, get_or, set, length-append, length-set, get_or-append}
use lib.Seq.{length-take-le, drop-cons, get_or_at, take-suc-set}
use Rattle.mem.specs.Slice.{splice, length_splice, take_splice_end}
use Rattle.mem.specs.Loops.{run, over, over_cong}
use Rattle.rules.specs.Lines.{Line, lines_of, Numbers, numbers, malformed}
use Rattle.rules.specs.Job.{job_stride, sum_over, count_all}
use Rattle.rules.specs.Sheet.{number_most, code_most, heading_lines, contour_name, v_name, Sheet, Read, taken, bad, need, too_many, with_contour, with_vertex, contour_numbers, vertex_numbers, read_body}
use Rattle.lines.specs.Read.{numbers_at}
use Rattle.lines.specs.Taken.{line_some, line_missing, limited}
use Rattle.lines.specs.Taken as lines
use Rattle.sheet.specs.declared.body.Progress.{Progress}
use Rattle.sheet.specs.Needs.{need_bad, need_good}
use Rattle.sheet.specs.Reading.{with_lists, so_far, rest_of, rest_as, end_as, contour_at, vertex_line_at, is_over, past_contour, after_contour, put_contour, past_vertex, after_vertex}
use Rattle.sheet.specs.Reading.{Moved, Further, CountedAs}
use Rattle.sheet.specs.declared.refusal.SheetRefusal.{SheetRefusal}
use Rattle.sheet.specs.declared.refusal.SheetRefusal.TheVariants.{Malformed, TooMany}
use Rattle.sheet.specs.Refusals.{number_of, line_of, refused_as}
use Rattle.sheet.specs.Reading.{put_vertex, ContourReady, ContourRead, VertexReady, VertexRead, Standing, LineReady, Stepped, BodyReady, BodyRead}
use Rattle.sheet.proofs.BodyLines.{not_over}

-- ---- a sum with one more at the end
run_snoc : (f : ℕ → ℕ) (m i : ℕ) → run 0 ◌+◌ f i (suc m) ≡ run 0 ◌+◌ f i m + f (i + m)
unfolding run
run_snoc f zero i = rw (add-zero i) (omega arith)
run_snoc f (suc m) i = let e : suc i + m ≡ i + suc m = omega arith in let h = rw e at (run_snoc f m (suc i)) in omega arith

over_snoc : (f : ℕ → ℕ) (n : ℕ) → over 0 ◌+◌ f 0 (n + 1) ≡ over 0 ◌+◌ f 0 n + f n
unfolding over
over_snoc f n =
    let a : n + 1 - 0 ≡ suc n = omega arith in
    let b : n - 0 ≡ n = omega arith in
    let e : 0 + n ≡ n = omega arith in
    rw (a, b) (rw e at (run_snoc f n 0))

sum_snoc : (ls : List ℕ) (x : ℕ) → sum_over (λ n. n) (ls ++ (x ∷ [])) ≡ sum_over (λ n. n) ls + x
unfolding sum_over
sum_snoc ls x =
    let at : ℕ → ℕ = λ c. get_or (ls ++ (x ∷ [])) c 0 in
    let e : over 0 ◌+◌ at 0 (length ls) ≡ over 0 ◌+◌ (λ c. get_or ls c 0) 0 (length ls) =
    over_cong 0 ◌+◌ at (λ c. get_or ls c 0) 0 (length ls) (λ c a b. get_or-append ls (x ∷ []) 0 c b) in
    let f : at (length ls) ≡ x = get_or_at ls x [] 0 (length ls) refl in
    ap (over 0 ◌+◌ at 0) (length-append ls (x ∷ [])) ∙ over_snoc at (length ls) ∙ omega arith

-- ---- what the lines from p on come to

-- a contour of these numbers at line k, and then the lines ls
unfoldable contour_on : ℕ → List Line → Sheet → List ℕ → Read Sheet
contour_on k ls s ms = elim (too_many s.job (get_or ms 2 0)) [
  | true ↦ bad 24 k
  | false ↦ read_body (k + 1) (get_or ms 2 0) ls (with_contour ms s)
]

-- one more in a list
take_more : (l : List ℕ) (k x : ℕ) → k < length l → take (k + 1) (set l k x) ≡ take k l ++ (x ∷ [])
take_more l k x h = rw add-one (take-suc-set l k x h)

-- the rest, seen in two ways
rest_cong : (k d : ℕ) {ks ls : List Line} {s t : Sheet} → ks ≡ ls → s ≡ t → read_body k d ks s ≡ read_body k d ls t
rest_cong k d {ks} {ls} {s} {t} e f = ap (λ (l : List Line). read_body k d l s) e ∙ ap (read_body k d ls) f

module _ {text : List ℕ} {p : Progress} {ls rs cs ns : List ℕ} (ready : LineReady text p ls rs cs ns) where
  abbrev here : List Line
  here = lines_of (drop p.at text)

  rest_is : (s : Sheet) → rest_of text p s ≡ read_body p.line p.due (get_or here 0 [] ∷ drop 1 here) s
  unfolding rest_of
  rest_is s = ap (λ (l : List Line). read_body p.line p.due l s) (drop-cons here 0 [] (line_some text p.at ready.more))

  -- a contour line, and a vertex line
  at_contour : p.due ≡ 0 → (s : Sheet) → rest_of text p s ≡ need p.line (contour_at text p) (contour_on p.line (drop 1 here) s)
  unfolding read_body contour_numbers contour_at numbers_at contour_on
  at_contour e s = rest_is s ∙ ap (λ (d : ℕ). read_body p.line d (get_or here 0 [] ∷ drop 1 here) s) e

  at_vertex : 0 < p.due → (s : Sheet)
      → rest_of text p s ≡ need p.line (vertex_line_at text p) (λ ms. read_body (p.line + 1) (p.due - 1) (drop 1 here) (with_vertex ms s))
  unfolding read_body vertex_numbers vertex_line_at numbers_at
  at_vertex h s =
      let e : p.due ≡ suc (p.due - 1) = omega arith in
      rest_is s ∙ ap (λ (d : ℕ). read_body p.line d (get_or here 0 [] ∷ drop 1 here) s) e

  -- the reading ends at p
  stop : (e : SheetRefusal) → ((s : Sheet) → rest_of text p (so_far s p ls rs cs ns) ≡ refused_as e) → Stepped text p (Err e) ls rs cs ns ls rs cs ns
  unfolding Moved rest_as
  stop e h =
      let t = ready.standing in
      record { moved = record { lengths = t.lengths; regions = t.regions; codes = t.codes; numbers = t.numbers }; same = h }

  -- ---- a contour line
  module _ (due : p.due ≡ 0) where
    -- the code's test for too many contours is the rules'
    over_is : (s : Sheet) (n : ℕ) → too_many (so_far s p ls rs cs ns).job n ≡ is_over p n
    unfolding too_many so_far with_lists is_over count_all
    over_is s n =
        let t = ready.standing in
        let a : length (take p.contours ls) ≡ p.contours = length-take-le p.contours ls (omega (arith, t.lengths, t.within.few)) in
        let b : sum_over (λ k. k) (take p.contours ls) ≡ p.vertices = omega (arith, t.declared) in
        rw (a, b) refl

    stop_at_contour : contour_at text p ≡ malformed → Stepped text p (Err (Malformed p.line)) ls rs cs ns ls rs cs ns
    unfolding refused_as number_of line_of
    stop_at_contour e = stop (Malformed p.line) (λ s. at_contour due (so_far s p ls rs cs ns) ∙ need_bad p.line _ e)

    module _ {ms : List ℕ} (e : contour_at text p ≡ numbers ms) where
      contour_on_lem : (s : Sheet) → rest_of text p (so_far s p ls rs cs ns) ≡ contour_on p.line (drop 1 here) (so_far s p ls rs cs ns) ms
      contour_on_lem s = at_contour due (so_far s p ls rs cs ns) ∙ need_good p.line (contour_on p.line (drop 1 here) (so_far s p ls rs cs ns)) e

      stop_too_many : is_over p (get_or ms 2 0) ≡ true → Stepped text p (Err (TooMany p.line)) ls rs cs ns ls rs cs ns
      unfolding contour_on refused_as number_of line_of
      stop_too_many o = stop (TooMany p.line) (λ s. contour_on_lem s ∙ rw (over_is s (get_or ms 2 0) ∙ o, contour_on) refl)

      past_contour_lem : is_over p (get_or ms 2 0) ≡ false
          → Stepped text p (Ok (past_contour text p ms)) ls rs cs ns
          (set ls p.contours (get_or ms 2 0)) (set rs p.contours (get_or ms 0 0)) (set cs p.contours (get_or ms 1 0)) ns
      unfolding contour_at contour_on rest_of with_contour so_far with_lists Moved rest_as
      past_contour_lem o =
          let t = ready.standing in
          let l = lines.taken text p.at contour_name 0 (number_most ∷ code_most ∷ number_most ∷ []) e in
          let f = not_over p (get_or ms 2 0) o in
          let more = take_more ls p.contours (get_or ms 2 0) (omega (arith, f.0, t.lengths)) in
          let region = take_more rs p.contours (get_or ms 0 0) (omega (arith, f.0, t.regions)) in
          let code = take_more cs p.contours (get_or ms 1 0) (omega (arith, f.0, t.codes)) in
          record {
            moved = record {
              standing = record {
                within = record {
                  inside = l.within;
                  short = t.within.short;
                  small = omega (arith, t.within.small, l.further);
                  few = omega (arith, f.0);
                  room = f.1;
                };
                lengths = length-set ls p.contours (get_or ms 2 0) ∙ t.lengths;
                regions = length-set rs p.contours (get_or ms 0 0) ∙ t.regions;
                codes = length-set cs p.contours (get_or ms 1 0) ∙ t.codes;
                numbers = t.numbers;
                declared = rw more (omega (arith, sum_snoc (take p.contours ls) (get_or ms 2 0), t.declared));
              };
              further = l.further;
            };
            same = λ s.
                contour_on_lem s
                ∙ rw (over_is s (get_or ms 2 0) ∙ o, contour_on)
                (rest_cong (p.line + 1) (get_or ms 2 0) (ap (drop 1) l.first) (rw (more, region, code) refl));
          }

    by_contour : (n : Numbers) → contour_at text p ≡ n
        → Stepped text p (after_contour text p n) ls rs cs ns (put_contour 2 p n ls) (put_contour 0 p n rs) (put_contour 1 p n cs) ns
    unfolding after_contour put_contour
    by_contour malformed e = stop_at_contour e
    by_contour (numbers ms) e = (elim (is_over p (get_or ms 2 0)) as (λ (t : Bool). is_over p (get_or ms 2 0) ≡ t
        → Stepped text p (cond t (Err (TooMany p.line)) (Ok (past_contour text p ms))) ls rs cs ns
        (cond t ls (set ls p.contours (get_or ms 2 0))) (cond t rs (set rs p.contours (get_or ms 0 0))) (cond t cs (set cs p.contours (get_or ms 1 0))) ns) [
          | true ↦ λ o. stop_too_many e o
          | false ↦ λ o. past_contour_lem e o
        ]) refl

  -- ---- a vertex line
  module _ (due : 0 < p.due) where
    stop_at_vertex : vertex_line_at text p ≡ malformed → Stepped text p (Err (Malformed p.line)) ls rs cs ns ls rs cs ns
    unfolding refused_as number_of line_of
    stop_at_vertex e = stop (Malformed p.line) (λ s. at_vertex due (so_far s p ls rs cs ns) ∙ need_bad p.line _ e)

    past_vertex_lem : {ms : List ℕ} → vertex_line_at text p ≡ numbers ms
        → Stepped text p (Ok (past_vertex text p)) ls rs cs ns ls rs cs (splice ns (p.vertices * job_stride) ms)
    unfolding vertex_line_at rest_of with_vertex so_far with_lists Moved rest_as
    past_vertex_lem {ms} e =
        let t = ready.standing in
        let mosts : List ℕ = number_most ∷ number_most ∷ number_most ∷ number_most ∷ [] in
        let l = lines.taken text p.at v_name 0 mosts e in
        let four = (limited v_name 0 mosts l.line ms l.says).long in
        let more = take_splice_end ns (p.vertices * job_stride) ((p.vertices + 1) * job_stride) ms (omega arith) (omega (arith, t.within.room, t.numbers)) in
        record {
          moved = record {
            standing = record {
              within = record {
                inside = l.within;
                short = t.within.short;
                small = omega (arith, t.within.small, l.further);
                few = t.within.few;
                room = omega (arith, t.within.room);
              };
              lengths = t.lengths;
              regions = t.regions;
              codes = t.codes;
              numbers = length_splice ns (p.vertices * job_stride) ms ∙ t.numbers;
              declared = omega (arith, t.declared);
            };
            further = l.further;
          };
          same = λ s.
              at_vertex due (so_far s p ls rs cs ns)
              ∙ need_good p.line _ e
              ∙ rest_cong (p.line + 1) (p.due - 1) (ap (drop 1) l.first) (rw more refl);
        }

    by_vertex : (n : Numbers) → vertex_line_at text p ≡ n → Stepped text p (after_vertex text p n) ls rs cs ns ls rs cs (put_vertex p n ns)
    unfolding after_vertex put_vertex
    by_vertex malformed e = stop_at_vertex e
    by_vertex (numbers ms) e = past_vertex_lem e

  -- ---- what the readers of these lines ask for, and what they leave
  pub contour_ready : ContourReady text p ls rs cs
  contour_ready = let t = ready.standing in record { within = t.within; lengths = t.lengths; regions = t.regions; codes = t.codes }

  pub vertex_ready : 0 < p.due → VertexReady text p ns
  vertex_ready due = record { within = ready.standing.within; due = due; numbers = ready.standing.numbers }

  pub contour_stepped : {q : Result Progress SheetRefusal} {ls' rs' cs' : List ℕ} → p.due ≡ 0 → ContourRead text p q ls rs cs ls' rs' cs' → Stepped text p q ls rs cs ns ls' rs' cs' ns
  contour_stepped {q} {ls'} {rs'} {cs'} due r =
      subst (λ (x : Result Progress SheetRefusal). Stepped text p x ls rs cs ns ls' rs' cs' ns) (sym r.next)
      (subst (λ (x : List ℕ). Stepped text p (after_contour text p (contour_at text p)) ls rs cs ns x rs' cs' ns) (sym r.lengths)
      (subst (λ (x : List ℕ). Stepped text p (after_contour text p (contour_at text p)) ls rs cs ns (put_contour 2 p (contour_at text p) ls) x cs' ns) (sym r.regions)
      (subst (λ (x : List ℕ). Stepped text p (after_contour text p (contour_at text p)) ls rs cs ns (put_contour 2 p (contour_at text p) ls) (put_contour 0 p (contour_at text p) rs) x ns)
      (sym r.codes) (by_contour due (contour_at text p) refl))))

  pub vertex_stepped : {q : Result Progress SheetRefusal} {ns' : List ℕ} → 0 < p.due → VertexRead text p q ns ns' → Stepped text p q ls rs cs ns ls rs cs ns'
  vertex_stepped {q} {ns'} due r =
      subst (λ (x : Result Progress SheetRefusal). Stepped text p x ls rs cs ns ls rs cs ns') (sym r.next)
      (subst (λ (x : List ℕ). Stepped text p (after_vertex text p (vertex_line_at text p)) ls rs cs ns ls rs cs x) (sym r.numbers)
      (by_vertex due (vertex_line_at text p) refl))

-- ---- all lines

-- the loop: what the whole comes to is what is left from p on
pub record Going (text : List ℕ) (from : ℕ) (p : Progress) (ls rs cs ns : List ℕ) : Type 0 where
  pub standing : Standing text p ls rs cs ns
  pub same : (s : Sheet) → read_body (heading_lines + 1) 0 (lines_of (drop from text)) (with_lists s [] [] [] []) ≡ rest_of text p (so_far s p ls rs cs ns)

pub going_begin : {text : List ℕ} {from : ℕ} {ls rs cs ns : List ℕ} → BodyReady text from ls rs cs ns
    → Going text from (record { line = 5; at = from; due = 0; contours = 0; vertices = 0 }) ls rs cs ns
unfolding rest_of so_far sum_over over run
going_begin b = record {
  standing = record {
    within = record { inside = b.inside; short = b.short; small = omega arith; few = omega arith; room = omega arith };
    lengths = b.lengths;
    regions = b.regions;
    codes = b.codes;
    numbers = b.numbers;
    declared = refl;
  };
  same = λ s. refl;
}

-- no lines are left: all is read, or a vertex is missing
all_read : (k : ℕ) {d : ℕ} (s : Sheet) → d ≡ 0 → read_body k d [] s ≡ taken s
unfolding read_body
all_read k s e = rw e refl

vertex_missing : (k d : ℕ) (s : Sheet) → 0 < d → read_body k d [] s ≡ bad 22 k
unfolding read_body
vertex_missing k zero s h = absurd (omega arith)
vertex_missing k (suc d) s h = refl

module _ {text : List ℕ} {from : ℕ} {p : Progress} {ls rs cs ns : List ℕ} (g : Going text from p ls rs cs ns) where
  pub going_ready : p.at < length text → LineReady text p ls rs cs ns
  going_ready h = record { standing = g.standing; more = h }

  -- a line was read
  module _ {r : Result Progress SheetRefusal} {ls' rs' cs' ns' : List ℕ} (t : Stepped text p r ls rs cs ns ls' rs' cs' ns') where
    pub going_further : {q : Progress} → r ≡ Ok q → Further text p q ls' rs' cs' ns'
    unfolding Moved
    going_further e = subst (λ (x : Result Progress SheetRefusal). Moved text p x ls' rs' cs' ns') e t.moved

    pub going_next : {q : Progress} → r ≡ Ok q → Going text from q ls' rs' cs' ns'
    unfolding rest_as
    going_next e = record {
      standing = (going_further e).standing;
      same = λ s. g.same s ∙ t.same s ∙ ap (λ (x : Result Progress SheetRefusal). rest_as text x ls' rs' cs' ns' s) e;
    }

    pub going_refused : {z : SheetRefusal} → r ≡ Err z → BodyRead text from (Err z) ls' rs' cs' ns'
    unfolding rest_as end_as Moved CountedAs
    going_refused e = record {
      counted = subst (λ (x : Result Progress SheetRefusal). Moved text p x ls' rs' cs' ns') e t.moved;
      same = λ s. g.same s ∙ t.same s ∙ ap (λ (x : Result Progress SheetRefusal). rest_as text x ls' rs' cs' ns' s) e;
    }

  -- there are no more lines
  module _ (h : length text ≤ p.at) where
    no_lines : (s : Sheet) → rest_of text p s ≡ read_body p.line p.due [] s
    unfolding rest_of
    no_lines s = ap (λ (l : List Line). read_body p.line p.due l s) (line_missing text p.at h)

    pub going_due : 0 < p.due → BodyRead text from (Err (Malformed p.line)) ls rs cs ns
    unfolding end_as CountedAs refused_as number_of line_of
    going_due d =
        let t = g.standing in
        record {
          counted = record { lengths = t.lengths; regions = t.regions; codes = t.codes; numbers = t.numbers };
          same = λ s. g.same s ∙ no_lines (so_far s p ls rs cs ns) ∙ vertex_missing p.line p.due (so_far s p ls rs cs ns) d;
        }

    pub going_end : p.due ≤ 0 → BodyRead text from (Ok p) ls rs cs ns
    unfolding end_as CountedAs
    going_end d =
        let t = g.standing in
        record {
          counted = record { room = record { lengths = t.lengths; regions = t.regions; codes = t.codes; numbers = t.numbers }; contours = t.within.few; vertices = omega (arith, t.within.room); declared = omega (arith, t.declared) };
          same = λ s. g.same s ∙ no_lines (so_far s p ls rs cs ns) ∙ all_read p.line (so_far s p ls rs cs ns) (omega arith);
        }
