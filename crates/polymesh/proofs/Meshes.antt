-- The checks and the build together: what each reply comes to, on any numbers. Assumes nothing.
-- Key: `refused_all`: a check refuses, and nothing is written; `build_ready`: a job that passes can be built; `built_all`: what the buffers hold then.
use Rattle.std.specs.Prelude.{Option, Some, None}
use Rattle.std.specs.Prelude.{Err}
use mathlib.Core.Path.{◌≡◌, refl, sym, ap, ap₂, ◌∙◌}
use mathlib.Core.Bool.{Bool, true, false, cond}
use mathlib.Core.List.{List, ◌++◌}
use Prim.Native.Nat.{ℕ, ◌+◌, ◌*◌, ◌≤◌}
use native.Mathlib.Nat.{zero-add}
use native.Mathlib.Omega.{arith}
use lib.ListN.{length, drop, replicate, length-replicate}
use Rattle.mem.specs.Slice.{splice, splice_whole, splice_eq}
use Rattle.rules.specs.Job.{Job, count_v, count_t}
use Rattle.rules.specs.Checks.{Lent, lengths_of, Checked, passed, refusal, or_next, refuse_if, refuse_at, check_nvp, check_counts, first_high, first_bad_flag, check_v, first_short, least_lengths, work_words, check}
use Rattle.rules.specs.Replies.{writes_nothing}
use Rattle.rules.specs.Build.{Outcome, refused, built, add_all, after_check, outcome, reply_of, answer}
use Rattle.rules.specs.Exits.{wiped, only_wiped, filled, exit_of, exits}
use Rattle.rules.specs.Widths.{Widths}
use Rattle.rules.specs.Checker.{OwnAccepted}
use Rattle.rules.specs.declared.Header.{Header}
use Rattle.rules.specs.declared.Answer.{Answer}
use Rattle.rules.specs.declared.Refusal.{Refusal}
use Rattle.rules.specs.declared.Refusal.TheVariants.{BadCornerLimit, CountsDisagree, HighCoordinate, BadFlag, TooManyVertices, ShortBuffer}
use Rattle.rules.specs.Replies.{Reply}
use Rattle.laws.specs.Checks.{Passed}
use Rattle.laws.proofs.Checks.{checked, agreed}
use Rattle.laws.proofs.Widths.{written_fits}
use Rattle.laws.proofs.Own.{each_accepted}
use Rattle.polymesh.specs.Layout.{words_of}
use Rattle.polymesh.specs.Gather.{Admitted, comes_to}
use Rattle.polymesh.specs.Build.{Room, BuildReady, lending, BuiltTo}
use Rattle.polymesh.proofs.Builds.{quiet}

-- ---- what the function that users call ends with

-- the answer and the buffers at exit are the rules'; so a mesh is one that the checker accepts
abbrev pub Ended : Header → Job → Lent → Answer → Lent → Type 0
Ended h j b a u = (a ≡ answer h j b) × ((u ≡ exits j b) × OwnAccepted j a.reply u)

ended : (h : Header) (j : Job) (b : Lent) {a : Answer} {u : Lent} → a ≡ answer h j b → u ≡ exits j b → Ended h j b a u
unfolding answer
ended h j b {a} p q =
    let x : a.reply ≡ reply_of (outcome j b) = ap (λ (y : Answer). y.reply) p in
    (p, (q, rw (x, q) (each_accepted j b)))

-- ---- a check that refuses writes nothing

abbrev Quiet : Checked → Type 0
Quiet c = (r : Refusal) → c ≡ refusal r → writes_nothing r ≡ true

same_refusal : (x y : Refusal) → refusal x ≡ refusal y → x ≡ y
same_refusal x y e = cc

not_passed : (r : Refusal) → passed ≡ refusal r → ⊥
not_passed r e = let z : ◌≡◌ {A = ℕ} 0 1 = cc in omega arith

not_quiet : Quiet passed
not_quiet r e = absurd (not_passed r e)

quiet_or : (a c : Checked) → Quiet a → Quiet c → Quiet (or_next a c)
unfolding or_next
quiet_or passed c p q = q
quiet_or (refusal x) c p q = p

quiet_one : (x : Refusal) → writes_nothing x ≡ true → Quiet (refusal x)
quiet_one x h r e = ap writes_nothing (sym (same_refusal x r e)) ∙ h

quiet_if : (b : Bool) (x : Refusal) → writes_nothing x ≡ true → Quiet (refuse_if b x)
unfolding refuse_if
quiet_if true x h = quiet_one x h
quiet_if false x h = not_quiet

quiet_at : (f : ℕ → Refusal) → ((k : ℕ) → writes_nothing (f k) ≡ true) → (x : Option ℕ) → Quiet (refuse_at f x)
unfolding refuse_at
quiet_at f h (Some k) = quiet_one (f k) (h k)
quiet_at f h None = not_quiet

quiet_check : (j : Job) (ls : List ℕ) → Quiet (check j ls)
unfolding check check_nvp check_counts check_v writes_nothing
quiet_check j ls =
    quiet_or _ _ (quiet_if _ (BadCornerLimit j.nvp) refl)
    (quiet_or _ _ (quiet_if _ CountsDisagree refl)
    (quiet_or _ _ (quiet_at HighCoordinate (λ k. refl) (first_high j))
    (quiet_or _ _ (quiet_at BadFlag (λ k. refl) (first_bad_flag j))
    (quiet_or _ _ (quiet_if _ (TooManyVertices (count_v j)) refl) (quiet_at ShortBuffer (λ k. refl) (first_short ls (least_lengths j)))))))

refused_answer : (h : Header) (j : Job) (b : Lent) {r : Refusal} → check j (lengths_of b) ≡ refusal r
    → ◌≡◌ {A = Answer} (record { reply = Err r; header = h }) (answer h j b)
unfolding answer outcome after_check reply_of
refused_answer h j b e = rw e

refused_exit : (j : Job) (b : Lent) {r : Refusal} → check j (lengths_of b) ≡ refusal r → b ≡ exits j b
unfolding outcome after_check exits exit_of
refused_exit j b {r} e =
    sym (ap (λ (c : Checked). exit_of j b (after_check j c)) e ∙ ap (λ (q : Bool). cond q b (only_wiped j b)) (quiet_check j (lengths_of b) r e))

pub refused_all : (h : Header) (j : Job) (b : Lent) {r : Refusal} → check j (lengths_of b) ≡ refusal r
    → Ended h j b (record { reply = Err r; header = h }) b
refused_all h j b e = ended h j b (refused_answer h j b e) (refused_exit j b e)

-- ---- a job that passes

-- the first n words were lent, and came back as ys
pub prefix_back : (w ys : List ℕ) (n : ℕ) → length ys ≡ n → n ≤ length w → ys ++ drop n w ≡ splice w 0 ys
prefix_back w ys n e h = sym (splice_eq w 0 ys (omega arith) ∙ ap (λ (k : ℕ). ys ++ drop k w) (zero-add (length ys) ∙ e))

pub admitted : (j : Job) (ls : List ℕ) {v t : ℕ} → check j ls ≡ passed → v ≡ count_v j → t ≡ count_t j → Admitted v t j
admitted j ls p a c = record { ls = ls; passed = checked j ls p; vertices = a; triangles = c }

pub few_contours : (j : Job) (ls : List ℕ) → check j ls ≡ passed → length j.lengths ≤ 65535
few_contours j ls p = (agreed j (checked j ls p).agree).contours

pub few_vertices : (j : Job) (ls : List ℕ) → check j ls ≡ passed → {v : ℕ} → v ≡ count_v j → v ≤ 65535
few_vertices j ls p a = omega (arith, (checked j ls p).few, a)

pub work_fits : (j : Job) (b : Lent) → check j (lengths_of b) ≡ passed → {v n : ℕ} → v ≡ count_v j → n ≡ words_of v → n ≤ length b.work
unfolding least_lengths lengths_of work_words
work_fits j b p a e = omega (arith, (checked j (lengths_of b) p).room 6 (omega arith), a, e)

module _ (j : Job) (b : Lent) (p : check j (lengths_of b) ≡ passed) {v t : ℕ} (a : v ≡ count_v j) (c : t ≡ count_t j) (part : List ℕ) (l : length part ≡ words_of v) where
  known : Passed j (lengths_of b)
  known = checked j (lengths_of b) p

  came_to : outcome j b ≡ comes_to j
  unfolding outcome after_check
  came_to = rw p

  room : Room v t j.nvp (lending b part)
  unfolding least_lengths lengths_of
  room = record {
    vertices = omega (arith, known.room 0 (omega arith), a);
    polygons = rw c (known.room 1 (omega arith));
    neighbours = rw c (known.room 2 (omega arith));
    regions = rw c (known.room 3 (omega arith));
    codes = rw c (known.room 4 (omega arith));
    flags = rw c (known.room 5 (omega arith));
  }

  pub build_ready : Widths j → BuildReady (words_of v) v t j (lending b part)
  build_ready w = record {
    size = l;
    job = admitted j (lengths_of b) p a c;
    room = room;
    fits = λ m ks log e. written_fits j b m ks log w (came_to ∙ e);
  }

  -- what a build leaves in the part of the work buffer, and in all of it
  work_wiped : (o : Outcome) → ((x : Refusal) → o ≡ refused x → writes_nothing x ≡ false)
      → ((exit_of j (lending b part) o).work ≡ wiped j part) × (exit_of j b o ≡ lending (exit_of j (lending b part) o) (wiped j b.work))
  unfolding exit_of only_wiped filled
  work_wiped (refused x) q = rw (q x refl) (refl, refl)
  work_wiped (built m ks log) q = (refl, refl)

  all_zero : {x : List ℕ} → x ≡ splice b.work 0 (wiped j part) → x ≡ wiped j b.work
  unfolding wiped work_words
  all_zero e =
      let k : length part ≡ 4096 + 128 * count_v j = l ∙ ap words_of a in
      e ∙ ap (splice b.work 0) (splice_whole part (replicate (4096 + 128 * count_v j) 0) (length-replicate _ _ ∙ sym k))

  pub built_all : (h : Header) {u : Lent} {r : Reply} → BuiltTo j (lending b part) u r → {x : List ℕ} → x ≡ splice b.work 0 u.work
      → Ended h j b (record { reply = r; header = h }) (lending u x)
  unfolding answer exits
  built_all h {u} {r} g {x} e =
      let o = work_wiped (comes_to j) (quiet j (add_all j)) in
      let z : x ≡ wiped j b.work = all_zero (e ∙ ap (λ (y : Lent). splice b.work 0 y.work) g.exit ∙ ap (splice b.work 0) o.0) in
      ended h j b
      (ap (λ (y : Reply). record { reply = y; header = h }) (g.answer ∙ sym (ap reply_of came_to)))
      (ap₂ lending g.exit z ∙ sym o.1 ∙ sym (ap (exit_of j b) came_to))
