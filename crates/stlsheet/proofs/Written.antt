-- What is answered when a mesh is to be written, and the text for it: the file, whose length goes by the count that is answered, or the refusal's line.
-- Assumes nothing.
-- Key: `file_fits`, `text_short`; `file_printed`, `line_printed`: what stands in the output; `sound_written`: what the
-- rules say of a mesh that was built.
use Rattle.std.specs.Prelude.{Result, Ok, Err}
use mathlib.Core.Path.{◌≡◌, refl, sym, ap, ◌∙◌}
use mathlib.Core.Bool.{Bool, true, false}
use mathlib.Core.List.{List}
use Prim.Native.Nat.{ℕ, ◌+◌, ◌*◌, ◌≤◌}
use native.Mathlib.Omega.{arith}
use borrow.Author.Tests.{leb-true}
use lib.Dec.{leb}
use lib.Ieee.{Float}
use lib.ListN.{length}
use Rattle.mem.specs.Cases.{by_test}
use Rattle.rules.specs.Mesh.{Mesh}
use Rattle.rules.specs.Handed.{Handed, soundness}
use Rattle.rules.specs.Sheet.{refused_text}
use Rattle.rules.specs.Units.{thousandths}
use Rattle.rules.specs.Stl.{Scale, is_scale, facet_count, file_length}
use Rattle.rules.specs.StlCall.{mesh_count, mesh_file, room_reply, stl_reply, stl_left, stl_exit, stl_refusal_number, stl_refusal_second}
use Rattle.rules.specs.StlText.{scale_of, carved}
use Rattle.rules.specs.declared.StlRefusal.{StlRefusal}
use Rattle.rules.specs.declared.StlRefusal.TheVariants.{BadScale, ShortFile}
use Rattle.laws.proofs.StlCall.{sound_reply, fits_written, mesh_file_long, written_sound}
use Rattle.lines.specs.Print.{Printed}
use Rattle.stl.specs.Steps.{scale_in}
use Rattle.stlsheet.specs.Carving.{written_text}

-- ---- the count

-- a count of facets is answered if it is the file's, and it fits
record Counted (count room n : ℕ) : Type 0 where
  same : n ≡ count
  fits : 84 + n * 50 ≤ room

room_counted : (count room n : ℕ) → room_reply count room ≡ Ok n → Counted count room n
unfolding room_reply file_length
room_counted count room n e = by_test (leb (84 + count * 50) room)
    (λ (t : leb (84 + count * 50) room ≡ true).
    let w : ◌≡◌ {A = Result ℕ StlRefusal} (Ok count) (Ok n) = rw t at e in
    let q : n ≡ count = cc in
    record { same = q; fits = rw q (leb-true (84 + count * 50) room t) })
    (λ (t : leb (84 + count * 50) room ≡ false).
    let w : Err ShortFile ≡ Ok n = rw t at e in let z : ◌≡◌ {A = ℕ} 0 1 = cc in absurd (omega arith))

module _ (m : Handed) (s : Scale) (room : ℕ) where
  counted : (n : ℕ) → stl_reply m s room ≡ Ok n → Counted (mesh_count m) room n
  counted n e =
      let r = sym (sound_reply m s room (written_sound m s room n e)) ∙ e in
      by_test (is_scale s)
      (λ (t : is_scale s ≡ true). room_counted (mesh_count m) room n (rw t at r))
      (λ (t : is_scale s ≡ false). let w : Err BadScale ≡ Ok n = rw t at r in let z : ◌≡◌ {A = ℕ} 0 1 = cc in absurd (omega arith))

  -- the file that was written has the length of its count, and there is room for it
  pub record FileFits (n : ℕ) : Type 0 where
    pub long : 84 + n * 50 ≡ length (mesh_file m s)
    pub fits : 84 + n * 50 ≤ room

  pub file_fits : (n : ℕ) → stl_reply m s room ≡ Ok n → FileFits n
  unfolding file_length
  file_fits n e = let c = counted n e in record { long = omega (arith, c.same, mesh_file_long m s); fits = c.fits }

  -- what is written fits
  reply_short : ((a b : ℕ) → length (refused_text a b) ≤ room) → (r : Result ℕ StlRefusal) → stl_reply m s room ≡ r → length (written_text (mesh_file m s) r) ≤ room
  unfolding written_text
  reply_short short (Ok n) e = let f = file_fits n e in omega (arith, f.long, f.fits)
  reply_short short (Err r) e = short (stl_refusal_number r) (stl_refusal_second r)

  pub text_short : ((a b : ℕ) → length (refused_text a b) ≤ room) → length (written_text (mesh_file m s) (stl_reply m s room)) ≤ room
  text_short short = reply_short short (stl_reply m s room) refl

-- ---- what stands in the output

module _ (m : Handed) (s : Scale) (v : List ℕ) {q : Result ℕ StlRefusal} {w : List ℕ} (answer : q ≡ stl_reply m s (length v)) (exit : w ≡ stl_exit m s v) where
  abbrev written : List ℕ
  written = written_text (mesh_file m s) (stl_reply m s (length v))

  left : (r : Result ℕ StlRefusal) → q ≡ r → w ≡ stl_left (mesh_file m s) v r
  unfolding stl_exit
  left r e = exit ∙ ap (stl_left (mesh_file m s) v) (sym answer ∙ e)

  pub file_printed : (n : ℕ) → q ≡ Ok n → Printed written v w 0 (84 + n * 50)
  unfolding written_text stl_left
  file_printed n e =
      let t = sym answer ∙ e in
      record { text = rw t (left (Ok n) e); next = rw t (omega (arith, (file_fits m s (length v) n t).long)) }

  -- the output is as it was, and the refusal's line goes there
  refused_printed : (t : Result ℕ StlRefusal) (a b : ℕ) {z : List ℕ} {r : ℕ} → Printed (refused_text a b) w z 0 r → q ≡ t → stl_left (mesh_file m s) v t ≡ v
      → refused_text a b ≡ written_text (mesh_file m s) t → Printed written v z 0 r
  refused_printed t a b p e same text =
      let f : refused_text a b ≡ written = text ∙ ap (written_text (mesh_file m s)) (sym e ∙ answer) in
      let g : w ≡ v = left t e ∙ same in
      record { text = rw (← f, ← g) p.text; next = rw (← f) p.next }

  pub line_printed : (t : StlRefusal) (a b : ℕ) {z : List ℕ} {r : ℕ} → Printed (refused_text a b) w z 0 r → q ≡ Err t → a ≡ stl_refusal_number t
      → b ≡ stl_refusal_second t → Printed written v z 0 r
  unfolding written_text stl_left
  line_printed t a b p e c d = refused_printed (Err t) a b p e refl (rw (c, d) refl)

-- ---- a sound mesh whose file has room

pub sound_written : (h : Handed) (s : Scale) (m : Mesh) (room : ℕ) → soundness h ≡ (Ok tt) → mesh_count h ≡ facet_count m.polygons → mesh_file h s ≡ carved s m
    → 84 + facet_count m.polygons * 50 ≤ room
    → elim (is_scale s) [ true ↦ carved s m | false ↦ refused_text 70 0 ] ≡ written_text (mesh_file h s) (stl_reply h s room)
unfolding file_length written_text stl_refusal_number stl_refusal_second
sound_written h s m room sound count file fits =
    rw (sound_reply h s room sound, count, file, fits_written (facet_count m.polygons) room fits)
    (by_test (is_scale s)
    (λ (t : is_scale s ≡ true). rw t refl)
    (λ (t : is_scale s ≡ false). rw t refl))

-- the scale of a sheet's cells, as it is handed on
pub scale_is : (inches : Bool) (size height : ℕ) {a b : Float} → a ≡ thousandths size → b ≡ thousandths height
    → scale_in inches a b ≡ scale_of inches size height
unfolding scale_of
scale_is inches size height p q = rw (p, q) refl
