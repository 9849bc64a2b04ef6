-- What is written for a job, by the build's reply: a refusal's line, or the file of the mesh that stands in the buffers, which is sound and has room.
-- Assumes nothing.
-- Key: `refused_is`, `built_is`, `built_stands`: what stands for a reply; `reply_file_lem`, `reply_ready`: a job's reply; `file_room`: there is room for it.
use Rattle.std.specs.Prelude.{Ok, Err}
use mathlib.Core.Path.{◌≡◌, refl, sym, ap, subst, ◌∙◌}
use mathlib.Core.List.{List}
use Prim.Native.Nat.{ℕ, ◌-◌, ◌*◌, ◌≤◌}
use native.Mathlib.Nat.{le_trans, mul-le-mul_right, mul-le-mul_left}
use native.Mathlib.Omega.{arith}
use lib.ListN.{length}
use Rattle.rules.specs.Mesh.{polygon_at}
use Rattle.rules.specs.Checks.{Lent}
use Rattle.rules.specs.Replies.{Reply, as_built, refusal_number, refusal_second}
use Rattle.rules.specs.Build.{outcome}
use Rattle.rules.specs.Exits.{exits}
use Rattle.rules.specs.Handed.{Handed}
use Rattle.rules.specs.Checker.{handed_on}
use Rattle.rules.specs.Sheet.{Sheet, outcome_of, refused_text}
use Rattle.rules.specs.Stl.{facet_count}
use Rattle.rules.specs.StlCall.{mesh_file, stl_reply}
use Rattle.rules.specs.StlText.{scale_of, carved_text}
use Rattle.rules.specs.declared.Header.{Header}
use Rattle.rules.specs.declared.Answer.{Answer}
use Rattle.rules.specs.declared.Refusal.{Refusal}
use Rattle.laws.proofs.Build.{bounded}
use Rattle.laws.proofs.Carved.{built_is_carved}
use Rattle.laws.proofs.Reached.{built_passed}
use Rattle.laws.specs.Replies.{WasBuilt}
use Rattle.laws.proofs.Replies.{was_refused, was_built}
use Rattle.laws.proofs.Stl.{sum_most}
use Rattle.sheet.specs.declared.heading.Heading.{Heading}
use Rattle.sheet.specs.Reading.{sheet_of, with_lists}
use Rattle.sheet.specs.Room.{out_most, refused_room, few_corners}
use Rattle.sheet.specs.Answers.{Called, came_to, replied, built_text_lem}
use Rattle.stlsheet.specs.Carving.{written_text, carved_in, CarveReady, reply_file, StandsFor, ReplyReady, job_file}
use Rattle.stlsheet.proofs.Written.{text_short, sound_written}

refused_short : (a b : ℕ) → length (refused_text a b) ≤ out_most
refused_short a b = omega (arith, refused_room a b)

same_handed : (nvp : ℕ) {u v : Lent} {n k o l : ℕ} → u ≡ v → n ≡ o → k ≡ l → handed_on nvp u n k ≡ handed_on nvp v o l
same_handed nvp p q r = rw (p, q, r) refl

-- ---- a reply, with the buffers that hold the mesh

module _ (x : Heading) (reply : Reply) (vs ps ls : List ℕ) where
  pub refused_is : (r : Refusal) (a b : ℕ) → reply ≡ Err r → a ≡ refusal_number r → b ≡ refusal_second r → refused_text a b ≡ reply_file x reply vs ps ls
  unfolding reply_file
  refused_is r a b e p q = rw (e, p, q) refl

  pub built_is : (n k room : ℕ) → reply ≡ Ok (as_built n k) → room ≡ out_most → carved_in x n k vs ps ls room ≡ reply_file x reply vs ps ls
  unfolding reply_file
  built_is n k room e r = rw (e, r) refl

  pub built_stands : {out : List ℕ} (n k : ℕ) → reply ≡ Ok (as_built n k) → ReplyReady x reply vs ps ls out → CarveReady x n k vs ps ls out
  unfolding StandsFor
  built_stands {out} n k e ready = subst (λ (y : Reply). StandsFor x y vs ps ls out) e ready.stands

-- ---- a call of the build

module _ {s : Sheet} {h : Header} {b : Lent} {q : Answer} {u : Lent} (c : Called s h b q u) where
  refused_file : (r : Refusal) → q.reply ≡ Err r → carved_text s (outcome_of s.job) ≡ refused_text (refusal_number r) (refusal_second r)
  unfolding carved_text
  refused_file r e = ap (carved_text s) (came_to c ∙ was_refused (outcome s.job b) r (sym e ∙ replied c))

  module _ (n k : ℕ) (e : q.reply ≡ Ok (as_built n k)) where
    mesh_built : WasBuilt (outcome s.job b) n k
    mesh_built = was_built (outcome s.job b) n k (sym e ∙ replied c)

    -- at most 96 polygons of 12 corners: ten facets each
    few_facets : facet_count mesh_built.mesh.polygons ≤ 960
    unfolding facet_count
    few_facets =
        let a = mesh_built in
        let ps = a.mesh.polygons in
        let d = bounded s.job b a.mesh a.links a.log a.is in
        let p = built_passed s.job a.mesh a.links a.log b a.is in
        omega (
          arith,
          a.polygons,
          (built_text_lem c n k e).polygons,
          sum_most (λ i. length (polygon_at ps i).corners - 2) 10 0 (length ps) (λ i. omega (arith, few_corners ps d.sound.good p.nvp_high i)),
        )

    -- what is handed on from the buffers is what the rules say of them
    handed : let m = mesh_built.mesh in handed_on s.job.nvp (exits s.job b) (length m.polygons) (length m.vertices) ≡ handed_on s.job.nvp u n k
    handed = same_handed s.job.nvp (sym c.left) (sym mesh_built.polygons) (sym mesh_built.vertices)

    built_file : let m = handed_on s.job.nvp u n k in let scale = scale_of s.inches s.size s.height in
        carved_text s (outcome_of s.job) ≡ written_text (mesh_file m scale) (stl_reply m scale out_most)
    unfolding carved_text
    built_file =
        let a = mesh_built in
        let scale = scale_of s.inches s.size s.height in
        let m = handed_on s.job.nvp (exits s.job b) (length a.mesh.polygons) (length a.mesh.vertices) in
        let x = built_is_carved s.job b a.mesh a.links a.log scale a.is in
        ap (carved_text s) (came_to c ∙ a.is)
        ∙ sound_written m scale a.mesh out_most x.0 x.1 x.2 (omega (arith, few_facets))
        ∙ ap (λ (t : Handed). written_text (mesh_file t scale) (stl_reply t scale out_most)) handed

-- ---- .. for a heading and the contours behind it

module _ (x : Heading) (ls rs cs ns : List ℕ) {h : Header} {b : Lent} {q : Answer} {u : Lent} (c : Called (with_lists (sheet_of x) ls rs cs ns) h b q u) where
  file_is : (r : Reply) → q.reply ≡ r → job_file x ls rs cs ns ≡ reply_file x r u.vertices u.polygons u.neighbours
  unfolding job_file reply_file carved_in handed_on with_lists sheet_of
  file_is (Err r) e = refused_file c r e
  file_is (Ok b) e = built_file c b.polygons b.vertices e

  pub reply_file_lem : job_file x ls rs cs ns ≡ reply_file x q.reply u.vertices u.polygons u.neighbours
  reply_file_lem = file_is q.reply refl

  -- the buffers have their lengths still
  module _ (vertices : length u.vertices ≡ 288) (polygons : length u.polygons ≡ 1152) (links : length u.neighbours ≡ 1152) where
    stands_for : (out : List ℕ) → length out ≡ out_most → (r : Reply) → q.reply ≡ r → StandsFor x r u.vertices u.polygons u.neighbours out
    unfolding StandsFor with_lists sheet_of
    stands_for out room (Err r) e = tt
    stands_for out room (Ok b) e =
        let t = built_text_lem c b.polygons b.vertices e in
        let w : b.polygons * x.nvp ≤ 1152 = le_trans (mul-le-mul_right x.nvp t.polygons) (mul-le-mul_left 96 t.most) in
        record { vertices = omega (arith, t.vertices); polygons = rw polygons w; links = rw links w; room = room }

    pub reply_ready : (out : List ℕ) → length out ≡ out_most → ReplyReady x q.reply u.vertices u.polygons u.neighbours out
    reply_ready out room = record { stands = stands_for out room q.reply refl; room = room }

pub file_room : (x : Heading) (r : Reply) (vs ps ls : List ℕ) → length (reply_file x r vs ps ls) ≤ out_most
unfolding reply_file carved_in
file_room x (Err r) vs ps ls = refused_short (refusal_number r) (refusal_second r)
file_room x (Ok b) vs ps ls = text_short _ _ out_most refused_short
