-- What is printed for a reply: the refusal's two numbers, or the top and the mesh. Assumes nothing.
use Rattle.std.specs.Prelude.{Ok, Err}
use mathlib.Core.Path.{◌≡◌, refl, sym, ap, subst}
use mathlib.Core.List.{List, [], ◌∷◌, ◌++◌, append-nil}
use Prim.Native.Nat.{ℕ, ◌≤◌}
use native.Mathlib.Nat.{le_trans, mul-le-mul_right, mul-le-mul_left}
use native.Mathlib.Omega.{arith}
use lib.ListN.{length, get_or}
use Rattle.rules.specs.Checks.{Lent, lengths_of}
use Rattle.rules.specs.Replies.{Reply, as_built, refusal_number, refusal_second}
use Rattle.rules.specs.Exits.{decoded}
use Rattle.rules.specs.Sheet.{refused_text, mesh_text}
use Rattle.rules.specs.declared.Header.{Header}
use Rattle.rules.specs.declared.Answer.{Answer}
use Rattle.rules.specs.declared.Refusal.{Refusal}
use Rattle.lines.specs.Print.{Room}
use Rattle.lines.specs.Pieces.{joined, Going, going_begin}
use Rattle.stored.specs.Stored.{lent_of}
use Rattle.sheet.specs.declared.heading.Heading.{Heading}
use Rattle.sheet.specs.Rows.{top_text}
use Rattle.sheet.specs.Printable.{MeshStands}
use Rattle.sheet.specs.Reading.{sheet_of, with_lists}
use Rattle.sheet.specs.Enough.{sheet_lengths}
use Rattle.sheet.specs.Room.{out_most}
use Rattle.sheet.specs.Answers.{Called, text_room, refused_text_lem, built_text_lem}
use Rattle.sheet.specs.Answering.{reply_text, StandsFor, ReplyReady, job_text}

module _ (x : Heading) (reply : Reply) (vs ps ls rs cs : List ℕ) where
  pub refused_is : (r : Refusal) (a b : ℕ) → reply ≡ Err r → a ≡ refusal_number r → b ≡ refusal_second r → refused_text a b ≡ reply_text x reply vs ps ls rs cs
  unfolding reply_text
  refused_is r a b e p q = rw (e, p, q) refl

  built_is : (n k : ℕ) → reply ≡ Ok (as_built n k)
      → reply_text x reply vs ps ls rs cs ≡ joined (top_text x.inches x.size x.height ∷ (mesh_text (decoded x.nvp n k (lent_of vs ps ls rs cs)) ∷ []))
  unfolding reply_text joined
  built_is n k e =
      rw e (ap (λ (l : List ℕ). top_text x.inches x.size x.height ++ l) (sym (append-nil (mesh_text (decoded x.nvp n k (lent_of vs ps ls rs cs))))))

  module _ {out : List ℕ} (ready : ReplyReady x reply vs ps ls rs cs out) where
    pub refused_room_is : (r : Refusal) (a b : ℕ) → reply ≡ Err r → a ≡ refusal_number r → b ≡ refusal_second r → Room out (refused_text a b) 0
    refused_room_is r a b e p q = rw (refused_is r a b e p q) ready.room

    pub built_going : (n k : ℕ) → reply ≡ Ok (as_built n k)
        → Going (reply_text x reply vs ps ls rs cs) out 0 (top_text x.inches x.size x.height ∷ (mesh_text (decoded x.nvp n k (lent_of vs ps ls rs cs)) ∷ [])) out 0
    built_going n k e = going_begin _ out 0 (built_is n k e) ready.room

    pub built_stands : (n k : ℕ) → reply ≡ Ok (as_built n k) → MeshStands x.nvp n k vs ps ls rs cs
    unfolding StandsFor
    built_stands n k e = subst (λ (y : Reply). StandsFor x y vs ps ls rs cs) e ready.stands

-- ---- the call of the build

pub seven : {a b c d e f g a' b' c' d' e' f' g' : ℕ} → a ≡ a' → b ≡ b' → c ≡ c' → d ≡ d' → e ≡ e' → f ≡ f' → g ≡ g'
    → a ∷ b ∷ c ∷ d ∷ e ∷ f ∷ g ∷ [] ≡ a' ∷ b' ∷ c' ∷ d' ∷ e' ∷ f' ∷ g' ∷ []
seven p q r s t u v = rw (p, q, r, s, t, u, v) refl

module _ (x : Heading) (ls rs cs ns : List ℕ) {h : Header} {b : Lent} {q : Answer} {u : Lent} (c : Called (with_lists (sheet_of x) ls rs cs ns) h b q u) where
  text_is : (r : Reply) → q.reply ≡ r → job_text x ls rs cs ns ≡ reply_text x r u.vertices u.polygons u.neighbours u.regions u.codes
  unfolding job_text reply_text with_lists sheet_of
  text_is (Err r) e = refused_text_lem c r e
  text_is (Ok b) e = (built_text_lem c b.polygons b.vertices e).text

  pub reply_text_lem : job_text x ls rs cs ns ≡ reply_text x q.reply u.vertices u.polygons u.neighbours u.regions u.codes
  reply_text_lem = text_is q.reply refl

  pub job_room : length (job_text x ls rs cs ns) ≤ out_most
  unfolding job_text
  job_room = text_room c

  -- the buffers have their lengths still
  module _ (long : lengths_of u ≡ sheet_lengths) where
    long_at : (k : ℕ) → get_or (lengths_of u) k 0 ≡ get_or sheet_lengths k 0
    long_at k = ap (λ (l : List ℕ). get_or l k 0) long

    stands_for : (r : Reply) → q.reply ≡ r → StandsFor x r u.vertices u.polygons u.neighbours u.regions u.codes
    unfolding StandsFor with_lists sheet_of lengths_of
    stands_for (Err r) e = tt
    stands_for (Ok b) e =
        let t = built_text_lem c b.polygons b.vertices e in
        record {
          ready = t.ready (long_at 1) (long_at 0);
          links = rw (long_at 2) (le_trans (mul-le-mul_right x.nvp t.polygons) (mul-le-mul_left 96 t.most));
          regions = rw (long_at 3) t.polygons;
          codes = rw (long_at 4) t.polygons;
        }

    pub reply_ready : (out : List ℕ) → out_most ≤ length out → ReplyReady x q.reply u.vertices u.polygons u.neighbours u.regions u.codes out
    unfolding job_text
    reply_ready out m = record { stands = stands_for q.reply refl; room = rw (← reply_text_lem) (omega (arith, text_room c, m)) }
