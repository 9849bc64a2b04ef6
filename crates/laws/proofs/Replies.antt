-- What a reply says of what the build came to. Assumes nothing.
-- Key: `was_refused`, `was_built`; `built_polygons`, `built_vertices`.
use Rattle.std.specs.Prelude.{◌≡◌, refl, ℕ, Ok, Err}
use Rattle.std.proofs.Common.{ap}
use Rattle.rules.specs.Replies.{Reply, as_built}
use Rattle.rules.specs.Build.{Outcome, refused, built, reply_of}
use Rattle.rules.specs.declared.Refusal.{Refusal}
use Rattle.rules.specs.declared.Built.{Built}
use Rattle.laws.specs.Replies.{WasBuilt}

-- counts that are the same
module _ {n k p v : ℕ} (e : ◌≡◌ {A = Reply} (Ok (as_built n k)) (Ok (as_built p v))) where
  same_counts : as_built n k ≡ as_built p v
  same_counts = cc

  pub built_polygons : n ≡ p
  built_polygons = ap (λ (b : Built). b.polygons) same_counts

  pub built_vertices : k ≡ v
  built_vertices = ap (λ (b : Built). b.vertices) same_counts

pub was_refused : (o : Outcome) (r : Refusal) → Err r ≡ reply_of o → o ≡ refused r
unfolding reply_of
was_refused (refused q) r e = let z : q ≡ r = cc in ap refused z
was_refused (built m ls log) r e = cc

pub was_built : (o : Outcome) (n k : ℕ) → Ok (as_built n k) ≡ reply_of o → WasBuilt o n k
unfolding reply_of
was_built (refused r) n k e = cc
was_built (built m ls log) n k e = record { mesh = m; links = ls; log = log; is = refl; polygons = built_polygons e; vertices = built_vertices e }
