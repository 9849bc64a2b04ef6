-- Vertices, corners and links are copied by one loop: it writes the words of the things of a list one after the other, from the beginning on, as many for
-- each. Assumes nothing.
-- Key: `copied` is a turn of that loop, `copied_all` its end.
use mathlib.Core.Path.{◌≡◌, refl, sym, ap, ◌∙◌}
use mathlib.Core.List.{List, [], ◌∷◌}
use Prim.Native.Nat.{ℕ, ◌+◌, ◌*◌, ◌≤◌, ◌<◌}
use native.Mathlib.Nat.{zero-add}
use lib.ListN.{length, get_or, set}
use Rattle.mem.specs.Slice.{view, splice, set_each, stored_each}
use Rattle.mem.specs.Loops.{block_fits}
use Rattle.mem.specs.Packed.{Every, every_of, packed, Laid, laid_more, laid_all}
use Rattle.rules.specs.Weld.{no_vertex}
use Rattle.rules.specs.Mesh.{Polygon, no_polygon, polygon_at}
use Rattle.rules.specs.Checks.{vertex_stride}
use Rattle.rules.specs.Exits.{vertex_words, padded, corner_words}
use Rattle.rules.specs.declared.Vertex.{Vertex}
use Rattle.records.specs.Layout.{vertex_size, vertices_at, polygons_at, link_size}
use Rattle.records.specs.declared.polygon.Poly.{Poly}
use Rattle.records.specs.Values.{polygon_of, Loaded}
use Rattle.records.specs.Vertices.{length_vertices, vertex_is}
use Rattle.records.specs.Polygons.{length_padded, loaded_of, length_polygons}
use Rattle.links.specs.Ready.{links_at}
use Rattle.outputs.specs.Ready.{UpTo, CornersReady, LinksReady}
use Rattle.outputs.proofs.Words.{every_short, many_links, links_short, links_row}

-- n things are copied, and k are written
module _ {B : Type 0} {enc : B → List ℕ} {v w : List ℕ} {l : List B} {n k : ℕ} (many : length l ≡ n) (r : Laid enc v 0 l w k) where
  copied : (size : ℕ) (Fit : B → Type 0) (d : B) {u : List ℕ} → ((b : B) → Fit b → length (enc b) ≡ size) → Every Fit d l → k < n
      → u ≡ splice w (k * size) (enc (get_or l k d)) → Laid enc v 0 l u (k + 1)
  copied size Fit d sized all h e = laid_more enc v 0 l r size Fit d sized all (rw many h) (rw (zero-add (k * size)) e)

  -- the next has its place
  copied_fits : (size : ℕ) → n * size ≤ length v → k < n → k * size + size ≤ length w
  copied_fits size f h = rw r.long (block_fits k n size (length v) h f)

  copied_all : n ≤ k → w ≡ splice v 0 (packed enc l)
  copied_all h = laid_all enc v 0 l r (rw many h)

-- ---- vertices

abbrev pub VerticesCopied : List ℕ → ℕ → ℕ → List ℕ → List ℕ → ℕ → Type 0
VerticesCopied w vo nv out u k = Laid vertex_words out 0 (vertices_at w vo nv) u k

three : (v : Vertex) → length (vertex_words v) ≡ vertex_stride
unfolding vertex_words
three v = refl

put_three : (u : List ℕ) (to : ℕ) (v : Vertex) → set (set (set u to v.x) (to + 1) v.y) (to + 2) v.z ≡ splice u to (vertex_words v)
unfolding vertex_words set_each
put_three u to v = stored_each u to v.x (v.y ∷ v.z ∷ [])

module _ (w : List ℕ) (vo nv : ℕ) {out u : List ℕ} {k : ℕ} (s : VerticesCopied w vo nv out u k) where
  pub vertex_copied : k < nv
      → VerticesCopied w vo nv out
      (set (set (set u (k * vertex_stride) (get_or w (vo + k * vertex_size) 0)) (k * vertex_stride + 1) (get_or w (vo + k * vertex_size + 1) 0)) (k * vertex_stride + 2) (get_or w (vo + k * vertex_size + 2) 0))
      (k + 1)
  vertex_copied h =
      copied (length_vertices w vo nv) s vertex_stride (λ v. Unit) no_vertex (λ v i. three v) (every_of _ no_vertex (vertices_at w vo nv) (λ i. tt)) h
      (put_three u (k * vertex_stride) (record { x = get_or w (vo + k * vertex_size) 0; y = get_or w (vo + k * vertex_size + 1) 0; z = get_or w (vo + k * vertex_size + 2) 0 })
      ∙ ap (λ (v : Vertex). splice u (k * vertex_stride) (vertex_words v)) (sym (vertex_is w vo nv k h)))

  pub vertices_copied : nv ≤ k → u ≡ splice out 0 (packed vertex_words (vertices_at w vo nv))
  vertices_copied h = copied_all (length_vertices w vo nv) s h

-- ---- corners

abbrev pub CornersCopied : List ℕ → ℕ → ℕ → ℕ → List ℕ → List ℕ → ℕ → Type 0
CornersCopied w o np nvp out u i = Laid (corner_words nvp) out 0 (polygons_at w o np) u i

module _ {w : List ℕ} {o np nvp : ℕ} {out : List ℕ} (r : CornersReady w o np nvp out) {u : List ℕ} {i : ℕ} (s : CornersCopied w o np nvp out u i) where
  pub corners_fit : i < np → i * nvp + nvp ≤ length u
  corners_fit h = copied_fits (length_polygons w o np) s nvp r.room h

  pub corner_copied : {p : Poly} {t : List ℕ} → i < np → Loaded (polygon_at (polygons_at w o np) i) p
      → t ≡ splice u (i * nvp) (corner_words nvp (polygon_of p)) → CornersCopied w o np nvp out t (i + 1)
  unfolding corner_words
  corner_copied h l e =
      copied (length_polygons w o np) s nvp (UpTo nvp) no_polygon (λ q k. length_padded nvp q.corners k) (every_short r.short) h
      (e ∙ ap (λ (q : Polygon). splice u (i * nvp) (corner_words nvp q)) (loaded_of l))

  pub corners_copied : np ≤ i → u ≡ splice out 0 (packed (corner_words nvp) (polygons_at w o np))
  corners_copied h = copied_all (length_polygons w o np) s h

-- ---- links

abbrev pub LinksCopied : List ℕ → ℕ → ℕ → ℕ → ℕ → List ℕ → List ℕ → ℕ → Type 0
LinksCopied w o np lo nvp out u i = Laid (padded nvp) out 0 (links_at w lo (polygons_at w o np)) u i

module _ {w : List ℕ} {o np lo nvp : ℕ} {out : List ℕ} (r : LinksReady w o np lo nvp out) {u : List ℕ} {i : ℕ} (s : LinksCopied w o np lo nvp out u i) where
  pub links_fit : i < np → i * nvp + nvp ≤ length u
  links_fit h = copied_fits (many_links r) s nvp r.room h

  pub link_copied : {t : List ℕ} → i < np → t ≡ splice u (i * nvp) (view w (lo + i * link_size) nvp) → LinksCopied w o np lo nvp out t (i + 1)
  link_copied h e =
      copied (many_links r) s nvp (λ l. length l ≤ nvp) [] (λ l k. length_padded nvp l k) (links_short r) h
      (e ∙ ap (splice u (i * nvp)) (links_row r i h))

  pub links_copied : np ≤ i → u ≡ splice out 0 (packed (padded nvp) (links_at w lo (polygons_at w o np)))
  links_copied h = copied_all (many_links r) s h
