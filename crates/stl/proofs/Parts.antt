-- A part of a slice is written: what stands there then is a splice. Assumes nothing.
use mathlib.Core.Path.{◌≡◌, refl, sym, ap, ◌∙◌}
use mathlib.Core.List.{List, ◌++◌, append_assoc}
use Prim.Native.Nat.{ℕ, ◌+◌, ◌-◌, ◌≤◌}
use native.Mathlib.Omega.{arith}
use lib.ListN.{length, take, drop}
use lib.Seq.{take-length}
use borrow.Rule.Slice.PartMut.{put_mid}
use Rattle.std.proofs.lemmas.Slice.{put_mid-paste}
use Rattle.mem.specs.Slice.{splice, splice_eq}

pub part_put : (w : List ℕ) (o k : ℕ) (xs : List ℕ) {ys : List ℕ} → ys ≡ xs → k ≡ length xs → o + k ≤ length w → put_mid o (o + k - o) w ys ≡ splice w o xs
part_put w o k xs {ys} e l h =
    put_mid-paste o (o + k - o) w ys xs (length xs) e (omega (arith, l)) refl
    ∙ ap (λ (zs : List ℕ). (take o w ++ zs) ++ drop (o + length xs) w) (take-length xs)
    ∙ append_assoc (take o w) xs (drop (o + length xs) w)
    ∙ sym (splice_eq w o xs (omega (arith, l)))
