-- Words with zeros behind them, so many in all: what becomes of them as others are written over their end. Assumes nothing.
-- Key: `zeros_put`: other words, and zeros behind them, in the place of the last ones; `zeros_in`: other words over the first of the last ones;
-- `zeros_behind`: zeros over zeros; `swallowed`: words over all that was written before.
use Rattle.std.specs.Prelude.{◌≡◌, refl, take, get_or, set}
use Rattle.std.proofs.Math.Path.{sym}
use Rattle.std.proofs.Common.{ap, ◌∙◌, arith, ⊎_elim, length-drop, drop_of_length-le, take_at}
use mathlib.Core.List.{List, [], ◌∷◌, ◌++◌, append_assoc, append-nil}
use Prim.Native.Nat.{ℕ, zero, suc, ◌+◌, ◌-◌, ◌≤◌, ◌<◌}
use Rattle.std.proofs.Math.Nat.{sub-zero, zero-sub}
use Rattle.std.proofs.Math.ListN.{length, drop, replicate, length-append, replicate-append-replicate}
use Rattle.std.proofs.lemmas.List.{length-replicate, set_at}
use Rattle.std.proofs.Math.Seq.{drop-append-le, drop-append-add, append_snoc}
use Rattle.mem.specs.Cases.{lt_or_le}
use Rattle.mem.specs.Slice.{view, splice, length_view, length_splice, splice_eq, splice_view, splice_inside, splice_over}

unfoldable pub with_zeros : ℕ → List ℕ → List ℕ
with_zeros n xs = xs ++ replicate (n - length xs) 0

pub drop_replicate : {A : Type 0} (k m : ℕ) (a : A) → drop k (replicate m a) ≡ replicate (m - k) a
drop_replicate zero m a = rw (sub-zero m) refl
drop_replicate (suc k) zero a = rw (zero-sub (suc k)) refl
drop_replicate (suc k) (suc m) a = let e : suc m - suc k ≡ m - k = omega arith in rw e (drop_replicate k m a)

pub take_replicate : {A : Type 0} (k m : ℕ) (a : A) → k ≤ m → take k (replicate m a) ≡ replicate k a
take_replicate zero m a h = refl
take_replicate (suc k) zero a h = absurd (omega arith)
take_replicate {A} (suc k) (suc m) a h = ap (λ (l : List A). a ∷ l) (take_replicate k m a (omega arith))

pub length_zeros : (n : ℕ) (xs : List ℕ) → length xs ≤ n → length (with_zeros n xs) ≡ n
unfolding with_zeros
length_zeros n xs h = simp (length-append, length-replicate) (omega arith)

-- the words themselves
pub zeros_first : (n : ℕ) (xs : List ℕ) → view (with_zeros n xs) 0 (length xs) ≡ xs
unfolding with_zeros
zeros_first n xs = take_at xs (replicate (n - length xs) 0) (length xs) refl

pub no_words : (n : ℕ) → with_zeros n [] ≡ replicate n 0
unfolding with_zeros
no_words n = rw (sub-zero n) refl

-- behind the words there are zeros
zeros_rest : (n j : ℕ) (xs : List ℕ) → length xs ≤ j → drop j (with_zeros n xs) ≡ replicate (n - j) 0
unfolding with_zeros
zeros_rest n j xs h =
    let e : j ≡ length xs + (j - length xs) = omega arith in
    let f : n - length xs - (j - length xs) ≡ n - j = omega arith in
    ap (λ (k : ℕ). drop k (xs ++ replicate (n - length xs) 0)) e
    ∙ drop-append-add xs (replicate (n - length xs) 0) (j - length xs)
    ∙ drop_replicate {A = ℕ} (j - length xs) (n - length xs) 0 ∙ rw f

module _ (n : ℕ) (xs ys : List ℕ) where
  front : take (length xs) (with_zeros n (xs ++ ys)) ≡ xs
  unfolding with_zeros
  front = rw append_assoc (take_at xs (ys ++ replicate (n - length (xs ++ ys)) 0) (length xs) refl)

  -- zs, k zeros and as many more as there is room for
  joined : (zs : List ℕ) (k j : ℕ) → length xs + (length zs + k) ≤ n → j ≡ length xs + (length zs + k)
      → xs ++ ((zs ++ replicate k 0) ++ replicate (n - j) 0) ≡ with_zeros n (xs ++ zs)
  unfolding with_zeros
  joined zs k j h q =
      let e : k + (n - j) ≡ n - length (xs ++ zs) = rw length-append (omega arith) in
      rw (append_assoc zs (replicate k 0) (replicate (n - j) 0), replicate-append-replicate {A = ℕ} k (n - j) 0, e) (sym (append_assoc xs zs _))

  -- zs with zeros behind them, in the place of ys
  pub zeros_put : (zs : List ℕ) (k : ℕ) → length ys ≤ length zs + k → length xs + (length zs + k) ≤ n
      → splice (with_zeros n (xs ++ ys)) (length xs) (zs ++ replicate k 0) ≡ with_zeros n (xs ++ zs)
  zeros_put zs k h f =
      let a : length (zs ++ replicate k 0) ≡ length zs + k = simp (length-append, length-replicate) in
      let b : length (xs ++ ys) ≡ length xs + length ys = length-append xs ys in
      let c = length_zeros n (xs ++ ys) (omega arith) in
      splice_eq (with_zeros n (xs ++ ys)) (length xs) (zs ++ replicate k 0) (omega arith)
      ∙ rw (front, zeros_rest n (length xs + length (zs ++ replicate k 0)) (xs ++ ys) (omega arith))
      (joined zs k (length xs + length (zs ++ replicate k 0)) f (omega arith))

  -- zs over the beginning of ys
  over_some : (zs : List ℕ) → length zs ≤ length ys → length (xs ++ ys) ≤ n
      → splice (with_zeros n (xs ++ ys)) (length xs) zs ≡ with_zeros n (xs ++ (zs ++ drop (length zs) ys))
  unfolding with_zeros
  over_some zs h f =
      let z : List ℕ = replicate (n - length (xs ++ ys)) 0 in
      let a = length-append xs ys in
      let c : length ((xs ++ ys) ++ z) ≡ n = length_zeros n (xs ++ ys) f in
      let r : length (xs ++ (zs ++ drop (length zs) ys)) ≡ length (xs ++ ys) = simp (length-append, length-drop) (omega arith) in
      splice_eq ((xs ++ ys) ++ z) (length xs) zs (omega arith)
      ∙ rw (front, drop-append-le (length xs + length zs) (xs ++ ys) z (omega arith), drop-append-add xs ys (length zs), r)
      (ap (λ (l : List ℕ). xs ++ l) (sym (append_assoc zs (drop (length zs) ys) z)) ∙ sym (append_assoc xs (zs ++ drop (length zs) ys) z))

  -- or over all of them and some zeros
  pub zeros_in : (zs : List ℕ) → length xs + length zs ≤ n → length (xs ++ ys) ≤ n
      → splice (with_zeros n (xs ++ ys)) (length xs) zs ≡ with_zeros n (xs ++ (zs ++ drop (length zs) ys))
  zeros_in zs f g = ⊎_elim
      (λ (h : length zs < length ys). over_some zs (omega arith) g)
      (λ (h : length ys ≤ length zs).
      rw (drop_of_length-le ys {i = length zs} h, append-nil zs)
      (ap (splice (with_zeros n (xs ++ ys)) (length xs)) (sym (append-nil zs)) ∙ zeros_put zs 0 (omega arith) (omega arith)))
      (lt_or_le (length zs) (length ys))

-- zeros over zeros
pub zeros_behind : (n : ℕ) (xs : List ℕ) (j k : ℕ) → length xs ≤ j → j + k ≤ n → splice (with_zeros n xs) j (replicate k 0) ≡ with_zeros n xs
zeros_behind n xs j k h f =
    let w = with_zeros n xs in
    let c = length_zeros n xs (omega arith) in
    let e : view w j k ≡ replicate k 0 = rw (zeros_rest n j xs h) (take_replicate {A = ℕ} k (n - j) 0 (omega arith)) in
    ap (splice w j) (sym e) ∙ splice_view w j k

-- ---- one word

zeros_one : (m j : ℕ) → ◌≡◌ {A = ℕ} (get_or (replicate m 0) j 0) 0
zeros_one zero j = refl
zeros_one (suc m) zero = refl
zeros_one (suc m) (suc j) = zeros_one m j

append_zeros : (xs : List ℕ) (m j : ℕ) → get_or (xs ++ replicate m 0) j 0 ≡ get_or xs j 0
append_zeros [] m j = zeros_one m j
append_zeros (x ∷ xs) m zero = refl
append_zeros (x ∷ xs) m (suc j) = append_zeros xs m j

pub zeros_at : (n : ℕ) (xs : List ℕ) (j : ℕ) → get_or (with_zeros n xs) j 0 ≡ get_or xs j 0
unfolding with_zeros
zeros_at n xs j = append_zeros xs (n - length xs) j

pub zeros_set : (n : ℕ) (xs : List ℕ) (x : ℕ) → length xs < n → set (with_zeros n xs) (length xs) x ≡ with_zeros n (xs ++ (x ∷ []))
unfolding with_zeros
zeros_set n xs x h =
    let k = n - length xs - 1 in
    let e : n - length xs ≡ suc k = omega arith in
    let f : n - length (xs ++ (x ∷ [])) ≡ k = rw length-append (omega arith) in
    rw (e, f) (set_at xs 0 (replicate k 0) x (length xs) refl ∙ sym (append_snoc xs x (replicate k 0)))

-- ---- a write that a later one covers, as zeros do that wipe it

pub swallowed : {A : Type 0} (w : List A) (o i : ℕ) (xs ys : List A) → i + length xs ≤ length ys → o + length ys ≤ length w
    → splice (splice w (o + i) xs) o ys ≡ splice w o ys
swallowed {A} w o i xs ys h f =
    let v = view w o (length ys) in
    let l = length_view w o (length ys) f in
    ap (λ (x : List A). splice (splice x (o + i) xs) o ys) (sym (splice_view w o (length ys)))
    ∙ ap (λ (x : List A). splice x o ys) (splice_inside w o i v xs (omega arith))
    ∙ splice_over w o (splice v i xs) ys (omega (arith, length_splice v i xs))
