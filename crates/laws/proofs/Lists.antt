-- Lists: what holds of all elements; maps; sums; and what `set`, `swap_remove` and `without` do, as permutations, by length and by count. Assumes nothing.
use Rattle.std.specs.Prelude.{◌≡◌, take, set, ℤ}
use Rattle.std.proofs.Math.Path.{refl, sym, ap, ap₂}
use Rattle.std.proofs.Common.{◌∙◌, subst, ⊎_elim, add-one, length-drop, length-set, take-suc, take_all, take_at}
use mathlib.Core.List.Permᴰ
use mathlib.Core.List.{List, [], ◌∷◌, ◌++◌, map, append-nil, append_assoc, Permᴰ}
use Prim.Native.Nat.{ℕ, zero, suc, ◌+◌, ◌-◌, ◌≤◌, ◌<◌}
use native.Mathlib.Omega.{arith}
use Rattle.std.proofs.Math.ListN.{length, drop, get_or, length-append, length-take, get_or-append}
use Rattle.std.proofs.Math.Seq.{split_at, get_or-take, get_or-drop, get_or-append-add, length-take-le}
use Rattle.std.proofs.lemmas.List.{set-append_left, set_at, get_or_at}
use Rattle.std.proofs.Math.IntN.{◌+ℤ◌, +ℤ_idl, +ℤ_assoc}
use Rattle.ints.specs.Ring.{at, ◌⊕◌, is_eq}
use Rattle.mem.specs.Cases.{lt_or_le}
use Rattle.mem.specs.Tab.{tab}
use Rattle.mem.specs.Packed.{Every, every_at, every_set, every_take}
use Rattle.rules.specs.Lists.{down, swap_remove, without, count}
use Rattle.rules.specs.Areas.{sum_of}
use Rattle.laws.specs.Lists.{All, none, more, total, gather}

-- ---- what holds of all elements
module _ {A : Type 0} {P : A → Type 0} where
  pub all_head : {a : A} {l : List A} → All P (a ∷ l) → P a
  all_head (more p h) = p

  pub all_tail : {a : A} {l : List A} → All P (a ∷ l) → All P l
  all_tail (more p h) = h

  pub all_append : {l m : List A} → All P l → All P m → All P (l ++ m)
  all_append none k = k
  all_append (more p h) k = more p (all_append h k)

  pub all_left : (l m : List A) → All P (l ++ m) → All P l
  all_left [] m h = none
  all_left (a ∷ l) m h = more (all_head h) (all_left l m (all_tail h))

  pub all_right : (l m : List A) → All P (l ++ m) → All P m
  all_right [] m h = h
  all_right (a ∷ l) m h = all_right l m (all_tail h)

  pub all_at : {l : List A} → All P l → (i : ℕ) (d : A) → i < length l → P (get_or l i d)
  all_at none i d h = absurd (omega arith)
  all_at (more p a) zero d h = p
  all_at (more p a) (suc i) d h = all_at a i d (omega arith)

  pub all_of_lem : (l : List A) (d : A) → ((i : ℕ) → i < length l → P (get_or l i d)) → All P l
  all_of_lem [] d f = none
  all_of_lem (a ∷ l) d f = more (f 0 (omega arith)) (all_of_lem l d (λ i h. f (suc i) (omega arith)))

  pub all_perm : {l m : List A} → Permᴰ l m → All P l → All P m
  all_perm Permᴰ.nil h = h
  all_perm (Permᴰ.cons e p) h = more (subst P e (all_head h)) (all_perm p (all_tail h))
  all_perm (Permᴰ.swap e f) h = more (subst P f (all_head (all_tail h))) (more (subst P e (all_head h)) (all_tail (all_tail h)))
  all_perm (Permᴰ.trans p q) h = all_perm q (all_perm p h)

  pub all_take : (n : ℕ) {l : List A} → All P l → All P (take n l)
  all_take zero h = none
  all_take (suc n) none = none
  all_take (suc n) (more p h) = more p (all_take n h)

module _ {A : Type 0} {P : A → Type 0} where
  pub all_drop : (n : ℕ) {l : List A} → All P l → All P (drop n l)
  all_drop zero h = h
  all_drop (suc n) none = none
  all_drop (suc n) (more p h) = all_drop n h

pub all_imp : {A : Type 0} {P Q : A → Type 0} {l : List A} → ((a : A) → P a → Q a) → All P l → All Q l
all_imp f none = none
all_imp f (more {a} p h) = more (f a p) (all_imp f h)

pub all_both : {A : Type 0} {P Q R : A → Type 0} {l : List A} → ((a : A) → P a → Q a → R a) → All P l → All Q l → All R l
all_both f none k = none
all_both f (more {a} p h) k = more (f a p (all_head k)) (all_both f h (all_tail k))

pub all_map : {A B : Type 0} {P : A → Type 0} {Q : B → Type 0} (f : A → B) {l : List A} → ((a : A) → P a → Q (f a)) → All P l → All Q (map f l)
all_map f g none = none
all_map f g (more {a} p h) = more (g a p) (all_map f g h)

-- with what stands past the end
pub every_of_all : {A : Type 0} (P : A → Type 0) (d : A) {l : List A} → P d → All P l → Every P d l
unfolding Every
every_of_all P d p none i = p
every_of_all P d p (more h a) zero = h
every_of_all P d p (more h a) (suc i) = every_of_all P d p a i

-- of the list whose element at i goes, and whose last takes its place
pub every_swap : {A : Type 0} (P : A → Type 0) (d : A) (l : List A) (i : ℕ) → Every P d l → Every P d (swap_remove d l i)
unfolding swap_remove
every_swap P d l i h = every_take P d _ (length l - 1) (every_set P d l i _ h (every_at P d l h (length l - 1)))

-- ---- a turn of `down`
pub down_turn : {A : Type 0} (z : A) (op : A → A → A) (f : ℕ → A) (n : ℕ) → 0 < n → down z op f n ≡ op (f (n - 1)) (down z op f (n - 1))
unfolding down
down_turn z op f zero h = absurd (omega arith)
down_turn z op f (suc n) h = let e : suc n - 1 ≡ n = omega arith in rw e refl

-- ---- maps
module _ {A B : Type 0} where
  pub map_append : (f : A → B) (l m : List A) → map f (l ++ m) ≡ map f l ++ map f m
  map_append f [] m = refl
  map_append f (a ∷ l) m = ap (λ (r : List B). f a ∷ r) (map_append f l m)

  pub map_same : {P : A → Type 0} (f g : A → B) {l : List A} → ((a : A) → P a → f a ≡ g a) → All P l → map f l ≡ map g l
  map_same f g e none = refl
  map_same f g e (more {a} p h) = ap₂ ◌∷◌ (e a p) (map_same f g e h)

  pub map_take : (f : A → B) (n : ℕ) (l : List A) → map f (take n l) ≡ take n (map f l)
  map_take f zero l = refl
  map_take f (suc n) [] = refl
  map_take f (suc n) (a ∷ l) = ap (λ (r : List B). f a ∷ r) (map_take f n l)

  pub map_drop : (f : A → B) (n : ℕ) (l : List A) → map f (drop n l) ≡ drop n (map f l)
  map_drop f zero l = refl
  map_drop f (suc n) [] = refl
  map_drop f (suc n) (a ∷ l) = map_drop f n l

  pub map_tab : (g : A → B) (f : ℕ → A) (n : ℕ) → map g (tab f n) ≡ tab (λ k. g (f k)) n
  unfolding tab
  map_tab g f zero = refl
  map_tab g f (suc n) = map_append g (tab f n) (f n ∷ []) ∙ ap (λ (l : List B). l ++ (g (f n) ∷ [])) (map_tab g f n)

  pub get_or_map_in : (f : A → B) (l : List A) (i : ℕ) (d : A) (e : B) → i < length l → get_or (map f l) i e ≡ f (get_or l i d)
  get_or_map_in f [] i d e h = absurd (omega arith)
  get_or_map_in f (a ∷ l) zero d e h = refl
  get_or_map_in f (a ∷ l) (suc i) d e h = get_or_map_in f l i d e (omega arith)

-- what stands past the end does not matter within the list
pub get_d_any : {A : Type 0} (l : List A) (i : ℕ) (d e : A) → i < length l → get_or l i d ≡ get_or l i e
get_d_any [] i d e h = absurd (omega arith)
get_d_any (a ∷ l) zero d e h = refl
get_d_any (a ∷ l) (suc i) d e h = get_d_any l i d e (omega arith)

-- ---- sums: `sum_of f l` of integers is the rules'; `total f l` of naturals
module _ {A : Type 0} where
  pub sum_append : (f : A → ℤ) (l m : List A) → sum_of f (l ++ m) ≡ sum_of f l +ℤ sum_of f m
  unfolding sum_of
  sum_append f [] m = sym (+ℤ_idl (sum_of f m))
  sum_append f (a ∷ l) m = rw (sum_append f l m) (sym (+ℤ_assoc (f a) (sum_of f l) (sum_of f m)))

  pub total_append : (f : A → ℕ) (l m : List A) → total f (l ++ m) ≡ total f l + total f m
  unfolding total
  total_append f [] m = omega arith
  total_append f (a ∷ l) m = omega (arith, total_append f l m)

  pub sum_perm : (f : A → ℤ) {l m : List A} → Permᴰ l m → sum_of f l ≡ sum_of f m
  unfolding sum_of
  sum_perm f Permᴰ.nil = refl
  sum_perm f (Permᴰ.cons e p) = ap₂ (λ (a : A) (z : ℤ). f a +ℤ z) e (sum_perm f p)
  sum_perm f (Permᴰ.swap {a} {b} {l} e g) = rw (← e, ← g) (is_eq (at (f a) ⊕ (at (f b) ⊕ at (sum_of f l))) (at (f b) ⊕ (at (f a) ⊕ at (sum_of f l))) (omega arith))
  sum_perm f (Permᴰ.trans p q) = sum_perm f p ∙ sum_perm f q

  pub total_perm : (f : A → ℕ) {l m : List A} → Permᴰ l m → total f l ≡ total f m
  unfolding total
  total_perm f Permᴰ.nil = refl
  total_perm f (Permᴰ.cons e p) = ap₂ (λ (a : A) (z : ℕ). f a + z) e (total_perm f p)
  total_perm f (Permᴰ.swap {a} {b} {l} e g) = rw (← e, ← g) (omega arith)
  total_perm f (Permᴰ.trans p q) = total_perm f p ∙ total_perm f q

  pub sum_same : {P : A → Type 0} (f g : A → ℤ) {l : List A} → ((a : A) → P a → f a ≡ g a) → All P l → sum_of f l ≡ sum_of g l
  unfolding sum_of
  sum_same f g e none = refl
  sum_same f g e (more {a} p h) = ap₂ ◌+ℤ◌ (e a p) (sum_same f g e h)

  pub total_same : {P : A → Type 0} (f g : A → ℕ) {l : List A} → ((a : A) → P a → f a ≡ g a) → All P l → total f l ≡ total g l
  unfolding total
  total_same f g e none = refl
  total_same f g e (more {a} p h) = ap₂ ◌+◌ (e a p) (total_same f g e h)

module _ {A B : Type 0} where
  pub sum_map : (f : B → ℤ) (g : A → B) (l : List A) → sum_of f (map g l) ≡ sum_of (λ a. f (g a)) l
  unfolding sum_of
  sum_map f g [] = refl
  sum_map f g (a ∷ l) = ap (λ (z : ℤ). f (g a) +ℤ z) (sum_map f g l)

  pub total_map : (f : B → ℕ) (g : A → B) (l : List A) → total f (map g l) ≡ total (λ a. f (g a)) l
  unfolding total
  total_map f g [] = refl
  total_map f g (a ∷ l) = ap (λ (z : ℕ). f (g a) + z) (total_map f g l)

  pub gather_snoc : (f : A → List B) (l : List A) (a : A) → gather f (l ++ (a ∷ [])) ≡ gather f l ++ f a
  unfolding gather
  gather_snoc f [] a = append-nil (f a)
  gather_snoc f (b ∷ l) a = rw (gather_snoc f l a) (sym (append_assoc (f b) (gather f l) (f a)))

  pub sum_gather : (g : B → ℤ) (f : A → List B) (l : List A) → sum_of g (gather f l) ≡ sum_of (λ a. sum_of g (f a)) l
  unfolding sum_of gather
  sum_gather g f [] = refl
  sum_gather g f (a ∷ l) = sum_append g (f a) (gather f l) ∙ ap (λ (z : ℤ). sum_of g (f a) +ℤ z) (sum_gather g f l)

  pub length_gather : (f : A → List B) (l : List A) → length (gather f l) ≡ total (λ a. length (f a)) l
  unfolding total gather
  length_gather f [] = refl
  length_gather f (a ∷ l) = omega (arith, length-append (f a) (gather f l), length_gather f l)

  pub all_gather : {P : A → Type 0} {Q : B → Type 0} (f : A → List B) {l : List A} → ((a : A) → P a → All Q (f a)) → All P l → All Q (gather f l)
  unfolding gather
  all_gather f g none = none
  all_gather f g (more {a} p h) = all_append (g a p) (all_gather f g h)

-- ---- one element in the place of another, and the last in the place of one that goes
module _ {A : Type 0} where
  pub set_perm : (l : List A) (i : ℕ) (a d : A) → i < length l → Permᴰ (a ∷ l) (get_or l i d ∷ set l i a)
  set_perm [] i a d h = absurd (omega arith)
  set_perm (x ∷ l) zero a d h = Permᴰ.swap refl refl
  set_perm (x ∷ l) (suc i) a d h = Permᴰ.trans (Permᴰ.swap refl refl) (Permᴰ.trans (Permᴰ.cons refl (set_perm l i a d (omega arith))) (Permᴰ.swap refl refl))

  perm_of : {l m : List A} → l ≡ m → Permᴰ l m
  perm_of {l} {m} e = subst (λ (k : List A). Permᴰ l k) e (Permᴰ.refl l)

  snoc_perm : (m : List A) (x : A) → Permᴰ (m ++ (x ∷ [])) (x ∷ m)
  snoc_perm m x = Permᴰ.trans (Permᴰ.middle x m []) (Permᴰ.cons refl (perm_of (append-nil m)))

  swap_snoc : (m : List A) (x : A) (i : ℕ) (d : A) → i ≤ length m → Permᴰ (m ++ (x ∷ [])) (get_or (m ++ (x ∷ [])) i d ∷ take (length m) (set (m ++ (x ∷ [])) i x))
  swap_snoc m x i d h = ⊎_elim
      (λ (k : i < length m). rw (get_or-append m (x ∷ []) d i k, set-append_left m (x ∷ []) i x k, take_at (set m i x) (x ∷ []) (length m) (length-set m i x))
      (Permᴰ.trans (snoc_perm m x) (set_perm m i x d k)))
      (λ (k : length m ≤ i). let e : length m ≡ i = omega arith in
      rw (get_or_at m x [] d i e, set_at m x [] x i e, take_at m (x ∷ []) (length m) refl) (snoc_perm m x))
      (lt_or_le i (length m))

  -- all but the last, and the last
  pub last_split : (l : List A) (d : A) → 1 ≤ length l → l ≡ take (length l - 1) l ++ (get_or l (length l - 1) d ∷ [])
  last_split l d h = let e : suc (length l - 1) ≡ length l = omega arith in
      sym (take_all (length l) l (omega arith)) ∙ ap (λ (n : ℕ). take n l) (sym e) ∙ take-suc l (length l - 1) d (omega arith)

  pub swap_perm : (d : A) (l : List A) (i : ℕ) → i < length l → Permᴰ l (get_or l i d ∷ swap_remove d l i)
  unfolding swap_remove
  swap_perm d l i h = go (take (length l - 1) l) (get_or l (length l - 1) d) (last_split l d (omega arith)) (len (length l) h)
    where
      len : (n : ℕ) → i < n → length (take (length l - 1) l) ≡ length l - 1
      len n h = rw length-take (omega arith)

      go : (m : List A) (x : A) → l ≡ m ++ (x ∷ []) → length m ≡ length l - 1 → Permᴰ l (get_or l i d ∷ take (length l - 1) (set l i x))
      go m x e k = rw (← k, e) (swap_snoc m x i d (omega arith))

  pub swap_length : (d : A) (l : List A) (i : ℕ) → length (swap_remove d l i) ≡ length l - 1
  unfolding swap_remove
  swap_length d l i = simp (length-take, length-set) (omega arith)

  -- the elements before i stay, and what follows it moves down
  pub without_below : (l : List A) (i j : ℕ) (d : A) → i < length l → j < i → get_or (without l i) j d ≡ get_or l j d
  unfolding without
  without_below l i j d h a =
      get_or-append (take i l) (drop (i + 1) l) d j (omega (arith, length-take-le i l (omega arith))) ∙ get_or-take i l j d a

  pub without_above : (l : List A) (i j : ℕ) (d : A) → i < length l → i ≤ j → get_or (without l i) j d ≡ get_or l (j + 1) d
  unfolding without
  without_above l i j d h a =
      let n : length (take i l) ≡ i = length-take-le i l (omega arith) in
      let e : j ≡ length (take i l) + (j - i) = omega arith in
      ap (λ (k : ℕ). get_or (take i l ++ drop (i + 1) l) k d) e
      ∙ get_or-append-add (take i l) (drop (i + 1) l) (j - i) d ∙ get_or-drop (i + 1) l (j - i) d
      ∙ ap (λ (k : ℕ). get_or l k d) (omega arith)

  pub without_cons : (x : A) (l : List A) (i : ℕ) → without (x ∷ l) (suc i) ≡ x ∷ without l i
  unfolding without
  without_cons x l i = let e : suc i + 1 ≡ suc (i + 1) = omega arith in rw e refl

  pub without_seam : (p : List A) (x : A) (q : List A) (n : ℕ) → length p ≡ n → without (p ++ (x ∷ q)) n ≡ p ++ q
  unfolding without
  without_seam [] x q n e = rw (← e) refl
  without_seam (a ∷ p) x q zero e = absurd (omega arith)
  without_seam (a ∷ p) x q (suc n) e = without_cons a (p ++ (x ∷ q)) n ∙ ap (λ (r : List A). a ∷ r) (without_seam p x q n (omega arith))

  pub length_without : (l : List A) (i : ℕ) → i < length l → length (without l i) ≡ length l - 1
  unfolding without
  length_without l i h = simp (length-append, length-take, length-drop) (omega arith)

pub all_without : {A : Type 0} {P : A → Type 0} (l : List A) (i : ℕ) → All P l → All P (without l i)
unfolding without
all_without l i h = all_append (all_take i h) (all_drop (i + 1) h)

pub map_without : {A B : Type 0} (f : A → B) (l : List A) (i : ℕ) → map f (without l i) ≡ without (map f l) i
unfolding without
map_without f l i = map_append f (take i l) (drop (i + 1) l) ∙ ap₂ ◌++◌ (map_take f i l) (map_drop f (i + 1) l)

-- ---- how often a number stands in a list
pub count_append : (k : ℕ) (l m : List ℕ) → count k (l ++ m) ≡ count k l + count k m
unfolding count
count_append k [] m = omega arith
count_append k (x ∷ l) m = omega (arith, count_append k l m)

pub count_without : (k : ℕ) (l : List ℕ) (i d : ℕ) → i < length l → count k (without l i) + count k (get_or l i d ∷ []) ≡ count k l
unfolding count without
count_without k l i d h =
    let whole = ap (count k) (split_at l i d h) ∙ count_append k (take i l) (get_or l i d ∷ drop (suc i) l) in
    let rest = count_append k (take i l) (drop (suc i) l) in
    rw (add-one i) (omega arith)
