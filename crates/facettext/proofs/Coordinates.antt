-- The text of a coordinate: its sign and its number if it is shown, and its bits if not. Assumes nothing.
use mathlib.Core.Path.{◌≡◌, refl}
use mathlib.Core.Bool.{true, false}
use mathlib.Core.List.{[], ◌∷◌, ◌++◌}
use Prim.Native.Nat.{ℕ}
use Rattle.rules.specs.Lines.{ascii}
use Rattle.rules.specs.StlText.{ten_thousandths, decimals, bits_text, is_negative, is_shown, sign_text, coordinate_text}

pub minus_text : (p : ℕ) → is_negative p ≡ true → sign_text p ≡ 45 ∷ []
unfolding sign_text ascii
minus_text p e = rw (e, sign_text) refl

pub no_sign : (p : ℕ) → is_negative p ≡ false → sign_text p ≡ []
unfolding sign_text
no_sign p e = rw (e, sign_text) refl

pub shown_text : (p : ℕ) → is_shown p ≡ true → coordinate_text p ≡ sign_text p ++ decimals (ten_thousandths p)
unfolding coordinate_text
shown_text p e = rw (e, coordinate_text) refl

pub hidden_text : (p : ℕ) → is_shown p ≡ false → coordinate_text p ≡ bits_text p
unfolding coordinate_text
hidden_text p e = rw (e, coordinate_text) refl
